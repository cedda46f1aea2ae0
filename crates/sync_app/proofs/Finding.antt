-- What a sketch finds is the break.
use Rattle.std.proofs.Common.{◌≡◌, ℕ, Bool, true, false, not, [], ◌∷◌, ◌++◌, Option, None, Some, is_some, refl, ◌∙◌, ap}
use Rattle.std.specs.Option.{option_map_or}
use Rattle.std.specs.FinMap as map
use Rattle.sync_data.specs.declared.column.Shape.{Shape}
use Rattle.sync_data.specs.declared.value.Value.{Value}
use Rattle.sync_base.specs.Checks.{break_of, column_check, edit_fits, first_failed, has_shape, is_prior, object_checks, size}
use Rattle.sync_base.specs.Effects.{CellPath, Edit, Effect, Set, Add, Replace, Insert, Remove, Include, Exclude, Bind, Empty, NewTable, NewColumn, Create, Erase, Change}
use Rattle.sync_base.specs.States.{State, Cell, cell_at, column_in, has_target, is_sound_column, shape_rank}
use Rattle.sync_base.specs.declared.answers.Break.{Break}
use Rattle.sync_base.specs.declared.answers.Break.TheVariants as breaks
use Rattle.sync_store.specs.Asking.{change_checks, has_size, takes}
use Rattle.sync_app.specs.Checking.{break_in, cell_checks}
use Rattle.sync_app.specs.Sketches.{IsSketchOf, tables_in}
use Rattle.sync_app.specs.Wants.{is_length, prior_of}
use Rattle.sync_app.specs.declared.sketch.Sketch.{Sketch}

last_alike : (a b h c x y z w : Bool) (i j k l m n o : Break) → (h ≡ true → c ≡ true → z ≡ w)
    → first_failed ((a, i) ∷ (b, j) ∷ (h, k) ∷ (c, l) ∷ (x, m) ∷ (y, n) ∷ (z, o) ∷ []) ≡ first_failed ((a, i) ∷ (b, j) ∷ (h, k) ∷ (c, l) ∷ (x, m) ∷ (y, n) ∷ (w, o) ∷ [])
last_alike false b h c x y z w i j k l m n o e = refl
last_alike true false h c x y z w i j k l m n o e = refl
last_alike true true false c x y z w i j k l m n o e = refl
last_alike true true true false x y z w i j k l m n o e = refl
last_alike true true true true x y z w i j k l m n o e = ap (λ v. first_failed ((x, m) ∷ (y, n) ∷ (v, o) ∷ [])) (e refl refl)

prior_is : (e : Edit) (x : Option Cell) → is_some x ≡ true → is_length (prior_of e) (option_map_or size x 0) ≡ option_map_or (is_prior e) x false
prior_is e None h = cc
prior_is (Set v) (Some x) h = refl
prior_is (Add n) (Some x) h = refl
prior_is (Replace s v) (Some x) h = refl
prior_is (Insert s v) (Some x) h = refl
prior_is (Remove s) (Some x) h = refl
prior_is (Include v) (Some x) h = refl
prior_is (Exclude v) (Some x) h = refl
prior_is (Bind k v) (Some x) h = refl
prior_is Empty (Some x) h = refl

pub finds : (k : Sketch) (s : State) (n : ℕ) (d : Effect) → IsSketchOf k s n → break_in k d ≡ break_of s d
finds k s n (NewTable t key) so = ap (λ ts. first_failed ((not (is_some (map.get ts t)), breaks.TableExists) ∷ [])) so.tables
finds k s n (NewColumn t c def) so =
    ap (λ ts. first_failed ((is_some (map.get ts t), breaks.NoTable) ∷ (not (is_some (column_in ts t c)), breaks.ColumnExists) ∷ (is_sound_column def, breaks.BadColumn) ∷ (has_target ts def.kind, breaks.NoTable) ∷ [])) so.tables
finds k s n (Create o) so = ap (λ ts. first_failed (object_checks ts o)) so.tables
finds k s n (Erase o) so = λ i. first_failed (object_checks (so.tables i) o ++ (so.standing o i, breaks.NoObject) ∷ [])
finds k s n (Change p e) so =
    (λ i. first_failed (
    object_checks (so.tables i) p.0 ++ (so.standing p.0 i, breaks.NoObject) ∷ (is_some (column_in (so.tables i) p.0.0 p.1), breaks.NoColumn)
    ∷ (column_check (λ c. has_shape e (shape_rank c.shape)) (column_in (so.tables i) p.0.0 p.1), breaks.WrongShape)
    ∷ (column_check (λ c. edit_fits (so.tables i) c e) (column_in (so.tables i) p.0.0 p.1), breaks.WrongKind) ∷ (is_length (prior_of e) (so.sizes p i), breaks.BadPrior) ∷ []))
    ∙ last_alike _ _ _ _ _ _ _ _ breaks.NoTable breaks.WrongKeyKind breaks.NoObject breaks.NoColumn breaks.WrongShape breaks.WrongKind breaks.BadPrior (λ h c. prior_is e (cell_at s p.0 p.1) (so.state.filled p.0 p.1 h ∙ c))

-- the same without a length
is_true : (x : Option Cell) → is_some x ≡ true → true ≡ option_map_or (λ (y : Cell). true) x false
is_true None h = cc
is_true (Some x) h = refl

pub asked : (k : Sketch) (s : State) (n : ℕ) → IsSketchOf k s n → (p : CellPath) (shape : Shape → Bool) (v : Option Value)
    → first_failed (cell_checks k p shape (takes (tables_in k) v) true) ≡ first_failed (change_checks s p shape (takes s.tables v) (has_size None))
asked k s n so p shape v =
    (λ i. first_failed (
    object_checks (so.tables i) p.0 ++ (so.standing p.0 i, breaks.NoObject) ∷ (is_some (column_in (so.tables i) p.0.0 p.1), breaks.NoColumn)
    ∷ (column_check (λ c. shape c.shape) (column_in (so.tables i) p.0.0 p.1), breaks.WrongShape)
    ∷ (column_check (takes (so.tables i) v) (column_in (so.tables i) p.0.0 p.1), breaks.WrongKind) ∷ (true, breaks.BadPrior) ∷ []))
    ∙ last_alike _ _ _ _ _ _ _ _ breaks.NoTable breaks.WrongKeyKind breaks.NoObject breaks.NoColumn breaks.WrongShape breaks.WrongKind breaks.BadPrior (λ h c. is_true (cell_at s p.0 p.1) (so.state.filled p.0 p.1 h ∙ c))
