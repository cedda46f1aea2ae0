-- An instruction reads its footprint alone.
use Rattle.std.specs.Prelude.{◌≡◌, ℕ, Bool, true, false, cond, not, ◌&&◌, ◌||◌, List, [], ◌∷◌, is_some, Option, None, Some, refl}
use Rattle.std.specs.Option.{option_map, option_and_then, option_map_or}
use Rattle.std.specs.Ordering.{eq_by_cmp}
use Rattle.std.specs.FinMap as map
use Rattle.std.proofs.Common.{sym, ◌∙◌, ap, subst}
use Rattle.sync_data.specs.Orders.{name_cmp}
use Rattle.sync_data.specs.declared.key.Key.{Key}
use Rattle.sync_data.specs.declared.value.Value.{Value}
use Rattle.sync_data.specs.declared.value.Value.TheVariants as values
use Rattle.sync_data.specs.declared.column.Kind.{Kind}
use Rattle.sync_data.specs.declared.column.Kind.TheVariants as kinds
use Rattle.sync_data.specs.declared.column.Column.{Column}
use Rattle.sync_data.specs.declared.instr.Instr.{Instr}
use Rattle.sync_base.specs.declared.answers.Break.TheVariants as breaks
use Rattle.sync_base.specs.Effects.{ObjectName, CellPath, Edit, Effect, Set, Add, Replace, Insert, Remove, Include, Exclude, Bind, Empty, NewTable, NewColumn, Create, Erase, Change, effect_of}
use Rattle.sync_base.specs.States.{State, Table, Cells, object_cmp, column_in, has, cell_at, is_of_kind, is_key_of, is_of, is_null, fits, shape_rank, is_sound_column, has_target}
use Rattle.sync_base.specs.After.{after, default_of, with_default, new_cells}
use Rattle.sync_base.specs.Checks.{break_of, first_failed, column_check, has_shape, edit_fits, is_prior}
use Rattle.sync_base.specs.Merged.{touch}
use Rattle.sync_base.specs.Footprints.{Part, TableAt, ColumnAt, ObjectAt, CellAt, SameAt, changes, value_reads, edit_reads, kind_reads, AlikeFor, Framed}
use Rattle.sync_base.specs.Lemmas.Maps.{get-map_with}
use Rattle.sync_base.specs.Lemmas.Looks.{name_total, object_total, object_exact, path_total, has-after}
use Rattle.sync_base.specs.Lemmas.Cells.{same_itself, column-after, got_default, got_edited, got_new, touched}
use Rattle.sync_base.specs.Lemmas.Steps.{Found, found}
use Rattle.sync_base.specs.Lemmas.Places.{acted}
use Rattle.sync_base.specs.Lemmas.Frame.{unchanged, cell_there}

when_true : {A : Type 0} (b : Bool) (x y : A) → b ≡ true → cond b x y ≡ x
when_true true x y h = refl
when_true false x y h = cc

or_first : (a b : Bool) → a ≡ true → (a || b) ≡ true
or_first true b h = refl
or_first false b h = cc

or_second : (a b : Bool) → b ≡ true → (a || b) ≡ true
or_second true b h = refl
or_second false b h = h

and_first : (a b : Bool) → (a && b) ≡ true → a ≡ true
and_first true b h = refl
and_first false b h = cc

and_true : (a b : Bool) → a ≡ true → b ≡ true → (a && b) ≡ true
and_true true b h k = k
and_true false b h k = h

and_alike : (b x y : Bool) → (b ≡ true → x ≡ y) → (b && x) ≡ (b && y)
and_alike true x y h = h refl
and_alike false x y h = refl

-- ---- tables that are alike
key_some : (x : Option Table) → is_some x ≡ is_some (option_map (λ (y : Table). y.key) x)
key_some None = refl
key_some (Some y) = refl

some_alike : (s t : State) (u : List ℕ) → SameAt s t (TableAt u) → is_some (map.get s.tables u) ≡ is_some (map.get t.tables u)
some_alike s t u h = key_some (map.get s.tables u) ∙ ap is_some h ∙ sym (key_some (map.get t.tables u))

key_by : (x : Option Table) (k : Key) → option_map_or (λ table. is_of_kind table.key k) x false ≡ option_map_or (λ j. is_of_kind j k) (option_map (λ (y : Table). y.key) x) false
key_by None k = refl
key_by (Some y) k = refl

key_alike : (s t : State) (u : List ℕ) (k : Key) → SameAt s t (TableAt u) → is_key_of s.tables u k ≡ is_key_of t.tables u k
key_alike s t u k h = key_by (map.get s.tables u) k ∙ ap (λ x. option_map_or (λ j. is_of_kind j k) x false) h ∙ sym (key_by (map.get t.tables u) k)

target_alike : (s t : State) (k : Kind) → ((u : List ℕ) → kind_reads k u ≡ true → SameAt s t (TableAt u)) → has_target s.tables k ≡ has_target t.tables k
target_alike s t (kinds.Link u) h = some_alike s t u (h u (same_itself name_total u))
target_alike s t k h = refl

-- ---- values that fit alike
abbrev ValueAlike : State → State → Value → Type 0
ValueAlike s t v = (u : List ℕ) → value_reads v u ≡ true → SameAt s t (TableAt u)

is_of_alike : (s t : State) (k : Kind) (v : Value) → ValueAlike s t v → is_of s.tables k v ≡ is_of t.tables k v
is_of_alike s t (kinds.Link a) (values.Link u k) h = and_alike (eq_by_cmp name_cmp a u) _ _ (λ e. key_alike s t a k (h a e))
is_of_alike s t k v h = refl

fits_alike : (s t : State) (col : Column) (v : Value) → ValueAlike s t v → fits s.tables col v ≡ fits t.tables col v
fits_alike s t col v h = ap (λ b. cond (is_null v) col.nullable b) (is_of_alike s t col.kind v h)

edit_alike : (s t : State) (col : Column) (e : Edit) → ((u : List ℕ) → edit_reads e u ≡ true → SameAt s t (TableAt u)) → edit_fits s.tables col e ≡ edit_fits t.tables col e
edit_alike s t col (Set v) h = fits_alike s t col v h
edit_alike s t col (Add n) h = refl
edit_alike s t col (Replace p v) h = fits_alike s t col v h
edit_alike s t col (Insert p v) h = fits_alike s t col v h
edit_alike s t col (Remove p) h = refl
edit_alike s t col (Include v) h = fits_alike s t col v h
edit_alike s t col (Exclude v) h = fits_alike s t col v h
edit_alike s t col (Bind k (Some v)) h = fits_alike s t col v h
edit_alike s t col (Bind k None) h = refl
edit_alike s t col Empty h = refl

-- ---- the break
pub break_alike : (d : Effect) (s t : State) → AlikeFor d s t → break_of s d ≡ break_of t d
break_alike (NewTable u k) s t h =
    ap (λ b. first_failed ((not b, breaks.TableExists) ∷ [])) (some_alike s t u (h (TableAt u) (same_itself name_total u)))
break_alike (NewColumn u c def) s t h =
    let a = some_alike s t u (h (TableAt u) (or_first _ _ (same_itself name_total u))) in
    let b : column_in s.tables u c ≡ column_in t.tables u c = h (ColumnAt u c) (and_true _ _ (same_itself name_total u) (same_itself name_total c)) in
    let g = target_alike s t def.kind (λ w e. h (TableAt w) (or_second (eq_by_cmp name_cmp w u) _ e)) in
    λ i. first_failed ((a i, breaks.NoTable) ∷ (not (is_some (b i)), breaks.ColumnExists) ∷ (is_sound_column def, breaks.BadColumn) ∷ (g i, breaks.NoTable) ∷ [])
break_alike (Create o) s t h =
    let table = h (TableAt o.0) (same_itself name_total o.0) in
    λ i. first_failed ((some_alike s t o.0 table i, breaks.NoTable) ∷ (key_alike s t o.0 o.1 table i, breaks.WrongKeyKind) ∷ [])
break_alike (Erase o) s t h =
    let table = h (TableAt o.0) (same_itself name_total o.0) in
    let here : has s o ≡ has t o = h (ObjectAt o) (same_itself object_total o) in
    λ i. first_failed ((some_alike s t o.0 table i, breaks.NoTable) ∷ (key_alike s t o.0 o.1 table i, breaks.WrongKeyKind) ∷ (here i, breaks.NoObject) ∷ [])
break_alike (Change p e) s t h =
    let table = h (TableAt p.0.0) (or_first _ _ (same_itself name_total p.0.0)) in
    let here : has s p.0 ≡ has t p.0 = h (ObjectAt p.0) (same_itself object_total p.0) in
    let col : column_in s.tables p.0.0 p.1 ≡ column_in t.tables p.0.0 p.1 = h (ColumnAt p.0.0 p.1) (and_true _ _ (same_itself name_total p.0.0) (same_itself name_total p.1)) in
    let cell : cell_at s p.0 p.1 ≡ cell_at t p.0 p.1 = h (CellAt p) (same_itself path_total p) in
    let fit = λ (c : Column). edit_alike s t c e (λ u r. h (TableAt u) (or_second (eq_by_cmp name_cmp u p.0.0) _ r)) in
    λ i. first_failed (
    (some_alike s t p.0.0 table i, breaks.NoTable) ∷ (key_alike s t p.0.0 p.0.1 table i, breaks.WrongKeyKind) ∷ (here i, breaks.NoObject)
    ∷ (is_some (col i), breaks.NoColumn) ∷ (column_check (λ c. has_shape e (shape_rank c.shape)) (col i), breaks.WrongShape)
    ∷ (column_check (λ c. fit c i) (col i), breaks.WrongKind) ∷ (option_map_or (is_prior e) (cell i) false, breaks.BadPrior) ∷ [])

-- ---- what is changed
new_key : (s : State) (u w : List ℕ) (x : Table) → eq_by_cmp name_cmp w u ≡ true → option_map (λ (y : Table). y.key) (map.get (map.insert s.tables u x) w) ≡ Some x.key
new_key s u w x h = ap (option_map (λ (y : Table). y.key)) (map.get-insert name_total s.tables u x w ∙ when_true _ _ _ h)

new_column : (s : State) (u c w d : List ℕ) (def : Column) → Found s (NewColumn u c def) → (eq_by_cmp name_cmp w u && eq_by_cmp name_cmp d c) ≡ true → column_in (after s (NewColumn u c def)).tables w d ≡ Some def
new_column s u c w d def f h = column-after s.tables u c def w d f.there ∙ when_true _ _ _ h

default_there : (u c : List ℕ) (def : Column) (q : CellPath) (x : Option Cells) → (eq_by_cmp name_cmp q.0.0 u && eq_by_cmp name_cmp q.1 c) ≡ true
    → option_and_then (λ (m : Cells). map.get m q.1) (option_map (with_default u c def q.0) x) ≡ cond (is_some x) (Some (default_of def)) None
default_there u c def q None h = refl
default_there u c def q (Some cells) h = got_default u c def q.0 q.1 (Some cells) refl ∙ when_true _ _ _ h

new_default : (s : State) (u c : List ℕ) (def : Column) (q : CellPath) → (eq_by_cmp name_cmp q.0.0 u && eq_by_cmp name_cmp q.1 c) ≡ true
    → cell_at (after s (NewColumn u c def)) q.0 q.1 ≡ cond (has s q.0) (Some (default_of def)) None
new_default s u c def q h =
    ap (option_and_then (λ (m : Cells). map.get m q.1)) (get-map_with (with_default u c def) object_exact s.objects q.0) ∙ default_there u c def q (map.get s.objects q.0) h

created : (s : State) (o : ObjectName) (q : CellPath) → eq_by_cmp object_cmp q.0 o ≡ true
    → cell_at (after s (Create o)) q.0 q.1 ≡ cond (has s o) (cell_at s q.0 q.1) (option_map default_of (column_in s.tables o.0 q.1))
created s o q h =
    elim (has s o) as (λ b. option_and_then (λ (m : Cells). map.get m q.1) (map.get (cond b s.objects (map.insert s.objects o (new_cells (map.get s.tables o.0)))) q.0) ≡ cond b (cell_at s q.0 q.1) (option_map default_of (column_in s.tables o.0 q.1))) [
      | true ↦ refl
      | false ↦ ap (option_and_then (λ (m : Cells). map.get m q.1)) (map.get-insert object_total s.objects o _ q.0 ∙ when_true _ _ _ h) ∙ got_new (map.get s.tables o.0) q.1
    ]

gone : (s : State) (o : ObjectName) (q : CellPath) → eq_by_cmp object_cmp q.0 o ≡ true → cell_at (after s (Erase o)) q.0 q.1 ≡ None
gone s o q h = ap (option_and_then (λ (m : Cells). map.get m q.1)) (map.get-remove object_total s.objects o q.0 ∙ when_true _ _ _ h)

pub changes_alike : (d : Effect) (s t : State) → AlikeFor d s t → Found s d → Found t d → (x : Part) → changes d x ≡ true → SameAt (after s d) (after t d) x
changes_alike (NewTable u k) s t h f g (TableAt w) e = new_key s u w (record { key = k; columns = map.empty }) e ∙ sym (new_key t u w (record { key = k; columns = map.empty }) e)
changes_alike (NewColumn u c def) s t h f g (ColumnAt w d) e = new_column s u c w d def f e ∙ sym (new_column t u c w d def g e)
changes_alike (NewColumn u c def) s t h f g (CellAt q) e =
    new_default s u c def q e ∙ ap (λ b. cond b (Some (default_of def)) None) (h (ObjectAt q.0) (and_first _ _ e)) ∙ sym (new_default t u c def q e)
changes_alike (Create o) s t h f g (ObjectAt p) e =
    has-after s (Create o) p ∙ or_first (eq_by_cmp object_cmp p o) (has s p) e ∙ sym (has-after t (Create o) p ∙ or_first (eq_by_cmp object_cmp p o) (has t p) e)
changes_alike (Create o) s t h f g (CellAt q) e =
    let here : has s o ≡ has t o = h (ObjectAt o) (same_itself object_total o) in
    let cell : cell_at s q.0 q.1 ≡ cell_at t q.0 q.1 = h (CellAt q) e in
    let col : column_in s.tables o.0 q.1 ≡ column_in t.tables o.0 q.1 = h (ColumnAt o.0 q.1) (same_itself name_total o.0) in
    created s o q e ∙ (λ i. cond (here i) (cell i) (option_map default_of (col i))) ∙ sym (created t o q e)
changes_alike (Erase o) s t h f g (ObjectAt p) e =
    has-after s (Erase o) p ∙ ap (λ b. not b && has s p) e ∙ sym (has-after t (Erase o) p ∙ ap (λ b. not b && has t p) e)
changes_alike (Erase o) s t h f g (CellAt q) e = gone s o q e ∙ sym (gone t o q e)
changes_alike (Change p k) s t h f g (CellAt q) e =
    let cell : cell_at s q.0 q.1 ≡ cell_at t q.0 q.1 = h (CellAt q) e in
    got_edited s p k q.0 q.1 (cell_there (cell_at s p.0 p.1) k f.prior)
    ∙ ap (option_map (touched (touch (Change p k) q))) cell
    ∙ sym (got_edited t p k q.0 q.1 (cell_there (cell_at t p.0 p.1) k g.prior))
changes_alike (NewTable u k) s t h f g (ColumnAt w d) e = cc
changes_alike (NewTable u k) s t h f g (ObjectAt o) e = cc
changes_alike (NewTable u k) s t h f g (CellAt q) e = cc
changes_alike (NewColumn u c def) s t h f g (TableAt w) e = cc
changes_alike (NewColumn u c def) s t h f g (ObjectAt o) e = cc
changes_alike (Create o) s t h f g (TableAt w) e = cc
changes_alike (Create o) s t h f g (ColumnAt w d) e = cc
changes_alike (Erase o) s t h f g (TableAt w) e = cc
changes_alike (Erase o) s t h f g (ColumnAt w d) e = cc
changes_alike (Change p k) s t h f g (TableAt w) e = cc
changes_alike (Change p k) s t h f g (ColumnAt w d) e = cc
changes_alike (Change p k) s t h f g (ObjectAt o) e = cc

-- ---- the frame law of an instruction
pub framed : (i : Instr) → Framed i
framed i = record {
  changes_alone = λ s s1 e x h.
      let a = acted (effect_of i) s s1 e in
      subst (λ u. SameAt u s x) a.gives (unchanged s (effect_of i) x (found s (effect_of i) a.acts) h);
  same_break = break_alike (effect_of i);
  same_changes = λ s t s1 t1 alike e f x h.
      let a = acted (effect_of i) s s1 e in
      let b = acted (effect_of i) t t1 f in
      subst (λ u. SameAt u t1 x) a.gives (subst (λ u. SameAt (after s (effect_of i)) u x) b.gives (changes_alike (effect_of i) s t alike (found s (effect_of i) a.acts) (found t (effect_of i) b.acts) x h));
}
