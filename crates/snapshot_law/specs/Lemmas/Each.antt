-- What holds of each instruction of a state's list, from what holds of its tables, columns, objects and cells.
use Rattle.std.specs.Prelude.{◌≡◌, ℕ, true, List, [], ◌∷◌, ◌++◌, map, is_some, Some}
use Rattle.std.specs.Option.{option_and_then}
use Rattle.std.specs.FinMap as fin
use Rattle.std.specs.FinMap.{FinMap, IsAntisymmetric}
use Rattle.std.specs.Cmp.{IsTotalOrder}
use Rattle.std.specs.declared.cmp.Ordering.{Ordering}
use Rattle.std.proofs.Common.{sym, ◌∙◌, ap, subst}
use Rattle.sync_data.specs.declared.column.Column.{Column}
use Rattle.sync_data.specs.declared.instr.Instr.{Instr}
use Rattle.sync_base.specs.After.{default_of}
use Rattle.sync_base.specs.Effects.{ObjectName, Effect, NewTable, NewColumn, Create, Change, instr_of}
use Rattle.sync_base.specs.Lemmas.Looks.{name_total, name_exact, object_total, object_exact}
use Rattle.sync_base.specs.Lemmas.Steps.{some_is}
use Rattle.sync_base.specs.States.{State, Table, Cell, Cells, IsState, column_in, cell_at, has}
use Rattle.sync_model.specs.Each.{Each, no_more, and_each}
use Rattle.snapshot_law.specs.Build.{joined, cell_edits, cell_effects, columns_of, edits_of, object_effects, new_tables, new_columns, new_objects, built_effects, built_list}
use Rattle.snapshot_law.specs.Lemmas.Maps.{walk, joined_singles}

module _ {A : Type 0} (P : A → Type 0) where
  pub each_append : (xs ys : List A) → Each P xs → Each P ys → Each P (xs ++ ys)
  each_append [] ys h g = g
  each_append (x ∷ xs) ys (and_each p h) g = and_each p (each_append xs ys h g)

  pub each_all : (xs : List A) → ((x : A) → P x) → Each P xs
  each_all [] h = no_more
  each_all (x ∷ xs) h = and_each (h x) (each_all xs h)

pub each_map : {A B : Type 0} (P : B → Type 0) (f : A → B) (xs : List A) → Each (λ x. P (f x)) xs → Each P (map f xs)
each_map P f [] h = no_more
each_map P f (x ∷ xs) (and_each p h) = and_each p (each_map P f xs h)

-- of lists that are made of each entry
pub each_joined : {K X E : Type 0} {R : K → K → Ordering} (o : IsTotalOrder R) (exact : IsAntisymmetric R) (P : E → Type 0) (f : K × X → List E) (m : FinMap R X) → ((k : K) (x : X) → fin.get m k ≡ Some x → Each P (f (k, x))) → Each P (joined (map f (fin.entries m)))
each_joined o exact P f m h = walk o exact {S = Unit {0}} (λ ds _ _. Each P ds) (λ _. no_more) (λ ds es _ _ _. each_append P ds es) f (λ _. tt) m (λ g k x here new. h k x here)

pub each_entry : {K X E : Type 0} {R : K → K → Ordering} (o : IsTotalOrder R) (exact : IsAntisymmetric R) (P : E → Type 0) (f : K × X → E) (m : FinMap R X) → ((k : K) (x : X) → fin.get m k ≡ Some x → P (f (k, x))) → Each P (map f (fin.entries m))
each_entry o exact P f m h = subst (Each P) (joined_singles f (fin.entries m)) (each_joined o exact P (λ e. f e ∷ []) m (λ k x here. and_each (h k x here) no_more))

-- ---- of all effects
module _ (P : Effect → Type 0) (s : State) (ok : IsState s) where
  -- the edits of a cell
  abbrev pub EachCell : Type 0
  EachCell = (o : ObjectName) (c : List ℕ) (x : Cell) (col : Column) → has s o ≡ true → cell_at s o c ≡ Some x → column_in s.tables o.0 c ≡ Some col → Each (λ e. P (Change (o, c) e)) (edits_of (default_of col) x)

  each_cell : EachCell → (o : ObjectName) (cells : Cells) → fin.get s.objects o ≡ Some cells → (c : List ℕ) (x : Cell) → fin.get cells c ≡ Some x → Each P (cell_effects s o c x)
  each_cell h o cells here c x e =
      let at : cell_at s o c ≡ Some x = ap (option_and_then (λ (m : Cells). fin.get m c)) here ∙ e in
      let col : (k : Column) × (column_in s.tables o.0 c ≡ Some k) = some_is (column_in s.tables o.0 c) (sym (ok.filled o c (ap is_some here)) ∙ ap is_some at) in
      subst (λ k. Each P (map (λ e. Change (o, c) e) (cell_edits k x))) (sym col.1)
      (each_map P (λ e. Change (o, c) e) (edits_of (default_of col.0) x) (h o c x col.0 (ap is_some here) at col.1))

  pub each_effect : ((t : List ℕ) (x : Table) → fin.get s.tables t ≡ Some x → P (NewTable t x.key)) → ((t c : List ℕ) (x : Table) (def : Column) → fin.get s.tables t ≡ Some x → column_in s.tables t c ≡ Some def → P (NewColumn t c def))
      → ((o : ObjectName) → has s o ≡ true → P (Create o)) → EachCell → Each P (built_effects s)
  each_effect tables columns objects cells =
      each_append P (new_tables s) (new_columns s ++ new_objects s)
      (each_entry name_total name_exact P (λ e. NewTable e.0 e.1.key) s.tables tables)
      (each_append P (new_columns s) (new_objects s)
      (each_joined name_total name_exact P (λ e. columns_of e.0 e.1) s.tables
      (λ t x here. each_entry name_total name_exact P (λ e. NewColumn t e.0 e.1) x.columns (λ c def e. columns t c x def here (ap (option_and_then (λ (y : Table). fin.get y.columns c)) here ∙ e))))
      (each_joined object_total object_exact P (λ e. object_effects s e.0 e.1) s.objects
      (λ o m here. and_each (objects o (ap is_some here)) (each_joined name_total name_exact P (λ e. cell_effects s o e.0 e.1) m (each_cell cells o m here)))))

-- and of all instructions
pub each_instr : (P : Instr → Type 0) (s : State) → Each (λ d. P (instr_of d)) (built_effects s) → Each P (built_list s)
each_instr P s h = each_map P instr_of (built_effects s) h
