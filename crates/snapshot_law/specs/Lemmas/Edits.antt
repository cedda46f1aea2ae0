-- The edits of a cell lead from the default of its column to the cell.
use Rattle.std.specs.Prelude.{◌≡◌, ℕ, suc, Bool, true, false, cond, ◌||◌, ◌==◌, List, [], ◌∷◌, ◌++◌, map, length, Some, refl}
use Rattle.std.specs.Ordering.{eq_by_cmp}
use Rattle.std.specs.FinMap as fin
use Rattle.std.specs.FinSet as set
use Rattle.std.specs.List.{insert, list_any}
use Rattle.std.proofs.Common.{sym, ◌∙◌, ap, subst, append_assoc, arith}
use Rattle.std.proofs.lemmas.Bool.{eq-eqb}
use Rattle.sync_data.specs.Orders.{value_cmp, value_cmp_total, value_cmp_exact}
use Rattle.sync_data.specs.declared.column.Column.{Column}
use Rattle.sync_data.specs.declared.column.Shape.{Shape}
use Rattle.sync_data.specs.declared.column.Shape.TheVariants as shapes
use Rattle.sync_data.specs.declared.value.Value.{Value}
use Rattle.sync_data.specs.declared.value.Value.TheVariants as values
use Rattle.sync_base.specs.After.{edited, default_by, default_of, zero_of}
use Rattle.sync_base.specs.Checks.{has_shape, edit_fits, is_prior}
use Rattle.sync_base.specs.Effects.{Edit, Set, Include, Bind}
use Rattle.sync_base.specs.Lemmas.Cells.{same_itself}
use Rattle.sync_base.specs.Lemmas.Looks.{name_total, name_exact}
use Rattle.sync_base.specs.Lemmas.Maps.{tied_is}
use Rattle.sync_base.specs.Lemmas.Shaped.{IsEdit}
use Rattle.sync_base.specs.States.{Tables, Cell, One, Many, Members, Dict, Each, CellFits, cell_rank, shape_rank, fits}
use Rattle.store_walks.specs.Along.{in_order}
use Rattle.store_walks.specs.Sets.{contains-in_order}
use Rattle.snapshot_law.specs.Build.{insertions, edits_of}
use Rattle.snapshot_law.specs.Lemmas.Maps.{walk, joined_singles}

-- what a cell of the column asks of an edit
pub record EditActs (ts : Tables) (col : Column) (e : Edit) (x : Cell) : Type 0 where
  pub placed : IsEdit e
  pub shape : has_shape e (shape_rank col.shape) ≡ true
  pub value : edit_fits ts col e ≡ true
  pub prior : is_prior e x ≡ true

-- edits lead from one cell to another
abbrev pub Turns : Tables → Column → List Edit → Cell → Cell → Type 0
Turns ts col [] x y = x ≡ y
Turns ts col (e ∷ es) x y = EditActs ts col e x × Turns ts col es (edited e x) y

turns_on : (ts : Tables) (col : Column) (ds es : List Edit) (x y z : Cell) → Turns ts col ds x y → Turns ts col es y z → Turns ts col (ds ++ es) x z
turns_on ts col [] es x y z h g = subst (λ w. Turns ts col es w z) (sym h) g
turns_on ts col (d ∷ ds) es x y z h g = (h.0, turns_on ts col ds es (edited d x) y z h.1 g)

-- ---- lists
at_end : (xs : List Value) (v : Value) → insert xs (length xs) v ≡ xs ++ v ∷ []
at_end [] v = refl
at_end (x ∷ xs) v = ap (λ ys. x ∷ ys) (at_end xs v)

longer : (xs : List Value) (v : Value) (k : ℕ) → k ≡ length xs → suc k ≡ length (xs ++ v ∷ [])
longer [] v k e = ap suc e
longer (x ∷ xs) v k e = ap suc (e ∙ longer xs v (length xs) refl)

no_more : (xs : List Value) → xs ≡ xs ++ []
no_more [] = refl
no_more (x ∷ xs) = ap (λ ys. x ∷ ys) (no_more xs)

inserted : (ts : Tables) (col : Column) → shape_rank col.shape ≡ 1 → (xs before : List Value) (k : ℕ) → k ≡ length before → Each (fits ts col) xs → Turns ts col (insertions k xs) (Many before) (Many (before ++ xs))
inserted ts col r [] before k e h = ap Many (no_more before)
inserted ts col r (v ∷ vs) before k e h = (
  record { placed = omega arith; shape = ap (λ n. n == 1) r; value = h.0; prior = eq-eqb k (length before) e },
  let put : insert before k v ≡ before ++ v ∷ [] = ap (λ n. insert before n v) e ∙ at_end before v in
      let rest = inserted ts col r vs (before ++ v ∷ []) (suc k) (longer before v k e) h.1 in
      subst (λ ys. Turns ts col (insertions (suc k) vs) (Many ys) (Many (before ++ v ∷ vs))) (sym put)
      (subst (λ ys. Turns ts col (insertions (suc k) vs) (Many (before ++ v ∷ [])) (Many ys)) (append_assoc before (v ∷ []) vs) rest),
)

-- ---- sets
pub or_true : (b c : Bool) → c ≡ true → (b || c) ≡ true
or_true true c e = refl
or_true false c e = e

pub or_first : (b c : Bool) → b ≡ true → (b || c) ≡ true
or_first true c e = refl
or_first false c e = cc

or_turned : (a b c : Bool) → ((a || b) || c) ≡ (b || (a || c))
or_turned true true c = refl
or_turned true false c = refl
or_turned false b c = refl

included : (ts : Tables) (col : Column) → shape_rank col.shape ≡ 2 → (vs : List Value) (a b : set.FinSet value_cmp) → ((v : Value) → list_any (eq_by_cmp value_cmp v) vs ≡ true → fits ts col v ≡ true)
    → ((v : Value) → set.contains b v ≡ (list_any (eq_by_cmp value_cmp v) vs || set.contains a v)) → Turns ts col (map (λ v. Include v) vs) (Members a) (Members b)
included ts col r [] a b h g = ap Members (set.same_set value_cmp_total value_cmp_exact a b (λ v. sym (g v)))
included ts col r (w ∷ vs) a b h g = (
  record { placed = tt; shape = ap (λ n. n == 2) r; value = h w (or_first (eq_by_cmp value_cmp w w) (list_any (eq_by_cmp value_cmp w) vs) (same_itself value_cmp_total w)); prior = refl },
  included ts col r vs (set.insert a w) b (λ v e. h v (or_true (eq_by_cmp value_cmp v w) (list_any (eq_by_cmp value_cmp v) vs) e))
      (λ v. g v ∙ or_turned (eq_by_cmp value_cmp v w) (list_any (eq_by_cmp value_cmp v) vs) (set.contains a v) ∙ ap (λ x. list_any (eq_by_cmp value_cmp v) vs || x) (sym (set.contains-insert value_cmp_total a w v))),
)

or_false : (b : Bool) → b ≡ (b || false)
or_false true = refl
or_false false = refl

-- ---- each cell
turns_at : (ts : Tables) (col : Column) (shape : Shape) (x : Cell) → shape_rank col.shape ≡ shape_rank shape → cell_rank x ≡ shape_rank shape → CellFits ts col x → Turns ts col (edits_of (default_by shape col) x) (default_by shape col) x
turns_at ts col shapes.One (One v) r e h =
    let w : Value = cond col.nullable values.Null (zero_of col.kind) in
    elim (eq_by_cmp value_cmp v w) as (λ b. eq_by_cmp value_cmp v w ≡ b → Turns ts col (cond b [] (Set v ∷ [])) (One w) (One v)) [
      | true ↦ λ t. ap One (sym (tied_is value_cmp_exact v w t))
      | false ↦ λ _. (record { placed = tt; shape = ap (λ n. n == 0) r; value = h; prior = refl }, refl)
    ] refl
turns_at ts col shapes.List (Many xs) r e h = inserted ts col r xs [] 0 refl h
turns_at ts col shapes.Set (Members xs) r e h =
    included ts col r (in_order xs) set.empty xs (λ v g. h v (contains-in_order xs v ∙ g))
    (λ v. contains-in_order xs v ∙ or_false (list_any (eq_by_cmp value_cmp v) (in_order xs)) ∙ ap (λ b. list_any (eq_by_cmp value_cmp v) (in_order xs) || b) (sym (set.contains-empty value_cmp v)))
turns_at ts col shapes.Dict (Dict m) r e h =
    subst (λ es. Turns ts col es (Dict fin.empty) (Dict m)) (joined_singles (λ (p : List ℕ × Value). Bind p.0 (Some p.1)) (fin.entries m))
    (walk name_total name_exact (Turns ts col) (λ x. refl) (turns_on ts col) (λ p. Bind p.0 (Some p.1) ∷ []) Dict m
    (λ g k v here new. (record { placed = tt; shape = ap (λ n. n == 3) r; value = h k v here; prior = refl }, refl)))
turns_at ts col shape x r e h = absurd (omega (arith, e))

pub turns_cell : (ts : Tables) (col : Column) (x : Cell) → cell_rank x ≡ shape_rank col.shape → CellFits ts col x → Turns ts col (edits_of (default_of col) x) (default_of col) x
turns_cell ts col x e h = turns_at ts col col.shape x refl e h
