-- Each edit is taken back by its inverse.
use Rattle.std.specs.Prelude.{◌≡◌, ℕ, ◌+◌, ◌-◌, ◌≤◌, ◌==◌, Bool, true, false, not, if◌then◌else◌, List, [], ◌∷◌, length, Option, None, Some, slice_get, slice_set, refl}
use Rattle.std.specs.List.{insert, remove}
use Rattle.std.specs.FinMap as map
use Rattle.std.specs.FinSet as set
use Rattle.std.proofs.Common.{zero, suc, sym, ◌∙◌, ap, arith}
use Rattle.std.proofs.lemmas.List.{set-set, set-get_or}
use Rattle.std.proofs.lemmas.Option.{get_or_from_slice_get}
use Rattle.std.proofs.lemmas.Bool.{eqb-true}
use Rattle.sync_data.specs.Spot.{Spot}
use Rattle.sync_data.specs.Orders.{name_cmp, value_cmp, value_cmp_total, value_cmp_exact}
use Rattle.sync_data.specs.declared.value.Value.{Value}
use Rattle.sync_base.specs.States.{Cell, One, Many, Members, Dict}
use Rattle.sync_base.specs.Effects as effects
use Rattle.sync_base.specs.After.{edited, bound}
use Rattle.sync_base.specs.Lemmas.Looks.{name_total, name_exact}
use Rattle.sync_maps.specs.Seen.{insert_again, insert_same, insert_removed, remove_inserted, remove_absent, include_member, exclude_absent, exclude_included, include_excluded}
use Rattle.sync_cells.specs.declared.refusal.CellRefusal.{CellRefusal}
use Rattle.sync_cells.specs.declared.refusal.CellRefusal.TheVariants as refusals
use Rattle.sync_cells.specs.declared.edit.Edit.TheVariants as edits
use Rattle.sync_cells.specs.declared.edit.Former.TheVariants as formers
use Rattle.sync_cells.specs.Lists.{HoldsAt, has_member, binding_at}
use Rattle.sync_cells.specs.Refusals.{list_refusal}
use Rattle.sync_cells.specs.Undoing.{done_if, undone, inverse}

module _ {X : Type 0} where
  removed_inserted : (xs : List X) (p : ℕ) (v : X) → p ≤ length xs → remove (insert xs p v) p ≡ xs
  removed_inserted xs zero v h = refl
  removed_inserted [] (suc p) v h = absurd (omega arith)
  removed_inserted (x ∷ xs) (suc p) v h = ap (λ ys. x ∷ ys) (removed_inserted xs p v (omega arith))

  inserted_removed : (xs : List X) (p : ℕ) (v : X) → slice_get xs p ≡ Some v → insert (remove xs p) p v ≡ xs
  inserted_removed [] p v h = cc
  inserted_removed (x ∷ xs) zero v h = let e : v ≡ x = cc in ap (λ y. y ∷ xs) e
  inserted_removed (x ∷ xs) (suc p) v h = ap (λ ys. x ∷ ys) (inserted_removed xs p v h)

  set_back : (xs : List X) (p : ℕ) (v w : X) → slice_get xs p ≡ Some w → slice_set (slice_set xs p v) p w ≡ xs
  set_back xs p v w h = set-set xs p v w ∙ ap (slice_set xs p) (sym (get_or_from_slice_get xs p w w h)) ∙ set-get_or xs p w

pub replaced_back : (s : Spot) (v w : Value) (x : Cell) → HoldsAt x s.place w → edited (effects.Replace s w) (edited (effects.Replace s v) x) ≡ x
replaced_back s v w (One u) h = absurd h
replaced_back s v w (Many xs) h = ap Many (set_back xs s.place v w h)
replaced_back s v w (Members xs) h = absurd h
replaced_back s v w (Dict m) h = absurd h

pub removed_back : (s : Spot) (w : Value) (x : Cell) → HoldsAt x s.place w → edited (effects.Insert (record { place = s.place; prior = s.prior - 1 }) w) (edited (effects.Remove s) x) ≡ x
removed_back s w (One u) h = absurd h
removed_back s w (Many xs) h = ap Many (inserted_removed xs s.place w h)
removed_back s w (Members xs) h = absurd h
removed_back s w (Dict m) h = absurd h

prior_is : (b : Bool) → ◌≡◌ {A = Option CellRefusal} (if b then None else Some refusals.BadPrior) None → b ≡ true
prior_is true h = refl
prior_is false h = cc

pub inserted_back : (s : Spot) (v : Value) (x : Cell) → s.place ≤ s.prior → list_refusal (effects.Insert s v) x ≡ None
    → edited (effects.Remove (record { place = s.place; prior = s.prior + 1 })) (edited (effects.Insert s v) x) ≡ x
inserted_back s v (One u) p h = refl
inserted_back s v (Many xs) p h = let e : s.prior ≡ length xs = eqb-true _ _ (prior_is (s.prior == length xs) h) in ap Many (removed_inserted xs s.place v (omega arith))
inserted_back s v (Members xs) p h = refl
inserted_back s v (Dict m) p h = refl

included_members : (xs : set.FinSet value_cmp) (v : Value) (b : Bool) → set.contains xs v ≡ b → done_if (inverse (edits.Include v) (formers.Changed (not b))) (Members (set.insert xs v)) ≡ Members xs
included_members xs v true h = ap Members (include_member value_cmp_total value_cmp_exact xs v h)
included_members xs v false h = ap Members (exclude_included value_cmp_total value_cmp_exact xs v ∙ exclude_absent value_cmp_total value_cmp_exact xs v h)

pub included_back : (v : Value) (b : Bool) (x : Cell) → b ≡ not (has_member x v) → undone (edits.Include v) (formers.Changed b) (edited (effects.Include v) x) ≡ x
included_back v b (Members xs) h = ap (λ b. undone (edits.Include v) (formers.Changed b) (Members (set.insert xs v))) h ∙ included_members xs v (set.contains xs v) refl
included_back v true (One u) h = refl
included_back v true (Many xs) h = refl
included_back v true (Dict m) h = refl
included_back v false (One u) h = refl
included_back v false (Many xs) h = refl
included_back v false (Dict m) h = refl

excluded_members : (xs : set.FinSet value_cmp) (v : Value) (b : Bool) → set.contains xs v ≡ b → done_if (inverse (edits.Exclude v) (formers.Changed b)) (Members (set.remove xs v)) ≡ Members xs
excluded_members xs v true h = ap Members (include_excluded value_cmp_total value_cmp_exact xs v ∙ include_member value_cmp_total value_cmp_exact xs v h)
excluded_members xs v false h = ap Members (exclude_absent value_cmp_total value_cmp_exact xs v h)

pub excluded_back : (v : Value) (b : Bool) (x : Cell) → b ≡ has_member x v → undone (edits.Exclude v) (formers.Changed b) (edited (effects.Exclude v) x) ≡ x
excluded_back v b (Members xs) h = ap (λ b. undone (edits.Exclude v) (formers.Changed b) (Members (set.remove xs v))) h ∙ excluded_members xs v (set.contains xs v) refl
excluded_back v true (One u) h = refl
excluded_back v true (Many xs) h = refl
excluded_back v true (Dict m) h = refl
excluded_back v false (One u) h = refl
excluded_back v false (Many xs) h = refl
excluded_back v false (Dict m) h = refl

rebound : (m : map.FinMap name_cmp Value) (k : List ℕ) (v w : Option Value) → map.get m k ≡ w → bound (bound m k v) k w ≡ m
rebound m k (Some v) (Some w) h = insert_again name_total name_exact m k v w ∙ insert_same name_total name_exact m k w h
rebound m k (Some v) None h = remove_inserted name_total name_exact m k v ∙ remove_absent name_total name_exact m k h
rebound m k None (Some w) h = insert_removed name_total name_exact m k w ∙ insert_same name_total name_exact m k w h
rebound m k None None h = ap (λ m. map.remove m k) (remove_absent name_total name_exact m k h) ∙ remove_absent name_total name_exact m k h

pub bound_back : (k : List ℕ) (v w : Option Value) (x : Cell) → w ≡ binding_at x k → edited (effects.Bind k w) (edited (effects.Bind k v) x) ≡ x
bound_back k v w (Dict m) h = ap Dict (rebound m k v w (sym h))
bound_back k v w (One u) h = refl
bound_back k v w (Many xs) h = refl
bound_back k v w (Members xs) h = refl
