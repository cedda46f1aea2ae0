-- The marks of a filter, and the objects whose keys pass it.
use Rattle.std.specs.Prelude.{◌≡◌, ℕ, zero, suc, ◌<◌, Bool, true, false, ◌||◌, ◌==◌, List, length, slice_index_or, slice_set, replicate, Result, Ok, Err, OnOk, OnErr, refl}
use Rattle.std.specs.Option.{option_map_or}
use Rattle.std.specs.Ordering.{eq_by_cmp}
use Rattle.std.specs.FinMap as map
use Rattle.std.specs.FinSet as set
use Rattle.std.proofs.Common.{sym, ◌∙◌, ap, subst}
use Rattle.std.proofs.lemmas.Bool.{eqb-true, eqb-false, eq-eqb}
use Rattle.std.proofs.lemmas.List.{get_or-set_same, get_or-set_other}
use Rattle.sync_data.specs.Orders.{name_cmp, key_cmp}
use Rattle.sync_data.specs.declared.key.Key.{Key}
use Rattle.sync_base.specs.Effects.{ObjectName}
use Rattle.sync_base.specs.States.{object_cmp}
use Rattle.sync_base.specs.Lemmas.Looks.{object_exact}
use Rattle.sync_base.specs.Lemmas.Maps.{tied_is}
use Rattle.sync_index.specs.Touched.{holds, HoldsMore}
use Rattle.sync_index.specs.Filters.{spot_of, may_hold, PassesAll}
use Rattle.sync_index.proofs.Indexed.{or_true}

-- a mark is there once it is set, and the others stay
pub marked : (marks : List Bool) (s t : ℕ) → s < length marks → slice_index_or (slice_set marks s true) t false ≡ ((t == s) || slice_index_or marks t false)
marked marks s t within =
    elim (t == s) as (λ b. (t == s) ≡ b → slice_index_or (slice_set marks s true) t false ≡ (b || slice_index_or marks t false)) [
      | true ↦ λ h. ap (λ u. slice_index_or (slice_set marks s true) u false) (eqb-true t s h) ∙ get_or-set_same marks s true false within
      | false ↦ λ h. get_or-set_other marks s t true false (eqb-false t s h)
    ] refl

-- nothing is marked at first
pub unmarked : (n i : ℕ) → slice_index_or (replicate n false) i false ≡ false
unmarked zero i = refl
unmarked (suc n) zero = refl
unmarked (suc n) (suc i) = unmarked n i

-- what isn't marked isn't held
pub absent : (marks : List Bool) (objects : map.FinMap name_cmp (set.FinSet key_cmp)) (o : ObjectName) → PassesAll marks objects → may_hold marks o.1 ≡ false → holds objects o ≡ false
absent marks objects o all e =
    elim (holds objects o) as (λ b. holds objects o ≡ b → b ≡ false) [
      | true ↦ λ h. sym (all o h) ∙ e
      | false ↦ λ _. refl
    ] refl

pub passes_none : (marks : List Bool) (objects : map.FinMap name_cmp (set.FinSet key_cmp)) → objects ≡ map.empty → PassesAll marks objects
passes_none marks objects e o h =
    let no : true ≡ false = sym h ∙ ap (λ s. holds s o) e ∙ ap (λ k. option_map_or (λ keys. set.contains keys o.1) k false) (map.get-empty name_cmp o.0) in
    cc

-- the marks have one more, at the key
abbrev pub MarksMore : Key → List Bool → List Bool → Type 0
MarksMore key before after = (other : Key) → may_hold after other ≡ ((spot_of other == spot_of key) || may_hold before other)

stay : (key : Key) (before after : List Bool) (objects : map.FinMap name_cmp (set.FinSet key_cmp)) → MarksMore key before after → PassesAll before objects → PassesAll after objects
stay key before after objects more all o h = more o.1 ∙ ap (λ b. (spot_of o.1 == spot_of key) || b) (all o h) ∙ or_true (spot_of o.1 == spot_of key)

one_more : (p : ObjectName) (before after : List Bool) (objects more_objects : map.FinMap name_cmp (set.FinSet key_cmp)) → MarksMore p.1 before after → HoldsMore p objects more_objects → PassesAll before objects → PassesAll after more_objects
one_more p before after objects more_objects more held all o h =
    elim (eq_by_cmp object_cmp o p) as (λ b. eq_by_cmp object_cmp o p ≡ b → (b || holds objects o) ≡ true → may_hold after o.1 ≡ true) [
      | true ↦ λ e _. more o.1 ∙ ap (λ b. b || may_hold before o.1) (eq-eqb (spot_of o.1) (spot_of p.1) (ap (λ q. spot_of q.1) (tied_is object_exact o p e)))
      | false ↦ λ _ there. stay p.1 before after objects more all o there
    ] refl (sym (held o) ∙ h)

-- after the key was marked and the object was put, or was refused
pub passes_put : {A E : Type 0} (r : Result A E) (p : ObjectName) (before after : List Bool) (objects more_objects : map.FinMap name_cmp (set.FinSet key_cmp))
    → MarksMore p.1 before after → OnOk r (HoldsMore p objects more_objects) → OnErr r (more_objects ≡ objects) → PassesAll before objects → PassesAll after more_objects
passes_put (Ok _) p before after objects more_objects more put same all = one_more p before after objects more_objects more put all
passes_put (Err _) p before after objects more_objects more put same all = subst (PassesAll after) (sym same) (stay p.1 before after objects more all)
