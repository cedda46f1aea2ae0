-- An insertion in front of all instructions of a region pushes them all.
use Rattle.std.proofs.Common.{◌≡◌, ℕ, ◌+◌, true, false, not, List, [], ◌∷◌, Option, Some, None, refl, ap, ◌∙◌, arith}
use Rattle.std.proofs.lemmas.Bool.Decides.{nat_tests}
use Rattle.sync_data.specs.declared.entry.Stamp.{Stamp}
use Rattle.sync_theory.specs.Changesets.{later_stamp}
use Rattle.list_places.specs.Places.{place_after}
use Rattle.list_places.specs.declared.places.Does.{Does}
use Rattle.list_places.specs.declared.places.Does.TheVariants.{Inserts, Erases, Updates}
use Rattle.list_lane.specs.Ops.{moved, lane_later}
use Rattle.list_lane.specs.Lanes.{behind, crossed}
use Rattle.list_lane.specs.declared.op.Op.{Op}
use Rattle.list_regions.specs.Kept.{onward, earliest}

never_later : (m n : ℕ) → later_stamp 0 0 m n ≡ false
never_later m n = grind (arith, nat_tests)

all_later : (s : Stamp) → lane_later false s earliest.stamp ≡ true
all_later s = ap not (never_later s.ms s.ident)

stands : (d : Does) (q : ℕ) → place_after false Inserts 0 d q ≡ Some 0
stands Inserts q = grind (arith, nat_tests)
stands Erases q = grind (arith, nat_tests)
stands Updates q = refl

pushed : (d : Does) (q : ℕ) → place_after true d q Inserts 0 ≡ Some (q + 1)
pushed Inserts q = grind (arith, nat_tests)
pushed Erases q = grind (arith, nat_tests)
pushed Updates q = grind (arith, nat_tests)

pub crossed_ahead : (ss : List (Option Op)) → crossed (lane_later false) ss (Some earliest) ≡ record { slots = onward 1 ss; left = Some earliest }
crossed_ahead [] = refl
crossed_ahead (None ∷ ss) = ap (behind None) (crossed_ahead ss)
crossed_ahead (Some a ∷ ss) =
    (λ i. behind (moved a (place_after (all_later a.stamp i) a.does a.place Inserts 0)) (crossed (lane_later false) ss (moved earliest (place_after (not (all_later a.stamp i)) Inserts 0 a.does a.place))))
    ∙ (λ i. behind (moved a (pushed a.does a.place i)) (crossed (lane_later false) ss (moved earliest (stands a.does a.place i))))
    ∙ ap (behind (Some (record a { place = a.place + 1 }))) (crossed_ahead ss)
