-- What a loop over slots has done so far, and the numbers that are kept of a lane.
use Rattle.std.specs.Prelude.{◌≡◌, ℕ, ◌+◌, ◌<◌, List, [], ◌∷◌, ◌++◌, Option, None, Some, length}
use Rattle.sync_base.specs.Rules.{top}
use Rattle.list_lane.specs.Lanes.{Crossed, Chains, length_at_end}
use Rattle.list_lane.specs.declared.op.Op.{Op}

-- the result of a crossing of which the first part is done and became these
abbrev pub done : List (Option Op) → Crossed → Crossed
done xs r = record { slots = xs ++ r.slots; left = r.left }

-- places that can grow by one
abbrev pub Placed : List (Option Op) → Type 0
Placed [] = Unit {0}
Placed (None ∷ ss) = Placed ss
Placed (Some a ∷ ss) = (a.place < top) × Placed ss

-- lists one after another
abbrev pub joined : List (List (Option Op)) → List (Option Op)
joined [] = []
joined (xs ∷ xss) = xs ++ joined xss

-- a lane chains from its first length to its last, and the list can't become too long in it
pub record IsLane (first last count : ℕ) (ss : List (Option Op)) : Type 0 where
  pub chains : Chains first ss
  pub last_is : last ≡ length_at_end first ss
  pub count_is : count ≡ length ss
  pub room : first + length ss < top
