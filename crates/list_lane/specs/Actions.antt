-- One list instruction after another one of that list, and what is left of it.
use Rattle.std.specs.Prelude.{ℕ, Bool, List, [], Option, Some, None}
use Rattle.sync_data.specs.declared.instr.Instr.{Instr}
use Rattle.list_places.specs.Places.{longer, place_after}
use Rattle.list_places.specs.Moves.{kind_of, moved_first}
use Rattle.list_places.specs.declared.places.Does.{Does}
use Rattle.list_places.specs.declared.moves.ListAction.{ListAction}
use Rattle.list_lane.specs.Told.{action, place_in, prior_in}

abbrev pub action_there : Does → ℕ → Option ℕ → Option ListAction
action_there d n None = None
action_there d n (Some p) = Some (action d p n)

-- what is left of an action after another one of that list; the flag is whether it is the later one
abbrev pub action_after : Bool → ListAction → ListAction → Option ListAction
action_after l a b = action_there (kind_of a) (longer (kind_of b) (prior_in a)) (place_after l (kind_of a) (place_in a) (kind_of b) (place_in b))

-- one instruction does so now, or is none
abbrev pub instrs_left : Option ListAction → List Instr → List Instr
instrs_left None is = []
instrs_left (Some a) is = moved_first a is

-- what is left of instructions, of which one does so or none is of a list, and of the action that they meet
abbrev pub own_left : Bool → Option ListAction → ListAction → List Instr → List Instr
own_left l None b is = is
own_left l (Some a) b is = instrs_left (action_after l a b) is

abbrev pub other_left : Bool → Option ListAction → ListAction → Option ListAction
other_left l None b = Some b
other_left l (Some a) b = action_after l b a
