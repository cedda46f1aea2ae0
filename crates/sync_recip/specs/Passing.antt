-- Entries of a stretch meet an action of another one after the other.
use Rattle.std.specs.Prelude.{◌≡◌, ◌<◌, ℕ, zero, suc, Bool, not, List, [], ◌∷◌, Option, Some, None, IfSome}
use Rattle.sync_data.specs.declared.instr.Instr.{Instr}
use Rattle.sync_data.specs.declared.entry.Stamp.{Stamp}
use Rattle.sync_base.specs.Rules.{top}
use Rattle.sync_theory.specs.Changesets.{Changeset, later_stamp}
use Rattle.list_places.specs.Places.{longer, place_after}
use Rattle.list_places.specs.Moves.{action_in, kind_of, moved_first}
use Rattle.list_places.specs.declared.places.Does.{Does}
use Rattle.list_places.specs.declared.moves.ListAction.{ListAction}
use Rattle.list_lane.specs.Told.{action, place_in, prior_in}

abbrev pub action_there : Does → ℕ → Option ℕ → Option ListAction
action_there d n None = None
action_there d n (Some p) = Some (action d p n)

-- what is left of an action after another one of that list; the flag is whether it is the later one
abbrev pub action_after : Bool → ListAction → ListAction → Option ListAction
action_after l a b = action_there (kind_of a) (longer (kind_of b) (prior_in a)) (place_after l (kind_of a) (place_in a) (kind_of b) (place_in b))

-- one instruction does so now, or is none
abbrev pub instrs_left : Option ListAction → List Instr → List Instr
instrs_left None is = []
instrs_left (Some a) is = moved_first a is

abbrev pub own_left : Bool → Option ListAction → ListAction → List Instr → List Instr
own_left l None b is = is
own_left l (Some a) b is = instrs_left (action_after l a b) is

abbrev pub other_left : Bool → Option ListAction → ListAction → Option ListAction
other_left l None b = Some b
other_left l (Some a) b = action_after l b a

-- a change with that stamp is the later one, the change on the left
abbrev pub change_later : Stamp → Changeset Instr → Bool
change_later s e = later_stamp s.ms s.ident e.ms e.origin

-- so many entries meet an action of a change with that stamp, one after the other
abbrev pub passed : Stamp → ℕ → Option ListAction → List (Changeset Instr) → List (Changeset Instr)
passed s k None es = es
passed s zero (Some b) es = es
passed s (suc k) (Some b) [] = []
passed s (suc k) (Some b) (e ∷ es) =
    record e { instrs = own_left (not (change_later s e)) (action_in e.instrs) b e.instrs }
    ∷ passed s k (other_left (change_later s e) (action_in e.instrs) b) es

-- an action on a list that may grow, and one instruction that was made on that list too, if there is one
pub record Meets (is : List Instr) (b : ListAction) : Type 0 where
  pub room : prior_in b < top
  pub sizes : IfSome (action_in is) (λ a. prior_in a ≡ prior_in b)

-- so many entries can meet it
abbrev pub CanPass : Stamp → ℕ → Option ListAction → List (Changeset Instr) → Type 0
CanPass s k None es = Unit {0}
CanPass s zero (Some b) es = Unit {0}
CanPass s (suc k) (Some b) [] = ⊥
CanPass s (suc k) (Some b) (e ∷ es) = Meets e.instrs b × CanPass s k (other_left (change_later s e) (action_in e.instrs) b) es
