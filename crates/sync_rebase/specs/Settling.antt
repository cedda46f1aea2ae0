-- What an entry becomes over a list of unsent changesets, and the list after it.
use Rattle.std.specs.Prelude.{◌≡◌, ◌<◌, ℕ, zero, suc, Bool, not, List, [], ◌∷◌, Option, Some, None, IfSome, map, drop}
use Rattle.sync_data.specs.declared.instr.Instr.{Instr}
use Rattle.sync_data.specs.declared.entry.Stamp.{Stamp}
use Rattle.sync_data.specs.Payload.{Changes}
use Rattle.sync_base.specs.Rules.{top}
use Rattle.sync_theory.specs.Changesets.{later_stamp}
use Rattle.sync_model.specs.Clients.{Unsent}
use Rattle.sync_rivals.specs.Lists.{StaysListed}
use Rattle.list_places.specs.Places.{longer, place_after}
use Rattle.list_places.specs.Moves.{action_in, kind_in, kind_of, moved_first}
use Rattle.list_places.specs.declared.places.Does.{Does}
use Rattle.list_places.specs.declared.moves.ListAction.{ListAction}
use Rattle.list_lane.specs.Told.{action, place_in, prior_in}
use Rattle.sync_rebase.specs.Stretches.{from_place}
use Rattle.sync_rebase.specs.declared.carried.Across.{Across}
use Rattle.sync_rebase.specs.declared.carried.Became.{Became}
use Rattle.sync_rebase.specs.declared.carried.Became.TheVariants.{Moved, Changed}
use Rattle.sync_rebase.specs.declared.carried.Crossed.{Crossed}
use Rattle.sync_rebase.specs.declared.carried.Crossed.TheVariants.{One, Stretch}

-- the entry's changeset as carried, and the unsent changesets that crossed it; the others stay
pub record Carried : Type 0 where
  pub changes : Changes
  pub crossed : List Crossed

-- ---- one of them
-- what became of these instructions
abbrev pub left_of : Became → List Instr → List Instr
left_of (Moved a) is = moved_first a is
left_of (Changed c) is = c.instrs

-- the unsent changeset at a place has these instructions now
abbrev pub put_current : {I : Type 0} → ℕ → List I → List (Unsent I) → List (Unsent I)
put_current n is [] = []
put_current zero is (u ∷ us) = record u { current = is } ∷ us
put_current (suc n) is (u ∷ us) = u ∷ put_current n is us

-- it became this
abbrev pub put_became : ℕ → Became → List (Unsent Instr) → List (Unsent Instr)
put_became n b [] = []
put_became zero b (u ∷ us) = record u { current = left_of b u.current } ∷ us
put_became (suc n) b (u ∷ us) = u ∷ put_became n b us

-- ---- a stretch of them
abbrev pub action_there : Does → ℕ → Option ℕ → Option ListAction
action_there d n None = None
action_there d n (Some p) = Some (action d p n)

-- what is left of an action after another one of that list; the flag is whether it is the later one
abbrev pub action_after : Bool → ListAction → ListAction → Option ListAction
action_after l a b = action_there (kind_of a) (longer (kind_of b) (prior_in a)) (place_after l (kind_of a) (place_in a) (kind_of b) (place_in b))

-- one instruction does so now, or is none
abbrev pub instrs_left : Option ListAction → List Instr → List Instr
instrs_left None is = []
instrs_left (Some a) is = moved_first a is

abbrev pub own_left : Bool → Option ListAction → ListAction → List Instr → List Instr
own_left l None b is = is
own_left l (Some a) b is = instrs_left (action_after l a b) is

abbrev pub other_left : Bool → Option ListAction → ListAction → Option ListAction
other_left l None b = Some b
other_left l (Some a) b = action_after l b a

-- so many unsent changesets of a client meet an action of another with that stamp, one after the other
abbrev pub passed : ℕ → Stamp → ℕ → Option ListAction → List (Unsent Instr) → List (Unsent Instr)
passed own s k None us = us
passed own s zero (Some b) us = us
passed own s (suc k) (Some b) [] = []
passed own s (suc k) (Some b) (u ∷ us) =
    record u { current = own_left (later_stamp u.original.ms own s.ms s.ident) (action_in u.current) b u.current }
    ∷ passed own s k (other_left (not (later_stamp u.original.ms own s.ms s.ident)) (action_in u.current) b) us

abbrev pub put_across : Across → List (Unsent Instr) → List (Unsent Instr)
put_across a = from_place a.start (passed a.own a.stamp a.count (Some a.action))

-- ---- all of them
abbrev pub put_crossed : Crossed → List (Unsent Instr) → List (Unsent Instr)
put_crossed (One n b) us = put_became n b us
put_crossed (Stretch a) us = put_across a us

-- the list with those that crossed in their places
abbrev pub settled : List Crossed → List (Unsent Instr) → List (Unsent Instr)
settled [] us = us
settled (c ∷ cs) us = settled cs (put_crossed c us)

-- the instructions as they are rebased
abbrev pub currents : List (Unsent Instr) → List (List Instr)
currents us = map (λ (u : Unsent Instr). u.current) us

-- only of one list instruction that does the same it is told what it does; a changeset has the time that it had
abbrev pub Suits : Became → Unsent Instr → Type 0
Suits (Moved a) u = kind_in u.current ≡ Some (kind_of a)
Suits (Changed c) u = c.ms ≡ u.original.ms

-- there is an unsent changeset at this place, of which this is left
abbrev pub FitsAt : ℕ → Became → List (Unsent Instr) → Type 0
FitsAt n b [] = ⊥
FitsAt zero b (u ∷ us) = Suits b u × StaysListed u.current (left_of b u.current)
FitsAt (suc n) b (u ∷ us) = FitsAt n b us

-- an action on a list that may grow, and one instruction that was made on that list too, if there is one
pub record Meets (u : Unsent Instr) (b : ListAction) : Type 0 where
  pub room : prior_in b < top
  pub sizes : IfSome (action_in u.current) (λ a. prior_in a ≡ prior_in b)

-- so many unsent changesets can meet it
abbrev pub CanPass : ℕ → Stamp → ℕ → Option ListAction → List (Unsent Instr) → Type 0
CanPass own s k None us = Unit {0}
CanPass own s zero (Some b) us = Unit {0}
CanPass own s (suc k) (Some b) [] = ⊥
CanPass own s (suc k) (Some b) (u ∷ us) = Meets u b × CanPass own s k (other_left (not (later_stamp u.original.ms own s.ms s.ident)) (action_in u.current) b) us

abbrev pub FitsCrossed : Crossed → List (Unsent Instr) → Type 0
FitsCrossed (One n b) us = FitsAt n b us
FitsCrossed (Stretch a) us = CanPass a.own a.stamp a.count (Some a.action) (drop a.start us)

-- each of those that crossed has its place in the list, and is left of what stands there
abbrev pub Fits : List Crossed → List (Unsent Instr) → Type 0
Fits [] us = Unit {0}
Fits (c ∷ cs) us = FitsCrossed c us × Fits cs (put_crossed c us)
