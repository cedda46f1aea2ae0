-- Pending changesets as one list of slots, of one instruction each, and an incoming changeset that crosses them instruction
-- by instruction. Pending is what a client has unsent, and what a server keeps of others for one client.
use Rattle.std.specs.Prelude.{◌≡◌, Bool, true, false, List, [], ◌∷◌, ◌++◌, Option, Some, None, Result, Ok, Err, map, length}
use Rattle.sync_theory.specs.Lists.{kept, and_then}
use Rattle.sync_theory.specs.Changesets.{Changeset, is_later}

-- whose an instruction is, and the instruction, or none where it fell: a slot stays where it is as long as its changeset is pending
abbrev pub Slot : Type 0 → Type 0 → Type 0
Slot T I = T × Option I

-- what is left of a pending instruction and of an incoming one that meets it; none where they mismatch
abbrev pub Meets : Type 0 → Type 0 → Type 0
Meets T I = T → I → I → Option (Option I × Option I)

-- the same where one of them may have fallen
abbrev pub meets_in : {T I : Type 0} → Meets T I → T → Option I → Option I → Option (Option I × Option I)
meets_in meets t x None = Some (x, None)
meets_in meets t None (Some b) = Some (None, Some b)
meets_in meets t (Some a) (Some b) = meets t a b

-- ---- one incoming instruction goes through the slots, in order
abbrev pub through : {T I : Type 0} → Meets T I → List (Slot T I) → Option I → Option (List (Slot T I) × Option I)
through meets [] y = Some ([], y)
through meets (s ∷ ss) y = and_then (meets_in meets s.0 s.1 y) (λ o. and_then (through meets ss o.1) (λ r. Some ((s.0, o.0) ∷ r.0, r.1)))

-- and so does each of several, the later ones through what the earlier ones left
abbrev pub all_through : {T I : Type 0} → Meets T I → List (Slot T I) → List (Option I) → Option (List (Slot T I) × List (Option I))
all_through meets ss [] = Some (ss, [])
all_through meets ss (y ∷ ys) = and_then (through meets ss y) (λ p. and_then (all_through meets p.0 ys) (λ r. Some (r.0, p.1 ∷ r.1)))

-- the instructions that stand
abbrev pub alive : {I : Type 0} → List (Option I) → List I
alive [] = []
alive (x ∷ xs) = kept x ++ alive xs

-- ---- some of the slots
-- those that are marked
abbrev pub pick : {A : Type 0} → List Bool → List A → List A
pick [] ss = []
pick (m ∷ ms) [] = []
pick (true ∷ ms) (s ∷ ss) = s ∷ pick ms ss
pick (false ∷ ms) (s ∷ ss) = pick ms ss

-- these in the places of those
abbrev pub put : {A : Type 0} → List Bool → List A → List A → List A
put [] ss us = ss
put (m ∷ ms) [] us = []
put (true ∷ ms) (s ∷ ss) [] = s ∷ ss
put (true ∷ ms) (s ∷ ss) (u ∷ us) = u ∷ put ms ss us
put (false ∷ ms) (s ∷ ss) us = s ∷ put ms ss us

-- an instruction of that class passes a slot, and neither changes
abbrev pub Passes : {T I : Type 0} → Meets T I → (I → Bool) → Slot T I → Type 0
Passes {I = I} meets Class s = (b : I) → Class b ≡ true → meets_in meets s.0 s.1 (Some b) ≡ Some (s.1, Some b)

-- it passes all that aren't marked
abbrev pub PassesOthers : {T I : Type 0} → Meets T I → (I → Bool) → List Bool → List (Slot T I) → Type 0
PassesOthers meets Class [] [] = Unit {0}
PassesOthers meets Class [] (s ∷ ss) = Passes meets Class s × PassesOthers meets Class [] ss
PassesOthers meets Class (m ∷ ms) [] = Unit {0}
PassesOthers meets Class (true ∷ ms) (s ∷ ss) = PassesOthers meets Class ms ss
PassesOthers meets Class (false ∷ ms) (s ∷ ss) = Passes meets Class s × PassesOthers meets Class ms ss

abbrev pub InClass : {I : Type 0} → (I → Bool) → Option I → Type 0
InClass Class None = Unit {0}
InClass Class (Some b) = Class b ≡ true

-- what is left of an instruction of the class is of the class
abbrev pub StaysInClass : {T I : Type 0} → Meets T I → (I → Bool) → Type 0
StaysInClass {T} {I} meets Class = (t : T) (a b : I) (x y : Option I) → Class b ≡ true → meets t a b ≡ Some (x, y) → InClass Class y

-- ---- changesets
-- a pending changeset: its head, and a slot for each instruction that it was made of
pub record Item (I : Type 0) : Type 0 where
  pub head : Changeset I
  pub slots : List (Option I)

-- as it stands
abbrev pub set_of : {I : Type 0} → Item I → Changeset I
set_of i = record i.head { instrs = alive i.slots }

abbrev pub slots_of : {T I : Type 0} → T → List (Option I) → List (Slot T I)
slots_of t xs = map (λ x. (t, x)) xs

-- the slots of all
abbrev pub flat : {I : Type 0} → List (Item I) → List (Slot (Changeset I) I)
flat [] = []
flat (i ∷ is) = slots_of i.head i.slots ++ flat is

-- the same items, with as many slots
abbrev pub SameItems : {I : Type 0} → List (Item I) → List (Item I) → Type 0
SameItems [] [] = Unit {0}
SameItems [] (j ∷ js) = ⊥
SameItems (i ∷ is) [] = ⊥
SameItems (i ∷ is) (j ∷ js) = (i.head ≡ j.head) × (length i.slots ≡ length j.slots) × SameItems is js

-- slots for as many instructions, taken off the front, and the others
abbrev pub fill : {T I : Type 0} → List (Option I) → List (Slot T I) → List (Option I) × List (Slot T I)
fill [] ss = ([], ss)
fill (x ∷ xs) [] = ([], [])
fill (x ∷ xs) (s ∷ ss) = (s.1 ∷ (fill xs ss).0, (fill xs ss).1)

-- the items as their slots became: each takes as many as it had
abbrev pub refilled : {I : Type 0} → List (Item I) → List (Slot (Changeset I) I) → List (Item I)
refilled [] ss = []
refilled (i ∷ is) ss = record i { slots = (fill i.slots ss).0 } ∷ refilled is (fill i.slots ss).1

abbrev pub with_instrs : {I : Type 0} → Changeset I → List (Option I) → Changeset I
with_instrs e ys = record e { instrs = alive ys }

-- ---- both sides
abbrev pub ok_pair : {A M : Type 0} → Result A M → Option A
ok_pair (Ok p) = Some p
ok_pair (Err m) = None

abbrev pub turned : {A B M : Type 0} → Result (A × B) M → Option (B × A)
turned (Ok p) = Some (p.1, p.0)
turned (Err m) = None

module _ {I M : Type 0} (meet : I → I → Bool → Result (Option I × Option I) M) where
  -- the pending ones are the left side, as what a client has unsent
  abbrev pub on_left : Changeset I → Meets (Changeset I) I
  on_left e t a b = ok_pair (meet a b (is_later t e))

  -- or the right one, as what a server keeps for a client
  abbrev pub on_right : Changeset I → Meets (Changeset I) I
  on_right e t a b = turned (meet b a (is_later e t))
