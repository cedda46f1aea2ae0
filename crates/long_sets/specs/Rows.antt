-- Slots of one changeset, and instructions of another that cross them in turn.
use Rattle.std.specs.Prelude.{◌≡◌, ℕ, ◌+◌, Bool, List, [], ◌∷◌, ◌++◌, Option, Some, None, map, take, drop, length, ◌⊎◌}
use Rattle.sync_data.specs.declared.instr.Instr.{Instr}
use Rattle.sync_theory.specs.Lists.{kept}
use Rattle.sync_theory.specs.Changesets.{Changeset, is_later}
use Rattle.sync_law.specs.Instrs.{meet}
use Rattle.slot_law.specs.Slots.{through, all_through, slots_of, on_right, ok_pair}

-- two instructions meet, where they are there; none where they mismatch
abbrev pub both_meet : Bool → Option Instr → Option Instr → Option (Option Instr × Option Instr)
both_meet later None y = Some (None, y)
both_meet later (Some a) None = Some (Some a, None)
both_meet later (Some a) (Some b) = ok_pair (meet a b later)

-- each slot as a list of one instruction, or of none
abbrev pub lists_in : List (Option Instr) → List (List Instr)
lists_in xs = map (λ (x : Option Instr). kept x) xs

-- what is left of a left instruction that crosses the slots of a right changeset, and of these
abbrev pub Crosses : Bool → List (Option Instr) → Option Instr → List (Option Instr) → Option Instr → Type 0
Crosses later xs y us z = (t e : Changeset Instr) → is_later e t ≡ later → through (on_right meet e) (slots_of t xs) y ≡ Some (slots_of t us, z)

-- it meets the slot at a place, and another stands there then
pub record MeetsAt (later : Bool) (place : ℕ) (y : Option Instr) (xs : List (Option Instr)) (z : Option Instr) (us : List (Option Instr)) : Type 0 where
  pub slot : Option Instr
  pub became : Option Instr
  pub is : drop place xs ≡ slot ∷ drop (place + 1) xs
  pub rest : drop (place + 1) us ≡ drop (place + 1) xs
  pub front : take (place + 1) us ≡ take place xs ++ became ∷ []
  pub met : both_meet later y slot ≡ Some (z, became)
  pub size : length us ≡ length xs

-- several instructions, those of them that are there, go through the slots in turn
abbrev pub CrossInTurn : Bool → List (Option Instr) → List (Option Instr) → List (Option Instr) → List (Option Instr) → Type 0
CrossInTurn later ys xs zs us = (t e : Changeset Instr) → is_later e t ≡ later → all_through (on_right meet e) (slots_of t xs) ys ≡ Some (slots_of t us, zs)

-- each slot has what was written for it, or nothing
abbrev pub IsPart : List (Option Instr) → List Instr → Type 0
IsPart [] [] = Unit {0}
IsPart [] (w ∷ ws) = ⊥
IsPart (x ∷ xs) [] = ⊥
IsPart (x ∷ xs) (w ∷ ws) = ((x ≡ None) ⊎ (x ≡ Some w)) × IsPart xs ws

-- a slot for each instruction
abbrev pub somes : List Instr → List (Option Instr)
somes is = map (λ (i : Instr). Some i) is
