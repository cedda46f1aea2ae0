-- Changesets of one list instruction each, or of none, as a lane tells them.
use Rattle.std.specs.Prelude.{◌≡◌, ℕ, List, [], ◌∷◌, Option, None, Some}
use Rattle.sync_data.specs.declared.value.Value.{Value}
use Rattle.sync_data.specs.declared.instr.CellName.{CellName}
use Rattle.sync_data.specs.declared.instr.Instr.{Instr}
use Rattle.sync_data.specs.declared.entry.Stamp.{Stamp}
use Rattle.sync_base.specs.Rules.{spot}
use Rattle.sync_theory.specs.Changesets.{Changeset}
use Rattle.list_places.specs.Moves.{instr_at, moved_first}
use Rattle.list_places.specs.declared.places.Does.{Does}
use Rattle.list_places.specs.declared.places.Does.TheVariants.{Inserts, Erases, Updates}
use Rattle.list_places.specs.declared.moves.ListAction.{ListAction}
use Rattle.list_places.specs.declared.moves.ListAction.TheVariants.{Insert, Erase, Update}
use Rattle.list_lane.specs.Lanes.{length_after}
use Rattle.list_lane.specs.declared.op.Op.{Op}

-- what an instruction does at that place of a list of that length
abbrev pub action : Does → ℕ → ℕ → ListAction
action Inserts p n = Insert (spot p n)
action Erases p n = Erase (spot p n)
action Updates p n = Update (spot p n)

-- where an instruction stands, and how long its list is
abbrev pub place_in : ListAction → ℕ
place_in (Insert s) = s.place
place_in (Erase s) = s.place
place_in (Update s) = s.place

abbrev pub prior_in : ListAction → ℕ
prior_in (Insert s) = s.prior
prior_in (Erase s) = s.prior
prior_in (Update s) = s.prior

-- instructions of which the first does what the slot tells, on a list of that length; none where it fell
abbrev pub told : ℕ → Option Op → List Instr → List Instr
told n None is = []
told n (Some a) is = moved_first (action a.does a.place n) is

abbrev pub told_set : ℕ → Option Op → Changeset Instr → Changeset Instr
told_set n s p = record p { instrs = told n s p.instrs }

-- changesets as the slots of a lane tell them, from that length on
abbrev pub told_sets : ℕ → List (Option Op) → List (Changeset Instr) → List (Changeset Instr)
told_sets n ss [] = []
told_sets n [] (p ∷ ps) = p ∷ ps
told_sets n (s ∷ ss) (p ∷ ps) = told_set n s p ∷ told_sets (length_after s n) ss ps

-- ---- instructions that a slot can tell
-- one instruction of that cell which does so, at whatever place
pub record IsOne (c : CellName) (d : Does) (is : List Instr) : Type 0 where
  pub value : Value
  pub place : ℕ
  pub length : ℕ
  pub instrs : is ≡ instr_at c value d place length ∷ []

abbrev pub stamp_of : Changeset Instr → Stamp
stamp_of p = record { ms = p.ms; ident = p.origin }

abbrev pub IsTold : CellName → Option Op → Changeset Instr → Type 0
IsTold c None p = Unit {0}
IsTold c (Some a) p = (stamp_of p ≡ a.stamp) × IsOne c a.does p.instrs

-- so many changesets as slots, each of which its slot can tell
abbrev pub AreTold : CellName → List (Option Op) → List (Changeset Instr) → Type 0
AreTold c [] [] = Unit {0}
AreTold c [] (p ∷ ps) = ⊥
AreTold c (s ∷ ss) [] = ⊥
AreTold c (s ∷ ss) (p ∷ ps) = IsTold c s p × AreTold c ss ps
