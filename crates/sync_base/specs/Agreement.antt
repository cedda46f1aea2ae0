-- The laws of two instructions that meet.
use Rattle.std.specs.Prelude.{◌≡◌, ◌⊎◌, Bool, not, Option, None, Some, IsSome, IfOk, Result, Ok, Err}
use Rattle.sync_data.specs.declared.instr.Instr.{Instr}
use Rattle.sync_base.specs.declared.answers.Mismatch.{Mismatch}
use Rattle.sync_base.specs.declared.answers.Mismatch.TheVariants as mismatches
use Rattle.sync_base.specs.declared.answers.Outcome.{Outcome}
use Rattle.sync_base.specs.States.{State, IsState}
use Rattle.sync_base.specs.Checks.{act}
use Rattle.sync_base.specs.Merged.{merge}
use Rattle.sync_base.specs.Rules.{meeting}

-- what is left of an instruction acts
abbrev pub act_rest : Option Instr → State → Option State
act_rest None s = Some s
act_rest (Some i) s = act i s

-- after each side what is left of the other acts, and both ways end in the merged state
pub record Agree (a b : Instr) (later : Bool) (s after_a after_b : State) (o : Outcome) : Type 0 where
  pub defined : IsSome (merge a b later s)
  pub left_first : act_rest o.right after_a ≡ merge a b later s
  pub right_first : act_rest o.left after_b ≡ merge a b later s

-- wherever both act on a state and meet without a mismatch
abbrev pub TwoSided : Instr → Instr → Type 0
TwoSided a b = (later : Bool) (s after_a after_b : State) → IsState s → act a s ≡ Some after_a → act b s ≡ Some after_b → IfOk (meeting a b later) (Agree a b later s after_a after_b)

-- ---- swapped sides have the mirror image for an answer
abbrev pub mirrored : Result Outcome Mismatch → Result Outcome Mismatch
mirrored (Ok o) = Ok (record { left = o.right; right = o.left })
mirrored (Err m) = Err m

abbrev pub Mirrored : Instr → Instr → Type 0
Mirrored a b = (later : Bool) → meeting b a (not later) ≡ mirrored (meeting a b later)

-- ---- which mismatches come
-- the two sides define one table, or one column of one table, differently
abbrev pub Differ : Instr → Instr → Bool → Type 0
Differ a b later = (meeting a b later ≡ Err mismatches.TablesDiffer) ⊎ (meeting a b later ≡ Err mismatches.ColumnsDiffer)

-- where both act on one state, the sizes never differ
abbrev pub SizesFit : Instr → Instr → Type 0
SizesFit a b = (later : Bool) (s after_a after_b : State) → act a s ≡ Some after_a → act b s ≡ Some after_b → ¬ (meeting a b later ≡ Err mismatches.SizesDiffer)
