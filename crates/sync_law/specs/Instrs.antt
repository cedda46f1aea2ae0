-- Instructions in the form in which the theory of merging takes them.
use Rattle.std.specs.Prelude.{Bool, Option, Result, Ok, Err}
use Rattle.sync_data.specs.declared.instr.Instr.{Instr}
use Rattle.sync_base.specs.declared.answers.Mismatch.{Mismatch}
use Rattle.sync_base.specs.declared.answers.Outcome.{Outcome}
use Rattle.sync_base.specs.Rules.{meeting}

-- both sides of an outcome, as a pair
abbrev pub as_pair : Result Outcome Mismatch → Result (Option Instr × Option Instr) Mismatch
as_pair (Ok o) = Ok (o.left, o.right)
as_pair (Err m) = Err m

-- what is left of two instructions; the flag is whether the left is later
abbrev pub meet : Instr → Instr → Bool → Result (Option Instr × Option Instr) Mismatch
meet a b later = as_pair (meeting a b later)
