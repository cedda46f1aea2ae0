-- Breaks and mismatches by their numbers, as messages and outcome lines bear them.
use Rattle.std.specs.Prelude.{◌≡◌, ◌⊎◌, ℕ, Bool, if◌then◌else◌, Option, None, Some, Result, Ok, Err}
use Rattle.sync_data.specs.declared.instr.Instr.{Instr}
use Rattle.sync_base.specs.declared.answers.Break.{Break}
use Rattle.sync_base.specs.declared.answers.Break.TheVariants as breaks
use Rattle.sync_base.specs.declared.answers.Mismatch.{Mismatch}
use Rattle.sync_base.specs.Codes.{break_code, mismatch_code}
use Rattle.sync_base.specs.Effects.{effect_of, is_effect}
use Rattle.sync_base.specs.States.{State}
use Rattle.sync_base.specs.After.{after}
use Rattle.sync_base.specs.Checks.{break_of}
use Rattle.sync_law.specs.Instrs.{meet}

abbrev pub state_or_code : Option Break → State → Result State ℕ
state_or_code None t = Ok t
state_or_code (Some b) t = Err (break_code b)

-- the state after an instruction, or the number of its break; a place outside its list is that of a bad prior
abbrev pub apply : Instr → State → Result State ℕ
apply i s = if is_effect (effect_of i) then state_or_code (break_of s (effect_of i)) (after s (effect_of i)) else Err (break_code breaks.BadPrior)

abbrev pub coded : {A : Type 0} → Result A Mismatch → Result A ℕ
coded (Ok p) = Ok p
coded (Err m) = Err (mismatch_code m)

-- what is left of two instructions, or the number of their mismatch
abbrev pub meet_by_code : Instr → Instr → Bool → Result (Option Instr × Option Instr) ℕ
meet_by_code a b later = coded (meet a b later)

-- the mismatches that come where both act: that of tables, that of columns, and the range
abbrev pub IsNamed : ℕ → Type 0
IsNamed kind = ((kind ≡ 1) ⊎ (kind ≡ 2)) ⊎ (kind ≡ 4)
