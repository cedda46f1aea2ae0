-- The bytes that a reader holds between two calls, and what it may learn of the next ones.
use Rattle.std.specs.Prelude.{◌≡◌, ℕ, ◌+◌, ◌<◌, ◌≤◌, List, [], ◌++◌, length, Option, IfSome}
use Rattle.sync_io.specs.declared.refusal.ReadRefusal.{ReadRefusal}
use Rattle.sync_io.specs.declared.refusal.ReadRefusal.TheVariants as refusals
use Rattle.sync_io.specs.declared.fill.Fill.{Fill}
use Rattle.sync_io.specs.declared.fill.Fill.TheVariants as fills
use Rattle.sync_io.specs.Input.{max_input}

-- the bytes that were read and not handed out, and how many were read in all
pub record Taken : Type 0 where
  pub held : List ℕ
  pub taken : ℕ

-- bytes up to a start were handed out; no more than were read are kept
pub record IsIntake (start : ℕ) (bytes : List ℕ) (taken : ℕ) : Type 0 where
  pub starts : start ≤ length bytes
  pub few : length bytes ≤ taken + start
  pub most : taken ≤ max_input

-- what a fill met, of a source that then has left
abbrev pub Filled : Fill → Taken → Taken → Option (List ℕ) → Type 0
Filled fills.More old new left = (piece : List ℕ) × (new.held ≡ old.held ++ piece) × (new.taken ≡ old.taken + length piece) × (0 < length piece)
Filled fills.End old new left = (new ≡ old) × IfSome left (λ bytes. bytes ≡ []) × (old.taken < max_input)
Filled fills.Full old new left = (new ≡ old) × (old.taken ≡ max_input)

-- a fill fails with its source, or out of memory
abbrev pub IsFillRefusal : ReadRefusal → Type 0
IsFillRefusal refusals.Failed = Unit {0}
IsFillRefusal refusals.NoMemory = Unit {0}
IsFillRefusal refusal = ⊥
