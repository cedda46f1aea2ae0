-- What stands behind the line under way.
use Rattle.std.specs.Prelude.{◌≡◌, ℕ, ◌<◌, ◌≤◌, List, [], length, Option, IfSome, Result, Ok, Err}
use Rattle.sync_io.specs.declared.refusal.ReadRefusal.{ReadRefusal}
use Rattle.sync_io.specs.declared.refusal.ReadRefusal.TheVariants as refusals
use Rattle.sync_io.specs.declared.found.Found.{Found}
use Rattle.sync_io.specs.declared.found.Found.TheVariants as finds
use Rattle.sync_io.specs.Input.{max_input, Input}
use Rattle.sync_io.specs.Intakes.{Taken}
use Rattle.sync_io.specs.Reading.{feed_place, max_line}

-- of a reader that holds bytes, over a source that then has left
abbrev pub FindsEnd : Result Found ReadRefusal → Taken → Option (List ℕ) → Type 0
FindsEnd (Ok (finds.Feed place)) now left = (place ≡ feed_place now.held) × (place < length now.held) × (place ≤ max_line)
FindsEnd (Ok finds.End) now left = (feed_place now.held ≡ length now.held) × (length now.held ≤ max_line) × IfSome left (λ bytes. bytes ≡ []) × (now.taken < max_input)
FindsEnd (Ok finds.Full) now left = (feed_place now.held ≡ length now.held) × (length now.held ≤ max_line) × (now.taken ≡ max_input)
FindsEnd (Err refusals.TooLong) now left = max_line < feed_place now.held
FindsEnd (Err refusals.Failed) now left = Unit {0}
FindsEnd (Err refusals.NoMemory) now left = Unit {0}
FindsEnd (Err refusal) now left = ⊥

-- the input that is ahead stays as it was, unless the source failed or memory ran out
abbrev pub KeepsInput : {F : Type 0} → Result F ReadRefusal → Option Input → Option Input → Type 0
KeepsInput (Err refusals.Failed) old new = Unit {0}
KeepsInput (Err refusals.NoMemory) old new = Unit {0}
KeepsInput result old new = new ≡ old
