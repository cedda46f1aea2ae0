-- What a reader of lines is seen as, and what a call answers.
use Rattle.std.specs.Prelude.{◌≡◌, ℕ, ◌+◌, ◌<◌, ◌≤◌, List, length, Vec, Option, None, Some, IfSome, Result, Ok, Err}
use Rattle.std.specs.Option.{option_map}
use Rattle.std.specs.declared.alloc.Global.{Global}
use Rattle.sync_io.specs.declared.refusal.ReadRefusal.{ReadRefusal}
use Rattle.sync_io.specs.declared.refusal.ReadRefusal.TheVariants as refusals
use Rattle.sync_io.specs.Input.{input_of, max_input}
use Rattle.sync_io.specs.Reading.{Reading, Ends, Gives, AtEnd, AtLongLine, AtLimit, reading_of}

-- the bytes that were read and not handed out, how many were read in all, how many lines were handed out, and the refusal that the reader keeps to
pub record LineState : Type 0 where
  pub held : List ℕ
  pub taken : ℕ
  pub lines : ℕ
  pub refused : Option ReadRefusal

-- what a reader over a source gives, where the source tells the bytes that it has left
abbrev pub readings : ℕ → List ℕ → Option (List ℕ) → Option Reading
readings taken held left = option_map reading_of (input_of taken held left)

abbrev pub readings_of : LineState → Option (List ℕ) → Option Reading
readings_of reader left = readings reader.taken reader.held left

-- The answer is the first of what the reader gives over its source, before the call, and the rest is what it gives afterwards.
abbrev pub AnswersLine : Result (Option (Vec ℕ Global)) ReadRefusal → Option Reading → Option Reading → Type 0
AnswersLine (Ok None) old new = IfSome old (λ reading. reading ≡ Ends AtEnd) × (new ≡ old)
AnswersLine (Ok (Some line)) old new = old ≡ option_map (Gives line.items) new
AnswersLine (Err refusals.TooLong) old new = IfSome old (λ reading. reading ≡ Ends AtLongLine)
AnswersLine (Err refusals.InputTooLong) old new = IfSome old (λ reading. reading ≡ Ends AtLimit)
AnswersLine (Err refusals.Cut) old new = ⊥
AnswersLine (Err refusals.Failed) old new = Unit {0}
AnswersLine (Err refusals.NoMemory) old new = Unit {0}

-- Fewer lines were handed out than bytes, of which no more than the limit were read.
pub record IsCounted (lines : ℕ) (held : List ℕ) (taken : ℕ) : Type 0 where
  pub fewer : lines + length held ≤ taken
  pub most : taken ≤ max_input

-- how many lines were handed out, of which one that isn't empty has a number below 2^32
abbrev pub CountsLine : Result (Option (Vec ℕ Global)) ReadRefusal → ℕ → ℕ → Type 0
CountsLine (Ok None) old new = new ≡ old
CountsLine (Ok (Some line)) old new = (new ≡ old + 1) × (0 < length line.items → new < 4294967296)
CountsLine (Err refusals.TooLong) old new = (new ≡ old) × (old + 1 < 4294967296)
CountsLine (Err refusals.Cut) old new = ⊥
CountsLine (Err refusal) old new = new ≡ old
