-- What a reader of frames is seen as, and what a call answers.
use Rattle.std.specs.Prelude.{◌≡◌, ℕ, ◌+◌, ◌*◌, ◌<◌, ◌≤◌, List, [], length, Vec, Option, None, Some, IfSome, Result, Ok, Err}
use Rattle.std.specs.Option.{option_map}
use Rattle.std.specs.declared.alloc.Global.{Global}
use Rattle.sync_io.specs.declared.refusal.ReadRefusal.{ReadRefusal}
use Rattle.sync_io.specs.declared.refusal.ReadRefusal.TheVariants as refusals
use Rattle.sync_io.specs.declared.framing.Ahead.{Ahead}
use Rattle.sync_io.specs.declared.framing.Ahead.TheVariants as finds
use Rattle.sync_io.specs.declared.framing.Front.TheVariants.{Part, Long, Whole}
use Rattle.sync_io.specs.Input.{input_of, max_input}
use Rattle.sync_io.specs.Intakes.{Taken}
use Rattle.sync_io.specs.Framing.{Framing, Ends, Gives, AtEnd, AtLongFrame, AtCut, AtLimit, front_of, framing_of}

-- the bytes that were read and not handed out, how many were read in all, how many frames were handed out, and the refusal that the reader keeps to
pub record FrameState : Type 0 where
  pub held : List ℕ
  pub taken : ℕ
  pub frames : ℕ
  pub refused : Option ReadRefusal

-- what a reader over a source gives, where the source tells the bytes that it has left
abbrev pub framings : ℕ → List ℕ → Option (List ℕ) → Option Framing
framings taken held left = option_map framing_of (input_of taken held left)

abbrev pub framings_of : FrameState → Option (List ℕ) → Option Framing
framings_of reader left = framings reader.taken reader.held left

-- The answer is the first of what the reader gives over its source, before the call, and the rest is what it gives afterwards.
abbrev pub AnswersFrame : Result (Option (Vec ℕ Global)) ReadRefusal → Option Framing → Option Framing → Type 0
AnswersFrame (Ok None) old new = IfSome old (λ framing. framing ≡ Ends AtEnd) × (new ≡ old)
AnswersFrame (Ok (Some frame)) old new = old ≡ option_map (Gives frame.items) new
AnswersFrame (Err refusals.TooLong) old new = IfSome old (λ framing. framing ≡ Ends AtLongFrame)
AnswersFrame (Err refusals.Cut) old new = IfSome old (λ framing. framing ≡ Ends AtCut)
AnswersFrame (Err refusals.InputTooLong) old new = IfSome old (λ framing. framing ≡ Ends AtLimit)
AnswersFrame (Err refusals.Failed) old new = Unit {0}
AnswersFrame (Err refusals.NoMemory) old new = Unit {0}

-- Each frame that was handed out had a length of four bytes, and no more bytes than the limit were read.
pub record IsFrameCounted (frames : ℕ) (held : List ℕ) (taken : ℕ) : Type 0 where
  pub fewer : 4 * frames + length held ≤ taken
  pub most : taken ≤ max_input

-- how many frames were handed out
abbrev pub CountsFrame : Result (Option (Vec ℕ Global)) ReadRefusal → ℕ → ℕ → Type 0
CountsFrame (Ok (Some frame)) old new = new ≡ old + 1
CountsFrame (Ok None) old new = new ≡ old
CountsFrame (Err refusal) old new = new ≡ old

-- of a reader that holds bytes, over a source that then has left
abbrev pub FindsFrame : Result Ahead ReadRefusal → Taken → Option (List ℕ) → Type 0
FindsFrame (Ok (finds.Frame size)) now left = front_of now.held ≡ Whole size
FindsFrame (Ok finds.End) now left = (front_of now.held ≡ Part) × IfSome left (λ bytes. bytes ≡ []) × (now.taken < max_input)
FindsFrame (Ok finds.Full) now left = (front_of now.held ≡ Part) × (now.taken ≡ max_input)
FindsFrame (Err refusals.TooLong) now left = front_of now.held ≡ Long
FindsFrame (Err refusals.Failed) now left = Unit {0}
FindsFrame (Err refusals.NoMemory) now left = Unit {0}
FindsFrame (Err refusal) now left = ⊥
