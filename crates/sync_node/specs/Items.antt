-- The items of an input: its lines that aren't blank, or its frames, each with its number, and then what ends them.
use Rattle.std.specs.Prelude.{◌≡◌, ℕ, ◌+◌, ◌==◌, Bool, ◌||◌, if◌then◌else◌, List, [], Option, None, Some, IfSome}
use Rattle.std.specs.List.{list_all}
use Rattle.std.specs.Option.{option_map}
use Rattle.sync_io.specs.Reading.{Reading, Ending}
use Rattle.sync_io.specs.Framing.{Framing, FrameEnding}
use Rattle.sync_io.specs.Readers.{readings}
use Rattle.sync_io.specs.FrameReaders.{framings}
use Rattle.sync_io.specs.declared.status.Status.{Status}
use Rattle.sync_io.specs.declared.status.Status.TheVariants as statuses
use Rattle.sync_io.specs.declared.refusal.ReadRefusal.{ReadRefusal}
use Rattle.sync_io.specs.declared.refusal.ReadRefusal.TheVariants as reads
use Rattle.sync_node.specs.declared.reader.Item.{Item}

pub data Items : Type 0 where
  -- the input ends
  Over : Items
  -- the item of this number is too long or cut
  Bad : (number : ℕ) → Items
  -- so many bytes were read that no more are
  Limit : Items
  -- the item of this number, and those behind it
  Next : (number : ℕ) (item : List ℕ) (rest : Items) → Items

-- A blank line has spaces, tabs and carriage returns only. It is counted, and does nothing.
abbrev pub is_blank : List ℕ → Bool
is_blank line = list_all (λ b. (b == 32) || (b == 9) || (b == 13)) line

-- where so many lines were read before
abbrev pub lines_from : ℕ → Reading → Items
lines_from before (Reading.Ends Ending.AtEnd) = Over
lines_from before (Reading.Ends Ending.AtLongLine) = Bad (before + 1)
lines_from before (Reading.Ends Ending.AtLimit) = Limit
lines_from before (Reading.Gives line rest) = if is_blank line then lines_from (before + 1) rest else Next (before + 1) line (lines_from (before + 1) rest)

-- where so many frames were read before
abbrev pub frames_from : ℕ → Framing → Items
frames_from before (Framing.Ends FrameEnding.AtEnd) = Over
frames_from before (Framing.Ends FrameEnding.AtLongFrame) = Bad (before + 1)
frames_from before (Framing.Ends FrameEnding.AtCut) = Bad (before + 1)
frames_from before (Framing.Ends FrameEnding.AtLimit) = Limit
frames_from before (Framing.Gives frame rest) = Next (before + 1) frame (frames_from (before + 1) rest)

-- the lines of a source that has these bytes left, where it tells them, and its frames
abbrev pub lines_of : Option (List ℕ) → Option Items
lines_of left = option_map (lines_from 0) (readings 0 [] left)

abbrev pub frames_of : Option (List ℕ) → Option Items
frames_of left = option_map (frames_from 0) (framings 0 [] left)

-- ---- what a reader of items answers
-- an item, and what is ahead behind it
abbrev pub Read : Option Item → Option Items → Option Items → Type 0
Read None old new = IfSome old (λ items. items ≡ Over)
Read (Some item) old new = old ≡ option_map (Next item.number item.bytes.items) new

-- the run ends where a reader refuses the next item
abbrev pub EndsReading : Status → Option Items → Type 0
EndsReading (statuses.BadInput number) old = IfSome old (λ items. items ≡ Bad number)
EndsReading statuses.InputTooLong old = IfSome old (λ items. items ≡ Limit)
EndsReading statuses.ReadFault old = Unit {0}
EndsReading statuses.NoMemory old = Unit {0}
EndsReading status old = ⊥

-- a further item, or what refuses it
abbrev pub IsFurther : Option Items → Type 0
IsFurther (Some (Next number item rest)) = Unit {0}
IsFurther (Some (Bad number)) = Unit {0}
IsFurther items = ⊥

-- the ends of a run at a read
abbrev pub IsReadStatus : Status → Type 0
IsReadStatus (statuses.BadInput number) = Unit {0}
IsReadStatus statuses.InputTooLong = Unit {0}
IsReadStatus statuses.ReadFault = Unit {0}
IsReadStatus statuses.NoMemory = Unit {0}
IsReadStatus status = ⊥

-- the status where a reader refuses the item of this number
abbrev pub read_status : ℕ → ReadRefusal → Status
read_status number reads.Failed = statuses.ReadFault
read_status number reads.TooLong = statuses.BadInput number
read_status number reads.Cut = statuses.BadInput number
read_status number reads.InputTooLong = statuses.InputTooLong
read_status number reads.NoMemory = statuses.NoMemory
