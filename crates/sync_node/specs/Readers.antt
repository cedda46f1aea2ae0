-- A reader of lines, by the lines that are ahead.
use Rattle.std.specs.Prelude.{◌≡◌, ℕ, ◌+◌, ◌<◌, List, length, Option, None, Some, IfSome, Vec}
use Rattle.std.specs.Option.{option_map}
use Rattle.std.specs.declared.alloc.Global.{Global}
use Rattle.sync_io.specs.Reading.{Reading, Ending}
use Rattle.sync_io.specs.Readers.{readings_of}
use Rattle.sync_node.specs.Items.{Items, lines_from}
use Rattle.sync_node.specs.declared.lines.Lines.{Lines}

-- it has refused nothing, and counts the lines
pub record IsReady (lines : Lines) : Type 0 where
  pub fresh : lines.reader.refused ≡ None
  pub counted : lines.count ≡ lines.reader.lines

abbrev pub lines_ahead : Lines → Option (List ℕ) → Option Items
lines_ahead lines left = option_map (lines_from lines.count) (readings_of lines.reader left)

-- a line that was read, whose number is below 2^32 where it isn't empty, and what the reader gives behind it
abbrev pub LineRead : Option (Vec ℕ Global) → ℕ → Option Reading → Option Reading → Type 0
LineRead None before old new = IfSome old (λ reading. reading ≡ Reading.Ends Ending.AtEnd)
LineRead (Some line) before old new = (old ≡ option_map (Reading.Gives line.items) new) × (0 < length line.items → before + 1 < 4294967296)
