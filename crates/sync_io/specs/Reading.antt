-- What a reader of lines gives for an input: its lines in order, and then what ends them.
use Rattle.std.specs.Prelude.{ℕ, Bool, true, false, if◌then◌else◌, List, [], ◌∷◌, ◌++◌, length, nat_lt, ◌==◌}
use Rattle.std.specs.List.{position_or_len}
use Rattle.sync_io.specs.Input.{Input}

-- a line has at most as many bytes, its line feed not among them
abbrev pub max_line : ℕ
max_line = 67108864

abbrev pub line_feed : ℕ
line_feed = 10

-- the place of the first line feed, or the length where there is none
abbrev pub feed_place : List ℕ → ℕ
feed_place bytes = position_or_len (λ b. b == line_feed) bytes

pub data Ending : Type 0 where
  AtEnd : Ending
  AtLongLine : Ending
  AtLimit : Ending

pub data Reading : Type 0 where
  Ends : (ending : Ending) → Reading
  Gives : (line : List ℕ) (rest : Reading) → Reading

-- a whole line, and what follows
abbrev pub given : List ℕ → Reading → Reading
given line rest = if nat_lt max_line (length line) then Ends AtLongLine else Gives line rest

-- bytes behind the last line feed are a line too, unless the input goes on behind them
abbrev pub last_line : Bool → List ℕ → Reading
last_line true line = if nat_lt max_line (length line) then Ends AtLongLine else Ends AtLimit
last_line false [] = Ends AtEnd
last_line false (b ∷ bs) = given (b ∷ bs) (Ends AtEnd)

-- where the line under way has these bytes so far
abbrev pub reading_from : Bool → List ℕ → List ℕ → Reading
reading_from is_cut line [] = last_line is_cut line
reading_from is_cut line (b ∷ bs) = if b == line_feed then given line (reading_from is_cut [] bs) else reading_from is_cut (line ++ b ∷ []) bs

unfoldable pub reading_of : Input → Reading
reading_of input = reading_from input.is_cut [] input.ahead
