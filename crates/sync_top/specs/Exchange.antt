-- An exchange of clients with one server, line by line: what answers each event, and the world afterwards.
use Rattle.std.specs.Prelude.{◌≡◌, ℕ, Bool, true, false, ◌||◌, if◌then◌else◌, List, [], ◌∷◌, codes, Option, None, Some, Result, Ok, Err}
use Rattle.std.specs.Str.{bytes_eq}
use Rattle.sync_data.specs.declared.instr.Instr.{Instr}
use Rattle.sync_io.specs.Input.{input_ahead}
use Rattle.sync_io.specs.Reading.{Reading, Ends, Gives, AtEnd, reading_of}
use Rattle.sync_edits.specs.declared.event.Event.{Event as CodeEvent}
use Rattle.sync_edits.specs.Lines.{event_form_of_line}
use Rattle.sync_model.specs.Worlds.{Event, Outcome, World, happens, is_there}
use Rattle.sync_model.specs.Reports.{report_of}
use Rattle.sync_exchange.specs.Profile.{the_profile}
use Rattle.sync_world.specs.Events.{event_seen}
use Rattle.sync_words.specs.Reports.{report_text}
use Rattle.sync_words.specs.Words.{outcome_line, words_text}
use Rattle.sync_top.specs.declared.command.LineEnd.{LineEnd}
use Rattle.sync_top.specs.declared.command.LineEnd.TheVariants as line_ends
use Rattle.sync_node.specs.Items.{is_blank}

-- ---- a line and its answer
abbrev pub told : ℕ → Outcome → List ℕ × World
told number o = (outcome_line number (words_text o.words), o.world)

abbrev pub answered_form : World → ℕ → Option CodeEvent → Result (List ℕ × World) LineEnd
answered_form w number None = Err line_ends.BadLine
answered_form w number (Some event) = Ok (told number (happens the_profile w (event_seen event)))

abbrev pub answers : World → ℕ → List ℕ → Result (List ℕ × World) LineEnd
answers w number line = answered_form w number (event_form_of_line line)

abbrev pub report : World → List ℕ
report w = report_text (report_of the_profile w)

-- ---- the events of an input
abbrev pub event_before : Option CodeEvent → List (Event Instr) → List (Event Instr)
event_before None events = []
event_before (Some event) events = event_seen event ∷ events

-- those of its lines, up to the first that is none
abbrev pub events_of : Reading → List (Event Instr)
events_of (Ends ending) = []
events_of (Gives line rest) = if is_blank line then events_of rest else event_before (event_form_of_line line) (events_of rest)

-- ---- the words of the program
abbrev pub is_replay : List (List ℕ) → Bool
is_replay [] = false
is_replay (word ∷ []) = bytes_eq word (codes "replay")
is_replay (word ∷ words) = false

-- ---- inputs whose lines are all events, or blank
abbrev pub is_valid : List ℕ → Bool
is_valid line = is_blank line || is_there (event_form_of_line line)

abbrev pub IsValidReading : Reading → Type 0
IsValidReading (Ends AtEnd) = Unit {0}
IsValidReading (Ends ending) = ⊥
IsValidReading (Gives line rest) = (is_valid line ≡ true) × IsValidReading rest

-- of a source that tells its bytes
abbrev pub IsValidInput : Option (List ℕ) → Type 0
IsValidInput None = ⊥
IsValidInput (Some bytes) = IsValidReading (reading_of (input_ahead 0 [] bytes))
