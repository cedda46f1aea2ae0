-- A line is UTF-8 that JSON's reader reads, and its data has a form.
use Rattle.std.specs.Prelude.{◌≡◌, ℕ, List, Option, Some, None, Result, Ok, Err, if◌then◌else◌}
use Rattle.std.specs.Str.{is_utf8}
use Rattle.serde_json.specs.Data.{Data}
use Rattle.serde_json.specs.Read.{read}
use Rattle.sync_value_text.specs.Forms.{◌>>=◌}
use Rattle.sync_edits.specs.declared.refusal.LineRefusal.{LineRefusal}
use Rattle.sync_edits.specs.declared.refusal.LineRefusal.TheVariants as refusals
use Rattle.sync_edits.specs.declared.event.Event.{Event}
use Rattle.sync_edits.specs.declared.event.NodeLine.{NodeLine}
use Rattle.sync_edits.specs.Events.{event_form, node_line_form}

unfoldable pub line_data : List ℕ → Option Data
line_data line = if is_utf8 line then read line else None

-- the event that a line is
unfoldable pub event_form_of_line : List ℕ → Option Event
event_form_of_line line = do
  data' ← line_data line
  event_form data'

-- the node line that a line is
unfoldable pub node_form_of_line : List ℕ → Option NodeLine
node_form_of_line line = do
  data' ← line_data line
  node_line_form data'

-- What was answered for a line: what it is, or `BadLine` exactly where it is nothing, unless memory ran out.
abbrev pub Refuses : {X : Type 0} → LineRefusal → Option X → Type 0
Refuses refusals.BadLine form = form ≡ None
Refuses refusals.NoMemory form = Unit {0}

abbrev pub ReadsLine : {X : Type 0} → Result X LineRefusal → Option X → Type 0
ReadsLine (Ok x) form = form ≡ Some x
ReadsLine (Err e) form = Refuses e form
