-- What a replay leaves is the world after the events of its lines.
use Rattle.std.proofs.Common.{◌≡◌, ℕ, zero, suc, ◌+◌, Bool, true, false, cond, List, [], Option, None, Some, Ok, refl, sym, ap, ◌∙◌, arith}
use Rattle.sync_data.specs.declared.instr.Instr.{Instr}
use Rattle.sync_io.specs.Reading.{Reading, Ends, Gives, AtEnd, AtLongLine, AtLimit}
use Rattle.sync_edits.specs.declared.event.Event.{Event as CodeEvent}
use Rattle.sync_edits.specs.Lines.{event_form_of_line}
use Rattle.sync_model.specs.Worlds.{World, Event, happens, world_after}
use Rattle.sync_exchange.specs.Profile.{the_profile}
use Rattle.sync_world.specs.Events.{event_seen}
use Rattle.sync_node.specs.Items.{is_blank}
use Rattle.sync_top.specs.Runs.{Ran, answered, onto, run_from, Passes}
use Rattle.sync_top.specs.Exchange.{answers, report, answered_form, event_before, events_of}
use Rattle.sync_top.specs.Synced.{first}
use Rattle.sync_top.proofs.RunLemmas.{onto_onto}
use Rattle.sync_top.proofs.Places.{plus_one}

abbrev Run : ℕ → Reading → World → Ran World
Run = run_from answers report

-- the world after a line's event, and then the rest
form_left : (number : ℕ) (w : World) (form : Option CodeEvent) (rest : World → Ran World) (events : List (Event Instr)) → ((v : World) → (rest v).left ≡ world_after the_profile v events)
    → (answered number w (answered_form w number form) rest).left ≡ world_after the_profile w (event_before form events)
form_left number w None rest events on = refl
form_left number w (Some event) rest events on = on (happens the_profile w (event_seen event)).world

line_left : (number : ℕ) (w : World) (blank : Bool) (form : Option CodeEvent) (rest : World → Ran World) (events : List (Event Instr)) → ((v : World) → (rest v).left ≡ world_after the_profile v events)
    → (answered number w (cond blank (Ok ([], w)) (answered_form w number form)) rest).left ≡ world_after the_profile w (cond blank events (event_before form events))
line_left number w true form rest events on = on w
line_left number w false form rest events on = form_left number w form rest events on

pub events_left : (reading : Reading) (before : ℕ) (w : World) → (Run before reading w).left ≡ world_after the_profile w (events_of reading)
events_left (Ends AtEnd) before w = refl
events_left (Ends AtLongLine) before w = refl
events_left (Ends AtLimit) before w = refl
events_left (Gives line rest) before w = line_left (before + 1) w (is_blank line) (event_form_of_line line) (Run (before + 1) rest) (events_of rest) (events_left rest (before + 1))

-- the first lines, as if the input ended behind them
first_on : (count more : ℕ) (reading rest : Reading) (w v : World) (text : List ℕ) → Passes answers count reading w text v rest
    → Run 0 (first (count + more) reading) w ≡ onto text (Run count (first more rest) v)
first_on zero more reading rest w v text p = (λ i. Run 0 (first (zero_plus more i) reading) w) ∙ (λ i. onto (sym p.0 i) (Run 0 (first more (sym p.2 i)) (sym p.1 i)))
  where
    zero_plus : (n : ℕ) → 0 + n ≡ n
    zero_plus n = omega arith
first_on (suc count) more reading rest w v text p =
    (λ i. Run 0 (first (one_more i) reading) w)
    ∙ first_on count (suc more) reading (Gives p.0 rest) w p.2 p.1 p.4
    ∙ ap (λ a. onto p.1 (answered (count + 1) p.2 a (Run (count + 1) (first more rest)))) p.5
    ∙ onto_onto p.1 p.3 (Run (count + 1) (first more rest) v)
    ∙ (λ i. onto (sym p.6 i) (Run (plus_one count i) (first more rest) v))
  where
    one_more : suc count + more ≡ count + suc more
    one_more = omega arith

-- the world behind the first lines is that after their events
pub first_left : (count : ℕ) (reading rest : Reading) (w v : World) (text : List ℕ) → Passes answers count reading w text v rest → v ≡ world_after the_profile w (events_of (first count reading))
first_left count reading rest w v text p =
    sym (ap (λ ran. ran.left) (first_on count 0 reading rest w v text p)) ∙ (λ i. (Run 0 (first (plus_zero i) reading) w).left) ∙ events_left (first count reading) 0 w
  where
    plus_zero : count + 0 ≡ count
    plus_zero = omega arith
