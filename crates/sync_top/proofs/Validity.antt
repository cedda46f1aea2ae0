-- A replay of valid lines is done.
use Rattle.std.proofs.Common.{◌≡◌, ℕ, ◌+◌, Bool, true, false, ◌||◌, cond, List, [], Option, None, Some, Result, Ok, Err, refl}
use Rattle.sync_io.specs.Input.{input_ahead}
use Rattle.sync_io.specs.Readers.{readings}
use Rattle.sync_io.specs.Reading.{Reading, Ends, Gives, AtEnd, AtLongLine, AtLimit, reading_of}
use Rattle.sync_io.specs.declared.status.Status.{Status}
use Rattle.sync_io.specs.declared.status.Status.TheVariants as statuses
use Rattle.sync_edits.specs.declared.event.Event.{Event}
use Rattle.sync_edits.specs.Lines.{event_form_of_line}
use Rattle.sync_model.specs.Worlds.{World, is_there}
use Rattle.sync_top.specs.declared.command.LineEnd.{LineEnd}
use Rattle.sync_node.specs.Items.{is_blank}
use Rattle.sync_node.specs.Texts.{IsDoneOrNoMemory}
use Rattle.sync_top.specs.Runs.{Ran, answered, answer_to, run_from, runs, FollowsTold, IsRunStatus}
use Rattle.sync_top.specs.Exchange.{answers, report, answered_form, IsValidReading, IsValidInput}
use Rattle.sync_top.proofs.RunLemmas.{done_or}

-- an answer that isn't an end
abbrev pub Answers : Result (List ℕ × World) LineEnd → Type 0
Answers (Ok answer) = Unit {0}
Answers (Err end) = ⊥

form_answers : (number : ℕ) (w : World) (form : Option Event) → is_there form ≡ true → Answers (answered_form w number form)
form_answers number w None e = cc
form_answers number w (Some event) e = tt

valid_answers : (number : ℕ) (w : World) (line : List ℕ) (blank : Bool) → (blank || is_there (event_form_of_line line)) ≡ true → Answers (cond blank (Ok ([], w)) (answered_form w number (event_form_of_line line)))
valid_answers number w line true e = tt
valid_answers number w line false e = form_answers number w (event_form_of_line line) e

goes_on : (number : ℕ) (w : World) (answer : Result (List ℕ × World) LineEnd) (rest : World → Ran World) → Answers answer → ((v : World) → (rest v).status ≡ statuses.Done) → (answered number w answer rest).status ≡ statuses.Done
goes_on number w (Ok answer) rest ok done = done answer.1
goes_on number w (Err end) rest ok done = absurd ok

pub valid_done : (before : ℕ) (reading : Reading) (w : World) → IsValidReading reading → (run_from answers report before reading w).status ≡ statuses.Done
valid_done before (Ends AtEnd) w valid = refl
valid_done before (Ends AtLongLine) w valid = absurd valid
valid_done before (Ends AtLimit) w valid = absurd valid
valid_done before (Gives line rest) w valid =
    goes_on (before + 1) w (answer_to answers w (before + 1) line) (run_from answers report (before + 1) rest) (valid_answers (before + 1) w line (is_blank line) valid.0) (λ v. valid_done (before + 1) rest v valid.1)

pub complete : (status : Status) (left old new : Option (List ℕ)) (w : World) → FollowsTold status (runs answers report 0 (readings 0 [] left) w) old new → IsValidInput left → IsRunStatus status → (status ≡ statuses.ReadFault → ⊥) → (status ≡ statuses.WriteFault → ⊥) → IsDoneOrNoMemory status
complete status None old new w follows valid only read write = absurd valid
complete status (Some bytes) old new w follows valid only read write = done_or {C = World} status (run_from answers report 0 (reading_of (input_ahead 0 [] bytes)) w) old new follows (valid_done 0 (reading_of (input_ahead 0 [] bytes)) w valid) only read write
