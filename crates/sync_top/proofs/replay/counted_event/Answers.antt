use Rattle.std.proofs.Common.{Result, Ok, Err}
use Rattle.std.specs.Result.{IfOk}
use Rattle.sync_edits.specs.Lines.{ReadsLine, event_form_of_line}
use Rattle.sync_edits.specs.declared.event.Event.{Event}
use Rattle.sync_edits.specs.declared.refusal.LineRefusal.{LineRefusal}
use Rattle.sync_world.specs.Events.{IsCounted}
use Rattle.sync_top.proofs.Counted.{event_counted}
use Rattle.sync_top.proofs.replay.counted_event.Goals as goal

pub returns-clause-counted : goal.returns-clause-counted
returns-clause-counted c = on c.event_of.result c.event_of.ensures
  where
    on : (result : Result Event LineRefusal) → ReadsLine result (event_form_of_line c.args.line.now) → IfOk result IsCounted
    on (Ok event) e = event_counted c.args.line.now event e
    on (Err refusal) e = tt
