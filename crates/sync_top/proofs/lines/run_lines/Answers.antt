use Rattle.std.proofs.Common.{[], subst, sym}
use Rattle.sync_io.specs.Readers.{readings}
use Rattle.sync_top.specs.Runs.{HasRun}
use Rattle.sync_top.proofs.Places.{flush_ends}
use Rattle.sync_top.proofs.lines.run_lines.Goals as goal

pub returns-in-Err-clause-run : goal.returns-in-Err-clause-run
returns-in-Err-clause-run g c s holds =
    let stands : g.C.Command.State → Type 0 = λ t. g.C.Command.holds t c.answer_all-status.new.command in
    let old = g.K.Sink.taken c.args.sink.now in
    let new = g.K.Sink.taken c.flush.new.self in
    subst (λ status. HasRun g.C.Command.answers g.C.Command.report stands status (readings 0 [] (g.S.Source.left c.args.source.now)) s old new) (sym c.flush_status.ensures)
    (flush_ends g.C.Command.answers g.C.Command.report stands c.answer_all-status.result c.in-Err.refusal _ s old _ new c.flush.ensures.bytes (c.answer_all-status.ensures.run s holds))
