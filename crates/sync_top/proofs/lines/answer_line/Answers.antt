use Rattle.std.proofs.Common.{refl, [], cond, Ok, sym, subst, ◌∙◌}
use Rattle.sync_top.specs.Runs.{Answered}
use Rattle.sync_top.proofs.RunLemmas.{took_none}
use Rattle.sync_top.proofs.lines.answer_line.Goals as goal

pub returns-then-is_blank-clause-ok : goal.returns-then-is_blank-clause-ok
returns-then-is_blank-clause-ok g c s holds =
    let blank = sym c.is_blank.ensures ∙ c.if-is_blank.true in
    let sink = g.K.Sink.taken c.args.sink.now in
    subst (λ b. Answered (cond b (Ok ([], s)) (g.C.Command.answers s c.args.number c.args.line.now)) (λ t. g.C.Command.holds t c.args.command.now) sink sink)
    (sym blank) ([], s, refl, took_none sink, holds)
