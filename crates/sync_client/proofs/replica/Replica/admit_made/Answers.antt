use Rattle.std.proofs.Common.{not, ap, sym, ◌∙◌, arith}
use Rattle.sync_client.proofs.Admitting.{made_admitted, made_refused, none_of}
use Rattle.sync_client.proofs.replica.Replica.admit_made.Goals as goal

pub returns : goal.returns
returns c = λ past was.
    made_admitted past c.args.self.now c.act.new.self _ c.args.number c.args.ms c.args.body.now c.in-Ok.changes c.in_ok-unsent.unsent c.in-Ok.ensures.read (sym c.is_beyond.ensures ∙ c.if-is_beyond.false) (c.outside.ensures.none (none_of c.outside.result (sym c.is_some.ensures ∙ c.if-is_some.false))) (c.is_none.ensures ∙ ap not c.if-is_none.false) was c.if-number-self.false (omega (arith, c.ranges.number.fits))
    c.in-Ok-act.ensures.acts c.in-Ok-act.ensures.others c.in_ok-unsent.ensures (ap (λ us. record c.act.new.self { count = c.args.number; unsent = us }) c.in_ok-push.ensures.ok)

pub returns-in-Err-Break : goal.returns-in-Err-Break
returns-in-Err-Break c = λ past was.
    made_refused past c.args.self.now c.act.new.self c.args.number c.args.ms c.args.body.now c.in-Ok.changes c.in-Err-Break.field-0 c.in-Err-Break.field-0-0 c.in-Err-Break.field-0-1 c.in-Ok.ensures.read (sym c.is_beyond.ensures ∙ c.if-is_beyond.false) (c.outside.ensures.none (none_of c.outside.result (sym c.is_some.ensures ∙ c.if-is_some.false))) c.in-Err-Break.field-0-is c.in-Err-Break.ensures.refused
