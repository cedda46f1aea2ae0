use Rattle.std.proofs.Common.{◌+◌, ap, subst}
use Rattle.std.proofs.lemmas.Result.{err_from_is_err_and}
use Rattle.sync_codec.specs.Valid.{AreInstrs}
use Rattle.sync_client.specs.Refusals.{refusal_seen, IfSeen}
use Rattle.sync_client.specs.Transactions.{Uncommitted}
use Rattle.sync_client.proofs.Committing.{committed_read, edits_refused, made_so, not_small, not_subscribed, numbers_full, old_form, too_large}
use Rattle.sync_client.proofs.replica.Replica.make.Goals as goal

pub returns-in_default-clause-step : goal.returns-in_default-clause-step
returns-in_default-clause-step c = λ past count. too_large past c.args.self.now c.args.ms c.args.edits.items (λ small. not_small (c.in_default.ensures.good.1 small))

pub returns-then-self-clause-step : goal.returns-then-self-clause-step
returns-then-self-clause-step c =
    let valid : AreInstrs c.args.edits.items = subst AreInstrs (ap (λ v. v.instrs) c.in-Ok.ensures.ok) c.in-Ok-encode.ensures.are in
    λ past count. numbers_full past c.args.self.now c.args.ms c.args.edits.items valid count c.if-self.true

pub returns-in_err-check_form-clause-step : goal.returns-in_err-check_form-clause-step
returns-in_err-check_form-clause-step c = λ past count.
    let p = err_from_is_err_and c.from_residual.result c.from_residual.ensures.1 in
    rw (p.1, p.2) (subst (λ is. IfSeen (refusal_seen c.in_err-check_form.field-0.0) (Uncommitted past c.args.self.now c.args.self.now c.args.ms is)) (ap (λ v. v.instrs) c.in-Ok.ensures.ok)
    (old_form past c.args.self.now c.args.ms c.in-Ok.changes.instrs c.in_err-check_form.field-0.0 c.in-Ok-encode.ensures.are count c.if-self.false c.in_err-check_form.ensures.old c.in_err-check_form.ensures.place))

pub returns-in_err-check_tables-clause-step : goal.returns-in_err-check_tables-clause-step
returns-in_err-check_tables-clause-step c = λ past count.
    let p = err_from_is_err_and c.from_residual-in_err-check_tables.result c.from_residual-in_err-check_tables.ensures.1 in
    rw (p.1, p.2) (subst (λ is. IfSeen (refusal_seen c.in_err-check_tables.field-0.0) (Uncommitted past c.args.self.now c.args.self.now c.args.ms is)) (ap (λ v. v.instrs) c.in-Ok.ensures.ok)
    (not_subscribed past c.args.self.now c.args.ms c.in-Ok.changes.instrs c.in_err-check_tables.field-0.0 c.in-Ok-encode.ensures.are count c.if-self.false c.in_ok-check_form.ensures.fine c.in_err-check_tables.ensures.outside c.in_err-check_tables.ensures.place))

pub returns-in_err-act-clause-step : goal.returns-in_err-act-clause-step
returns-in_err-act-clause-step c = λ past count.
    let p = err_from_is_err_and c.from_residual-in_err-act.result c.from_residual-in_err-act.ensures.1 in
    rw (p.1, p.2) (subst (λ is. IfSeen (refusal_seen c.in_err-act.field-0.0) (Uncommitted past c.args.self.now c.act.new.self c.args.ms is)) (ap (λ v. v.instrs) c.in-Ok.ensures.ok)
    (edits_refused past c.args.self.now c.act.new.self c.args.ms c.in-Ok.changes.instrs c.in_err-act.field-0.0 c.in-Ok-encode.ensures.are count c.if-self.false c.in_ok-check_form.ensures.fine c.in_ok-check_tables.ensures.fine c.in_err-act.ensures.refused))

pub returns-clause-step : goal.returns-clause-step
returns-clause-step c = λ past count.
    committed_read past c.args.self.now _ c.args.ms c.args.edits.items c.in-Ok.changes _ c.act.new.self.objects c.in-Ok.ensures.ok c.in-Ok-encode.ensures.are count c.if-self.false c.in_ok-check_form.ensures.fine c.in_ok-check_tables.ensures.fine c.in_ok-act.ensures.acts (ap (λ q. q.count + 1) c.in_ok-act.ensures.others) c.in-Ok-encode.ensures.spelled
    (made_so c.args.self.now c.act.new.self c.in-Ok.changes c.in-Ok-made.unsent c.push.new.self c.args.ms c.args.edits.items c.in_ok-act.ensures.others c.in-Ok.ensures.ok c.in-Ok-made.ensures c.in-Ok-push.ensures.ok)
