use Rattle.std.proofs.Common.{Err, sym, subst, arith}
use Rattle.sync_exchange.specs.Profile.{the_profile}
use Rattle.sync_model.specs.Parts.{merge_by}
use Rattle.server_memory.specs.Kept.{parts}
use Rattle.server_memory.specs.Merging.{Merges, change_of}
use Rattle.server_memory.specs.Refusals.{refusal_seen}
use Rattle.server_memory.specs.declared.refusal.ChangeRefusal.{ChangeRefusal}
use Rattle.server_memory.proofs.Admitting.{change_refused, change_says, change_skips, change_unknown}
use Rattle.server_memory.proofs.kept.Kept.admit_change.Goals as goal

pub returns-in-None : goal.returns-in-None
returns-in-None c = change_unknown c.args.self.now c.args.origin (change_of c.args.head c.args.body.now) (sym c.in-None.ensures.given)

pub returns-then-head-count : goal.returns-then-head-count
returns-then-head-count c = change_skips c.args.self.now c.args.origin c.in-Some.given.now (change_of c.args.head c.args.body.now) (sym c.in-Some.ensures.given) (λ e. c.if-head-count.true (omega (arith, e, c.count-count.ensures)))

pub returns-in-Ok : goal.returns-in-Ok
returns-in-Ok c = change_says c.args.self.now c.merge.new.self c.args.origin c.in-Some.given.now (change_of c.args.head c.args.body.now) c.in-Ok.form (sym c.in-Some.ensures.given) (omega (arith, c.if-head-count.false, c.count-count.ensures))
    (c.in-Ok.ensures.merged c.in-Some.given.now (sym c.in-Some.ensures.given)) c.in-Ok.ensures.form

pub returns-in-Err-Refused : goal.returns-in-Err-Refused
returns-in-Err-Refused c =
    let h = change_of c.args.head c.args.body.now in
    let g = c.in-Some.given.now in
    change_refused c.args.self.now c.args.origin g h (refusal_seen c.in-Err-Refused.field-0-0) (sym c.in-Some.ensures.given)
    (subst (λ (e : ChangeRefusal). Merges (Err e) (merge_by the_profile (parts c.args.self.now) c.args.origin g h) c.args.origin h (parts c.args.self.now) (parts c.merge.new.self)) c.in-Err-Refused.field-0-is (c.in-Err-Refused.ensures.merged g (sym c.in-Some.ensures.given))).0
