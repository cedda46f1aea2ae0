use Rattle.std.proofs.Common.{◌≡◌, ◌+◌, List, drop, length, refl, sym, ◌∙◌, subst, arith}
use Rattle.std.specs.Prelude.{◌⊎◌}
use Rattle.std.proofs.lemmas.Result.{err_from_is_err_and}
use Rattle.sync_data.specs.Payload.{Changes}
use Rattle.sync_journal.proofs.Gates.{left_at, none_left}
use Rattle.sync_snapshot.specs.Grown.{lists_of}
use Rattle.sync_client.specs.Parts.{Ended, Named}
use Rattle.sync_client.proofs.States.{close_refused, closed_on, closes_none, closes_some, end_refused, run_refused}
use Rattle.sync_client.proofs.replica.Replica.admit_parts.Goals as goal

pub returns-in_err-run : goal.returns-in_err-run
returns-in_err-run c = λ past k.
    let p = err_from_is_err_and c.from_residual.result c.from_residual.ensures.1 in
    rw (p.1, p.2) (run_refused c.args.within past c.args.self.now k c.allows-second.result c.allows-second.ensures c.args.self.now (drop c.args.place c.args.records.now) (λ n. drop (c.args.place + n) c.args.records.now) c.args.place c.in_err-run.field-0.0 c.in_err-run.ensures.run)

pub returns-in-Ok : goal.returns-in-Ok
returns-in-Ok c = λ past k.
    let n_is : c.len.result ≡ length c.in_ok-run.run'.items = (let e = c.len.ensures in let ok = c.in_ok-run.run'.ok.0 in omega (arith, e, ok)) in
    end_refused c.args.within past c.args.self.now k c.allows-second.result c.allows-second.ensures c.args.records.now c.args.place c.in_ok-run.run'.items c.len.result n_is c.in_ok-run.ensures.run c.in-Ok.number
    (none_left c.args.records.now (c.args.place + c.len.result) (let t = c.if-behind-count.true in omega (arith, t, c.len-count.ensures)))
    (subst (λ (l : List Changes). Named (lists_of l) c.in-Ok.number ⊎ Ended (lists_of l) c.in-Ok.number) c.as_slice.ensures.value c.in-Ok.ensures.number)

pub returns-in-Ok-None : goal.returns-in-Ok-None
returns-in-Ok-None c = λ past k.
    let n_is : c.len.result ≡ length c.in_ok-run.run'.items = (let e = c.len.ensures in let ok = c.in_ok-run.run'.ok.0 in omega (arith, e, ok)) in
    closed_on c.args.within past c.args.self.now k c.allows-second.result c.allows-second.ensures c.args.records.now c.args.place c.in_ok-run.run'.items c.len.result n_is c.in_ok-run.ensures.run c.at.result.now
    (left_at c.args.records.now (c.args.place + c.len.result) c.at.result.now (let w = c.in_ok-run.ensures.within in let t = c.if-behind-count.false in omega (arith, w, t, n_is, c.len-count.ensures)) c.at.ensures) c.close.new.self
    (closes_none c.args.within c.args.self.now c.close.new.self c.in_ok-run.run'.items c.as_slice-2.result.now c.at.result.now c.at.result.now c.in-Ok-None.field-0 c.as_slice-2.ensures.value refl c.in-Ok-None.field-0-is c.in-Ok-None.ensures.closes)

pub returns-in-Ok-Some : goal.returns-in-Ok-Some
returns-in-Ok-Some c = λ past k.
    let n_is : c.len.result ≡ length c.in_ok-run.run'.items = (let e = c.len.ensures in let ok = c.in_ok-run.run'.ok.0 in omega (arith, e, ok)) in
    close_refused c.args.within past c.args.self.now k c.allows-second.result c.allows-second.ensures c.args.records.now c.args.place c.in_ok-run.run'.items c.len.result n_is c.in_ok-run.ensures.run c.at.result.now
    (left_at c.args.records.now (c.args.place + c.len.result) c.at.result.now (let w = c.in_ok-run.ensures.within in let t = c.if-behind-count.false in omega (arith, w, t, n_is, c.len-count.ensures)) c.at.ensures) c.in-Ok-Some.number c.requires.of_state
    (closes_some c.args.within c.args.self.now c.close.new.self c.in_ok-run.run'.items c.as_slice-2.result.now c.at.result.now c.at.result.now c.in-Ok-Some.field-0 c.in-Ok-Some.number c.as_slice-2.ensures.value refl c.in-Ok-Some.field-0-is c.in-Ok-Some.ensures.closes)
