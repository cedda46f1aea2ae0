use Rattle.std.proofs.Common.{sym, subst}
use Rattle.std.proofs.lemmas.Result.{on_ok_weaker, on_err_weaker}
use Rattle.list_regions.specs.Kept.{Opened}
use Rattle.list_regions.proofs.Meeting.{there}
use Rattle.list_regions.proofs.Ending.{pushed, touched_within}
use Rattle.list_regions.proofs.Alike.{opened_ends, opened_then, pushed_then}
use Rattle.list_regions.proofs.push.push_to.Goals as goal

pub open-requires : goal.open-requires
open-requires c = opened_ends c.args.items.now c.ready.new.items c.args.op c.args.number c.requires c.ready.ensures

pub append_at-requires-clause-there : goal.append_at-requires-clause-there
append_at-requires-clause-there c = let t = c.in_ok-touch.ensures.ok.1 in there c.open.new.items c.in_ok-touch.touch.place t.region t.is

pub append_at-requires-clause-within : goal.append_at-requires-clause-within
append_at-requires-clause-within c = λ q g. touched_within c.open.new.items c.args.op c.in_ok-touch.touch.place c.in_ok-touch.touch.inner q c.in_ok-touch.ensures.ok.1 g

pub returns-clause-ok : goal.returns-clause-ok
returns-clause-ok c =
    let i = c.in_ok-touch.touch.place in
    let inner = c.in_ok-touch.touch.inner in
    let t = c.in_ok-touch.ensures.ok.1 in
    on_ok_weaker c.append_at.result (λ new. pushed_then c.args.items.now c.ready.new.items c.append_at.new.items c.args.op c.args.number c.requires c.ready.ensures
    (pushed c.ready.new.items c.open.new.items c.append_at.new.items c.args.op c.args.number i inner c.in_ok-touch.ensures.ok.0 t (new t.region t.is))) c.append_at.ensures.ok

pub returns-clause-err : goal.returns-clause-err
returns-clause-err c =
    on_err_weaker c.append_at.result (λ same. opened_then c.args.items.now c.ready.new.items c.append_at.new.items c.args.op c.args.number c.requires c.ready.ensures (subst (Opened c.ready.new.items c.args.op) (sym same) c.in_ok-touch.ensures.ok.0)) c.append_at.ensures.err
