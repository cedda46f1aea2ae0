use Rattle.std.proofs.Common.{◌+◌, drop, sym, ap, ◌∙◌}
use Rattle.sync_reset.specs.Saved.{outcome}
use Rattle.sync_reset.proofs.Tried.{one_more, cut_at}
use Rattle.sync_reset.proofs.saving.try_all.Goals as goal

pub loop-place-preserved : goal.loop-place-preserved
loop-place-preserved c =
    let now = c.loop-place.trial in
    let next = c.try_one.new.self in
    let place = c.loop-place.place in
    let instrs = c.args.instrs.now in
    ap (λ k. outcome next.part next.kept.items next.dropped.items k (drop (place + 1) instrs)) (sym (one_more place))
    ∙ c.in_ok-try_one.ensures (drop (place + 1) instrs)
    ∙ ap (outcome now.part now.kept.items now.dropped.items place) (sym (cut_at place instrs c.index-instrs-place.result c.loop-place-test.true c.index-instrs-place.is))
    ∙ c.loop-place.invariant
