use Rattle.std.proofs.Common.{◌∷◌, ◌++◌, [], map, ap, ◌∙◌}
use Rattle.sync_recip.specs.Lists.{entry_of}
use Rattle.server_memory.specs.Crossing.{passed_seen}
use Rattle.server_memory.proofs.Passing.{given_next}
use Rattle.server_memory.proofs.passed.with_pairs.Goals as goal

pub loop-place-preserved : goal.loop-place-preserved
loop-place-preserved c =
    let made = c.loop-place.made.items in
    let kept = c.in_ok-keep.ensures.ok ∙ ap (λ h. made ++ h ∷ []) c.crossing.ensures in
    given_next c.args.floor (map entry_of c.args.entries.now) (map passed_seen c.args.passed.now) c.args.idents.now c.loop-place.place c.index-idents-place.result c.loop-place-test.true c.index-idents-place.is made c.keep.new.items.items c.in_ok-reciprocal.reciprocal c.in_ok-reciprocal.ensures kept
    ∙ c.loop-place.invariant
