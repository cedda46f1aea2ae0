use Rattle.std.proofs.Common.{length, ◌<◌, sym, subst, arith}
use Rattle.list_lane.specs.Flat.{Placed}
use Rattle.list_lane.proofs.Joins.{placed_at}
use Rattle.list_lane.proofs.bursts.pop_slot.Goals as goal

pub pop_first-requires-clause-placed : goal.pop_first-requires-clause-placed
pop_first-requires-clause-placed c =
    let lt : 0 < length c.loop-bursts.bursts.items = omega (arith, c.loop-bursts-test.true, c.len.ensures, c.len-in-loop-bursts.ensures, c.loop-bursts.bursts.ok.0) in
    placed_at c.loop-bursts.bursts.items 0 _ c.index_mut-first.result.now lt c.index_mut-first.ensures.value (subst Placed (sym c.loop-bursts.invariant) c.requires.placed)
