use Rattle.std.proofs.Common.{suc, ◌≡◌, ◌-◌, length, ◌<◌, arith}
use Rattle.list_lane.proofs.Turns.{ok_then}
use Rattle.list_lane.proofs.Joins.{placed_at, length_at, joined_last}
use Rattle.list_lane.proofs.bursts.push_last.Goals as goal

pub push-requires-clause-placed : goal.push-requires-clause-placed
push-requires-clause-placed c =
    let lt : c.len-place.result - 1 < length c.args.bursts.now.items = omega (arith, c.requires.there, c.len-place.ensures, c.args.bursts.now.ok.0) in
    placed_at c.args.bursts.now.items _ _ c.index_mut-last.result.now lt c.index_mut-last.ensures.value c.requires.placed

pub push-requires-clause-room : goal.push-requires-clause-room
push-requires-clause-room c =
    let lt : c.len-place.result - 1 < length c.args.bursts.now.items = omega (arith, c.requires.there, c.len-place.ensures, c.args.bursts.now.ok.0) in
    let few = length_at c.args.bursts.now.items _ _ c.index_mut-last.result.now lt c.index_mut-last.ensures.value in
    let room = c.requires.room in
    omega (arith, few, room)

pub returns-clause-ok : goal.returns-clause-ok
returns-clause-ok c =
    let last : suc (c.len-place.result - 1) ≡ length c.args.bursts.now.items = omega (arith, c.requires.there, c.len-place.ensures, c.args.bursts.now.ok.0) in
    ok_then c.push.result (λ e. joined_last c.args.bursts.now.items _ _ c.index_mut-last.result.now c.push.new.self c.args.slot last c.index_mut-last.ensures.value e) c.push.ensures.ok
