use Rattle.std.proofs.Common.{◌≡◌, ◌+◌, ◌-◌, length, sym, ap, ◌∙◌, subst, arith}
use Rattle.list_lane.specs.Lanes.{length_at_end}
use Rattle.list_lane.specs.Bursts.{AllBefore, lift_all}
use Rattle.list_lane.specs.Ops.{lane_later as later}
use Rattle.list_lane.proofs.Rooms.{last_below}
use Rattle.list_lane.proofs.Bounded.{lift_length, pushed_far, counts_few}
use Rattle.list_lane.proofs.burst.Burst.beyond.Goals as goal

pub overflow_add-place : goal.overflow_add-place
overflow_add-place c =
    let a = c.self.inside in
    let few = (counts_few a.slots.items).0 in
    let count = c.self.invariant.bounded.inserted in
    let room = c.requires.room in
    let view = ap length c.self.view_is in
    let lift = lift_length a.slots.items a.up a.down in
    omega (arith, few, count, room, view, lift)

pub overflow_sub-place : goal.overflow_sub-place
overflow_sub-place c =
    let a = c.self.inside in
    let far = pushed_far (later c.args.lane_left) a.slots.items a.up a.down c.args.traveller (subst (AllBefore (later c.args.lane_left) c.args.traveller) (sym c.self.view_is) c.requires.before) in
    let inserted = c.self.invariant.bounded.inserted in
    let erased = c.self.invariant.bounded.erased in
    omega (arith, far, inserted, erased)

pub overflow_cast-result : goal.overflow_cast-result
overflow_cast-result c =
    let a = c.self.inside in
    let far = pushed_far (later c.args.lane_left) a.slots.items a.up a.down c.args.traveller (subst (AllBefore (later c.args.lane_left) c.args.traveller) (sym c.self.view_is) c.requires.before) in
    let inserted = c.self.invariant.bounded.inserted in
    let erased = c.self.invariant.bounded.erased in
    let most = last_below (lift_all a.up a.down a.slots.items) c.args.traveller.place in
    let room = c.requires.room in
    let view = ap length c.self.view_is in
    omega (arith, far, inserted, erased, most, room, view)

pub returns : goal.returns
returns c =
    let a = c.self.inside in
    let far = pushed_far (later c.args.lane_left) a.slots.items a.up a.down c.args.traveller (subst (AllBefore (later c.args.lane_left) c.args.traveller) (sym c.self.view_is) c.requires.before) in
    let inserted = c.self.invariant.bounded.inserted in
    let erased = c.self.invariant.bounded.erased in
    let there : c.args.traveller.place + a.bounds.inserted - a.bounds.erased ≡ length_at_end c.args.traveller.place (lift_all a.up a.down a.slots.items) = omega (arith, far, inserted, erased) in
    ap (λ n. record c.args.traveller { place = n }) (there ∙ ap (length_at_end c.args.traveller.place) c.self.view_is)
