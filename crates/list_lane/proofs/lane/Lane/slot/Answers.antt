use Rattle.std.proofs.Common.{sym, subst}
use Rattle.list_lane.specs.Lanes.{LaneOf, Fits, length_before}
use Rattle.list_lane.specs.Flat.{joined}
use Rattle.list_lane.proofs.Rooms.{placed_of, slot_fits}
use Rattle.list_lane.proofs.lane.Lane.slot.Goals as goal

pub slot_in-requires : goal.slot_in-requires
slot_in-requires c = record { placed = placed_of (joined c.self.inside.bursts.items) c.self.inside.first c.self.invariant.chains c.self.invariant.room }

pub returns-clause-fits : goal.returns-clause-fits
returns-clause-fits c =
    let a = c.self.inside in
    subst (λ (v : LaneOf). Fits (length_before c.args.place v.first v.slots) c.slot_in.result) c.self.view_is
    (subst (Fits (length_before c.args.place a.first (joined a.bursts.items))) (sym c.slot_in.ensures) (slot_fits c.args.place a.first (joined a.bursts.items) c.self.invariant.chains))
