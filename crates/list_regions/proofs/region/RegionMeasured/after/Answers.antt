use Rattle.std.proofs.Common.{arith}
use Rattle.list_lane.proofs.Rooms.{last_below}
use Rattle.list_regions.proofs.region.RegionMeasured.after.Goals as goal

pub overflow_add-result : goal.overflow_add-result
overflow_add-result c =
    let low = last_below c.self.inside.lane.slots c.self.inside.lane.first in
    let last = c.last.ensures in
    let room = c.self.invariant.room in
    omega (arith, low, last, room)
