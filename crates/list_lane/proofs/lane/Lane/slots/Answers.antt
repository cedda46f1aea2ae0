use Rattle.list_lane.specs.Flat.{joined}
use Rattle.list_lane.proofs.Rooms.{placed_of}
use Rattle.list_lane.proofs.lane.Lane.slots.Goals as goal

pub slots_of-requires : goal.slots_of-requires
slots_of-requires c = placed_of (joined c.self.inside.bursts.items) c.self.inside.first c.self.invariant.chains c.self.invariant.room
