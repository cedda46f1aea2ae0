use Rattle.list_lane.specs.Flat.{joined}
use Rattle.list_lane.proofs.Rooms.{placed_of}
use Rattle.list_lane.proofs.lane.Lane.pop_first.Goals as goal

pub pop_slot-slot-requires-clause-placed : goal.pop_slot-slot-requires-clause-placed
pop_slot-slot-requires-clause-placed c = placed_of (joined c.self.inside.bursts.items) c.self.inside.first c.self.invariant.chains c.self.invariant.room
