use Rattle.list_lane.proofs.Rooms.{stays_told}
use Rattle.list_lane.proofs.laws.lanes_stay_told.Goals as goal

pub returns : goal.returns
returns c = stays_told
