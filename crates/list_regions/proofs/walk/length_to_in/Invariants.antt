use Rattle.std.proofs.Common.{◌≡◌, drop}
use Rattle.list_lane.specs.Lanes.{length_before}
use Rattle.list_regions.specs.Regions.{length_to}
use Rattle.list_regions.proofs.walk.length_to_in.Given as goal

abbrev pub invariant-loop-i : goal.invariant-loop-i
invariant-loop-i l = length_to l.number l.region.lane.first l.region.numbers l.region.lane.slots ≡ length_to l.number (length_before l.i l.region.lane.first l.region.lane.slots) (drop l.i l.region.numbers) (drop l.i l.region.lane.slots)
