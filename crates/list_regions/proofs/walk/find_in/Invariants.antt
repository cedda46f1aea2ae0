use Rattle.std.proofs.Common.{◌≡◌, drop}
use Rattle.list_regions.specs.Regions.{find}
use Rattle.list_regions.proofs.walk.find_in.Given as goal

abbrev pub invariant-loop-i : goal.invariant-loop-i
invariant-loop-i l = find l.number l.region.numbers l.region.lane.slots ≡ find l.number (drop l.i l.region.numbers) (drop l.i l.region.lane.slots)
