use Rattle.std.proofs.Common.{◌≡◌, ◌-◌, None, length, map, take}
use Rattle.sync_recip.specs.Lists.{entry_of}
use Rattle.sync_model.specs.Fronts.{last_of}
use Rattle.server_memory.proofs.carried.last_number.Given as goal

abbrev pub invariant-loop-behind : goal.invariant-loop-behind
invariant-loop-behind l = last_of l.origin (map entry_of l.entries) None ≡ last_of l.origin (map entry_of (take (length l.entries - l.behind) l.entries)) None
