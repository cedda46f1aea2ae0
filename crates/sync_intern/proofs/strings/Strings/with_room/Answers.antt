use Rattle.std.specs.List.{IsDistinct}
use Rattle.sync_intern.proofs.strings.Strings.with_room.Goals as goal

pub invariant_of-result : goal.invariant_of-result
unfolding IsDistinct
invariant_of-result c = rw c.in-Ok.ensures.items (tt, tt, tt)
