use Rattle.std.proofs.Common.{refl}
use Rattle.sync_recip.proofs.Making.{none_slot}
use Rattle.sync_recip.proofs.shifted.ShiftedEntry.slot_in.Goals as goal

pub returns-then-is_nothing : goal.returns-then-is_nothing
returns-then-is_nothing c = none_slot c.args.self.now _ c.args.length (c.if-is_nothing.ensures refl)
