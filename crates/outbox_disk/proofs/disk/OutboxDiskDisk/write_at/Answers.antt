use Rattle.std.proofs.Common.{◌≡◌, ◌++◌, ◌∷◌, [], rules}
use Rattle.sync_disk.specs.Strokes.{done}
use Rattle.sync_disk.specs.Strokes.Act.{Write}
use Rattle.sync_disk.specs.contracts.memory.MemoryDiskDisk.TheImpl.{ghosts as memory}
use Rattle.outbox_disk.specs.Outbox.{act_bytes}
use Rattle.outbox_disk.proofs.Joined.{one_more}
use Rattle.outbox_disk.proofs.disk.OutboxDiskDisk.write_at.Goals as goal

pub invariant_of-self-in-Ok-write_at-clause-all_asked : goal.invariant_of-self-in-Ok-write_at-clause-all_asked
invariant_of-self-in-Ok-write_at-clause-all_asked c =
    let act = Write c.args.place c.args.bytes.now in
    let old = c.args.self.now in
    let added : c.add_write.new.outbox.items ≡ old.outbox.items ++ act_bytes act = search rules in
    let asked : memory.strokes c.write_at.new.self ≡ memory.strokes old.disk ++ done act ∷ [] = search rules in
    one_more act (memory.strokes old.disk) (memory.strokes c.write_at.new.self) old.outbox.items c.add_write.new.outbox.items old.all_asked added asked
