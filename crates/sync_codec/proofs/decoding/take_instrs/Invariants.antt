use Rattle.std.proofs.Common.{◌≡◌, ◌-◌, ◌≤◌, [], length}
use Rattle.sync_data.specs.Payload.{payload_all}
use Rattle.sync_codec.specs.Decoding.{instrs_at}
use Rattle.sync_codec.proofs.decoding.take_instrs.Given as goal

abbrev pub invariant-loop : goal.invariant-loop
invariant-loop l = (instrs_at (l.count - l.counter) l.instrs.items l.reader ≡ instrs_at l.count [] l.fn.reader) × (l.payload ≡ payload_all l.instrs.items) × (l.payload ≤ 4194304) × (length l.instrs.items ≡ l.counter)
