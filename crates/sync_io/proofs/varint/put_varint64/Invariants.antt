use Rattle.std.proofs.Common.{◌≡◌, ◌++◌}
use Rattle.sync_io.specs.Varints.{varint}
use Rattle.sync_io.proofs.varint.put_varint64.Given as goal

-- what is written and the rest are the whole
abbrev pub invariant-bytes : goal.invariant-bytes
invariant-bytes l = l.out.items ++ varint l.rest ≡ l.initial.out.items ++ varint l.number

abbrev pub decreases-bytes : goal.decreases-bytes
decreases-bytes l = l.rest
