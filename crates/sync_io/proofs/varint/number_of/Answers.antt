use Rattle.std.proofs.Common.{◌^◌, arith}
use Rattle.sync_io.proofs.Numbers.{at_none, at_empty, at_last}
use Rattle.sync_io.proofs.varint.number_of.Goals as goal

pub returns-then-room-eq0 : goal.returns-then-room-eq0
returns-then-room-eq0 c = at_none c.args.room c.args.bytes.now (2 ^ 64) c.if-room-eq0.true

pub returns-in-empty : goal.returns-in-empty
returns-in-empty c = at_empty c.args.room c.args.bytes.now (2 ^ 64) (omega arith) c.in-empty.len_below

pub returns-then-byte-lt128 : goal.returns-then-byte-lt128
returns-then-byte-lt128 c = at_last c.args.room c.args.bytes.now (2 ^ 64) (omega arith) c.in-len1-up.len_at_least c.if-byte-lt128.true (omega arith)
