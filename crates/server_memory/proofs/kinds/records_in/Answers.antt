use Rattle.std.proofs.Common.{arith}
use Rattle.server_memory.proofs.Spelled.{read_more}
use Rattle.server_memory.proofs.kinds.records_in.Goals as goal

pub loop-place-preserved : goal.loop-place-preserved
loop-place-preserved c =
    let more =
    read_more c.args.files.now c.loop-place.place c.at.result.now c.loop-place.found.items c.keep.new.items.items c.in_ok-record.record (omega (arith, c.loop-place-test.true, c.len-place-end.ensures)) c.at.ensures c.loop-place.invariant.read c.loop-place.invariant.spelled c.in_ok-keep.ensures.ok
    c.in_ok-record.ensures.read c.in_ok-record.ensures.spelled
    in
    record { read = more.read; spelled = more.spelled }
