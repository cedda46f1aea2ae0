use Rattle.std.proofs.Common.{◌+◌, drop, refl, arith}
use Rattle.sync_journal.proofs.Gates.{left_at, none_left}
use Rattle.server_memory.proofs.Reading.{one_declined, one_read, reads_end, reads_first, reads_next, reads_stop}
use Rattle.server_memory.proofs.kept.Kept.admit_all.Goals as goal

pub loop-place-init : goal.loop-place-init
loop-place-init c = reads_first (drop c.args.first c.args.files.now) c.args.first c.args.self.now

pub returns-in-Ok-false : goal.returns-in-Ok-false
returns-in-Ok-false c =
    let files = c.args.files.now in
    let place = c.loop-place.place in
    let bytes = c.at.result.now in
    let left = left_at files place bytes (omega (arith, c.loop-place-test.true, c.len-place-end.ensures)) c.at.ensures in
    reads_stop (drop c.args.first files) c.args.first place (drop place files) (drop (place + 1) files) bytes c.args.self.now c.loop-place.self c.loop-place.invariant left
    (one_declined c.loop-place.self c.read.new.self bytes bytes c.read.result c.in-Ok-false.field-0 refl c.in-Ok-false.is c.in-Ok-false.field-0-test c.read.ensures)

pub loop-place-preserved : goal.loop-place-preserved
loop-place-preserved c =
    let files = c.args.files.now in
    let place = c.loop-place.place in
    let bytes = c.at.result.now in
    let left = left_at files place bytes (omega (arith, c.loop-place-test.true, c.len-place-end.ensures)) c.at.ensures in
    reads_next (drop c.args.first files) c.args.first place (drop place files) (drop (place + 1) files) bytes c.args.self.now c.loop-place.self c.read.new.self c.loop-place.invariant left
    (one_read c.loop-place.self c.read.new.self bytes bytes c.read.result c.in-Ok-true.field-0 refl c.in-Ok-true.is c.in-Ok-true.field-0-test c.read.ensures)

pub returns : goal.returns
returns c = reads_end (drop c.args.first c.args.files.now) c.args.first c.loop-place.place (drop c.loop-place.place c.args.files.now) c.args.self.now c.loop-place.self c.loop-place.invariant (none_left c.args.files.now c.loop-place.place (omega (arith, c.loop-place-test.false, c.len-place-end.ensures)))
