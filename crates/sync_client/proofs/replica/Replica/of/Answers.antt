use Rattle.std.proofs.Common.{◌+◌, drop, sym, subst, arith}
use Rattle.sync_journal.proofs.Gates.{none_left}
use Rattle.sync_client.specs.Reading.{ReadSome}
use Rattle.sync_client.proofs.Records.{reads_end, reads_first, reads_next, reads_refused}
use Rattle.sync_client.proofs.replica.Replica.of.Goals as goal

pub loop-place-init : goal.loop-place-init
loop-place-init c = reads_first c.args.records.now c.in-Ok.replica c.in-Ok.ensures

pub loop-place-smaller : goal.loop-place-smaller
loop-place-smaller c =
    let r = c.in-Ok-read_at.ensures c.loop-place.invariant.records c.loop-place.invariant.keeps in
    let there = r.1 in
    let some = r.2 in
    let test = c.loop-place-test.true in
    omega (arith, there, some, test, c.len.ensures)

pub loop-place-preserved : goal.loop-place-preserved
loop-place-preserved c =
    let r = c.in-Ok-read_at.ensures c.loop-place.invariant.records c.loop-place.invariant.keeps in
    reads_next c.args.records.now c.loop-place.place c.in-Ok-read_at.next r.0 (drop c.loop-place.place c.args.records.now) (drop c.in-Ok-read_at.next c.args.records.now) c.loop-place.replica c.read_at.new.self c.loop-place.invariant r.1
    (subst (λ m. ReadSome c.loop-place.invariant.records c.read_at.new.self (drop c.loop-place.place c.args.records.now) (drop m c.args.records.now) r.0) (sym r.1) r.3)

pub returns-in-Err : goal.returns-in-Err
returns-in-Err c = reads_refused c.args.records.now c.loop-place.place (drop c.loop-place.place c.args.records.now) (λ n. drop (c.loop-place.place + n) c.args.records.now) c.loop-place.replica c.read_at.new.self c.in-Err.refusal c.loop-place.invariant (c.in-Err.ensures c.loop-place.invariant.records c.loop-place.invariant.keeps)

pub returns : goal.returns
returns c = reads_end c.args.records.now c.loop-place.place (drop c.loop-place.place c.args.records.now) c.loop-place.replica c.loop-place.invariant (none_left c.args.records.now c.loop-place.place (omega (arith, c.loop-place-test.false, c.len.ensures)))
