use Rattle.std.proofs.Common.{◌∷◌, [], ap, length, length-append, arith}
use Rattle.std.proofs.lemmas.Result.{err_from_is_err_and}
use Rattle.sync_io.specs.Formats.{many_in}
use Rattle.sync_io.specs.FormatLaws.{one_more, all_read}
use Rattle.sync_messages.proofs.Loops.{ends}
use Rattle.life_bytes.proofs.field.many_of.Goals as goal

pub returns-in_err-item-clause-read : goal.returns-in_err-item-clause-read
returns-in_err-item-clause-read g c =
    let read = g.T.Field.field_in in
    let p = err_from_is_err_and c.from_residual.result c.from_residual.ensures.1 in
    rw (p.1, p.2) (ends read c.in_err-item.field-0.0 c.loop.items.items c.args.count c.loop.counter c.loop.rest.now (many_in read c.args.count c.args.bytes.now) c.loop-test.true c.in_err-item.ensures c.loop.invariant.so_far)

pub loop-preserved : goal.loop-preserved
loop-preserved g c =
    let read = g.T.Field.field_in in
    let x = c.in_ok-item.item in
    record {
      so_far = rw c.in_ok-push.ensures.items (one_more read c.loop.items.items c.args.count c.loop.counter c.loop.rest.now x c.in_ok-item.after.now (many_in read c.args.count c.args.bytes.now) c.loop-test.true c.in_ok-item.ensures c.loop.invariant.so_far);
      count = omega (arith, ap length c.in_ok-push.ensures.items, length-append c.loop.items.items (x ∷ []), c.loop.invariant.count);
    }

pub returns-clause-read : goal.returns-clause-read
returns-clause-read g c =
    let read = g.T.Field.field_in in
    all_read read c.loop.items.items c.args.count c.loop.counter c.loop.rest.now (many_in read c.args.count c.args.bytes.now) c.loop-test.false c.loop.invariant.so_far
