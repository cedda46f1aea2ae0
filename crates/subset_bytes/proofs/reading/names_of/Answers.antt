use Rattle.std.proofs.Common.{◌∷◌, [], ap, length, length-append, arith}
use Rattle.std.proofs.lemmas.Result.{err_from_is_err_and}
use Rattle.sync_io.specs.Formats.{many_in}
use Rattle.sync_io.specs.FormatLaws.{one_more, all_read}
use Rattle.subset_bytes.specs.Reading.{name_in}
use Rattle.subset_bytes.proofs.Loops.{ends}
use Rattle.subset_bytes.proofs.reading.names_of.Goals as goal

pub returns-in_err-name-clause-read : goal.returns-in_err-name-clause-read
returns-in_err-name-clause-read c =
    let p = err_from_is_err_and c.from_residual.result c.from_residual.ensures.1 in
    rw (p.1, p.2) (ends name_in c.in_err-name.field-0.0 c.loop.names.items c.args.count c.loop.counter c.loop.rest.now (many_in name_in c.args.count c.args.bytes.now) c.loop-test.true c.in_err-name.ensures c.loop.invariant.so_far)

pub loop-preserved : goal.loop-preserved
loop-preserved c =
    let x = c.in_ok-name.name in
    record {
      so_far = rw c.in_ok-push.ensures.items (one_more name_in c.loop.names.items c.args.count c.loop.counter c.loop.rest.now x c.in_ok-name.after.now (many_in name_in c.args.count c.args.bytes.now) c.loop-test.true c.in_ok-name.ensures c.loop.invariant.so_far);
      count = omega (arith, ap length c.in_ok-push.ensures.items, length-append c.loop.names.items (x ∷ []), c.loop.invariant.count);
    }

pub returns-clause-read : goal.returns-clause-read
returns-clause-read c = all_read name_in c.loop.names.items c.args.count c.loop.counter c.loop.rest.now (many_in name_in c.args.count c.args.bytes.now) c.loop-test.false c.loop.invariant.so_far
