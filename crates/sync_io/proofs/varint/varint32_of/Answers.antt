use Rattle.std.proofs.Common.{◌^◌, ◌∙◌, arith}
use Rattle.std.proofs.lemmas.Result.{err_from_is_err_and}
use Rattle.sync_io.specs.Varints.{number_at, varint32_at}
use Rattle.sync_io.proofs.Numbers.{narrowed, below_small, below_large}
use Rattle.sync_io.proofs.varint.varint32_of.Goals as goal

pub returns-in_err-number : goal.returns-in_err-number
unfolding varint32_at
returns-in_err-number c =
    let p = err_from_is_err_and c.from_residual.result c.from_residual.ensures.1 in
    rw (p.1, p.2) (narrowed (number_at 5 c.args.bytes.now) _ c.in_err-number.ensures)

pub returns-then-number : goal.returns-then-number
unfolding varint32_at
returns-then-number c =
    narrowed (number_at 5 c.args.bytes.now) _ c.in_ok-number.ensures ∙ below_large (2 ^ 32) c.in_ok-number.number c.in_ok-number.rest.now (omega (arith, c.if-number.true))

pub returns : goal.returns
unfolding varint32_at
returns c =
    narrowed (number_at 5 c.args.bytes.now) _ c.in_ok-number.ensures ∙ below_small (2 ^ 32) c.in_ok-number.number c.in_ok-number.rest.now (omega (arith, c.if-number.false))
