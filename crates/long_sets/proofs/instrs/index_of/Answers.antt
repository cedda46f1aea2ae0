use Rattle.std.proofs.Common.{◌<◌, length, None, get_or, subst, arith}
use Rattle.sync_theory.specs.Lists.{kept}
use Rattle.sync_rivals.specs.Lists.{StandsAt}
use Rattle.long_sets.specs.Rows.{lists_in}
use Rattle.long_sets.proofs.Homes.{one_listed, part_sizes, stands}
use Rattle.long_sets.proofs.instrs.index_of.Goals as goal

pub loop-preserved : goal.loop-preserved
loop-preserved c =
    let xs = c.args.slots.now in
    let ws = c.args.written.now in
    let i = c.listed-place.result in
    let within : i < length xs = omega (arith, c.if-place-written.false, part_sizes xs ws c.requires) in
    c.list.ensures (kept (get_or xs i None)) (lists_in xs) (one_listed xs ws i None c.requires within) c.loop.invariant
    (subst (λ n. StandsAt n (kept (get_or xs i None)) (lists_in xs)) c.listed-place.ensures (stands xs i None within))
