use Rattle.std.specs.Prelude.{slice_range}
use Rattle.std.proofs.Common.{◌<◌, ◌+◌, sym, subst, arith}
use Rattle.sync_rivals.specs.Marks.{Knows}
use Rattle.long_sets.proofs.Homes.{gone, next_known}
use Rattle.long_sets.proofs.Whole.{gone_crosses}
use Rattle.long_sets.proofs.instrs.cross_next.Goals as goal

pub returns-then-is_none-clause-crosses : goal.returns-then-is_none-clause-crosses
returns-then-is_none-clause-crosses c = gone_crosses c.args.left_later c.args.slots.now c.args.now.now (gone c.args.now.now c.is_none.result c.is_none.ensures c.if-is_none.true)

pub cross_slots-requires-clause-known : goal.cross_slots-requires-clause-known
cross_slots-requires-clause-known c =
    let ws = c.args.lefts.now in
    let i = c.args.place in
    let some : 0 < c.args.index.now.listed = omega (arith, c.if-listed-eq0.false, c.listed.ensures) in
    next_known c.as_slice.result.now ws i c.args.now.now c.requires.within c.requires.written (subst (λ codes. Knows codes (slice_range ws i (i + 1))) (sym c.as_slice.ensures.value) (c.in-Ok.ensures some))
