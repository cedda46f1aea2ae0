use Rattle.std.proofs.Common.{sym, ap, ◌∙◌, subst}
use Rattle.sync_data.specs.Payload.{Changes}
use Rattle.sync_index.specs.Touched.{Covers}
use Rattle.list_blocks.specs.Blocks.{acted}
use Rattle.list_blocks.proofs.Writing.{still_covered}
use Rattle.list_blocks.proofs.crossing.carry_out.Goals as goal

pub returns-clause-indexed : goal.returns-clause-indexed
returns-clause-indexed c = λ t h.
    subst (λ (z : Changes). Covers t z.instrs) (sym c.written-right.ensures) (still_covered t c.deref-2.result.now c.args.right.instrs h)
