use Rattle.std.proofs.Common.{Ok, sym, ◌∙◌}
use Rattle.sync_data.specs.declared.entry.Stamp.{Stamp}
use Rattle.sync_theory.specs.Lists.{cross}
use Rattle.sync_theory.specs.Changesets.{later_stamp}
use Rattle.sync_law.specs.Instrs.{meet}
use Rattle.list_blocks.specs.Blocks.{acted}
use Rattle.list_blocks.proofs.Crossed.{blocks_cross}
use Rattle.list_blocks.proofs.plan.planned.Goals as goal

pub returns : goal.returns
returns c =
    let own : Stamp = record { ms = c.ms.result; ident = c.args.left_ident } in
    let other : Stamp = record { ms = c.ms-2.result; ident = c.args.right_ident } in
    let xs = c.in_ok-lefts.lefts.items in
    let ys = c.in_ok-rights.rights.items in
    (λ k. cross (λ a b. meet a b (later_stamp (sym c.ms.ensures k) c.args.left_ident (sym c.ms-2.ensures k) c.args.right_ident)) (sym c.instrs-lefts.ensures.listed k) (sym c.instrs-rights.ensures.listed k))
    ∙ blocks_cross c.in_ok-cell.cell.now own other c.instrs-lefts.result.now c.instrs-rights.result.now xs ys c.in_ok-lane.lane c.cross_lane.new.lane c.in_ok-lane.ensures c.in_ok-lefts.ensures c.in_ok-rights.ensures
    ∙ (λ k. Ok (acted xs (c.instrs-lefts.ensures.listed k), acted ys (c.instrs-rights.ensures.listed k)))
