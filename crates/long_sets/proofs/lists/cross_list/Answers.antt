use Rattle.std.proofs.Common.{refl, sym, subst}
use Rattle.sync_data.specs.declared.instr.CellName.{CellName}
use Rattle.long_sets.specs.Lists.{CrossesList}
use Rattle.long_sets.proofs.Telling.{list_crosses}
use Rattle.long_sets.proofs.lists.cross_list.Goals as goal

pub returns : goal.returns
returns c =
    let s = c.args.stamps in
    let ys = c.args.left.now in
    let xs = c.args.right.now in
    let cell = c.in_ok-cell.cell.now in
    let told : CrossesList s ys xs (record { cell = cell; left = c.in_ok-left.left; right = c.in_ok-right.right }) = record {
      lists = list_crosses cell s.left s.right ys xs c.in_ok-left.left.items c.in_ok-right.right.items c.in_ok-lane.lane c.cross_lane.new.lane c.in_ok-lane.ensures c.in_ok-left.ensures c.in_ok-right.ensures;
      left = c.if-not-are_strangers.ensures refl;
      right = c.if-not-are_strangers-2.ensures refl;
    } in
    subst (λ (d : CellName). CrossesList s ys xs (record { cell = d; left = c.in_ok-left.left; right = c.in_ok-right.right })) (sym c.in-Ok.ensures.equal) told
