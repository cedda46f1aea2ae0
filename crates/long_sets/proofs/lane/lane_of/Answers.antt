use Rattle.std.proofs.Common.{◌∷◌, [], ◌++◌, take, sym, ap, ◌∙◌, subst}
use Rattle.std.proofs.lemmas.List.{take_more}
use Rattle.list_lane.specs.Lanes.{LaneOf}
use Rattle.long_sets.specs.Lists.{TellsList, ToldSlot}
use Rattle.long_sets.proofs.Telling.{tells_nothing, tells_more}
use Rattle.long_sets.proofs.lane.lane_of.Goals as goal

pub loop-slot-init : goal.loop-slot-init
loop-slot-init c = subst (λ (l : LaneOf). TellsList c.args.cell.now c.args.stamp [] l) (sym c.new-lane.ensures) (tells_nothing c.args.cell.now c.args.stamp c.args.first)

pub loop-slot-preserved : goal.loop-slot-preserved
loop-slot-preserved c =
    let xs = c.args.slots.now in
    let k = c.loop-slot.slot-index in
    let x = c.slot-item.result in
    let a = c.loop-slot.lane in
    let o = c.in_ok-op.op in
    let more = take_more xs k x c.loop-slot-test.true ∙ ap (λ y. take k xs ++ y ∷ []) (sym c.slot-item.is) in
    let told = subst (λ n. ToldSlot c.args.cell.now n x o) c.last.ensures c.in_ok-op.ensures.told in
    subst (λ l. TellsList c.args.cell.now c.args.stamp l c.append.new.lane) (sym more) (tells_more c.args.cell.now c.args.stamp (take k xs) a c.append.new.lane x o c.loop-slot.invariant told c.in_ok-op.ensures.stamp c.in_ok-append.ensures)
