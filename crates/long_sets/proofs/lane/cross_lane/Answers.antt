use Rattle.std.proofs.Common.{◌+◌, ◌∷◌, [], ◌++◌, take, sym, ap, ◌∙◌, subst}
use Rattle.std.proofs.lemmas.List.{take_more}
use Rattle.sync_base.specs.Effects.{path_of}
use Rattle.long_sets.specs.Parts.{list_of}
use Rattle.long_sets.specs.Lists.{GoesAll}
use Rattle.long_sets.proofs.Telling.{none_go, more_go}
use Rattle.long_sets.proofs.lane.cross_lane.Goals as goal

pub loop-slot-init : goal.loop-slot-init
loop-slot-init c = subst (λ zs. GoesAll c.args.cell.now c.args.stamp [] zs c.args.lane.now c.args.lane.now) (sym c.new-left.ensures.items) (none_go c.args.cell.now c.args.stamp c.args.lane.now)

pub loop-slot-preserved : goal.loop-slot-preserved
loop-slot-preserved c =
    let cell = c.args.cell.now in
    let s = c.args.stamp in
    let p = path_of cell in
    let xs = c.args.slots.now in
    let k = c.loop-slot.slot-index in
    let x = c.slot-item.result in
    let more = take_more xs k x c.loop-slot-test.true ∙ ap (λ y. take k xs ++ y ∷ []) (sym c.slot-item.is) in
    let next = more_go cell s (take k xs) c.loop-slot.left.items x c.in_ok-rest.rest c.args.lane.now c.loop-slot.lane c.cross_one.new.lane c.loop-slot.invariant c.in_ok-rest.ensures in
    subst (λ zs. GoesAll cell s (list_of p (take (k + 1) xs)) zs c.args.lane.now c.cross_one.new.lane) (sym c.in-Ok.ensures.items)
    (subst (λ l. GoesAll cell s (list_of p l) (c.loop-slot.left.items ++ c.in_ok-rest.rest ∷ []) c.args.lane.now c.cross_one.new.lane) (sym more) next)
