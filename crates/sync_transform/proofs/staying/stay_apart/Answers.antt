use Rattle.std.proofs.Common.{not, sym, ◌∙◌, ap}
use Rattle.sync_base.specs.Effects.{path_of}
use Rattle.sync_transform.proofs.Anywhere.{cells_stay, objects_stay}
use Rattle.sync_transform.proofs.staying.stay_apart.Goals as goal

pub returns-in-Some-Some : goal.returns-in-Some-Some
returns-in-Some-Some c h =
    cells_stay c.args.left.now c.args.right.now (path_of c.in-Some-Some.cell.now) (path_of c.in-Some-Some.other.now) (sym c.in-Some-Some.ensures) (sym c.in-Some-Some.ensures') (ap not (sym c.same_cell.ensures.test) ∙ h)

pub returns-else-creates : goal.returns-else-creates
returns-else-creates c h = objects_stay c.args.left.now c.args.right.now (sym c.are_apart.ensures.value ∙ h)

pub returns-else-creates-2 : goal.returns-else-creates-2
returns-else-creates-2 c h = objects_stay c.args.left.now c.args.right.now (sym c.are_apart-else-creates-2.ensures.value ∙ h)
