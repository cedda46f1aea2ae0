use Rattle.std.proofs.Common.{List, slice_get, sym, ap, ◌∙◌, subst}
use Rattle.sum_list.specs.Blocks.{IsSeat}
use Rattle.sum_list.proofs.Edits.{got}
use Rattle.sum_list.proofs.Joined.{seated}
use Rattle.sum_list.proofs.SumList.get.Goals as goal

pub returns : goal.returns
returns g c =
    let bs = c.self.inside.blocks.items in let place = c.args.place in let seat = c.seat_of-block.result in let b = c.index-block.result.now in
    let at = subst (λ (l : List (List g.row.T.Denot)). IsSeat l place seat) c.as_slice.ensures.value c.seat_of-block.ensures in
    let here = seated bs place seat at b c.index-block.ensures in
    sym (ap (λ (l : List g.row.T.Denot). slice_get l place) (sym c.self.view_is) ∙ got bs seat.block b place seat.within here.0 at.place_is c.get.result.now c.get.ensures)
