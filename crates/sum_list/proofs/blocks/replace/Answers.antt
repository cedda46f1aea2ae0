use Rattle.std.proofs.Common.{List, subst}
use Rattle.sum_list.specs.Blocks.{IsSeat}
use Rattle.sum_list.proofs.Edits.{got, replaced}
use Rattle.sum_list.proofs.Joined.{seated}
use Rattle.sum_list.proofs.blocks.replace.Goals as goal

pub returns-clause-value : goal.returns-clause-value
returns-clause-value g c =
    let bs = c.args.blocks.now.items in let place = c.args.place in let seat = c.seat_of-block.result in let b = c.index_mut-one.result.now in
    let at = subst (λ (l : List (List g.row.T.Denot)). IsSeat l place seat) c.as_slice.ensures.value c.seat_of-block.ensures in
    let here = seated bs place seat at b c.index_mut-one.ensures.value in
    got bs seat.block b place seat.within here.0 at.place_is c.replace.result c.replace.ensures.value

pub returns-clause-rest : goal.returns-clause-rest
returns-clause-rest g c =
    let bs = c.args.blocks.now.items in let place = c.args.place in let seat = c.seat_of-block.result in let b = c.index_mut-one.result.now in
    let at = subst (λ (l : List (List g.row.T.Denot)). IsSeat l place seat) c.as_slice.ensures.value c.seat_of-block.ensures in
    let here = seated bs place seat at b c.index_mut-one.ensures.value in
    replaced bs seat.block b place seat.within here.0 at.place_is c.replace.new.self c.args.item (here.2 c.requires) c.replace.ensures.rest
