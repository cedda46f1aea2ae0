use Rattle.std.proofs.Common.{List, ap, ◌∙◌, subst}
use Rattle.sum_list.specs.Blocks.{joined, IsSeat}
use Rattle.sum_list.proofs.Edits.{got, got_only, removed, removed_whole}
use Rattle.sum_list.proofs.Joined.{seated}
use Rattle.sum_list.proofs.blocks.take_out.Goals as goal

pub returns-then-len-eq1-clause-value : goal.returns-then-len-eq1-clause-value
returns-then-len-eq1-clause-value g c =
    let bs = c.args.blocks.now.items in let place = c.args.place in let seat = c.seat_of-block.result in let b = c.remove.result in
    let at = subst (λ (l : List (List g.row.T.Denot)). IsSeat l place seat) c.as_slice.ensures.value c.seat_of-block.ensures in
    let here = seated bs place seat at b c.remove.ensures.value in
    got bs seat.block b place seat.within here.0 at.place_is c.into_only-only.result
    (got_only bs seat.block b place seat.within here.0 at.place_is c.into_only-only.result (here.2 c.requires) c.into_only-only.ensures)

pub returns-then-len-eq1-clause-rest : goal.returns-then-len-eq1-clause-rest
returns-then-len-eq1-clause-rest g c =
    let bs = c.args.blocks.now.items in let place = c.args.place in let seat = c.seat_of-block.result in let b = c.remove.result in
    let at = subst (λ (l : List (List g.row.T.Denot)). IsSeat l place seat) c.as_slice.ensures.value c.seat_of-block.ensures in
    let here = seated bs place seat at b c.remove.ensures.value in
    c.merge_around.ensures ∙ ap joined c.remove.ensures.items
    ∙ removed_whole bs seat.block b place seat.within here.0 at.place_is c.into_only-only.result (here.2 c.requires) c.into_only-only.ensures

pub remove-item-requires-clause-within : goal.remove-item-requires-clause-within
remove-item-requires-clause-within g c =
    let bs = c.args.blocks.now.items in let place = c.args.place in let seat = c.seat_of-block.result in
    let at = subst (λ (l : List (List g.row.T.Denot)). IsSeat l place seat) c.as_slice.ensures.value c.seat_of-block.ensures in
    (seated bs place seat at c.index_mut-one.result.now c.index_mut-one.ensures.value).2 c.requires

pub returns-clause-value : goal.returns-clause-value
returns-clause-value g c =
    let bs = c.args.blocks.now.items in let place = c.args.place in let seat = c.seat_of-block.result in let b = c.index_mut-one.result.now in
    let at = subst (λ (l : List (List g.row.T.Denot)). IsSeat l place seat) c.as_slice.ensures.value c.seat_of-block.ensures in
    let here = seated bs place seat at b c.index_mut-one.ensures.value in
    got bs seat.block b place seat.within here.0 at.place_is c.remove-item.result c.remove-item.ensures.value

pub returns-clause-rest : goal.returns-clause-rest
returns-clause-rest g c =
    let bs = c.args.blocks.now.items in let place = c.args.place in let seat = c.seat_of-block.result in let b = c.index_mut-one.result.now in
    let at = subst (λ (l : List (List g.row.T.Denot)). IsSeat l place seat) c.as_slice.ensures.value c.seat_of-block.ensures in
    let here = seated bs place seat at b c.index_mut-one.ensures.value in
    c.merge_around-2.ensures ∙ removed bs seat.block b place seat.within here.0 at.place_is c.remove-item.new.self (here.2 c.requires) c.remove-item.ensures.rest
