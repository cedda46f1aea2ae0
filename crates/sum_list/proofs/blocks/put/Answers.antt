use Rattle.std.proofs.Common.{◌++◌, List, sym, ap, ◌∙◌, subst}
use Rattle.std.specs.Prelude.{insert}
use Rattle.sum_list.specs.Block.{items_of}
use Rattle.sum_list.specs.Blocks.{joined, IsSeat}
use Rattle.sum_list.proofs.Edits.{inserted, inserted_split}
use Rattle.sum_list.proofs.Joined.{seated}
use Rattle.sum_list.proofs.blocks.put.Goals as goal

pub returns-in-Ok-None-clause-ok : goal.returns-in-Ok-None-clause-ok
returns-in-Ok-None-clause-ok g c =
    let bs = c.makes_room.new.blocks.items in let place = c.args.place in let seat = c.seat_of-block.result in let b = c.index_mut-lower.result.now in
    let at = subst (λ (l : List (List g.row.T.Denot)). IsSeat l place seat) (c.as_slice.ensures.value ∙ sym c.makes_room.ensures.items) c.seat_of-block.ensures in
    let here = seated bs place seat at b c.index_mut-lower.ensures.value in
    let new = c.insert.new.self in
    let e = ap (λ o. new ++ items_of o) (sym c.in-Ok-None.field-0-is) ∙ c.in-Ok-None.ensures.ok in
    inserted bs seat.block b place seat.within here.0 at.place_is new c.args.item here.1 e
    ∙ ap (λ (l : List (List g.row.T.Denot)). insert (joined l) place c.args.item) c.makes_room.ensures.items

pub returns-in-Ok-clause-ok : goal.returns-in-Ok-clause-ok
returns-in-Ok-clause-ok g c =
    let bs = c.makes_room.new.blocks.items in let place = c.args.place in let seat = c.seat_of-block.result in let b = c.index_mut-lower.result.now in
    let at = subst (λ (l : List (List g.row.T.Denot)). IsSeat l place seat) (c.as_slice.ensures.value ∙ sym c.makes_room.ensures.items) c.seat_of-block.ensures in
    let here = seated bs place seat at b c.index_mut-lower.ensures.value in
    let new = c.insert.new.self in
    let e = ap (λ o. new ++ items_of o) (sym c.in-Ok-Some.field-0-is) ∙ c.in-Ok-Some.ensures.ok in
    ap joined c.in-Ok.ensures.items
    ∙ inserted_split bs seat.block b place seat.within here.0 at.place_is new c.in-Ok-Some.upper c.args.item here.1 e
    ∙ ap (λ (l : List (List g.row.T.Denot)). insert (joined l) place c.args.item) c.makes_room.ensures.items
