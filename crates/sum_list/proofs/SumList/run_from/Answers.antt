use Rattle.std.proofs.Common.{◌≡◌, ◌+◌, ◌++◌, List, length, drop, sym, ap, subst, arith}
use Rattle.std.proofs.lemmas.List.{length-drop}
use Rattle.sum_list.specs.Blocks.{joined, IsSeat}
use Rattle.sum_list.proofs.Edits.{run}
use Rattle.sum_list.proofs.Joined.{seated}
use Rattle.sum_list.proofs.SumList.run_from.Goals as goal

pub returns-clause-items : goal.returns-clause-items
returns-clause-items g c =
    let bs = c.self.inside.blocks.items in let place = c.args.place in let seat = c.seat_of-block.result in let b = c.index-block.result.now in
    let at = subst (λ (l : List (List g.row.T.Denot)). IsSeat l place seat) c.as_slice.ensures.value c.seat_of-block.ensures in
    let here = seated bs place seat at b c.index-block.ensures in
    let whole = run bs seat.block b place seat.within here.0 at.place_is here.1 in
    subst (λ (l : List g.row.T.Denot). drop place l ≡ c.items_from.result.now ++ drop (place + length c.items_from.result.now) l) c.self.view_is
    (subst (λ (r : List g.row.T.Denot). drop place (joined bs) ≡ r ++ drop (place + length r) (joined bs)) (sym c.items_from.ensures) whole)

pub returns-clause-some : goal.returns-clause-some
returns-clause-some g c =
    let bs = c.self.inside.blocks.items in let place = c.args.place in let seat = c.seat_of-block.result in let b = c.index-block.result.now in
    let at = subst (λ (l : List (List g.row.T.Denot)). IsSeat l place seat) c.as_slice.ensures.value c.seat_of-block.ensures in
    let here = seated bs place seat at b c.index-block.ensures in
    let all = ap length c.self.view_is in let below = here.2 (omega (arith, c.requires)) in
    let long = ap length c.items_from.ensures in let left = length-drop seat.within b in omega arith
