use Rattle.std.proofs.Common.{◌+◌, ◌<◌, ◌++◌, List, length, get_or, set, ap, ◌∙◌, arith}
use Rattle.std.specs.Prelude.{insert}
use Rattle.sum_list.specs.Blocks.{joined}
use Rattle.sum_list.proofs.Merges.{still, merged, put_back}
use Rattle.sum_list.proofs.blocks.merge.Goals as goal

pub returns-in-Ok : goal.returns-in-Ok
returns-in-Ok g c =
    let bs = c.args.blocks.now.items in let i = c.args.block in
    let low : i + 1 < length bs = omega (arith, c.args.blocks.now.ok.0) in
    let one = c.index.result.now in let next = c.remove-next.result in let x = c.index_mut-one.result.now in
    let same = still bs i one next low c.index.ensures c.remove-next.ensures.value x (c.index_mut-one.ensures.value ∙ ap (λ (l : List (List g.row.T.Denot)). get_or l i x) c.remove-next.ensures.items) in
    (λ k. joined (set (c.remove-next.ensures.items k) i ((c.in-Ok.ensures.ok ∙ ap (λ l. l ++ next) same) k)))
    ∙ merged bs i one next low c.index.ensures c.remove-next.ensures.value

pub returns-in-Ok-insert : goal.returns-in-Ok-insert
returns-in-Ok-insert g c =
    let bs = c.args.blocks.now.items in let i = c.args.block in
    let low : i + 1 < length bs = omega (arith, c.args.blocks.now.ok.0) in
    let one = c.index.result.now in let next = c.remove-next.result in let x = c.index_mut-one.result.now in
    let same = still bs i one next low c.index.ensures c.remove-next.ensures.value x (c.index_mut-one.ensures.value ∙ ap (λ (l : List (List g.row.T.Denot)). get_or l i x) c.remove-next.ensures.items) in
    let back = c.in-Err.ensures.err in
    ap joined c.in-Ok-insert.ensures.items
    ∙ (λ k. joined (insert (set (c.remove-next.ensures.items k) i ((back.1 ∙ same) k)) (i + 1) (back.0 k)))
    ∙ put_back bs i one next low c.index.ensures c.remove-next.ensures.value
