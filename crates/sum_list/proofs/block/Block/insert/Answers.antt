use Rattle.std.proofs.Common.{◌<◌, List, length, sym, ap, ◌∙◌, subst, arith}
use Rattle.std.proofs.lemmas.Bool.{eqb-false}
use Rattle.sum_list.specs.Block.{IsBlock}
use Rattle.sum_list.proofs.Kept.{block_more}
use Rattle.sum_list.proofs.block.Block.insert.Goals as goal

pub invariant_of-self-in-Ok-insert : goal.invariant_of-self-in-Ok-insert
invariant_of-self-in-Ok-insert g c =
    let t = g.T.Measured in let xs = c.self.inside.items.items in let one = c.with_one-measures.ensures in
    let same = ap length c.self.view_is in let most = c.self.invariant.few in
    let some = eqb-false (length c.args.self.now) 128 (sym c.is_full.ensures ∙ c.if-is_full.false) in
    let room : length xs < 128 = omega arith in
    subst (λ (l : List g.row.T.Denot). IsBlock t.before t.after t.first l c.with_one-measures.result) (sym c.in-Ok-insert.ensures.items)
    (block_more t.before t.after t.first xs c.args.place c.args.item c.self.inside.measures c.with_one-measures.result c.self.invariant (omega (arith, c.requires)) room one.before one.after one.first one.short.0 one.short.1)
