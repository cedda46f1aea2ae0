use Rattle.std.proofs.Common.{◌≡◌, ◌++◌, length, sym, ap, ◌∙◌, arith}
use Rattle.std.specs.Prelude.{insert}
use Rattle.std.proofs.lemmas.List.Edits.{insert-append_left, insert-append_right}
use Rattle.sum_list.proofs.block.Block.insert_in_full.Goals as goal
use Rattle.sum_list.proofs.block.Block.insert_in_full.Goals.{then-place-le-HALF, else-place-le-HALF}

pub returns-clause-ok : goal.returns-clause-ok
returns-clause-ok g c =
    let a = c.split.new.items.items in let b = c.split.new.upper.items in let place = c.args.place in let x = c.args.item in
    let long = c.split.ensures.half in let full = c.requires.full in let all = ap length c.self.view_is in
    let half : length a ≡ 64 = omega arith in
    let whole : insert (a ++ b) place x ≡ insert c.args.self.now place x = ap (λ l. insert l place x) (c.split.ensures.whole ∙ c.self.view_is) in
    elim c.if-place-le-HALF.branch [
      | then-place-le-HALF w ↦
          let low = w.if-place-le-HALF.true in
          (λ k. (w.self-inside-is k).items.items ++ (c.of.ensures ∙ ap (λ v. v.items) w.upper-is) k)
          ∙ ap (λ l. l ++ b) w.put_reserved.ensures ∙ sym (insert-append_left a b place x (omega arith)) ∙ whole
      | else-place-le-HALF w ↦
          let high = w.if-place-le-HALF.false in
          (λ k. (w.self-inside-is k).items.items ++ (c.of.ensures ∙ ap (λ v. v.items) w.upper-is) k)
          ∙ ap (λ l. a ++ l) w.put_reserved-else-place-le-HALF.ensures ∙ sym (insert-append_right a b 64 place x half (omega arith)) ∙ whole
    ]
