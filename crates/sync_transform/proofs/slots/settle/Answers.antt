use Rattle.std.proofs.Common.{◌≡◌, ◌+◌, ◌∷◌, [], ◌++◌, take, drop, sym, ap, ◌∙◌, subst, arith}
use Rattle.std.proofs.Math.Seq.{take-add}
use Rattle.std.proofs.lemmas.List.{drop-drop}
use Rattle.sync_transform.proofs.slots.settle.Goals as goal

pub returns-then-written-read-clause-before : goal.returns-then-written-read-clause-before
returns-then-written-read-clause-before c b e =
    subst (λ w. take (w + 1) c.args.items.now ≡ take w c.args.items.now ++ b ∷ []) (sym c.if-written-read.true) (take-add c.args.read 1 c.args.items.now ∙ ap (λ l. take c.args.read c.args.items.now ++ take 1 l) e)

pub returns-clause-after : goal.returns-clause-after
returns-clause-after c =
    let order = c.requires.order in
    c.lay.ensures.after (c.args.read + 1) (omega arith) ∙ sym (ap (drop 1) c.lift-item.ensures.after) ∙ drop-drop 1 c.args.read c.args.items.now
