use Rattle.std.proofs.Common.{◌≡◌, ◌++◌, append-nil, length, take, sym, ap, ◌∙◌, subst, arith}
use Rattle.std.proofs.lemmas.List.{take_all, drop_all}
use Rattle.long_sets.specs.Rows.{CrossInTurn}
use Rattle.long_sets.specs.Parts.{CrossAll}
use Rattle.long_sets.proofs.Homes.{part_sizes}
use Rattle.long_sets.proofs.Whole.{turns_cross}
use Rattle.long_sets.proofs.instrs.cross_others.Goals as goal

pub cross_each-requires-clause-sizes : goal.cross_each-requires-clause-sizes
cross_each-requires-clause-sizes c = ap length c.deref_mut.ensures.value ∙ part_sizes c.args.right.items c.args.rights.now c.requires.right

pub returns : goal.returns
returns c =
    let zs = c.in_ok-left.left.items in
    let us = c.cross_each.new.slots in
    let items = c.args.right.items in
    let len = c.args.right.len in
    let same : length us ≡ length items = omega (arith, c.cross_each.auto.slots, ap length c.deref_mut.ensures.value) in
    let whole = ap (λ l. take len (us ++ l)) (drop_all (length us) items (omega (arith, same))) ∙ ap (take len) (append-nil us) ∙ take_all len us (omega (arith, same, c.args.right.ok.0)) in
    subst (CrossAll c.args.stamps.left c.args.stamps.right c.args.left.now items zs) (sym whole)
    (turns_cross c.args.stamps.left c.args.stamps.right c.is_later-left_later.result c.args.left.now items zs us c.is_later-left_later.ensures
    (subst (λ xs. CrossInTurn c.is_later-left_later.result c.args.left.now xs zs us) c.deref_mut.ensures.value c.in_ok-left.ensures))
