use Rattle.std.proofs.Common.{◌+◌, ◌++◌, length, drop, sym, ap, ◌∙◌, append_assoc, length-append, arith}
use Rattle.std.proofs.lemmas.List.{length-drop}
use Rattle.sync_dump.specs.Tokens.{tokens_of_items, tokens_of_values}
use Rattle.sync_dump.proofs.Elements.{items_append}
use Rattle.sync_dump.proofs.cells.put_list.Goals as goal

pub loop-place-preserved : goal.loop-place-preserved
loop-place-preserved c =
    let s = c.args.store.now in let vs = c.args.list.now in
    let place = c.loop-place.place in let run = c.run_from-run.result.now in let left = drop (place + length run) vs in
    let old = c.loop-place.writer.tokens in let cut = c.run_from-run.ensures.items in
    let long = ap length cut in let both = length-append run left in let whole = length-drop place vs in let rest = length-drop (place + length run) vs in (
      ap (λ w. w ++ tokens_of_items s left) c.in_ok-put_elements.ensures.0 ∙ append_assoc old (tokens_of_values s run) (tokens_of_items s left)
          ∙ ap (λ w. old ++ w) (sym (ap (tokens_of_items s) cut ∙ items_append s run left)) ∙ c.loop-place.invariant.0,
      c.in_ok-put_elements.ensures.1 ∙ c.loop-place.invariant.1,
      omega arith,
    )
