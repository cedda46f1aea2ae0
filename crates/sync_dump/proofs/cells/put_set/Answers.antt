use Rattle.std.proofs.Common.{◌∷◌, ◌++◌, sym, ap, ◌∙◌, subst}
use Rattle.std.specs.List.Sorted.{IsStrictlySortedBy}
use Rattle.json.specs.Token.{begin_array}
use Rattle.json.specs.Tree.{items_tokens}
use Rattle.serde_json.specs.Written.{items_outline}
use Rattle.sync_data.specs.Orders.{value_cmp}
use Rattle.sync_maps.specs.Answers.{then_ok}
use Rattle.sync_dump.specs.Dump.{items_of}
use Rattle.sync_dump.proofs.Ordered.{values_of, keys_are}
use Rattle.sync_dump.proofs.cells.put_set.Goals as goal

pub returns : goal.returns
returns c =
    let s = c.args.store.now in
    let keys = c.args.values.now.keys in
    let sorted = subst (IsStrictlySortedBy value_cmp) (sym (keys_are keys)) c.into_iter-value-iterator.ensures.into_iter_gives.4 in
    then_ok c.end_array.result (λ t. (
      t ∙ ap (λ vs. c.loop-value.writer.tokens ++ items_tokens (items_outline (items_of s vs))) (sym c.in-None.ensures.steps.0) ∙ c.loop-value.invariant.0
          ∙ ap (λ vs. c.args.writer.now.tokens ++ begin_array ∷ items_tokens (items_outline (items_of s vs))) (sym (values_of keys sorted)),
      c.end_array.ensures.room.0 ∙ c.loop-value.invariant.1,
    )) c.end_array.ensures.ok
