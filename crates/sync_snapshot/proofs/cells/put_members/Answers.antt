use Rattle.std.proofs.Common.{List, ◌++◌, map, sym, ap, ◌∙◌, subst}
use Rattle.std.specs.List.Sorted.{IsStrictlySortedBy}
use Rattle.sync_data.specs.Orders.{value_cmp}
use Rattle.sync_data.specs.declared.value.Value.{Value}
use Rattle.sync_base.specs.Effects.{Include, path_of}
use Rattle.store_walks.specs.Ordered.{values_of, keys_are}
use Rattle.sync_snapshot.specs.Lists.{edit_instrs}
use Rattle.sync_snapshot.proofs.Lists.{no_end}
use Rattle.sync_snapshot.proofs.cells.put_members.Goals as goal

pub returns : goal.returns
returns c =
    let p = path_of c.args.name.now in
    let keys = c.args.values.now.keys in
    let sorted = subst (IsStrictlySortedBy value_cmp) (sym (keys_are keys)) c.into_iter-value-iterator.ensures.into_iter_gives.4 in
    sym (no_end c.loop-value.list.items)
    ∙ ap (λ (vs : List Value). c.loop-value.list.items ++ edit_instrs p (map (λ v. Include v) vs)) (sym c.in-None.ensures.steps.0) ∙ c.loop-value.invariant
    ∙ ap (λ (vs : List Value). c.args.list.now.items ++ edit_instrs p (map (λ v. Include v) vs)) (sym (values_of keys sorted))
