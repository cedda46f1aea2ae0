use Rattle.std.proofs.Common.{List, ◌++◌, map, Some, ℕ, sym, ap, ◌∙◌}
use Rattle.sync_data.specs.declared.value.Value.{Value}
use Rattle.sync_base.specs.Effects.{Bind, path_of}
use Rattle.sync_base.specs.Lemmas.Looks.{name_total, name_exact}
use Rattle.store_walks.specs.Ordered.{entries_of}
use Rattle.sync_snapshot.specs.Lists.{edit_instrs}
use Rattle.sync_snapshot.proofs.Lists.{no_end}
use Rattle.sync_snapshot.proofs.cells.put_bindings.Goals as goal

pub returns : goal.returns
returns c =
    let p = path_of c.args.name.now in
    let entries = c.args.bindings.now.entries in
    sym (no_end c.loop-at.list.items)
    ∙ ap (λ (es : List (List ℕ × Value)). c.loop-at.list.items ++ edit_instrs p (map (λ e. Bind e.0 (Some e.1)) es)) (sym c.in-None.ensures.steps.0) ∙ c.loop-at.invariant
    ∙ ap (λ (es : List (List ℕ × Value)). c.args.list.now.items ++ edit_instrs p (map (λ e. Bind e.0 (Some e.1)) es)) (sym (entries_of name_total name_exact entries c.into_iter-at-iterator.ensures.into_iter_gives.5))
