use Rattle.std.proofs.Common.{ℕ, List, ◌++◌, length, ◌<◌, Option, sym, ap, ◌∙◌, subst}
use Rattle.std.specs.Prelude.{flat_map}
use Rattle.std.specs.Option.{option_copied}
use Rattle.std.specs.FinMap as fin
use Rattle.sync_data.specs.Orders.{name_cmp}
use Rattle.store_walks.specs.Walk.{from, IsAt, smaller, keys_on}
use Rattle.store_walks.specs.Standing.{table_first, table_step}
use Rattle.sync_snapshot.specs.Lists.{columns_instrs}
use Rattle.sync_snapshot.proofs.schema.put_columns.Goals as goal

pub loop-table-init : goal.loop-table-init
loop-table-init c =
    let ts = c.args.objects.now.tables in
    let w = table_first ts (option_copied c.next_table-table.result) c.next_table-table.ensures in
    (w.1, ap (λ es. c.args.list.now.items ++ flat_map (λ e. columns_instrs ts e.0) es) w.0)

pub loop-table-smaller : goal.loop-table-smaller
loop-table-smaller c =
    let ts = c.args.objects.now.tables in
    let tables = fin.entries ts in
    let here = ap (option_copied {T = List ℕ}) c.in-Some.is in
    let next = option_copied c.next_table-table-in-Some.result in
    let step = table_step ts c.in-Some.name.now next (subst (λ (x : Option (List ℕ)). IsAt name_cmp x tables) here c.loop-table.invariant.0) c.next_table-table-in-Some.ensures in
    subst (λ (x : Option (List ℕ)). length (from name_cmp next tables) < length (from name_cmp x tables)) (sym here) (smaller name_cmp _ _ _ step)

pub loop-table-preserved : goal.loop-table-preserved
loop-table-preserved c =
    let ts = c.args.objects.now.tables in
    let name = c.in-Some.name.now in
    let tables = fin.entries ts in
    let here = ap (option_copied {T = List ℕ}) c.in-Some.is in
    let next = option_copied c.next_table-table-in-Some.result in
    let list = c.loop-table.list.items in
    let step = table_step ts name next (subst (λ (x : Option (List ℕ)). IsAt name_cmp x tables) here c.loop-table.invariant.0) c.next_table-table-in-Some.ensures in (
      step.at,
      keys_on name_cmp (columns_instrs ts) list c.put_table_columns.new.list.items _ name next tables step
          (ap (λ x. list ++ flat_map (λ e. columns_instrs ts e.0) (from name_cmp x tables)) (sym here) ∙ c.loop-table.invariant.1)
          c.in_ok-put_table_columns.ensures,
    )
