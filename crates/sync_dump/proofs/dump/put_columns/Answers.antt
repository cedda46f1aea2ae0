use Rattle.std.proofs.Common.{ℕ, List, [], ◌++◌, length, ◌<◌, Option, sym, ap, ◌∙◌, subst}
use Rattle.std.specs.Option.{option_copied, option_map_or}
use Rattle.sync_data.specs.Orders.{name_cmp}
use Rattle.sync_dump.specs.Dump.{line, data_of_column, column_lines}
use Rattle.sync_dump.specs.Walks.{columns_in}
use Rattle.sync_dump.proofs.Walk.{from, IsAt, smaller, lines_on}
use Rattle.sync_dump.proofs.Standing.{column_at, column_first, column_step}
use Rattle.sync_dump.proofs.dump.put_columns.Goals as goal

pub loop-column-init : goal.loop-column-init
loop-column-init c =
    let w = column_first c.args.store.now.tables c.args.table.now (option_copied c.next_column-column.result) c.next_column-column.ensures in
    (w.1, ap (λ es. c.args.out.items ++ column_lines c.args.table.now es) w.0)

pub loop-column-smaller : goal.loop-column-smaller
loop-column-smaller c =
    let columns = columns_in c.args.store.now.tables c.args.table.now in
    let here = ap (option_copied {T = List ℕ}) c.in-Some.is in
    let next = option_copied c.next_column-column-in-Some.result in
    let step = column_step c.args.store.now.tables c.args.table.now c.in-Some.name.now next (subst (λ (x : Option (List ℕ)). IsAt name_cmp x columns) here c.loop-column.invariant.0) c.next_column-column-in-Some.ensures in
    subst (λ (x : Option (List ℕ)). length (from name_cmp next columns) < length (from name_cmp x columns)) (sym here) (smaller name_cmp _ _ _ step)

pub loop-column-preserved : goal.loop-column-preserved
loop-column-preserved c =
    let t = c.args.table.now in
    let name = c.in-Some.name.now in
    let columns = columns_in c.args.store.now.tables t in
    let here = ap (option_copied {T = List ℕ}) c.in-Some.is in
    let next = option_copied c.next_column-column-in-Some.result in
    let out = c.loop-column.out.items in
    let step = column_step c.args.store.now.tables t name next (subst (λ (x : Option (List ℕ)). IsAt name_cmp x columns) here c.loop-column.invariant.0) c.next_column-column-in-Some.ensures in (
      step.at,
      lines_on name_cmp (λ e. line (data_of_column t e.0 e.1)) out c.in_ok-out.out.items _ name next columns step
          (ap (λ x. out ++ column_lines t (from name_cmp x columns)) (sym here) ∙ c.loop-column.invariant.1)
          (c.in_ok-out.ensures ∙ ap (λ x. out ++ option_map_or (λ column. line (data_of_column t name column)) x []) (column_at c.args.store.now.tables t name)),
    )
