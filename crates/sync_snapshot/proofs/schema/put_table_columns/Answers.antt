use Rattle.std.proofs.Common.{ℕ, List, [], ◌∷◌, ◌++◌, length, ◌<◌, Option, sym, ap, ◌∙◌, subst}
use Rattle.std.specs.Prelude.{flat_map}
use Rattle.std.specs.Option.{option_copied, option_map_or}
use Rattle.sync_data.specs.Orders.{name_cmp}
use Rattle.sync_base.specs.Effects.{NewColumn, instr_of}
use Rattle.store_walks.specs.Along.{columns_in}
use Rattle.store_walks.specs.Walk.{from, IsAt, smaller, lines_on}
use Rattle.store_walks.specs.Standing.{column_at, column_first, column_step}
use Rattle.sync_snapshot.proofs.schema.put_table_columns.Goals as goal

pub loop-column-init : goal.loop-column-init
loop-column-init c =
    let s = c.args.objects.now in
    let t = c.args.table.now in
    let columns = columns_in s.tables t in
    let w = column_first s.tables t (option_copied c.next_column-column.result) c.next_column-column.ensures in
    (w.1, ap (λ es. c.args.list.now.items ++ flat_map (λ e. instr_of (NewColumn t e.0 e.1) ∷ []) es) w.0)

pub loop-column-smaller : goal.loop-column-smaller
loop-column-smaller c =
    let s = c.args.objects.now in
    let t = c.args.table.now in
    let columns = columns_in s.tables t in
    let here = ap (option_copied {T = List ℕ}) c.in-Some.is in
    let next = option_copied c.next_column-column-in-Some.result in
    let step = column_step s.tables t c.in-Some.name.now next (subst (λ (x : Option (List ℕ)). IsAt name_cmp x columns) here c.loop-column.invariant.0) c.next_column-column-in-Some.ensures in
    subst (λ (x : Option (List ℕ)). length (from name_cmp next columns) < length (from name_cmp x columns)) (sym here) (smaller name_cmp _ _ _ step)

pub loop-column-preserved : goal.loop-column-preserved
loop-column-preserved c =
    let s = c.args.objects.now in
    let t = c.args.table.now in
    let name = c.in-Some.name.now in
    let columns = columns_in s.tables t in
    let here = ap (option_copied {T = List ℕ}) c.in-Some.is in
    let next = option_copied c.next_column-column-in-Some.result in
    let list = c.loop-column.list.items in
    let step = column_step s.tables t name next (subst (λ (x : Option (List ℕ)). IsAt name_cmp x columns) here c.loop-column.invariant.0) c.next_column-column-in-Some.ensures in (
      step.at,
      lines_on name_cmp (λ e. instr_of (NewColumn t e.0 e.1) ∷ []) list c.put_column.new.list.items _ name next columns step
          (ap (λ x. list ++ flat_map (λ e. instr_of (NewColumn t e.0 e.1) ∷ []) (from name_cmp x columns)) (sym here) ∙ c.loop-column.invariant.1)
          (c.in_ok-put_column.ensures ∙ ap (λ x. list ++ option_map_or (λ def. instr_of (NewColumn t name def) ∷ []) x []) (column_at s.tables t name)),
    )
