use Rattle.std.proofs.Common.{ℕ, List, [], ◌++◌, length, ◌<◌, Option, sym, ap, ◌∙◌, subst}
use Rattle.std.specs.Prelude.{flat_map}
use Rattle.std.specs.Option.{option_copied, option_map_or}
use Rattle.sync_data.specs.Orders.{name_cmp}
use Rattle.sync_base.specs.Effects.{ObjectName}
use Rattle.store_walks.specs.Along.{cells_in}
use Rattle.store_walks.specs.Walk.{from, IsAt, smaller, lines_on}
use Rattle.store_walks.specs.Standing.{cell_found, cell_first, cell_step}
use Rattle.sync_snapshot.specs.Lists.{cell_instrs}
use Rattle.sync_snapshot.proofs.objects.put_cells.Goals as goal

pub loop-column-init : goal.loop-column-init
loop-column-init c =
    let s = c.args.objects.now in
    let t = c.args.table.now in
    let o : ObjectName = (t, c.args.key.now) in
    let columns = cells_in s o in
    let w = cell_first s c.keeps_its_limits.ensures.state o c.requires.there (option_copied c.next_column-column.result) c.next_column-column.ensures in
    (w.1, ap (λ es. c.args.list.now.items ++ flat_map (λ e. cell_instrs s o e.0 e.1) es) w.0)

pub loop-column-smaller : goal.loop-column-smaller
loop-column-smaller c =
    let s = c.args.objects.now in
    let t = c.args.table.now in
    let o : ObjectName = (t, c.args.key.now) in
    let columns = cells_in s o in
    let here = ap (option_copied {T = List ℕ}) c.in-Some.is in
    let next = option_copied c.next_column-column-in-Some.result in
    let step = cell_step s c.keeps_its_limits.ensures.state o c.requires.there c.in-Some.name.now next (subst (λ (x : Option (List ℕ)). IsAt name_cmp x columns) here c.loop-column.invariant.0) c.next_column-column-in-Some.ensures in
    subst (λ (x : Option (List ℕ)). length (from name_cmp next columns) < length (from name_cmp x columns)) (sym here) (smaller name_cmp _ _ _ step)

pub loop-column-preserved : goal.loop-column-preserved
loop-column-preserved c =
    let s = c.args.objects.now in
    let t = c.args.table.now in
    let o : ObjectName = (t, c.args.key.now) in
    let name = c.in-Some.name.now in
    let columns = cells_in s o in
    let here = ap (option_copied {T = List ℕ}) c.in-Some.is in
    let next = option_copied c.next_column-column-in-Some.result in
    let list = c.loop-column.list.items in
    let step = cell_step s c.keeps_its_limits.ensures.state o c.requires.there name next (subst (λ (x : Option (List ℕ)). IsAt name_cmp x columns) here c.loop-column.invariant.0) c.next_column-column-in-Some.ensures in (
      step.at,
      lines_on name_cmp (λ e. cell_instrs s o e.0 e.1) list c.put_cell.new.list.items _ name next columns step
          (ap (λ x. list ++ flat_map (λ e. cell_instrs s o e.0 e.1) (from name_cmp x columns)) (sym here) ∙ c.loop-column.invariant.1)
          (c.in_ok-put_cell.ensures ∙ ap (λ x. list ++ option_map_or (cell_instrs s o name) x []) (cell_found s o name)),
    )
