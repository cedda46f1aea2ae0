use Rattle.std.proofs.Common.{ℕ, List, [], ◌++◌, length, ◌<◌, Option, sym, ap, ◌∙◌, subst}
use Rattle.std.specs.Prelude.{flat_map}
use Rattle.std.specs.Option.{option_copied, option_map_or}
use Rattle.std.specs.FinMap as map
use Rattle.sync_data.specs.Orders.{name_cmp}
use Rattle.sync_dump.specs.Dump.{table_lines}
use Rattle.sync_dump.proofs.Walk.{from, IsAt, smaller, lines_on}
use Rattle.sync_dump.proofs.Standing.{table_first, table_step}
use Rattle.sync_dump.proofs.dump.put_tables.Goals as goal

pub loop-table-init : goal.loop-table-init
loop-table-init c =
    let s = c.args.store.now in
    let w = table_first s.tables (option_copied c.next_table-table.result) c.next_table-table.ensures in
    (w.1, ap (λ es. c.args.out.items ++ flat_map (λ e. table_lines s e.0 e.1) es) w.0)

pub loop-table-smaller : goal.loop-table-smaller
loop-table-smaller c =
    let tables = map.entries c.args.store.now.tables in
    let here = ap (option_copied {T = List ℕ}) c.in-Some.is in
    let next = option_copied c.next_table-table-in-Some.result in
    let step = table_step c.args.store.now.tables c.in-Some.name.now next (subst (λ (x : Option (List ℕ)). IsAt name_cmp x tables) here c.loop-table.invariant.0) c.next_table-table-in-Some.ensures in
    subst (λ (x : Option (List ℕ)). length (from name_cmp next tables) < length (from name_cmp x tables)) (sym here) (smaller name_cmp _ _ _ step)

pub loop-table-preserved : goal.loop-table-preserved
loop-table-preserved c =
    let s = c.args.store.now in
    let name = c.in-Some.name.now in
    let tables = map.entries s.tables in
    let here = ap (option_copied {T = List ℕ}) c.in-Some.is in
    let next = option_copied c.next_table-table-in-Some.result in
    let out = c.loop-table.out.items in
    let step = table_step s.tables name next (subst (λ (x : Option (List ℕ)). IsAt name_cmp x tables) here c.loop-table.invariant.0) c.next_table-table-in-Some.ensures in (
      step.at,
      lines_on name_cmp (λ e. table_lines s e.0 e.1) out c.in_ok-out.out.items _ name next tables step
          (ap (λ x. out ++ flat_map (λ e. table_lines s e.0 e.1) (from name_cmp x tables)) (sym here) ∙ c.loop-table.invariant.1)
          (c.in_ok-out.ensures ∙ ap (λ x. out ++ option_map_or (table_lines s name) x []) (map.get-entries s.tables name)),
    )
