use Rattle.std.proofs.Common.{◌≡◌, ◌++◌, length}
use Rattle.std.specs.Prelude.{flat_map}
use Rattle.std.specs.Option.{option_copied}
use Rattle.std.specs.FinMap.{entries}
use Rattle.sync_data.specs.Orders.{name_cmp}
use Rattle.sync_dump.specs.Dump.{table_lines, dump}
use Rattle.sync_dump.proofs.Walk.{from, IsAt}
use Rattle.sync_dump.proofs.dump.put_tables.Given as goal

-- the lines so far, and those of the tables that are left
abbrev pub invariant-loop-table : goal.invariant-loop-table
invariant-loop-table l =
    IsAt name_cmp (option_copied l.table) (entries l.store.tables)
    × (l.out.items ++ flat_map (λ e. table_lines l.store e.0 e.1) (from name_cmp (option_copied l.table) (entries l.store.tables)) ≡ l.fn.out.items ++ dump l.store)

abbrev pub decreases-loop-table : goal.decreases-loop-table
decreases-loop-table l = length (from name_cmp (option_copied l.table) (entries l.store.tables))
