use Rattle.std.proofs.Common.{◌≡◌, ◌++◌, length}
use Rattle.std.specs.Option.{option_copied}
use Rattle.sync_data.specs.Orders.{name_cmp}
use Rattle.sync_dump.specs.Dump.{column_lines}
use Rattle.sync_dump.specs.Walks.{columns_in}
use Rattle.sync_dump.proofs.Walk.{from, IsAt}
use Rattle.sync_dump.proofs.dump.put_columns.Given as goal

-- the lines so far, and those of the columns that are left
abbrev pub invariant-loop-column : goal.invariant-loop-column
invariant-loop-column l =
    IsAt name_cmp (option_copied l.column) (columns_in l.store.tables l.table)
    × (l.out.items ++ column_lines l.table (from name_cmp (option_copied l.column) (columns_in l.store.tables l.table)) ≡ l.fn.out.items ++ column_lines l.table (columns_in l.store.tables l.table))

abbrev pub decreases-loop-column : goal.decreases-loop-column
decreases-loop-column l = length (from name_cmp (option_copied l.column) (columns_in l.store.tables l.table))
