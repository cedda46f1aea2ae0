use Rattle.std.proofs.Common.{◌≡◌, ◌++◌, length}
use Rattle.std.specs.Prelude.{flat_map}
use Rattle.std.specs.Option.{option_copied}
use Rattle.sync_data.specs.Orders.{name_cmp}
use Rattle.store_walks.specs.Along.{cells_in}
use Rattle.store_walks.specs.Walk.{from, IsAt}
use Rattle.sync_snapshot.specs.Lists.{cell_instrs}
use Rattle.sync_snapshot.proofs.objects.put_cells.Given as goal

-- the instructions so far, and those of the columns that are left
abbrev pub invariant-loop-column : goal.invariant-loop-column
invariant-loop-column l =
    IsAt name_cmp (option_copied l.column) (cells_in l.objects (l.table, l.key))
    × (l.list.items ++ flat_map (λ e. cell_instrs l.objects (l.table, l.key) e.0 e.1) (from name_cmp (option_copied l.column) (cells_in l.objects (l.table, l.key))) ≡ l.fn.list.items ++ flat_map (λ e. cell_instrs l.objects (l.table, l.key) e.0 e.1) (cells_in l.objects (l.table, l.key)))

abbrev pub decreases-loop-column : goal.decreases-loop-column
decreases-loop-column l = length (from name_cmp (option_copied l.column) (cells_in l.objects (l.table, l.key)))
