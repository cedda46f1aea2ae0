use Rattle.std.proofs.Common.{length}
use Rattle.std.specs.Prelude.{flat_map}
use Rattle.std.specs.Option.{option_copied}
use Rattle.std.specs.FinMap.{entries}
use Rattle.sync_data.specs.Orders.{name_cmp}
use Rattle.store_walks.specs.Walk.{from, IsAt}
use Rattle.sync_snapshot.specs.Lists.{table_instrs}
use Rattle.sync_snapshot.specs.Parts.{Leaves}
use Rattle.sync_snapshot.proofs.building.put_objects.Given as goal

-- the tables that are left
abbrev pub invariant-loop-table : goal.invariant-loop-table
invariant-loop-table l =
    IsAt name_cmp (option_copied l.table) (entries l.objects.tables)
    × Leaves l.fn.cutter l.cutter (flat_map (λ e. table_instrs l.objects e.0) (entries l.objects.tables)) (flat_map (λ e. table_instrs l.objects e.0) (from name_cmp (option_copied l.table) (entries l.objects.tables)))

abbrev pub decreases-loop-table : goal.decreases-loop-table
decreases-loop-table l = length (from name_cmp (option_copied l.table) (entries l.objects.tables))
