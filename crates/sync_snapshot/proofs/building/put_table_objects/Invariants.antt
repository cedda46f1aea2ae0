use Rattle.std.proofs.Common.{map, length}
use Rattle.std.specs.Prelude.{flat_map}
use Rattle.std.specs.Option.{option_copied}
use Rattle.std.specs.FinMap.{entries}
use Rattle.sync_data.specs.Orders.{key_cmp}
use Rattle.sync_base.specs.Effects.{instr_of}
use Rattle.store_walks.specs.Along.{objects_in}
use Rattle.store_walks.specs.Walk.{from, IsAt}
use Rattle.snapshot_law.specs.Build.{object_effects}
use Rattle.sync_snapshot.specs.Lists.{table_instrs}
use Rattle.sync_snapshot.specs.Parts.{Leaves}
use Rattle.sync_snapshot.proofs.building.put_table_objects.Given as goal

-- the objects that are left
abbrev pub invariant-loop-key : goal.invariant-loop-key
invariant-loop-key l =
    IsAt key_cmp (option_copied l.key) (objects_in l.table (entries l.objects.objects))
    × Leaves l.fn.cutter l.cutter (table_instrs l.objects l.table) (flat_map (λ e. map instr_of (object_effects l.objects (l.table, e.0) e.1)) (from key_cmp (option_copied l.key) (objects_in l.table (entries l.objects.objects))))

abbrev pub decreases-loop-key : goal.decreases-loop-key
decreases-loop-key l = length (from key_cmp (option_copied l.key) (objects_in l.table (entries l.objects.objects)))
