use Rattle.std.proofs.Common.{◌≡◌, ◌++◌, length}
use Rattle.std.specs.Option.{option_copied}
use Rattle.std.specs.FinMap.{entries}
use Rattle.sync_data.specs.Orders.{key_cmp}
use Rattle.sync_dump.specs.Dump.{object_lines, objects_in}
use Rattle.sync_dump.specs.Walks.{columns_in}
use Rattle.sync_dump.proofs.Walk.{from, IsAt}
use Rattle.sync_dump.proofs.dump.put_objects.Given as goal

-- the lines so far, and those of the objects that are left
abbrev pub invariant-loop-object : goal.invariant-loop-object
invariant-loop-object l =
    IsAt key_cmp (option_copied l.object) (objects_in l.table (entries l.store.objects))
    × (l.out.items ++ object_lines l.store (columns_in l.store.tables l.table) l.table (from key_cmp (option_copied l.object) (objects_in l.table (entries l.store.objects))) ≡ l.fn.out.items ++ object_lines l.store (columns_in l.store.tables l.table) l.table (objects_in l.table (entries l.store.objects)))

abbrev pub decreases-loop-object : goal.decreases-loop-object
decreases-loop-object l = length (from key_cmp (option_copied l.object) (objects_in l.table (entries l.store.objects)))
