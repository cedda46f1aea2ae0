use Rattle.std.proofs.Common.{◌≡◌, ◌++◌, take}
use Rattle.std.specs.Option.{option_copied}
use Rattle.std.specs.FinMap.{entries}
use Rattle.sync_data.specs.Orders.{key_cmp}
use Rattle.std.specs.List.{flat_map}
use Rattle.sync_dump.specs.Dump.{objects_in}
use Rattle.sync_dump.proofs.Walk.{from, IsAt}
use Rattle.sync_host.specs.Pages.{page_line, page_lines}
use Rattle.sync_host.proofs.page.put_page.Given as goal

-- the lines so far, and those of the objects that are left, as many as are still asked for
abbrev pub invariant-loop-object : goal.invariant-loop-object
invariant-loop-object l =
    IsAt key_cmp (option_copied l.object) (objects_in l.table (entries l.store.objects))
    × (l.out.items ++ flat_map (λ e. page_line l.store l.keys l.table e.0) (take l.left (from key_cmp (option_copied l.object) (objects_in l.table (entries l.store.objects)))) ≡ l.fn.out.items ++ page_lines l.store l.keys l.table (option_copied l.fn.behind) l.fn.count)

abbrev pub decreases-loop-object : goal.decreases-loop-object
decreases-loop-object l = l.left
