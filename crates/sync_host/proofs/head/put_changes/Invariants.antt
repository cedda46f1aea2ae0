use Rattle.std.proofs.Common.{◌≡◌, ◌++◌, drop}
use Rattle.std.specs.List.{flat_map}
use Rattle.sync_host.specs.Heads.{change_bytes}
use Rattle.sync_host.proofs.head.put_changes.Given as goal

-- those so far, and those that are left
abbrev pub invariant-loop-change : goal.invariant-loop-change
invariant-loop-change l = l.out.items ++ flat_map change_bytes (drop l.change-index l.changes) ≡ l.fn.out.items ++ flat_map change_bytes l.changes
