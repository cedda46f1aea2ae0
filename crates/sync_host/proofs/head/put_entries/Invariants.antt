use Rattle.std.proofs.Common.{◌≡◌, ◌++◌, drop}
use Rattle.std.specs.List.{flat_map}
use Rattle.sync_host.specs.Heads.{entry_bytes}
use Rattle.sync_host.proofs.head.put_entries.Given as goal

-- those so far, and those that are left
abbrev pub invariant-loop-entry : goal.invariant-loop-entry
invariant-loop-entry l = l.out.items ++ flat_map entry_bytes (drop l.entry-index l.entries) ≡ l.fn.out.items ++ flat_map entry_bytes l.entries
