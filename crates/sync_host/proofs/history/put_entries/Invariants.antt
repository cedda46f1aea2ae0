use Rattle.std.proofs.Common.{◌≡◌, ◌++◌, ◌-◌, drop, take}
use Rattle.std.specs.List.{flat_map}
use Rattle.server_memory.specs.Kept.{parts}
use Rattle.sync_server.specs.Serving.{kept_of}
use Rattle.sync_host.specs.Histories.{entry_told}
use Rattle.sync_host.proofs.history.put_entries.Given as goal

-- the entries so far, and those that are left
abbrev pub invariant-loop-next : goal.invariant-loop-next
invariant-loop-next g l = let kept = parts (kept_of l.server) in l.out.items ++ flat_map entry_told (take l.left (drop (l.next - kept.floor) kept.entries)) ≡ l.fn.out.items ++ flat_map entry_told (take l.count (drop (l.version - kept.floor) kept.entries))
