use Rattle.std.proofs.Common.{◌≡◌, ◌++◌, drop, map}
use Rattle.std.specs.List.{flat_map}
use Rattle.sync_host.specs.Heirs.{drop_bytes}
use Rattle.sync_host.proofs.heir.put_dropped.Given as goal

-- those so far, and those that are left
abbrev pub invariant-loop-drop : goal.invariant-loop-drop
invariant-loop-drop l = l.out.items ++ flat_map drop_bytes (map (λ d. (d.place, d.code)) (drop l.drop-index l.dropped)) ≡ l.fn.out.items ++ flat_map drop_bytes (map (λ d. (d.place, d.code)) l.dropped)
