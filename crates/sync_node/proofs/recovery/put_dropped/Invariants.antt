use Rattle.std.proofs.Common.{◌≡◌, ◌++◌, map, drop}
use Rattle.sync_node.specs.Recovering.{dropped_lines}
use Rattle.sync_node.proofs.recovery.put_dropped.Given as goal

-- the lines so far, and those that are left
abbrev pub invariant-loop-drop : goal.invariant-loop-drop
invariant-loop-drop l = l.out.items ++ dropped_lines l.number l.change (map (λ d. (d.place, d.code)) (drop l.drop-index l.dropped)) ≡ l.fn.out.items ++ dropped_lines l.number l.change (map (λ d. (d.place, d.code)) l.dropped)
