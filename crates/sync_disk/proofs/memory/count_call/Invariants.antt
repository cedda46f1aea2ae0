use Rattle.std.proofs.Common.{◌≡◌, ◌++◌, ◌-◌, ℕ, map, take, drop}
use Rattle.sync_disk.proofs.memory.count_call.Given as goal

abbrev pub invariant-loop-number : goal.invariant-loop-number
invariant-loop-number l = l.number-items ≡ map (λ (n : ℕ). n - 1) (take l.number-index l.initial.number-items) ++ drop l.number-index l.initial.number-items
