use Rattle.std.proofs.Common.{◌≡◌, ◌≤◌, ◌++◌, ◌-◌, length, take, drop}
use Rattle.list_blocks.specs.Blocks.{acted}
use Rattle.list_blocks.proofs.write.write_all.Given as goal

abbrev pub invariant-loop-read : goal.invariant-loop-read
invariant-loop-read l = (take l.count l.instrs ++ acted (drop l.read l.actions) (drop l.read l.instrs) ≡ acted l.actions l.initial.instrs) × (l.count ≤ l.read)

abbrev pub decreases-loop-read : goal.decreases-loop-read
decreases-loop-read l = length l.actions - l.read
