use Rattle.std.proofs.Common.{◌≡◌, take}
use Rattle.long_sets.specs.Rows.{somes}
use Rattle.long_sets.proofs.instrs.slots_of.Given as goal

abbrev pub invariant-loop-instr : goal.invariant-loop-instr
invariant-loop-instr l = l.slots.items ≡ somes (take l.instr-index l.instrs)
