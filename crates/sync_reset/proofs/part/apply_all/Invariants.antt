use Rattle.std.proofs.Common.{◌≡◌}
use Rattle.sync_base.specs.Checks.{act_all}
use Rattle.sync_reset.proofs.part.apply_all.Given as goal

-- what all lead to is what the rest leads to from here
abbrev pub invariant-loop-instr : goal.invariant-loop-instr
invariant-loop-instr l = act_all l.fn.instrs.items l.fn.part ≡ act_all l.instr-iterator.rest.items l.part
