use Rattle.std.proofs.Common.{drop}
use Rattle.sync_reset.specs.Parts.{IsPartOf}
use Rattle.sync_reset.proofs.Brought.{Brings}
use Rattle.sync_reset.proofs.part.part_of.Given as goal

-- it is a part, and has what was named so far
abbrev pub invariant-loop-instr : goal.invariant-loop-instr
invariant-loop-instr l = IsPartOf l.part l.objects × Brings l.part l.objects l.instr-items (drop l.instr-index l.instr-items)
