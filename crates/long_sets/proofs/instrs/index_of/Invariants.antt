use Rattle.sync_rivals.specs.Lists.{Lists}
use Rattle.long_sets.specs.Rows.{lists_in}
use Rattle.long_sets.proofs.instrs.index_of.Given as goal

abbrev pub invariant-loop : goal.invariant-loop
invariant-loop l = Lists l.index (lists_in l.slots)
