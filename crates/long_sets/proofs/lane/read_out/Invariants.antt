use Rattle.std.proofs.Common.{List}
use Rattle.sync_data.specs.declared.value.Value.{Value}
use Rattle.sync_data.specs.declared.instr.CellName.{CellName}
use Rattle.long_sets.specs.Lists.{AllSuit}
use Rattle.long_sets.proofs.Telling.{SoFar}
use Rattle.long_sets.proofs.lane.read_out.Given as goal

abbrev pub invariant-loop-slot : goal.invariant-loop-slot
invariant-loop-slot l = (c : CellName) (values : List Value) → AllSuit c values l.slots l.initial.lane.slots → SoFar c values l.slot-index l.slots l.initial.lane l.lane l.read.items
