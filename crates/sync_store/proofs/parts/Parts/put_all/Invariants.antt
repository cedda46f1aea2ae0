use Rattle.sync_store.proofs.Acting.{Goes}
use Rattle.sync_store.proofs.parts.Parts.put_all.Given as goal

abbrev pub invariant-loop-place : goal.invariant-loop-place
invariant-loop-place l = Goes l.instrs l.fn.self l.self l.place l.undos.items
