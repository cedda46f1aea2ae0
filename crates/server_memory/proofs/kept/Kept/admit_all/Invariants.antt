use Rattle.std.proofs.Common.{drop}
use Rattle.server_memory.proofs.Reading.{ReadSoFar}
use Rattle.server_memory.proofs.kept.Kept.admit_all.Given as goal

abbrev pub invariant-loop-place : goal.invariant-loop-place
invariant-loop-place l = ReadSoFar (drop l.first l.files) l.first l.place (drop l.place l.files) l.fn.self l.self
