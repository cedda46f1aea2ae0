use Rattle.std.proofs.Common.{◌≡◌, ◌++◌, take}
use Rattle.life_bytes.specs.Runs.{lives_of}
use Rattle.life_marks.proofs.life_list.LifeList.extend.Given as goal

abbrev pub invariant-loop-run : goal.invariant-loop-run
invariant-loop-run l = record { so_far : l.self ≡ l.fn.self ++ lives_of (take l.run-index l.runs) }
