use Rattle.std.proofs.Common.{◌≡◌, ◌++◌, take, drop}
use Rattle.life_bytes.specs.Runs.{lives_of}
use Rattle.life_marks.proofs.life_list.tell.Given as goal

-- what is still to be told stands behind what was told
abbrev pub invariant-loop-run : goal.invariant-loop-run
invariant-loop-run l = record { so_far : l.told ++ take l.left (drop l.skipped (lives_of (drop l.run-index l.runs))) ≡ l.fn.told ++ take l.fn.count (drop l.fn.from (lives_of l.runs)) }
