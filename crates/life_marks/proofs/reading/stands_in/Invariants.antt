use Rattle.std.proofs.Common.{◌≡◌, drop}
use Rattle.std.specs.List.{list_any}
use Rattle.life_marks.specs.Reading.{begins}
use Rattle.life_marks.proofs.reading.stands_in.Given as goal

-- it begins in none so far
abbrev pub invariant-loop-place : goal.invariant-loop-place
invariant-loop-place l = record { so_far : list_any (begins l.life) (drop l.place l.pieces) ≡ list_any (begins l.life) l.pieces }
