use Rattle.std.proofs.Common.{◌≡◌, drop}
use Rattle.life_marks.specs.Reached.{number_of}
use Rattle.marked_server.specs.Testing.{lacks}
use Rattle.marked_server.proofs.testing.lacks.Given as goal

-- all so far are there
abbrev pub invariant-loop-token : goal.invariant-loop-token
invariant-loop-token l = record { so_far : lacks (number_of l.reached) (drop l.token-index l.tokens) ≡ lacks (number_of l.reached) l.tokens }
