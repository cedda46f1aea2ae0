use Rattle.std.proofs.Common.{◌≡◌}
use Rattle.life_marks.specs.ClientMarks.{seen, frontier, frontier_by}
use Rattle.life_marks.proofs.client_marks.ClientMarks.frontier.Given as goal

-- those that are left stand behind those so far
abbrev pub invariant-loop-before : goal.invariant-loop-before
invariant-loop-before l = record { so_far : frontier_by (seen l.self) l.before l.tokens.items ≡ frontier (seen l.self) l.number }

abbrev pub decreases-loop-before : goal.decreases-loop-before
decreases-loop-before l = l.before
