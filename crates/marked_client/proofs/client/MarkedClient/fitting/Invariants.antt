use Rattle.std.proofs.Common.{◌≡◌, ◌+◌, drop}
use Rattle.marked_client.specs.Marked.{marks_of}
use Rattle.marked_client.specs.Saying.{fitting, fitting_in}
use Rattle.marked_client.proofs.client.MarkedClient.fitting.Given as goal

-- those so far fit, and of the others as many as there is room for
abbrev pub invariant-loop-place : goal.invariant-loop-place
invariant-loop-place g l = record { so_far : l.place + fitting_in (marks_of l.self) l.room (drop l.place l.changes) ≡ fitting (marks_of l.self) l.changes }
