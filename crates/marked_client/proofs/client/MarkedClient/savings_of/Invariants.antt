use Rattle.std.proofs.Common.{◌≡◌, ◌≤◌, ◌++◌, drop, length}
use Rattle.marked_client.specs.Marked.{marks_of}
use Rattle.marked_client.specs.Saying.{savings_told}
use Rattle.marked_client.proofs.client.MarkedClient.savings_of.Given as goal

-- those of the changes that are left stand behind those so far
abbrev pub invariant-loop-change : goal.invariant-loop-change
invariant-loop-change g l = record {
  so_far : l.savings.items ++ savings_told (marks_of l.self) (drop l.change-index l.changes) ≡ savings_told (marks_of l.self) l.changes;
  few : length l.savings.items ≤ l.change-index;
}
