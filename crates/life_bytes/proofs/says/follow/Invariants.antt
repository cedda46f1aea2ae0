use Rattle.std.proofs.Common.{◌≡◌, ◌+◌, drop}
use Rattle.life_bytes.specs.Envelopes.{follow}
use Rattle.life_bytes.proofs.says.follow.Given as goal

-- what is left decides
abbrev pub invariant-loop-change : goal.invariant-loop-change
invariant-loop-change l = record {
  so_far : follow l.next (drop l.change-index l.changes) ≡ follow l.first l.changes;
  next : l.next ≡ l.first + l.change-index;
}
