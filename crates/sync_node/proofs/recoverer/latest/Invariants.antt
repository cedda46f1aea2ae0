use Rattle.std.proofs.Common.{◌≡◌, ℕ, drop}
use Rattle.sync_model.specs.Resets.{count_known}
use Rattle.sync_node.specs.Heirs.{counts_of, mine}
use Rattle.sync_node.proofs.recoverer.latest.Given as goal

-- the ident isn't among those before
abbrev pub invariant-loop-retired : goal.invariant-loop-retired
invariant-loop-retired l = record {
  known : count_known l.ident (counts_of (drop l.retired-index l.heard)) ≡ count_known l.ident (counts_of l.heard);
  ours : (by : ℕ) → mine by l.heard → mine by (drop l.retired-index l.heard);
}
