use Rattle.std.proofs.Common.{◌≡◌, ◌≤◌, ◌*◌, take}
use Rattle.life_bytes.specs.Parts.{most_tokens}
use Rattle.life_bytes.specs.Envelopes.{tokens_of}
use Rattle.life_bytes.proofs.says.tokens_of.Given as goal

abbrev pub invariant-loop-saving : goal.invariant-loop-saving
invariant-loop-saving l = record {
  sum : l.count ≡ tokens_of (take l.saving-index l.saves);
  small : l.count ≤ most_tokens * l.saving-index;
}
