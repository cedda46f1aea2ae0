use Rattle.std.proofs.Common.{◌≡◌, drop}
use Rattle.life_bytes.specs.Envelopes.{rise_within}
use Rattle.life_bytes.proofs.says.rise_within.Given as goal

-- what is left decides
abbrev pub invariant-loop-saving : goal.invariant-loop-saving
invariant-loop-saving l = record { so_far : rise_within l.next l.high (drop l.saving-index l.saves) ≡ rise_within l.low l.high l.saves }
