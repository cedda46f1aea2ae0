use Rattle.std.proofs.Common.{◌≡◌, length}
use Rattle.sync_store.specs.Backs.{all_back}
use Rattle.sync_store.proofs.parts.Parts.take_all_back.Given as goal

-- what is left to take back gives what all gives
abbrev pub invariant-loop-undo : goal.invariant-loop-undo
invariant-loop-undo l = all_back l.undos.items l.self ≡ all_back l.initial.undos.items l.initial.self

abbrev pub decreases-loop-undo : goal.decreases-loop-undo
decreases-loop-undo l = length l.undos.items
