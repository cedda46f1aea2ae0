use Rattle.std.proofs.Common.{◌≡◌, drop}
use Rattle.marked_server.specs.Uploading.{saves_at}
use Rattle.marked_server.proofs.uploading.saves_at.Given as goal

-- none so far has the number
abbrev pub invariant-loop-saving : goal.invariant-loop-saving
invariant-loop-saving l = record { so_far : saves_at (drop l.saving-index l.saves) l.number ≡ saves_at l.saves l.number }
