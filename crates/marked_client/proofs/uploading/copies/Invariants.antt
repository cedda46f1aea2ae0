use Rattle.std.proofs.Common.{◌≡◌, take}
use Rattle.marked_client.proofs.uploading.copies.Given as goal

-- the copies so far
abbrev pub invariant-loop-place : goal.invariant-loop-place
invariant-loop-place l = record { so_far : l.changes.items ≡ take l.place l.all }
