use Rattle.sync_client.proofs.Uploads.{UploadSoFar}
use Rattle.sync_client.proofs.sending.changes_of.Given as goal

abbrev pub invariant-loop-place : goal.invariant-loop-place
invariant-loop-place l = UploadSoFar l.after l.unsent l.place l.room l.changes.items
