use Rattle.std.proofs.Common.{ℕ, length, sym, ap, subst, ◌∙◌}
use Rattle.outbox_disk.specs.contracts.disk.OutboxDiskDisk.TheImpl.{ghosts as outbox}
use Rattle.sync_disk.specs.Origin.{Origin}
use Rattle.sync_disk.specs.Strokes.{Stroke}
use Rattle.sync_journal.specs.Records.{records_of}
use Rattle.sync_journal.specs.Stands.{disk_of}
use Rattle.sync_server.specs.Files.{BadPlace}
use Rattle.sync_server.specs.Serving.{journal_of}
use Rattle.sync_host.proofs.Files.{unopened_so}
use Rattle.sync_host.proofs.opening.open_server.Goals as goal

pub returns-in-Ok-open-clause-begins : goal.returns-in-Ok-open-clause-begins
returns-in-Ok-open-clause-begins c = record {
  start = ap (λ (o : Origin). o.start) (c.in-Ok-open.ensures.origin ∙ c.in-Ok.ensures.origin);
  any_moment = λ file reads left is.
      (c.in-Ok-open.ensures.any_moment file c.args.file.now c.in-Ok.ensures.content (λ d image. ap records_of (c.in-Ok.ensures.images d image) ∙ reads)).each left
      (subst (λ (n : ℕ). outbox.images_since (disk_of (journal_of c.in-Ok-open.server)) n left) (sym (ap (length {A = Stroke}) c.in-Ok.ensures.strokes)) is);
}

pub returns-in-Err-clause-refused : goal.returns-in-Err-clause-refused
returns-in-Err-clause-refused c =
    unopened_so (BadPlace c.args.file.now) c.in-Err.refusal.cause c.unopened.result (c.in-Err.ensures.bad c.args.file.now c.in-Ok.ensures.content)
    (c.in-Err.ensures.sound c.args.file.now c.in-Ok.ensures.content (record { never = ap (λ (o : Origin). o.stop) c.in-Ok.ensures.origin; none = ap (λ (o : Origin). o.listed) c.in-Ok.ensures.origin })) c.unopened.ensures
