use Rattle.std.proofs.Common.{[], ◌∙◌, ap}
use Rattle.sync_disk.specs.Faults.{begun}
use Rattle.outbox_disk.proofs.Begun.{first_written}
use Rattle.outbox_disk.proofs.disk.OutboxDisk.over.Goals as goal

pub returns-clause-images : goal.returns-clause-images
returns-clause-images c =
    let content = c.begin_anew.ensures.content ∙ first_written c.args.bytes.now c.write_at.result c.in-Ok.field-0 _ (c.write_at.ensures.written [] c.in_ok-disk.ensures.content) c.in-Ok.is in
    c.begin_anew.ensures.synced c.args.bytes.now content

pub returns-clause-origin : goal.returns-clause-origin
returns-clause-origin c =
    let content = c.begin_anew.ensures.content ∙ first_written c.args.bytes.now c.write_at.result c.in-Ok.field-0 _ (c.write_at.ensures.written [] c.in_ok-disk.ensures.content) c.in-Ok.is in
    c.begin_anew.ensures.origin c.args.bytes.now content ∙ ap (begun c.args.bytes.now) (c.write_at.ensures.origin ∙ c.in_ok-disk.ensures.origin)

pub returns-clause-content : goal.returns-clause-content
returns-clause-content c =
    c.begin_anew.ensures.content ∙ first_written c.args.bytes.now c.write_at.result c.in-Ok.field-0 _ (c.write_at.ensures.written [] c.in_ok-disk.ensures.content) c.in-Ok.is

pub returns-clause-strokes : goal.returns-clause-strokes
returns-clause-strokes c = c.begin_anew.ensures.strokes
