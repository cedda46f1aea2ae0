use Rattle.std.proofs.Common.{length, take, ◌∙◌, ap, arith}
use Rattle.sync_disk.specs.Images.{synced, content_after}
use Rattle.sync_disk.specs.Memory.{start_of, strokes_of}
use Rattle.sync_disk.proofs.Tearing.{after_content, content_grows}
use Rattle.sync_disk.proofs.Replay.{replay_short}
use Rattle.sync_disk.proofs.crash.leave.Goals as goal

pub restore-requires : goal.restore-requires
restore-requires c =
    let start = start_of c.args.start.now c.args.bytes.now.items in
    let strokes = strokes_of c.args.strokes.now in
    let same = c.requires ∙ after_content (synced start) strokes in
    omega (arith, ap length same, content_grows start strokes, c.args.bytes.now.ok.0, c.args.bytes.now.ok.1)

pub replay-requires : goal.replay-requires
replay-requires c =
    let start = start_of c.args.start.now c.args.bytes.now.items in
    let strokes = strokes_of c.args.strokes.now in
    let same = c.requires ∙ after_content (synced start) strokes in
    let from = ap (λ b. content_after b (strokes_of (take c.synced_strokes-synced.result c.args.strokes.now))) c.restore.ensures.content in
    omega (arith, ap length from, ap length same, replay_short start c.args.strokes.now c.synced_strokes-synced.result, c.restore.ensures.room, c.args.bytes.now.ok.0, c.args.bytes.now.ok.1)
