use Rattle.std.proofs.Common.{◌≡◌, ◌+◌, length, take, sym, ◌∙◌, ap, arith}
use Rattle.sync_disk.specs.Images.{acted, content_after}
use Rattle.sync_disk.specs.Memory.{act_of, strokes_of}
use Rattle.sync_disk.proofs.Replay.{replay_more, replay_short}
use Rattle.sync_disk.proofs.writing.replay.Goals as goal

pub act-requires : goal.act-requires
act-requires c =
    let i = c.loop-stroke.stroke-index in
    let x = c.stroke-item.result in
    let more = replay_more c.args.content.now.items c.args.strokes.now i x (omega arith) c.stroke-item.is in
    let here : acted c.loop-stroke.content.items (act_of x.asked) x.lost ≡ content_after c.args.content.now.items (strokes_of (take (i + 1) c.args.strokes.now)) =
    ap (λ b. acted b (act_of x.asked) x.lost) c.loop-stroke.invariant.content ∙ sym more in
    omega (arith, ap length here, replay_short c.args.content.now.items c.args.strokes.now (i + 1), c.requires, c.loop-stroke.invariant.room)

pub loop-stroke-preserved : goal.loop-stroke-preserved
loop-stroke-preserved c =
    let i = c.loop-stroke.stroke-index in
    let x = c.stroke-item.result in
    let more = replay_more c.args.content.now.items c.args.strokes.now i x (omega arith) c.stroke-item.is in
    record {
      content = c.act.ensures.content ∙ ap (λ b. acted b (act_of x.asked) x.lost) c.loop-stroke.invariant.content ∙ sym more;
      room = omega (arith, c.act.ensures.room, c.loop-stroke.invariant.room);
    }
