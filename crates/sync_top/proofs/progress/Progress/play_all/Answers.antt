use borrow.Author.Tests.{ltb-true}
use Rattle.std.proofs.Common.{◌<◌, length, arith}
use Rattle.sync_top.proofs.Playing.{drop_next, one_played}
use Rattle.sync_top.proofs.progress.Progress.play_all.Goals as goal

pub loop-part-preserved : goal.loop-part-preserved
loop-part-preserved c =
    let so = c.loop-part.invariant in
    let inside : c.loop-part.part-index < length c.args.parts.now = omega (arith, ltb-true) in
    one_played c.loop-part.part-index c.args.parts.now c.args.self.now.draws _ c.loop-part.self c.play.new.self c.loop-part.world c.play.new.world so
    (drop_next c.args.parts.now c.loop-part.part-index _ inside) (c.in_ok-play.ensures so.events (omega (arith, so.few, c.requires.few)) so.goes)
