use Rattle.sync_top.specs.Playing.{PlayedSoFar}
use Rattle.sync_top.proofs.progress.Progress.play_all.Given as goal

abbrev pub invariant-loop-part : goal.invariant-loop-part
invariant-loop-part l = PlayedSoFar l.part-index l.parts l.initial.self.draws l.self l.world
