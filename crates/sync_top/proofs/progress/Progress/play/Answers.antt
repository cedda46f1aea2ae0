use Rattle.std.proofs.Common.{sym, subst}
use Rattle.std.specs.Result.{OnOk}
use Rattle.sync_model.specs.Worlds.{empty_world}
use Rattle.gen_law.specs.declared.plan.Move.{Move}
use Rattle.gen_law.specs.Generated.{move_events, world_by}
use Rattle.sync_top.specs.Playing.{Plays}
use Rattle.sync_top.proofs.progress.Progress.play.Goals as goal

pub returns-in-Join : goal.returns-in-Join
returns-in-Join c = λ es small goes.
    subst (λ (m : Move). OnOk c.join.result (Plays (move_events m (world_by empty_world es) c.args.self.now.draws) es c.join.new.self c.join.new.world)) (sym c.in-Join.is) (c.join.ensures es small goes)
