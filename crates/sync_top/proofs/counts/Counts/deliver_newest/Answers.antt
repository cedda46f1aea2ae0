use Rattle.std.proofs.Common.{◌++◌, [], ◌∷◌, ℕ, subst}
use Rattle.std.specs.Result.{OnOk}
use Rattle.sync_model.specs.Worlds.{Event}
use Rattle.sync_top.specs.Counting.{Goes}
use Rattle.sync_top.proofs.counts.Counts.deliver_newest.Goals as goal

pub returns : goal.returns
returns c = λ es small goes. subst (λ (n : ℕ). OnOk c.step.result (Goes (es ++ Event.Delivers n c.args.to ∷ []) c.step.new.self c.step.new.world)) goes.messages (c.step.ensures es small goes)
