use Rattle.std.proofs.Common.{List, ℕ, [], ◌∷◌, ◌++◌, refl, arith, subst}
use Rattle.sync_model.specs.Worlds.{Event}
use Rattle.sync_top.specs.Counting.{Goes}
use Rattle.sync_top.proofs.Steps.{on_ok}
use Rattle.sync_top.proofs.progress.Progress.restart.Goals as goal

pub returns : goal.returns
returns c = λ es small goes.
    on_ok c.step.result (c.step.ensures es (omega arith) goes)
    (λ goes. record { goes = subst (λ (n : List ℕ). Goes (es ++ Event.Restarts n ∷ []) c.step.new.self c.step.new.world) c.client_name-node.ensures goes; draws = refl })
