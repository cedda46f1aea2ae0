use Rattle.std.proofs.Common.{refl, arith, ◌∙◌}
use Rattle.sync_top.proofs.Plays.{found_plays}
use Rattle.sync_top.proofs.Steps.{on_ok}
use Rattle.sync_top.proofs.progress.Progress.found.Goals as goal

pub returns : goal.returns
returns c = λ es small goes.
    on_ok c.step.result (c.step.ensures es (omega arith) goes)
    (λ goes. record { goes = found_plays es c.client_name-client.result c.of-edits.result c.step.new.self c.step.new.world c.client_name-client.ensures (c.of-edits.ensures ∙ c.in_ok-first_edits.ensures) goes; draws = refl })
