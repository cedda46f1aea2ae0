use Rattle.std.proofs.Common.{refl, arith}
use Rattle.sync_model.specs.Worlds.{Event}
use Rattle.sync_top.proofs.Plays.{one_plays}
use Rattle.sync_top.proofs.Steps.{on_ok}
use Rattle.sync_top.proofs.progress.Progress.push.Goals as goal

pub returns : goal.returns
returns c = λ es small goes.
    on_ok c.exchange.result (c.exchange.ensures es (omega arith) goes)
    (λ goes. record { goes = one_plays es c.args.client c.client_name.result (λ n. Event.Uploads n) c.exchange.new.self c.exchange.new.world c.client_name.ensures goes; draws = refl })
