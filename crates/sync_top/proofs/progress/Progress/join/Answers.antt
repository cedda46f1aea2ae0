use Rattle.std.proofs.Common.{refl, arith}
use Rattle.sync_model.specs.Worlds.{Event}
use Rattle.sync_top.proofs.Playing.{one_longer, sent_by}
use Rattle.sync_top.proofs.Plays.{join_plays}
use Rattle.sync_top.proofs.Steps.{on_ok}
use Rattle.sync_top.proofs.progress.Progress.join.Goals as goal

pub returns : goal.returns
returns c = λ es small goes.
    let coming = Event.Joins c.client_name-name.result c.client_id-id.result in
    let one = c.in_ok-step.ensures es (omega arith) goes in
    let first = one_longer es coming in
    on_ok c.exchange.result (c.exchange.ensures (sent_by es coming) (omega (arith, first)) one)
    (λ goes. record {
      goes = join_plays es c.args.client c.args.self.now.draws c.client_name-name.result c.client_name.result c.client_id-id.result c.exchange.new.self c.exchange.new.world c.client_name-name.ensures c.client_name.ensures c.client_id-id.ensures goes;
      draws = refl;
    })
