use Rattle.std.proofs.Common.{◌≡◌, true}
use Rattle.sync_model.proofs.Progress.InTurn.{harmless_catch_up}
use Rattle.sync_model.proofs.Progress.Lasting.{event_harmless}
use Rattle.sync_model.proofs.Progress.Valid.{reached_valid}
use Rattle.sync_model.proofs.laws.harmless_clients_catch_up.Goals as goal

pub returns : goal.returns
returns g c =
    let p = g.E.Exchange.profile in
    let law = g.E.Exchange.lawful in
    let built = g.E.Exchange.buildable in
    record {
      in_turn = λ test most size harmless within w r h batch few fits turns enough rounds le. harmless_catch_up p (λ c n is. test c n is ≡ true) most size harmless law built within batch few fits turns enough w (reached_valid p law built w r) h rounds le;
      lasts = λ test most w r h e good. event_harmless p (λ c n is. test c n is ≡ true) law built most w (reached_valid p law built w r) h e good;
    }
