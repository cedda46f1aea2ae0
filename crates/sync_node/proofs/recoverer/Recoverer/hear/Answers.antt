use Rattle.std.proofs.Common.{sym, refl, ◌∙◌}
use Rattle.sync_model.specs.Clients.{client_of}
use Rattle.sync_model.specs.Messages.{Message}
use Rattle.sync_model.specs.Resets.{Refuses, ResetRefusal, recover_frame}
use Rattle.sync_exchange.specs.Profile.{the_profile}
use Rattle.sync_node.specs.Heirs.{RecovererStands, counts_of}
use Rattle.sync_node.specs.Recovering.{recovered, recovery_line}
use Rattle.sync_node.specs.Runs.{AnswersSo}
use Rattle.std.proofs.Common.{Some}
use Rattle.sync_node.proofs.Recoverers.{for_another, line_so, not_same, says_so}
use Rattle.sync_node.proofs.recoverer.Recoverer.hear.Goals as goal

pub returns-then-by-ident-clause-done : goal.returns-then-by-ident-clause-done
returns-then-by-ident-clause-done g c = λ records stands ours.
    let heir = client_of the_profile records in
    let heard = c.args.self.now.heard.items in
    let counts = counts_of heard in
    let retired = c.args.retired.now in
    let did = recover_frame the_profile heir counts (Message.Retired retired.ident retired.by retired.number) in
    line_so c.line.result (recovery_line c.args.number (Refuses ResetRefusal.NotMine)) (λ text. AnswersSo (Some (recovered c.args.number did)) records text (λ rs. RecovererStands did.known rs heard c.args.client.now))
    c.line.ensures.line
    (says_so c.args.number did (Refuses ResetRefusal.NotMine) counts (recovery_line c.args.number (Refuses ResetRefusal.NotMine)) records heard c.args.client.now
    (for_another heir counts retired.ident retired.by retired.number (not_same retired.by heir.ident (λ same. c.if-by-ident.true (c.by.ensures.value ∙ same ∙ sym (c.ident.ensures records stands.client)))))
    refl (record { client = stands; counts_is = refl; mine_is = ours }))
