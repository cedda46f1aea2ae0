use Rattle.std.proofs.Common.{◌∙◌, IfOk, Some, ap, sym, subst}
use Rattle.std.specs.Option.{option_map}
use Rattle.sync_model.specs.Clients.{client_of}
use Rattle.sync_model.specs.Resets.{recover_frame}
use Rattle.sync_exchange.specs.Profile.{the_profile}
use Rattle.sync_exchange.specs.Seen.{message_seen}
use Rattle.sync_node.specs.Heirs.{HasHeard, counts_of}
use Rattle.sync_node.specs.Holding.{ClientStands}
use Rattle.sync_node.specs.Recovering.{heard, heard_in, recover_step, recovered}
use Rattle.sync_node.specs.Runs.{AnswersSo}
use Rattle.sync_node.proofs.Recoverers.{heard_so}
use Rattle.sync_node.proofs.recoverer.RecovererClientStep.answer.Goals as goal

pub returns-in-Ok-clause-done : goal.returns-in-Ok-clause-done
returns-in-Ok-clause-done g c = λ counts records keeps stands.
    let heir = client_of the_profile records in
    let old = counts_of c.args.self.now.heard.items in
    let did = recover_frame the_profile heir old (message_seen c.in-Ok.message) in
    let now = c.recover.new.self.heard.items in
    let client = c.recover.new.client in
    let meant = ap (λ k. recover_step k records c.args.number c.args.item.now) keeps.counts_is
    ∙ ap (λ o. option_map (λ m. recovered c.args.number (recover_frame the_profile heir old m)) (option_map message_seen o)) c.in-Ok.ensures.exact in
    let known = ap (λ k. heard k records c.args.item.now) keeps.counts_is ∙ ap (λ o. heard_in old records (option_map message_seen o)) c.in-Ok.ensures.exact in
    subst (λ k. IfOk c.recover.result (λ text. AnswersSo (recover_step counts records c.args.number c.args.item.now) records text.items (λ rs. HasHeard k rs now × ClientStands rs client))) (sym known)
    (subst (λ m. IfOk c.recover.result (λ text. AnswersSo m records text.items (λ rs. HasHeard did.known rs now × ClientStands rs client))) (sym meant)
    (heard_so (Some (recovered c.args.number did)) did.known records now client c.recover.result (c.recover.ensures.done records stands keeps.mine_is)))
