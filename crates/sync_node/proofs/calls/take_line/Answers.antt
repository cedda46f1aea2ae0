use Rattle.std.proofs.Common.{IfOk, Some, subst, sym}
use Rattle.sync_model.specs.Clients.{born, client_of, commit, subscribe, upgrade}
use Rattle.sync_edits.specs.declared.event.NodeLine.{NodeLine}
use Rattle.sync_exchange.specs.Profile.{the_profile}
use Rattle.sync_client.specs.Refusals.{refusal_seen}
use Rattle.sync_words.specs.Outcomes.{outcome_text}
use Rattle.sync_node.specs.Holding.{ClientStands}
use Rattle.sync_node.specs.Runs.{AnswersSo}
use Rattle.sync_node.specs.Steps.{born_words, line_answer, made_words, said, subscribe_words, upgrade_words}
use Rattle.sync_node.proofs.Told.{of_text, said_err, said_ok}
use Rattle.sync_node.proofs.calls.take_line.Goals as goal

pub returns-in-Ok-clause-done : goal.returns-in-Ok-clause-done
returns-in-Ok-clause-done g c = λ records stands.
    subst (λ (line : NodeLine). IfOk c.say.result (λ text. AnswersSo (Some (line_answer records c.args.number line)) records text.items (λ rs. ClientStands rs c.born.new.self))) (sym c.in-Born.is)
    (said_ok born_words c.args.number (born (client_of the_profile records) c.in-Born.id) records c.born.new.self tt c.say.result (c.in-Ok.ensures.does records stands.client) (c.in-Ok.ensures.survives records stands.client stands.stored).stored
    c.say.ensures.said)

pub returns-in-Err-clause-done : goal.returns-in-Err-clause-done
returns-in-Err-clause-done g c = λ records stands.
    subst (λ (line : NodeLine). IfOk c.decline.result (λ text. AnswersSo (Some (line_answer records c.args.number line)) records text.items (λ rs. ClientStands rs c.born.new.self))) (sym c.in-Born.is)
    (said_err born_words c.args.number (born (client_of the_profile records) c.in-Born.id) records c.born.new.self (refusal_seen c.in-Err.refusal) c.decline.result (c.in-Err.ensures.does records stands.client) (c.in-Err.ensures.survives records stands.client stands.stored).stored c.decline.ensures.seen)

pub returns-in-Ok-commit-clause-done : goal.returns-in-Ok-commit-clause-done
returns-in-Ok-commit-clause-done g c = λ records stands.
    subst (λ (line : NodeLine). IfOk c.say-in-Ok-commit.result (λ text. AnswersSo (Some (line_answer records c.args.number line)) records text.items (λ rs. ClientStands rs c.commit.new.self))) (sym c.in-Commit.is)
    (subst (λ es. IfOk c.say-in-Ok-commit.result (λ text. AnswersSo (Some (said c.args.number made_words (commit the_profile (client_of the_profile records) c.in-Commit.ms es))) records text.items (λ rs. ClientStands rs c.commit.new.self))) c.into_vec.ensures
    (said_ok made_words c.args.number (commit the_profile (client_of the_profile records) c.in-Commit.ms c.into_vec.result.items) records c.commit.new.self c.in-Ok-commit.made c.say-in-Ok-commit.result (c.in-Ok-commit.ensures.does records stands.client) (c.in-Ok-commit.ensures.survives records stands.client stands.stored).stored
    c.say-in-Ok-commit.ensures.said))

pub returns-in-Err-commit-clause-done : goal.returns-in-Err-commit-clause-done
returns-in-Err-commit-clause-done g c = λ records stands.
    subst (λ (line : NodeLine). IfOk c.decline-in-Err-commit.result (λ text. AnswersSo (Some (line_answer records c.args.number line)) records text.items (λ rs. ClientStands rs c.commit.new.self))) (sym c.in-Commit.is)
    (subst (λ es. IfOk c.decline-in-Err-commit.result (λ text. AnswersSo (Some (said c.args.number made_words (commit the_profile (client_of the_profile records) c.in-Commit.ms es))) records text.items (λ rs. ClientStands rs c.commit.new.self))) c.into_vec.ensures
    (said_err made_words c.args.number (commit the_profile (client_of the_profile records) c.in-Commit.ms c.into_vec.result.items) records c.commit.new.self (refusal_seen c.in-Err-commit.refusal) c.decline-in-Err-commit.result (c.in-Err-commit.ensures.does records stands.client) (c.in-Err-commit.ensures.survives records stands.client stands.stored).stored c.decline-in-Err-commit.ensures.seen))

pub returns-in-Ok-upgrade-clause-done : goal.returns-in-Ok-upgrade-clause-done
returns-in-Ok-upgrade-clause-done g c = λ records stands.
    subst (λ (line : NodeLine). IfOk c.say-in-Ok-upgrade.result (λ text. AnswersSo (Some (line_answer records c.args.number line)) records text.items (λ rs. ClientStands rs c.upgrade.new.self))) (sym c.in-Upgrade.is)
    (said_ok upgrade_words c.args.number (upgrade (client_of the_profile records)) records c.upgrade.new.self c.in-Ok-upgrade.is_new c.say-in-Ok-upgrade.result (c.in-Ok-upgrade.ensures.does records stands.client) (c.in-Ok-upgrade.ensures.survives records stands.client stands.stored).stored
    (of_text _ (outcome_text c.upgraded.result) (upgrade_words c.in-Ok-upgrade.is_new) c.upgraded.ensures c.say-in-Ok-upgrade.ensures.said))

pub returns-in-Err-upgrade-clause-done : goal.returns-in-Err-upgrade-clause-done
returns-in-Err-upgrade-clause-done g c = λ records stands.
    subst (λ (line : NodeLine). IfOk c.decline-in-Err-upgrade.result (λ text. AnswersSo (Some (line_answer records c.args.number line)) records text.items (λ rs. ClientStands rs c.upgrade.new.self))) (sym c.in-Upgrade.is)
    (said_err upgrade_words c.args.number (upgrade (client_of the_profile records)) records c.upgrade.new.self (refusal_seen c.in-Err-upgrade.refusal) c.decline-in-Err-upgrade.result (c.in-Err-upgrade.ensures.does records stands.client) (c.in-Err-upgrade.ensures.survives records stands.client stands.stored).stored c.decline-in-Err-upgrade.ensures.seen)

pub returns-in-Ok-subscribe-clause-done : goal.returns-in-Ok-subscribe-clause-done
returns-in-Ok-subscribe-clause-done g c = λ records stands.
    subst (λ (line : NodeLine). IfOk c.say-in-Ok-subscribe.result (λ text. AnswersSo (Some (line_answer records c.args.number line)) records text.items (λ rs. ClientStands rs c.subscribe.new.self))) (sym c.in-Subscribe.is)
    (said_ok subscribe_words c.args.number (subscribe (client_of the_profile records) c.in-Subscribe.tables) records c.subscribe.new.self tt c.say-in-Ok-subscribe.result (c.in-Ok-subscribe.ensures.does records stands.client) (c.in-Ok-subscribe.ensures.survives records stands.client stands.stored).stored
    c.say-in-Ok-subscribe.ensures.said)

pub returns-in-Err-subscribe-clause-done : goal.returns-in-Err-subscribe-clause-done
returns-in-Err-subscribe-clause-done g c = λ records stands.
    subst (λ (line : NodeLine). IfOk c.decline-in-Err-subscribe.result (λ text. AnswersSo (Some (line_answer records c.args.number line)) records text.items (λ rs. ClientStands rs c.subscribe.new.self))) (sym c.in-Subscribe.is)
    (said_err subscribe_words c.args.number (subscribe (client_of the_profile records) c.in-Subscribe.tables) records c.subscribe.new.self (refusal_seen c.in-Err-subscribe.refusal) c.decline-in-Err-subscribe.result (c.in-Err-subscribe.ensures.does records stands.client) (c.in-Err-subscribe.ensures.survives records stands.client stands.stored).stored c.decline-in-Err-subscribe.ensures.seen)
