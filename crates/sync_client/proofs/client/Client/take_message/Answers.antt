use Rattle.std.proofs.Common.{ℕ, List, bytes_eq, ap, sym, subst, ◌∙◌}
use Rattle.std.specs.Option.{is_some}
use Rattle.sync_messages.specs.declared.message.Message.{Message as CodeMessage}
use Rattle.sync_model.specs.Clients.{ClientStep, client_of, take_born, take_ident}
use Rattle.sync_exchange.specs.Profile.{the_profile}
use Rattle.sync_exchange.specs.Seen.{message_seen}
use Rattle.sync_client.specs.Clients.{Says, Survives}
use Rattle.sync_client.proofs.Taken.{ident_mine}
use Rattle.sync_client.proofs.client.Client.take_message.Goals as goal

pub returns-then-eq-clause-does : goal.returns-then-eq-clause-does
returns-then-eq-clause-does g c = λ records before.
    subst (λ (did : ClientStep ℕ). Says did records c.take_ident.new.self c.take_ident.result)
    (sym (ident_mine records c.in-Ident.given.uuid c.args.id c.in-Ident.given.ident (message_seen c.args.message.now) (ap message_seen c.in-Ident.is) (ap (λ (u : List ℕ). bytes_eq u c.args.id) (sym c.uuid.ensures) ∙ sym c.eq.ensures ∙ c.if-eq.true)))
    (subst (λ (n : ℕ). Says (take_ident (client_of the_profile records) n) records c.take_ident.new.self c.take_ident.result) c.ident.ensures.value (c.take_ident.ensures.does records before (ap is_some c.requires.born)))

pub returns-then-eq-clause-survives : goal.returns-then-eq-clause-survives
returns-then-eq-clause-survives g c = λ records before stored.
    subst (λ (did : ClientStep ℕ). Survives did records c.args.self.now c.take_ident.new.self c.take_ident.result)
    (sym (ident_mine records c.in-Ident.given.uuid c.args.id c.in-Ident.given.ident (message_seen c.args.message.now) (ap message_seen c.in-Ident.is) (ap (λ (u : List ℕ). bytes_eq u c.args.id) (sym c.uuid.ensures) ∙ sym c.eq.ensures ∙ c.if-eq.true)))
    (subst (λ (n : ℕ). Survives (take_ident (client_of the_profile records) n) records c.args.self.now c.take_ident.new.self c.take_ident.result) c.ident.ensures.value (c.take_ident.ensures.survives records before stored))

pub returns-in-Download-clause-does : goal.returns-in-Download-clause-does
returns-in-Download-clause-does g c = λ records before.
    subst (λ (m : CodeMessage). Says (take_born the_profile (client_of the_profile records) (message_seen m) c.args.id) records c.take_download.new.self c.take_download.result) (sym c.in-Download.is)
    (c.take_download.ensures.does records before c.args.id)

pub returns-in-Download-clause-survives : goal.returns-in-Download-clause-survives
returns-in-Download-clause-survives g c = λ records before stored.
    subst (λ (m : CodeMessage). Survives (take_born the_profile (client_of the_profile records) (message_seen m) c.args.id) records c.args.self.now c.take_download.new.self c.take_download.result) (sym c.in-Download.is)
    (c.take_download.ensures.survives records before stored c.args.id)
