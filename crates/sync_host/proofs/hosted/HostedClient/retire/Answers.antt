use Rattle.std.proofs.Common.{ℕ, IfSome, Option, Some, sym, ◌∙◌, subst}
use Rattle.sync_model.specs.Clients.{ClientStep, client_of}
use Rattle.sync_model.specs.Messages.{Message}
use Rattle.sync_exchange.specs.Profile.{the_profile}
use Rattle.sync_host.specs.Steps.{IfTold, SentSo, retire, retire_in}
use Rattle.sync_host.proofs.Said.{not_zero}
use Rattle.sync_host.proofs.hosted.HostedClient.retire.Goals as goal

pub returns-else-ident-eq0 : goal.returns-else-ident-eq0
returns-else-ident-eq0 c = λ records is. let client = client_of the_profile records in let Told : Option (ClientStep Message) → Type 0 = λ did. IfSome did (λ d. IfTold c.send.result (SentSo d.answer c.send.result)) in
    subst (λ (number : Option ℕ). Told (retire_in number client))
    (sym c.in-Some.is ∙ c.number_in.ensures) (not_zero c.in-Some.ident Told (Some (retire c.in-Some.ident client)) c.if-ident-eq0.false (c.send.ensures (retire c.in-Some.ident client) (c.retire.ensures records is.client)))
