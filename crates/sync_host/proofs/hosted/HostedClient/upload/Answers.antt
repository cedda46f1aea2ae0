use Rattle.std.proofs.Common.{IfSome, Option, ℕ, sym, ◌∙◌, subst}
use Rattle.std.specs.Option.{option_map}
use Rattle.sync_model.specs.Clients.{client_of, upload_from}
use Rattle.sync_exchange.specs.Profile.{the_profile}
use Rattle.sync_host.specs.Steps.{IfTold, SentSo}
use Rattle.sync_host.proofs.hosted.HostedClient.upload.Goals as goal

pub returns-in-Some : goal.returns-in-Some
returns-in-Some c = λ records is. let client = client_of the_profile records in
    subst (λ (number : Option ℕ). IfSome (option_map (λ after. upload_from the_profile client after) number) (λ did. IfTold c.send.result (SentSo did.answer c.send.result)))
    (sym c.in-Some.is ∙ c.number_in.ensures) (c.send.ensures (upload_from the_profile client c.in-Some.after) (c.upload_from.ensures.step records is.client))
