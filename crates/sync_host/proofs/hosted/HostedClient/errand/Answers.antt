use Rattle.std.proofs.Common.{IfSome, sym, subst}
use Rattle.sync_model.specs.Clients.{ask, bind, client_of}
use Rattle.sync_exchange.specs.Profile.{the_profile}
use Rattle.sync_host.specs.Steps.{IfTold, SentSo, errand, next}
use Rattle.sync_host.specs.declared.verb.Verb.{Verb}
use Rattle.sync_host.proofs.hosted.HostedClient.errand.Goals as goal

pub returns-in-Next : goal.returns-in-Next
returns-in-Next c = λ records is. let client = client_of the_profile records in let stored = c.args.self.now.stored in
    subst (λ (verb : Verb). IfSome (errand verb c.args.body.now stored client) (λ did. IfTold c.send.result (SentSo did.answer c.send.result)))
    (sym c.in-Next.is) (c.send.ensures (next stored client) (c.next.ensures records is.client))

pub returns-in-Bind : goal.returns-in-Bind
returns-in-Bind c = λ records is. let client = client_of the_profile records in
    subst (λ (verb : Verb). IfSome (errand verb c.args.body.now c.args.self.now.stored client) (λ did. IfTold c.send-in-Bind.result (SentSo did.answer c.send-in-Bind.result)))
    (sym c.in-Bind.is) (c.send-in-Bind.ensures (bind client) (c.bind.ensures.step records is.client))

pub returns-in-Ask : goal.returns-in-Ask
returns-in-Ask c = λ records is. let client = client_of the_profile records in
    subst (λ (verb : Verb). IfSome (errand verb c.args.body.now c.args.self.now.stored client) (λ did. IfTold c.send-in-Ask.result (SentSo did.answer c.send-in-Ask.result)))
    (sym c.in-Ask.is) (c.send-in-Ask.ensures (ask client) (c.ask.ensures.step records is.client))
