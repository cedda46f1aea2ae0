use Rattle.std.proofs.Common.{◌≡◌, ◌∷◌, [], ◌∙◌, subst}
use Rattle.sync_model.specs.Clients.{ClientRecord, took}
use Rattle.sync_exchange.specs.Seen.{sent_seen}
use Rattle.sync_client.specs.Clients.{Appends}
use Rattle.sync_client.proofs.client.Client.append_took.Goals as goal

pub returns-clause-appends : goal.returns-clause-appends
returns-clause-appends g c =
    let e = c.in-Ok.ensures.equal ∙ c.body.ensures.value in
    let same : ◌≡◌ {A = ClientRecord} (ClientRecord.Took c.origin.result c.number.result c.ms.result c.in-Ok.body) (took (sent_seen c.args.sent.now)) = λ i. ClientRecord.Took (c.origin.ensures.value i) (c.number.ensures.value i) (c.ms.ensures i) (e i) in
    subst (λ r. Appends (r ∷ []) c.args.self.now c.append.new.self c.append.result) same c.append.ensures.appends
