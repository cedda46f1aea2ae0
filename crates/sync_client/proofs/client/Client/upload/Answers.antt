use Rattle.std.proofs.Common.{subst}
use Rattle.sync_model.specs.Clients.{ClientStep}
use Rattle.sync_model.specs.Messages.{Message}
use Rattle.sync_client.specs.Sending.{Sends}
use Rattle.sync_client.proofs.Uploads.{upload_all}
use Rattle.sync_client.proofs.client.Client.upload.Goals as goal

pub returns-clause-step : goal.returns-clause-step
returns-clause-step g c = λ records before. subst (λ (did : ClientStep Message). Sends did c.upload_from.result) (upload_all records c.args.self.now.replica before.kept) (c.upload_from.ensures.step records before)
