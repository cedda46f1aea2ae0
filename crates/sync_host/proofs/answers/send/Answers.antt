use Rattle.std.proofs.Common.{subst}
use Rattle.sync_client.specs.Refusals.{refusal_seen}
use Rattle.sync_client.specs.Sending.{Sends}
use Rattle.sync_host.proofs.Said.{unsent}
use Rattle.sync_host.proofs.answers.send.Goals as goal

pub returns-in-Err : goal.returns-in-Err
returns-in-Err c = λ did sends. unsent did (refusal_seen c.in-Err.refusal) c.decline.result (subst (Sends did) c.in-Err.is sends) c.decline.ensures
