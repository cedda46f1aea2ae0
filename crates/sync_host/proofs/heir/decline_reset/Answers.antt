use Rattle.std.proofs.Common.{sym, subst}
use Rattle.sync_client.specs.Refusals.{refusal_seen}
use Rattle.sync_heir.specs.Heirs.{reset_seen}
use Rattle.sync_heir.specs.declared.refusal.ResetRefusal.{ResetRefusal}
use Rattle.sync_host.specs.Heirs.{Resets}
use Rattle.sync_host.proofs.Inheriting.{by_client}
use Rattle.sync_host.proofs.heir.decline_reset.Goals as goal

pub returns-in-Client : goal.returns-in-Client
returns-in-Client c = subst (λ (r : ResetRefusal). Resets (reset_seen r) c.decline.result) (sym c.in-Client.is) (by_client (refusal_seen c.in-Client.why) c.decline.result c.decline.ensures)
