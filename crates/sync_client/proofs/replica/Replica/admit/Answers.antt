use Rattle.std.proofs.Common.{List, ℕ, sym, subst}
use Rattle.sync_model.specs.Clients.{ClientRecord}
use Rattle.sync_records.specs.declared.client.ClientRecord.{ClientRecord as CodeRecord}
use Rattle.sync_exchange.specs.Seen.{client_seen}
use Rattle.sync_client.specs.Opening.{Admits}
use Rattle.sync_client.proofs.replica.Replica.admit.Goals as goal

pub returns-in-Made : goal.returns-in-Made
returns-in-Made c = λ past was lists.
    subst (λ (x : CodeRecord). Admits past c.args.self.now c.admit_made.new.self (client_seen x) c.admit_made.result) (sym c.in-Made.is)
    (subst (λ (b : List ℕ). Admits past c.args.self.now c.admit_made.new.self (ClientRecord.Made c.in-Made.number c.in-Made.ms b) c.admit_made.result) c.bytes.ensures (c.admit_made.ensures past was))

pub returns-in-Took : goal.returns-in-Took
returns-in-Took c = λ past was lists.
    subst (λ (x : CodeRecord). Admits past c.args.self.now c.admit_took.new.self (client_seen x) c.admit_took.result) (sym c.in-Took.is)
    (subst (λ (b : List ℕ). Admits past c.args.self.now c.admit_took.new.self (ClientRecord.Took c.in-Took.origin c.in-Took.number c.in-Took.ms b) c.admit_took.result) c.bytes-in-Took.ensures (c.admit_took.ensures past was lists))

pub returns-in-Subset : goal.returns-in-Subset
returns-in-Subset c = λ past was lists.
    subst (λ (x : CodeRecord). Admits past c.args.self.now c.admit_subset.new.self (client_seen x) c.admit_subset.result) (sym c.in-Subset.is) (c.admit_subset.ensures past was)
