use Rattle.std.proofs.Common.{arith}
use Rattle.sync_records.proofs.Records.{client_took}
use Rattle.sync_records.proofs.client.ClientRecord.took_in.Goals as goal

pub returns-clause-spelled : goal.returns-clause-spelled
returns-clause-spelled c = client_took c.args.bytes.now c.took_all.result (λ i. omega (arith, c.type_inv.bytes i)) c.took_all.ensures
