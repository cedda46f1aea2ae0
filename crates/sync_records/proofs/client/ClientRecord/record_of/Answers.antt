use Rattle.std.proofs.Common.{subst, arith}
use Rattle.sync_records.specs.Reading.{Gives}
use Rattle.sync_records.proofs.Records.{client_found, client_is, client_read}
use Rattle.sync_records.proofs.client.ClientRecord.record_of.Goals as goal

pub returns-clause-found : goal.returns-clause-found
returns-clause-found c = client_found c.args.bytes.now c.all_of.result (λ i. omega (arith, c.type_inv.bytes i)) c.all_of.ensures

pub returns-clause-only : goal.returns-clause-only
returns-clause-only c = λ spelled is e. subst (λ read. Gives (λ x. x) c.all_of.result read) (client_read c.args.bytes.now spelled is e) c.all_of.ensures

pub returns-clause-is : goal.returns-clause-is
returns-clause-is c = client_is c.args.bytes.now c.all_of.result (λ i. omega (arith, c.type_inv.bytes i)) c.all_of.ensures
