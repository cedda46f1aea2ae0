use Rattle.std.proofs.Common.{arith}
use Rattle.sync_value_text.proofs.Back.{bytes_back}
use Rattle.sync_value_text.proofs.printed.json_of_bytes.Goals as goal

pub returns-in_default-clause-reads_back : goal.returns-in_default-clause-reads_back
returns-in_default-clause-reads_back c = bytes_back c.args.bytes.now (λ i. omega (arith, c.type_inv.bytes i))

pub returns-clause-reads_back : goal.returns-clause-reads_back
returns-clause-reads_back c = bytes_back c.args.bytes.now (λ i. omega (arith, c.type_inv.bytes i))
