use Rattle.sync_records.specs.Reading.{took_seen}
use Rattle.sync_client.proofs.Records.{past_of, read_says}
use Rattle.sync_client.proofs.Taken.{lists_of}
use Rattle.sync_client.proofs.replica.Replica.read.Goals as goal

pub returns-in-Some : goal.returns-in-Some
returns-in-Some c = λ records k.
    read_says records c.args.self.now c.admit_took.new.self c.args.bytes.now (took_seen c.in-Some.took) c.admit_took.result k c.in-Some.ensures.exact c.in-Some.ensures.spelled (c.admit_took.ensures k.past (past_of records c.args.self.now k) (lists_of records c.args.self.now k))

pub returns-in-Ok : goal.returns-in-Ok
returns-in-Ok c = λ records k.
    read_says records c.args.self.now c.admit-admitted.new.self c.args.bytes.now c.in-Ok.found c.admit-admitted.result k c.in-Ok.ensures.exact c.in-Ok.ensures.found (c.admit-admitted.ensures k.past (past_of records c.args.self.now k) (lists_of records c.args.self.now k))
