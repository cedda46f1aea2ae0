use Rattle.std.proofs.Common.{◌+◌, refl, drop, arith}
use Rattle.sync_journal.proofs.Gates.{left_at}
use Rattle.sync_client.proofs.Records.{one_declined, one_on, one_read, one_stops}
use Rattle.sync_client.proofs.replica.Replica.read_at.Goals as goal

pub returns-in-Ok-true : goal.returns-in-Ok-true
returns-in-Ok-true c = λ before k. (
  1,
  refl,
  omega arith,
  one_on before c.read.new.self c.at-bytes.result.now (drop c.args.place c.args.records.now) (drop (c.args.place + 1) c.args.records.now)
      (left_at c.args.records.now c.args.place c.at-bytes.result.now c.requires.there c.at-bytes.ensures)
      (one_read before c.read.new.self c.at-bytes.result.now c.at-bytes.result.now c.read.result c.in-Ok-true.field-0 refl c.in-Ok-true.is c.in-Ok-true.field-0-test (c.read.ensures before k)),
)

pub returns-in-Ok-false : goal.returns-in-Ok-false
returns-in-Ok-false c = λ before k. (
  0,
  omega arith,
  one_stops before c.at-bytes.result.now (drop c.args.place c.args.records.now) (drop (c.args.place + 1) c.args.records.now)
      (left_at c.args.records.now c.args.place c.at-bytes.result.now c.requires.there c.at-bytes.ensures)
      (one_declined before c.read.new.self c.at-bytes.result.now c.at-bytes.result.now c.read.result c.in-Ok-false.field-0 refl c.in-Ok-false.is c.in-Ok-false.field-0-test (c.read.ensures before k)),
)
