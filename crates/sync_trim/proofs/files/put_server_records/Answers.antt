use Rattle.std.proofs.Common.{All, List, subst, rules, arith}
use Rattle.std.proofs.lemmas.Grind.{common_steps}
use Rattle.std.proofs.lemmas.List.{take_all}
use Rattle.std.proofs.lemmas.List.Elements.{All-more}
use Rattle.sync_records.specs.Limits.{IsServerRecord}
use Rattle.sync_records.specs.declared.server.ServerRecord.{ServerRecord}
use Rattle.sync_trim.proofs.files.put_server_records.Goals as goal

pub loop-record-preserved : goal.loop-record-preserved
loop-record-preserved c = record {
  put = first_of (search rules, grind (arith, common_steps));
  are = All-more IsServerRecord c.args.records.now c.loop-record.record-index c.record-item.result c.loop-record-test.true c.loop-record.invariant.are (subst IsServerRecord c.record-item.is c.in_ok-bytes.ensures.is);
}

pub returns-clause-are : goal.returns-clause-are
returns-clause-are c = subst (λ (rs : List ServerRecord). All IsServerRecord rs) (take_all c.loop-record.record-index c.args.records.now (omega (arith, c.loop-record-test.false))) c.loop-record.invariant.are
