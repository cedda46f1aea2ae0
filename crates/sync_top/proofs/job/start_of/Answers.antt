use Rattle.std.proofs.Common.{subst}
use Rattle.std.specs.Prelude.{IsOk}
use Rattle.sync_top.proofs.Jobs.{none_start}
use Rattle.sync_top.proofs.job.start_of.Goals as goal

pub returns-in-Err : goal.returns-in-Err
returns-in-Err c = none_start c.args.word.now (λ id is. let e = subst IsOk c.in-Err.is (c.parse_str.ensures.ok.1 (id, is)) in cc)
