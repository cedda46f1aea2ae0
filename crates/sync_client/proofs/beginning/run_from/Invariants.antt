use Rattle.std.proofs.Common.{drop}
use Rattle.sync_client.proofs.Runs.{RunSoFar}
use Rattle.sync_client.proofs.beginning.run_from.Given as goal

abbrev pub invariant-loop-index : goal.invariant-loop-index
invariant-loop-index l = RunSoFar l.second (drop l.place l.records) (drop l.index l.records) l.run.items l.place l.index
