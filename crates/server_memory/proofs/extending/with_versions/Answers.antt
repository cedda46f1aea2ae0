use Rattle.std.proofs.Common.{arith}
use Rattle.server_memory.proofs.Others.{versions_before, versions_more}
use Rattle.server_memory.proofs.extending.with_versions.Goals as goal

pub push_shared-requires : goal.push_shared-requires
push_shared-requires c = versions_before c.args.first c.args.entries.now c.loop-place.place c.loop-place.made (omega arith) c.loop-place.invariant

pub loop-place-preserved : goal.loop-place-preserved
loop-place-preserved c = versions_more c.args.first c.args.entries.now c.loop-place.place c.index-entries-place.result c.loop-place.made c.push_shared.new.self (omega arith) c.index-entries-place.is c.loop-place.invariant c.in_ok-push_shared.ensures.ok
