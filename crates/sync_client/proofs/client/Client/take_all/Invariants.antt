use Rattle.std.proofs.Common.{drop, map}
use Rattle.sync_exchange.specs.Seen.{sent_seen}
use Rattle.sync_client.proofs.Downloads.{LoopSoFar}
use Rattle.sync_client.proofs.client.Client.take_all.Given as goal

abbrev pub invariant-loop-sent : goal.invariant-loop-sent
invariant-loop-sent g l = LoopSoFar l.fn.self l.self (map sent_seen l.entries) (map sent_seen (drop l.sent-index l.entries))
