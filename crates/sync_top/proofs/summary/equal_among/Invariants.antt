use Rattle.std.proofs.Common.{◌≡◌, ◌≤◌, ◌+◌, drop}
use Rattle.std.specs.List.{count_by}
use Rattle.sync_gen.specs.Clients.{name_of}
use Rattle.sync_model.specs.Worlds.{World}
use Rattle.sync_world.specs.Holding.{Holds}
use Rattle.gen_law.specs.Plans.{AreClients}
use Rattle.sync_top.specs.Summaries.{equals, server_dump}
use Rattle.sync_top.proofs.summary.equal_among.Given as goal

abbrev pub invariant-loop-client : goal.invariant-loop-client
invariant-loop-client l = record {
  counted : (w : World) → Holds w l.world → l.dump ≡ server_dump w → l.equal + count_by (λ c. equals w (name_of c)) (drop l.client-index l.clients) ≡ count_by (λ c. equals w (name_of c)) l.clients;
  few : l.equal ≤ l.client-index;
  are : AreClients (drop l.client-index l.clients);
}
