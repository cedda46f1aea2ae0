use Rattle.std.proofs.Common.{◌≡◌, ◌≤◌, List, map, drop}
use Rattle.sync_model.specs.Clients.{ClientRecord, client_of}
use Rattle.sync_exchange.specs.Profile.{the_profile}
use Rattle.sync_exchange.specs.Seen.{change_seen}
use Rattle.sync_node.specs.Holding.{ClientStands, client_faults, client_origin}
use Rattle.sync_node.proofs.Recoverers.{SoFar}
use Rattle.sync_node.proofs.recoverer.save_all.Given as goal

abbrev pub invariant-changes : goal.invariant-changes
invariant-changes g l = record {
  so_far : (records : List ClientRecord) → ClientStands records l.fn.client → l.retired.by ≡ (client_of the_profile records).ident
      → SoFar l.number l.retired.number (map change_seen l.changes) (map change_seen (drop l.change-index l.changes)) records l.out.items l.client;
  same : client_origin l.client ≡ client_origin l.fn.client;
  later : client_faults l.fn.client ≤ client_faults l.client;
}
