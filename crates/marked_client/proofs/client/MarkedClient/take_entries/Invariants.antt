use Rattle.std.proofs.Common.{◌≡◌, ◌+◌, List, map, drop}
use Rattle.sync_model.specs.Clients.{ClientRecord}
use Rattle.sync_exchange.specs.Seen.{sent_seen}
use Rattle.sync_client.specs.Clients.{IsClientOf}
use Rattle.marked_client.specs.declared.testing.Standing.{Standing}
use Rattle.marked_client.specs.Testing.{DownloadPasses}
use Rattle.marked_client.specs.Marked.{standing_of}
use Rattle.marked_client.proofs.Entries.{EntriesSoFar}
use Rattle.marked_client.proofs.client.MarkedClient.take_entries.Given as goal

-- the entries so far were taken as ever
abbrev pub invariant-loop-place : goal.invariant-loop-place
invariant-loop-place g l = record {
  so_far : (records : List ClientRecord) (at : Standing) → IsClientOf records l.fn.self.client → at ≡ standing_of records l.fn.self → DownloadPasses at l.download
      → EntriesSoFar records l.self l.download.ident (l.download.from + l.place) (map sent_seen (drop l.skipped l.download.entries)) (map sent_seen (drop l.place l.download.entries));
}
