use Rattle.std.proofs.Common.{◌≡◌, ◌≤◌, false, length, map, drop}
use Rattle.sync_journal.specs.Stands.{disk_of}
use Rattle.sync_exchange.specs.Seen.{change_seen}
use Rattle.sync_server.specs.Serving.{UploadedSoFar, is_closed}
use Rattle.sync_server.proofs.server.Server.take_upload.Given as goal

abbrev pub invariant-loop-change : goal.invariant-loop-change
invariant-loop-change g l = record {
  is_open : is_closed l.self ≡ false;
  given : length l.self.kept.history.idents ≡ length l.fn.self.kept.history.idents;
  so_far : UploadedSoFar l.ident l.fn.self l.self (map change_seen l.change-items) (map change_seen (drop l.change-index l.change-items));
  origin : g.D.Disk.origin (disk_of l.self.journal) ≡ g.D.Disk.origin (disk_of l.fn.self.journal);
  later : g.D.Disk.faults (disk_of l.fn.self.journal) ≤ g.D.Disk.faults (disk_of l.self.journal);
}
