use Rattle.std.proofs.Common.{map, ap, sym, ◌∙◌}
use Rattle.sync_disk.specs.Origin.{Origin}
use Rattle.sync_exchange.specs.Seen.{server_bytes}
use Rattle.sync_journal.specs.Stands.{disk_of}
use Rattle.sync_server.specs.Serving.{journal_of}
use Rattle.sync_host.proofs.Files.{same_file}
use Rattle.sync_host.proofs.hosted.HostedServer.empty.Goals as goal

pub returns : goal.returns
returns c =
    let e = c.begin_anew.ensures in
    record {
      none_left = e.strokes;
      begins = λ records is. let s = is.stored.settled in
          ap (λ (o : Origin). o.start) (e.origin s.file (e.content ∙ s.told)) ∙ sym (same_file (disk_of (journal_of c.args.self.now.server)) (map server_bytes records) _ s);
      stands = λ records is. record { server = record { gives = is.server.gives; open_ = e.closed ∙ is.server.open_ }; stored = e.stands (map server_bytes records) is.stored };
    }
