use Rattle.std.proofs.Common.{map, subst, sym}
use Rattle.sync_client.specs.Keeping.{Keeps}
use Rattle.sync_exchange.specs.Seen.{client_bytes}
use Rattle.sync_node.proofs.client_file.ClientFileGatheredDiskCommand.open_file.Goals as goal

pub returns-in-Ok-clause-opened : goal.returns-in-Ok-clause-opened
returns-in-Ok-clause-opened g c = λ b told.
    let o = c.in-Ok.ensures.opened b told in
    let landed = c.gathered.ensures.landed (map client_bytes o.records) o.stored in
    record {
      records = o.records;
      file = o.file;
      stands = (
        c.begin.ensures o.records,
        record {
          client = record { kept = subst (λ r. Keeps o.records r) (sym c.gathered.ensures.replica) o.client.kept; open_ = landed.stands.is_open };
          stored = landed.stands;
        },
      );
      holds = record { takes = landed.takes; holds = landed.holds };
    }
