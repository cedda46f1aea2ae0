use Rattle.std.proofs.Common.{Ok, ap, map, sym, ◌∙◌}
use Rattle.server_memory.specs.Kept.{parts}
use Rattle.sync_exchange.specs.Seen.{server_bytes}
use Rattle.sync_node.proofs.waiter.WaiterGatheredDiskCommand.open_file.Goals as goal

pub returns-in-Ok-clause-opened : goal.returns-in-Ok-clause-opened
returns-in-Ok-clause-opened g c = λ b told.
    let o = c.in-Ok.ensures.opened b told in
    let landed = c.gathered.ensures.landed (map server_bytes o.records) o.stored in
    record {
      records = o.records;
      file = o.file;
      stands = record {
        server = record { gives = o.server.gives ∙ ap (λ k. Ok (parts k)) (sym c.gathered.ensures.kept); open_ = landed.stands.is_open };
        stored = landed.stands;
      };
      holds = record { takes = landed.takes; holds = landed.holds };
    }
