use Rattle.std.proofs.Common.{map}
use Rattle.sync_exchange.specs.Seen.{server_bytes}
use Rattle.sync_node.specs.Landed.{below_server}
use Rattle.sync_node.proofs.Landed.{on_ok}
use Rattle.sync_node.proofs.Ends.{leaves_now}
use Rattle.sync_node.proofs.waiter.WaiterGatheredDiskCommand.land_records.Goals as goal

pub returns-clause-landed : goal.returns-clause-landed
returns-clause-landed g c = λ notes records stands. on_ok c.land.result _ _
    (λ landed. (
      record {
        server = record { gives = stands.server.gives; open_ = landed.stands.is_open };
        stored = landed.stands;
      },
      record { takes = landed.takes; holds = landed.holds },
    ))
    (c.land.ensures.landed (map server_bytes records) stands.stored)

pub returns-clause-leaves : goal.returns-clause-leaves
returns-clause-leaves g c = λ notes olds all over stands image is.
    leaves_now g.D.Disk.moment g.D.Disk.images g.D.Disk.images_since g.met.D.Disk.counts_now (below_server c.args.self.now.server) (below_server (record c.args.self.now.server { journal = c.land.new.self })) _
    (c.land.ensures.any_moment (map server_bytes olds) (map server_bytes all) over.holds stands.stored) image is
