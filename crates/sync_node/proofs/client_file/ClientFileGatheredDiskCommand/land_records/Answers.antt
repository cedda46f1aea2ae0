use Rattle.std.proofs.Common.{map}
use Rattle.sync_exchange.specs.Seen.{client_bytes}
use Rattle.sync_node.specs.Landed.{below_client}
use Rattle.sync_node.proofs.Landed.{on_ok}
use Rattle.sync_node.proofs.Ends.{leaves_now}
use Rattle.sync_node.proofs.client_file.ClientFileGatheredDiskCommand.land_records.Goals as goal

pub returns-clause-landed : goal.returns-clause-landed
returns-clause-landed g c = λ notes records stands. on_ok c.land.result _ _
    (λ landed. (
      (
        stands.0,
        record {
          client = record { kept = stands.1.client.kept; open_ = landed.stands.is_open };
          stored = landed.stands;
        },
      ),
      record { takes = landed.takes; holds = landed.holds },
    ))
    (c.land.ensures.landed (map client_bytes records) stands.1.stored)

pub returns-clause-leaves : goal.returns-clause-leaves
returns-clause-leaves g c = λ notes olds all over stands image is.
    leaves_now g.D.Disk.moment g.D.Disk.images g.D.Disk.images_since g.met.D.Disk.counts_now (below_client c.args.self.now.client) (below_client (record c.args.self.now.client { journal = c.land.new.self })) _
    (c.land.ensures.any_moment (map client_bytes olds) (map client_bytes all) over.holds stands.1.stored) image is
