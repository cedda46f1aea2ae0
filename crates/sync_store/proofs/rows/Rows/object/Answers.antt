use Rattle.std.proofs.Common.{sym}
use Rattle.sync_data.specs.Orders.{key_cmp_total}
use Rattle.sync_maps.specs.Seen.{seen_at}
use Rattle.sync_store.proofs.rows.Rows.object.Goals as goal

pub returns : goal.returns
returns c = sym (seen_at key_cmp_total c.self.inside.objects c.args.key.now c.self.view_is c.get.ensures.value)
