use Rattle.sync_data.specs.Orders.{key_cmp_total}
use Rattle.sync_maps.specs.Nexts.{next_seen}
use Rattle.sync_store.proofs.rows.Rows.next_key.Goals as goal

pub returns : goal.returns
returns c = next_seen key_cmp_total c.self.inside.objects c.args.self.now c.self.view_is _ _ c.next_key.ensures
