use Rattle.std.proofs.Common.{sym, ◌∙◌, ap}
use Rattle.std.specs.FinMap as map
use Rattle.sync_data.specs.Orders.{key_cmp_total, key_cmp_exact}
use Rattle.sync_maps.specs.Seen.{seen_at, removed}
use Rattle.sync_store.proofs.rows.Rows.remove.Goals as goal

pub returns-clause-object : goal.returns-clause-object
returns-clause-object c = sym (seen_at key_cmp_total c.self.inside.objects c.args.key.now c.self.view_is c.remove.ensures.value)

pub returns-clause-others : goal.returns-clause-others
returns-clause-others c = removed key_cmp_total key_cmp_exact c.self.inside.objects c.remove.new.self c.args.key.now c.remove.ensures.updates.0 ∙ ap (λ m. map.remove m c.args.key.now) c.self.view_is
