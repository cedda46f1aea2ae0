use Rattle.std.proofs.Common.{◌∙◌, ap}
use Rattle.std.specs.FinMap as map
use Rattle.sync_data.specs.Orders.{key_cmp_total, key_cmp_exact}
use Rattle.sync_maps.specs.Answers.{was_ok}
use Rattle.sync_maps.specs.Seen.{inserted}
use Rattle.sync_store.proofs.rows.Rows.insert.Goals as goal

pub returns : goal.returns
returns c =
    let put = was_ok c.insert.result c.if-is_err.ensures.value c.insert.ensures.updates in
    inserted key_cmp_total key_cmp_exact c.self.inside.objects c.insert.new.self c.args.key c.args.object put.0 ∙ ap (λ m. map.insert m c.args.key c.args.object) c.self.view_is
