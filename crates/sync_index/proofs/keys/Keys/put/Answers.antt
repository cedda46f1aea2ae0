use Rattle.std.proofs.Common.{◌∙◌, ap}
use Rattle.std.specs.FinSet as set
use Rattle.sync_data.specs.Orders.{key_cmp_total, key_cmp_exact}
use Rattle.sync_maps.specs.Answers.{was_ok}
use Rattle.sync_maps.specs.Seen.{included}
use Rattle.sync_index.proofs.keys.Keys.put.Goals as goal

pub returns-clause-ok : goal.returns-clause-ok
returns-clause-ok c =
    let put = was_ok c.insert.result c.if-is_err.ensures.value c.insert.ensures.updates in
    included key_cmp_total key_cmp_exact c.self.inside.keys c.insert.new.self c.args.key put.0 ∙ ap (λ s. set.insert s c.args.key) c.self.view_is
