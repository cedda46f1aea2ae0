use Rattle.std.proofs.Common.{sym, ◌∙◌, ap}
use Rattle.std.specs.FinSet as set
use Rattle.sync_data.specs.Orders.{key_cmp_total}
use Rattle.sync_maps.specs.Seen.{had}
use Rattle.sync_index.proofs.keys.Keys.contains.Goals as goal

pub returns : goal.returns
returns c = c.contains.ensures ∙ sym (had key_cmp_total c.self.inside.keys c.args.key.now) ∙ ap (λ s. set.contains s c.args.key.now) c.self.view_is
