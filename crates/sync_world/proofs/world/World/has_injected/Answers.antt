use Rattle.std.proofs.Common.{◌∙◌, ap}
use Rattle.std.specs.List.{list_any}
use Rattle.std.specs.Prelude.{bytes_eq}
use Rattle.sync_world.proofs.Ids.{any_is_there}
use Rattle.sync_world.proofs.world.World.has_injected.Goals as goal

pub returns : goal.returns
returns c w s = c.is_among.ensures ∙ ap (list_any (λ known. bytes_eq c.args.id.now known)) (c.as_slice.ensures.value ∙ s.injected) ∙ any_is_there (λ u. bytes_eq c.args.id.now u) w.injected
