use Rattle.std.proofs.Common.{◌∙◌, ap}
use Rattle.std.specs.List.{list_any}
use Rattle.sync_model.specs.Worlds.{id_is}
use Rattle.sync_world.specs.Holding.{id_of}
use Rattle.sync_world.proofs.Ids.{id_among}
use Rattle.sync_world.proofs.world.World.has_id.Goals as goal

pub returns : goal.returns
returns c w s = c.any_has_id.ensures ∙ ap (list_any (λ node. id_is c.args.id.now (id_of node))) c.as_slice.ensures.value ∙ id_among c.args.id.now w.stops w.clients c.args.self.now.clients.items s.clients
