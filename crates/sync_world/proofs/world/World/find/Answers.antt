use Rattle.std.proofs.Common.{sym, ◌∙◌, ap, subst}
use Rattle.std.specs.List.{position}
use Rattle.sync_world.specs.Holding.{Found, named}
use Rattle.sync_world.proofs.Moves.{found_by_name}
use Rattle.sync_world.proofs.world.World.find.Goals as goal

pub returns-clause-found : goal.returns-clause-found
returns-clause-found c w s =
    subst (Found w c.args.name.now) (sym (c.place_of.ensures ∙ ap (position (named c.args.name.now)) c.as_slice.ensures.value)) (found_by_name w c.args.name.now c.args.self.now.clients.items s.clients)
