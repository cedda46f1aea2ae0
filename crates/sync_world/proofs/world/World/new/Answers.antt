use Rattle.std.proofs.Common.{[], refl, sym, subst}
use Rattle.sync_model.specs.Each.{no_more}
use Rattle.sync_model.specs.Worlds.{empty_world}
use Rattle.sync_world.specs.Holding.{HoldsEach}
use Rattle.sync_world.specs.Messages.{AreSpelled}
use Rattle.sync_world.proofs.world.World.new.Goals as goal

pub returns : goal.returns
returns c = record {
  reached = c.worlds_read_back.ensures.first;
  stands = record {
    server = c.in_ok-hub.ensures;
    clients = subst (HoldsEach empty_world.stops []) (sym c.new-2.ensures.items) tt;
    named = tt;
    server_fits = no_more;
    clients_fit = no_more;
    messages = subst (AreSpelled []) (sym c.new-3.ensures) tt;
    injected = c.new-4.ensures.items;
    unarmed = λ name e. refl;
  };
}
