-- How a generated exchange ends.
use Rattle.std.specs.Prelude.{◌≡◌, ℕ, Some, map}
use Rattle.sync_model.specs.Clients.{client_of}
use Rattle.sync_model.specs.Progress.{AllCurrent}
use Rattle.sync_model.specs.Servers.{server_objects, server_of}
use Rattle.sync_model.specs.Worlds.{Node, World, at}
use Rattle.sync_exchange.specs.Profile.{the_profile}
use Rattle.sync_gen.specs.Clients.{name_of}
use Rattle.gen_law.specs.Plans.{clients}

-- its clients are the eight; each has the whole history, nothing unsent and the server's objects
pub record AllCaughtUp (w : World) : Type 0 where
  pub clients : map (λ nd. nd.name) w.clients ≡ map name_of clients
  pub current : AllCurrent the_profile w
  pub objects : (i : ℕ) (nd : Node) → at w.clients i ≡ Some nd → (client_of the_profile nd.records).objects ≡ server_objects the_profile (server_of the_profile w.server)
