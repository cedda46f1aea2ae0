use Rattle.std.proofs.Common.{◌+◌, ◌<◌, ◌≤◌, ℕ, length, subst}
use Rattle.sync_model.specs.Clients.{client_of, last}
use Rattle.sync_model.specs.Recovery.{SavesOnce}
use Rattle.sync_model.specs.Rescues.{LivesOn}
use Rattle.sync_model.specs.Servers.{count, server_of}
use Rattle.sync_exchange.specs.Profile.{the_profile}
use Rattle.sync_top.proofs.Recoveries.{by_moves}
use Rattle.sync_top.proofs.laws.recoveries_hold.Goals as goal

pub returns : goal.returns
returns c server ident by old first runs r =
    let m = by_moves server ident by old first runs r in
    record {
      once = subst (λ rs. SavesOnce the_profile server ident by old rs) m.makes (c.heirs_save_once.ensures.once server ident by old first m.moves m.is);
      final = λ retired. c.retired_counts_are_final.ensures.last server ident by r.server_file retired;
      lives = subst (λ rs. length (client_of the_profile old).made ≤ count (server_of the_profile server) ident + last (client_of the_profile rs)
          → (place : ℕ) → place < length (client_of the_profile old).made → LivesOn the_profile server ident old rs place)
          m.makes (c.recoveries_end.ensures.lives server ident by old first m.moves m.is);
      says = λ records change number dropped saved. c.heirs_save_once.ensures.saves records by (count (server_of the_profile server) ident) change number dropped saved;
      drops = λ objects instrs. c.breaks_are_listed.ensures objects instrs;
    }
