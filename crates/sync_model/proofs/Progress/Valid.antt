-- What catching up asks of a world; it lasts, and all worlds have it, also where the server gave up history.
use Rattle.std.proofs.Common.{List, [], ◌∷◌, subst}
use Rattle.sync_model.specs.Profile.{Profile, Lawful}
use Rattle.sync_model.specs.Snapshots.{Buildable}
use Rattle.sync_model.specs.Worlds.{World, Event, happens, world_after, IsReached}
use Rattle.sync_model.specs.Files.{FilesOpen}
use Rattle.sync_model.specs.Log.{WorldFacts}
use Rattle.sync_model.proofs.Facts.{world_facts}
use Rattle.sync_model.proofs.Holding.{Holds, all_hold, happens_holds}
use Rattle.sync_model.proofs.Restarting.{event_opens}
use Rattle.sync_model.proofs.Reached.{reached_open}
use Rattle.sync_model.proofs.Progress.Names.{Apart, happens_apart, names_apart}

module _ {I S : Type 0} (p : Profile I S) where
  pub record Valid (w : World) : Type 0 where
    pub holds : Holds p w
    pub opens : FilesOpen p w
    pub apart : Apart w.clients

  module _ {Fits Bounded Old : S → Type 0} (law : Lawful p Fits) (built : Buildable p Fits Bounded Old) where
    pub valid_step : (w : World) (e : Event I) → Valid w → Valid (happens p w e).world
    valid_step w e v = record { holds = happens_holds p law built w v.holds e; opens = event_opens p law built w v.holds v.opens e; apart = happens_apart p w e v.apart }

    pub valid_after : (es : List (Event I)) (w : World) → Valid w → Valid (world_after p w es)
    valid_after [] w v = v
    valid_after (e ∷ es) w v = valid_after es (happens p w e).world (valid_step w e v)

    pub valid_facts : (w : World) → Valid w → WorldFacts p Fits w
    valid_facts w v = world_facts p law w v.holds

    pub reached_valid : (w : World) → IsReached p w → Valid w
    reached_valid w r = record { holds = subst (Holds p) r.1 (all_hold p law built r.0); opens = reached_open p law built w r; apart = names_apart p w r }
