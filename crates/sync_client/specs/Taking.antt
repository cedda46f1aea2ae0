-- What an entry of a Download does to a client of these records.
use Rattle.std.specs.Prelude.{◌≡◌, List, [], ◌∷◌, ◌++◌, Some, None, Result, Ok, Err}
use Rattle.sync_disk.specs.declared.disk.Disk.{Ghosts}
use Rattle.sync_model.specs.Clients.{ClientRecord, ClientRefusal, client_of, entry_refusal, took}
use Rattle.sync_model.specs.Messages.{Sent}
use Rattle.sync_exchange.specs.Profile.{the_profile}
use Rattle.sync_client.specs.declared.client.Client.{Client}
use Rattle.sync_client.specs.declared.refusal.ClientRefusal.{ClientRefusal as CodeRefusal}
use Rattle.sync_client.specs.Clients.{IsClientOf}
use Rattle.sync_client.specs.Refusals.{refusal_seen, IfSeen}

module _ {D : Type 0} {G : Ghosts D} where
  -- it is taken
  pub record SentTaken (records : List ClientRecord) (new : Client D G) (e : Sent) : Type 0 where
    pub fine : entry_refusal the_profile (client_of the_profile records) e ≡ None
    pub client : IsClientOf (records ++ took e ∷ []) new

  -- it is refused so
  pub record SentRefused (records : List ClientRecord) (new : Client D G) (e : Sent) (why : ClientRefusal) : Type 0 where
    pub cause : entry_refusal the_profile (client_of the_profile records) e ≡ Some why
    pub client : IsClientOf records new

  abbrev pub SentSays : List ClientRecord → Client D G → Sent → Result (Unit {0}) CodeRefusal → Type 0
  SentSays records new e (Ok u) = SentTaken records new e
  SentSays records new e (Err why) = IfSeen (refusal_seen why) (SentRefused records new e)
