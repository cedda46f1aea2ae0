-- After a call of a client.
use Rattle.std.proofs.Common.{◌≡◌, true, false, List, Option, Some, Result, Ok, Err, map, refl, ◌∙◌, ap, subst}
use Rattle.sync_disk.specs.Origin.{Origin}
use Rattle.sync_disk.specs.declared.disk.Disk.{Ghosts}
use Rattle.sync_journal.specs.Several.{Asks, AsksSome}
use Rattle.sync_journal.specs.Stands.{disk_of}
use Rattle.sync_model.specs.Clients.{ClientRecord, ClientRefusal, ClientStep}
use Rattle.sync_model.specs.Worlds.{Stop, stopped}
use Rattle.sync_exchange.specs.Seen.{client_bytes}
use Rattle.sync_client.specs.Clients.{Asked, Says, Survives, UsesDisk, journal_of}
use Rattle.sync_client.specs.Refusals.{refusal_seen}
use Rattle.sync_client.specs.declared.client.Client.{Client}
use Rattle.sync_client.specs.declared.refusal.ClientRefusal.{ClientRefusal as CodeRefusal}
use Rattle.sync_client.specs.declared.refusal.ClientRefusal.TheVariants as codes
use Rattle.sync_world.specs.Calls.{AfterCall, IsAnswer, is_cut, is_lost}
use Rattle.sync_world.specs.Nodes.{HoldsClient}
use Rattle.sync_world.specs.declared.stop.Stop.{Stop as CodeStop}
use Rattle.sync_world.proofs.Stops.{StopsTell, goes, cuts}

module _ {D : Type 0} {G : Ghosts D} {A : Type 0} (did : ClientStep A) (old new : Client D G) where
  abbrev Whole : Type 0
  Whole = Asks (map client_bytes did.records) (journal_of old) (journal_of new)

  refused_whole : (why : CodeRefusal) (w : ClientRefusal) → refusal_seen why ≡ Some w → Asked {A = A} {B = A} did old new (Err why) → Whole
  refused_whole codes.Closed w e asked = absurd (cc e)
  refused_whole codes.NotBorn w e asked = asked
  refused_whole codes.AlreadyBorn w e asked = asked
  refused_whole codes.NotNamed w e asked = asked
  refused_whole codes.TooLarge w e asked = asked
  refused_whole codes.NumbersFull w e asked = asked
  refused_whole (codes.OldForm place) w e asked = asked
  refused_whole (codes.NotSubscribed place) w e asked = asked
  refused_whole (codes.Break place code) w e asked = asked
  refused_whole codes.NotMine w e asked = asked
  refused_whole (codes.IdentDiffers kept got) w e asked = asked
  refused_whole (codes.Gap cursor from) w e asked = asked
  refused_whole (codes.BadBody version offset rule) w e asked = asked
  refused_whole (codes.OldEntry version) w e asked = asked
  refused_whole (codes.Mismatch version number kind) w e asked = asked
  refused_whole (codes.Forked number) w e asked = asked
  refused_whole (codes.NotApplicable version place code) w e asked = asked
  refused_whole (codes.WasRefused number code) w e asked = asked
  refused_whole codes.Subscribed w e asked = asked
  refused_whole codes.TooLate w e asked = asked
  refused_whole codes.DiskFault w e asked = absurd (cc e)
  refused_whole codes.NoMemory w e asked = absurd (cc e)

  asked_whole : (answer : Result A CodeRefusal) → IsAnswer answer → Asked {A = A} {B = A} did old new answer → Whole
  asked_whole (Ok a) is asked = asked
  asked_whole (Err why) is asked = refused_whole why is.0 is.1 asked

  asked_part : (answer : Result A CodeRefusal) → answer ≡ Err codes.DiskFault → Asked {A = A} {B = A} did old new answer → AsksSome (map client_bytes did.records) (journal_of old) (journal_of new)
  asked_part answer is asked = subst (λ a. Asked {A = A} {B = A} did old new a) is asked

  pub after_call : {P : Type 0} → StopsTell G → (records : List ClientRecord) (s : Option Stop) (kept : Option CodeStop) (answer : Result A CodeRefusal) → HoldsClient records s kept old
      → Says did records new answer → Survives did records old new answer → UsesDisk P old new → AfterCall did records (stopped s did.records) answer new
  after_call tell records s kept answer h says survives disk =
      let settled = h.stored.settled in
      let before = disk_of (journal_of old) in
      let after = disk_of (journal_of new) in
      record {
        says = says;
        stores = survives.stored;
        listed = ap (λ (o : Origin). o.listed) disk.same_origin ∙ h.armed.listed;
        whole = λ is. goes G tell client_bytes records did.records _ before after settled disk.told disk.same_origin s h.armed _ (asked_whole answer is survives.asked);
        cut = λ is. cuts G tell client_bytes records did.records _ before after settled disk.told disk.same_origin s h.armed (asked_part answer is survives.asked);
      }

-- any other refusal is one of the model's
pub seen_else : (why : CodeRefusal) → is_lost why ≡ false → is_cut why ≡ false → (w : ClientRefusal) × (refusal_seen why ≡ Some w)
seen_else codes.Closed a b = absurd (cc)
seen_else codes.NotBorn a b = (ClientRefusal.NotBorn, refl)
seen_else codes.AlreadyBorn a b = (ClientRefusal.AlreadyBorn, refl)
seen_else codes.NotNamed a b = (ClientRefusal.NotNamed, refl)
seen_else codes.TooLarge a b = (ClientRefusal.TooLarge, refl)
seen_else codes.NumbersFull a b = (ClientRefusal.NumbersFull, refl)
seen_else (codes.OldForm place) a b = (ClientRefusal.OldForm place, refl)
seen_else (codes.NotSubscribed place) a b = (ClientRefusal.NotSubscribed place, refl)
seen_else (codes.Break place code) a b = (ClientRefusal.Break place code, refl)
seen_else codes.NotMine a b = (ClientRefusal.NotMine, refl)
seen_else (codes.IdentDiffers kept got) a b = (ClientRefusal.IdentDiffers kept got, refl)
seen_else (codes.Gap cursor from) a b = (ClientRefusal.Gap cursor from, refl)
seen_else (codes.BadBody version offset rule) a b = (ClientRefusal.BadBody version offset rule, refl)
seen_else (codes.OldEntry version) a b = (ClientRefusal.OldEntry version, refl)
seen_else (codes.Mismatch version number kind) a b = (ClientRefusal.Mismatch version number kind, refl)
seen_else (codes.Forked number) a b = (ClientRefusal.Forked number, refl)
seen_else (codes.NotApplicable version place code) a b = (ClientRefusal.NotApplicable version place code, refl)
seen_else (codes.WasRefused number code) a b = (ClientRefusal.WasRefused number code, refl)
seen_else codes.Subscribed a b = (ClientRefusal.Subscribed, refl)
seen_else codes.TooLate a b = (ClientRefusal.TooLate, refl)
seen_else codes.DiskFault a b = absurd (cc)
seen_else codes.NoMemory a b = absurd (cc)

pub cut_is : (why : CodeRefusal) → is_cut why ≡ true → why ≡ codes.DiskFault
cut_is codes.Closed e = absurd (cc)
cut_is codes.NotBorn e = absurd (cc)
cut_is codes.AlreadyBorn e = absurd (cc)
cut_is codes.NotNamed e = absurd (cc)
cut_is codes.TooLarge e = absurd (cc)
cut_is codes.NumbersFull e = absurd (cc)
cut_is (codes.OldForm place) e = absurd (cc)
cut_is (codes.NotSubscribed place) e = absurd (cc)
cut_is codes.Subscribed e = absurd (cc)
cut_is codes.TooLate e = absurd (cc)
cut_is (codes.Break place code) e = absurd (cc)
cut_is codes.NotMine e = absurd (cc)
cut_is (codes.IdentDiffers kept got) e = absurd (cc)
cut_is (codes.Gap cursor from) e = absurd (cc)
cut_is (codes.BadBody version offset rule) e = absurd (cc)
cut_is (codes.OldEntry version) e = absurd (cc)
cut_is (codes.Mismatch version number kind) e = absurd (cc)
cut_is (codes.Forked number) e = absurd (cc)
cut_is (codes.NotApplicable version place code) e = absurd (cc)
cut_is (codes.WasRefused number code) e = absurd (cc)
cut_is codes.DiskFault e = refl
cut_is codes.NoMemory e = absurd (cc)
