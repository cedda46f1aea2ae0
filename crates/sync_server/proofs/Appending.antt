-- Records that a call appends, by its parts.
use Rattle.std.proofs.Common.{◌≡◌, ℕ, List, [], ◌++◌, Option, Some, None, map, Result, Ok, Err, ap, sym, subst}
use Rattle.std.specs.Prelude.{IfNone, OnOk}
use Rattle.std.specs.Result.{result_err}
use Rattle.std.proofs.lemmas.List.{map-append}
use Rattle.sync_data.specs.declared.instr.Instr.{Instr}
use Rattle.sync_base.specs.States.{State}
use Rattle.sync_disk.specs.declared.disk.Disk.{Ghosts}
use Rattle.sync_disk.specs.Disk.{LeavesOnly, Told}
use Rattle.sync_journal.specs.Records.{StandsForPrefix}
use Rattle.sync_journal.specs.Stands.{Stands, disk_of}
use Rattle.sync_journal.specs.declared.journal.Journal.{Journal}
use Rattle.sync_model.specs.Parts.{Served}
use Rattle.sync_model.specs.Servers.{ServerRecord}
use Rattle.sync_exchange.specs.Seen.{server_bytes}
use Rattle.sync_server.specs.Serving.{Adds, Appends, IsStored, JournalAppends, Survives}
use Rattle.sync_server.specs.declared.refusal.ServerRefusal.{ServerRefusal}
use Rattle.sync_server.specs.declared.refusal.ServerRefusal.TheVariants as causes
use Rattle.sync_server.specs.declared.server.Server.{Server}
use Rattle.sync_server.proofs.Adding.{adds_more, adds_none}
use Rattle.sync_server.proofs.Leaving.{both, part, untouched}
use Rattle.sync_server.proofs.Strokes.{asked_more, asked_part, asks_nothing}

none_then : (o : Option ServerRefusal) (P Q : Type 0) → IfNone o P → (P → Q) → IfNone o Q
none_then None P Q h f = f h
none_then (Some why) P Q h f = tt

module _ {D : Type 0} {G : Ghosts D} where
  pub appends_none : (old new : Journal D G) → ((disk : D) (c : List ℕ) → G.images_since disk (G.moment disk) c → G.images disk c) → new ≡ old → JournalAppends [] old new None
  appends_none old new only_now e = record { stored = adds_none old new e; any_moment = untouched [] old new only_now (ap disk_of e); asked = λ b told. asks_nothing old new e }

  -- out of memory before anything is appended
  pub unadded : (next : List ServerRecord) (old new : Journal D G) → ((disk : D) (c : List ℕ) → G.images_since disk (G.moment disk) c → G.images disk c) → disk_of new ≡ disk_of old → JournalAppends next old new (Some causes.NoMemory)
  unadded next old new only_now same = record { stored = tt; any_moment = untouched next old new only_now same; asked = λ b told. tt }

  -- a call behind one that was done
  pub appends_more : (a b : List ServerRecord) (old mid new : Journal D G) (why : Option ServerRefusal) → JournalAppends a old mid None → Told (G.content (disk_of old)) (λ c. (bytes : List ℕ) × (G.content (disk_of mid) ≡ Some bytes)) → JournalAppends b mid new why
      → JournalAppends (a ++ b) old new why
  appends_more a b old mid new why first told second = record {
    stored = none_then why (Adds b mid new) (Adds (a ++ b) old new) second.stored (adds_more a b old mid new first.stored);
    any_moment = both a b old mid new first.stored first.any_moment second.any_moment;
    asked = λ c is. let m = told c is in asked_more a b old mid new why (first.asked c is) (second.asked m.0 m.1);
  }

  -- one that failed, whatever was to come behind it
  pub appends_part : (a b : List ServerRecord) (old new : Journal D G) (why : ServerRefusal) → JournalAppends a old new (Some why) → JournalAppends (a ++ b) old new (Some why)
  appends_part a b old new why first = record { stored = tt; any_moment = part a b old new first.any_moment; asked = λ c told. asked_part a b old new why (first.asked c told) }

  -- out of memory behind what was appended
  pub appends_lost : (a b : List ServerRecord) (old mid new : Journal D G) → disk_of new ≡ disk_of mid → JournalAppends a old mid None → JournalAppends (a ++ b) old new (Some causes.NoMemory)
  appends_lost a b old mid new same first = record {
    stored = tt;
    any_moment = λ rs s. subst (λ d. LeavesOnly G.moment G.images_since (disk_of old) d (StandsForPrefix rs (map server_bytes (a ++ b)))) (sym same) (part a b old mid first.any_moment rs s);
    asked = λ c told. tt;
  }

  holds : {B : Type 0} (next records : List ServerRecord) (old new : Server D G) (r : Result B ServerRefusal) → IfNone (result_err r) (Adds next old.journal new.journal) → IsStored records old → OnOk r (IsStored (records ++ next) new)
  holds next records old new (Ok b) added stored = subst (λ l. Stands l new.journal) (sym (map-append server_bytes records next)) (added (map server_bytes records) stored)
  holds next records old new (Err why) added stored = tt

  -- behind the records that the disk held
  pub survives : {B : Type 0} (did : Served Instr State) (records : List ServerRecord) (old new : Server D G) (r : Result B ServerRefusal) → Appends did.records old new r → IsStored records old → Survives did records old new r
  survives did records old new r appended stored = record {
    stored = holds did.records records old new r appended.stored stored;
    any_moment = appended.any_moment (map server_bytes records) stored;
    asked = appended.asked stored.settled.file stored.settled.told;
  }
