-- What a call asks of the disk, by its parts.
use Rattle.std.proofs.Common.{◌≡◌, ℕ, ◌<◌, ◌≤◌, ◌↔◌, Bool, true, false, List, [], ◌++◌, Option, Some, None, map, Result, Err, IsErrOf, refl, sym, subst, arith}
use Rattle.std.proofs.lemmas.List.{map-append}
use Rattle.sync_disk.specs.declared.disk.Disk.{Ghosts}
use Rattle.sync_disk.specs.Disk.{Told}
use Rattle.sync_journal.specs.Several.{Asks, AsksSome}
use Rattle.sync_journal.specs.Stands.{disk_of, end_of}
use Rattle.sync_journal.specs.declared.journal.Journal.{Journal}
use Rattle.sync_journal.proofs.Stops.{asks_none, asks_both, part_before, part_later}
use Rattle.sync_model.specs.Servers.{ServerRecord}
use Rattle.sync_exchange.specs.Seen.{server_bytes}
use Rattle.sync_server.specs.Serving.{AskedFor}
use Rattle.sync_server.specs.declared.refusal.ServerRefusal.{ServerRefusal}
use Rattle.sync_server.specs.declared.refusal.ServerRefusal.TheVariants as causes

-- a content that is told before a call is told after two of them
pub told_both : (old mid new : Option (List ℕ)) → Told old (λ b. (c : List ℕ) × (mid ≡ Some c)) → Told mid (λ b. (c : List ℕ) × (new ≡ Some c)) → Told old (λ b. (c : List ℕ) × (new ≡ Some c))
told_both old mid new first second = λ b is. let m = first b is in second m.0 m.1

module _ {D : Type 0} {G : Ghosts D} where
  -- ---- several
  pub asks_nothing : (old new : Journal D G) → new ≡ old → Asks [] old new
  asks_nothing old new e = subst (λ j. Asks [] old j) (sym e) (asks_none (end_of old) (G.strokes (disk_of old)))

  -- a call behind one that was done
  pub asked_more : (a b : List ServerRecord) (old mid new : Journal D G) (why : Option ServerRefusal) → Asks (map server_bytes a) old mid → AskedFor b mid new why → AskedFor (a ++ b) old new why
  asked_more a b old mid new None first second =
      subst (λ l. Asks l old new) (sym (map-append server_bytes a b))
      (asks_both (map server_bytes a) (map server_bytes b) (end_of old) (end_of mid) (end_of new) (G.strokes (disk_of old)) (G.strokes (disk_of mid)) (G.strokes (disk_of new)) first second)
  asked_more a b old mid new (Some causes.DiskFault) first second =
      subst (λ l. AsksSome l old new) (sym (map-append server_bytes a b))
      (part_later (map server_bytes a) (map server_bytes b) (end_of old) (end_of mid) (G.strokes (disk_of old)) (G.strokes (disk_of mid)) (G.strokes (disk_of new)) first second)
  asked_more a b old mid new (Some causes.NoMemory) first second = tt
  asked_more a b old mid new (Some causes.Closed) first second = tt

  -- one that failed, whatever was to come behind it
  pub asked_part : (a b : List ServerRecord) (old new : Journal D G) (why : ServerRefusal) → AskedFor a old new (Some why) → AskedFor (a ++ b) old new (Some why)
  asked_part a b old new causes.DiskFault first =
      subst (λ l. AsksSome l old new) (sym (map-append server_bytes a b))
      (part_before (map server_bytes a) (map server_bytes b) (end_of old) (G.strokes (disk_of old)) (G.strokes (disk_of new)) first)
  asked_part a b old new causes.NoMemory first = tt
  asked_part a b old new causes.Closed first = tt
