-- What a call of a client leaves where it appends one record, or none.
use Rattle.std.proofs.Common.{◌≡◌, ℕ, List, [], ◌∷◌, ◌++◌, map, Result, Ok, Err, ap, sym, subst, append-nil}
use Rattle.std.specs.Prelude.{◌⊎◌, IfErr, IfNone}
use Rattle.std.specs.Result.{result_err}
use Rattle.sync_disk.specs.declared.disk.Disk.{Ghosts}
use Rattle.sync_journal.specs.Stands.{Stands, disk_of}
use Rattle.sync_journal.specs.declared.journal.Journal.{Journal}
use Rattle.sync_model.specs.Clients.{ClientRecord, ClientStep, appends}
use Rattle.sync_exchange.specs.Seen.{client_bytes}
use Rattle.sync_client.specs.Clients.{Appends, AskedFor, IsStored, Leaves, Stores, Survives}
use Rattle.sync_client.specs.Refusals.{refusal_seen, IfSeen, IsPlain}
use Rattle.sync_client.specs.declared.client.Client.{Client}
use Rattle.sync_client.specs.declared.refusal.ClientRefusal.{ClientRefusal as CodeRefusal}
use Rattle.sync_client.specs.declared.refusal.ClientRefusal.TheVariants as codes
use Rattle.sync_client.proofs.Calls.{if_seen_both, unseen}
use Rattle.sync_client.proofs.Leaving.{leaves_none}
use Rattle.sync_client.proofs.Strokes.{none_asked, refused_asked}

module _ {D : Type 0} {G : Ghosts D} where
  -- ---- one record
  one_stored : {A B : Type 0} (did : ClientStep A) (next records : List ClientRecord) (new : Client D G) (r : Result B CodeRefusal) → next ≡ did.records → IfNone (result_err r) (IsStored (records ++ next) new) → IfErr r (λ why. (why ≡ codes.DiskFault) ⊎ (why ≡ codes.NoMemory)) → Stores did records new r
  one_stored did next records new (Ok b) is holds refused = subst (λ rs. IsStored (records ++ rs) new) is holds
  one_stored did next records new (Err why) is holds refused = unseen why (λ w. IsStored (records ++ did.records) new) refused

  -- it is appended, or the disk or the memory refuses it
  pub survives_one : {A B : Type 0} (did : ClientStep A) (next : ClientRecord) (a : A) (records : List ClientRecord) (old new : Client D G) (r : Result B CodeRefusal) → did ≡ appends next a → Appends (next ∷ []) old new r
      → IfErr r (λ why. (why ≡ codes.DiskFault) ⊎ (why ≡ codes.NoMemory)) → IsStored records old → Survives did records old new r
  survives_one did next a records old new r is added refused stored =
      let same : next ∷ [] ≡ did.records = sym (ap (λ d. d.records) is) in
      record {
        stored = one_stored did (next ∷ []) records new r same (added.stored records stored) refused;
        any_moment = subst (λ rs. Leaves records rs old.journal new.journal) same (added.any_moment (map client_bytes records) stored);
        asked = subst (λ rs. AskedFor rs old.journal new.journal (result_err r)) same (added.asked stored.settled.file stored.settled.told);
      }

  -- ---- none
  none_stored : {A : Type 0} (did : ClientStep A) (records : List ClientRecord) (old new : Client D G) → did.records ≡ [] → new.journal ≡ old.journal → IsStored records old → IsStored (records ++ did.records) new
  none_stored did records old new none same stored =
      subst (λ (j : Journal D G). Stands (map client_bytes (records ++ did.records)) j) (sym same)
      (subst (λ rs. IsStored (records ++ rs) old) (sym none) (subst (λ rs. IsStored rs old) (sym (append-nil records)) stored))

  pub survives_none : {A B : Type 0} (did : ClientStep A) (b : B) (records : List ClientRecord) (old new : Client D G) → ((disk : D) (c : List ℕ) → G.images_since disk (G.moment disk) c → G.images disk c)
      → did.records ≡ [] → new.journal ≡ old.journal → IsStored records old → Survives did records old new (Ok b)
  survives_none did b records old new only_now none same stored = record {
    stored = none_stored did records old new none same stored;
    any_moment = leaves_none records did.records old.journal new.journal only_now (ap disk_of same) stored;
    asked = none_asked did.records old.journal new.journal none same;
  }

  -- it is refused before it appends anything
  pub survives_refused : {A B : Type 0} (did : ClientStep A) (why : CodeRefusal) (records : List ClientRecord) (old new : Client D G) → ((disk : D) (c : List ℕ) → G.images_since disk (G.moment disk) c → G.images disk c)
      → IsPlain why → IfSeen (refusal_seen why) (λ w. did.records ≡ []) → disk_of new.journal ≡ disk_of old.journal → IfSeen (refusal_seen why) (λ w. new.journal ≡ old.journal) → IsStored records old
      → Survives {B = B} did records old new (Err why)
  survives_refused did why records old new only_now plain none rest same stored = record {
    stored = if_seen_both (refusal_seen why) (λ w. did.records ≡ []) (λ w. new.journal ≡ old.journal) (λ w. IsStored (records ++ did.records) new) (λ w e f. none_stored did records old new e f stored) none same;
    any_moment = leaves_none records did.records old.journal new.journal only_now rest stored;
    asked = refused_asked why did.records old.journal new.journal plain none same;
  }
