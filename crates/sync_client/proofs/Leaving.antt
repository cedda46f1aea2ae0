-- What a crash leaves of records that are added one after the other.
use Rattle.std.proofs.Common.{◌≡◌, ℕ, false, List, ◌++◌, map, Some, sym, subst}
use Rattle.std.proofs.lemmas.List.{map-append}
use Rattle.sync_disk.specs.declared.disk.Disk.{Ghosts}
use Rattle.sync_disk.specs.Disk.{LeavesOnly}
use Rattle.sync_disk.proofs.Moments.{and_then, weaker}
use Rattle.sync_journal.specs.Records.{StandsForPrefix}
use Rattle.sync_journal.specs.Stands.{Stands, disk_of}
use Rattle.sync_journal.specs.declared.journal.Journal.{Journal}
use Rattle.sync_journal.proofs.Prefixes.{longer, later}
use Rattle.sync_journal.proofs.Steps.{at_rest}
use Rattle.sync_model.specs.Clients.{ClientRecord}
use Rattle.sync_exchange.specs.Seen.{client_bytes}
use Rattle.sync_client.specs.Clients.{JournalAppends, Leaves}
use Rattle.sync_client.specs.declared.refusal.ClientRefusal.TheVariants as codes

module _ {D : Type 0} {G : Ghosts D} where
  -- those of the first part of a call
  pub part : (records a b : List ClientRecord) (old new : Journal D G) → Leaves records a old new → Leaves records (a ++ b) old new
  part records a b old new first =
      weaker G.moment G.images_since (disk_of old) (disk_of new) (StandsForPrefix (map client_bytes records) (map client_bytes a)) (StandsForPrefix (map client_bytes records) (map client_bytes (a ++ b))) first
      (λ c p. subst (λ l. StandsForPrefix (map client_bytes records) l c) (sym (map-append client_bytes a b)) (longer (map client_bytes records) (map client_bytes a) (map client_bytes b) c p))

  -- and of its second
  pub both : (records a b : List ClientRecord) (old mid new : Journal D G) → Leaves records a old mid → Leaves (records ++ a) b mid new → Leaves records (a ++ b) old new
  both records a b old mid new first second =
      and_then G.moment G.images_since (disk_of old) (disk_of mid) (disk_of new) (StandsForPrefix (map client_bytes records) (map client_bytes (a ++ b))) (part records a b old mid first)
      (weaker G.moment G.images_since (disk_of mid) (disk_of new) (StandsForPrefix (map client_bytes (records ++ a)) (map client_bytes b)) (StandsForPrefix (map client_bytes records) (map client_bytes (a ++ b))) second
      (λ c p. subst (λ l. StandsForPrefix (map client_bytes records) l c) (sym (map-append client_bytes a b))
      (later (map client_bytes records) (map client_bytes a) (map client_bytes b) c (subst (λ l. StandsForPrefix l (map client_bytes b) c) (map-append client_bytes records a) p))))

  -- a call that leaves the disk as it is
  pub leaves_none : (records next : List ClientRecord) (old new : Journal D G) → ((disk : D) (c : List ℕ) → G.images_since disk (G.moment disk) c → G.images disk c) → disk_of new ≡ disk_of old → Stands (map client_bytes records) old → Leaves records next old new
  leaves_none records next old new only_now e s =
      subst (λ d. LeavesOnly G.moment G.images_since (disk_of old) d (StandsForPrefix (map client_bytes records) (map client_bytes next))) (sym e) (at_rest G.content G.images G.moment G.images_since only_now false (map client_bytes records) (map client_bytes next) old.end old.disk s.settled)

  -- and so one that ends before it appends, for want of memory
  pub unadded : (next : List ClientRecord) (old new : Journal D G) → ((disk : D) (c : List ℕ) → G.images_since disk (G.moment disk) c → G.images disk c) → disk_of new ≡ disk_of old → JournalAppends next old new (Some codes.NoMemory)
  unadded next old new only_now e = record {
    stored = λ records s. tt;
    any_moment = λ rs s. subst (λ d. LeavesOnly G.moment G.images_since (disk_of old) d (StandsForPrefix rs (map client_bytes next))) (sym e) (at_rest G.content G.images G.moment G.images_since only_now false rs (map client_bytes next) old.end old.disk s.settled);
    asked = λ b told. tt;
  }
