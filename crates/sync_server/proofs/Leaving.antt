-- What a crash leaves of records that are added one after the other.
use Rattle.std.proofs.Common.{◌≡◌, ℕ, false, List, ◌++◌, map, refl, sym, subst}
use Rattle.std.proofs.lemmas.List.{map-append}
use Rattle.sync_disk.specs.declared.disk.Disk.{Ghosts}
use Rattle.sync_disk.specs.Disk.{LeavesOnly}
use Rattle.sync_disk.proofs.Moments.{and_then, weaker}
use Rattle.sync_journal.specs.Records.{StandsForPrefix}
use Rattle.sync_journal.specs.Stands.{disk_of}
use Rattle.sync_journal.specs.declared.journal.Journal.{Journal}
use Rattle.sync_journal.proofs.Prefixes.{longer, later}
use Rattle.sync_journal.proofs.Steps.{at_rest}
use Rattle.sync_model.specs.Servers.{ServerRecord}
use Rattle.sync_records.specs.declared.server.ServerRecord.{ServerRecord as CodeRecord}
use Rattle.sync_records.specs.declared.server.ServerRecord.TheVariants as servers
use Rattle.sync_records.specs.Spelling.{server_spelling}
use Rattle.sync_exchange.specs.Seen.{server_bytes, server_seen}
use Rattle.sync_server.specs.Serving.{Adds, LeavesPrefix}

module _ {D : Type 0} {G : Ghosts D} where
  -- those of the first part of a call
  pub part : (a b : List ServerRecord) (old new : Journal D G) → LeavesPrefix a old new → LeavesPrefix (a ++ b) old new
  part a b old new first = λ rs s.
      weaker G.moment G.images_since (disk_of old) (disk_of new) (StandsForPrefix rs (map server_bytes a)) (StandsForPrefix rs (map server_bytes (a ++ b))) (first rs s)
      (λ c p. subst (λ l. StandsForPrefix rs l c) (sym (map-append server_bytes a b)) (longer rs (map server_bytes a) (map server_bytes b) c p))

  -- and of its second
  pub both : (a b : List ServerRecord) (old mid new : Journal D G) → Adds a old mid → LeavesPrefix a old mid → LeavesPrefix b mid new → LeavesPrefix (a ++ b) old new
  both a b old mid new added first second = λ rs s.
      and_then G.moment G.images_since (disk_of old) (disk_of mid) (disk_of new) (StandsForPrefix rs (map server_bytes (a ++ b))) (part a b old mid first rs s)
      (weaker G.moment G.images_since (disk_of mid) (disk_of new) (StandsForPrefix (rs ++ map server_bytes a) (map server_bytes b)) (StandsForPrefix rs (map server_bytes (a ++ b))) (second (rs ++ map server_bytes a) (added rs s))
      (λ c p. subst (λ l. StandsForPrefix rs l c) (sym (map-append server_bytes a b)) (later rs (map server_bytes a) (map server_bytes b) c p)))

  -- where the disk stays as it is
  pub untouched : (next : List ServerRecord) (old new : Journal D G) → ((disk : D) (c : List ℕ) → G.images_since disk (G.moment disk) c → G.images disk c) → disk_of new ≡ disk_of old → LeavesPrefix next old new
  untouched next old new only_now e = λ rs s.
      subst (λ d. LeavesOnly G.moment G.images_since (disk_of old) d (StandsForPrefix rs (map server_bytes next))) (sym e)
      (at_rest G.content G.images G.moment G.images_since only_now false rs (map server_bytes next) old.end old.disk s.settled)

pub bytes_back : (r : CodeRecord) → server_spelling r ≡ server_bytes (server_seen r)
bytes_back (servers.Client id) = refl
bytes_back (servers.Entry origin number base ms body) = refl
bytes_back servers.Form = refl
bytes_back (servers.Retired ident by) = refl
bytes_back (servers.Settled ident settled) = refl
bytes_back (servers.Part body) = refl
bytes_back (servers.Floor version) = refl
bytes_back (servers.Count ident number base settled) = refl
bytes_back (servers.Carried origin number base ms body) = refl
bytes_back (servers.Past ident version ms body) = refl
