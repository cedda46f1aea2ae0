-- A node whose disk is armed, or is not.
use Rattle.std.proofs.Common.{◌≡◌, ℕ, ◌+◌, ◌-◌, ◌≤◌, Bool, false, nat_lt, if◌then◌else◌, List, length, Option, None, Some, Ok, refl, sym, ◌∙◌, ap, subst, arith}
use Rattle.std.proofs.lemmas.Bool.Decides.{nat_tests}
use Rattle.sync_disk.specs.Faults.{armed, has_stopped}
use Rattle.sync_disk.specs.Origin.{Origin}
use Rattle.sync_disk.specs.declared.disk.Disk.{Ghosts}
use Rattle.sync_journal.specs.Stands.{disk_of}
use Rattle.sync_model.specs.Clients.{ClientRecord}
use Rattle.sync_model.specs.Servers.{ServerRecord}
use Rattle.sync_model.specs.Worlds.{Stop}
use Rattle.sync_client.specs.Clients as clients
use Rattle.sync_client.specs.Keeping.{Keeps}
use Rattle.sync_client.specs.declared.client.Client.{Client}
use Rattle.server_memory.specs.Kept.{parts}
use Rattle.sync_server.specs.Serving as servers
use Rattle.sync_server.specs.declared.server.Server.{Server}
use Rattle.sync_world.specs.Events.{leaves_seen}
use Rattle.sync_world.specs.Nodes.{HoldsClient, HoldsServer, IsArmed, stop_seen}
use Rattle.sync_world.specs.declared.stop.Stop.{Stop as CodeStop}

-- an armed disk that hasn't come to its stop
pub not_stopped : (s : Option Stop) (o : Origin) (n : ℕ) → IsArmed s o n → has_stopped o.stop n ≡ false
not_stopped None o n a = ap (λ (stop : Option ℕ). has_stopped stop n) a.stop
not_stopped (Some s) o n a = ap (λ (stop : Option ℕ). has_stopped stop n) a.stop ∙ before n (s.at - 1)
  where
    before : (n k : ℕ) → nat_lt (n + k) n ≡ false
    before n k = grind (arith, nat_tests)

pub one_armed : (stop : CodeStop) (o new : Origin) (n m : ℕ) → new ≡ armed stop.at stop.leaves o n → o.listed ≡ 0 → has_stopped o.stop n ≡ false → m ≡ n → 1 ≤ stop.at → IsArmed (Some (stop_seen stop)) new m
one_armed stop o new n m is listed open_ same counted =
    let place : n + stop.at - 1 ≡ m + (stop.at - 1) = omega (arith, same, counted) in
    record {
      listed = ap (λ (x : Origin). x.listed) is ∙ listed;
      stop = ap (λ (x : Origin). x.stop) is ∙ ap (λ (b : Bool). if b then o.stop else Some (n + stop.at - 1)) open_ ∙ ap (λ (k : ℕ). Some k) place;
      leaves = ap (λ (x : Origin). leaves_seen x.leaves) is;
      counted = counted;
    }

module _ {D : Type 0} {G : Ghosts D} where
  pub client_kept : (records : List ClientRecord) (old new : Client D G) → clients.IsClientOf records old → clients.is_closed new ≡ clients.is_closed old → clients.replica_of new ≡ clients.replica_of old → clients.IsClientOf records new
  client_kept records old new is closed replica = record { kept = subst (Keeps records) (sym replica) is.kept; open_ = closed ∙ is.open_ }

  pub armed_client : (records : List ClientRecord) (s : Option Stop) (kept : Option CodeStop) (stop : CodeStop) (old new : Client D G) → HoldsClient records s kept old → clients.IsClientOf records new → clients.IsStored records new
      → G.origin (disk_of (clients.journal_of new)) ≡ armed stop.at stop.leaves (G.origin (disk_of (clients.journal_of old))) (length (G.strokes (disk_of (clients.journal_of old))))
      → G.strokes (disk_of (clients.journal_of new)) ≡ G.strokes (disk_of (clients.journal_of old)) → 1 ≤ stop.at
      → HoldsClient records (Some (stop_seen stop)) (Some stop) new
  armed_client records s kept stop old new h is stored origin strokes counted = record {
    client = is;
    stored = stored;
    armed = one_armed stop (G.origin (disk_of (clients.journal_of old))) (G.origin (disk_of (clients.journal_of new))) (length (G.strokes (disk_of (clients.journal_of old)))) (length (G.strokes (disk_of (clients.journal_of new)))) origin h.armed.listed
        (not_stopped s (G.origin (disk_of (clients.journal_of old))) (length (G.strokes (disk_of (clients.journal_of old)))) h.armed) (ap length strokes) counted;
    kept_is = refl;
  }

  -- a client that is opened over a disk that isn't armed
  pub opened_client : (records : List ClientRecord) (c : Client D G) (o : Origin) → clients.IsClientOf records c → clients.IsStored records c → G.origin (disk_of (clients.journal_of c)) ≡ o → o.stop ≡ None → o.listed ≡ 0 → HoldsClient records None None c
  opened_client records c o is stored same stop listed = record {
    client = is;
    stored = stored;
    armed = record { listed = ap (λ (x : Origin). x.listed) same ∙ listed; stop = ap (λ (x : Origin). x.stop) same ∙ stop; leaves = tt; counted = tt };
    kept_is = refl;
  }

  -- ---- the same of a server
  pub server_kept : (records : List ServerRecord) (old new : Server D G) → servers.IsServerOf records old → servers.is_closed new ≡ servers.is_closed old → servers.kept_of new ≡ servers.kept_of old → servers.IsServerOf records new
  server_kept records old new is closed kept = record { gives = is.gives ∙ ap (λ k. Ok (parts k)) (sym kept); open_ = closed ∙ is.open_ }

  pub armed_server : (records : List ServerRecord) (s : Option Stop) (kept : Option CodeStop) (stop : CodeStop) (old new : Server D G) → HoldsServer records s kept old → servers.IsServerOf records new → servers.IsStored records new
      → G.origin (disk_of (servers.journal_of new)) ≡ armed stop.at stop.leaves (G.origin (disk_of (servers.journal_of old))) (length (G.strokes (disk_of (servers.journal_of old))))
      → G.strokes (disk_of (servers.journal_of new)) ≡ G.strokes (disk_of (servers.journal_of old)) → 1 ≤ stop.at
      → HoldsServer records (Some (stop_seen stop)) (Some stop) new
  armed_server records s kept stop old new h is stored origin strokes counted = record {
    server = is;
    stored = stored;
    armed = one_armed stop (G.origin (disk_of (servers.journal_of old))) (G.origin (disk_of (servers.journal_of new))) (length (G.strokes (disk_of (servers.journal_of old)))) (length (G.strokes (disk_of (servers.journal_of new)))) origin h.armed.listed
        (not_stopped s (G.origin (disk_of (servers.journal_of old))) (length (G.strokes (disk_of (servers.journal_of old)))) h.armed) (ap length strokes) counted;
    kept_is = refl;
  }

  pub opened_server : (records : List ServerRecord) (c : Server D G) (o : Origin) → servers.IsServerOf records c → servers.IsStored records c → G.origin (disk_of (servers.journal_of c)) ≡ o → o.stop ≡ None → o.listed ≡ 0 → HoldsServer records None None c
  opened_server records c o is stored same stop listed = record {
    server = is;
    stored = stored;
    armed = record { listed = ap (λ (x : Origin). x.listed) same ∙ listed; stop = ap (λ (x : Origin). x.stop) same ∙ stop; leaves = tt; counted = tt };
    kept_is = refl;
  }
