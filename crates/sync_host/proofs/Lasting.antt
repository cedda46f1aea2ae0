-- What a crash leaves of a node's call, as its host's file has it.
use Rattle.std.proofs.Common.{◌≡◌, ℕ, List, map, Option, Some, None, false, refl, sym, subst}
use Rattle.sync_disk.specs.declared.disk.Disk.{Ghosts}
use Rattle.outbox_disk.specs.contracts.disk.OutboxDiskDisk.TheImpl.Laws.{only_now-law}
use Rattle.sync_journal.proofs.Steps.{at_rest}
use Rattle.sync_client.proofs.Leaving.{leaves_none}
use Rattle.sync_client.specs.Clients as clients
use Rattle.sync_client.specs.declared.client.Client.{Client}
use Rattle.sync_data.specs.declared.instr.Instr.{Instr}
use Rattle.sync_base.specs.States.{State}
use Rattle.sync_exchange.specs.Seen.{server_bytes}
use Rattle.sync_model.specs.Clients.{ClientRecord}
use Rattle.sync_model.specs.Parts.{Served}
use Rattle.sync_model.specs.Servers.{ServerRecord}
use Rattle.sync_server.specs.declared.server.Server.{Server}
use Rattle.sync_host.specs.Hosting as hosting
use Rattle.sync_host.specs.Hosting.{ClientLasts}
use Rattle.sync_host.specs.Steps.{Answer, ClientStands, Lasts, ServerLasts, ServerStands}
use Rattle.sync_host.specs.declared.hosted.HostedClient.{HostedClient}
use Rattle.sync_host.specs.declared.hosted.HostedServer.{HostedServer}

-- ---- a client's call, as its host sees it
pub client_lasts : (o : Option Answer) (records : List ClientRecord) (old new : HostedClient) → Lasts o records old.client new.client → ClientLasts o records old new
client_lasts None records old new lasts = lasts
client_lasts (Some answer) records old new lasts = lasts.each

-- a call that does nothing
pub client_still : (o : Option Answer) (records : List ClientRecord) (old new : HostedClient) → new.client ≡ old.client → ClientStands records old.client → ClientLasts o records old new
client_still o records old new same is = subst (λ c. ClientLasts o records old (record new { client = c })) (sym same) (still o)
  where
    still : (o : Option Answer) → ClientLasts o records old (record new { client = old.client })
    still None = refl
    still (Some answer) = (leaves_none records answer.records (clients.journal_of old.client) (clients.journal_of old.client) only_now-law refl is.stored).each

-- ---- a server's
pub server_lasts : (o : Option (Served Instr State)) (records : List ServerRecord) (old new : HostedServer) → ServerLasts o records old.server new.server → hosting.ServerLasts o records old new
server_lasts None records old new lasts = lasts
server_lasts (Some did) records old new lasts = lasts.each

module _ {D : Type 0} {G : Ghosts D} where
  pub server_still : ((disk : D) (c : List ℕ) → G.images_since disk (G.moment disk) c → G.images disk c) → (o : Option (Served Instr State)) (records : List ServerRecord) (s : Server D G) → ServerStands records s → ServerLasts o records s s
  server_still only_now None records s is = refl
  server_still only_now (Some did) records s is = at_rest G.content G.images G.moment G.images_since only_now false (map server_bytes records) (map server_bytes did.records) s.journal.end s.journal.disk is.stored.settled

  pub client_at_rest : ((disk : D) (c : List ℕ) → G.images_since disk (G.moment disk) c → G.images disk c) → (o : Option Answer) (records : List ClientRecord) (c : Client D G) → ClientStands records c → Lasts o records c c
  client_at_rest only_now None records c is = refl
  client_at_rest only_now (Some answer) records c is = leaves_none records answer.records (clients.journal_of c) (clients.journal_of c) only_now refl is.stored
