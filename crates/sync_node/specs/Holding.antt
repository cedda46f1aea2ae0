-- What a node and its disk stand for.
use Rattle.std.specs.Prelude.{ℕ, List}
use Rattle.sync_disk.specs.Origin.{Origin}
use Rattle.sync_disk.specs.declared.disk.Disk.{Ghosts}
use Rattle.sync_journal.specs.Stands.{disk_of}
use Rattle.sync_model.specs.Clients.{ClientRecord}
use Rattle.sync_model.specs.Servers.{ServerRecord}
use Rattle.sync_client.specs.Clients as clients
use Rattle.sync_client.specs.declared.client.Client.{Client}
use Rattle.sync_server.specs.Serving as servers
use Rattle.sync_server.specs.declared.server.Server.{Server}

module _ {D : Type 0} {G : Ghosts D} where
  -- an open client of these records, whose disk holds them
  pub record ClientStands (records : List ClientRecord) (c : Client D G) : Type 0 where
    pub client : clients.IsClientOf records c
    pub stored : clients.IsStored records c

  -- the same of a server
  pub record ServerStands (records : List ServerRecord) (s : Server D G) : Type 0 where
    pub server : servers.IsServerOf records s
    pub stored : servers.IsStored records s

  -- the faults of its disk
  abbrev pub client_faults : Client D G → ℕ
  client_faults c = G.faults (disk_of (clients.journal_of c))

  abbrev pub server_faults : Server D G → ℕ
  server_faults s = G.faults (disk_of (servers.journal_of s))

  -- what no call of it changes
  abbrev pub client_origin : Client D G → Origin
  client_origin c = G.origin (disk_of (clients.journal_of c))

  abbrev pub server_origin : Server D G → Origin
  server_origin s = G.origin (disk_of (servers.journal_of s))
