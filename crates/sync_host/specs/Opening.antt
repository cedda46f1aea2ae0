-- What a node over the bytes of a file stands for.
use Rattle.std.specs.Prelude.{◌≡◌, ℕ, List}
use Rattle.sync_journal.specs.declared.journal.Journal.{Journal}
use Rattle.sync_journal.specs.Stands.{disk_of}
use Rattle.sync_journal.specs.Records.{records_of}
use Rattle.sync_journal.specs.Records.Reading.{Good}
use Rattle.sync_disk.specs.declared.disk.Disk.{Ghosts}
use Rattle.sync_journal.specs.declared.opening.OpenCause.{OpenCause}
use Rattle.sync_journal.specs.declared.opening.OpenCause.TheVariants as causes
use Rattle.sync_client.specs.Files as client_files
use Rattle.sync_client.specs.declared.client.Client.{Client}
use Rattle.sync_server.specs.Files as server_files
use Rattle.sync_server.specs.declared.server.Server.{Server}
use Rattle.sync_host.specs.declared.reply.Reply.{Reply}
use Rattle.sync_host.specs.declared.reply.Reply.TheVariants as replies

module _ {D : Type 0} {G : Ghosts D} where
  -- the client of the records for which the bytes stand, and its disk holds them
  abbrev pub ClientOpens : List ℕ → Client D G → Type 0
  ClientOpens bytes c = client_files.Opened bytes c

  abbrev pub ServerOpens : List ℕ → Server D G → Type 0
  ServerOpens bytes s = server_files.Opened bytes s

  -- its disk began with these bytes, and each crash since leaves the records for which they stand
  pub record Begins (bytes : List ℕ) (journal : Journal D G) : Type 0 where
    pub start : (G.origin (disk_of journal)).start ≡ bytes
    pub any_moment : (file : List (List ℕ)) → records_of bytes ≡ Good file → (c : List ℕ) → G.images_since (disk_of journal) 0 c → records_of c ≡ Good file

abbrev pub Unopened : OpenCause → Reply → Type 0
Unopened causes.DiskFault reply = reply ≡ replies.Closed
Unopened (causes.BadFile place) reply = reply ≡ replies.BadFile place
Unopened causes.NoMemory reply = reply ≡ replies.NoMemory

-- an opening that gives no node tells the place of what is bad, or that memory ran out, and nothing else
abbrev pub IsUnopened : (ℕ → Type 0) → Reply → Type 0
IsUnopened Bad (replies.BadFile place) = Bad place
IsUnopened Bad replies.NoMemory = Unit {0}
IsUnopened Bad reply = ⊥
