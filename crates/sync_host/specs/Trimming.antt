-- The files that a node makes: its own without what it needs no more, and a server one of a client that begins with its objects.
use Rattle.std.specs.Prelude.{◌≡◌, ℕ, List, ◌∷◌, map, Option, None, Some}
use Rattle.sync_data.specs.declared.instr.Instr.{Instr}
use Rattle.sync_base.specs.States.{State}
use Rattle.sync_exchange.specs.Profile.{the_profile}
use Rattle.sync_exchange.specs.Seen.{client_bytes, read_client, read_server, server_bytes}
use Rattle.shrink_law.specs.Short.{short_records}
use Rattle.sync_io.specs.Formats.{all_in, bytes_in}
use Rattle.sync_journal.specs.Files.{IsFile}
use Rattle.sync_model.specs.Clients.{ClientRecord, client_of}
use Rattle.sync_model.specs.Each.{Each}
use Rattle.sync_model.specs.Parts.{Parts}
use Rattle.sync_model.specs.Starts.{started}
use Rattle.sync_model.specs.Trimmed.{trim_records}
use Rattle.sync_host.specs.Replies.{reply_bytes}
use Rattle.sync_host.specs.declared.reply.Reply.{Reply}
use Rattle.sync_host.specs.declared.reply.Reply.TheVariants as replies

-- the bytes of a journal of these records, each of which is read back from its own
pub record TellsFile {R : Type 0} (bytes_of : R → List ℕ) (read : List ℕ → Option R) (records : List R) (reply : Reply) : Type 0 where
  pub file : List ℕ
  pub told : reply_bytes reply ≡ 0 ∷ file
  pub is_file : IsFile (map bytes_of records) file
  pub back : Each (λ r. read (bytes_of r) ≡ Some r) records

-- the file that may stand in place of a server's
abbrev pub TellsTrimmed : Parts Instr State → Reply → Type 0
TellsTrimmed kept reply = TellsFile server_bytes read_server (trim_records the_profile kept) reply

-- the uuid of a new client: sixteen bytes
abbrev pub id_in : List ℕ → Option (List ℕ)
id_in bytes = all_in (bytes_in 16) bytes

-- the file of a client that begins with the objects of a server
abbrev pub TellsStarted : Option (List ℕ) → Parts Instr State → Reply → Type 0
TellsStarted None kept reply = reply ≡ replies.BadRequest
TellsStarted (Some id) kept reply = TellsFile client_bytes read_client (started the_profile id kept.second kept.len kept.objects) reply

-- the short file that may stand in place of a client's
abbrev pub TellsShort : List ClientRecord → Reply → Type 0
TellsShort records reply = TellsFile client_bytes read_client (short_records the_profile (client_of the_profile records)) reply
