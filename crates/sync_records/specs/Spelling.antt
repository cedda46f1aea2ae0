-- The one spelling of each record of a journal.
use Rattle.std.specs.Prelude.{ℕ, List, [], ◌∷◌, ◌++◌, bytes_eq, if◌then◌else◌}
use Rattle.sync_io.specs.Formats.{body as sized}
use Rattle.sync_io.specs.Varints.{varint}
use Rattle.subset_bytes.specs.Spelling.{tables_spelling}
use Rattle.sync_records.specs.declared.client.ClientRecord.{ClientRecord}
use Rattle.sync_records.specs.declared.client.ClientRecord.TheVariants as client
use Rattle.sync_records.specs.declared.server.ServerRecord.{ServerRecord}
use Rattle.sync_records.specs.declared.server.ServerRecord.TheVariants as server

-- a body as it was carried, which is left out where it is the same
abbrev pub left_out : List ℕ → List ℕ → List ℕ
left_out body current = if bytes_eq current body then [] else current

-- a tag, and the fields; a body is what is left of the record
abbrev pub client_spelling : ClientRecord → List ℕ
client_spelling (client.Born id) = 1 ∷ id
client_spelling (client.Named ident) = 2 ∷ varint ident
client_spelling (client.Made number ms body) = 3 ∷ (varint number ++ varint ms ++ body)
client_spelling (client.Took origin number ms body) = 4 ∷ (varint origin ++ varint number ++ varint ms ++ body)
client_spelling client.Form = 7 ∷ varint 2
client_spelling (client.Subset tables) = 9 ∷ tables_spelling tables
client_spelling (client.Part body) = 11 ∷ body
client_spelling (client.Floor version) = 12 ∷ varint version
client_spelling (client.Resumed number waiting) = 16 ∷ (varint number ++ varint waiting)
client_spelling (client.Waits number base ms body current) = 17 ∷ (varint number ++ varint base ++ varint ms ++ sized body ++ left_out body current)

abbrev pub server_spelling : ServerRecord → List ℕ
server_spelling (server.Client id) = 5 ∷ id
server_spelling (server.Entry origin number base ms body) = 6 ∷ (varint origin ++ varint number ++ varint base ++ varint ms ++ body)
server_spelling server.Form = 7 ∷ varint 2
server_spelling (server.Retired ident by) = 8 ∷ (varint ident ++ varint by)
server_spelling (server.Settled ident settled) = 10 ∷ (varint ident ++ varint settled)
server_spelling (server.Part body) = 11 ∷ body
server_spelling (server.Floor version) = 12 ∷ varint version
server_spelling (server.Count ident number base settled) = 13 ∷ (varint ident ++ varint number ++ varint base ++ varint settled)
server_spelling (server.Carried origin number base ms body) = 14 ∷ (varint origin ++ varint number ++ varint base ++ varint ms ++ body)
server_spelling (server.Past ident version ms body) = 15 ∷ (varint ident ++ varint version ++ varint ms ++ body)
