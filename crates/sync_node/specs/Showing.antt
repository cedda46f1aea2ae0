-- What is shown of a node over a file.
use Rattle.std.specs.Prelude.{ℕ, Bool, true, false, if◌then◌else◌, List, [], ◌∷◌, Option, Some, Result, Ok, Err}
use Rattle.sync_journal.specs.Records.{Reading, records_of}
use Rattle.sync_journal.specs.Records.Reading.{Good, BadAt}
use Rattle.sync_model.specs.Clients.{ClientRecord}
use Rattle.sync_model.specs.Servers.{ServerRecord}
use Rattle.sync_exchange.specs.Seen.{read_client}
use Rattle.sync_node.specs.Opening.{client_file, client_in, server_file, server_in}
use Rattle.sync_node.specs.Sending.{text_of as client_text}
use Rattle.sync_node.specs.ServerTexts.{text_of as server_text}
use Rattle.sync_node.specs.declared.sending.Errand.TheVariants as errands
use Rattle.sync_node.specs.declared.server_text.ServerText.TheVariants as texts

-- ---- whose file it is
abbrev pub is_birth : Option ClientRecord → Bool
is_birth (Some (ClientRecord.Born id)) = true
is_birth other = false

-- the first record is a client's birth
abbrev pub starts_born : List (List ℕ) → Bool
starts_born [] = false
starts_born (r ∷ rs) = is_birth (read_client r)

abbrev pub is_client_in : Reading → Bool
is_client_in (Good file) = starts_born file
is_client_in (BadAt place) = false

-- a file that begins with a client's birth is a client's, and any other a server's
abbrev pub is_client_file : List ℕ → Bool
is_client_file bytes = is_client_in (records_of bytes)

-- ---- its records
pub data NodeRecords : Type 0 where
  OfClient : List ClientRecord → NodeRecords
  OfServer : List ServerRecord → NodeRecords

abbrev pub of_client : Result (List ClientRecord) ℕ → Result NodeRecords ℕ
of_client (Ok records) = Ok (OfClient records)
of_client (Err place) = Err place

abbrev pub of_server : Result (List ServerRecord) ℕ → Result NodeRecords ℕ
of_server (Ok records) = Ok (OfServer records)
of_server (Err place) = Err place

abbrev pub node_in : Reading → Result NodeRecords ℕ
node_in reading = if is_client_in reading then of_client (client_in reading) else of_server (server_in reading)

-- the records of a node's file, or the place at which the bytes are no journal of the node
abbrev pub node_file : List ℕ → Result NodeRecords ℕ
node_file bytes = node_in (records_of bytes)

-- the same, where it is known whose file it is
abbrev pub file_as : Bool → List ℕ → Result NodeRecords ℕ
file_as is_client bytes = if is_client then of_client (client_file bytes) else of_server (server_file bytes)

-- ---- the node's part of the report
abbrev pub client_shown : List ClientRecord → List ℕ
client_shown records = client_text errands.Report records

abbrev pub server_shown : List ServerRecord → List ℕ
server_shown records = server_text texts.Report records

abbrev pub shown : NodeRecords → List ℕ
shown (OfClient records) = client_shown records
shown (OfServer records) = server_shown records
