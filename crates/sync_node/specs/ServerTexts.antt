-- What is written of a server over a file.
use Rattle.std.specs.Prelude.{◌≡◌, ℕ, List, map, Some, Ok}
use Rattle.sync_data.specs.declared.instr.Instr.{Instr}
use Rattle.sync_base.specs.States.{State}
use Rattle.sync_journal.specs.Records.{file_of, records_of}
use Rattle.sync_journal.specs.Records.Reading.{Good}
use Rattle.sync_model.specs.Clients.{ClientRecord, client_of}
use Rattle.sync_model.specs.Bytes.{Uuid}
use Rattle.sync_model.specs.Fronts.{file_gives}
use Rattle.sync_model.specs.Parts.{Parts}
use Rattle.sync_model.specs.Servers.{ServerRecord}
use Rattle.sync_model.specs.Starts.{started, started_client}
use Rattle.sync_model.specs.Trimmed.{KeptBy, trim_records}
use Rattle.sync_exchange.specs.Profile.{the_profile}
use Rattle.sync_exchange.specs.Seen.{client_bytes, server_bytes}
use Rattle.sync_words.specs.Reports.{kept_text}
use Rattle.sync_node.specs.Opening.{client_file, server_file}
use Rattle.sync_node.specs.Steps.{kept_by}
use Rattle.sync_node.specs.declared.server_text.ServerText.{ServerText}
use Rattle.sync_node.specs.declared.server_text.ServerText.TheVariants as texts

-- the records of a client that begins with what a server of these parts has
abbrev pub started_by : Uuid → Parts Instr State → List ClientRecord
started_by id kept = started the_profile id kept.second kept.len kept.objects

abbrev pub text_of : ServerText → List ServerRecord → List ℕ
text_of texts.Report records = kept_text (kept_by records)
text_of texts.Trimmed records = file_of (map server_bytes (trim_records the_profile (kept_by records)))
text_of (texts.Started id) records = file_of (map client_bytes (started_by id (kept_by records)))

-- ---- what a new file stands for
-- the records of the file that may stand in place of the server's
abbrev pub trimmed_by : List ServerRecord → List ServerRecord
trimmed_by records = trim_records the_profile (kept_by records)

-- a server that began with an empty file wrote these records, and any trims of the file
pub record IsOwn (records : List ServerRecord) : Type 0 where
  pub gives : file_gives the_profile (map (λ r. Some r) records) ≡ Ok (kept_by records)
  pub kept : KeptBy the_profile (kept_by records)

-- The bytes of the trimmed file are a journal of its records. Where the server wrote its own file, they are a server's file, of
-- exactly these.
pub record StandsTrimmed (records : List ServerRecord) : Type 0 where
  pub reads : records_of (text_of texts.Trimmed records) ≡ Good (map server_bytes (trimmed_by records))
  pub opens : IsOwn records → server_file (text_of texts.Trimmed records) ≡ Ok (trimmed_by records)

-- The bytes of the new client's file are a journal of its records. Where the server wrote its own file, they are a client's file, of
-- exactly these; the client has the uuid, the server's objects, and the length of its history as its cursor.
pub record StandsStarted (id : Uuid) (records : List ServerRecord) : Type 0 where
  pub reads : records_of (text_of (texts.Started id) records) ≡ Good (map client_bytes (started_by id (kept_by records)))
  pub opens : IsOwn records → client_file (text_of (texts.Started id) records) ≡ Ok (started_by id (kept_by records))
  pub client : IsOwn records → client_of the_profile (started_by id (kept_by records)) ≡ started_client the_profile id (kept_by records).second (kept_by records).len (kept_by records).objects

abbrev pub StandsFor : ServerText → List ServerRecord → Type 0
StandsFor texts.Report records = Unit {0}
StandsFor texts.Trimmed records = StandsTrimmed records
StandsFor (texts.Started id) records = StandsStarted id records
