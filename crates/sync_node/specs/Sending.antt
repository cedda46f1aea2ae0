-- What a client over a file sends.
use Rattle.std.specs.Prelude.{◌≡◌, ◌==◌, ◌≤◌, ◌++◌, ℕ, true, if◌then◌else◌, List, [], codes, length, map, Result, Ok, Err}
use Rattle.sync_data.specs.declared.instr.Instr.{Instr}
use Rattle.sync_base.specs.States.{State}
use Rattle.sync_model.specs.Clients.{Client, ClientRecord, ClientRefusal, ClientStep, NotNamed, answers, ask, bind, client_of, no_client, refuse, upload, upload_from}
use Rattle.sync_model.specs.Each.{Each}
use Rattle.sync_model.specs.Files.{client_opens}
use Rattle.sync_model.specs.Messages.{Message, Retire}
use Rattle.sync_exchange.specs.Profile.{the_profile}
use Rattle.sync_exchange.specs.Seen.{client_bytes}
use Rattle.sync_journal.specs.Records.{file_of, records_of}
use Rattle.sync_journal.specs.Records.Reading.{Good}
use Rattle.shrink_law.specs.Short.{Alike, IsPlain, short_records}
use Rattle.sync_words.specs.Reports.{standing_text}
use Rattle.sync_node.specs.Frames.{frame}
use Rattle.sync_node.specs.Opening.{client_file}
use Rattle.sync_node.specs.declared.sending.Errand.{Errand}
use Rattle.sync_node.specs.declared.sending.Errand.TheVariants as errands

-- a client without an ident asks for one, and any other uploads what is unsent
abbrev pub send : Client Instr State → ClientStep Message
send c = if c.ident == 0 then bind c else upload the_profile c

-- a client with an ident gives another one up, whose changes it takes over
abbrev pub retire : ℕ → Client Instr State → ClientStep Message
retire ident c = if c.ident == 0 then refuse NotNamed else answers (Retire ident c.ident)

-- idents are counted from 1
abbrev pub IsErrand : Errand → Type 0
IsErrand (errands.Retire ident) = 1 ≤ ident
IsErrand errand = Unit {0}

-- the frame of a message; of one that the client refuses to make, nothing
abbrev pub frames_of : Result Message ClientRefusal → List ℕ
frames_of (Ok message) = frame message
frames_of (Err why) = []

-- what a client of these records says by a step
abbrev pub said_by : (Client Instr State → ClientStep Message) → List ClientRecord → List ℕ
said_by step records = frames_of (step (client_of the_profile records)).answer

-- its part of the report
abbrev pub report_of : List ClientRecord → List ℕ
report_of records = codes "client" ++ standing_text (client_of the_profile records).ident (client_of the_profile records).cursor (length (client_of the_profile records).unsent) (client_of the_profile records).objects

-- the records of the short file that may stand in place of the client's
abbrev pub shrunk_by : List ClientRecord → List ClientRecord
shrunk_by records = short_records the_profile (client_of the_profile records)

-- what a client of these records writes
abbrev pub text_of : Errand → List ClientRecord → List ℕ
text_of errands.Report records = report_of records
text_of errands.Send records = said_by send records
text_of errands.Ask records = said_by ask records
text_of (errands.Retire ident) records = said_by (retire ident) records
text_of (errands.Rescue after) records = said_by (λ c. upload_from the_profile c after) records
text_of errands.Shrink records = file_of (map client_bytes (shrunk_by records))

-- ---- what a new file stands for
-- The bytes of the short file are a journal of its records, and a client's file of exactly these; so are they with whatever the client appends to it, where
-- the whole file is one with that. All that a call reads of its client is as it is of the client of the whole file (`Alike`).
pub record StandsShrunk (records : List ClientRecord) : Type 0 where
  pub reads : records_of (text_of errands.Shrink records) ≡ Good (map client_bytes (shrunk_by records))
  pub opens : client_file (text_of errands.Shrink records) ≡ Ok (shrunk_by records)
  pub behind : (more : List ClientRecord) → Each IsPlain more → client_opens the_profile (no_client the_profile) (records ++ more) ≡ true → client_opens the_profile (no_client the_profile) (shrunk_by records ++ more) ≡ true
  pub client : Alike (client_of the_profile records) (client_of the_profile (shrunk_by records))

abbrev pub StandsFor : Errand → List ClientRecord → Type 0
StandsFor errands.Shrink records = StandsShrunk records
StandsFor errand records = Unit {0}
