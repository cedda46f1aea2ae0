-- The one spelling of each message.
use Rattle.std.specs.Prelude.{ℕ, List, ◌∷◌, ◌++◌}
use Rattle.sync_io.specs.Varints.{varint}
use Rattle.sync_io.specs.Formats.{body, listed}
use Rattle.subset_bytes.specs.Spelling.{tables_spelling}
use Rattle.sync_messages.specs.Parts.{GivenParts, ChangeParts, UploadParts, AskParts, SentParts, DownloadParts, StoredParts, RetireParts, RetiredParts, AskTablesParts}
use Rattle.sync_messages.specs.declared.message.Message.{Message}
use Rattle.sync_messages.specs.declared.message.Message.TheVariants.{Bind, Ident, Upload, Ask, Download, Refused, Stored, Ask2, Retire, Retired, AskTables}

abbrev pub given_spelling : GivenParts → List ℕ
given_spelling given = given.uuid ++ varint given.ident

abbrev pub change_spelling : ChangeParts → List ℕ
change_spelling change = varint change.number ++ varint change.base ++ varint change.ms ++ body change.body

abbrev pub upload_spelling : UploadParts → List ℕ
upload_spelling upload = varint upload.ident ++ listed change_spelling upload.changes

abbrev pub ask_spelling : AskParts → List ℕ
ask_spelling ask = varint ask.ident ++ varint ask.cursor ++ varint ask.settled

abbrev pub entry_spelling : SentParts → List ℕ
entry_spelling entry = varint entry.origin ++ varint entry.number ++ varint entry.ms ++ body entry.body

abbrev pub download_spelling : DownloadParts → List ℕ
download_spelling download = varint download.ident ++ varint download.from ++ listed entry_spelling download.entries

abbrev pub stored_spelling : StoredParts → List ℕ
stored_spelling stored = varint stored.ident ++ varint stored.number

abbrev pub retire_spelling : RetireParts → List ℕ
retire_spelling retire = varint retire.ident ++ varint retire.by

abbrev pub retired_spelling : RetiredParts → List ℕ
retired_spelling retired = varint retired.ident ++ varint retired.by ++ varint retired.number

abbrev pub ask_tables_spelling : AskTablesParts → List ℕ
ask_tables_spelling asked = ask_spelling asked.ask ++ varint asked.form ++ tables_spelling asked.tables

-- a tag, and the fields
abbrev pub message_spelling : Message → List ℕ
message_spelling (Bind uuid) = 1 ∷ uuid
message_spelling (Ident given) = 2 ∷ given_spelling given
message_spelling (Upload upload) = 3 ∷ upload_spelling upload
message_spelling (Ask ask) = 4 ∷ ask_spelling ask
message_spelling (Download download) = 5 ∷ download_spelling download
message_spelling (Refused ident number code place) = 6 ∷ (varint ident ++ varint number ++ varint code ++ varint place)
message_spelling (Stored stored) = 7 ∷ stored_spelling stored
message_spelling (Ask2 ask) = 8 ∷ ask_spelling ask
message_spelling (Retire retire) = 9 ∷ retire_spelling retire
message_spelling (Retired retired) = 10 ∷ retired_spelling retired
message_spelling (AskTables asked) = 11 ∷ ask_tables_spelling asked

-- the first byte of it, and what follows
abbrev pub message_tag : Message → ℕ
message_tag (Bind uuid) = 1
message_tag (Ident given) = 2
message_tag (Upload upload) = 3
message_tag (Ask ask) = 4
message_tag (Download download) = 5
message_tag (Refused ident number code place) = 6
message_tag (Stored stored) = 7
message_tag (Ask2 ask) = 8
message_tag (Retire retire) = 9
message_tag (Retired retired) = 10
message_tag (AskTables asked) = 11

abbrev pub fields_spelling : Message → List ℕ
fields_spelling (Bind uuid) = uuid
fields_spelling (Ident given) = given_spelling given
fields_spelling (Upload upload) = upload_spelling upload
fields_spelling (Ask ask) = ask_spelling ask
fields_spelling (Download download) = download_spelling download
fields_spelling (Refused ident number code place) = varint ident ++ varint number ++ varint code ++ varint place
fields_spelling (Stored stored) = stored_spelling stored
fields_spelling (Ask2 ask) = ask_spelling ask
fields_spelling (Retire retire) = retire_spelling retire
fields_spelling (Retired retired) = retired_spelling retired
fields_spelling (AskTables asked) = ask_tables_spelling asked
