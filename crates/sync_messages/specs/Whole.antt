-- Which values are messages: they keep the limits, and each number fits its type.
use Rattle.std.specs.Prelude.{◌≡◌, ◌<◌, ◌^◌, length, All}
use Rattle.subset_bytes.specs.Spelling.{AreTables}
use Rattle.sync_messages.specs.Parts.{GivenParts, ChangeParts, UploadParts, AskParts, SentParts, DownloadParts, StoredParts, RetireParts, RetiredParts, AskTablesParts, IsGiven, IsChange, IsUpload, IsAsk, IsSent, IsDownload, IsStored, IsRetire, IsRetired, IsAskTables}
use Rattle.sync_messages.specs.declared.message.Message.{Message}
use Rattle.sync_messages.specs.declared.message.Message.TheVariants.{Bind, Ident, Upload, Ask, Download, Refused, Stored, Ask2, Retire, Retired, AskTables}

abbrev pub IsWholeChange : ChangeParts → Type 0
IsWholeChange change = IsChange change × (change.number < 2 ^ 32) × (change.base < 2 ^ 32) × (change.ms < 2 ^ 64)

abbrev pub IsWholeEntry : SentParts → Type 0
IsWholeEntry entry = IsSent entry × (entry.origin < 2 ^ 32) × (entry.number < 2 ^ 32) × (entry.ms < 2 ^ 64)

abbrev pub IsWholeGiven : GivenParts → Type 0
IsWholeGiven given = IsGiven given × (length given.uuid ≡ 16) × (given.ident < 2 ^ 32)

abbrev pub IsWholeUpload : UploadParts → Type 0
IsWholeUpload upload = IsUpload upload × (upload.ident < 2 ^ 32) × All IsWholeChange upload.changes

abbrev pub IsWholeAsk : AskParts → Type 0
IsWholeAsk ask = IsAsk ask × (ask.ident < 2 ^ 32) × (ask.cursor < 2 ^ 32)

abbrev pub IsWholeDownload : DownloadParts → Type 0
IsWholeDownload download = IsDownload download × (download.ident < 2 ^ 32) × All IsWholeEntry download.entries

abbrev pub IsWholeStored : StoredParts → Type 0
IsWholeStored stored = IsStored stored × (stored.ident < 2 ^ 32) × (stored.number < 2 ^ 32)

abbrev pub IsWholeRetire : RetireParts → Type 0
IsWholeRetire retire = IsRetire retire × (retire.ident < 2 ^ 32) × (retire.by < 2 ^ 32)

abbrev pub IsWholeRetired : RetiredParts → Type 0
IsWholeRetired retired = IsRetired retired × (retired.ident < 2 ^ 32) × (retired.by < 2 ^ 32) × (retired.number < 2 ^ 32)

abbrev pub IsWholeAskTables : AskTablesParts → Type 0
IsWholeAskTables asked = IsAskTables asked × IsWholeAsk asked.ask × AreTables asked.tables

abbrev pub IsMessage : Message → Type 0
IsMessage (Bind uuid) = length uuid ≡ 16
IsMessage (Ident given) = IsWholeGiven given
IsMessage (Upload upload) = IsWholeUpload upload
IsMessage (Ask ask) = IsWholeAsk ask
IsMessage (Download download) = IsWholeDownload download
IsMessage (Refused ident number code place) = (ident < 2 ^ 32) × (number < 2 ^ 32) × (code < 2 ^ 32) × (place < 2 ^ 32)
IsMessage (Stored stored) = IsWholeStored stored
IsMessage (Ask2 ask) = IsWholeAsk ask
IsMessage (Retire retire) = IsWholeRetire retire
IsMessage (Retired retired) = IsWholeRetired retired
IsMessage (AskTables asked) = IsWholeAskTables asked
