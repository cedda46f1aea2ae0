-- How messages are read.
use Rattle.std.specs.Prelude.{◌≡◌, ℕ, ◌+◌, ◌&&◌, Bool, List, [], ◌∷◌, length, nat_le, Option, None, Some, Result, Ok, Err}
use Rattle.sync_io.specs.Formats.{number_in, wide_in, bytes_in, body_in, both_in, only_in, seen_in, listed_in, all_in, tagged_in}
use Rattle.sync_subset.specs.Tables.{Tables}
use Rattle.subset_bytes.specs.Reading.{tables_in}
use Rattle.sync_messages.specs.declared.refusal.MessageRefusal.{MessageRefusal}
use Rattle.sync_messages.specs.declared.refusal.MessageRefusal.TheVariants as refusals
use Rattle.sync_messages.specs.declared.message.Message.{Message}
use Rattle.sync_messages.specs.declared.message.Message.TheVariants.{Bind, Ident, Upload, Ask, Download, Refused, Stored, Ask2, Retire, Retired, AskTables}
use Rattle.sync_messages.specs.Parts.{GivenParts, ChangeParts, UploadParts, AskParts, SentParts, DownloadParts, StoredParts, RetireParts, RetiredParts, AskTablesParts, most_listed, most_bytes, last_version, bytes_of_changes, bytes_of_entries}

-- What a function returned, seen by view, is what reading gives, unless memory ran out.
abbrev pub Fails : {Y : Type 0} → MessageRefusal → Option Y → Type 0
Fails refusals.NoMemory read = Unit {0}
Fails refusals.BadMessage read = read ≡ None

abbrev pub Gives : {X Y : Type 0} → (X → Y) → Result X MessageRefusal → Option Y → Type 0
Gives view (Ok x) read = read ≡ Some (view x)
Gives view (Err refusal) read = Fails refusal read

abbrev pub given_of : List ℕ × ℕ → GivenParts
given_of p = record { uuid = p.0; ident = p.1 }

abbrev pub is_given : GivenParts → Bool
is_given given = nat_le 1 given.ident

unfoldable pub given_in : List ℕ → Option (GivenParts × List ℕ)
given_in bytes = only_in is_given (seen_in given_of (both_in (bytes_in 16) number_in)) bytes

abbrev pub change_of : ((ℕ × ℕ) × ℕ) × List ℕ → ChangeParts
change_of p = record { number = p.0.0.0; base = p.0.0.1; ms = p.0.1; body = p.1 }

abbrev pub is_change : ChangeParts → Bool
is_change change = nat_le 1 change.number && nat_le (length change.body) most_bytes

unfoldable pub change_in : List ℕ → Option (ChangeParts × List ℕ)
change_in bytes = only_in is_change (seen_in change_of (both_in (both_in (both_in number_in number_in) wide_in) body_in)) bytes

abbrev pub upload_of : ℕ × List ChangeParts → UploadParts
upload_of p = record { ident = p.0; changes = p.1 }

abbrev pub is_upload : UploadParts → Bool
is_upload upload = nat_le 1 upload.ident && nat_le (bytes_of_changes upload.changes) most_bytes

unfoldable pub upload_in : List ℕ → Option (UploadParts × List ℕ)
upload_in bytes = only_in is_upload (seen_in upload_of (both_in number_in (listed_in most_listed change_in))) bytes

abbrev pub ask_of : (ℕ × ℕ) × ℕ → AskParts
ask_of p = record { ident = p.0.0; cursor = p.0.1; settled = p.1 }

abbrev pub is_ask : AskParts → Bool
is_ask ask = nat_le 1 ask.ident && nat_le ask.settled ask.cursor

unfoldable pub ask_in : List ℕ → Option (AskParts × List ℕ)
ask_in bytes = only_in is_ask (seen_in ask_of (both_in (both_in number_in number_in) number_in)) bytes

abbrev pub entry_of : ((ℕ × ℕ) × ℕ) × List ℕ → SentParts
entry_of p = record { origin = p.0.0.0; number = p.0.0.1; ms = p.0.1; body = p.1 }

abbrev pub is_entry : SentParts → Bool
is_entry entry = nat_le 1 entry.origin && (nat_le 1 entry.number && nat_le (length entry.body) most_bytes)

unfoldable pub entry_in : List ℕ → Option (SentParts × List ℕ)
entry_in bytes = only_in is_entry (seen_in entry_of (both_in (both_in (both_in number_in number_in) wide_in) body_in)) bytes

abbrev pub download_of : (ℕ × ℕ) × List SentParts → DownloadParts
download_of p = record { ident = p.0.0; from = p.0.1; entries = p.1 }

abbrev pub is_download : DownloadParts → Bool
is_download download = nat_le 1 download.ident && (nat_le (download.from + length download.entries) last_version && nat_le (bytes_of_entries download.entries) most_bytes)

unfoldable pub download_in : List ℕ → Option (DownloadParts × List ℕ)
download_in bytes = only_in is_download (seen_in download_of (both_in (both_in number_in number_in) (listed_in most_listed entry_in))) bytes

abbrev pub refused_of : ((ℕ × ℕ) × ℕ) × ℕ → Message
refused_of p = Refused p.0.0.0 p.0.0.1 p.0.1 p.1

unfoldable pub refused_in : List ℕ → Option ((((ℕ × ℕ) × ℕ) × ℕ) × List ℕ)
refused_in bytes = both_in (both_in (both_in number_in number_in) number_in) number_in bytes

abbrev pub stored_of : ℕ × ℕ → StoredParts
stored_of p = record { ident = p.0; number = p.1 }

abbrev pub is_stored : StoredParts → Bool
is_stored stored = nat_le 1 stored.ident

unfoldable pub stored_in : List ℕ → Option (StoredParts × List ℕ)
stored_in bytes = only_in is_stored (seen_in stored_of (both_in number_in number_in)) bytes

abbrev pub retire_of : ℕ × ℕ → RetireParts
retire_of p = record { ident = p.0; by = p.1 }

abbrev pub is_retire : RetireParts → Bool
is_retire retire = nat_le 1 retire.ident && nat_le 1 retire.by

unfoldable pub retire_in : List ℕ → Option (RetireParts × List ℕ)
retire_in bytes = only_in is_retire (seen_in retire_of (both_in number_in number_in)) bytes

abbrev pub retired_of : (ℕ × ℕ) × ℕ → RetiredParts
retired_of p = record { ident = p.0.0; by = p.0.1; number = p.1 }

abbrev pub is_retired : RetiredParts → Bool
is_retired retired = nat_le 1 retired.ident && nat_le 1 retired.by

unfoldable pub retired_in : List ℕ → Option (RetiredParts × List ℕ)
retired_in bytes = only_in is_retired (seen_in retired_of (both_in (both_in number_in number_in) number_in)) bytes

abbrev pub ask_tables_of : (AskParts × ℕ) × Tables → AskTablesParts
ask_tables_of p = record { ask = p.0.0; form = p.0.1; tables = p.1 }

abbrev pub is_ask_tables : AskTablesParts → Bool
is_ask_tables asked = nat_le 1 asked.form && nat_le asked.form 2

unfoldable pub ask_tables_in : List ℕ → Option (AskTablesParts × List ℕ)
ask_tables_in bytes = only_in is_ask_tables (seen_in ask_tables_of (both_in (both_in ask_in number_in) tables_in)) bytes

-- each tag, and how the fields behind it are read
abbrev pub forms : List (ℕ × (List ℕ → Option (Message × List ℕ)))
forms =
    (1, seen_in Bind (bytes_in 16))
    ∷ (2, seen_in Ident given_in)
    ∷ (3, seen_in Upload upload_in)
    ∷ (4, seen_in Ask ask_in)
    ∷ (5, seen_in Download download_in)
    ∷ (6, seen_in refused_of refused_in)
    ∷ (7, seen_in Stored stored_in)
    ∷ (8, seen_in Ask2 ask_in)
    ∷ (9, seen_in Retire retire_in)
    ∷ (10, seen_in Retired retired_in)
    ∷ (11, seen_in AskTables ask_tables_in)
    ∷ []

-- the fields behind a tag
unfoldable pub fields_in : ℕ → List ℕ → Option (Message × List ℕ)
fields_in tag bytes = tagged_in forms tag bytes

-- a tag and its fields
abbrev pub tag_and_fields_in : List ℕ → Option (Message × List ℕ)
tag_and_fields_in [] = None
tag_and_fields_in (tag ∷ bytes) = fields_in tag bytes

-- the message that all of the bytes spell
abbrev pub message_in : List ℕ → Option Message
message_in bytes = all_in tag_and_fields_in bytes
