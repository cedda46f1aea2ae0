-- What fits its form keeps the limits, and each of its numbers fits its type.
use Rattle.std.proofs.Common.{◌≡◌, ◌+◌, Bool, true, false, leb, leb-true, List, [], ◌∷◌, length}
use Rattle.std.specs.Prelude.{◌&&◌}
use Rattle.std.specs.List.{AllByRecursion}
use Rattle.std.proofs.lemmas.List.Elements.{All-from_recursion}
use Rattle.subset_bytes.specs.Laws.{tables_whole}
use Rattle.sync_messages.specs.declared.message.Message.{Message}
use Rattle.sync_messages.specs.declared.message.Message.TheVariants.{Bind, Ident, Upload, Ask, Download, Refused, Stored, Ask2, Retire, Retired, AskTables}
use Rattle.sync_messages.specs.Parts.{GivenParts, ChangeParts, UploadParts, AskParts, SentParts, DownloadParts, StoredParts, RetireParts, RetiredParts, AskTablesParts, most_bytes, last_version, bytes_of_changes, bytes_of_entries}
use Rattle.sync_messages.specs.Whole.{IsMessage, IsWholeGiven, IsWholeChange, IsWholeUpload, IsWholeAsk, IsWholeEntry, IsWholeDownload, IsWholeStored, IsWholeRetire, IsWholeRetired, IsWholeAskTables}
use Rattle.sync_messages.proofs.Formats.{FitsGiven, FitsChange, FitsUpload, FitsAsk, FitsEntry, FitsDownload, FitsStored, FitsRetire, FitsRetired, FitsAskTables}
use Rattle.sync_messages.proofs.Messages.{FitsMessage}

left_true : (a b : Bool) → (a && b) ≡ true → a ≡ true
left_true true b e = cc
left_true false b e = absurd cc

right_true : (a b : Bool) → (a && b) ≡ true → b ≡ true
right_true true b e = e
right_true false b e = absurd cc

given_whole : (given : GivenParts) → FitsGiven given → IsWholeGiven given
given_whole given f = (record { named = leb-true 1 given.ident f.1 }, f.0.0, f.0.1)

change_whole : (change : ChangeParts) → FitsChange change → IsWholeChange change
change_whole change f = (
  record {
    numbered = leb-true 1 change.number (left_true (leb 1 change.number) (leb (length change.body) most_bytes) f.1);
    small = leb-true (length change.body) most_bytes (right_true (leb 1 change.number) (leb (length change.body) most_bytes) f.1);
  },
  f.0.0.0.0,
  f.0.0.0.1,
  f.0.0.1,
)

changes_whole : (changes : List ChangeParts) → AllByRecursion FitsChange changes → AllByRecursion IsWholeChange changes
changes_whole [] all = tt
changes_whole (change ∷ changes) all = (change_whole change all.0, changes_whole changes all.1)

upload_whole : (upload : UploadParts) → FitsUpload upload → IsWholeUpload upload
upload_whole upload f = (
  record {
    named = leb-true 1 upload.ident (left_true (leb 1 upload.ident) (leb (bytes_of_changes upload.changes) most_bytes) f.1);
    few = f.0.1.1;
    small = leb-true (bytes_of_changes upload.changes) most_bytes (right_true (leb 1 upload.ident) (leb (bytes_of_changes upload.changes) most_bytes) f.1);
  },
  f.0.0,
  All-from_recursion IsWholeChange upload.changes (changes_whole upload.changes f.0.1.2),
)

ask_whole : (ask : AskParts) → FitsAsk ask → IsWholeAsk ask
ask_whole ask f = (
  record {
    named = leb-true 1 ask.ident (left_true (leb 1 ask.ident) (leb ask.settled ask.cursor) f.1);
    settled = leb-true ask.settled ask.cursor (right_true (leb 1 ask.ident) (leb ask.settled ask.cursor) f.1);
  },
  f.0.0.0,
  f.0.0.1,
)

entry_whole : (entry : SentParts) → FitsEntry entry → IsWholeEntry entry
entry_whole entry f =
    let rest = right_true (leb 1 entry.origin) (leb 1 entry.number && leb (length entry.body) most_bytes) f.1 in (
      record {
        made_by = leb-true 1 entry.origin (left_true (leb 1 entry.origin) (leb 1 entry.number && leb (length entry.body) most_bytes) f.1);
        numbered = leb-true 1 entry.number (left_true (leb 1 entry.number) (leb (length entry.body) most_bytes) rest);
        small = leb-true (length entry.body) most_bytes (right_true (leb 1 entry.number) (leb (length entry.body) most_bytes) rest);
      },
      f.0.0.0.0,
      f.0.0.0.1,
      f.0.0.1,
    )

entries_whole : (entries : List SentParts) → AllByRecursion FitsEntry entries → AllByRecursion IsWholeEntry entries
entries_whole [] all = tt
entries_whole (entry ∷ entries) all = (entry_whole entry all.0, entries_whole entries all.1)

download_whole : (download : DownloadParts) → FitsDownload download → IsWholeDownload download
download_whole download f =
    let rest = right_true (leb 1 download.ident) (leb (download.from + length download.entries) last_version && leb (bytes_of_entries download.entries) most_bytes) f.1 in (
      record {
        named = leb-true 1 download.ident (left_true (leb 1 download.ident) (leb (download.from + length download.entries) last_version && leb (bytes_of_entries download.entries) most_bytes) f.1);
        few = f.0.1.1;
        small = leb-true (bytes_of_entries download.entries) most_bytes (right_true (leb (download.from + length download.entries) last_version) (leb (bytes_of_entries download.entries) most_bytes) rest);
        within = leb-true (download.from + length download.entries) last_version (left_true (leb (download.from + length download.entries) last_version) (leb (bytes_of_entries download.entries) most_bytes) rest);
      },
      f.0.0.0,
      All-from_recursion IsWholeEntry download.entries (entries_whole download.entries f.0.1.2),
    )

stored_whole : (stored : StoredParts) → FitsStored stored → IsWholeStored stored
stored_whole stored f = (record { named = leb-true 1 stored.ident f.1 }, f.0.0, f.0.1)

retire_whole : (retire : RetireParts) → FitsRetire retire → IsWholeRetire retire
retire_whole retire f = (
  record {
    named = leb-true 1 retire.ident (left_true (leb 1 retire.ident) (leb 1 retire.by) f.1);
    by_named = leb-true 1 retire.by (right_true (leb 1 retire.ident) (leb 1 retire.by) f.1);
  },
  f.0.0,
  f.0.1,
)

retired_whole : (retired : RetiredParts) → FitsRetired retired → IsWholeRetired retired
retired_whole retired f = (
  record {
    named = leb-true 1 retired.ident (left_true (leb 1 retired.ident) (leb 1 retired.by) f.1);
    by_named = leb-true 1 retired.by (right_true (leb 1 retired.ident) (leb 1 retired.by) f.1);
  },
  f.0.0.0,
  f.0.0.1,
  f.0.1,
)

ask_tables_whole : (asked : AskTablesParts) → FitsAskTables asked → IsWholeAskTables asked
ask_tables_whole asked f = (
  record {
    first = leb-true 1 asked.form (left_true (leb 1 asked.form) (leb asked.form 2) f.1);
    second = leb-true asked.form 2 (right_true (leb 1 asked.form) (leb asked.form 2) f.1);
  },
  ask_whole asked.ask f.0.0.0,
  tables_whole asked.tables f.0.1,
)

pub message_whole : (message : Message) → FitsMessage message → IsMessage message
message_whole (Bind uuid) f = f
message_whole (Ident given) f = given_whole given f
message_whole (Upload upload) f = upload_whole upload f
message_whole (Ask ask) f = ask_whole ask f
message_whole (Download download) f = download_whole download f
message_whole (Refused ident number code place) f = (f.0.0.0, f.0.0.1, f.0.1, f.1)
message_whole (Stored stored) f = stored_whole stored f
message_whole (Ask2 ask) f = ask_whole ask f
message_whole (Retire retire) f = retire_whole retire f
message_whole (Retired retired) f = retired_whole retired f
message_whole (AskTables asked) f = ask_tables_whole asked f
