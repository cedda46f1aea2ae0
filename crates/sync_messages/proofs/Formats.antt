-- Each part of a message is spelled and read again.
use Rattle.std.proofs.Common.{All, ◌≡◌, ◌+◌, ◌<◌, ◌≤◌, ◌^◌, Bool, true, false, List, [], ◌∷◌, length, refl, arith, leb}
use Rattle.std.specs.Prelude.{◌&&◌}
use Rattle.std.specs.List.{AllByRecursion}
use Rattle.std.proofs.lemmas.List.Elements.{recursion_from_All}
use Rattle.std.proofs.lemmas.Bool.{le-leb}
use Rattle.sync_io.specs.FormatLaws.{IsFormat, number_is, wide_is, bytes_is, body_is, both_is, only_is, seen_is, listed_is}
use Rattle.subset_bytes.specs.Spelling.{AreTables}
use Rattle.subset_bytes.specs.Laws.{FitsTables, tables_are, tables_fit}
use Rattle.sync_messages.specs.Parts.{GivenParts, ChangeParts, UploadParts, AskParts, SentParts, DownloadParts, StoredParts, RetireParts, RetiredParts, AskTablesParts, IsGiven, IsUpload, IsAsk, IsDownload, IsStored, IsRetire, IsRetired, IsAskTables, most_listed, most_bytes, last_version, bytes_of_changes, bytes_of_entries}
use Rattle.sync_messages.specs.Spelling.{given_spelling, change_spelling, upload_spelling, ask_spelling, entry_spelling, download_spelling, stored_spelling, retire_spelling, retired_spelling, ask_tables_spelling}
use Rattle.sync_messages.specs.Reading.{given_of, is_given, given_in, change_of, is_change, change_in, upload_of, is_upload, upload_in, ask_of, is_ask, ask_in, entry_of, is_entry, entry_in, download_of, is_download, download_in, stored_of, is_stored, stored_in, retire_of, is_retire, retire_in, retired_of, is_retired, retired_in, ask_tables_of, is_ask_tables, ask_tables_in}
use Rattle.sync_messages.specs.Whole.{IsWholeChange, IsWholeEntry, IsWholeAsk}

abbrev pub FitsGiven : GivenParts → Type 0
FitsGiven given = ((length given.uuid ≡ 16) × (given.ident < 2 ^ 32)) × (is_given given ≡ true)

pub given_is : IsFormat given_spelling given_in FitsGiven
unfolding given_in
given_is = only_is (seen_is (both_is (bytes_is 16) number_is) given_of (λ given. (given.uuid, given.ident)) (λ x. refl) (λ y. refl)) is_given

abbrev pub FitsChange : ChangeParts → Type 0
FitsChange change = ((((change.number < 2 ^ 32) × (change.base < 2 ^ 32)) × (change.ms < 2 ^ 64)) × (length change.body < 2 ^ 32)) × (is_change change ≡ true)

pub change_is : IsFormat change_spelling change_in FitsChange
unfolding change_in
change_is = only_is (seen_is (both_is (both_is (both_is number_is number_is) wide_is) body_is) change_of (λ change. (((change.number, change.base), change.ms), change.body)) (λ x. refl) (λ y. refl)) is_change

abbrev pub FitsUpload : UploadParts → Type 0
FitsUpload upload = ((upload.ident < 2 ^ 32) × ((length upload.changes < 2 ^ 32) × (length upload.changes ≤ most_listed) × AllByRecursion FitsChange upload.changes)) × (is_upload upload ≡ true)

pub upload_is : IsFormat upload_spelling upload_in FitsUpload
unfolding upload_in
upload_is = only_is (seen_is (both_is number_is (listed_is change_is most_listed)) upload_of (λ upload. (upload.ident, upload.changes)) (λ x. refl) (λ y. refl)) is_upload

abbrev pub FitsAsk : AskParts → Type 0
FitsAsk ask = (((ask.ident < 2 ^ 32) × (ask.cursor < 2 ^ 32)) × (ask.settled < 2 ^ 32)) × (is_ask ask ≡ true)

pub ask_is : IsFormat ask_spelling ask_in FitsAsk
unfolding ask_in
ask_is = only_is (seen_is (both_is (both_is number_is number_is) number_is) ask_of (λ ask. ((ask.ident, ask.cursor), ask.settled)) (λ x. refl) (λ y. refl)) is_ask

abbrev pub FitsEntry : SentParts → Type 0
FitsEntry entry = ((((entry.origin < 2 ^ 32) × (entry.number < 2 ^ 32)) × (entry.ms < 2 ^ 64)) × (length entry.body < 2 ^ 32)) × (is_entry entry ≡ true)

pub entry_is : IsFormat entry_spelling entry_in FitsEntry
unfolding entry_in
entry_is = only_is (seen_is (both_is (both_is (both_is number_is number_is) wide_is) body_is) entry_of (λ entry. (((entry.origin, entry.number), entry.ms), entry.body)) (λ x. refl) (λ y. refl)) is_entry

abbrev pub FitsDownload : DownloadParts → Type 0
FitsDownload download = (((download.ident < 2 ^ 32) × (download.from < 2 ^ 32)) × ((length download.entries < 2 ^ 32) × (length download.entries ≤ most_listed) × AllByRecursion FitsEntry download.entries)) × (is_download download ≡ true)

pub download_is : IsFormat download_spelling download_in FitsDownload
unfolding download_in
download_is = only_is (seen_is (both_is (both_is number_is number_is) (listed_is entry_is most_listed)) download_of (λ download. ((download.ident, download.from), download.entries)) (λ x. refl) (λ y. refl)) is_download

abbrev pub FitsStored : StoredParts → Type 0
FitsStored stored = ((stored.ident < 2 ^ 32) × (stored.number < 2 ^ 32)) × (is_stored stored ≡ true)

pub stored_is : IsFormat stored_spelling stored_in FitsStored
unfolding stored_in
stored_is = only_is (seen_is (both_is number_is number_is) stored_of (λ stored. (stored.ident, stored.number)) (λ x. refl) (λ y. refl)) is_stored

abbrev pub FitsRetire : RetireParts → Type 0
FitsRetire retire = ((retire.ident < 2 ^ 32) × (retire.by < 2 ^ 32)) × (is_retire retire ≡ true)

pub retire_is : IsFormat retire_spelling retire_in FitsRetire
unfolding retire_in
retire_is = only_is (seen_is (both_is number_is number_is) retire_of (λ retire. (retire.ident, retire.by)) (λ x. refl) (λ y. refl)) is_retire

abbrev pub FitsRetired : RetiredParts → Type 0
FitsRetired retired = (((retired.ident < 2 ^ 32) × (retired.by < 2 ^ 32)) × (retired.number < 2 ^ 32)) × (is_retired retired ≡ true)

pub retired_is : IsFormat retired_spelling retired_in FitsRetired
unfolding retired_in
retired_is = only_is (seen_is (both_is (both_is number_is number_is) number_is) retired_of (λ retired. ((retired.ident, retired.by), retired.number)) (λ x. refl) (λ y. refl)) is_retired

abbrev pub FitsAskTables : AskTablesParts → Type 0
FitsAskTables asked = ((FitsAsk asked.ask × (asked.form < 2 ^ 32)) × FitsTables asked.tables) × (is_ask_tables asked ≡ true)

pub ask_tables_is : IsFormat ask_tables_spelling ask_tables_in FitsAskTables
unfolding ask_tables_in
ask_tables_is = only_is (seen_is (both_is (both_is ask_is number_is) tables_are) ask_tables_of (λ asked. ((asked.ask, asked.form), asked.tables)) (λ x. refl) (λ y. refl)) is_ask_tables

-- ---- what keeps the limits fits

both_true : (a b : Bool) → a ≡ true → b ≡ true → a && b ≡ true
both_true true b e f = f
both_true false b e f = absurd cc

pub given_fits : (given : GivenParts) → IsGiven given → length given.uuid ≡ 16 → given.ident < 2 ^ 32 → FitsGiven given
given_fits given is uuid ident = ((uuid, ident), le-leb 1 given.ident is.named)

pub change_fits : (change : ChangeParts) → IsWholeChange change → FitsChange change
change_fits change is =
    let numbered : 1 ≤ change.number = is.0.numbered in
    let small : length change.body ≤ most_bytes = is.0.small in
    ((((is.1, is.2), is.3), omega arith), both_true (leb 1 change.number) (leb (length change.body) most_bytes) (le-leb _ _ numbered) (le-leb _ _ small))

changes_fit : (changes : List ChangeParts) → AllByRecursion IsWholeChange changes → AllByRecursion FitsChange changes
changes_fit [] all = tt
changes_fit (change ∷ changes) all = (change_fits change all.0, changes_fit changes all.1)

pub upload_fits : (upload : UploadParts) → IsUpload upload → upload.ident < 2 ^ 32 → All IsWholeChange upload.changes → FitsUpload upload
upload_fits upload is ident all =
    let named : 1 ≤ upload.ident = is.named in
    let few : length upload.changes ≤ most_listed = is.few in
    ((ident, (omega arith, few, changes_fit upload.changes (recursion_from_All IsWholeChange upload.changes all))), both_true (leb 1 upload.ident) (leb (bytes_of_changes upload.changes) most_bytes) (le-leb _ _ named) (le-leb _ _ is.small))

pub ask_fits : (ask : AskParts) → IsAsk ask → ask.ident < 2 ^ 32 → ask.cursor < 2 ^ 32 → FitsAsk ask
ask_fits ask is ident cursor =
    let settled : ask.settled ≤ ask.cursor = is.settled in
    (((ident, cursor), omega arith), both_true (leb 1 ask.ident) (leb ask.settled ask.cursor) (le-leb _ _ is.named) (le-leb _ _ settled))

pub entry_fits : (entry : SentParts) → IsWholeEntry entry → FitsEntry entry
entry_fits entry is =
    let small : length entry.body ≤ most_bytes = is.0.small in
    ((((is.1, is.2), is.3), omega arith), both_true (leb 1 entry.origin) (leb 1 entry.number && leb (length entry.body) most_bytes) (le-leb _ _ is.0.made_by) (both_true (leb 1 entry.number) (leb (length entry.body) most_bytes) (le-leb _ _ is.0.numbered) (le-leb _ _ small)))

entries_fit : (entries : List SentParts) → AllByRecursion IsWholeEntry entries → AllByRecursion FitsEntry entries
entries_fit [] all = tt
entries_fit (entry ∷ entries) all = (entry_fits entry all.0, entries_fit entries all.1)

pub download_fits : (download : DownloadParts) → IsDownload download → download.ident < 2 ^ 32 → All IsWholeEntry download.entries → FitsDownload download
download_fits download is ident all =
    let few : length download.entries ≤ most_listed = is.few in
    let within : download.from + length download.entries ≤ last_version = is.within in
    (((ident, omega arith), (omega arith, few, entries_fit download.entries (recursion_from_All IsWholeEntry download.entries all))), both_true (leb 1 download.ident) (leb (download.from + length download.entries) last_version && leb (bytes_of_entries download.entries) most_bytes) (le-leb _ _ is.named) (both_true (leb (download.from + length download.entries) last_version) (leb (bytes_of_entries download.entries) most_bytes) (le-leb _ _ within) (le-leb _ _ is.small)))

pub stored_fits : (stored : StoredParts) → IsStored stored → stored.ident < 2 ^ 32 → stored.number < 2 ^ 32 → FitsStored stored
stored_fits stored is ident number = ((ident, number), le-leb 1 stored.ident is.named)

pub retire_fits : (retire : RetireParts) → IsRetire retire → retire.ident < 2 ^ 32 → retire.by < 2 ^ 32 → FitsRetire retire
retire_fits retire is ident by = ((ident, by), both_true (leb 1 retire.ident) (leb 1 retire.by) (le-leb _ _ is.named) (le-leb _ _ is.by_named))

pub retired_fits : (retired : RetiredParts) → IsRetired retired → retired.ident < 2 ^ 32 → retired.by < 2 ^ 32 → retired.number < 2 ^ 32 → FitsRetired retired
retired_fits retired is ident by number = (((ident, by), number), both_true (leb 1 retired.ident) (leb 1 retired.by) (le-leb _ _ is.named) (le-leb _ _ is.by_named))

pub ask_tables_fits : (asked : AskTablesParts) → IsAskTables asked → IsWholeAsk asked.ask → AreTables asked.tables → FitsAskTables asked
ask_tables_fits asked is ask tables =
    let second : asked.form ≤ 2 = is.second in
    (((ask_fits asked.ask ask.0 ask.1 ask.2, omega arith), tables_fit asked.tables tables), both_true (leb 1 asked.form) (leb asked.form 2) (le-leb _ _ is.first) (le-leb _ _ second))
