-- How long a message is, and the messages of the code as those of the model and back.
use Rattle.std.proofs.Common.{◌≡◌, ℕ, zero, suc, ◌+◌, ◌*◌, ◌/◌, ◌^◌, ◌<◌, ◌≤◌, ◌==◌, if◌then◌else◌, List, [], ◌∷◌, ◌++◌, length, map, refl, ap, arith, inl, inr, length-append}
use Rattle.std.specs.List.{AllByRecursion, sum_by, flat_map}
use Rattle.std.proofs.Math.Nat.{pow-succ'}
use Rattle.std.proofs.lemmas.Bool.{cases_lt}
use Rattle.std.proofs.lemmas.List.Elements.{recursion_from_All}
use Rattle.std.proofs.lemmas.List.Concat.{length-flat_map}
use Rattle.std.proofs.lemmas.List.Sums.{sum_by-cons}
use Rattle.sync_io.specs.Framing.{max_frame}
use Rattle.sync_io.specs.Formats.{body}
use Rattle.sync_io.specs.Varints.{varint}
use Rattle.sync_io.specs.VarintLaws.{varint_small, varint_large}
use Rattle.subset_bytes.specs.Spelling.{IsTableName, tables_spelling}
use Rattle.sync_messages.specs.Parts.{AskParts, ChangeParts, SentParts}
use Rattle.sync_messages.specs.Spelling.{ask_spelling, change_spelling, ask_tables_spelling, download_spelling, entry_spelling, given_spelling, message_spelling, retire_spelling, retired_spelling, stored_spelling, upload_spelling}
use Rattle.sync_messages.specs.Whole.{IsMessage, IsWholeAsk, IsWholeChange, IsWholeEntry}
use Rattle.sync_messages.specs.declared.message.Message.{Message as CodeMessage}
use Rattle.sync_messages.specs.declared.message.Message.TheVariants as messages
use Rattle.sync_exchange.specs.Seen.{change_seen, message_seen, sent_seen}
use Rattle.sync_node.specs.Frames.{change_kept, message_kept, sent_kept}

-- ---- lengths
varint_short : (m n : ℕ) → n < 128 ^ suc m → length (varint n) ≤ suc m
varint_short zero n h = let e = ap length (varint_small n (omega arith)) in omega (arith, e)
varint_short (suc m) n h = elim (cases_lt n 128) [
  | inl lt ↦ let e = ap length (varint_small n lt) in omega (arith, e)
  | inr le ↦
      let high : n / 128 < 128 ^ suc m = omega (arith, pow-succ' 128 (suc m)) in
      let e = ap length (varint_large n le) in
      omega (arith, e, varint_short m (n / 128) high)
]

number_short : (n : ℕ) → n < 2 ^ 32 → length (varint n) ≤ 5
number_short n h = varint_short 4 n (omega arith)

wide_short : (n : ℕ) → n < 2 ^ 64 → length (varint n) ≤ 10
wide_short n h = varint_short 9 n (omega arith)

body_short : (text : List ℕ) → length text < 2 ^ 32 → length (body text) ≤ 5 + length text
body_short text h = let p : length (body text) ≡ length (varint (length text)) + length text = length-append (varint (length text)) text in omega (arith, p, number_short (length text) h)

change_short : (h : ChangeParts) → IsWholeChange h → length (change_spelling h) ≤ 25 + length h.body
change_short h is =
    let a : length (change_spelling h) ≡ length (varint h.number ++ varint h.base ++ varint h.ms) + length (body h.body) = length-append (varint h.number ++ varint h.base ++ varint h.ms) (body h.body) in
    let b = length-append (varint h.number ++ varint h.base) (varint h.ms) in
    let c = length-append (varint h.number) (varint h.base) in
    let small = is.0.small in
    omega (arith, a, b, c, number_short h.number is.1, number_short h.base is.2, wide_short h.ms is.3, body_short h.body (omega (arith, small)))

entry_short : (e : SentParts) → IsWholeEntry e → length (entry_spelling e) ≤ 25 + length e.body
entry_short h is =
    let a : length (entry_spelling h) ≡ length (varint h.origin ++ varint h.number ++ varint h.ms) + length (body h.body) = length-append (varint h.origin ++ varint h.number ++ varint h.ms) (body h.body) in
    let b = length-append (varint h.origin ++ varint h.number) (varint h.ms) in
    let c = length-append (varint h.origin) (varint h.number) in
    let small = is.0.small in
    omega (arith, a, b, c, number_short h.origin is.1, number_short h.number is.2, wide_short h.ms is.3, body_short h.body (omega (arith, small)))

-- lists of them
module _ {A : Type 0} (text : A → List ℕ) (size : A → ℕ) where
  all_short : (xs : List A) → AllByRecursion (λ x. length (text x) ≤ 25 + size x) xs → length (flat_map text xs) ≤ 25 * length xs + sum_by size xs
  all_short [] short = omega arith
  all_short (x ∷ xs) short =
      let a = length-flat_map text (x ∷ xs) in
      let b = length-flat_map text xs in
      let c = sum_by-cons (λ y. length (text y)) x xs in
      let d = sum_by-cons size x xs in
      omega (arith, a, b, c, d, short.0, all_short xs short.1)

changes_short : (hs : List ChangeParts) → AllByRecursion IsWholeChange hs → AllByRecursion (λ h. length (change_spelling h) ≤ 25 + length h.body) hs
changes_short [] all = tt
changes_short (h ∷ hs) all = (change_short h all.0, changes_short hs all.1)

entries_short : (es : List SentParts) → AllByRecursion IsWholeEntry es → AllByRecursion (λ e. length (entry_spelling e) ≤ 25 + length e.body) es
entries_short [] all = tt
entries_short (e ∷ es) all = (entry_short e all.0, entries_short es all.1)

ask_short : (a : AskParts) → IsWholeAsk a → length (ask_spelling a) ≤ 15
ask_short a is =
    let settled = is.0.settled in
    let p : length (ask_spelling a) ≡ length (varint a.ident ++ varint a.cursor) + length (varint a.settled) = length-append (varint a.ident ++ varint a.cursor) (varint a.settled) in
    let q = length-append (varint a.ident) (varint a.cursor) in
    omega (arith, p, q, number_short a.ident is.1, number_short a.cursor is.2, number_short a.settled (omega (arith, settled, is.2)))

names_short : (names : List (List ℕ)) → AllByRecursion IsTableName names → length (flat_map body names) ≤ 68 * length names
names_short [] all = omega arith
names_short (name ∷ names) all =
    let few = all.0.few in
    omega (arith, few, length-flat_map body (name ∷ names), length-flat_map body names, sum_by-cons (λ n. length (body n)) name names, body_short name (omega (arith, few)), names_short names all.1)

-- a message fits a frame
pub message_short : (m : CodeMessage) → IsMessage m → length (message_spelling m) ≤ max_frame
message_short (messages.Bind uuid) is = omega (arith, is)
message_short (messages.Ident given) is = let p : length (given_spelling given) ≡ length given.uuid + length (varint given.ident) = length-append given.uuid (varint given.ident) in omega (arith, p, is.1, number_short given.ident is.2)
message_short (messages.Upload upload) is =
    let few = is.0.few in
    let small = is.0.small in
    let p : length (upload_spelling upload) ≡ length (varint upload.ident) + length (varint (length upload.changes) ++ flat_map change_spelling upload.changes) = length-append (varint upload.ident) (varint (length upload.changes) ++ flat_map change_spelling upload.changes) in
    let q = length-append (varint (length upload.changes)) (flat_map change_spelling upload.changes) in
    let all = all_short change_spelling (λ h. length h.body) upload.changes (changes_short upload.changes (recursion_from_All IsWholeChange upload.changes is.2)) in
    omega (arith, p, q, few, small, all, number_short upload.ident is.1, number_short (length upload.changes) (omega (arith, few)))
message_short (messages.Ask ask) is = let p = ask_short ask is in omega (arith, p)
message_short (messages.Download download) is =
    let few = is.0.few in
    let small = is.0.small in
    let within = is.0.within in
    let p : length (download_spelling download) ≡ length (varint download.ident ++ varint download.from) + length (varint (length download.entries) ++ flat_map entry_spelling download.entries) = length-append (varint download.ident ++ varint download.from) (varint (length download.entries) ++ flat_map entry_spelling download.entries) in
    let o = length-append (varint download.ident) (varint download.from) in
    let q = length-append (varint (length download.entries)) (flat_map entry_spelling download.entries) in
    let all = all_short entry_spelling (λ h. length h.body) download.entries (entries_short download.entries (recursion_from_All IsWholeEntry download.entries is.2)) in
    omega (arith, p, o, q, few, small, all, number_short download.ident is.1, number_short download.from (omega (arith, within)), number_short (length download.entries) (omega (arith, few)))
message_short (messages.Refused ident number code place) is =
    let p = length-append (varint ident ++ varint number ++ varint code) (varint place) in
    let o = length-append (varint ident ++ varint number) (varint code) in
    let q = length-append (varint ident) (varint number) in
    omega (arith, p, o, q, number_short ident is.0, number_short number is.1, number_short code is.2, number_short place is.3)
message_short (messages.Stored stored) is = let p : length (stored_spelling stored) ≡ length (varint stored.ident) + length (varint stored.number) = length-append (varint stored.ident) (varint stored.number) in omega (arith, p, number_short stored.ident is.1, number_short stored.number is.2)
message_short (messages.Ask2 ask) is = let p = ask_short ask is in omega (arith, p)
message_short (messages.Retire retire) is = let p : length (retire_spelling retire) ≡ length (varint retire.ident) + length (varint retire.by) = length-append (varint retire.ident) (varint retire.by) in omega (arith, p, number_short retire.ident is.1, number_short retire.by is.2)
message_short (messages.Retired retired) is =
    let p : length (retired_spelling retired) ≡ length (varint retired.ident ++ varint retired.by) + length (varint retired.number) = length-append (varint retired.ident ++ varint retired.by) (varint retired.number) in
    let q = length-append (varint retired.ident) (varint retired.by) in
    omega (arith, p, q, number_short retired.ident is.1, number_short retired.by is.2, number_short retired.number is.3)
message_short (messages.AskTables asked) is =
    let few = is.2.0.1 in
    let second = is.0.second in
    let p : length (ask_tables_spelling asked) ≡ length (ask_spelling asked.ask ++ varint asked.form) + length (tables_spelling asked.tables) = length-append (ask_spelling asked.ask ++ varint asked.form) (tables_spelling asked.tables) in
    let o = length-append (ask_spelling asked.ask) (varint asked.form) in
    let q : length (tables_spelling asked.tables) ≡ length (varint (length asked.tables)) + length (flat_map body asked.tables) = length-append (varint (length asked.tables)) (flat_map body asked.tables) in
    omega (arith, p, o, q, few, ask_short asked.ask is.1, number_short asked.form (omega (arith, second)), number_short (length asked.tables) (omega (arith, few)), names_short asked.tables (recursion_from_All IsTableName asked.tables is.2.1))

-- ---- the messages of the code as those of the model, and back
changes_back : (hs : List ChangeParts) → map change_kept (map change_seen hs) ≡ hs
changes_back [] = refl
changes_back (h ∷ hs) = ap (λ l. h ∷ l) (changes_back hs)

entries_back : (es : List SentParts) → map sent_kept (map sent_seen es) ≡ es
entries_back [] = refl
entries_back (e ∷ es) = ap (λ l. e ∷ l) (entries_back es)

form_back : (n : ℕ) → 1 ≤ n → n ≤ 2 → (if n == 2 then 2 else 1) ≡ n
form_back zero low high = absurd (omega (arith, low))
form_back (suc zero) low high = refl
form_back (suc (suc zero)) low high = refl
form_back (suc (suc (suc n))) low high = absurd (omega (arith, high))

pub message_back : (m : CodeMessage) → IsMessage m → message_kept (message_seen m) ≡ m
message_back (messages.Bind uuid) is = refl
message_back (messages.Ident given) is = refl
message_back (messages.Upload upload) is = ap (λ l. messages.Upload (record { ident = upload.ident; changes = l })) (changes_back upload.changes)
message_back (messages.Ask ask) is = refl
message_back (messages.Download download) is = ap (λ l. messages.Download (record { ident = download.ident; from = download.from; entries = l })) (entries_back download.entries)
message_back (messages.Refused ident number code place) is = refl
message_back (messages.Stored stored) is = refl
message_back (messages.Ask2 ask) is = refl
message_back (messages.Retire retire) is = refl
message_back (messages.Retired retired) is = refl
message_back (messages.AskTables asked) is = ap (λ n. messages.AskTables (record asked { form = n })) (form_back asked.form is.0.first is.0.second)
