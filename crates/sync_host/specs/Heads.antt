-- What a host has to know of a message, and what a message bears, in places that are the same for each kind.
use Rattle.std.specs.Prelude.{◌≡◌, ℕ, ◌+◌, ◌-◌, List, [], ◌∷◌, ◌++◌, length, flat_map, fold, min, slice_get, option_map, unwrap_or, Option, None, Some}
use Rattle.std.specs.Int.{w64, to_le_bytes}
use Rattle.subset_bytes.specs.Spelling.{tables_spelling}
use Rattle.sync_messages.specs.Parts.{AskParts, ChangeParts, DownloadParts, SentParts, UploadParts}
use Rattle.sync_messages.specs.declared.message.Message.{Message}
use Rattle.sync_messages.specs.declared.message.Message.TheVariants.{Bind, Ident, Upload, Ask, Download, Refused, Stored, Ask2, Retire, Retired, AskTables}
use Rattle.sync_host.specs.Replies.{reply_bytes, word}
use Rattle.sync_host.specs.declared.head.Head.{Head}
use Rattle.sync_host.specs.declared.reply.Reply.{Reply}
use Rattle.sync_host.specs.declared.reply.Reply.TheVariants as replies

-- sixteen zeros
abbrev pub no_uuid : List ℕ
no_uuid = 0 ∷ 0 ∷ 0 ∷ 0 ∷ 0 ∷ 0 ∷ 0 ∷ 0 ∷ 0 ∷ 0 ∷ 0 ∷ 0 ∷ 0 ∷ 0 ∷ 0 ∷ 0 ∷ []

abbrev pub numbered : ℕ → ℕ → ℕ → ℕ → ℕ → Head
numbered tag ident first second third = record { tag = tag; uuid = no_uuid; ident = ident; by = 0; count = 0; first = first; second = second; third = third; fourth = 0 }

-- ---- heads
-- of a change, where there is one
abbrev pub number_or_none : Option ChangeParts → ℕ
number_or_none h = unwrap_or (option_map (λ h. h.number) h) 0

abbrev pub base_or_none : Option ChangeParts → ℕ
base_or_none h = unwrap_or (option_map (λ h. h.base) h) 0

-- the lowest version at which one of them was made
abbrev pub lowest_base : List ChangeParts → ℕ
lowest_base changes = fold (λ n h. min n h.base) (base_or_none (slice_get changes 0)) changes

-- an Upload: how many changes, the number of the first and of the last, the version at which the first was made, and the lowest at
-- which one was
abbrev pub upload_head : UploadParts → Head
upload_head u = record {
  tag = 3;
  uuid = no_uuid;
  ident = u.ident;
  by = 0;
  count = length u.changes;
  first = number_or_none (slice_get u.changes 0);
  second = number_or_none (slice_get u.changes (length u.changes - 1));
  third = base_or_none (slice_get u.changes 0);
  fourth = lowest_base u.changes;
}

-- a question: the cursor, what is settled, and the form of the client's file
abbrev pub ask_head : ℕ → AskParts → ℕ → ℕ → Head
ask_head tag a form count = record { tag = tag; uuid = no_uuid; ident = a.ident; by = 0; count = count; first = a.cursor; second = a.settled; third = form; fourth = 0 }

-- a Download: how many entries, the version of the first, and that behind the last
abbrev pub download_head : DownloadParts → Head
download_head d = record { tag = 5; uuid = no_uuid; ident = d.ident; by = 0; count = length d.entries; first = d.from; second = d.from + length d.entries; third = 0; fourth = 0 }

-- one ident gives another one up
abbrev pub retire_head : ℕ → ℕ → ℕ → ℕ → Head
retire_head tag ident by number = record { tag = tag; uuid = no_uuid; ident = ident; by = by; count = 0; first = number; second = 0; third = 0; fourth = 0 }

abbrev pub named_head : ℕ → List ℕ → ℕ → Head
named_head tag uuid ident = record { tag = tag; uuid = uuid; ident = ident; by = 0; count = 0; first = 0; second = 0; third = 0; fourth = 0 }

abbrev pub head_of : Message → Head
head_of (Bind uuid) = named_head 1 uuid 0
head_of (Ident given) = named_head 2 given.uuid given.ident
head_of (Upload u) = upload_head u
head_of (Ask a) = ask_head 4 a 1 0
head_of (Download d) = download_head d
head_of (Refused ident number code place) = numbered 6 ident number code place
head_of (Stored s) = numbered 7 s.ident s.number 0 0
head_of (Ask2 a) = ask_head 8 a 2 0
head_of (Retire r) = retire_head 9 r.ident r.by 0
head_of (Retired r) = retire_head 10 r.ident r.by r.number
head_of (AskTables a) = ask_head 11 a.ask a.form (length a.tables)

-- the tag, a uuid, and seven numbers
abbrev pub head_bytes : Head → List ℕ
head_bytes h = (h.tag ∷ []) ++ h.uuid ++ word h.ident ++ word h.by ++ word h.count ++ word h.first ++ word h.second ++ word h.third ++ word h.fourth

-- the tables of the one question that names some, as it spells them
abbrev pub tables_of : Message → List ℕ
tables_of (AskTables a) = tables_spelling a.tables
tables_of message = []

-- no message has no head
abbrev pub HeadTold : Option Message → Reply → Type 0
HeadTold None reply = reply ≡ replies.BadRequest
HeadTold (Some message) reply = reply_bytes reply ≡ 0 ∷ (head_bytes (head_of message) ++ tables_of message)

-- ---- what a message bears
-- a changeset: two numbers, its time, how many bytes it has, and these
abbrev pub borne : ℕ → ℕ → ℕ → List ℕ → List ℕ
borne first second ms body = word first ++ word second ++ to_le_bytes w64 ms ++ word (length body) ++ body

-- a change of an Upload: its number and the version at which it was made
abbrev pub change_bytes : ChangeParts → List ℕ
change_bytes h = borne h.number h.base h.ms h.body

-- an entry of a Download: the ident that made it, and its number of that ident
abbrev pub entry_bytes : SentParts → List ℕ
entry_bytes e = borne e.origin e.number e.ms e.body

abbrev pub borne_by : Message → List ℕ
borne_by (Upload u) = flat_map change_bytes u.changes
borne_by (Download d) = flat_map entry_bytes d.entries
borne_by message = []

abbrev pub BorneTold : Option Message → Reply → Type 0
BorneTold None reply = reply ≡ replies.BadRequest
BorneTold (Some message) reply = reply_bytes reply ≡ 0 ∷ borne_by message
