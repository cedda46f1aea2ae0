-- What a server tells of its history and of its clients.
use Rattle.std.specs.Prelude.{◌≡◌, ℕ, ◌-◌, Bool, true, false, not, List, ◌∷◌, ◌++◌, drop, take, flat_map, if◌then◌else◌, length, nat_lt, ◌==◌, Option, None, Some}
use Rattle.std.specs.Int.{w32, from_le_bytes}
use Rattle.sync_data.specs.declared.instr.Instr.{Instr}
use Rattle.sync_base.specs.States.{State}
use Rattle.sync_codec.specs.Spelling.{spelling}
use Rattle.sync_theory.specs.Changesets.{Changeset}
use Rattle.sync_model.specs.Parts.{Given, Parts}
use Rattle.sync_model.specs.Trims.{is_live}
use Rattle.server_memory.specs.Readers.{counts_of}
use Rattle.server_memory.specs.declared.counts.Counts.{Counts}
use Rattle.sync_host.specs.Heads.{borne}
use Rattle.sync_host.specs.Replies.{reply_bytes, word}
use Rattle.sync_host.specs.declared.reply.Reply.{Reply}
use Rattle.sync_host.specs.declared.reply.Reply.TheVariants as replies

-- ---- entries
-- a version, and how many entries from it on: four bytes each, the lowest first
abbrev pub range_in : List ℕ → Option (ℕ × ℕ)
range_in bytes = if length bytes == 8 then Some (from_le_bytes w32 (take 4 bytes), from_le_bytes w32 (drop 4 bytes)) else None

-- an entry: the ident that made it, its number of that ident, its time, and the bytes of its changeset
abbrev pub entry_told : Changeset Instr → List ℕ
entry_told x = borne x.origin x.number x.ms (spelling x.instrs)

-- those before the floor are given up
abbrev pub EntriesFrom : Bool → ℕ × ℕ → Parts Instr State → Reply → Type 0
EntriesFrom true range kept reply = reply ≡ replies.Absent
EntriesFrom false range kept reply = reply_bytes reply ≡ 0 ∷ flat_map entry_told (take range.1 (drop (range.0 - kept.floor) kept.entries))

abbrev pub EntriesTold : Option (ℕ × ℕ) → Parts Instr State → Reply → Type 0
EntriesTold None kept reply = reply ≡ replies.BadRequest
EntriesTold (Some range) kept reply = EntriesFrom (nat_lt range.0 kept.floor) range kept reply

-- ---- clients
-- its uuid, how many of its changes are in the history, up to which version it has settled, and 1 where it was given up, else 0
abbrev pub told_of : List ℕ → Counts → Bool → List ℕ
told_of id counts given_up = id ++ word counts.number ++ word counts.settled ++ word (if given_up then 1 else 0)

abbrev pub client_told : Given Instr → List ℕ
client_told g = told_of g.uuid (counts_of g) (not (is_live g))

-- the floor, and the clients by their idents, from 1 on
abbrev pub clients_told : Parts Instr State → List ℕ
clients_told kept = word kept.floor ++ flat_map client_told kept.idents

abbrev pub ClientsTold : Parts Instr State → Reply → Type 0
ClientsTold kept reply = reply_bytes reply ≡ 0 ∷ clients_told kept
