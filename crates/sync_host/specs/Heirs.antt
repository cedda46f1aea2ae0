-- A change of an old client, which its heir takes: as a request, and what it is answered.
use Rattle.std.specs.Prelude.{◌≡◌, ◌⊎◌, ℕ, ◌∷◌, ◌++◌, List, [], flat_map, min, Option, None, Some, Result, Ok, Err}
use Rattle.std.specs.Int.{w32, w64, from_le_bytes}
use Rattle.sync_heir.specs.Heirs.{heir_step}
use Rattle.sync_io.specs.Formats.{both_in, bytes_in, only_in, seen_in}
use Rattle.sync_messages.specs.Parts.{ChangeParts, RetiredParts}
use Rattle.sync_messages.specs.Reading.{change_of, is_change, is_retired, retired_of}
use Rattle.sync_model.specs.Clients.{ClientRecord}
use Rattle.sync_model.specs.Resets.{HeirAnswer, HeirStep, Integrated, Known, SavedAs, ResetRefusal, NotMine, Skips, BadChange, ByClient}
use Rattle.sync_host.specs.Refusals.{declined, declined_bytes, plain, of_two, of_three}
use Rattle.sync_host.specs.Replies.{word}
use Rattle.sync_host.specs.Steps.{Answer}
use Rattle.sync_host.specs.declared.refusals.Declined.{Declined}
use Rattle.sync_host.specs.declared.reply.Reply.{Reply}
use Rattle.sync_host.specs.declared.reply.Reply.TheVariants as replies

-- ---- the request
-- a number of four bytes, and one of eight, the lowest first
abbrev pub word_in : List ℕ → Option (ℕ × List ℕ)
word_in bytes = seen_in (from_le_bytes w32) (bytes_in 4) bytes

abbrev pub wide_in : List ℕ → Option (ℕ × List ℕ)
wide_in bytes = seen_in (from_le_bytes w64) (bytes_in 8) bytes

-- all bytes that are left
abbrev pub rest_in : List ℕ → Option (List ℕ × List ℕ)
rest_in bytes = Some (bytes, [])

-- the ident that was given up, the client for which, and how many of its changes are in the history
unfoldable pub retired_in : List ℕ → Option (RetiredParts × List ℕ)
retired_in bytes = only_in is_retired (seen_in retired_of (both_in (both_in word_in word_in) word_in)) bytes

-- a change: its number, the version at which it was made, its time, and the bytes of its changeset
unfoldable pub change_in : List ℕ → Option (ChangeParts × List ℕ)
change_in bytes = only_in is_change (seen_in change_of (both_in (both_in (both_in word_in word_in) wide_in) rest_in)) bytes

-- both
abbrev pub inherited_in : List ℕ → Option ((RetiredParts × ChangeParts) × List ℕ)
inherited_in bytes = both_in retired_in change_in bytes

-- ---- the answer
-- each instruction that was dropped: its place, and the code of the break
abbrev pub drop_bytes : ℕ × ℕ → List ℕ
drop_bytes d = word d.0 ++ word d.1

-- it is in the history, or was saved before, or is saved now: as which transaction, and what was dropped of it
abbrev pub heir_bytes : HeirAnswer → List ℕ
heir_bytes Integrated = 0 ∷ []
heir_bytes Known = 1 ∷ []
heir_bytes (SavedAs number dropped) = (2 ∷ []) ++ word number ++ flat_map drop_bytes dropped

-- a number that fits
abbrev pub at_most_word : ℕ → ℕ
at_most_word n = min n 4294967295

abbrev pub reset_declined : ResetRefusal → Declined
reset_declined NotMine = plain 9
reset_declined (Skips expected got) = of_two 20 (at_most_word expected) got
reset_declined (BadChange number offset rule) = of_three 21 number offset rule
reset_declined (ByClient why) = declined why

abbrev pub heir_reply : Result HeirAnswer ResetRefusal → List ℕ
heir_reply (Ok answer) = 0 ∷ heir_bytes answer
heir_reply (Err why) = 1 ∷ declined_bytes (reset_declined why)

abbrev pub heir_said : HeirStep → Answer
heir_said did = record { reply = heir_reply did.answer; records = did.records }

-- the heir's step
abbrev pub heir_answer : List ClientRecord → (RetiredParts × ChangeParts) × List ℕ → Answer
heir_answer records inherited = heir_said (heir_step records inherited.0.0 inherited.0.1)

-- a refusal that the model has; any other isn't told
abbrev pub Resets : Option ResetRefusal → Reply → Type 0
Resets None reply = (reply ≡ replies.Closed) ⊎ (reply ≡ replies.NoMemory)
Resets (Some why) reply = reply ≡ replies.Declined (reset_declined why)
