-- What a client sends next.
use Rattle.std.specs.Prelude.{◌≡◌, ℕ, ◌-◌, Bool, true, false, ◌==◌, if◌then◌else◌, List, [], ◌∷◌, length, slice_get, Option, option_map, unwrap_or, Result, Ok, Err}
use Rattle.sync_data.specs.declared.instr.Instr.{Instr}
use Rattle.sync_base.specs.States.{State}
use Rattle.sync_exchange.specs.Profile.{the_profile}
use Rattle.sync_exchange.specs.Seen.{message_seen}
use Rattle.sync_model.specs.Clients.{Client, ClientStep, ask, bind, to_upload_from, upload_from}
use Rattle.sync_model.specs.Messages.{Change, Message, Upload}
use Rattle.sync_client.specs.Refusals.{IfSeen, refusal_seen}
use Rattle.sync_client.specs.declared.refusal.ClientRefusal.{ClientRefusal}
use Rattle.sync_next.specs.declared.next.Next.{Next}

abbrev pub is_nothing : List Change → Bool
is_nothing [] = true
is_nothing (h ∷ hs) = false

abbrev pub bears_none : Message → Bool
bears_none (Upload ident changes) = is_nothing changes
bears_none m = false

-- its ident first; then what is unsent and above the number; then the history
abbrev pub next_message : Client Instr State → ℕ → ClientStep Message
next_message c sent =
    if c.ident == 0 then bind c
    else if is_nothing (to_upload_from the_profile c sent) then ask c
    else upload_from the_profile c sent

-- the number of the last change that a message bears
abbrev pub last_number : List Change → Option ℕ
last_number hs = option_map (λ h. h.number) (slice_get hs (length hs - 1))

-- up to which number a client's changesets are sent, once this message is
abbrev pub sent_by : Message → ℕ → ℕ
sent_by (Upload ident changes) sent = unwrap_or (last_number changes) sent
sent_by m sent = sent

-- the message of the step and that number, or its refusal
abbrev pub SendsNext : ClientStep Message → ℕ → Result Next ClientRefusal → Type 0
SendsNext did sent (Ok next) = (did.answer ≡ Ok (message_seen next.message)) × (next.sent ≡ sent_by (message_seen next.message) sent)
SendsNext did sent (Err why) = IfSeen (refusal_seen why) (λ w. did.answer ≡ Err w)
