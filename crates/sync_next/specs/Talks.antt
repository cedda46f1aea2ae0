-- What a client sends in turn since its file was opened.
use Rattle.std.specs.Prelude.{◌≡◌, ℕ, ◌-◌, Bool, true, false, ◌&&◌, ◌||◌, not, ◌==◌, nat_lt, if◌then◌else◌, List, [], ◌∷◌, length, Option, Some, None, Result, Ok, Err}
use Rattle.std.specs.Option.{is_some}
use Rattle.sync_data.specs.declared.instr.Instr.{Instr}
use Rattle.sync_base.specs.States.{State}
use Rattle.sync_exchange.specs.Profile.{the_profile}
use Rattle.sync_exchange.specs.Seen.{message_seen}
use Rattle.sync_model.specs.Clients.{Client, ClientStep, ask, bind, last, upload_from}
use Rattle.sync_model.specs.Messages.{Message, Ask, Ask2, AskTables, Download, Sent, Stored}
use Rattle.sync_messages.specs.declared.message.Message.{Message as CodeMessage}
use Rattle.sync_client.specs.Sending.{Sends}
use Rattle.sync_client.specs.declared.refusal.ClientRefusal.{ClientRefusal}
use Rattle.sync_client.specs.declared.refusal.ClientRefusal.TheVariants as refusals
use Rattle.sync_next.specs.Nexts.{next_message, sent_by}
use Rattle.sync_next.specs.declared.talk.Talk.{Talk}
use Rattle.sync_next.specs.declared.talk.Stale.{Stale}
use Rattle.sync_next.specs.declared.talk.Stale.TheVariants as stales
use Rattle.sync_next.specs.declared.talk.Heard.{Heard}
use Rattle.sync_next.specs.declared.talk.Heard.TheVariants as heards

-- ---- what is sent

-- it asks for its ident, and then for the history, until it was verified that this ends at its cursor; who is held up sends an
-- Upload without changes, which is answered by how many the server has
abbrev pub next_of : Talk → Client Instr State → ClientStep Message
next_of t c =
    if t.verified then next_message c t.sent
    else if c.ident == 0 then bind c
    else if t.held_up then upload_from the_profile c 4294967295
    else ask c

abbrev pub is_question : Message → Bool
is_question (Ask c cursor settled) = true
is_question (Ask2 c cursor settled) = true
is_question (AskTables c cursor settled second tables) = true
is_question m = false

-- it is remembered which question is out, and up to which number changesets are sent
abbrev pub after_sent : Talk → Message → Talk
after_sent t m = record t { asked = is_question m; probed = not t.verified && t.held_up; sent = sent_by m t.sent }

-- nothing where it is stale; else the message of the step, or its refusal
abbrev pub SentOne : Talk → Client Instr State → Talk → Result (Option CodeMessage) ClientRefusal → Type 0
SentOne old c new (Ok None) = ⊥
SentOne old c new (Ok (Some m)) = Sends (next_of old c) (Ok m) × (new ≡ after_sent old (message_seen m))
SentOne old c new (Err why) = Sends (next_of old c) (Err why)

abbrev pub TalksBy : Option Stale → Talk → Client Instr State → Talk → Result (Option CodeMessage) ClientRefusal → Type 0
TalksBy (Some why) old c new result = (result ≡ Ok None) × (new ≡ old)
TalksBy None old c new result = SentOne old c new result

abbrev pub TalksNext : Talk → Client Instr State → Talk → Result (Option CodeMessage) ClientRefusal → Type 0
TalksNext old c new result = TalksBy old.stale old c new result

-- ---- what an answer says

abbrev pub stale_by_code : ℕ → Option Stale
stale_by_code code =
    if (code == 61) || (code == 63) then Some stales.Server
    else if code == 62 then Some stales.File
    else if code == 68 then Some stales.Ident
    else if code == 71 then Some stales.History
    else None

abbrev pub stale_by : ClientRefusal → Option Stale
stale_by (refusals.Forked number) = Some stales.File
stale_by (refusals.WasRefused number code) = stale_by_code code
stale_by why = None

abbrev pub heard_of : ℕ → List Sent → Heard
heard_of from [] = heards.End from
heard_of from (e ∷ es) = heards.Other

abbrev pub heard_in : Message → Heard
heard_in (Stored c number) = heards.Stored number
heard_in (Download c from es) = heard_of from es
heard_in m = heards.Other

abbrev pub is_held_up : ClientRefusal → Bool
is_held_up (refusals.Mismatch version number kind) = true
is_held_up why = false

abbrev pub or_else : Option Stale → Option Stale → Option Stale
or_else None why = why
or_else (Some why) other = Some why

-- no question is out any more
abbrev pub quiet : Talk → Talk
quiet t = record t { asked = false; probed = false; held_up = false }

-- more changesets than the client ever made are another file's; so many as it took of its own, told to the Upload without
-- changes, or a history that ends at the cursor, told to a question, are what verifies it
abbrev pub after_heard : Talk → Heard → (cursor last unsent : ℕ) → Talk
after_heard t (heards.Stored number) cursor last unsent = record (quiet t) { stale = if nat_lt last number then Some stales.File else t.stale; verified = t.verified || (t.probed && (number == last - unsent)) }
after_heard t (heards.End from) cursor last unsent = record (quiet t) { verified = t.verified || (t.asked && (from == cursor)) }
after_heard t heards.Other cursor last unsent = quiet t

abbrev pub after_answer : Talk → Heard → Result ℕ ClientRefusal → (last unsent : ℕ) → Talk
after_answer t heard (Ok cursor) last unsent = after_heard t heard cursor last unsent
after_answer t heard (Err why) last unsent = record (quiet t) { verified = false; sent = 0; held_up = is_held_up why; stale = or_else t.stale (stale_by why) }

abbrev pub after_taken : Talk → Message → Result ℕ ClientRefusal → Client Instr State → Talk
after_taken t m answer c = after_answer t (heard_in m) answer (last c) (length c.unsent)
