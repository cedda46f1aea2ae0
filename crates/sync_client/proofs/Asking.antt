-- The messages that a client sends, and what it tells of itself.
use Rattle.std.proofs.Common.{◌≡◌, ℕ, ◌≤◌, ◌<◌, min, Bool, true, List, [], ◌∷◌, Option, Some, None, length, get_or, Result, Ok, Err, refl, ap, subst, ◌∙◌, sym, ◌==◌, if◌then◌else◌, le_refl, arith}
use Rattle.std.specs.Prelude.{IfOk, IfErr}
use Rattle.std.specs.Option.{is_some}
use Rattle.sync_messages.specs.declared.message.Message.{Message as CodeMessage}
use Rattle.sync_data.specs.declared.instr.Instr.{Instr}
use Rattle.sync_base.specs.States.{State}
use Rattle.sync_model.specs.Bytes.{Tables}
use Rattle.sync_model.specs.Clients.{Client as Model, ClientRecord, Original, Unsent, answers, ask, client_of, last, no_client, question, settled_from, NotNamed, refuse}
use Rattle.sync_model.specs.Messages.{Message, Ask, Ask2, AskTables}
use Rattle.sync_model.specs.Each.{Each, and_each}
use Rattle.sync_model.specs.Limits.{ClientNumbers, IsUnsent}
use Rattle.sync_model.proofs.Limits.{numbers_first, numbers_records}
use Rattle.sync_model.proofs.Own.{if_false}
use Rattle.sync_exchange.specs.Profile.{the_profile}
use Rattle.sync_client.specs.declared.replica.Replica.{Replica}
use Rattle.sync_client.specs.Keeping.{Keeps}
use Rattle.sync_exchange.specs.Seen.{message_seen}
use Rattle.sync_client.specs.declared.refusal.ClientRefusal.{ClientRefusal as CodeRefusal}
use Rattle.sync_client.specs.declared.refusal.ClientRefusal.TheVariants as codes
use Rattle.sync_client.specs.Refusals.{refusal_seen, IfSeen}
use Rattle.sync_client.specs.Seen.{seen}
use Rattle.sync_client.specs.Sending.{Sends}
use Rattle.sync_client.proofs.Calls.{is_born}
use Rattle.sync_client.proofs.Refusing.{differ}

pub numbers_of : (records : List ClientRecord) (r : Replica) → Keeps records r → ClientNumbers the_profile (client_of the_profile records)
numbers_of records r k = numbers_records the_profile records (no_client the_profile) refl k.opens k.each (numbers_first the_profile)

settled_within : (cursor : ℕ) (us : List (Unsent Instr)) → Each (IsUnsent the_profile cursor) us → settled_from cursor us ≤ cursor
settled_within cursor [] h = le_refl cursor
settled_within cursor (u ∷ us) (and_each h hs) = h.base

-- where there is an oldest one
pub base_is : (cursor : ℕ) (us : List (Unsent Instr)) (o : Original Instr) → 0 < length us → ((u : Unsent Instr) → u ≡ get_or us 0 u → o ≡ u.original) → o.base ≡ settled_from cursor us
base_is cursor [] o l h = absurd (omega (arith, l))
base_is cursor (u ∷ us) o l h = ap (λ (x : Original Instr). x.base) (h u refl)

no_less : (a b : ℕ) → a ≤ b → min a b ≡ a
no_less a b h = grind arith

-- the base of the oldest unsent changeset isn't above the cursor
pub settled_is : (records : List ClientRecord) (r : Replica) → Keeps records r → min (settled_from r.cursor r.unsent) r.cursor ≡ settled_from r.cursor r.unsent
settled_is records r k =
    let unsent = ap (λ (c : Model Instr State). settled_from c.cursor c.unsent) k.stands_for in
    let cursor = ap (λ (c : Model Instr State). c.cursor) k.stands_for in
    let within = settled_within (client_of the_profile records).cursor (client_of the_profile records).unsent (numbers_of records r k).unsent in
    no_less (settled_from r.cursor r.unsent) r.cursor (omega (arith, unsent, cursor, within))

asking : (records : List ClientRecord) (r : Replica) (k : Keeps records r) → is_some r.id ≡ true → ¬ (r.ident ≡ 0) → ask (client_of the_profile records) ≡ answers (question (seen k.past r) r.subset)
asking records r k born named =
    (is_born records r (λ id. if (client_of the_profile records).ident == 0 then refuse NotNamed else answers (question (client_of the_profile records) (client_of the_profile records).subset)) k born).1
    ∙ ap (λ (c : Model Instr State). if c.ident == 0 then refuse NotNamed else answers (question c c.subset)) k.stands_for
    ∙ if_false (r.ident == 0) _ _ (differ r.ident 0 named)

-- the question, as the code makes it
abbrev question_as : Replica → ℕ → Option Tables → Message
question_as r settled None = if r.second then Ask2 r.ident r.cursor settled else Ask r.ident r.cursor settled
question_as r settled (Some t) = AskTables r.ident r.cursor settled r.second t

same_question : (records : List ClientRecord) (r : Replica) (settled : ℕ) (k : Keeps records r) (o : Option Tables) → settled ≡ min (settled_from r.cursor r.unsent) r.cursor → question (seen k.past r) o ≡ question_as r settled o
same_question records r settled k None is = ap (λ (n : ℕ). if r.second then Ask2 r.ident r.cursor n else Ask r.ident r.cursor n) (sym (is ∙ settled_is records r k))
same_question records r settled k (Some t) is = ap (λ (n : ℕ). AskTables r.ident r.cursor n r.second t) (sym (is ∙ settled_is records r k))

asked : (records : List ClientRecord) (r : Replica) (settled : ℕ) (o : Option Tables) → Keeps records r → is_some r.id ≡ true → ¬ (r.ident ≡ 0) → r.subset ≡ o → settled ≡ min (settled_from r.cursor r.unsent) r.cursor → (ask (client_of the_profile records)).answer ≡ Ok (question_as r settled o)
asked records r settled o k born named tables is =
    ap (λ d. d.answer) (asking records r k born named) ∙ ap (λ (m : Message). Ok m) (same_question records r settled k r.subset is ∙ ap (question_as r settled) tables)

-- a client that gets all asks by its form
pub ask_answer : (records : List ClientRecord) (r : Replica) (second : Bool) (settled : ℕ) → Keeps records r → is_some r.id ≡ true → ¬ (r.ident ≡ 0) → r.subset ≡ None → r.second ≡ second → settled ≡ min (settled_from r.cursor r.unsent) r.cursor
    → (ask (client_of the_profile records)).answer ≡ Ok (if second then Ask2 r.ident r.cursor settled else Ask r.ident r.cursor settled)
ask_answer records r second settled k born named all form is =
    asked records r settled None k born named all is
    ∙ ap (λ (b : Bool). Ok (if b then Ask2 r.ident r.cursor settled else Ask r.ident r.cursor settled)) form

-- and one of some tables by these
pub tables_answer : (records : List ClientRecord) (r : Replica) (settled : ℕ) (tables : Tables) → Keeps records r → is_some r.id ≡ true → ¬ (r.ident ≡ 0) → r.subset ≡ Some tables → settled ≡ min (settled_from r.cursor r.unsent) r.cursor
    → (ask (client_of the_profile records)).answer ≡ Ok (AskTables r.ident r.cursor settled r.second tables)
tables_answer records r settled tables k born named some is = asked records r settled (Some tables) k born named some is

-- the answer of the call that asks by tables
pub tables_sends : (records : List ClientRecord) (r : Replica) (settled : ℕ) (tables : Tables) (a : Result CodeMessage CodeRefusal) → Keeps records r → is_some r.id ≡ true → ¬ (r.ident ≡ 0) → r.subset ≡ Some tables → settled ≡ min (settled_from r.cursor r.unsent) r.cursor
    → IfOk a (λ m. message_seen m ≡ AskTables r.ident r.cursor settled r.second tables) → IfErr a (λ why. why ≡ codes.NoMemory) → Sends (ask (client_of the_profile records)) a
tables_sends records r settled tables (Ok m) k born named some is asked_ memory = tables_answer records r settled tables k born named some is ∙ ap (λ (x : Message). Ok x) (sym asked_)
tables_sends records r settled tables (Err why) k born named some is asked_ memory = subst (λ w. IfSeen (refusal_seen w) (λ x. (ask (client_of the_profile records)).answer ≡ Err x)) (sym memory) tt

pub last_is : (records : List ClientRecord) (r : Replica) → Keeps records r → r.count ≡ last (client_of the_profile records)
last_is records r k = sym (ap (λ (c : Model Instr State). length c.made) k.stands_for ∙ k.count)

-- ---- how many changesets are unsent
pub unsent_counted : (records : List ClientRecord) (r : Replica) (n : ℕ) → Keeps records r → n ≡ length r.unsent → min n 4294967295 ≡ length (client_of the_profile records).unsent
unsent_counted records r n k is =
    let same = ap (λ (c : Model Instr State). length c.unsent) k.stands_for in
    let few = (numbers_of records r k).kept in
    let made = (numbers_of records r k).made in
    no_less n 4294967295 (omega (arith, is, same, few, made)) ∙ is ∙ sym same
