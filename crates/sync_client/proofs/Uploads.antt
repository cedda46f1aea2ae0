-- The originals that an Upload bears.
use Rattle.std.proofs.Common.{◌≡◌, ℕ, zero, suc, ◌+◌, ◌-◌, ◌<◌, ◌≤◌, true, List, [], ◌∷◌, ◌++◌, length, map, drop, get_or, drop-cons, add-one, refl, ap, ap₂, ◌∙◌, sym, arith, nat_le, nat_lt, append_assoc, append-nil, length-append, if◌then◌else◌, ◌==◌}
use Rattle.std.proofs.Math.ListN.{drop_of_length-le}
use Rattle.std.proofs.lemmas.Bool.{le-leb, le-ltb, lt-leb, lt-ltb}
use Rattle.std.proofs.lemmas.List.Sums.{sum_by-append}
use Rattle.std.specs.Option.{is_some}
use Rattle.sync_data.specs.declared.instr.Instr.{Instr}
use Rattle.sync_base.specs.States.{State}
use Rattle.sync_codec.specs.Spelling.{spelling}
use Rattle.sync_messages.specs.Parts.{ChangeParts, bytes_of_changes}
use Rattle.sync_model.specs.Messages.{Change, Upload}
use Rattle.sync_model.specs.Profile.{fitting}
use Rattle.sync_model.specs.Clients.{Client as Model, ClientRecord, NotNamed, Original, Unsent, answers, change_of, client_of, if_named, refuse, to_upload_from, unsent_above, upload, upload_from}
use Rattle.sync_model.specs.Each.{Each, and_each}
use Rattle.sync_model.specs.Limits.{IsUnsent}
use Rattle.sync_model.proofs.Own.{if_true, if_false}
use Rattle.sync_exchange.specs.Profile.{the_profile}
use Rattle.sync_exchange.specs.Seen.{change_seen}
use Rattle.sync_client.specs.declared.replica.Replica.{Replica}
use Rattle.sync_client.specs.Keeping.{Keeps}
use Rattle.sync_client.specs.Sending.{uploaded}
use Rattle.sync_client.proofs.Asking.{numbers_of}
use Rattle.sync_client.proofs.Calls.{is_born}
use Rattle.sync_client.proofs.Refusing.{differ}

abbrev Item : Type 0
Item = Unsent Instr

abbrev size : Change → ℕ
size h = length h.body

abbrev change_at : Item → Change
change_at u = change_of the_profile u.original

-- those above a number, from a place on
abbrev left_of : ℕ → List Item → ℕ → List Change
left_of after us place = map change_at (unsent_above after (drop place us))

pub record UploadSoFar (after : ℕ) (us : List Item) (place room : ℕ) (done : List ChangeParts) : Type 0 where
  pub few : length done ≤ 4096
  pub room_is : bytes_of_changes done + room ≡ 16777216
  pub same : uploaded (unsent_above after us) ≡ map change_seen done ++ fitting size (4096 - length done) room (left_of after us place)

pub upload_first : (after : ℕ) (us : List Item) → UploadSoFar after us 0 16777216 []
upload_first after us = record { few = omega arith; room_is = refl; same = refl }

fit_none : (room : ℕ) (xs : List Change) → fitting size 0 room xs ≡ []
fit_none room [] = refl
fit_none room (x ∷ xs) = refl

fit_one : (n room : ℕ) (x : Change) (xs : List Change) → 1 ≤ n → size x ≤ room → fitting size n room (x ∷ xs) ≡ x ∷ fitting size (n - 1) (room - size x) xs
fit_one zero room x xs h g = absurd (omega (arith, h))
fit_one (suc n) room x xs h g = if_true (nat_le (size x) room) _ _ (le-leb (size x) room g) ∙ (let e : n ≡ suc n - 1 = omega arith in ap (λ m. x ∷ fitting size m (room - size x) xs) e)

fit_large : (n room : ℕ) (x : Change) (xs : List Change) → room < size x → fitting size n room (x ∷ xs) ≡ []
fit_large zero room x xs h = refl
fit_large (suc n) room x xs h = if_false (nat_le (size x) room) _ _ (lt-leb (size x) room h)

pub drop_at : (us : List Item) (place : ℕ) (u : Item) → place < length us → u ≡ get_or us place u → drop place us ≡ u ∷ drop (place + 1) us
drop_at us place u h is = drop-cons us place u h ∙ ap₂ (λ x j. x ∷ drop j us) (sym is) (sym (add-one place))

left_at : (after : ℕ) (us : List Item) (place : ℕ) (u : Item) → place < length us → u ≡ get_or us place u → after < u.original.number → left_of after us place ≡ change_at u ∷ left_of after us (place + 1)
left_at after us place u h is above =
    ap (λ l. map change_at (unsent_above after l)) (drop_at us place u h is) ∙ ap (map change_at) (if_true (nat_lt after u.original.number) _ _ (lt-ltb after u.original.number above))

left_below : (after : ℕ) (us : List Item) (place : ℕ) (u : Item) → place < length us → u ≡ get_or us place u → u.original.number ≤ after → left_of after us place ≡ left_of after us (place + 1)
left_below after us place u h is below =
    ap (λ l. map change_at (unsent_above after l)) (drop_at us place u h is) ∙ ap (map change_at) (if_false (nat_lt after u.original.number) _ _ (le-ltb after u.original.number below))

pub upload_skips : (after : ℕ) (us : List Item) (place room : ℕ) (done : List ChangeParts) (u : Item) → UploadSoFar after us place room done → place < length us → u ≡ get_or us place u → u.original.number ≤ after → UploadSoFar after us (place + 1) room done
upload_skips after us place room done u s there is below = record {
  few = s.few;
  room_is = s.room_is;
  same = s.same ∙ ap (λ l. map change_seen done ++ fitting size (4096 - length done) room l) (left_below after us place u there is below);
}

pub upload_full : (after : ℕ) (us : List Item) (place room : ℕ) (done : List ChangeParts) → UploadSoFar after us place room done → length done ≡ 4096 → map change_seen done ≡ uploaded (unsent_above after us)
upload_full after us place room done s full =
    let none : 4096 - length done ≡ 0 = omega (arith, full) in
    sym (s.same ∙ ap (λ n. map change_seen done ++ fitting size n room (left_of after us place)) none ∙ ap (λ l. map change_seen done ++ l) (fit_none room (left_of after us place)) ∙ append-nil (map change_seen done))

pub upload_large : (after : ℕ) (us : List Item) (place room : ℕ) (done : List ChangeParts) (u : Item) → UploadSoFar after us place room done → place < length us → u ≡ get_or us place u → after < u.original.number → room < length (spelling u.original.instrs) → map change_seen done ≡ uploaded (unsent_above after us)
upload_large after us place room done u s there is above large =
    sym (s.same ∙ ap (λ l. map change_seen done ++ fitting size (4096 - length done) room l) (left_at after us place u there is above) ∙ ap (λ l. map change_seen done ++ l) (fit_large (4096 - length done) room (change_at u) (left_of after us (place + 1)) large) ∙ append-nil (map change_seen done))

pub upload_end : (after : ℕ) (us : List Item) (place room : ℕ) (done : List ChangeParts) → UploadSoFar after us place room done → length us ≤ place → map change_seen done ≡ uploaded (unsent_above after us)
upload_end after us place room done s end = sym (s.same ∙ ap (λ l. map change_seen done ++ fitting size (4096 - length done) room (map change_at (unsent_above after l))) (drop_of_length-le us end) ∙ append-nil (map change_seen done))

map_append : (hs : List ChangeParts) (h : ChangeParts) → map change_seen (hs ++ h ∷ []) ≡ map change_seen hs ++ change_seen h ∷ []
map_append [] h = refl
map_append (g ∷ hs) h = ap (λ l. change_seen g ∷ l) (map_append hs h)

pub upload_next : (after : ℕ) (us : List Item) (place room : ℕ) (done new : List ChangeParts) (u : Item) (h : ChangeParts) (left : ℕ) → UploadSoFar after us place room done → place < length us → u ≡ get_or us place u → after < u.original.number → ¬ (length done ≡ 4096) → length (spelling u.original.instrs) ≤ room
    → change_seen h ≡ change_at u → new ≡ done ++ h ∷ [] → left ≡ room - length (spelling u.original.instrs) → UploadSoFar after us (place + 1) left new
upload_next after us place room done new u h left s there is above more fits seen put rest =
    let few = s.few in
    let all = s.room_is in
    let body : length h.body ≡ length (spelling u.original.instrs) = ap (λ (x : Change). length x.body) seen in
    let sum : bytes_of_changes (done ++ h ∷ []) ≡ bytes_of_changes done + bytes_of_changes (h ∷ []) = sum_by-append (λ (x : ChangeParts). length x.body) done (h ∷ []) in
    let one : bytes_of_changes (h ∷ []) ≡ length h.body = omega arith in
    let total = ap bytes_of_changes put in
    let longer : length new ≡ length done + 1 = ap length put ∙ length-append done (h ∷ []) in
    let down : 4096 - length done - 1 ≡ 4096 - length new = omega (arith, longer) in
    record {
      few = omega (arith, few, more, longer);
      room_is = omega (arith, all, body, sum, one, total, rest, fits);
      same = s.same
          ∙ ap (λ l. map change_seen done ++ fitting size (4096 - length done) room l) (left_at after us place u there is above)
          ∙ ap (λ l. map change_seen done ++ l) (fit_one (4096 - length done) room (change_at u) (left_of after us (place + 1)) (omega (arith, few, more)) fits ∙ ap₂ (λ n m. change_at u ∷ fitting size n m (left_of after us (place + 1))) down (sym rest))
          ∙ sym (append_assoc (map change_seen done) (change_at u ∷ []) (fitting size (4096 - length new) left (left_of after us (place + 1))))
          ∙ ap (λ l. l ++ fitting size (4096 - length new) left (left_of after us (place + 1))) (ap (λ (x : Change). map change_seen done ++ x ∷ []) (sym seen) ∙ sym (map_append done h) ∙ ap (map change_seen) (sym put));
    }

-- ---- the call
pub upload_is : (records : List ClientRecord) (r : Replica) (after : ℕ) (hs : List ChangeParts) → Keeps records r → is_some r.id ≡ true → ¬ (r.ident ≡ 0) → map change_seen hs ≡ uploaded (unsent_above after r.unsent) → upload_from the_profile (client_of the_profile records) after ≡ answers (Upload r.ident (map change_seen hs))
upload_is records r after hs k born named is =
    (is_born records r (λ id. if (client_of the_profile records).ident == 0 then refuse NotNamed else answers (Upload (client_of the_profile records).ident (to_upload_from the_profile (client_of the_profile records) after))) k born).1
    ∙ ap (λ (c : Model Instr State). if c.ident == 0 then refuse NotNamed else answers (Upload c.ident (to_upload_from the_profile c after))) k.stands_for
    ∙ if_false (r.ident == 0) _ _ (differ r.ident 0 named)
    ∙ ap (λ l. answers (Upload r.ident l)) (sym is)

-- each has a number of at least 1
all_above : (cursor : ℕ) (us : List Item) → Each (IsUnsent the_profile cursor) us → unsent_above 0 us ≡ us
all_above cursor [] h = refl
all_above cursor (u ∷ us) (and_each h hs) =
    let some = h.number.positive in
    if_true (nat_lt 0 u.original.number) _ _ (lt-ltb 0 u.original.number (omega (arith, some))) ∙ ap (λ l. u ∷ l) (all_above cursor us hs)

pub upload_all : (records : List ClientRecord) (r : Replica) → Keeps records r → upload_from the_profile (client_of the_profile records) 0 ≡ upload the_profile (client_of the_profile records)
upload_all records r k =
    let c = client_of the_profile records in
    ap (λ us. if_named c (answers (Upload c.ident (uploaded us)))) (all_above c.cursor c.unsent (numbers_of records r k).unsent)

pub change_is : (o : Original Instr) (u : Item) (h : ChangeParts) (bytes : List ℕ) → o ≡ u.original → change_seen h ≡ record { number = o.number; base = o.base; ms = o.ms; body = bytes } → bytes ≡ spelling u.original.instrs → change_seen h ≡ change_at u
change_is o u h bytes made e f = e ∙ (λ i. record { number = (made i).number; base = (made i).base; ms = (made i).ms; body = f i })
