-- The longest beginning of a history that a message may bear, entry by entry.
use Rattle.std.proofs.Common.{◌≡◌, ℕ, zero, suc, ◌+◌, ◌-◌, ◌<◌, ◌≤◌, Bool, true, false, not, ◌&&◌, List, [], ◌∷◌, ◌++◌, length, map, get_or, drop, Option, None, Some, if◌then◌else◌, nat_le, nat_lt, refl, sym, ap, ◌∙◌, subst, arith, add-one, append_assoc, append-nil, length-append, drop-cons, zero-add}
use Rattle.std.specs.List.{sum_by}
use Rattle.std.proofs.lemmas.List.{map-append}
use Rattle.std.proofs.lemmas.List.Sums.{sum_by-append}
use Rattle.std.proofs.lemmas.Bool.{le-leb, leb-true, le-ltb, lt-ltb}
use denote.Bor.{Bor}
use Rattle.std.specs.Option.{option_copied, option_map, is_some}
use Rattle.sync_data.specs.declared.entry.Entry.{Entry}
use Rattle.sync_data.specs.declared.instr.Instr.{Instr}
use Rattle.sync_theory.specs.Changesets.{Changeset}
use Rattle.sync_recip.specs.Lists.{entry_of}
use Rattle.sync_messages.specs.Parts.{SentParts, bytes_of_entries}
use Rattle.sync_messages.specs.declared.message.Message.{Message as CodeMessage}
use Rattle.sync_messages.specs.declared.message.Message.TheVariants as messages
use Rattle.sync_model.specs.Messages.{Message, Sent}
use Rattle.sync_base.specs.States.{State}
use Rattle.sync_data.specs.Payload.{Changes}
use Rattle.sync_subset.specs.Tables.{Tables}
use Rattle.sync_transform.specs.Sets.{made_by}
use Rattle.sync_model.specs.Parts.{Given, Parts, Served, as_before, ask_by, at_ident, marked, marking_by}
use Rattle.sync_model.specs.Profile.{fitting, needs, restricted}
use Rattle.sync_model.specs.Servers.{ServerRecord, ServerRefusal, ServerStep, sent_of, first_form, is_refusal, marks_new, refuses, download, download_first}
use Rattle.sync_codec.specs.Spelling.{spelling}
use Rattle.sync_exchange.specs.Profile.{the_profile}
use Rattle.sync_exchange.specs.Seen.{message_seen, sent_seen}
use Rattle.server_memory.specs.Sending.{Settles, asked, downloads, fits_next, given_to, sendable, shown, size_of, starts_second}

no_room : (room : ℕ) (ys : List Sent) → fitting size_of zero room ys ≡ []
no_room room [] = refl
no_room room (y ∷ ys) = refl

abbrev pub rest_of : Bool → ℕ → ℕ → List (Changeset Instr) → List Sent
rest_of second n room xs = fitting size_of n room (map (sent_of the_profile) (shown second xs))

some_of : {A : Type 0} {x y : A} → Some x ≡ Some y → x ≡ y
some_of e = cc

-- an entry is sent
room_for : (n room : ℕ) (y z : Sent) (ys : List Sent) (b : Bool) → ◌≡◌ {A = Option Sent} (if b then Some y else None) (Some z) → (if b then y ∷ fitting size_of n (room - size_of y) ys else []) ≡ z ∷ fitting size_of n (room - size_of z) ys
room_for n room y z ys true e = ap (λ (x : Sent). x ∷ fitting size_of n (room - size_of x) ys) (some_of e)
room_for n room y z ys false e = cc

pub next_fits : (second : Bool) (n room : ℕ) (x : Changeset Instr) (xs : List (Changeset Instr)) (z : Sent) → fits_next second room x ≡ Some z → rest_of second (suc n) room (x ∷ xs) ≡ z ∷ rest_of second n (room - size_of z) xs
next_fits true n room x xs z e = room_for n room (sent_of the_profile x) z (map (sent_of the_profile) xs) (nat_le (size_of (sent_of the_profile x)) room) e
next_fits false n room x xs z e = go (needs the_profile x.instrs) e
  where
    go : (b : Bool) → ◌≡◌ {A = Option Sent} (if b then None else if nat_le (size_of (sent_of the_profile x)) room then Some (sent_of the_profile x) else None) (Some z)
        → fitting size_of (suc n) room (map (sent_of the_profile) (if b then [] else x ∷ first_form the_profile xs)) ≡ z ∷ rest_of false n (room - size_of z) xs
    go true f = cc
    go false f = room_for n room (sent_of the_profile x) z (map (sent_of the_profile) (first_form the_profile xs)) (nat_le (size_of (sent_of the_profile x)) room) f

-- none is
no_room_for : (n room : ℕ) (y : Sent) (ys : List Sent) (b : Bool) → ◌≡◌ {A = Option Sent} (if b then Some y else None) None → (if b then y ∷ fitting size_of n (room - size_of y) ys else []) ≡ []
no_room_for n room y ys true e = cc
no_room_for n room y ys false e = refl

pub none_fits : (second : Bool) (n room : ℕ) (x : Changeset Instr) (xs : List (Changeset Instr)) → fits_next second room x ≡ None → rest_of second (suc n) room (x ∷ xs) ≡ []
none_fits true n room x xs e = no_room_for n room (sent_of the_profile x) (map (sent_of the_profile) xs) (nat_le (size_of (sent_of the_profile x)) room) e
none_fits false n room x xs e = go (needs the_profile x.instrs) e
  where
    go : (b : Bool) → ◌≡◌ {A = Option Sent} (if b then None else if nat_le (size_of (sent_of the_profile x)) room then Some (sent_of the_profile x) else None) None
        → fitting size_of (suc n) room (map (sent_of the_profile) (if b then [] else x ∷ first_form the_profile xs)) ≡ []
    go true f = refl
    go false f = no_room_for n room (sent_of the_profile x) (map (sent_of the_profile) (first_form the_profile xs)) (nat_le (size_of (sent_of the_profile x)) room) f

-- ---- the loop
abbrev pub rest_at : Option Tables → Bool → ℕ → ℕ → List Entry → ℕ → List Sent
rest_at o second n room es i = rest_of second n room (given_to o (map entry_of (drop i es)))

pub one_sent : (o : Option Tables) (second : Bool) (es : List Entry) (i : ℕ) (e : Entry) (sent now : List SentParts) (room : ℕ) (next : SentParts) (all : List Sent) → i < length es → e ≡ get_or es i e → length sent < 4096 → option_map sent_seen (Some next) ≡ fits_next second room (restricted the_profile o (entry_of e))
    → now ≡ sent ++ next ∷ [] → map sent_seen sent ++ rest_at o second (4096 - length sent) room es i ≡ all → map sent_seen now ++ rest_at o second (4096 - length now) (room - length next.body) es (i + 1) ≡ all
one_sent o second es i e sent now room next all lt is few fits e_now was =
    let here : drop i es ≡ e ∷ drop (i + 1) es = rw (add-one, drop-cons es i e) (ap (λ d. d ∷ drop (suc i) es) (sym is)) in
    let n = 4096 - suc (length sent) in
    let count : 4096 - length sent ≡ suc n = omega (arith, few) in
    let after : 4096 - length (sent ++ next ∷ []) ≡ n = omega (arith, length-append sent (next ∷ []), few) in
    let step = next_fits second n room (restricted the_profile o (entry_of e)) (given_to o (map entry_of (drop (i + 1) es))) (sent_seen next) (sym fits) in
    ap (λ l. map sent_seen l ++ rest_at o second (4096 - length l) (room - length next.body) es (i + 1)) e_now
    ∙ ap (λ k. map sent_seen (sent ++ next ∷ []) ++ rest_at o second k (room - length next.body) es (i + 1)) after
    ∙ ap (λ l. l ++ rest_at o second n (room - length next.body) es (i + 1)) (map-append sent_seen sent (next ∷ []))
    ∙ append_assoc (map sent_seen sent) (sent_seen next ∷ []) (rest_at o second n (room - length next.body) es (i + 1))
    ∙ ap (λ l. map sent_seen sent ++ l) (sym step)
    ∙ ap (λ l. map sent_seen sent ++ rest_of second (suc n) room (given_to o (map entry_of l))) (sym here)
    ∙ ap (λ k. map sent_seen sent ++ rest_at o second k room es i) (sym count)
    ∙ was

pub none_sent : (o : Option Tables) (second : Bool) (es : List Entry) (i : ℕ) (e : Entry) (sent : List SentParts) (room : ℕ) (all : List Sent) → i < length es → e ≡ get_or es i e → length sent < 4096 → fits_next second room (restricted the_profile o (entry_of e)) ≡ None
    → map sent_seen sent ++ rest_at o second (4096 - length sent) room es i ≡ all → map sent_seen sent ≡ all
none_sent o second es i e sent room all lt is few none was =
    let here : drop i es ≡ e ∷ drop (i + 1) es = rw (add-one, drop-cons es i e) (ap (λ d. d ∷ drop (suc i) es) (sym is)) in
    let n = 4096 - suc (length sent) in
    let count : 4096 - length sent ≡ suc n = omega (arith, few) in
    let step = none_fits second n room (restricted the_profile o (entry_of e)) (given_to o (map entry_of (drop (i + 1) es))) none in
    sym (append-nil (map sent_seen sent))
    ∙ ap (λ l. map sent_seen sent ++ l) (sym step)
    ∙ ap (λ l. map sent_seen sent ++ rest_of second (suc n) room (given_to o (map entry_of l))) (sym here)
    ∙ ap (λ k. map sent_seen sent ++ rest_at o second k room es i) (sym count)
    ∙ was

pub bytes_more : (sent : List SentParts) (next : SentParts) → bytes_of_entries (sent ++ next ∷ []) ≡ bytes_of_entries sent + length next.body
bytes_more sent next = sum_by-append (λ (e : SentParts). length e.body) sent (next ∷ []) ∙ (let one : sum_by (λ (e : SentParts). length e.body) (next ∷ []) ≡ length next.body = zero-add (length next.body) in ap (λ n. bytes_of_entries sent + n) one)

-- ---- one entry
pub not_needed : (second : Bool) (b : Bool) → b ≡ false → (not second && b) ≡ false
not_needed true b e = refl
not_needed false b e = e

pub not_asked : (second : Bool) (b : Bool) → second ≡ true → (not second && b) ≡ false
not_asked true b e = refl
not_asked false b e = cc

fitted : (b d : Bool) (y : Sent) → b ≡ false → d ≡ true → ◌≡◌ {A = Option Sent} (Some y) (if b then None else if d then Some y else None)
fitted true d y e f = cc
fitted false true y e f = refl
fitted false false y e f = cc

pub sent_fits : (second : Bool) (room origin number : ℕ) (v : Changes) (s : SentParts) (ms : ℕ) (body : List ℕ) → s ≡ record { origin = origin; number = number; ms = ms; body = body } → ms ≡ v.ms → body ≡ spelling v.instrs → length body ≤ room → (not second && needs the_profile v.instrs) ≡ false
    → Some (sent_seen s) ≡ fits_next second room (made_by origin number v)
sent_fits second room origin number v s ms body is time bytes small shown =
    ap (λ t. Some (sent_seen t)) is
    ∙ (λ i. Some (record { origin = origin; number = number; ms = time i; body = bytes i }))
    ∙ fitted (not second && needs the_profile v.instrs) (nat_le (length (spelling v.instrs)) room) (sent_of the_profile (made_by origin number v)) shown (ap (λ b. nat_le (length b) room) (sym bytes) ∙ le-leb (length body) room small)

-- whether the first entry is of version 2 shows in it alone
pub first_given : (o : Option Tables) (es : List Entry) (d e : Entry) → 1 ≤ length es → e ≡ get_or es 0 e → d ≡ e → starts_second (given_to o (entry_of d ∷ [])) ≡ starts_second (given_to o (map entry_of es))
first_given o [] d e h is same = absurd (omega arith)
first_given o (x ∷ es) d e h is same = ap (λ (y : Entry). needs the_profile (restricted the_profile o (entry_of y)).instrs) (same ∙ is)

pub fits_room : (second : Bool) (room : ℕ) (x : Changeset Instr) (s : SentParts) → option_map sent_seen (Some s) ≡ fits_next second room x → length s.body ≤ room
fits_room second room x s e = go (not second && needs the_profile x.instrs) (nat_le (size_of (sent_of the_profile x)) room) refl e
  where
    go : (b d : Bool) → nat_le (size_of (sent_of the_profile x)) room ≡ d → ◌≡◌ {A = Option Sent} (Some (sent_seen s)) (if b then None else if d then Some (sent_of the_profile x) else None) → length s.body ≤ room
    go true d is f = cc
    go false false is f = cc
    go false true is f = let same = ap size_of (some_of f) in subst (λ n. n ≤ room) (sym same) (leb-true (size_of (sent_of the_profile x)) room is)

-- ---- the reply
pub copied_some : (r : Option (Bor (Given Instr))) (o : Option (Given Instr)) (none : Bool) → option_copied r ≡ o → is_some r ≡ not none → none ≡ false → is_some o ≡ true
copied_some None o none e f g = cc
copied_some (Some x) None none e f g = cc
copied_some (Some x) (Some y) none e f g = refl

-- an ident that isn't given
pub asked_nobody : (kept : Parts Instr State) (c cursor settled : ℕ) (o : Option Tables) (second : Bool) → at_ident c kept.idents ≡ None → asked kept c cursor settled o second ≡ as_before kept (refuses c 0 (ServerRefusal.NoSuchIdent (length kept.idents)))
asked_nobody kept c cursor settled o second e = ap (λ g. ask_by kept c cursor settled g (downloads o second c cursor)) e

module _ (kept : Parts Instr State) (c cursor settled : ℕ) (o : Option Tables) (second : Bool) (g : Given Instr) (is : at_ident c kept.idents ≡ Some g) where
  whole : asked kept c cursor settled o second ≡ ask_by kept c cursor settled (Some g) (downloads o second c cursor)
  whole = ap (λ g. ask_by kept c cursor settled g (downloads o second c cursor)) is

  pub asked_ahead : kept.len < cursor → asked kept c cursor settled o second ≡ as_before kept (refuses c 0 (ServerRefusal.AheadOfHistory kept.len))
  asked_ahead h =
      whole
      ∙ ap (λ b. if b then as_before kept (refuses c 0 (ServerRefusal.AheadOfHistory kept.len)) else if nat_lt cursor kept.floor then as_before kept (refuses c 0 (ServerRefusal.Trimmed kept.floor))
      else marking_by kept c g.mark cursor settled (downloads o second c cursor (drop (cursor - kept.floor) kept.entries)).answer) (lt-ltb kept.len cursor h)

  pub asked_below : cursor ≤ kept.len → cursor < kept.floor → asked kept c cursor settled o second ≡ as_before kept (refuses c 0 (ServerRefusal.Trimmed kept.floor))
  asked_below h l =
      whole
      ∙ ap (λ b. if b then as_before kept (refuses c 0 (ServerRefusal.AheadOfHistory kept.len)) else if nat_lt cursor kept.floor then as_before kept (refuses c 0 (ServerRefusal.Trimmed kept.floor))
      else marking_by kept c g.mark cursor settled (downloads o second c cursor (drop (cursor - kept.floor) kept.entries)).answer) (le-ltb kept.len cursor h)
      ∙ ap (λ b. if b then as_before kept (refuses c 0 (ServerRefusal.Trimmed kept.floor)) else marking_by kept c g.mark cursor settled (downloads o second c cursor (drop (cursor - kept.floor) kept.entries)).answer) (lt-ltb cursor kept.floor l)

  pub asked_here : cursor ≤ kept.len → kept.floor ≤ cursor → asked kept c cursor settled o second ≡ marking_by kept c g.mark cursor settled (downloads o second c cursor (drop (cursor - kept.floor) kept.entries)).answer
  asked_here h l =
      whole
      ∙ ap (λ b. if b then as_before kept (refuses c 0 (ServerRefusal.AheadOfHistory kept.len)) else if nat_lt cursor kept.floor then as_before kept (refuses c 0 (ServerRefusal.Trimmed kept.floor))
      else marking_by kept c g.mark cursor settled (downloads o second c cursor (drop (cursor - kept.floor) kept.entries)).answer) (le-ltb kept.len cursor h)
      ∙ ap (λ b. if b then as_before kept (refuses c 0 (ServerRefusal.Trimmed kept.floor)) else marking_by kept c g.mark cursor settled (downloads o second c cursor (drop (cursor - kept.floor) kept.entries)).answer) (le-ltb cursor kept.floor l)

-- all entries or those of some tables, by the form that the client takes
abbrev by_form : Bool → ℕ → ℕ → List (Changeset Instr) → ServerStep
by_form true = download the_profile
by_form false = download_first the_profile

each_given : (xs : List (Changeset Instr)) → xs ≡ given_to None xs
each_given [] = refl
each_given (x ∷ xs) = ap (λ l. x ∷ l) (each_given xs)

downloads_is : (o : Option Tables) (second : Bool) (c cursor : ℕ) (xs : List (Changeset Instr)) → downloads o second c cursor xs ≡ by_form second c cursor (given_to o xs)
downloads_is None true c cursor xs = ap (download the_profile c cursor) (each_given xs)
downloads_is None false c cursor xs = ap (download_first the_profile c cursor) (each_given xs)
downloads_is (Some tables) true c cursor xs = refl
downloads_is (Some tables) false c cursor xs = refl

first_is : (c cursor : ℕ) (xs : List (Changeset Instr)) → starts_second xs ≡ true → download_first the_profile c cursor xs ≡ refuses c 0 (ServerRefusal.NeedsForm2 cursor)
first_is c cursor [] e = cc
first_is c cursor (x ∷ xs) e = ap (λ b. if b then refuses c 0 (ServerRefusal.NeedsForm2 cursor) else download the_profile c cursor (first_form the_profile (x ∷ xs))) e

pub first_refused : (o : Option Tables) (c cursor : ℕ) (xs : List (Changeset Instr)) → starts_second (given_to o xs) ≡ true → downloads o false c cursor xs ≡ refuses c 0 (ServerRefusal.NeedsForm2 cursor)
first_refused o c cursor xs e = downloads_is o false c cursor xs ∙ first_is c cursor (given_to o xs) e

sent_by : (second : Bool) (c cursor : ℕ) (xs : List (Changeset Instr)) → (not second && starts_second xs) ≡ false → (by_form second c cursor xs).answer ≡ Message.Download c cursor (sendable second xs)
sent_by true c cursor xs e = refl
sent_by false c cursor [] e = refl
sent_by false c cursor (x ∷ xs) e = ap (λ b. (if b then refuses c 0 (ServerRefusal.NeedsForm2 cursor) else download the_profile c cursor (first_form the_profile (x ∷ xs))).answer) e

pub downloaded : (o : Option Tables) (second : Bool) (c cursor : ℕ) (xs : List (Changeset Instr)) → (not second && starts_second (given_to o xs)) ≡ false → (downloads o second c cursor xs).answer ≡ Message.Download c cursor (sendable second (given_to o xs))
downloaded o second c cursor xs e = ap (λ (s : ServerStep). s.answer) (downloads_is o second c cursor xs) ∙ sent_by second c cursor (given_to o xs) e

-- ---- the settled number
pub settles_not : (kept : Parts Instr State) (c cursor settled : ℕ) (o : Option Tables) (second : Bool) (g : Option (Given Instr)) → at_ident c kept.idents ≡ g → is_refusal (asked kept c cursor settled o second).answer ≡ true → Settles false (asked kept c cursor settled o second) kept c settled
settles_not kept c cursor settled o second None is e = subst (λ d. Settles false d kept c settled) (sym (asked_nobody kept c cursor settled o second is)) (record { records = refl; parts = refl })
settles_not kept c cursor settled o second (Some g) is e =
    let same = ap (λ g. ask_by kept c cursor settled g (downloads o second c cursor)) is in
    subst (λ d. Settles false d kept c settled) (sym same) (go (nat_lt kept.len cursor) (nat_lt cursor kept.floor) (ap (λ (d : Served Instr State). is_refusal d.answer) (sym same) ∙ e))
  where
    never : (a b : Bool) → (a && (b && false)) ≡ false
    never true true = refl
    never true false = refl
    never false b = refl

    go : (a b : Bool) → is_refusal (if a then as_before kept (refuses c 0 (ServerRefusal.AheadOfHistory kept.len)) else if b then as_before kept (refuses c 0 (ServerRefusal.Trimmed kept.floor)) else marking_by kept c g.mark cursor settled (downloads o second c cursor (drop (cursor - kept.floor) kept.entries)).answer).answer ≡ true
        → Settles false (if a then as_before kept (refuses c 0 (ServerRefusal.AheadOfHistory kept.len)) else if b then as_before kept (refuses c 0 (ServerRefusal.Trimmed kept.floor)) else marking_by kept c g.mark cursor settled (downloads o second c cursor (drop (cursor - kept.floor) kept.entries)).answer) kept c settled
    go true b f = record { records = refl; parts = refl }
    go false true f = record { records = refl; parts = refl }
    go false false f =
        let none : marks_new g.mark cursor settled (downloads o second c cursor (drop (cursor - kept.floor) kept.entries)).answer ≡ false = ap (λ t. nat_lt g.mark settled && (nat_le settled cursor && not t)) f ∙ never (nat_lt g.mark settled) (nat_le settled cursor) in
        record {
          records = ap (λ t. if t then ServerRecord.Settled c settled ∷ [] else []) none;
          parts = ap (λ t. if t then record kept { idents = marked c settled 1 kept.idents } else kept) none;
        }

pub settles_as : (kept : Parts Instr State) (c cursor settled : ℕ) (o : Option Tables) (second : Bool) (g : Given Instr) (b : Bool) → at_ident c kept.idents ≡ Some g → is_refusal (asked kept c cursor settled o second).answer ≡ false → settled ≤ cursor → b ≡ nat_lt g.mark settled → Settles b (asked kept c cursor settled o second) kept c settled
settles_as kept c cursor settled o second g b is e within b_is =
    let same = ap (λ g. ask_by kept c cursor settled g (downloads o second c cursor)) is in
    subst (λ d. Settles b d kept c settled) (sym same) (go (nat_lt kept.len cursor) (nat_lt cursor kept.floor) (ap (λ (d : Served Instr State). is_refusal d.answer) (sym same) ∙ e))
  where
    plain : (t : Bool) → (t && true) ≡ t
    plain true = refl
    plain false = refl

    go : (a d : Bool) → is_refusal (if a then as_before kept (refuses c 0 (ServerRefusal.AheadOfHistory kept.len)) else if d then as_before kept (refuses c 0 (ServerRefusal.Trimmed kept.floor)) else marking_by kept c g.mark cursor settled (downloads o second c cursor (drop (cursor - kept.floor) kept.entries)).answer).answer ≡ false
        → Settles b (if a then as_before kept (refuses c 0 (ServerRefusal.AheadOfHistory kept.len)) else if d then as_before kept (refuses c 0 (ServerRefusal.Trimmed kept.floor)) else marking_by kept c g.mark cursor settled (downloads o second c cursor (drop (cursor - kept.floor) kept.entries)).answer) kept c settled
    go true d f = cc
    go false true f = cc
    go false false f =
        let new : marks_new g.mark cursor settled (downloads o second c cursor (drop (cursor - kept.floor) kept.entries)).answer ≡ b =
        ap (λ t. nat_lt g.mark settled && (nat_le settled cursor && not t)) f ∙ ap (λ t. nat_lt g.mark settled && (t && true)) (le-leb settled cursor within) ∙ plain (nat_lt g.mark settled) ∙ sym b_is in
        record {
          records = ap (λ t. if t then ServerRecord.Settled c settled ∷ [] else []) new;
          parts = ap (λ t. if t then record kept { idents = marked c settled 1 kept.idents } else kept) new;
        }

pub settles_nobody : (kept : Parts Instr State) (c cursor settled : ℕ) (o : Option Tables) (second : Bool) → at_ident c kept.idents ≡ None → Settles false (asked kept c cursor settled o second) kept c settled
settles_nobody kept c cursor settled o second is = subst (λ d. Settles false d kept c settled) (sym (asked_nobody kept c cursor settled o second is)) (record { records = refl; parts = refl })

-- any reply but a refusal
pub plain_reply : (m : CodeMessage) → ((x y z t : ℕ) → m ≡ messages.Refused x y z t → ⊥) → is_refusal (message_seen m) ≡ false
plain_reply (messages.Bind uuid) h = refl
plain_reply (messages.Ident given) h = refl
plain_reply (messages.Upload upload) h = refl
plain_reply (messages.Ask ask) h = refl
plain_reply (messages.Download download) h = refl
plain_reply (messages.Refused ident number code place) h = absurd (h ident number code place refl)
plain_reply (messages.Stored stored) h = refl
plain_reply (messages.Ask2 ask) h = refl
plain_reply (messages.Retire retire) h = refl
plain_reply (messages.Retired retired) h = refl
plain_reply (messages.AskTables asked) h = refl
