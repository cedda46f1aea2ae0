-- Where all that clients make is harmless, the server refuses no upload and no question, and a client takes what it is told.
use Rattle.std.proofs.Common.{◌≡◌, ⊎_elim, ℕ, ◌-◌, ◌≤◌, Bool, true, false, not, List, [], ◌∷◌, Some, Result, Ok, Err, refl, sym, ap, ◌∙◌, subst, arith, if◌then◌else◌, ◌==◌, length, drop, map, nat_lt}
use Rattle.std.proofs.lemmas.Bool.Decides.{nat_tests}
use Rattle.sync_theory.specs.Changesets.{Changeset}
use Rattle.sync_theory.specs.Logs.{made_at}
use Rattle.sync_theory.proofs.Server.{test_true}
use Rattle.sync_model.specs.Profile.{Profile, Lawful, needs}
use Rattle.sync_model.specs.Snapshots.{Buildable}
use Rattle.sync_model.specs.Messages.{Change, Sent, Message, Upload, Ask, Ask2, Download, Stored}
use Rattle.sync_model.specs.Clients.{Client, ClientRefusal, ClientStep, NotMine, Unsent, changeset_of, answers, refuse, if_born, question, settled_from, Gap, client_of, take_entries, take_born, take as take_message}
use Rattle.sync_model.specs.Servers.{Server, ServerStep, NoSuchIdent, AheadOfHistory, Settled, NeedsForm2, server_of, after_all, is_given, marks_new, marking, serve, serve_changes, sent_of, download, download_first, first_form, if_there, entries_from, refuses}
use Rattle.sync_model.specs.Worlds.{Node, World, at, ident_is}
use Rattle.sync_model.specs.Log.{ident_by, ident_of, made, order, NamedFacts}
use Rattle.sync_model.specs.Each.{Each, no_more, and_each}
use Rattle.sync_model.specs.Harmless.{AreHarmless, IsHarmless}
use Rattle.sync_model.specs.Progress.{load}
use Rattle.sync_model.proofs.Facts.{made_same}
use Rattle.sync_model.proofs.Lists.{seek_map}
use Rattle.sync_model.proofs.Sim.{uuid_of}
use Rattle.sync_model.proofs.Calling.{NamedAs, named_as, mine}
use Rattle.sync_model.proofs.Fair.{Answers, answers_by, given_so}
use Rattle.sync_model.proofs.Own.{if_false, if_true}
use Rattle.sync_model.proofs.Progress.Batches.{fitting_each, fitting_few}
use Rattle.sync_model.proofs.Progress.Harmless.{pending_of, made_sets}
use Rattle.sync_model.proofs.Progress.Rounds.{stops_it}
use Rattle.sync_model.proofs.Progress.Serves.{IsOfTake, has_served, has_taken}
use Rattle.sync_model.proofs.Progress.Turns.{Undisturbed, entries_count, entries_old, entries_sent, fewer, log_within, mades_of}
use Rattle.sync_model.proofs.Progress.Unhindered.{Fewer, lasts, never_refused, takes_all}
use Rattle.sync_model.proofs.Progress.Valid.{Valid, valid_facts}

not_below : (a b : ℕ) → b ≤ a → nat_lt a b ≡ false
not_below a b le = on (nat_lt a b) refl
  where
    on : (t : Bool) → nat_lt a b ≡ t → t ≡ false
    on true e = absurd (grind (arith, nat_tests))
    on false e = refl

module _ {I S : Type 0} (p : Profile I S) where
  -- the entries that a client lacks
  abbrev pub lacked : Server I → Client I S → List Sent
  lacked s st = map (sent_of p) (entries_from p s.log (length s.log - st.cursor) st.cursor)

  -- the server tells as many as a message bears, and its history stays
  pub record Tells (s : Server I) (st : Client I S) (did : ServerStep) : Type 0 where
    pub answer : did.answer ≡ Download st.ident st.cursor (load p (lacked s st))
    pub log : (after_all p s did.records).log ≡ s.log

  -- a client and the server of a world refuse nothing that was made in it: an upload, a question, and the answers to them
  pub record RefusesNone (v : World) (st : Client I S) : Type 0 where
    pub stores : (k : ℕ) (hs : List Change) → at v.messages k ≡ Some (Upload st.ident hs) → (number : ℕ) × ((serve p (server_of p v.server) (Upload st.ident hs)).answer ≡ Stored st.ident number)
    pub hears : (number : ℕ) → take_message p st (Stored st.ident number) ≡ answers st.cursor
    pub tells : Tells (server_of p v.server) st (serve p (server_of p v.server) (question st st.subset))
    pub takes : (k : ℕ) → at v.messages k ≡ Some (Download st.ident st.cursor (load p (lacked (server_of p v.server) st))) → (why : ClientRefusal) → (take_message p st (Download st.ident st.cursor (load p (lacked (server_of p v.server) st)))).answer ≡ Err why → ⊥

module _ {I S : Type 0} (p : Profile I S) (of : ℕ → ℕ → List I → Type 0) (most size : ℕ) (harmless : AreHarmless p of most size) {Fits Bounded Old : S → Type 0} (law : Lawful p Fits) (built : Buildable p Fits Bounded Old) (within : most ≤ p.full) where
  module _ (v : World) (valid : Valid p v) (h : IsHarmless p of most v) (i : ℕ) (nd : Node) (here : at v.clients i ≡ Some nd) where
    abbrev s : Server I
    s = server_of p v.server

    abbrev st : Client I S
    st = client_of p nd.records

    so : Undisturbed p of most size harmless (server_of p v.server).ids v.clients
    so = record {
      own = λ c ne small. seek_map (uuid_of p) (ident_is (server_of p v.server).ids c) v.clients ∙ h.own c ne small;
      clients = λ j x there. let f = h.clients j x there in record { named = f.named; all_tables = f.tables; made = f.made };
      few = h.few;
    }

    named : NamedAs p law (server_of p v.server) v.injected valid.holds.n (client_of p nd.records)
    named = named_as p law (server_of p v.server) v.injected v.clients valid.holds.n valid.holds.sim i nd here (h.clients i nd here).named

    given : is_given (server_of p v.server) (client_of p nd.records).ident ≡ true
    given = given_so p law v.clients v.injected (server_of p v.server) valid.holds.n valid.holds.sim (client_of p nd.records).ident (mine p law (server_of p v.server) v.injected v.clients valid.holds.n valid.holds.sim i nd here named (h.clients i nd here).named)

    reach : (client_of p nd.records).cursor ≤ length (server_of p v.server).log
    reach = subst (λ l. (client_of p nd.records).cursor ≤ length l) valid.holds.sim.log_is named.given.reach

    -- ---- an upload

    stored : (k : ℕ) (hs : List Change) → at v.messages k ≡ Some (Upload (client_of p nd.records).ident hs) → Answers (λ why. ⊥) (serve_changes p (server_of p v.server) (client_of p nd.records).ident hs).answer
    stored k hs there =
        let t = valid.holds.tells k (Upload (client_of p nd.records).ident hs) there in
        answers_by p law v.clients v.injected (Fewer p of most size harmless law within) (λ why. ⊥) (never_refused p of most size harmless law within v.clients v.injected) (lasts p of most size harmless law within v.clients v.injected) hs (server_of p v.server) valid.holds.n valid.holds.sim (client_of p nd.records).ident t.1.from t.0.given t.0.there t.0.own t.1.known t.1.changes
        (fewer p of most size harmless law built within v valid.holds so i nd here)

    -- the server has stored all of it
    upload_stored : (k : ℕ) (hs : List Change) → at v.messages k ≡ Some (Upload (client_of p nd.records).ident hs) → (number : ℕ) × ((serve p (server_of p v.server) (Upload (client_of p nd.records).ident hs)).answer ≡ Stored (client_of p nd.records).ident number)
    upload_stored k hs there =
        let to = if_true (is_given (server_of p v.server) (client_of p nd.records).ident) (serve_changes p (server_of p v.server) (client_of p nd.records).ident hs) (refuses (client_of p nd.records).ident 0 (NoSuchIdent (length (server_of p v.server).ids))) given in
        ⊎_elim
        (λ a. (_, ap (λ d. d.answer) to ∙ a.0))
        (λ a. let t = subst (Answers (λ why. ⊥)) a.2 (stored k hs there) in absurd t.3)
        (has_served p hs (server_of p v.server) (client_of p nd.records).ident).answer

    -- the client takes that
    stored_taken : (number : ℕ) → take_message p (client_of p nd.records) (Stored (client_of p nd.records).ident number) ≡ answers (client_of p nd.records).cursor
    stored_taken number = ap (λ o. if_born o (take_born p (client_of p nd.records) (Stored (client_of p nd.records).ident number))) named.born ∙ if_true ((client_of p nd.records).ident == (client_of p nd.records).ident) (answers (client_of p nd.records).cursor) (refuse NotMine) (test_true (client_of p nd.records).ident (client_of p nd.records).ident refl)

    -- ---- a question

    marks_keep : (s : Server I) (c mark cursor settled : ℕ) (m : Message) → (after_all p s (marking c mark cursor settled m).records).log ≡ s.log
    marks_keep s c mark cursor settled m = on (marks_new mark cursor settled m)
      where
        on : (t : Bool) → (after_all p s (if t then Settled c settled ∷ [] else [])).log ≡ s.log
        on true = refl
        on false = refl

    told_by : (go : List (Changeset I) → ServerStep) → (go (entries_from p s.log (length s.log - st.cursor) st.cursor)).answer ≡ Download st.ident st.cursor (load p (lacked p s st)) → Tells p s st (if_there p s st.ident st.cursor (settled_from st.cursor st.unsent) go)
    told_by go is =
        let to = ap (λ t. if not t then refuses st.ident 0 (NoSuchIdent (length s.ids)) else (if nat_lt (length s.log) st.cursor then refuses st.ident 0 (AheadOfHistory (length s.log)) else marking st.ident (s.marks st.ident) st.cursor (settled_from st.cursor st.unsent) (go (entries_from p s.log (length s.log - st.cursor) st.cursor)).answer)) given
        ∙ if_false (nat_lt (length s.log) st.cursor) (refuses st.ident 0 (AheadOfHistory (length s.log))) (marking st.ident (s.marks st.ident) st.cursor (settled_from st.cursor st.unsent) (go (entries_from p s.log (length s.log - st.cursor) st.cursor)).answer) (not_below (length s.log) st.cursor reach) in
        let m = marks_keep s st.ident (s.marks st.ident) st.cursor (settled_from st.cursor st.unsent) (go (entries_from p s.log (length s.log - st.cursor) st.cursor)).answer in
        record { answer = ap (λ d. d.answer) to ∙ is; log = ap (λ d. (after_all p s d.records).log) to ∙ m }

    all_first : (xs : List (Changeset I)) → Each (λ x. needs p x.instrs ≡ false) xs → first_form p xs ≡ xs
    all_first [] no_more = refl
    all_first (x ∷ xs) (and_each f fs) = if_false (needs p x.instrs) [] (x ∷ first_form p xs) f ∙ ap (λ l. x ∷ l) (all_first xs fs)

    of_first : (xs : List (Changeset I)) → Each (λ x. needs p x.instrs ≡ false) xs → (download_first p st.ident st.cursor xs).answer ≡ Download st.ident st.cursor (load p (map (sent_of p) xs))
    of_first [] no_more = refl
    of_first (x ∷ xs) (and_each f fs) = ap (λ d. d.answer) (if_false (needs p x.instrs) (refuses st.ident 0 (NeedsForm2 st.cursor)) (download p st.ident st.cursor (first_form p (x ∷ xs))) f) ∙ ap (λ l. Download st.ident st.cursor (load p (map (sent_of p) l))) (all_first (x ∷ xs) (and_each f fs))

    told : Tells p (server_of p v.server) (client_of p nd.records) (serve p (server_of p v.server) (question (client_of p nd.records) (client_of p nd.records).subset))
    told = subst (λ o. Tells p (server_of p v.server) (client_of p nd.records) (serve p (server_of p v.server) (question (client_of p nd.records) o))) (sym (h.clients i nd here).tables) (by_form st.second)
      where
        by_form : (t : Bool) → Tells p s st (serve p s (if t then Ask2 st.ident st.cursor (settled_from st.cursor st.unsent) else Ask st.ident st.cursor (settled_from st.cursor st.unsent)))
        by_form true = told_by (download p st.ident st.cursor) refl
        by_form false = told_by (download_first p st.ident st.cursor) (of_first (entries_from p s.log (length s.log - st.cursor) st.cursor) (entries_old p of most size harmless law built within v valid.holds so (length s.log - st.cursor) st.cursor (let r = reach in omega arith)))

    -- ---- the client takes what it is told

    -- what it has unsent is harmless as it stands
    unsent_of : Each (λ u. of st.ident st.cursor u.current) st.unsent
    unsent_of = ⊎_elim (λ f. at_world f.1) (λ f. absurd ((h.clients i nd here).named (sym ident_is ∙ f.0))) ((valid_facts p law built v valid).clients i nd here)
      where
        ident_is : ident_of p v nd ≡ st.ident
        ident_is = ap (ident_by s.ids) named.born ∙ named.place

        each_back : (c n : ℕ) (us : List (Unsent I)) → Each (λ x. of c n x.instrs) (map (changeset_of c) us) → Each (λ x. of c n x.current) us
        each_back c n [] f = no_more
        each_back c n (x ∷ us) (and_each f fs) = and_each f (each_back c n us fs)

        at_world : NamedFacts p v nd → Each (λ u. of st.ident st.cursor u.current) st.unsent
        at_world f =
            let le = log_within p of most size harmless law built within v valid.holds so in
            let in_it = f.within in
            let mades = mades_of p of most size harmless law built within v valid.holds so in
            let all = pending_of p of most size harmless (made p v) (order p v) (λ c k. subst (λ l. Each (λ x. of c 0 x.instrs) (made_at l k)) (sym (made_same p law v valid.holds c)) (made_sets p of most size harmless c (valid.holds.n.mades c) k (mades c))) st.cursor (ident_of p v nd) (omega arith) in
            each_back st.ident st.cursor st.unsent (subst (λ c. Each (λ x. of c st.cursor x.instrs) (map (changeset_of c) st.unsent)) ident_is (subst (Each (λ x. of (ident_of p v nd) st.cursor x.instrs)) (sym f.unsent) all))

    took_download : (es : List Sent) → take_message p st (Download st.ident st.cursor es) ≡ take_entries p st es
    took_download es =
        let nothing : st.cursor - st.cursor ≡ 0 = omega arith in
        ap (λ o. if_born o (take_born p st (Download st.ident st.cursor es))) named.born
        ∙ if_true (st.ident == st.ident) _ (refuse NotMine) (test_true st.ident st.ident refl)
        ∙ if_false (nat_lt st.cursor st.cursor) (refuse (Gap st.cursor st.cursor)) (take_entries p st (drop (st.cursor - st.cursor) es)) (not_below st.cursor st.cursor (omega arith))
        ∙ ap (λ k. take_entries p st (drop k es)) nothing

    told_taken : (k : ℕ) → at v.messages k ≡ Some (Download st.ident st.cursor (load p (lacked p s st))) → (why : ClientRefusal) → (take_message p st (Download st.ident st.cursor (load p (lacked p s st)))).answer ≡ Err why → ⊥
    told_taken k there why e =
        let es : List Sent = load p (lacked p s st) in
        let to = took_download es in
        let x = has_taken p es st in
        let few = fitting_few (λ (z : Sent). length z.body) p.most p.room (lacked p s st) in
        let many = entries_count p of most size harmless law built within v valid.holds so (length s.log - st.cursor) st.cursor (let r = reach in omega arith) in
        let in_it = reach in
        let bounded = log_within p of most size harmless law built within v valid.holds so in
        let e2 : (take_entries p st es).answer ≡ Err why = sym (ap (λ (d : ClientStep ℕ). d.answer) to) ∙ e in
        let go = takes_all p of most size harmless law within (load p (lacked p s st)) st st.cursor (omega arith) unsent_of
        (fitting_each (λ (z : Sent). length z.body) p.most p.room (lacked p s st) (entries_sent p of most size harmless law built within v valid.holds so (length s.log - st.cursor) st.cursor (let r = reach in omega arith))) in
        ⊎_elim
        (λ a. absurd (never_both (take_entries p st es).answer _ why a.0 e2))
        (λ a. go why e2 (stops_it why ((valid_facts p law built v valid).declines k (Download st.ident st.cursor (load p (lacked p s st))) there i nd here why e) (of_take (take_entries p st es).answer a.0 why a.1 e2 a.2)))
        x.ends
      where
        never_both : (r : Result ℕ ClientRefusal) (n : ℕ) (why : ClientRefusal) → r ≡ Ok n → r ≡ Err why → ⊥
        never_both r n why e f = cc

        of_take : (r : Result ℕ ClientRefusal) (a b : ClientRefusal) → r ≡ Err a → r ≡ Err b → IsOfTake a → IsOfTake b
        of_take r a b e f h = let same : a ≡ b = cc in subst IsOfTake same h

    pub refuses_none : RefusesNone p v (client_of p nd.records)
    refuses_none = record { stores = upload_stored; hears = stored_taken; tells = told; takes = told_taken }
