-- The model's transaction, from what the code found.
use Rattle.std.proofs.Common.{◌≡◌, ℕ, suc, ◌+◌, Bool, true, false, not, ◌&&◌, List, [], ◌∷◌, ◌++◌, length, Some, Ok, refl, ap, ◌∙◌, sym, subst, ◌==◌, if◌then◌else◌, add-one}
use Rattle.std.proofs.lemmas.Bool.{eq-eqb}
use Rattle.sync_theory.specs.Lists.{ok_state, run}
use Rattle.sync_data.specs.declared.instr.Instr.{Instr}
use Rattle.sync_data.specs.Payload.{Changes, IsSmall}
use Rattle.sync_base.specs.Checks.{act_all}
use Rattle.sync_base.specs.States.{State}
use Rattle.sync_codec.specs.Spelling.{spelling}
use Rattle.sync_codec.specs.Valid.{AreInstrs}
use Rattle.sync_model.specs.Profile.{act, all_admitted, apply_all, needs, first_need, first_outside}
use Rattle.sync_model.specs.Clients.{Break, ClientRecord, ClientStep, NotSubscribed, NumbersFull, OldForm, TooLarge, Unsent, appends, as_made, commit_applied, commit_born, makes, ok_list, refuse, state_or}
use Rattle.sync_model.proofs.Own.{if_true, if_false}
use Rattle.sync_exchange.specs.Profile.{fits_changeset, the_profile, unspell}
use Rattle.sync_exchange.specs.Lemmas.Coded.{all_act, first_break}
use Rattle.sync_exchange.specs.Lemmas.Lawful.{fitting_small, instrs_small, reads}
use Rattle.sync_exchange.specs.Lemmas.Strings.{whole_each}
use Rattle.sync_client.specs.declared.refusal.ClientRefusal.{ClientRefusal as CodeRefusal}
use Rattle.sync_client.specs.declared.refusal.ClientRefusal.TheVariants as codes
use Rattle.sync_client.specs.declared.replica.Replica.{Replica}
use Rattle.sync_client.specs.declared.transactions.Made.{Made}
use Rattle.sync_client.specs.Entries.{Breaks}
use Rattle.sync_client.specs.Refusals.{refusal_seen, IfSeen}
use Rattle.sync_client.specs.Seen.{Past, and_made, seen}
use Rattle.sync_client.specs.Transactions.{Committed, RefusesEdits, Uncommitted, next_original}
use Rattle.sync_client.proofs.Acting.{run_applied}
use Rattle.sync_client.proofs.Refusing.{differ}

negated : (b : Bool) → (b ≡ true → ⊥) → not b ≡ true
negated true h = absurd (h refl)
negated false h = refl

pub too_large : (past : Past) (r : Replica) (ms : ℕ) (is : List Instr) → ¬ (IsSmall is) → Uncommitted past r r ms is TooLarge
too_large past r ms is large = record { step = if_true (not (fits_changeset is)) _ _ (negated (fits_changeset is) (λ e. large (fitting_small is e))); unchanged = refl }

-- what is left behind each test
abbrev applied : Past → Replica → ℕ → List Instr → ClientStep ℕ
applied past r ms is = commit_applied (suc (length past.made)) (ClientRecord.Made (suc (length past.made)) ms (spelling is)) (apply_all the_profile is r.objects)

abbrev subscribed : Past → Replica → ℕ → List Instr → ClientStep ℕ
subscribed past r ms is = if not (all_admitted the_profile r.subset is) then refuse (NotSubscribed (first_outside the_profile r.subset is)) else applied past r ms is

abbrev formed : Past → Replica → ℕ → List Instr → ClientStep ℕ
formed past r ms is = if needs the_profile is && not r.second then refuse (OldForm (first_need the_profile is)) else subscribed past r ms is

behind : (past : Past) (r : Replica) (ms : ℕ) (is : List Instr) → AreInstrs is → commit_born the_profile (seen past r) ms is ≡ (if length past.made == 4294967295 then refuse NumbersFull else formed past r ms is)
behind past r ms is v = if_false (not (fits_changeset is)) _ _ (ap not (instrs_small is v))

pub numbers_full : (past : Past) (r : Replica) (ms : ℕ) (is : List Instr) → AreInstrs is → length past.made ≡ r.count → r.count ≡ 4294967295 → Uncommitted past r r ms is NumbersFull
numbers_full past r ms is v n full = record { step = behind past r ms is v ∙ if_true (length past.made == 4294967295) _ _ (eq-eqb _ _ (n ∙ full)); unchanged = refl }

room : (past : Past) (r : Replica) (ms : ℕ) (is : List Instr) → AreInstrs is → length past.made ≡ r.count → ¬ (r.count ≡ 4294967295)
    → commit_born the_profile (seen past r) ms is ≡ formed past r ms is
room past r ms is v n some = behind past r ms is v ∙ if_false (length past.made == 4294967295) _ _ (differ (length past.made) 4294967295 (λ e. some (sym n ∙ e)))

pub old_form : (past : Past) (r : Replica) (ms : ℕ) (is : List Instr) (why : CodeRefusal) → AreInstrs is → length past.made ≡ r.count → ¬ (r.count ≡ 4294967295)
    → (needs the_profile is && not r.second) ≡ true → why ≡ codes.OldForm (first_need the_profile is) → IfSeen (refusal_seen why) (Uncommitted past r r ms is)
old_form past r ms is why v n some old e =
    subst (λ w. IfSeen (refusal_seen w) (Uncommitted past r r ms is)) (sym e) (record { step = room past r ms is v n some ∙ if_true (needs the_profile is && not r.second) _ _ old; unchanged = refl })

within : (past : Past) (r : Replica) (ms : ℕ) (is : List Instr) → AreInstrs is → length past.made ≡ r.count → ¬ (r.count ≡ 4294967295) → (needs the_profile is && not r.second) ≡ false
    → commit_born the_profile (seen past r) ms is ≡ subscribed past r ms is
within past r ms is v n some fine = room past r ms is v n some ∙ if_false (needs the_profile is && not r.second) _ _ fine

pub not_subscribed : (past : Past) (r : Replica) (ms : ℕ) (is : List Instr) (why : CodeRefusal) → AreInstrs is → length past.made ≡ r.count → ¬ (r.count ≡ 4294967295) → (needs the_profile is && not r.second) ≡ false
    → all_admitted the_profile r.subset is ≡ false → why ≡ codes.NotSubscribed (first_outside the_profile r.subset is) → IfSeen (refusal_seen why) (Uncommitted past r r ms is)
not_subscribed past r ms is why v n some fine outside e =
    subst (λ w. IfSeen (refusal_seen w) (Uncommitted past r r ms is)) (sym e) (record { step = within past r ms is v n some fine ∙ if_true (not (all_admitted the_profile r.subset is)) _ _ (ap not outside); unchanged = refl })

acting : (past : Past) (r : Replica) (ms : ℕ) (is : List Instr) → AreInstrs is → length past.made ≡ r.count → ¬ (r.count ≡ 4294967295) → (needs the_profile is && not r.second) ≡ false → all_admitted the_profile r.subset is ≡ true
    → commit_born the_profile (seen past r) ms is ≡ applied past r ms is
acting past r ms is v n some fine inside = within past r ms is v n some fine ∙ if_false (not (all_admitted the_profile r.subset is)) _ _ (ap not inside)

breaks : (past : Past) (r t : Replica) (ms : ℕ) (is : List Instr) (place code : ℕ) → AreInstrs is → length past.made ≡ r.count → ¬ (r.count ≡ 4294967295) → (needs the_profile is && not r.second) ≡ false → all_admitted the_profile r.subset is ≡ true
    → Breaks is r.objects place code → t ≡ r → Uncommitted past r t ms is (Break place code)
breaks past r t ms is place code v n some fine inside b same =
    let broken = first_break is r.objects place b.cause (whole_each is v) b.at in
    record {
      step = acting past r ms is v n some fine inside ∙ ap (commit_applied (suc (length past.made)) (ClientRecord.Made (suc (length past.made)) ms (spelling is))) broken ∙ ap (λ (k : ℕ). refuse (Break place k)) (sym b.code_is);
      unchanged = same;
    }

pub edits_refused : (past : Past) (r t : Replica) (ms : ℕ) (is : List Instr) (why : CodeRefusal) → AreInstrs is → length past.made ≡ r.count → ¬ (r.count ≡ 4294967295) → (needs the_profile is && not r.second) ≡ false → all_admitted the_profile r.subset is ≡ true
    → RefusesEdits r t is why → IfSeen (refusal_seen why) (Uncommitted past r t ms is)
edits_refused past r t ms is (codes.Break place code) v n some fine inside h = breaks past r t ms is place code v n some fine inside h.0 h.1
edits_refused past r t ms is codes.NoMemory v n some fine inside h = tt
edits_refused past r t ms is codes.Closed v n some fine inside h = absurd h
edits_refused past r t ms is codes.NotBorn v n some fine inside h = absurd h
edits_refused past r t ms is codes.AlreadyBorn v n some fine inside h = absurd h
edits_refused past r t ms is codes.NotNamed v n some fine inside h = absurd h
edits_refused past r t ms is codes.TooLarge v n some fine inside h = absurd h
edits_refused past r t ms is codes.NumbersFull v n some fine inside h = absurd h
edits_refused past r t ms is (codes.OldForm place) v n some fine inside h = absurd h
edits_refused past r t ms is (codes.NotSubscribed place) v n some fine inside h = absurd h
edits_refused past r t ms is codes.NotMine v n some fine inside h = absurd h
edits_refused past r t ms is (codes.IdentDiffers kept got) v n some fine inside h = absurd h
edits_refused past r t ms is (codes.Gap cursor from) v n some fine inside h = absurd h
edits_refused past r t ms is (codes.BadBody version offset rule) v n some fine inside h = absurd h
edits_refused past r t ms is (codes.OldEntry version) v n some fine inside h = absurd h
edits_refused past r t ms is (codes.Mismatch version number kind) v n some fine inside h = absurd h
edits_refused past r t ms is (codes.Forked number) v n some fine inside h = absurd h
edits_refused past r t ms is (codes.NotApplicable version place code) v n some fine inside h = absurd h
edits_refused past r t ms is (codes.WasRefused number code) v n some fine inside h = absurd h
edits_refused past r t ms is codes.Subscribed v n some fine inside h = absurd h
edits_refused past r t ms is codes.TooLate v n some fine inside h = absurd h
edits_refused past r t ms is codes.DiskFault v n some fine inside h = absurd h

pub committed : (past : Past) (r t : Replica) (ms : ℕ) (is : List Instr) (m : Made) (objects : State) → AreInstrs is → length past.made ≡ r.count → ¬ (r.count ≡ 4294967295) → (needs the_profile is && not r.second) ≡ false → all_admitted the_profile r.subset is ≡ true
    → act_all is r.objects ≡ Some objects → m.number ≡ r.count + 1 → m.body.items ≡ spelling is
    → t ≡ record r { count = r.count + 1; objects = objects; unsent = r.unsent ++ as_made (next_original r (r.count + 1) ms is) ∷ [] }
    → Committed past r t ms is m
committed past r t ms is m objects v n some fine inside acts number body after =
    let went = all_act is r.objects objects acts in
    let count : suc (length past.made) ≡ m.number = ap suc n ∙ sym (add-one r.count) ∙ sym number in
    let ran : run (act the_profile) is r.objects ≡ Some objects = run_applied the_profile is r.objects ∙ ap ok_state went in
    let back : unspell m.body.items ≡ Ok is = reads m.body.items is v body in
    record {
      step = acting past r ms is v n some fine inside
          ∙ ap (commit_applied (suc (length past.made)) (ClientRecord.Made (suc (length past.made)) ms (spelling is))) went
          ∙ ap (λ k. appends (ClientRecord.Made k ms (spelling is)) k) count
          ∙ ap (λ bs. appends (ClientRecord.Made m.number ms bs) m.number) (sym body);
      after = ap (seen (and_made past (next_original r m.number ms is))) after
          ∙ ap (λ k. seen (and_made past (next_original r m.number ms is)) (record r { count = r.count + 1; objects = objects; unsent = r.unsent ++ as_made (next_original r k ms is) ∷ [] })) (sym number)
          ∙ ap (λ z. record (seen (and_made past (next_original r m.number ms is)) r) { objects = state_or r.objects z; unsent = r.unsent ++ as_made (next_original r m.number ms is) ∷ [] }) (sym ran)
          ∙ ap (λ q. makes the_profile (seen past r) (record { base = r.cursor; number = m.number; ms = ms; instrs = ok_list q })) (sym back);
      count = ap (λ (q : Replica). q.count) after ∙ add-one r.count;
    }

-- the client behind the call
pub made_so : (r q : Replica) (v : Changes) (u : Unsent Instr) (us : List (Unsent Instr)) (ms : ℕ) (is : List Instr) → q ≡ record r { objects = q.objects } → v ≡ record { ms = ms; instrs = is } → u ≡ as_made (record { base = q.cursor; number = q.count + 1; ms = v.ms; instrs = v.instrs }) → us ≡ q.unsent ++ u ∷ []
    → record q { count = q.count + 1; unsent = us } ≡ record r { count = r.count + 1; objects = q.objects; unsent = r.unsent ++ as_made (next_original r (r.count + 1) ms is) ∷ [] }
made_so r q v u us ms is others e f g =
    let item : u ≡ as_made (next_original q (q.count + 1) ms is) = f ∙ ap (λ (w : Changes). as_made (record { base = q.cursor; number = q.count + 1; ms = w.ms; instrs = w.instrs })) e in
    ap (λ (xs : List (Unsent Instr)). record q { count = q.count + 1; unsent = xs }) (g ∙ ap (λ (x : Unsent Instr). q.unsent ++ x ∷ []) item)
    ∙ ap (λ (z : Replica). record z { count = z.count + 1; unsent = z.unsent ++ as_made (next_original z (z.count + 1) ms is) ∷ [] }) others

pub not_small : false ≡ true → ⊥
not_small e = cc

-- the changeset holds the instructions that were given
pub committed_read : (past : Past) (r t : Replica) (ms : ℕ) (is : List Instr) (v : Changes) (m : Made) (objects : State) → v ≡ record { ms = ms; instrs = is } → AreInstrs v.instrs → length past.made ≡ r.count → ¬ (r.count ≡ 4294967295) → (needs the_profile v.instrs && not r.second) ≡ false → all_admitted the_profile r.subset v.instrs ≡ true
    → act_all v.instrs r.objects ≡ Some objects → m.number ≡ r.count + 1 → m.body.items ≡ spelling v.instrs
    → t ≡ record r { count = r.count + 1; objects = objects; unsent = r.unsent ++ as_made (next_original r (r.count + 1) ms is) ∷ [] }
    → Committed past r t ms is m
committed_read past r t ms is v m objects e valid n some fine inside acts number body after =
    let same : v.instrs ≡ is = ap (λ (w : Changes). w.instrs) e in
    committed past r t ms is m objects (subst AreInstrs same valid) n some (subst (λ js. (needs the_profile js && not r.second) ≡ false) same fine) (subst (λ js. all_admitted the_profile r.subset js ≡ true) same inside) (subst (λ js. act_all js r.objects ≡ Some objects) same acts) number (body ∙ ap spelling same) after
