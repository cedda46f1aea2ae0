-- One change of an old client, taken by its heir: what is appended, what is answered, and that a repeat is known.
use Rattle.std.proofs.Common.{◌≡◌, ◌≢◌, ℕ, zero, suc, ◌+◌, ◌<◌, ◌≤◌, Bool, true, false, ◌&&◌, not, List, [], ◌∷◌, ◌++◌, Option, Some, None, Result, Ok, Err, refl, sym, ap, ap₂, ◌∙◌, subst, arith, append-nil, if◌then◌else◌, ◌==◌, length, take, map, nat_le, nat_lt, eqb-true}
use Rattle.std.proofs.lemmas.Bool.Decides.{nat_tests}
use Rattle.std.proofs.lemmas.Bool.{ltb-false}
use Rattle.sync_theory.proofs.Logs.{length_snoc}
use Rattle.sync_theory.proofs.Server.{test_true}
use Rattle.sync_model.specs.Bytes.{Uuid}
use Rattle.sync_model.specs.Profile.{Profile, Lawful, apply_all, is_small, needs, first_need, all_admitted, first_outside}
use Rattle.sync_model.specs.Messages.{Change}
use Rattle.sync_model.specs.Clients.{Client, ClientRecord, Born, Named, Made, Took, Form, Subset, Part, Floor, ClientRefusal, NotBorn, TooLarge, NumbersFull, OldForm, NotSubscribed, Break, Original, ClientStep, refuse, if_born, ok_list, no_client, after_record, after_records, makes, last, commit, commit_born, commit_applied, Resumed, Waits}
use Rattle.sync_model.specs.Files.{is_growing, client_admits, client_opens}
use Rattle.sync_model.specs.Limits.{ClientNumbers}
use Rattle.sync_model.specs.Each.{no_more}
use Rattle.sync_model.specs.Worlds.{is_there}
use Rattle.sync_model.specs.Resets.{saved, HeirAnswer, Integrated, Known, SavedAs, ResetRefusal, NotMine, Skips, BadChange, ByClient, HeirStep, heir_refuses, heir_says, heir_answer, heir_commits, heir_read, heir}
use Rattle.sync_model.specs.Recovery.{MayStop, StopsAt, SavesNow}
use Rattle.sync_model.proofs.Acknowledged.{committed, small_edits}
use Rattle.sync_model.proofs.Limits.{both, commit_fits, Fit}
use Rattle.sync_model.proofs.Opening.{Opens, commit_opens}
use Rattle.sync_model.proofs.Calling.{took_cursor}
use Rattle.sync_model.proofs.Saving.{lists_drops, kept_small}
use Rattle.sync_model.proofs.Small.{read_small}

-- a refusal that isn't the client's
abbrev pub IsOwn : ResetRefusal → Type 0
IsOwn NotMine = Unit {0}
IsOwn (Skips expected got) = Unit {0}
IsOwn (BadChange number offset rule) = Unit {0}
IsOwn (ByClient why) = ⊥

module _ {I S : Type 0} (p : Profile I S) where
  -- whatever holds of a refusal, of an answer without records and of a commit holds of the heir's step
  pub heir_cases : (P : HeirStep → Type 0) (c : Client I S) (by count : ℕ) (h : Change) → ((why : ResetRefusal) → IsOwn why → P (heir_refuses why)) → ((a : HeirAnswer) → P (heir_says a)) → ((is : List I) → p.unspell h.body ≡ Ok is → P (heir_commits (saved p c.objects is).dropped (commit p c h.ms (saved p c.objects is).kept))) → P (heir p c by count h)
  heir_cases P c by count h refuses says commits = go (not (by == c.ident)) (nat_lt (suc (count + last c)) h.number) (nat_le h.number count) (nat_le h.number (count + last c))
    where
      read : (r : Result (List I) (ℕ × ℕ)) → p.unspell h.body ≡ r → P (heir_read p c h r)
      read (Ok is) e = commits is e
      read (Err f) e = refuses (BadChange h.number f.0 f.1) tt

      go : (a b d e : Bool) → P (if a then heir_refuses NotMine else (if b then heir_refuses (Skips (suc (count + last c)) h.number) else (if d then heir_says Integrated else (if e then heir_says Known else heir_read p c h (p.unspell h.body)))))
      go true b d e = refuses NotMine tt
      go false true d e = refuses (Skips (suc (count + last c)) h.number) tt
      go false false true e = says Integrated
      go false false false true = says Known
      go false false false false = read (p.unspell h.body) refl

  -- ---- a commit that is refused appends nothing

  pub commit_quiet : (c : Client I S) (ms : ℕ) (edits : List I) (why : ClientRefusal) → (commit p c ms edits).answer ≡ Err why → (commit p c ms edits).records ≡ []
  commit_quiet c ms edits why e = at_id c.id e
    where
      applied : (r : Result S (ℕ × ℕ)) → (commit_applied (suc (length c.made)) (Made (suc (length c.made)) ms (p.spell edits)) r).answer ≡ Err why → (commit_applied (suc (length c.made)) (Made (suc (length c.made)) ms (p.spell edits)) r).records ≡ []
      applied (Ok t) h = cc
      applied (Err b) h = refl

      tests : (a b d f : Bool) → (if a then refuse TooLarge else (if b then refuse NumbersFull else (if d then refuse (OldForm (first_need p edits)) else (if f then refuse (NotSubscribed (first_outside p c.subset edits)) else commit_applied (suc (length c.made)) (Made (suc (length c.made)) ms (p.spell edits)) (apply_all p edits c.objects))))).answer ≡ Err why
          → (if a then refuse TooLarge else (if b then refuse NumbersFull else (if d then refuse (OldForm (first_need p edits)) else (if f then refuse (NotSubscribed (first_outside p c.subset edits)) else commit_applied (suc (length c.made)) (Made (suc (length c.made)) ms (p.spell edits)) (apply_all p edits c.objects))))).records ≡ []
      tests true b d f h = refl
      tests false true d f h = refl
      tests false false true f h = refl
      tests false false false true h = refl
      tests false false false false h = applied (apply_all p edits c.objects) h

      at_id : (o : Option Uuid) → (if_born o (λ id. commit_born p c ms edits)).answer ≡ Err why → (if_born o (λ id. commit_born p c ms edits)).records ≡ []
      at_id None h = refl
      at_id (Some id) h = tests (not (is_small p edits)) (length c.made == p.full) (needs p edits && not c.second) (not (all_admitted p c.subset edits)) h

  -- ---- the step is quiet, or it makes one transaction

  -- a change is saved: it is the next one, and its record is appended
  pub record IsMade (c : Client I S) (by count : ℕ) (h : Change) (did : HeirStep) : Type 0 where
    pub mine : by ≡ c.ident
    pub next : h.number ≡ suc (count + last c)
    pub instrs : List I
    pub read : p.unspell h.body ≡ Ok instrs
    pub small : is_small p (saved p c.objects instrs).kept ≡ true
    pub records : did.records ≡ Made (suc (last c)) h.ms (p.spell (saved p c.objects instrs).kept) ∷ []
    pub answer : did.answer ≡ Ok (SavedAs (suc (last c)) (saved p c.objects instrs).dropped)

  pub data HeirDid (c : Client I S) (by count : ℕ) (h : Change) (did : HeirStep) : Type 0 where
    quiet : did.records ≡ [] → ((number : ℕ) (dropped : List (ℕ × ℕ)) → did.answer ≡ Ok (SavedAs number dropped) → ⊥) → HeirDid c by count h did
    made : IsMade c by count h did → HeirDid c by count h did

  pub heir_did : (c : Client I S) (by count : ℕ) (h : Change) → HeirDid c by count h (heir p c by count h)
  heir_did c by count h = go (by == c.ident) refl (nat_lt (suc (count + last c)) h.number) refl (nat_le h.number count) (nat_le h.number (count + last c)) refl
    where
      refused : (why : ResetRefusal) → HeirDid c by count h (heir_refuses why)
      refused why = quiet refl (λ number dropped e. not_ok why number dropped e)
        where
          not_ok : (why : ResetRefusal) (number : ℕ) (dropped : List (ℕ × ℕ)) → ◌≡◌ {A = Result HeirAnswer ResetRefusal} (Err why) (Ok (SavedAs number dropped)) → ⊥
          not_ok why number dropped e = cc

      integrated : HeirDid c by count h (heir_says Integrated)
      integrated = quiet refl not_saved
        where
          not_saved : (number : ℕ) (dropped : List (ℕ × ℕ)) → ◌≡◌ {A = Result HeirAnswer ResetRefusal} (Ok Integrated) (Ok (SavedAs number dropped)) → ⊥
          not_saved number dropped e = cc

      known : HeirDid c by count h (heir_says Known)
      known = quiet refl not_saved
        where
          not_saved : (number : ℕ) (dropped : List (ℕ × ℕ)) → ◌≡◌ {A = Result HeirAnswer ResetRefusal} (Ok Known) (Ok (SavedAs number dropped)) → ⊥
          not_saved number dropped e = cc

      commits : by ≡ c.ident → h.number ≡ suc (count + last c) → (is : List I) → p.unspell h.body ≡ Ok is → (a : Result ℕ ClientRefusal) → (commit p c h.ms (saved p c.objects is).kept).answer ≡ a → HeirDid c by count h (heir_commits (saved p c.objects is).dropped (commit p c h.ms (saved p c.objects is).kept))
      commits mine next is read_is (Ok number) a_is =
          let m = committed p c h.ms (saved p c.objects is).kept number a_is in
          made (record {
            mine = mine;
            next = next;
            instrs = is;
            read = read_is;
            small = small_edits p c h.ms (saved p c.objects is).kept number a_is;
            records = m.records ∙ ap (λ k. Made k h.ms (p.spell (saved p c.objects is).kept) ∷ []) m.number_is;
            answer = ap (heir_answer (saved p c.objects is).dropped) a_is ∙ ap (λ k. Ok (SavedAs k (saved p c.objects is).dropped)) m.number_is;
          })
      commits mine next is read_is (Err why) a_is =
          quiet (commit_quiet c h.ms (saved p c.objects is).kept why a_is) (λ number dropped e. not_ok number dropped (sym (ap (heir_answer (saved p c.objects is).dropped) a_is) ∙ e))
        where
          not_ok : (number : ℕ) (dropped : List (ℕ × ℕ)) → ◌≡◌ {A = Result HeirAnswer ResetRefusal} (Err (ByClient why)) (Ok (SavedAs number dropped)) → ⊥
          not_ok number dropped e = cc

      read : by ≡ c.ident → h.number ≡ suc (count + last c) → (r : Result (List I) (ℕ × ℕ)) → p.unspell h.body ≡ r → HeirDid c by count h (heir_read p c h r)
      read mine next (Ok is) e = commits mine next is e (commit p c h.ms (saved p c.objects is).kept).answer refl
      read mine next (Err f) e = refused (BadChange h.number f.0 f.1)

      go : (a : Bool) → (by == c.ident) ≡ a → (b : Bool) → nat_lt (suc (count + last c)) h.number ≡ b → (d e : Bool) → nat_le h.number (count + last c) ≡ e → HeirDid c by count h (if not a then heir_refuses NotMine else (if b then heir_refuses (Skips (suc (count + last c)) h.number) else (if d then heir_says Integrated else (if e then heir_says Known else heir_read p c h (p.unspell h.body)))))
      go false a_is b b_is d e e_is = refused NotMine
      go true a_is true b_is d e e_is = refused (Skips (suc (count + last c)) h.number)
      go true a_is false b_is true e e_is = integrated
      go true a_is false b_is false true e_is = known
      go true a_is false b_is false false e_is =
          let le : h.number ≤ suc (count + last c) = ltb-false (suc (count + last c)) h.number b_is in
          let gt : count + last c < h.number = beyond h.number (count + last c) e_is in
          read (eqb-true by c.ident a_is) (omega arith) (p.unspell h.body) refl
        where
          beyond : (x y : ℕ) → nat_le x y ≡ false → y < x
          beyond x y f = grind (arith, nat_tests)

  -- what the answer says
  pub saves_now : (c : Client I S) (by count : ℕ) (h : Change) (number : ℕ) (dropped : List (ℕ × ℕ)) → (heir p c by count h).answer ≡ Ok (SavedAs number dropped) → SavesNow p c by count h number dropped
  saves_now c by count h number dropped e = on (heir_did c by count h)
    where
      numbers : (a b : ℕ) (x y : List (ℕ × ℕ)) → ◌≡◌ {A = Result HeirAnswer ResetRefusal} (Ok (SavedAs a x)) (Ok (SavedAs b y)) → a ≡ b
      numbers a b x y f = cc

      lists : (a b : ℕ) (x y : List (ℕ × ℕ)) → ◌≡◌ {A = Result HeirAnswer ResetRefusal} (Ok (SavedAs a x)) (Ok (SavedAs b y)) → x ≡ y
      lists a b x y f = cc

      on : HeirDid c by count h (heir p c by count h) → SavesNow p c by count h number dropped
      on (quiet none not_saved) = absurd (not_saved number dropped e)
      on (made m) =
          let same = sym e ∙ m.answer in
          let n = numbers number (suc (last c)) dropped (saved p c.objects m.instrs).dropped same in
          record {
            mine = m.mine;
            next = m.next;
            instrs = m.instrs;
            read = m.read;
            number_is = n;
            dropped_is = lists number (suc (last c)) dropped (saved p c.objects m.instrs).dropped same;
            records = m.records ∙ ap (λ k. Made k h.ms (p.spell (saved p c.objects m.instrs).kept) ∷ []) (sym n);
          }

  -- ---- a repeat

  -- a change that was saved is known
  pub known : (c2 : Client I S) (by count : ℕ) (h : Change) → by ≡ c2.ident → count < h.number → h.number ≤ count + last c2 → heir p c2 by count h ≡ heir_says Known
  known c2 by count h mine gt le = go (by == c2.ident) (test_true by c2.ident mine) (nat_lt (suc (count + last c2)) h.number) refl (nat_le h.number count) refl (nat_le h.number (count + last c2)) refl
    where
      not_lt : (x y : ℕ) → nat_lt x y ≡ true → y ≤ x → ⊥
      not_lt x y f g = grind (arith, nat_tests)

      not_le : (x y : ℕ) → nat_le x y ≡ true → y < x → ⊥
      not_le x y f g = grind (arith, nat_tests)

      not_gt : (x y : ℕ) → nat_le x y ≡ false → x ≤ y → ⊥
      not_gt x y f g = grind (arith, nat_tests)

      go : (a : Bool) → a ≡ true → (b : Bool) → nat_lt (suc (count + last c2)) h.number ≡ b → (d : Bool) → nat_le h.number count ≡ d → (e : Bool) → nat_le h.number (count + last c2) ≡ e → (if not a then heir_refuses NotMine else (if b then heir_refuses (Skips (suc (count + last c2)) h.number) else (if d then heir_says Integrated else (if e then heir_says Known else heir_read p c2 h (p.unspell h.body))))) ≡ heir_says Known
      go false a_is b b_is d d_is e e_is = cc
      go true a_is true b_is d d_is e e_is = absurd (not_lt (suc (count + last c2)) h.number b_is (omega arith))
      go true a_is false b_is true d_is e e_is = absurd (not_le h.number count d_is gt)
      go true a_is false b_is false d_is true e_is = refl
      go true a_is false b_is false d_is false e_is = absurd (not_gt h.number (count + last c2) e_is le)

  -- a change that was saved is known from then on
  pub known_again : (c : Client I S) (by count : ℕ) (h : Change) (number : ℕ) (dropped : List (ℕ × ℕ)) → (heir p c by count h).answer ≡ Ok (SavedAs number dropped) → heir p (after_records p c (heir p c by count h).records) by count h ≡ heir_says Known
  known_again c by count h number dropped e = on (heir_did c by count h)
    where
      on : HeirDid c by count h (heir p c by count h) → heir p (after_records p c (heir p c by count h).records) by count h ≡ heir_says Known
      on (quiet none not_saved) = absurd (not_saved number dropped e)
      on (made m) =
          ap (λ rs. heir p (after_records p c rs) by count h) m.records
          ∙ again (after_records p c (Made (suc (last c)) h.ms (p.spell (saved p c.objects m.instrs).kept) ∷ [])) m.mine (ap (λ k. k) (length_snoc c.made (record { base = c.cursor; number = suc (last c); ms = h.ms; instrs = ok_list (p.unspell (p.spell (saved p c.objects m.instrs).kept)) })))
        where
          again : (c2 : Client I S) → by ≡ c2.ident → length c2.made ≡ suc (last c) → heir p c2 by count h ≡ heir_says Known
          again c2 mine len = let n = m.next in known c2 by count h mine (omega arith) (omega arith)

  -- ---- a client with an ident has its uuid

  abbrev pub HasId : Client I S → Type 0
  HasId c = c.ident ≢ 0 → is_there c.id ≡ true

  id_record : (c : Client I S) (ahead : List (Option ClientRecord)) (r : ClientRecord) → client_admits p c ahead r ≡ true → HasId c → HasId (after_record p c r)
  id_record c ahead (Born id) e h ne = refl
  id_record c ahead (Named ident) e h ne = (both (is_there c.id) _ e).0
  id_record c ahead (Made number ms body) e h ne = h ne
  id_record c ahead Form e h ne = h ne
  id_record c ahead (Subset tables) e h ne = h ne
  id_record c ahead (Part body) e h ne = h ne
  id_record c ahead (Floor version) e h ne = h ne
  id_record c ahead (Resumed number waiting) e h ne = h ne
  id_record c ahead (Waits number base ms body current) e h ne = h ne
  id_record c ahead (Took origin number ms body) e h ne =
      let x : Rattle.sync_theory.specs.Changesets.Changeset I = record { origin = origin; number = number; ms = ms; instrs = ok_list (p.unspell body) } in
      ap is_there (took_id c (record { origin = origin; number = number; ms = ms; instrs = ok_list (p.unspell body) })) ∙ h (λ z. ne ((took_cursor p c (record { origin = origin; number = number; ms = ms; instrs = ok_list (p.unspell body) })).1 ∙ z))
    where
      took_id : (c : Client I S) (x : Rattle.sync_theory.specs.Changesets.Changeset I) → (Rattle.sync_model.specs.Clients.takes_entry p c x).id ≡ c.id
      took_id c x = go (x.origin == c.ident) (Rattle.sync_theory.specs.Grid.rebase (Rattle.sync_model.specs.Profile.cross_changesets p) (Rattle.std.proofs.Common.map (Rattle.sync_model.specs.Clients.changeset_of c.ident) c.unsent) x)
        where
          on : (r : Result (List (Rattle.sync_theory.specs.Changesets.Changeset I) × Rattle.sync_theory.specs.Changesets.Changeset I) (ℕ × Rattle.sync_model.specs.Profile.Stuck)) → (Rattle.sync_model.specs.Clients.crossed p c r).id ≡ c.id
          on (Ok q) = refl
          on (Err f) = refl

          go : (b : Bool) (r : Result (List (Rattle.sync_theory.specs.Changesets.Changeset I) × Rattle.sync_theory.specs.Changesets.Changeset I) (ℕ × Rattle.sync_model.specs.Profile.Stuck)) → (if b then record c { cursor = suc c.cursor; unsent = Rattle.sync_theory.specs.Grid.tail c.unsent } else Rattle.sync_model.specs.Clients.crossed p c r).id ≡ c.id
          go true r = refl
          go false r = on r

  pub id_records : (rs : List ClientRecord) (c : Client I S) → client_opens p c rs ≡ true → HasId c → HasId (after_records p c rs)
  id_records [] c e h = h
  id_records (r ∷ rs) c e h = let b = both (client_admits p c (map (λ q. Some q) rs) r) (client_opens p (after_record p c r) rs) e in id_records rs (after_record p c r) b.1 (id_record c (map (λ q. Some q) rs) r b.0 h)

  pub id_first : HasId (no_client p)
  id_first ne = absurd (ne refl)

  module _ {Fits : S → Type 0} (law : Lawful p Fits) where
    -- ---- why it stops

    -- a client that has its uuid refuses what was saved by these alone
    pub heir_stops : (c : Client I S) (by count : ℕ) (h : Change) → is_there c.id ≡ true → (why : ClientRefusal) → (heir p c by count h).answer ≡ Err (ByClient why) → StopsAt p c h why
    heir_stops c by count h born why = heir_cases (λ did. did.answer ≡ Err (ByClient why) → StopsAt p c h why) c by count h (λ w own e. other w own e) (λ a e. said a e) (λ is read e. commits is read (commit p c h.ms (saved p c.objects is).kept).answer refl e)
      where
        said : (a : HeirAnswer) → ◌≡◌ {A = Result HeirAnswer ResetRefusal} (Ok a) (Err (ByClient why)) → StopsAt p c h why
        said a e = cc

        -- the other refusals aren't the client's
        other : (w : ResetRefusal) → IsOwn w → ◌≡◌ {A = Result HeirAnswer ResetRefusal} (Err w) (Err (ByClient why)) → StopsAt p c h why
        other NotMine own e = cc
        other (Skips expected got) own e = cc
        other (BadChange number offset rule) own e = cc
        other (ByClient w) own e = absurd own

        stops : (is : List I) → p.unspell h.body ≡ Ok is → (w : ClientRefusal) → (commit p c h.ms (saved p c.objects is).kept).answer ≡ Err w → MayStop p c is w
        stops is read w e = at_id c.id born e
          where
            first : (x y : ClientRefusal) → ◌≡◌ {A = Result ℕ ClientRefusal} (Err x) (Err y) → x ≡ y
            first x y f = cc

            acts : (r : Result S (ℕ × ℕ)) → apply_all p (saved p c.objects is).kept c.objects ≡ r → (commit_applied (suc (length c.made)) (Made (suc (length c.made)) h.ms (p.spell (saved p c.objects is).kept)) r).answer ≡ Err w → MayStop p c is w
            acts (Ok t) r_is f = cc
            acts (Err b) r_is f = absurd (both_ways (sym r_is ∙ (lists_drops p law c.objects is).acts))
              where
                both_ways : {t : S} → ◌≡◌ {A = Result S (ℕ × ℕ)} (Err b) (Ok t) → ⊥
                both_ways g = cc

            old : (needs p (saved p c.objects is).kept && not c.second) ≡ true → (needs p is ≡ true) × (c.second ≡ false)
            old f = let b = both (needs p (saved p c.objects is).kept) (not c.second) f in ((lists_drops p law c.objects is).form b.0, off c.second b.1)
              where
                off : (t : Bool) → not t ≡ true → t ≡ false
                off true g = cc
                off false g = refl

            outside : all_admitted p c.subset (saved p c.objects is).kept ≡ false → all_admitted p c.subset is ≡ false
            outside f = go (all_admitted p c.subset is) refl
              where
                never : {t : Bool} → t ≡ true → t ≡ false → ⊥
                never g k = cc

                go : (t : Bool) → all_admitted p c.subset is ≡ t → all_admitted p c.subset is ≡ false
                go false is_ = is_
                go true is_ = absurd (never ((lists_drops p law c.objects is).tables c.subset is_) f)

            tests : (a b d q : Bool) → a ≡ true → (needs p (saved p c.objects is).kept && not c.second) ≡ d → all_admitted p c.subset (saved p c.objects is).kept ≡ q → (if not a then refuse TooLarge else (if b then refuse NumbersFull else (if d then refuse (OldForm (first_need p (saved p c.objects is).kept)) else (if not q then refuse (NotSubscribed (first_outside p c.subset (saved p c.objects is).kept)) else commit_applied (suc (length c.made)) (Made (suc (length c.made)) h.ms (p.spell (saved p c.objects is).kept)) (apply_all p (saved p c.objects is).kept c.objects))))).answer ≡ Err w → MayStop p c is w
            tests false b d q a_is d_is q_is f = cc
            tests true true d q a_is d_is q_is f = subst (MayStop p c is) (first NumbersFull w f) tt
            tests true false true q a_is d_is q_is f = subst (MayStop p c is) (first (OldForm (first_need p (saved p c.objects is).kept)) w f) (old d_is)
            tests true false false false a_is d_is q_is f = subst (MayStop p c is) (first (NotSubscribed (first_outside p c.subset (saved p c.objects is).kept)) w f) (outside q_is)
            tests true false false true a_is d_is q_is f = acts (apply_all p (saved p c.objects is).kept c.objects) refl f

            at_id : (o : Option Uuid) → is_there o ≡ true → (if_born o (λ id. commit_born p c h.ms (saved p c.objects is).kept)).answer ≡ Err w → MayStop p c is w
            at_id None b f = cc
            at_id (Some id) b f = tests (is_small p (saved p c.objects is).kept) (length c.made == p.full) (needs p (saved p c.objects is).kept && not c.second) (all_admitted p c.subset (saved p c.objects is).kept) (kept_small p law c.objects is (read_small p law h.body is read)) refl refl f

        commits : (is : List I) → p.unspell h.body ≡ Ok is → (a : Result ℕ ClientRefusal) → (commit p c h.ms (saved p c.objects is).kept).answer ≡ a → heir_answer (saved p c.objects is).dropped (commit p c h.ms (saved p c.objects is).kept).answer ≡ Err (ByClient why) → StopsAt p c h why
        commits is read (Ok k) a_is e = said (SavedAs k (saved p c.objects is).dropped) (sym (ap (heir_answer (saved p c.objects is).dropped) a_is) ∙ e)
        commits is read (Err w) a_is e = record { instrs = is; read = read; may = subst (MayStop p c is) (inner w (sym (ap (heir_answer (saved p c.objects is).dropped) a_is) ∙ e)) (stops is read w a_is) }
          where
            inner : (w : ClientRefusal) → ◌≡◌ {A = Result HeirAnswer ResetRefusal} (Err (ByClient w)) (Err (ByClient why)) → w ≡ why
            inner w f = cc

    -- so does a client that opening made
    pub heir_stops_named : (c : Client I S) (by count : ℕ) (h : Change) → HasId c → by ≢ 0 → (why : ClientRefusal) → (heir p c by count h).answer ≡ Err (ByClient why) → StopsAt p c h why
    heir_stops_named c by count h has ne why e = go (by == c.ident) refl e
      where
        go : (a : Bool) → (by == c.ident) ≡ a → (if not a then heir_refuses NotMine else (if nat_lt (suc (count + last c)) h.number then heir_refuses (Skips (suc (count + last c)) h.number) else (if nat_le h.number count then heir_says Integrated else (if nat_le h.number (count + last c) then heir_says Known else heir_read p c h (p.unspell h.body))))).answer ≡ Err (ByClient why) → StopsAt p c h why
        go false is f = cc
        go true is f = heir_stops c by count h (has (λ z. ne (eqb-true by c.ident is ∙ z))) why e

    -- ---- what it appends

    pub heir_opens : (c : Client I S) → is_growing c ≡ false → (by count : ℕ) (h : Change) → Opens p c (heir p c by count h).records
    heir_opens c calm_ by count h = heir_cases (λ did. Opens p c did.records) c by count h (λ w own. (refl, no_more)) (λ a. (refl, no_more)) (λ is read. commit_opens p law c calm_ h.ms (saved p c.objects is).kept)

  pub heir_fits : (c : Client I S) (by count : ℕ) (h : Change) → ClientNumbers p c → Fit p (heir p c by count h).records
  heir_fits c by count h n = heir_cases (λ did. Fit p did.records) c by count h (λ w own. no_more) (λ a. no_more) (λ is read. commit_fits p c h.ms (saved p c.objects is).kept n)
