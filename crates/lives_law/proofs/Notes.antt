-- Of files with notes.
use Rattle.std.proofs.Common.{◌≡◌, ⊎_elim, ℕ, zero, suc, ◌+◌, Bool, true, false, List, [], ◌∷◌, ◌++◌, Option, Some, None, refl, sym, ap, ap₂, ◌∙◌, subst, arith, append-nil, length, take, length-append, if◌then◌else◌, ◌==◌, eqb-true}
use Rattle.sync_theory.specs.World.{put_at}
use Rattle.sync_theory.specs.Changesets.{Changeset}
use Rattle.sync_theory.specs.Logs.{Made as LogMade, of_origin}
use Rattle.sync_theory.proofs.Logs.{origin_append}
use Rattle.sync_theory.proofs.Server.{test_true}
use Rattle.sync_theory.proofs.World.{same_or_not, put_same, put_other}
use Rattle.sync_model.specs.Profile.{Profile}
use Rattle.sync_model.specs.Worlds.{at}
use Rattle.sync_model.specs.Clients.{ClientRecord, Born, Named, Made, Took, Form, Subset, Part, Floor, Resumed, Waits, ok_list, tooks_of}
use Rattle.sync_model.specs.Servers.{Server, ServerRecord, Client, Entry, Retired, Settled, Count, Carried, Past, entry_of, after_server, after_all, count}
use Rattle.lives_law.specs.Lives.{Written, Files, Open, Among, here, there, grown_by, opened, written}
use Rattle.lives_law.specs.Instances.{plain}
use Rattle.lives_law.specs.Roaming.{written_all}
use Rattle.lives_law.specs.Stored.{Noted, it, note, Kept, entry_by, took_by, is_by, is_life, bare, bare_on, bare_file, open_by, keeps, keeps_all, noted_one, with_notes, SameBy}
use Rattle.lives_law.proofs.Lists.{take_nil}

-- ---- the same files, read so

module _ {R Q : Type 0} (read : List (Written R) → List (Written Q)) where
  pub same_opened : (w : Files R) (v : Files Q) (n l : ℕ) (f : List (Written R)) → SameBy read w v → Among f w.kept → SameBy read (opened w n l f) (opened v n l (read f))
  same_opened w v n l f s a = record {
    kept = s.kept;
    nodes = λ m. on m (m == n);
    used = ap (λ ls. l ∷ ls) s.used;
  }
    where
      on : (m : ℕ) (b : Bool) → (if b then Some (record { file = read f; life = l }) else v.nodes m) ≡ open_by read (if b then Some (record { file = f; life = l }) else w.nodes m)
      on m true = refl
      on m false = s.nodes m

  abbrev at_file : List (Written Q) → ℕ → Open Q
  at_file f l = record { file = f; life = l }

  -- a record that is read as one
  pub same_one : (w : Files R) (v : Files Q) (n : ℕ) (o : Open R) (x : R) (q : Open Q) (y : Q) → SameBy read w v → grown_by q y ≡ read (grown_by o x) → q.life ≡ o.life → SameBy read (written w n o x) (written v n q y)
  same_one w v n o x q y s e life = record {
    kept = λ f a. old a;
    nodes = λ m. on m (m == n);
    used = s.used;
  }
    where
      old : {f : List (Written R)} → Among f (grown_by o x ∷ w.kept) → Among (read f) (grown_by q y ∷ v.kept)
      old here = subst (λ z. Among z (grown_by q y ∷ v.kept)) e here
      old (there a) = there (s.kept _ a)

      grown : at_file (grown_by q y) q.life ≡ at_file (read (grown_by o x)) o.life
      grown = ap₂ at_file e life

      on : (m : ℕ) (b : Bool) → (if b then Some (record { file = grown_by q y; life = q.life }) else v.nodes m) ≡ open_by read (if b then Some (record { file = grown_by o x; life = o.life }) else w.nodes m)
      on m true = ap (λ z. Some z) grown
      on m false = s.nodes m

  -- and one that is read as none
  pub same_none : (w : Files R) (v : Files Q) (n : ℕ) (o : Open R) (x : R) → SameBy read w v → Among (read o.file) v.kept → v.nodes n ≡ Some (record { file = read o.file; life = o.life }) → read (grown_by o x) ≡ read o.file → SameBy read (written w n o x) v
  same_none w v n o x s a e same = record {
    kept = λ f k. old k;
    nodes = λ m. ⊎_elim
        (λ is. ap v.nodes is ∙ e ∙ ap (λ z. Some (record { file = z; life = o.life })) (sym same) ∙ ap (open_by read) (sym (ap (put_at n (Some (record { file = grown_by o x; life = o.life })) w.nodes) is ∙ put_same n (Some (record { file = grown_by o x; life = o.life })) w.nodes)))
        (λ ne. s.nodes m ∙ ap (open_by read) (sym (put_other n (Some (record { file = grown_by o x; life = o.life })) w.nodes m ne)))
        (same_or_not m n);
    used = s.used;
  }
    where
      old : {f : List (Written R)} → Among f (grown_by o x ∷ w.kept) → Among (read f) v.kept
      old here = subst (λ z. Among z v.kept) (sym same) a
      old (there k) = s.kept _ k

-- ---- the records without the notes

module _ {R : Type 0} where
  pub bare_both : (xs ys : List (Noted R)) → bare (xs ++ ys) ≡ bare xs ++ bare ys
  bare_both [] ys = refl
  bare_both (it r ∷ xs) ys = ap (λ l. r ∷ l) (bare_both xs ys)
  bare_both (note c l ∷ xs) ys = bare_both xs ys

  pub bare_file_both : (f g : List (Written (Noted R))) → bare_file (f ++ g) ≡ bare_file f ++ bare_file g
  bare_file_both [] g = refl
  bare_file_both (x ∷ f) g = on x.what (bare_file_both f g)
    where
      on : (w : Noted R) → bare_file (f ++ g) ≡ bare_file f ++ bare_file g → bare_on x.life w (bare_file (f ++ g)) ≡ bare_on x.life w (bare_file f) ++ bare_file g
      on (it r) e = ap (λ l. record { life = x.life; what = r } ∷ l) e
      on (note c l) e = e

  pub plain_bare : (f : List (Written (Noted R))) → plain (bare_file f) ≡ bare (plain f)
  plain_bare [] = refl
  plain_bare (x ∷ f) = on x.what (plain_bare f)
    where
      on : (w : Noted R) → plain (bare_file f) ≡ bare (plain f) → plain (bare_on x.life w (bare_file f)) ≡ bare (w ∷ plain f)
      on (it r) e = ap (λ l. r ∷ l) e
      on (note c l) e = e

  -- a note is read as no record
  pub note_none : (o : Open (Noted R)) (c l : ℕ) → bare_file (grown_by o (note c l)) ≡ bare_file o.file
  note_none o c l = bare_file_both o.file (record { life = o.life; what = note c l } ∷ []) ∙ append-nil (bare_file o.file)

  -- what a node writes is the same, but for the notes
  pub same_written : (ns : List (Noted R)) (w : Files (Noted R)) (v : Files R) (n : ℕ) (o : Open (Noted R)) (q : Open R) → SameBy bare_file w v → q ≡ record { file = bare_file o.file; life = o.life } → w.nodes n ≡ Some o → Among o.file w.kept → SameBy bare_file (written_all w n o ns) (written_all v n q (bare ns))
  same_written [] w v n o q s e is a = s
  same_written (it r ∷ ns) w v n o q s e is a =
      let file : q.file ≡ bare_file o.file = ap (λ (z : Open R). z.file) e in
      let life : q.life ≡ o.life = ap (λ (z : Open R). z.life) e in
      let grown : grown_by q r ≡ bare_file (grown_by o (it r)) = ap₂ (λ x k. x ++ record { life = k; what = r } ∷ []) file life ∙ sym (bare_file_both o.file (record { life = o.life; what = it r } ∷ [])) in
      let next : record q { file = grown_by q r } ≡ record { file = bare_file (grown_by o (it r)); life = o.life } = ap₂ (λ x k. record { file = x; life = k }) grown life in
      same_written ns (written w n o (it r)) (written v n q r) n (record o { file = grown_by o (it r) }) (record q { file = grown_by q r }) (same_one bare_file w v n o (it r) q r s grown life) next (put_same n (Some (record o { file = grown_by o (it r) })) w.nodes) here
  same_written (note c l ∷ ns) w v n o q s e is a =
      same_written ns (written w n o (note c l)) v n (record o { file = grown_by o (note c l) }) q (same_none bare_file w v n o (note c l) s (s.kept o.file a) (s.nodes n ∙ ap (open_by bare_file) is) (note_none o c l)) (e ∙ ap (λ z. record { file = z; life = o.life }) (sym (note_none o c l))) (put_same n (Some (record o { file = grown_by o (note c l) })) w.nodes) here

-- ---- notes that are written

life_is : (k : Option ℕ) (l : ℕ) → is_life k (Some l) ≡ true → k ≡ Some l
life_is None l e = cc
life_is (Some m) l e = ap (λ z. Some z) (eqb-true m l e)

module _ {R : Type 0} (by : R → Option ℕ) (c : ℕ) where
  -- how many of the records are of `c`
  abbrev pub count_by : List R → ℕ
  count_by [] = 0
  count_by (r ∷ rs) = if is_by c (by r) then suc (count_by rs) else count_by rs

  -- a beginning of records with notes is one of the records
  pub cut_bare : (rs : List R) (ls : List ℕ) (k : Option ℕ) (j : ℕ) → (i : ℕ) × (bare (take j (with_notes by c k ls rs)) ≡ take i rs)
  cut_bare [] ls k j = (0, ap bare (take_nil j))
  cut_bare (r ∷ rs) [] k zero = (0, refl)
  cut_bare (r ∷ rs) [] k (suc j) = let n = cut_bare rs [] k j in (suc n.0, ap (λ l. r ∷ l) n.1)
  cut_bare (r ∷ rs) (l ∷ ls) k j = on (is_by c (by r)) j (λ i. cut_bare rs ls (Some l) i) (λ i. cut_bare rs (l ∷ ls) k i)
    where
      Cuts : List (Noted R) → List R → Type 0
      Cuts xs ts = (j : ℕ) → (i : ℕ) × (bare (take j xs) ≡ take i ts)

      on : (b : Bool) → (j : ℕ) → Cuts (with_notes by c (Some l) ls rs) rs → Cuts (with_notes by c k (l ∷ ls) rs) rs → (i : ℕ) × (bare (take j (if b then noted_one by c k l r ++ with_notes by c (Some l) ls rs else it r ∷ with_notes by c k (l ∷ ls) rs)) ≡ take i (r ∷ rs))
      on false zero h g = (0, refl)
      on false (suc j) h g = let n = g j in (suc n.0, ap (λ l. r ∷ l) n.1)
      on true j h g = noted (is_life k (Some l)) j
        where
          noted : (b : Bool) (j : ℕ) → (i : ℕ) × (bare (take j ((if b then it r ∷ [] else note c l ∷ it r ∷ []) ++ with_notes by c (Some l) ls rs)) ≡ take i (r ∷ rs))
          noted true zero = (0, refl)
          noted true (suc j) = let n = h j in (suc n.0, ap (λ l. r ∷ l) n.1)
          noted false zero = (0, refl)
          noted false (suc zero) = (0, refl)
          noted false (suc (suc j)) = let n = h j in (suc n.0, ap (λ l. r ∷ l) n.1)

  -- where none of the records is of `c`, the life of the last that is stays
  pub quiet : (xs : List (Noted R)) (k : Kept) → count_by (bare xs) ≡ 0 → (keeps_all by c k xs).last ≡ k.last
  quiet [] k e = refl
  quiet (note d l ∷ xs) k e = quiet xs (keeps by c k (note d l)) e ∙ on (c == d)
    where
      on : (b : Bool) → (if b then record k { noted = Some l } else k).last ≡ k.last
      on true = refl
      on false = refl
  quiet (it r ∷ xs) k e = on (is_by c (by r)) e (λ h. quiet xs k h)
    where
      on : (b : Bool) → (if b then suc (count_by (bare xs)) else count_by (bare xs)) ≡ 0 → (count_by (bare xs) ≡ 0 → (keeps_all by c k xs).last ≡ k.last) → (keeps_all by c (if b then record k { last = k.noted } else k) xs).last ≡ k.last
      on true e ih = absurd (omega arith)
      on false e ih = ih e

  -- else it is the one that was told of it
  abbrev Ends : Kept → List ℕ → List (Noted R) → Type 0
  Ends k ls xs = (i l : ℕ) → count_by (bare xs) ≡ suc i → at ls i ≡ Some l → (keeps_all by c k xs).last ≡ Some l

  -- after a record of this life
  abbrev after_one : ℕ → Kept
  after_one l = record { noted = Some l; last = Some l }

  after_ends : (ls : List ℕ) (l : ℕ) (xs : List (Noted R)) → Ends (after_one l) ls xs → (i m : ℕ) → suc (count_by (bare xs)) ≡ suc i → at (l ∷ ls) i ≡ Some m → (keeps_all by c (after_one l) xs).last ≡ Some m
  after_ends ls l xs h zero m e t = quiet xs (after_one l) (omega arith) ∙ t
  after_ends ls l xs h (suc i) m e t = h i m (omega arith) t

  pub ends : (rs : List R) (ls : List ℕ) (j : ℕ) (k : Kept) → Ends k ls (take j (with_notes by c k.noted ls rs))
  ends [] ls j k i l e t = absurd (none (subst (λ x. count_by (bare x) ≡ suc i) (take_nil j) e))
    where
      none : 0 ≡ suc i → ⊥
      none h = absurd (omega arith)
  ends (r ∷ rs) [] j k i l e t = cc
  ends (r ∷ rs) (m ∷ ls) j k i l e t = on (is_by c (by r)) refl j (λ j. ends rs ls j (after_one m)) (λ j. ends rs (m ∷ ls) j k) i l e t
    where
      on : (b : Bool) → is_by c (by r) ≡ b → (j : ℕ) → ((j : ℕ) → Ends (after_one m) ls (take j (with_notes by c (Some m) ls rs))) → ((j : ℕ) → Ends k (m ∷ ls) (take j (with_notes by c k.noted (m ∷ ls) rs)))
          → Ends k (m ∷ ls) (take j (if b then noted_one by c k.noted m r ++ with_notes by c (Some m) ls rs else it r ∷ with_notes by c k.noted (m ∷ ls) rs))
      on false is zero h g i l e t = absurd (omega arith)
      on false is (suc j) h g i l e t =
          let xs = take j (with_notes by c k.noted (m ∷ ls) rs) in
          let n : count_by (bare (take j (with_notes by c k.noted (m ∷ ls) rs))) ≡ suc i = sym (ap (λ b. if b then suc (count_by (bare (take j (with_notes by c k.noted (m ∷ ls) rs)))) else count_by (bare (take j (with_notes by c k.noted (m ∷ ls) rs)))) is) ∙ e in
          ap (λ b. (keeps_all by c (if b then record k { last = k.noted } else k) (take j (with_notes by c k.noted (m ∷ ls) rs))).last) is ∙ g j i l n t
      on true is j h g i l e t = noted (is_life k.noted (Some m)) refl j e
        where
          counted : (xs : List (Noted R)) → count_by (bare (it r ∷ xs)) ≡ suc (count_by (bare xs))
          counted xs = ap (λ b. if b then suc (count_by (bare xs)) else count_by (bare xs)) is

          at_note : (c == c) ≡ true
          at_note = test_true c c refl

          taken : (q : Kept) → q.noted ≡ Some m → keeps by c q (it r) ≡ record { noted = Some m; last = Some m }
          taken q n = ap (λ b. if b then record q { last = q.noted } else q) is ∙ ap (λ z. record { noted = z; last = z }) n

          noted : (b : Bool) → is_life k.noted (Some m) ≡ b → (j : ℕ) → count_by (bare (take j ((if b then it r ∷ [] else note c m ∷ it r ∷ []) ++ with_notes by c (Some m) ls rs))) ≡ suc i
              → (keeps_all by c k (take j ((if b then it r ∷ [] else note c m ∷ it r ∷ []) ++ with_notes by c (Some m) ls rs))).last ≡ Some l
          noted true n zero e = absurd (omega arith)
          noted true n (suc j) e = let xs = take j (with_notes by c (Some m) ls rs) in ap (λ q. (keeps_all by c q (take j (with_notes by c (Some m) ls rs))).last) (taken k (life_is k.noted m n)) ∙ after_ends ls m (take j (with_notes by c (Some m) ls rs)) (h j) i l (sym (counted (take j (with_notes by c (Some m) ls rs))) ∙ e) t
          noted false n zero e = absurd (omega arith)
          noted false n (suc zero) e = absurd (omega arith)
          noted false n (suc (suc j)) e =
              let two : keeps by c (keeps by c k (note c m)) (it r) ≡ record { noted = Some m; last = Some m } = ap (λ b. keeps by c (if b then record k { noted = Some m } else k) (it r)) at_note ∙ taken (record k { noted = Some m }) refl in
              ap (λ q. (keeps_all by c q (take j (with_notes by c (Some m) ls rs))).last) two ∙ after_ends ls m (take j (with_notes by c (Some m) ls rs)) (h j) i l (sym (counted (take j (with_notes by c (Some m) ls rs))) ∙ e) t

-- what is kept of both parts of a file
pub keeps_both : {R : Type 0} (by : R → Option ℕ) (c : ℕ) (xs ys : List (Noted R)) (k : Kept) → keeps_all by c k (xs ++ ys) ≡ keeps_all by c (keeps_all by c k xs) ys
keeps_both by c [] ys k = refl
keeps_both by c (x ∷ xs) ys k = keeps_both by c xs ys (keeps by c k x)

-- ---- how many a node has

module _ {I S : Type 0} (p : Profile I S) where
  one_entry : (s : Server I) (c : ℕ) (r : ServerRecord) → count (after_server p s r) c ≡ count s c + count_by entry_by c (r ∷ [])
  one_entry s c (Client id) = omega arith
  one_entry s c (Entry origin number base ms body) =
      let e = entry_of origin (record { number = number; base = base; ms = ms; body = body }) (ok_list (p.unspell body)) in
      let m : LogMade (Changeset I) = record { base = e.base; change = e.change } in
      ap length (origin_append c s.log (e ∷ [])) ∙ length-append (of_origin c s.log) (of_origin c (e ∷ [])) ∙ on m (c == origin)
    where
      on : (m : LogMade (Changeset I)) (b : Bool) → length (of_origin c s.log) + length ((if b then m ∷ [] else []) ++ []) ≡ count s c + (if b then 1 else 0)
      on m true = refl
      on m false = refl
  one_entry s c ServerRecord.Form = omega arith
  one_entry s c (Retired d by) = omega arith
  one_entry s c (Settled d n) = omega arith
  one_entry s c (ServerRecord.Part body) = omega arith
  one_entry s c (ServerRecord.Floor version) = omega arith
  one_entry s c (Count d n b m) = omega arith
  one_entry s c (Carried o n b m body) = omega arith
  one_entry s c (Past d v m body) = omega arith

  count_one : {R : Type 0} (by : R → Option ℕ) (c : ℕ) (r : R) (rs : List R) → count_by by c (r ∷ rs) ≡ count_by by c (r ∷ []) + count_by by c rs
  count_one by c r rs = on (is_by c (by r))
    where
      on : (b : Bool) → (if b then suc (count_by by c rs) else count_by by c rs) ≡ (if b then 1 else 0) + count_by by c rs
      on true = omega arith
      on false = omega arith

  pub count_is : (rs : List ServerRecord) (s : Server I) (c : ℕ) → count (after_all p s rs) c ≡ count s c + count_by entry_by c rs
  count_is [] s c = omega arith
  count_is (r ∷ rs) s c =
      let a = count_is rs (after_server p s r) c in
      let b = one_entry s c r in
      let d = count_one entry_by c r rs in
      omega arith

pub tooks_are : (rs : List ClientRecord) → length (tooks_of rs) ≡ count_by took_by 0 rs
tooks_are [] = refl
tooks_are (Born id ∷ rs) = tooks_are rs
tooks_are (Named ident ∷ rs) = tooks_are rs
tooks_are (Made number ms body ∷ rs) = tooks_are rs
tooks_are (Took origin number ms body ∷ rs) = let h = tooks_are rs in omega arith
tooks_are (Form ∷ rs) = tooks_are rs
tooks_are (Subset tables ∷ rs) = tooks_are rs
tooks_are (Part body ∷ rs) = tooks_are rs
tooks_are (Floor version ∷ rs) = tooks_are rs
tooks_are (Resumed number waiting ∷ rs) = tooks_are rs
tooks_are (Waits number base ms body current ∷ rs) = tooks_are rs
