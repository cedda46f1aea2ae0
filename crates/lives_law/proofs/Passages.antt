-- A message that passes the test by what is stored is one that passes the test of marks.
use Rattle.std.proofs.Common.{◌≡◌, ◌⊎◌, inl, inr, ⊎_elim, ℕ, zero, suc, ◌+◌, ◌-◌, ◌≤◌, Bool, true, false, ◌&&◌, ◌||◌, List, [], ◌∷◌, ◌++◌, Option, Some, None, refl, sym, ap, ap₂, ◌∙◌, subst, arith, length, take, drop, if◌then◌else◌, ◌==◌, eqb-true, nat_le, sum_by}
use Rattle.std.specs.Prelude.{nat_lt}
use Rattle.std.proofs.lemmas.List.Sums.{sum_by-cons}
use Rattle.std.proofs.lemmas.Bool.{leb-true, le-leb, le-ltb}
use Rattle.sync_theory.specs.Changesets.{Changeset}
use Rattle.sync_theory.proofs.Server.{test_true, test_false}
use Rattle.sync_model.specs.Profile.{Profile}
use Rattle.sync_model.specs.Each.{Each, and_each}
use Rattle.sync_model.specs.Limits.{IsMessage}
use Rattle.sync_model.specs.Messages.{Change, Sent, Download}
use Rattle.sync_model.specs.Clients.{Client, ClientRecord, ClientStep, Gap, NotMine, refuse, if_born, client_of, tooks_of, take_entries, take as take_message}
use Rattle.sync_model.specs.Servers.{Server, ServerRecord, server_of, after_all, count, merge, merged, serve_changes}
use Rattle.sync_model.specs.Worlds.{at}
use Rattle.lives_law.specs.Lives.{Written, Files, Among, Mark, Reached, tally}
use Rattle.lives_law.specs.Readers.{Piece, AreLives, IsOf}
use Rattle.lives_law.specs.Instances.{is_entry, is_made}
use Rattle.lives_law.specs.Uploads.{InOrder, one, changes_of, HasLine}
use Rattle.lives_law.specs.Passing.{history_told, HasHistory, AreOf}
use Rattle.lives_law.specs.Pair.{IsWhole}
use Rattle.lives_law.specs.Roaming.{TakesUpload, TakesDownload}
use Rattle.lives_law.specs.Stored.{is_life, Passage, HasLives, LetsThrough, passes, IsUploadOf, IsDownloadOf}
use Rattle.lives_law.proofs.Taking.{at_dropped, at_to_drop, keeps_history, begins_history}
use Rattle.lives_law.proofs.Uploads.{keeps_lines, begins_lines}
use Rattle.lives_law.proofs.Roaming.{cursor_is}

both_are : (a b : Bool) → (a && b) ≡ true → (a ≡ true) × (b ≡ true)
both_are true b e = (refl, e)
both_are false b e = cc

life_at : (o q : Option ℕ) → is_life o q ≡ true → q ≡ o
life_at None q e = cc
life_at (Some l) None e = cc
life_at (Some l) (Some k) e = ap (λ z. Some z) (sym (eqb-true l k e))

-- what the test says
pub record Passed {X : Type 0} (last : Option ℕ) (n : ℕ) (m : Passage X) : Type 0 where
  pub behind : m.from ≤ n
  pub within : n ≤ m.from + length m.tells
  pub same : (n ≡ 0) ⊎ (at m.lives (n - m.from) ≡ last)

pub passed : {X : Type 0} (last : Option ℕ) (n : ℕ) (m : Passage X) → passes last n m ≡ true → Passed last n m
passed last n m e =
    let a = both_are (nat_le m.from n) _ e in
    let b = both_are (nat_le n (m.from + length m.tells)) _ a.1 in
    record { behind = leb-true m.from n a.0; within = leb-true n (m.from + length m.tells) b.0; same = on (n == 0) refl b.1 }
  where
    on : (b : Bool) → (n == 0) ≡ b → (b || is_life last (at m.lives (n - m.from))) ≡ true → (n ≡ 0) ⊎ (at m.lives (n - m.from) ≡ last)
    on true is h = inl (eqb-true n 0 is)
    on false is h = inr (life_at last (at m.lives (n - m.from)) h)

-- the life of the record that counts as number n
abbrev first_or : ℕ → (ℕ → Option ℕ) → ℕ → Option ℕ
first_or l later zero = Some l
first_or l later (suc n) = later n

abbrev life_in : {R : Type 0} → (R → Bool) → List (Written R) → ℕ → Option ℕ
life_in counts [] n = None
life_in counts (x ∷ f) n = if counts x.what then first_or x.life (life_in counts f) n else life_in counts f n

life_there : {R : Type 0} (counts : R → Bool) (before : List (Written R)) (x : Written R) (more : List (Written R)) → counts x.what ≡ true → life_in counts (before ++ x ∷ more) (tally counts before) ≡ Some x.life
life_there counts [] x more e = ap (λ b. if b then first_or x.life (life_in counts more) 0 else life_in counts more 0) e
life_there counts (y ∷ before) x more e = on (counts y.what) (life_there counts before x more e)
  where
    on : (b : Bool) → life_in counts (before ++ x ∷ more) (tally counts before) ≡ Some x.life
        → (if b then first_or y.life (life_in counts (before ++ x ∷ more)) (if b then suc (tally counts before) else tally counts before) else life_in counts (before ++ x ∷ more) (if b then suc (tally counts before) else tally counts before)) ≡ Some x.life
    on true h = h
    on false h = h

-- so one number of a file has one life
one_life : {R : Type 0} (counts : R → Bool) (f : List (Written R)) (n l k : ℕ) → Mark counts f n l → Mark counts f n k → Some l ≡ Some k
one_life counts f n l k a b = sym (is l a) ∙ is k b
  where
    is : (l : ℕ) → Mark counts f n l → life_in counts f n ≡ Some l
    is l m = ap₂ (λ g v. life_in counts g v) m.is (sym m.number) ∙ life_there counts m.before m.last m.more m.counted ∙ ap (λ z. Some z) m.life

-- what the test lets through
pub lets_through : {R X : Type 0} (counts : R → Bool) (f : List (Written R)) (m : Passage X) → HasLives counts f m → LetsThrough counts f m
lets_through {R} {X} counts f m h = record {
  none = λ last z. ands (le-leb m.from 0 (omega arith)) (ands (le-leb 0 (m.from + length m.tells) (omega arith)) refl);
  some = λ n life behind within mark.
      let l = h.all (suc n - m.from) (omega arith) in
      let same : Some l.0 ≡ Some life = one_life counts f n l.0 life (h.marks (suc n - m.from) l.0 n l.1 (omega arith)) mark in
      ands (le-leb m.from (suc n) behind) (ands (le-leb (suc n) (m.from + length m.tells) within) (ap (λ b. b || is_life (Some life) (at m.lives (suc n - m.from))) (test_false (suc n) 0 (λ z. absurd (omega arith))) ∙ ap (is_life (Some life)) (l.1 ∙ same) ∙ test_true life life refl));
}
  where
    ands : {a b : Bool} → a ≡ true → b ≡ true → (a && b) ≡ true
    ands {a = true} e h = h
    ands {a = false} e h = cc

tail_take : {A : Type 0} (t : A) (ts ys : List A) → t ∷ ts ≡ take (suc (length ts)) ys → ts ≡ take (length ts) (drop 1 ys)
tail_take t ts [] e = cc
tail_take t ts (y ∷ ys) e = cc

-- the lives of what follows number 0
lives_from_start : {R X : Type 0} (counts : R → Bool) (f : List (Written R)) (m : Passage X) → HasLives counts f m → m.from ≡ 0 → AreLives counts f (drop 1 m.lives) (length m.tells)
lives_from_start counts f m h z k lt =
    let l = h.all (suc k) (omega arith) in
    (l.0, at_to_drop 1 m.lives k l.0 (let i : 1 + k ≡ suc k = omega arith in ap (at m.lives) i ∙ l.1), h.marks (suc k) l.0 k l.1 (omega arith))

marks_from_start : {R X : Type 0} (counts : R → Bool) (f : List (Written R)) (m : Passage X) → HasLives counts f m → m.from ≡ 0 → (k l : ℕ) → at (drop 1 m.lives) k ≡ Some l → Mark counts f (0 + k) l
marks_from_start counts f m h z k l e =
    let i : 1 + k ≡ suc k = omega arith in
    let j : k ≡ 0 + k = omega arith in
    subst (λ x. Mark counts f x l) j (h.marks (suc k) l k (ap (at m.lives) (sym i) ∙ at_dropped 1 m.lives k l e) (omega arith))

module _ {I S : Type 0} (p : Profile I S) where
  -- ---- an Upload

  module _ (v : Files ClientRecord) (reached : Reached v) (xs : List ServerRecord) (c : ℕ) (last : Option ℕ) (m : Passage Change) (f : List (Written ClientRecord)) (kept : Among f v.kept) (u : IsUploadOf p f m) (t : Passed last (count (server_of p xs) c) m) where
    abbrev s : Server I
    s = server_of p xs

    -- it is taken as in `Roaming`, and the life of the server's last number is then the one that is told of it
    pub record Taken : Type 0 where
      pub hs : List Change
      pub takes : TakesUpload p v xs c hs
      pub same : serve_changes p (server_of p xs) c m.tells ≡ serve_changes p (server_of p xs) c hs
      pub after : (k : ℕ) → (count (after_all p (server_of p xs) (take k (serve_changes p (server_of p xs) c hs).records)) c ≡ 0)
          ⊎ ((l : ℕ) × (now : HasLine p v (after_all p (server_of p xs) (take k (serve_changes p (server_of p xs) c hs).records)) c l) × (at m.lives (suc now.number - m.from) ≡ Some l))

    upload_first : count (server_of p xs) c ≡ 0 → Taken
    upload_first z =
        let le = t.behind in
        let from : m.from ≡ 0 = omega arith in
        let tells : m.tells ≡ take (length m.tells) (changes_of p f) = u.tells ∙ ap (λ k. take (length m.tells) (drop k (changes_of p f))) from in
        let ordered = subst (λ k. InOrder (suc k) m.tells) from u.ordered in
        let lives = lives_from_start is_made f m u.lives from in
        record {
          hs = m.tells;
          takes = Rattle.lives_law.specs.Roaming.TakesUpload.first (drop 1 m.lives) f z kept tells lives ordered;
          same = refl;
          after = λ k. ⊎_elim (λ e. inl e) (λ n. inr (n.0, n.1, (let i : suc n.1.number - m.from ≡ 1 + n.1.number = omega arith in ap (at m.lives) i ∙ at_dropped 1 m.lives n.1.number n.0 n.2))) (begins_lines p v (server_of p xs) c k (drop 1 m.lives) m.tells f z kept tells lives ordered);
        }

    upload_on : (w : ℕ) → m.from ≡ suc w → (life : ℕ) (h : HasLine p v (server_of p xs) c life) → at m.lives (count (server_of p xs) c - m.from) ≡ Some life → Taken
    upload_on w from life h test =
        let n = h.counted in
        let behind = t.behind in
        let within = t.within in
        let pm : Piece Change = record { from = w; lives = m.lives; tells = m.tells } in
        let is_of : IsOf is_made (changes_of p) f (record { from = w; lives = m.lives; tells = m.tells }) = record {
          marks = λ k l e. u.lives.marks k l (w + k) e (omega arith);
          tells = u.tells ∙ ap (λ k. take (length m.tells) (drop k (changes_of p f))) from;
        } in
        let ordered = subst (λ k. InOrder (suc k) m.tells) from u.ordered in
        let place : h.number - w ≡ count (server_of p xs) c - m.from = omega arith in
        let there : at m.lives (h.number - w) ≡ Some life = ap (at m.lives) place ∙ test in
        record {
          hs = m.tells;
          takes = Rattle.lives_law.specs.Roaming.TakesUpload.next (record { from = w; lives = m.lives; tells = m.tells }) f life h kept is_of u.lives.all ordered (omega arith) (omega arith) there;
          same = refl;
          after = λ k.
              let n = keeps_lines p v reached (server_of p xs) c life k (record { from = w; lives = m.lives; tells = m.tells }) f h kept is_of u.lives.all ordered (omega arith) (omega arith) there in
              inr (n.0, n.1, (let i : suc n.1.number - m.from ≡ n.1.number - w = omega arith in ap (at m.lives) i ∙ n.2));
        }

    upload_all : m.from ≡ 0 → (life : ℕ) (h : HasLine p v (server_of p xs) c life) → at m.lives (count (server_of p xs) c - m.from) ≡ Some life → Taken
    upload_all from life h test = on m.tells refl
      where
        on : (ts : List Change) → m.tells ≡ ts → Taken
        on [] is = let n = h.counted in let w = t.within in let l = ap length is in absurd (omega arith)
        on (h0 ∷ ts) is =
            let n = h.counted in
            let within = t.within in
            let long = ap length is in
            let told : h0 ∷ ts ≡ take (suc (length ts)) (changes_of p f) = sym is ∙ u.tells ∙ ap₂ (λ k j. take k (drop j (changes_of p f))) long from in
            let is_of : IsOf is_made (changes_of p) f (record { from = 0; lives = drop 1 m.lives; tells = ts }) = record { marks = marks_from_start is_made f m u.lives from; tells = tail_take h0 ts (changes_of p f) told } in
            let lived : (k : ℕ) → k ≤ length ts → (l : ℕ) × (at (drop 1 m.lives) k ≡ Some l) = λ k le. let l = u.lives.all (suc k) (omega arith) in (l.0, at_to_drop 1 m.lives k l.0 (let i : 1 + k ≡ suc k = omega arith in ap (at m.lives) i ∙ l.1)) in
            let ordered = split (subst (λ l. InOrder 1 l) is (subst (λ k. InOrder (suc k) m.tells) from u.ordered)) in
            let there : at (drop 1 m.lives) (h.number - 0) ≡ Some life = at_to_drop 1 m.lives (h.number - 0) life (let i : 1 + (h.number - 0) ≡ count (server_of p xs) c - m.from = omega arith in ap (at m.lives) i ∙ test) in
            let number = ordered.0 in
            let repeat : nat_le h0.number (count (server_of p xs) c) ≡ true = le-leb h0.number (count (server_of p xs) c) (omega arith) in
            record {
              hs = ts;
              takes = Rattle.lives_law.specs.Roaming.TakesUpload.next (record { from = 0; lives = drop 1 m.lives; tells = ts }) f life h kept is_of lived ordered.1 (omega arith) (omega arith) there;
              same = ap (serve_changes p (server_of p xs) c) is ∙ ap (λ b. if b then serve_changes p (server_of p xs) c ts else merged c h0.number (merge p (server_of p xs) c h0) (λ new. serve_changes p (after_all p (server_of p xs) new) c ts)) repeat;
              after = λ k.
                  let n = keeps_lines p v reached (server_of p xs) c life k (record { from = 0; lives = drop 1 m.lives; tells = ts }) f h kept is_of lived ordered.1 (omega arith) (omega arith) there in
                  inr (n.0, n.1, (let i : suc n.1.number - m.from ≡ 1 + (n.1.number - 0) = omega arith in ap (at m.lives) i ∙ at_dropped 1 m.lives (n.1.number - 0) n.0 n.2));
            }
          where
            split : InOrder 1 (h0 ∷ ts) → (h0.number ≡ 1) × InOrder 2 ts
            split (one e rest) = (e, rest)

    -- what the server has of the ident, none or a line up to the life that it keeps
    pub upload_taken : (count (server_of p xs) c ≡ 0) ⊎ ((life : ℕ) × (last ≡ Some life) × HasLine p v (server_of p xs) c life) → Taken
    upload_taken (inl z) = upload_first z
    upload_taken (inr h) = on m.from refl
      where
        tested : at m.lives (count (server_of p xs) c - m.from) ≡ Some h.0
        tested = ⊎_elim (λ z. let n = h.2.counted in absurd (omega arith)) (λ e. e ∙ h.1) t.same

        on : (w : ℕ) → m.from ≡ w → Taken
        on zero is = upload_all is h.0 h.2 tested
        on (suc w) is = upload_on w is h.0 h.2 tested

  -- ---- a Download

  -- a Download from the start says no more to a client that took something than from the first entry on
  later : (c : Client I S) (ident v : ℕ) (e : Sent) (es : List Sent) → c.cursor ≡ suc v → take_message p c (Download ident 0 (e ∷ es)) ≡ take_message p c (Download ident 1 es)
  later c ident v e es is = ap (λ (a : ClientStep ℕ). if_born c.id (λ id. if ident == c.ident then a else refuse NotMine)) one_side
    where
      low : nat_lt c.cursor 0 ≡ false
      low = le-ltb c.cursor 0 (omega arith)

      high : nat_lt c.cursor 1 ≡ false
      high = le-ltb c.cursor 1 (omega arith)

      dropped : drop (c.cursor - 0) (e ∷ es) ≡ drop (c.cursor - 1) es
      dropped = let a : c.cursor - 0 ≡ suc v = omega arith in let b : v ≡ c.cursor - 1 = omega arith in ap (λ k. drop k (e ∷ es)) a ∙ ap (λ k. drop k es) b

      one_side : (if nat_lt c.cursor 0 then refuse (Gap c.cursor 0) else take_entries p c (drop (c.cursor - 0) (e ∷ es))) ≡ (if nat_lt c.cursor 1 then refuse (Gap c.cursor 1) else take_entries p c (drop (c.cursor - 1) es))
      one_side = ap (λ b. if b then refuse (Gap c.cursor 0) else take_entries p c (drop (c.cursor - 0) (e ∷ es))) low ∙ ap (take_entries p c) dropped ∙ sym (ap (λ b. if b then refuse (Gap c.cursor 1) else take_entries p c (drop (c.cursor - 1) es)) high)

  module _ (w : Files ServerRecord) (reached : Reached w) (g : List ClientRecord) (whole : Each IsWhole g) (ident : ℕ) (last : Option ℕ) (m : Passage Sent) (f : List (Written ServerRecord)) (kept : Among f w.kept) (u : IsDownloadOf p f g m) (t : Passed last (length (tooks_of g)) m) (ok : IsMessage p (Download ident m.from m.tells)) where
    pub record Got : Type 0 where
      pub from : ℕ
      pub es : List Sent
      pub fine : IsMessage p (Download ident from es)
      pub takes : TakesDownload p w g from es
      pub same : take_message p (client_of p g) (Download ident m.from m.tells) ≡ take_message p (client_of p g) (Download ident from es)
      pub after : (k : ℕ) → (tooks_of (g ++ take k (take_message p (client_of p g) (Download ident from es)).records) ≡ [])
          ⊎ ((number l : ℕ) × HasHistory p w (g ++ take k (take_message p (client_of p g) (Download ident from es)).records) number l × (at m.lives (suc number - m.from) ≡ Some l))

    download_first : tooks_of g ≡ [] → Got
    download_first z =
        let le = t.behind in
        let nothing = ap length z in
        let from : m.from ≡ 0 = omega arith in
        let are : AreOf p g m.tells (take (length m.tells) (history_told p f)) = subst (λ k. AreOf p g m.tells (take (length m.tells) (drop k (history_told p f)))) from u.tells in
        let lives = lives_from_start is_entry f m u.lives from in
        let cursor = cursor_is p g whole ∙ nothing in
        record {
          from = 0;
          es = m.tells;
          fine = subst (λ k. IsMessage p (Download ident k m.tells)) from ok;
          takes = Rattle.lives_law.specs.Roaming.TakesDownload.first (drop 1 m.lives) f z kept are lives;
          same = ap (λ k. take_message p (client_of p g) (Download ident k m.tells)) from;
          after = λ k. ⊎_elim (λ e. inl e) (λ n. inr (n.0, n.1, n.2, (let i : suc n.0 - m.from ≡ 1 + n.0 = omega arith in ap (at m.lives) i ∙ at_dropped 1 m.lives n.0 n.1 n.3))) (begins_history p w g ident k (drop 1 m.lives) m.tells f z cursor kept are lives);
        }

    download_on : (v : ℕ) → m.from ≡ suc v → (number life : ℕ) (h : HasHistory p w g number life) → at m.lives (length (tooks_of g) - m.from) ≡ Some life → Got
    download_on v from number life h test =
        let n = h.counted in
        let behind = t.behind in
        let within = t.within in
        let are : AreOf p g m.tells (take (length m.tells) (drop (suc v) (history_told p f))) = subst (λ k. AreOf p g m.tells (take (length m.tells) (drop k (history_told p f)))) from u.tells in
        let same_long = are.0 in
        let pm : Piece (Option (Changeset I)) = record { from = v; lives = m.lives; tells = take (length m.tells) (drop (suc v) (history_told p f)) } in
        let is_of : IsOf is_entry (history_told p) f (record { from = v; lives = m.lives; tells = take (length m.tells) (drop (suc v) (history_told p f)) }) = record {
          marks = λ k l e. u.lives.marks k l (v + k) e (omega arith);
          tells = ap (λ k. take k (drop (suc v) (history_told p f))) same_long;
        } in
        let lived : (k : ℕ) → k ≤ length (take (length m.tells) (drop (suc v) (history_told p f))) → (l : ℕ) × (at m.lives k ≡ Some l) = λ k le. u.lives.all k (omega arith) in
        let place : number - v ≡ length (tooks_of g) - m.from = omega arith in
        let there : at m.lives (number - v) ≡ Some life = ap (at m.lives) place ∙ test in
        record {
          from = suc v;
          es = m.tells;
          fine = subst (λ k. IsMessage p (Download ident k m.tells)) from ok;
          takes = Rattle.lives_law.specs.Roaming.TakesDownload.next pm f number life h kept is_of are lived (omega arith) (omega arith) there;
          same = ap (λ k. take_message p (client_of p g) (Download ident k m.tells)) from;
          after = λ k.
              let q = keeps_history p w reached g number life ident k m.tells pm f h (cursor_is p g whole ∙ n) kept is_of are lived (omega arith) (omega arith) there in
              inr (q.0, q.1, q.2, (let i : suc q.0 - m.from ≡ q.0 - v = omega arith in ap (at m.lives) i ∙ q.3));
        }

    download_all : m.from ≡ 0 → (number life : ℕ) (h : HasHistory p w g number life) → at m.lives (length (tooks_of g) - m.from) ≡ Some life → Got
    download_all from number life h test = on m.tells refl
      where
        fewer : (e : Sent) (es : List Sent) → IsMessage p (Download ident 0 (e ∷ es)) → IsMessage p (Download ident 1 es)
        fewer e es k = (k.0, record { count = (let a = k.1.count in omega arith); bytes = (let a = k.1.bytes in let s : sum_by (λ (x : Sent). length x.body) (e ∷ es) ≡ length e.body + sum_by (λ (x : Sent). length x.body) es = sum_by-cons (λ (x : Sent). length x.body) e es in omega arith); reach = (let a = k.1.reach in omega arith); entries = rest k.1.entries })
          where
            rest : {A : Type 0} {P : A → Type 0} {x : A} {xs : List A} → Each P (x ∷ xs) → Each P xs
            rest (and_each a b) = b

        on : (ts : List Sent) → m.tells ≡ ts → Got
        on [] is = let n = h.counted in let x = t.within in let l = ap length is in absurd (omega arith)
        on (e ∷ es) is =
            let n = h.counted in
            let within = t.within in
            let long = ap length is in
            let whole_are : AreOf p g (e ∷ es) (take (suc (length es)) (history_told p f)) = subst (λ l. AreOf p g l (take (length l) (history_told p f))) is (subst (λ k. AreOf p g m.tells (take (length m.tells) (drop k (history_told p f)))) from u.tells) in
            let are = tail_are e es (history_told p f) whole_are in
            let same_long = are.0 in
            let pm : Piece (Option (Changeset I)) = record { from = 0; lives = drop 1 m.lives; tells = take (length es) (drop 1 (history_told p f)) } in
            let is_of : IsOf is_entry (history_told p) f (record { from = 0; lives = drop 1 m.lives; tells = take (length es) (drop 1 (history_told p f)) }) = record { marks = marks_from_start is_entry f m u.lives from; tells = ap (λ k. take k (drop 1 (history_told p f))) same_long } in
            let lived : (k : ℕ) → k ≤ length (take (length es) (drop 1 (history_told p f))) → (l : ℕ) × (at (drop 1 m.lives) k ≡ Some l) = λ k le. let l = u.lives.all (suc k) (omega arith) in (l.0, at_to_drop 1 m.lives k l.0 (let i : 1 + k ≡ suc k = omega arith in ap (at m.lives) i ∙ l.1)) in
            let there : at (drop 1 m.lives) (number - 0) ≡ Some life = at_to_drop 1 m.lives (number - 0) life (let i : 1 + (number - 0) ≡ length (tooks_of g) - m.from = omega arith in ap (at m.lives) i ∙ test) in
            let cursor = cursor_is p g whole ∙ n in
            record {
              from = 1;
              es = es;
              fine = fewer e es (subst (λ l. IsMessage p (Download ident 0 l)) is (subst (λ k. IsMessage p (Download ident k m.tells)) from ok));
              takes = Rattle.lives_law.specs.Roaming.TakesDownload.next pm f number life h kept is_of are lived (omega arith) (omega arith) there;
              same = ap₂ (λ k l. take_message p (client_of p g) (Download ident k l)) from is ∙ later (client_of p g) ident number e es cursor;
              after = λ k.
                  let q = keeps_history p w reached g number life ident k es pm f h cursor kept is_of are lived (omega arith) (omega arith) there in
                  inr (q.0, q.1, q.2, (let i : suc q.0 - m.from ≡ 1 + (q.0 - 0) = omega arith in ap (at m.lives) i ∙ at_dropped 1 m.lives (q.0 - 0) q.1 q.3));
            }
          where
            tail_are : (e : Sent) (es : List Sent) (ys : List (Option (Changeset I))) → AreOf p g (e ∷ es) (take (suc (length es)) ys) → AreOf p g es (take (length es) (drop 1 ys))
            tail_are e es [] a = absurd (let l = a.0 in omega arith)
            tail_are e es (y ∷ ys) a = ((let l = a.0 in omega arith), λ k x there. a.1 (suc k) x there)

    pub download_taken : (tooks_of g ≡ []) ⊎ ((number life : ℕ) × (last ≡ Some life) × HasHistory p w g number life) → Got
    download_taken (inl z) = download_first z
    download_taken (inr h) = on m.from refl
      where
        tested : at m.lives (length (tooks_of g) - m.from) ≡ Some h.1
        tested = ⊎_elim (λ z. let n = h.3.counted in absurd (omega arith)) (λ e. e ∙ h.2) t.same

        on : (v : ℕ) → m.from ≡ v → Got
        on zero is = download_all is h.0 h.1 h.3 tested
        on (suc v) is = download_on v is h.0 h.1 h.3 tested
