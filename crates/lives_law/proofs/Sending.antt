-- What nodes send is of their files.
use Rattle.std.proofs.Common.{◌≡◌, ◌⊎◌, inl, inr, ⊎_elim, ℕ, zero, suc, ◌+◌, ◌-◌, ◌≤◌, Bool, true, false, not, List, [], ◌∷◌, ◌++◌, Option, Some, None, Result, Ok, Err, refl, sym, ap, ap₂, ◌∙◌, subst, arith, append_assoc, append-nil, length, map, take, drop, length-append, if◌then◌else◌, ◌==◌, eqb-true, nat_le}
use Rattle.std.specs.Prelude.{nat_lt}
use Rattle.sync_theory.specs.Changesets.{Changeset}
use Rattle.sync_theory.specs.Grid.{Meet, rebase, rebase_put, rebase_one, tail}
use Rattle.sync_theory.specs.Lists.{kept}
use Rattle.sync_theory.specs.Logs.{Entry as LogEntry}
use Rattle.std.proofs.lemmas.Bool.Decides.{nat_tests}
use Rattle.sync_model.specs.Bytes.{Uuid, Tables}
use Rattle.sync_model.specs.Profile.{Profile, Lawful, Stuck, cross_changesets, fitting, needs, restricted}
use Rattle.sync_model.specs.Messages.{Change, Sent, Message, Upload, Download, Refused, Bind, Ident, Ask, Ask2, AskTables, Stored, Retire, Retired as RetiredMessage}
use Rattle.sync_model.specs.Clients.{Client, ClientRecord, NotNamed, Born, Named, Made, Took, Form, Subset, Part, Floor, Resumed, Waits, Original, Unsent, as_made, carried_to, changeset_of, ok_list, refuse, answers, if_born, no_client, client_of, after_record, after_records, takes_entry, crossed, change_of, to_upload, upload}
use Rattle.sync_model.specs.Servers.{Server, ServerRecord, ServerStep, AheadOfHistory, NoSuchIdent, NeedsForm2, refuses, marking, if_there, no_server, server_of, is_given, entries_from, sent_of, download, download_first, download_tables, first_form, serve}
use Rattle.sync_model.specs.Each.{Each, no_more, and_each}
use Rattle.sync_model.specs.Worlds.{at, is_there}
use Rattle.sync_model.specs.Files.{IsLong, is_growing, made_acts, client_admits, client_opens, server_opens}
use Rattle.sync_model.proofs.Alone.{both_true}
use Rattle.sync_model.proofs.Lists.{at_map, at_of_map, at_there, map_snoc}
use Rattle.lives_law.specs.Lives.{Written, Mark, tally}
use Rattle.lives_law.specs.Instances.{plain, is_entry, is_made}
use Rattle.lives_law.specs.Uploads.{InOrder, none, one, changes_of}
use Rattle.lives_law.proofs.Instances.{longs_all}
use Rattle.lives_law.specs.Passing.{written_from, history_told}
use Rattle.lives_law.specs.Stored.{HasLives}
use Rattle.lives_law.specs.Sending.{lives_of, passage_of, Asks, UploadsTell, DownloadsTell}
use Rattle.lives_law.proofs.Lists.{at_long}
use Rattle.lives_law.proofs.Taking.{at_dropped, at_to_drop, at_in_take}
use Rattle.lives_law.proofs.Passing.{at_take, history_tells, written_long, written_both, written_stays}
use Rattle.lives_law.proofs.Uploads.{long_take, long_drop, changes_tell}
use Rattle.lives_law.proofs.Histories.{entry_stays}

-- ---- lives of a file

lives_long : {R : Type 0} (counts : R → Bool) (f : List (Written R)) → length (lives_of counts f) ≡ tally counts f
lives_long counts [] = refl
lives_long counts (x ∷ f) = on (counts x.what) (lives_long counts f)
  where
    on : (b : Bool) → length (lives_of counts f) ≡ tally counts f → length (if b then x.life ∷ lives_of counts f else lives_of counts f) ≡ (if b then suc (tally counts f) else tally counts f)
    on true e = ap suc e
    on false e = e

behind : {R : Type 0} {counts : R → Bool} {f : List (Written R)} {n l : ℕ} (x : Written R) (b : Bool) → counts x.what ≡ b → Mark counts f n l → Mark counts (x ∷ f) (if b then suc n else n) l
behind {counts = counts} x b e m = record {
  before = x ∷ m.before;
  last = m.last;
  more = m.more;
  is = ap (λ l. x ∷ l) m.is;
  counted = m.counted;
  number = ap₂ (λ b n. if b then suc n else n) e m.number;
  life = m.life;
}

pub life_marks : {R : Type 0} (counts : R → Bool) (f : List (Written R)) (n l : ℕ) → at (lives_of counts f) n ≡ Some l → Mark counts f n l
life_marks counts [] n l e = cc
life_marks counts (x ∷ f) n l e = on (counts x.what) refl n e (λ k h. life_marks counts f k l h)
  where
    on : (b : Bool) → counts x.what ≡ b → (n : ℕ) → at (if b then x.life ∷ lives_of counts f else lives_of counts f) n ≡ Some l → ((k : ℕ) → at (lives_of counts f) k ≡ Some l → Mark counts f k l) → Mark counts (x ∷ f) n l
    on true is zero e rest = record { before = []; last = x; more = f; is = refl; counted = is; number = refl; life = (let s : Some x.life ≡ Some l = e in cc) }
    on true is (suc n) e rest = behind x true is (rest n e)
    on false is n e rest = behind x false is (rest n e)

has_lives : {R X : Type 0} (counts : R → Bool) (first : ℕ) (f : List (Written R)) (from : ℕ) (tells : List X) → from + length tells ≤ tally counts f → HasLives counts f (passage_of counts first f from tells)
has_lives counts first f from tells le = record {
  all = λ k below.
      let long = lives_long counts f in
      let t = at_there (first ∷ lives_of counts f) (from + k) (omega arith) in
      (t.0, at_to_drop from (first ∷ lives_of counts f) k t.0 t.1);
  marks = λ k l n e z.
      let there : at (first ∷ lives_of counts f) (suc n) ≡ Some l = ap (at (first ∷ lives_of counts f)) (sym z) ∙ at_dropped from (first ∷ lives_of counts f) k l e in
      life_marks counts f n l there;
}

-- ---- lists

-- so many of the first
record First {A : Type 0} (xs ys : List A) : Type 0 where
  n : ℕ
  is : xs ≡ take n ys

first_fits : {A : Type 0} (size : A → ℕ) (most room : ℕ) (xs : List A) → First (fitting size most room xs) xs
first_fits size most room [] = record { n = 0; is = refl }
first_fits size zero room (x ∷ xs) = record { n = 0; is = refl }
first_fits size (suc most) room (x ∷ xs) = on (nat_le (size x) room) (first_fits size most (room - size x) xs)
  where
    on : (b : Bool) → First (fitting size most (room - size x) xs) xs → First (if b then x ∷ fitting size most (room - size x) xs else []) (x ∷ xs)
    on true r = record { n = suc r.n; is = ap (λ l. x ∷ l) r.is }
    on false r = record { n = 0; is = refl }

take_twice : {A : Type 0} (n m : ℕ) (xs : List A) → First (take n (take m xs)) xs
take_twice zero m xs = record { n = 0; is = refl }
take_twice (suc n) zero xs = record { n = 0; is = refl }
take_twice (suc n) (suc m) [] = record { n = 0; is = refl }
take_twice (suc n) (suc m) (x ∷ xs) = let r = take_twice n m xs in record { n = suc r.n; is = ap (λ l. x ∷ l) r.is }

first_then : {A : Type 0} {xs ys zs : List A} → First xs ys → First ys zs → First xs zs
first_then {zs = zs} a b = let r = take_twice a.n b.n zs in record { n = r.n; is = a.is ∙ ap (take a.n) b.is ∙ r.is }

map_first : {A B : Type 0} (f : A → B) (n : ℕ) (xs : List A) → map f (take n xs) ≡ take n (map f xs)
map_first f zero xs = refl
map_first f (suc n) [] = refl
map_first f (suc n) (x ∷ xs) = ap (λ l. f x ∷ l) (map_first f n xs)

first_map : {A B : Type 0} (f : A → B) {xs ys : List A} → First xs ys → First (map f xs) (map f ys)
first_map f {ys = ys} a = record { n = a.n; is = ap (map f) a.is ∙ map_first f a.n ys }

long_map : {A B : Type 0} (f : A → B) (xs : List A) → length (map f xs) ≡ length xs
long_map f [] = refl
long_map f (x ∷ xs) = ap suc (long_map f xs)

drop_map : {A B : Type 0} (f : A → B) (n : ℕ) (xs : List A) → map f (drop n xs) ≡ drop n (map f xs)
drop_map f zero xs = refl
drop_map f (suc n) [] = refl
drop_map f (suc n) (x ∷ xs) = drop_map f n xs

drop_front : {A : Type 0} (xs ys : List A) (n : ℕ) → length xs ≡ n → drop n (xs ++ ys) ≡ ys
drop_front [] ys zero e = refl
drop_front [] ys (suc n) e = absurd (omega arith)
drop_front (x ∷ xs) ys zero e = absurd (omega arith)
drop_front (x ∷ xs) ys (suc n) e = drop_front xs ys n (omega arith)

-- so many of the first is as many as it has
first_long : {A : Type 0} {xs ys : List A} → First xs ys → (xs ≡ take (length xs) ys) × (length xs ≤ length ys)
first_long {xs = xs} {ys = ys} a = on a.n ys xs a.is
  where
    on : {A : Type 0} (n : ℕ) (ys xs : List A) → xs ≡ take n ys → (xs ≡ take (length xs) ys) × (length xs ≤ length ys)
    on zero ys xs e = (e ∙ sym (ap (λ l. take (length l) ys) e), (let l = ap length e in omega arith))
    on (suc n) [] xs e = (e ∙ sym (ap (λ l. take (length l) []) e), (let l = ap length e in omega arith))
    on (suc n) (y ∷ ys) [] e = (refl, omega arith)
    on (suc n) (y ∷ ys) (x ∷ xs) e =
        let same : x ≡ y = cc in
        let rest : xs ≡ take n ys = cc in
        let r = on n ys xs rest in
        let l = r.1 in
        (ap₂ (λ a b. a ∷ b) same r.0, omega arith)

rebase_keeps : {X E : Type 0} (meet : Meet X E) (ps : List X) (e : X) (q : List X × X) → rebase meet ps e ≡ Ok q → length q.0 ≡ length ps
rebase_keeps meet [] e q h = let same : [] ≡ q.0 = cc in ap length (sym same)
rebase_keeps {X} {E} meet (x ∷ ps) e q h = on (meet x e) h (λ f t u. rebase_keeps meet ps f t u)
  where
    put : (y : X) (n : ℕ) (r : Result (List X × X) (ℕ × E)) → ((q : List X × X) → r ≡ Ok q → length q.0 ≡ n) → rebase_put y r ≡ Ok q → length q.0 ≡ suc n
    put y n (Ok t) f s =
        let same : y ∷ t.0 ≡ q.0 = cc in
        let l = f t refl in
        let k : length (y ∷ t.0) ≡ length q.0 = ap length same in
        omega arith
    put y n (Err g) f s = cc

    on : (r : Result (X × X) E) → rebase_one r (λ f. rebase meet ps f) ≡ Ok q → ((f : X) (t : List X × X) → rebase meet ps f ≡ Ok t → length t.0 ≡ length ps) → length q.0 ≡ length (x ∷ ps)
    on (Ok s) k rec = put s.0 (length ps) (rebase meet ps s.1) (rec s.1) k
    on (Err m) k rec = cc

module _ {I S : Type 0} (p : Profile I S) where
  -- ---- a client's file

  originals : List (Unsent I) → List (Original I)
  originals us = map (λ u. u.original) us

  carried_same : (us : List (Unsent I)) (qs : List (Changeset I)) → length qs ≡ length us → map (λ (u : Unsent I). u.original) (carried_to us qs) ≡ map (λ (u : Unsent I). u.original) us
  carried_same [] qs e = refl
  carried_same (u ∷ us) [] e = absurd (omega arith)
  carried_same (u ∷ us) (q ∷ qs) e = ap (λ l. u.original ∷ l) (carried_same us qs (omega arith))

  -- what it made is what it took of its own, and then what is unsent; and numbered from 1 on
  record InFile (c : Client I S) : Type 0 where
    sent : List (Original I)
    split : c.made ≡ sent ++ map (λ u. u.original) c.unsent
    numbers : (k : ℕ) (o : Original I) → at c.made k ≡ Some o → o.number ≡ suc k

  at_end : {A : Type 0} (xs : List A) (x : A) (k : ℕ) (y : A) → at (xs ++ x ∷ []) k ≡ Some y → (at xs k ≡ Some y) ⊎ ((k ≡ length xs) × (x ≡ y))
  at_end [] x zero y e = inr (refl, (let s : Some x ≡ Some y = e in cc))
  at_end [] x (suc k) y e = cc
  at_end (z ∷ xs) x zero y e = inl e
  at_end (z ∷ xs) x (suc k) y e = ⊎_elim (λ h. inl h) (λ h. inr (ap suc h.0, h.1)) (at_end xs x k y e)

  took_made : (c : Client I S) (e : Changeset I) → InFile c → InFile (takes_entry p c e)
  took_made c e m = on (e.origin == c.ident) (rebase (cross_changesets p) (map (changeset_of c.ident) c.unsent) e) refl
    where
      less : (us : List (Unsent I)) → c.made ≡ m.sent ++ map (λ u. u.original) us → (sent : List (Original I)) × (c.made ≡ sent ++ map (λ (u : Unsent I). u.original) (tail us))
      less [] s = (m.sent, s)
      less (u ∷ us) s = (m.sent ++ u.original ∷ [], s ∙ sym (append_assoc m.sent (u.original ∷ []) (map (λ (u : Unsent I). u.original) us)))

      other : (r : Result (List (Changeset I) × Changeset I) (ℕ × Stuck)) → rebase (cross_changesets p) (map (changeset_of c.ident) c.unsent) e ≡ r → InFile (crossed p c r)
      other (Ok q) is = record { sent = m.sent; split = m.split ∙ ap (λ l. m.sent ++ l) (sym (carried_same c.unsent q.0 (rebase_keeps (cross_changesets p) (map (changeset_of c.ident) c.unsent) e q is ∙ long_map (changeset_of c.ident) c.unsent))); numbers = m.numbers }
      other (Err f) is = record { sent = m.sent; split = m.split; numbers = m.numbers }

      on : (b : Bool) (r : Result (List (Changeset I) × Changeset I) (ℕ × Stuck)) → rebase (cross_changesets p) (map (changeset_of c.ident) c.unsent) e ≡ r → InFile (if b then record c { cursor = suc c.cursor; unsent = tail c.unsent } else crossed p c r)
      on true r is = let l = less c.unsent m.split in record { sent = l.0; split = l.1; numbers = m.numbers }
      on false r is = other r is

  one_made : (c : Client I S) (rs : List ClientRecord) (r : ClientRecord) → IsLong r → client_admits p c (map (λ q. Some q) rs) r ≡ true → InFile c → InFile (after_record p c r)
  one_made c rs (Born id) l a m = record { sent = m.sent; split = m.split; numbers = m.numbers }
  one_made c rs (Named ident) l a m = record { sent = m.sent; split = m.split; numbers = m.numbers }
  one_made c rs (Made number ms body) l a m =
      let b = both_true (is_there c.id) _ a in
      let d = both_true (not (is_growing c)) _ b.1 in
      let h = both_true (number == suc (length c.made)) (made_acts p c (p.unspell body)) d.1 in
      let is = eqb-true number (suc (length c.made)) h.0 in
      let o : Original I = record { base = c.cursor; number = number; ms = ms; instrs = ok_list (p.unspell body) } in
      record {
        sent = m.sent;
        split = ap (λ l. l ++ o ∷ []) m.split ∙ append_assoc m.sent (map (λ (u : Unsent I). u.original) c.unsent) (o ∷ []) ∙ ap (λ l. m.sent ++ l) (sym (map_snoc (λ (u : Unsent I). u.original) c.unsent (as_made o)));
        numbers = λ k x e. ⊎_elim (λ old. m.numbers k x old) (λ new. ap (λ (o : Original I). o.number) (sym new.1) ∙ is ∙ ap suc (sym new.0)) (at_end c.made o k x e);
      }
  one_made c rs (Took origin number ms body) l a m = took_made c (record { origin = origin; number = number; ms = ms; instrs = ok_list (p.unspell body) }) m
  one_made c rs Form l a m = record { sent = m.sent; split = m.split; numbers = m.numbers }
  one_made c rs (Subset tables) l a m = record { sent = m.sent; split = m.split; numbers = m.numbers }
  one_made c rs (Part body) l a m = record { sent = m.sent; split = m.split; numbers = m.numbers }
  one_made c rs (Floor version) l a m = record { sent = m.sent; split = m.split; numbers = m.numbers }
  one_made c rs (Resumed number waiting) l a m = absurd l
  one_made c rs (Waits number base ms body current) l a m = absurd l

  all_made : (rs : List ClientRecord) (c : Client I S) → Each IsLong rs → client_opens p c rs ≡ true → InFile c → InFile (after_records p c rs)
  all_made [] c no_more e m = m
  all_made (r ∷ rs) c (and_each l ls) e m =
      let b = both_true (client_admits p c (map (λ q. Some q) rs) r) (client_opens p (after_record p c r) rs) e in
      all_made rs (after_record p c r) ls b.1 (one_made c rs r l b.0 m)

  file_made : (f : List ClientRecord) → Each IsLong f → client_opens p (no_client p) f ≡ true → InFile (client_of p f)
  file_made f longs_ e = all_made f (no_client p) longs_ e (record { sent = []; split = refl; numbers = λ k o h. cc })

  -- changes of such numbers are in order
  ordered : (os : List (Original I)) (n : ℕ) → ((k : ℕ) (o : Original I) → at os k ≡ Some o → o.number ≡ suc (n + k)) → (hs : List Change) → First hs (map (change_of p) os) → InOrder (suc n) hs
  ordered os n numbers hs a = on os n numbers hs a.n a.is
    where
      on : (os : List (Original I)) (n : ℕ) → ((k : ℕ) (o : Original I) → at os k ≡ Some o → o.number ≡ suc (n + k)) → (hs : List Change) (m : ℕ) → hs ≡ take m (map (change_of p) os) → InOrder (suc n) hs
      on os n numbers [] m e = none
      on os n numbers (h ∷ hs) zero e = cc
      on [] n numbers (h ∷ hs) (suc m) e = cc
      on (o ∷ os) n numbers (h ∷ hs) (suc m) e =
          let same : h ≡ change_of p o = cc in
          let rest : hs ≡ take m (map (change_of p) os) = cc in
          let z : suc (n + 0) ≡ suc n = omega arith in
          one (ap (λ (x : Change). x.number) same ∙ numbers 0 o refl ∙ z) (on os (suc n) (λ k q t. let y : suc (n + suc k) ≡ suc (suc n + k) = omega arith in numbers (suc k) q t ∙ y) hs m rest)

  pub uploads_tell : UploadsTell p
  uploads_tell f first c hs longs_ opens sent =
      let x = client_of p (plain f) in
      let m = file_made (plain f) longs_ opens in
      let same : map (change_of p) (client_of p (plain f)).made ≡ changes_of p f = ap (λ l. map (change_of p) (client_of p l).made) (sym (longs_all longs_)) in
      let from = length (client_of p (plain f)).made - length (client_of p (plain f)).unsent in
      let long : length m.sent ≡ from =
      (let a = ap length m.split in let b = length-append m.sent (map (λ (u : Unsent I). u.original) (client_of p (plain f)).unsent) in let d = long_map (λ (u : Unsent I). u.original) (client_of p (plain f)).unsent in omega arith) in
      let rest : drop from (client_of p (plain f)).made ≡ map (λ (u : Unsent I). u.original) (client_of p (plain f)).unsent = ap (drop from) m.split ∙ drop_front m.sent (map (λ (u : Unsent I). u.original) (client_of p (plain f)).unsent) from long in
      let fits = first_fits (λ (h : Change). length h.body) p.most p.room (map (λ (u : Unsent I). change_of p u.original) (client_of p (plain f)).unsent) in
      let bears : First hs (map (change_of p) (drop from (client_of p (plain f)).made)) = record { n = fits.n; is = body (client_of p (plain f)) sent ∙ fits.is ∙ ap (take fits.n) (two (client_of p (plain f)).unsent ∙ ap (map (change_of p)) (sym rest)) } in
      let both : First hs (drop from (map (change_of p) (client_of p (plain f)).made)) = record { n = bears.n; is = bears.is ∙ ap (take bears.n) (drop_map (change_of p) from (client_of p (plain f)).made) } in
      let told = first_long both in
      let all = ap length same ∙ (changes_tell p).long f in
      let made_long = long_map (change_of p) (client_of p (plain f)).made in
      let within = told.1 in
      let le : from ≤ length (map (change_of p) (client_of p (plain f)).made) = (let a = ap length m.split in let b = length-append m.sent (map (λ (u : Unsent I). u.original) (client_of p (plain f)).unsent) in omega arith) in
      let dropped = long_drop p from (map (change_of p) (client_of p (plain f)).made) le in
      record {
        lives = has_lives is_made first f from hs (omega arith);
        tells = subst (λ l. hs ≡ take (length hs) (drop from l)) same told.0;
        ordered = ordered (drop from (client_of p (plain f)).made) from (λ k o e. m.numbers (from + k) o (at_dropped from (client_of p (plain f)).made k o e)) hs bears;
      }
    where
      two : (us : List (Unsent I)) → map (λ (u : Unsent I). change_of p u.original) us ≡ map (change_of p) (map (λ (u : Unsent I). u.original) us)
      two [] = refl
      two (u ∷ us) = ap (λ l. change_of p u.original ∷ l) (two us)

      body : (x : Client I S) → (upload p x).answer ≡ Ok (Upload c hs) → hs ≡ to_upload p x
      body x e = at_id x.id e
        where
          named : (b : Bool) → (if b then refuse NotNamed else answers (Upload x.ident (to_upload p x))).answer ≡ Ok (Upload c hs) → hs ≡ to_upload p x
          named true e = cc
          named false e = cc

          at_id : (o : Option Uuid) → (if_born o (λ id. if x.ident == 0 then refuse NotNamed else answers (Upload x.ident (to_upload p x)))).answer ≡ Ok (Upload c hs) → hs ≡ to_upload p x
          at_id None e = cc
          at_id (Some id) e = named (x.ident == 0) e

  -- ---- a server's file

  record Answered (log : List (LogEntry (Changeset I))) (o : Option Tables) (from : ℕ) (es : List Sent) : Type 0 where
    reach : from ≤ length log
    bears : First es (map (λ x. sent_of p (restricted p o x)) (entries_from p log (length log - from) from))

  module _ (s : Server I) (c from : ℕ) (es : List Sent) where
    -- a question is refused, or answered by what stands there
    there_is : (d cursor settled : ℕ) (go : List (Changeset I) → ServerStep) → (if_there p s d cursor settled go).answer ≡ Download c from es → (cursor ≤ length s.log) × ((go (entries_from p s.log (length s.log - cursor) cursor)).answer ≡ Download c from es)
    there_is d cursor settled go e = given (not (is_given s d)) e
      where
        ahead : (b : Bool) → nat_lt (length s.log) cursor ≡ b → (if b then refuses d 0 (AheadOfHistory (length s.log)) else marking d (s.marks d) cursor settled (go (entries_from p s.log (length s.log - cursor) cursor)).answer).answer ≡ Download c from es → (cursor ≤ length s.log) × ((go (entries_from p s.log (length s.log - cursor) cursor)).answer ≡ Download c from es)
        ahead true is e = cc
        ahead false is e = (grind (arith, nat_tests), e)

        given : (b : Bool) → (if b then refuses d 0 (NoSuchIdent (length s.ids)) else if nat_lt (length s.log) cursor then refuses d 0 (AheadOfHistory (length s.log)) else marking d (s.marks d) cursor settled (go (entries_from p s.log (length s.log - cursor) cursor)).answer).answer ≡ Download c from es → (cursor ≤ length s.log) × ((go (entries_from p s.log (length s.log - cursor) cursor)).answer ≡ Download c from es)
        given true e = cc
        given false e = ahead (nat_lt (length s.log) cursor) refl e

    plainly : (d cursor : ℕ) (xs : List (Changeset I)) → (download p d cursor xs).answer ≡ Download c from es → (from ≡ cursor) × First es (map (sent_of p) xs)
    plainly d cursor xs e =
        let f = first_fits (λ (x : Sent). length x.body) p.most p.room (map (sent_of p) xs) in
        let same : fitting (λ (x : Sent). length x.body) p.most p.room (map (sent_of p) xs) ≡ es = cc in
        let at_cursor : cursor ≡ from = cc in
        (sym at_cursor, record { n = f.n; is = sym same ∙ f.is })

    form_first : (xs : List (Changeset I)) → First (first_form p xs) xs
    form_first [] = record { n = 0; is = refl }
    form_first (x ∷ xs) = on (needs p x.instrs) (form_first xs)
      where
        on : (b : Bool) → First (first_form p xs) xs → First (if b then [] else x ∷ first_form p xs) (x ∷ xs)
        on true r = record { n = 0; is = refl }
        on false r = record { n = suc r.n; is = ap (λ l. x ∷ l) r.is }

    firstly : (d cursor : ℕ) (xs : List (Changeset I)) → (download_first p d cursor xs).answer ≡ Download c from es → (from ≡ cursor) × First es (map (sent_of p) xs)
    firstly d cursor [] e = plainly d cursor [] e
    firstly d cursor (x ∷ xs) e = on (needs p x.instrs) e
      where
        on : (b : Bool) → (if b then refuses d 0 (NeedsForm2 cursor) else download p d cursor (first_form p (x ∷ xs))).answer ≡ Download c from es → (from ≡ cursor) × First es (map (sent_of p) (x ∷ xs))
        on true e = cc
        on false e = let r = plainly d cursor (first_form p (x ∷ xs)) e in (r.0, first_then r.1 (first_map (sent_of p) (form_first (x ∷ xs))))

    answered_by : (o : Option Tables) (cursor : ℕ) → cursor ≤ length s.log → (from ≡ cursor) × First es (map (sent_of p) (map (restricted p o) (entries_from p s.log (length s.log - cursor) cursor))) → Answered s.log o from es
    answered_by o cursor le r =
        let z = r.0 in
        subst (λ k. Answered s.log o k es) (sym r.0) (record { reach = le; bears = record { n = r.1.n; is = r.1.is ∙ ap (take r.1.n) (two (entries_from p s.log (length s.log - cursor) cursor)) } })
      where
        two : (xs : List (Changeset I)) → map (sent_of p) (map (restricted p o) xs) ≡ map (λ x. sent_of p (restricted p o x)) xs
        two [] = refl
        two (x ∷ xs) = ap (λ l. sent_of p (restricted p o x) ∷ l) (two xs)

    all_of : (xs : List (Changeset I)) → map (restricted p None) xs ≡ xs
    all_of [] = refl
    all_of (x ∷ xs) = ap (λ l. x ∷ l) (all_of xs)

    for_all : (cursor : ℕ) → (from ≡ cursor) × First es (map (sent_of p) (entries_from p s.log (length s.log - cursor) cursor)) → (from ≡ cursor) × First es (map (sent_of p) (map (restricted p None) (entries_from p s.log (length s.log - cursor) cursor)))
    for_all cursor r = (r.0, record { n = r.1.n; is = r.1.is ∙ ap (λ l. take r.1.n (map (sent_of p) l)) (sym (all_of (entries_from p s.log (length s.log - cursor) cursor))) })

    answered : (m : Message) (o : Option Tables) → Asks o m → (serve p s m).answer ≡ Download c from es → Answered s.log o from es
    answered (Ask d cursor settled) o a e =
        let t = there_is d cursor settled (download_first p d cursor) e in
        subst (λ q. Answered s.log q from es) (sym a) (answered_by None cursor t.0 (for_all cursor (firstly d cursor (entries_from p s.log (length s.log - cursor) cursor) t.1)))
    answered (Ask2 d cursor settled) o a e =
        let t = there_is d cursor settled (download p d cursor) e in
        subst (λ q. Answered s.log q from es) (sym a) (answered_by None cursor t.0 (for_all cursor (plainly d cursor (entries_from p s.log (length s.log - cursor) cursor) t.1)))
    answered (AskTables d cursor settled second tables) o a e =
        let t = there_is d cursor settled (download_tables p second tables d cursor) e in
        subst (λ q. Answered s.log q from es) (sym a) (answered_by (Some tables) cursor t.0 (on second t.1))
      where
        on : (b : Bool) → (download_tables p b tables d cursor (entries_from p s.log (length s.log - cursor) cursor)).answer ≡ Download c from es → (from ≡ cursor) × First es (map (sent_of p) (map (restricted p (Some tables)) (entries_from p s.log (length s.log - cursor) cursor)))
        on true e = plainly d cursor (map (restricted p (Some tables)) (entries_from p s.log (length s.log - cursor) cursor)) e
        on false e = firstly d cursor (map (restricted p (Some tables)) (entries_from p s.log (length s.log - cursor) cursor)) e
    answered (Bind u) o a e = absurd a
    answered (Ident u d) o a e = absurd a
    answered (Upload d hs) o a e = absurd a
    answered (Download d k xs) o a e = absurd a
    answered (Refused d number code place) o a e = absurd a
    answered (Stored d number) o a e = absurd a
    answered (Retire d by) o a e = absurd a
    answered (RetiredMessage d by number) o a e = absurd a

  module _ {Fits : S → Type 0} (law : Lawful p Fits) (f : List (Written ServerRecord)) (opens : server_opens p no_server (plain f) ≡ true) where
    abbrev log : List (LogEntry (Changeset I))
    log = (server_of p (plain f)).log

    -- the history as it was written is what a question is answered by
    written_entries : (n k : ℕ) → k + n ≡ length (server_of p (plain f)).log → written_from p (server_of p (plain f)).log n k ≡ map (λ x. Some x) (entries_from p (server_of p (plain f)).log n k)
    written_entries zero k e = refl
    written_entries (suc n) k e =
        let whole : server_opens p no_server (plain f ++ []) ≡ true = subst (λ l. server_opens p no_server l ≡ true) (sym (append-nil (plain f))) opens in
        let stays = entry_stays p law (plain f) [] whole k (omega arith) in
        ap₂ (λ x l. x ∷ l) (written_stays p law (plain f) opens k (omega arith) ∙ stays.before) (written_entries n (suc k) (omega arith))
        ∙ ap (λ o. map (λ x. Some x) (kept o ++ entries_from p (server_of p (plain f)).log n (suc k))) (sym stays.before)

    dropped : (from : ℕ) → from ≤ length (server_of p (plain f)).log → drop from (history_told p f) ≡ map (λ x. Some x) (entries_from p (server_of p (plain f)).log (length (server_of p (plain f)).log - from) from)
    dropped from le =
        let z : length (server_of p (plain f)).log ≡ from + (length (server_of p (plain f)).log - from) = omega arith in
        let y : 0 + from ≡ from = omega arith in
        ap (λ n. drop from (written_from p (server_of p (plain f)).log n 0)) z
        ∙ ap (drop from) (written_both p (server_of p (plain f)).log from (length (server_of p (plain f)).log - from) 0)
        ∙ drop_front (written_from p (server_of p (plain f)).log from 0) (written_from p (server_of p (plain f)).log (length (server_of p (plain f)).log - from) (0 + from)) from (written_long p (server_of p (plain f)).log from 0)
        ∙ ap (λ k. written_from p (server_of p (plain f)).log (length (server_of p (plain f)).log - from) k) y
        ∙ written_entries (length (server_of p (plain f)).log - from) from (sym z)

  pub downloads_tell : {Fits : S → Type 0} → Lawful p Fits → DownloadsTell p
  downloads_tell law f g m first c from es opens asks sent =
      let a = answered (server_of p (plain f)) c from es m (client_of p g).subset asks sent in
      let le = a.reach in
      let entries = entries_from p (server_of p (plain f)).log (length (server_of p (plain f)).log - from) from in
      let h : Changeset I → Sent = λ x. sent_of p (restricted p (client_of p g).subset x) in
      let is = dropped law f opens from a.reach in
      let told = first_long a.bears in
      let within = told.1 in
      let l1 = ap length is in
      let l2 = long_map (λ (x : Changeset I). Some x) (entries_from p (server_of p (plain f)).log (length (server_of p (plain f)).log - from) from) in
      let l3 = long_map (λ (x : Changeset I). sent_of p (restricted p (client_of p g).subset x)) (entries_from p (server_of p (plain f)).log (length (server_of p (plain f)).log - from) from) in
      let all = (history_tells p).long f in
      let whole = written_long p (server_of p (plain f)).log (length (server_of p (plain f)).log) 0 in
      let l4 = long_drop p from (history_told p f) (omega arith) in
      record {
        lives = has_lives is_entry first f from es (omega arith);
        tells = (
          sym (long_take p (length es) (drop from (history_told p f)) (omega arith)),
          λ k e there.
              let lt = at_long es k e there in
              let in_all : at (map (λ x. sent_of p (restricted p (client_of p g).subset x)) (entries_from p (server_of p (plain f)).log (length (server_of p (plain f)).log - from) from)) k ≡ Some e = at_take (length es) (map (λ x. sent_of p (restricted p (client_of p g).subset x)) (entries_from p (server_of p (plain f)).log (length (server_of p (plain f)).log - from) from)) k e (ap (λ l. at l k) (sym told.0) ∙ there) in
              let x = at_of_map (λ x. sent_of p (restricted p (client_of p g).subset x)) (entries_from p (server_of p (plain f)).log (length (server_of p (plain f)).log - from) from) k e in_all in
              (x.0, at_in_take (length es) (drop from (history_told p f)) k (Some x.0) lt (ap (λ l. at l k) is ∙ at_map (λ y. Some y) (entries_from p (server_of p (plain f)).log (length (server_of p (plain f)).log - from) from) k x.0 x.1), sym x.2),
        );
      }
