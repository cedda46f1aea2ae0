-- A client that took the whole history of a server has nothing unsent that the server would take for a repeat.
use Rattle.std.proofs.Common.{◌≡◌, ◌≢◌, ℕ, zero, suc, ◌+◌, ◌≤◌, ◌<◌, Bool, true, false, ◌&&◌, ◌||◌, not, List, [], ◌∷◌, ◌++◌, Option, Some, None, Result, Ok, Err, refl, sym, ap, ◌∙◌, subst, arith, if◌then◌else◌, ◌==◌, length, map, eqb-true, ◌-◌, nat_le, append_assoc, append-nil, ap₂, nat_lt}
use Rattle.sync_theory.specs.Grid.{Meet, rebase, rebase_put, rebase_one, tail}
use Rattle.sync_theory.specs.Changesets.{Changeset}
use Rattle.sync_theory.proofs.Logs.{length_snoc}
use Rattle.sync_theory.proofs.Server.{test_true}
use Rattle.sync_model.specs.Profile.{Profile, Stuck, Lawful, cross_changesets, needs, restricted, fitting}
use Rattle.sync_model.specs.Messages.{Change, Sent, Stored, Upload}
use Rattle.sync_model.specs.Each.{Each, no_more, and_each}
use Rattle.sync_model.specs.Clients.{Client, ClientRecord, Born, Named, Made, Took, Form, Subset, Part, Floor, Resumed, Waits, blanks, Original, Unsent, as_made, changeset_of, carried_to, ok_list, waits_too, Forked, OldEntry, sent_changeset, own_refusal, crossed_refusal, read_refusal, entry_refusal, takes_entry, crossed, makes, tooks_of, change_of, to_upload, no_client, client_of, after_record, after_records}
use Rattle.sync_model.specs.Servers.{Server, ServerRecord, no_server, server_of, count, sent_of, NoSuchIdent, is_given, refuses, replies, serve}
use Rattle.sync_model.specs.Files.{IsLong, client_admits, client_opens, is_blank, is_empty, is_growing, made_acts, server_opens, some_come}
use Rattle.sync_model.specs.Recovery.{numbers_from, numbers_of, whole_history}
use Rattle.sync_model.specs.Worlds.{is_there}
use Rattle.sync_model.proofs.Settling.{length_blanks}
use Rattle.sync_model.proofs.Alone.{opened_first, opened_more}
use Rattle.sync_model.proofs.Final.{history_numbers}
use Rattle.shrink_law.specs.Short.{taken}
use Rattle.std.specs.Prelude.{bytes_eq}
use Rattle.shrink_law.specs.Current.{own_numbers, own_stamps, stamps_of, stamp_of, Follow, none_follows, one_follows, HasWhole, HasPart, HasTold}
use Rattle.sync_model.specs.Bytes.{Tables}

both : (a b : Bool) → (a && b) ≡ true → (a ≡ true) × (b ≡ true)
both true b e = (refl, e)
both false b e = cc

none_there : {A : Type 0} (o : Option A) → not (is_there o) ≡ true → o ≡ None
none_there None e = refl
none_there (Some x) e = cc

-- ---- crossing keeps how many there are

put_long : {X E : Type 0} (p : X) (n : ℕ) (r : Result (List X × X) (ℕ × E)) → ((q : List X × X) → r ≡ Ok q → length q.0 ≡ n) → (q : List X × X) → rebase_put p r ≡ Ok q → length q.0 ≡ suc n
put_long p n (Ok q) f s e =
    let same : p ∷ q.0 ≡ s.0 = cc in
    let l = f q refl in
    let k : length (p ∷ q.0) ≡ length s.0 = ap length same in
    omega arith
put_long p n (Err g) f s e = cc

rebase_long : {X E : Type 0} (meet : Meet X E) (ps : List X) (e : X) (q : List X × X) → rebase meet ps e ≡ Ok q → length q.0 ≡ length ps
rebase_long meet [] e q h = let same : [] ≡ q.0 = cc in ap length (sym same)
rebase_long {X} {E} meet (x ∷ ps) e q h = on (meet x e) h (λ f t u. rebase_long meet ps f t u)
  where
    on : (r : Result (X × X) E) → rebase_one r (λ f. rebase meet ps f) ≡ Ok q → ((f : X) (t : List X × X) → rebase meet ps f ≡ Ok t → length t.0 ≡ length ps) → length q.0 ≡ length (x ∷ ps)
    on (Ok s) k rec = put_long s.0 (length ps) (rebase meet ps s.1) (rec s.1) q k
    on (Err m) k rec = cc

carried_long : {I : Type 0} (us : List (Unsent I)) (xs : List (Changeset I)) → length xs ≡ length us → length (carried_to us xs) ≡ length us
carried_long [] xs e = refl
carried_long (u ∷ us) [] e = let l : suc (length us) ≡ 0 = sym e in omega (arith, l)
carried_long (u ∷ us) (x ∷ xs) e = let k : length xs ≡ length us = omega arith in let r = carried_long us xs k in omega arith

carried_follow : {I : Type 0} {n : ℕ} {us : List (Unsent I)} (xs : List (Changeset I)) → Follow n us → Follow n (carried_to us xs)
carried_follow xs none_follows = none_follows
carried_follow [] (one_follows e f) = none_follows
carried_follow (x ∷ xs) (one_follows e f) = one_follows e (carried_follow xs f)

follow_snoc : {I : Type 0} {n : ℕ} {us : List (Unsent I)} (u : Unsent I) → Follow n us → u.original.number ≡ suc (n + length us) → Follow n (us ++ u ∷ [])
follow_snoc {n = n} u none_follows e = one_follows (let z : suc (n + 0) ≡ suc n = omega arith in e ∙ z) none_follows
follow_snoc {n = n} u (one_follows {us = us} h f) e = one_follows h (follow_snoc u f (let z : suc (n + suc (length us)) ≡ suc (suc n + length us) = omega arith in e ∙ z))

len_append : {A : Type 0} (xs ys : List A) → length (xs ++ ys) ≡ length xs + length ys
len_append [] ys = omega arith
len_append (x ∷ xs) ys = let r = len_append xs ys in omega arith

len_map : {A B : Type 0} (f : A → B) (xs : List A) → length (map f xs) ≡ length xs
len_map f [] = refl
len_map f (x ∷ xs) = let r = len_map f xs in omega arith

-- so many own entries were taken, and what is unsent comes next
record Next {I S : Type 0} (n : ℕ) (c : Client I S) : Type 0 where
  follow : Follow n c.unsent
  made : n + length c.unsent ≡ length c.made

module _ {I S : Type 0} (p : Profile I S) where
  -- ---- a client that has its ident keeps it

  takes_ident : (c : Client I S) (x : Changeset I) → (takes_entry p c x).ident ≡ c.ident
  takes_ident c x = go (x.origin == c.ident) (rebase (cross_changesets p) (map (changeset_of c.ident) c.unsent) x)
    where
      on : (r : Result (List (Changeset I) × Changeset I) (ℕ × Stuck)) → (crossed p c r).ident ≡ c.ident
      on (Ok q) = refl
      on (Err f) = refl

      go : (b : Bool) (r : Result (List (Changeset I) × Changeset I) (ℕ × Stuck)) → (if b then record c { cursor = suc c.cursor; unsent = tail c.unsent } else crossed p c r).ident ≡ c.ident
      go true r = refl
      go false r = on r

  one_keeps : (c : Client I S) (ahead : List (Option ClientRecord)) (r : ClientRecord) → client_admits p c ahead r ≡ true → c.ident ≢ 0 → (after_record p c r).ident ≡ c.ident
  one_keeps c ahead (Born id) e ne = refl
  one_keeps c ahead (Named ident) e ne = absurd (ne (eqb-true c.ident 0 (both (c.ident == 0) (not (ident == 0)) (both (not (is_growing c)) _ (both (is_there c.id) _ e).1).1).0))
  one_keeps c ahead (Made number ms body) e ne = refl
  one_keeps c ahead (Took origin number ms body) e ne = takes_ident c (record { origin = origin; number = number; ms = ms; instrs = ok_list (p.unspell body) })
  one_keeps c ahead Form e ne = refl
  one_keeps c ahead (Subset tables) e ne = refl
  one_keeps c ahead (Part body) e ne = refl
  one_keeps c ahead (Floor version) e ne = refl
  one_keeps c ahead (Resumed number waiting) e ne = refl
  one_keeps c ahead (Waits number base ms body current) e ne = refl

  all_keep : (rs : List ClientRecord) (c : Client I S) → client_opens p c rs ≡ true → c.ident ≢ 0 → (after_records p c rs).ident ≡ c.ident
  all_keep [] c e ne = refl
  all_keep (r ∷ rs) c e ne =
      let b = both (client_admits p c (map (λ q. Some q) rs) r) (client_opens p (after_record p c r) rs) e in
      let one = one_keeps c (map (λ q. Some q) rs) r b.0 ne in
      all_keep rs (after_record p c r) b.1 (λ z. ne (sym one ∙ z)) ∙ one

  -- ---- one record

  made_next : (n : ℕ) (c : Client I S) (number ms : ℕ) (is : List I) → number ≡ suc (length c.made) → Next n c → Next n (makes p c (record { base = c.cursor; number = number; ms = ms; instrs = is }))
  made_next n c number ms is e h =
      let o : Original I = record { base = c.cursor; number = number; ms = ms; instrs = is } in
      let l = length_snoc c.unsent (as_made o) in
      let k = length_snoc c.made o in
      let m = h.made in
      record {
        follow = follow_snoc (as_made o) h.follow (let z : suc (length c.made) ≡ suc (n + length c.unsent) = omega arith in e ∙ z);
        made = omega arith;
      }

  -- an own entry that isn't refused is the head of the unsent list
  own_next : (n : ℕ) (c : Client I S) (e : Sent) → own_refusal p c.unsent e ≡ None → Next n c → Next (suc n) (record c { cursor = suc c.cursor; unsent = tail c.unsent })
  own_next n c e r h = on c.unsent r h.follow h.made
    where
      on : (us : List (Unsent I)) → own_refusal p us e ≡ None → Follow n us → n + length us ≡ length c.made → Next (suc n) (record c { cursor = suc c.cursor; unsent = tail us })
      on [] r f m = cc
      on (u ∷ us) r (one_follows g f) m = record { follow = f; made = omega arith }

  crossed_next : (n : ℕ) (c : Client I S) (r : Result (List (Changeset I) × Changeset I) (ℕ × Stuck)) → ((q : List (Changeset I) × Changeset I) → r ≡ Ok q → length q.0 ≡ length c.unsent) → crossed_refusal p c r ≡ None → Next n c → Next n (crossed p c r)
  crossed_next n c (Ok q) f e h =
      let l = carried_long c.unsent q.0 (f q refl) in
      let m = h.made in
      record { follow = carried_follow q.0 h.follow; made = omega arith }
  crossed_next n c (Err g) f e h = cc

  -- how many more
  abbrev more : Bool → ℕ → ℕ
  more b n = if b then suc n else n

  read_next : (n : ℕ) (c : Client I S) (e : Sent) (r : Result (List I) (ℕ × ℕ)) → read_refusal p c e r ≡ None → Next n c → Next (more (e.origin == c.ident) n) (takes_entry p c (sent_changeset e (ok_list r)))
  read_next n c e (Err f) h k = cc
  read_next n c e (Ok is) h k = on (needs p is && not c.second) (e.origin == c.ident) h
    where
      x : Changeset I
      x = sent_changeset e is

      on : (a b : Bool) → (if a then Some (OldEntry c.cursor) else if b then own_refusal p c.unsent e else crossed_refusal p c (rebase (cross_changesets p) (map (changeset_of c.ident) c.unsent) (sent_changeset e is))) ≡ None
          → Next (more b n) (if b then record c { cursor = suc c.cursor; unsent = tail c.unsent } else crossed p c (rebase (cross_changesets p) (map (changeset_of c.ident) c.unsent) (sent_changeset e is)))
      on true b g = cc
      on false true g = own_next n c e g k
      on false false g = crossed_next n c (rebase (cross_changesets p) (map (changeset_of c.ident) c.unsent) (sent_changeset e is)) (λ q u. rebase_long (cross_changesets p) (map (changeset_of c.ident) c.unsent) (sent_changeset e is) q u ∙ len_map (changeset_of c.ident) c.unsent) g k

  -- ---- all records

  -- how many transactions the front of a short file counts
  abbrev resumed_by : ClientRecord → ℕ → ℕ
  resumed_by (Resumed number waiting) rest = number + rest
  resumed_by r rest = rest

  abbrev resumed : List ClientRecord → ℕ
  resumed [] = 0
  resumed (r ∷ rs) = resumed_by r (resumed rs)

  -- a file without one counts none
  long_none : (rs : List ClientRecord) → Each IsLong rs → resumed rs ≡ 0
  long_none [] no_more = refl
  long_none (r ∷ rs) (and_each h f) = one r h (long_none rs f)
    where
      one : (r : ClientRecord) → IsLong r → resumed rs ≡ 0 → resumed_by r (resumed rs) ≡ 0
      one (Born id) h e = e
      one (Named ident) h e = e
      one (Made number ms body) h e = e
      one (Took origin number ms body) h e = e
      one Form h e = e
      one (Subset tables) h e = e
      one (Part body) h e = e
      one (Floor version) h e = e
      one (Resumed number waiting) h e = absurd h
      one (Waits number base ms body current) h e = absurd h

  none_yet : {A : Type 0} (xs : List A) → is_empty xs ≡ true → length xs ≡ 0
  none_yet [] h = refl
  none_yet (x ∷ xs) h = cc

  -- a blank client counts from the number of its front on
  resumed_next : (n : ℕ) (c : Client I S) (number waiting : ℕ) → is_blank c ≡ true → Next n c → Next (n + number) (after_record p c (Resumed number waiting))
  resumed_next n c number waiting blank h =
      let none = none_yet c.made (both (c.ident == 0) (is_empty c.made) (both (not (is_there c.floor)) _ (both (not (is_there c.subset)) _ (both (is_there c.id) _ blank).1).1).1).1 in
      let long = len_append c.made (blanks {I = I} (suc (length c.made)) number) in
      let many = length_blanks I (suc (length c.made)) number in
      let m = h.made in
      record { follow = on c.unsent (omega (arith, m, none)); made = omega (arith, m, none, long, many) }
    where
      on : (us : List (Unsent I)) → length us ≡ 0 → Follow (n + number) us
      on [] e = none_follows
      on (u ∷ us) e = absurd (omega (arith, e))

  waits_next : (n : ℕ) (c : Client I S) (u : Unsent I) → u.original.number ≡ suc (length c.made) → Next n c → Next n (waits_too c u)
  waits_next n c u e h =
      let l = length_snoc c.unsent u in
      let k = length_snoc c.made u.original in
      let m = h.made in
      record { follow = follow_snoc u h.follow (let z : suc (length c.made) ≡ suc (n + length c.unsent) = omega arith in e ∙ z); made = omega arith }

  all_next : (rs : List ClientRecord) (c : Client I S) (n d : ℕ) → client_opens p c rs ≡ true → (after_records p c rs).ident ≡ d → Next n c → Next (n + resumed rs + length (own_numbers d (tooks_of rs))) (after_records p c rs)
  all_next [] c n d e is h = subst (λ k. Next k c) zero_more h
    where
      zero_more : n ≡ n + 0 + 0
      zero_more = omega arith
  all_next (r ∷ rs) c n d e is h = on r (both (client_admits p c (map (λ q. Some q) rs) r) (client_opens p (after_record p c r) rs) e) is (λ m k. all_next rs (after_record p c r) m d (both (client_admits p c (map (λ q. Some q) rs) r) (client_opens p (after_record p c r) rs) e).1 is k)
    where
      on : (r : ClientRecord) → (client_admits p c (map (λ q. Some q) rs) r ≡ true) × (client_opens p (after_record p c r) rs ≡ true) → (after_records p (after_record p c r) rs).ident ≡ d
          → ((m : ℕ) → Next m (after_record p c r) → Next (m + resumed rs + length (own_numbers d (tooks_of rs))) (after_records p (after_record p c r) rs))
          → Next (n + resumed_by r (resumed rs) + length (own_numbers d (tooks_of (r ∷ rs)))) (after_records p (after_record p c r) rs)
      on (Born id) b i go = go n (record { follow = h.follow; made = h.made })
      on (Named ident) b i go = go n (record { follow = h.follow; made = h.made })
      on (Made number ms body) b i go =
          let a = (both (not (is_growing c)) _ (both (is_there c.id) _ b.0).1).1 in
          go n (made_next n c number ms (ok_list (p.unspell body)) (eqb-true number (suc (length c.made)) (both (number == suc (length c.made)) (made_acts p c (p.unspell body)) a).0) h)
      on (Took origin number ms body) b i go =
          let t : Sent = record { origin = origin; number = number; ms = ms; body = body } in
          let a = both (not (c.ident == 0)) _ b.0 in
          let fine = none_there (entry_refusal p c t) (both (not (number == 0)) _ (both (not (origin == 0)) _ (both (nat_lt c.cursor p.full) _ a.1).1).1).1 in
          let same : c.ident ≡ d = sym (all_keep rs (after_record p c (Took origin number ms body)) b.1 (λ z. named c.ident a.0 (sym (takes_ident c (sent_changeset t (ok_list (p.unspell body)))) ∙ z)) ∙ takes_ident c (sent_changeset t (ok_list (p.unspell body)))) ∙ i in
          let one = go (more (origin == c.ident) n) (read_next n c t (p.unspell body) fine h) in
          subst (λ k. Next k (after_records p (after_record p c (Took origin number ms body)) rs)) (ap (λ z. more (origin == z) n + resumed rs + length (own_numbers d (tooks_of rs))) same ∙ tells (origin == d) number) one
        where
          named : (k : ℕ) → not (k == 0) ≡ true → k ≡ 0 → ⊥
          named k g z = let t = test_true k 0 z in cc

          tells : (b : Bool) (number : ℕ) → more b n + resumed rs + length (own_numbers d (tooks_of rs)) ≡ n + resumed rs + length (if b then number ∷ own_numbers d (tooks_of rs) else own_numbers d (tooks_of rs))
          tells true number = omega arith
          tells false number = refl
      on Form b i go = go n (record { follow = h.follow; made = h.made })
      on (Subset tables) b i go = go n (record { follow = h.follow; made = h.made })
      on (Part body) b i go = go n (record { follow = h.follow; made = h.made })
      on (Floor version) b i go = go n (record { follow = h.follow; made = h.made })
      on (Resumed number waiting) b i go =
          subst (λ k. Next k (after_records p (after_record p c (Resumed number waiting)) rs)) (let z : n + number + resumed rs + length (own_numbers d (tooks_of rs)) ≡ n + (number + resumed rs) + length (own_numbers d (tooks_of rs)) = omega arith in z)
          (go (n + number) (resumed_next n c number waiting (both (is_blank c) _ b.0).0 h))
      on (Waits number base ms body current) b i go =
          go n (waits_next n c (record { original = record { base = base; number = number; ms = ms; instrs = ok_list (p.unspell body) }; current = ok_list (p.unspell current) }) (eqb-true number (suc (length c.made)) (both (number == suc (length c.made)) _ (both (some_come c.front) _ b.0).1).0) h)

  -- ---- what it made is in the history, or unsent

  abbrev Told : List (ℕ × ℕ) → Client I S → Type 0
  Told sent c = map stamp_of c.made ≡ sent ++ map (λ u. stamp_of u.original) c.unsent

  map_append : {A B : Type 0} (f : A → B) (xs ys : List A) → map f (xs ++ ys) ≡ map f xs ++ map f ys
  map_append f [] ys = refl
  map_append f (x ∷ xs) ys = ap (λ l. f x ∷ l) (map_append f xs ys)

  carried_stamps : (us : List (Unsent I)) (xs : List (Changeset I)) → length xs ≡ length us → map (λ u. stamp_of u.original) (carried_to us xs) ≡ map (λ u. stamp_of u.original) us
  carried_stamps [] xs e = refl
  carried_stamps (u ∷ us) [] e = let l : suc (length us) ≡ 0 = sym e in absurd (omega (arith, l))
  carried_stamps (u ∷ us) (x ∷ xs) e = ap (λ l. stamp_of u.original ∷ l) (carried_stamps us xs (omega arith))

  made_told : (sent : List (ℕ × ℕ)) (c : Client I S) (o : Original I) → Told sent c → Told sent (makes p c o)
  made_told sent c o h =
      map_append stamp_of c.made (o ∷ [])
      ∙ ap (λ l. l ++ stamp_of o ∷ []) h
      ∙ append_assoc sent (map (λ u. stamp_of u.original) c.unsent) (stamp_of o ∷ [])
      ∙ ap (λ l. sent ++ l) (sym (map_append (λ u. stamp_of u.original) c.unsent (as_made o ∷ [])))

  own_told : (sent : List (ℕ × ℕ)) (c : Client I S) (e : Sent) → own_refusal p c.unsent e ≡ None → Told sent c → map stamp_of c.made ≡ (sent ++ (e.number, e.ms) ∷ []) ++ map (λ u. stamp_of u.original) (tail c.unsent)
  own_told sent c e r h = on c.unsent r h
    where
      stamp_is : (u : Unsent I) → (if (u.original.number == e.number) && ((u.original.ms == e.ms) && bytes_eq (p.spell u.current) e.body) then None else Some (Forked e.number)) ≡ None → stamp_of u.original ≡ (e.number, e.ms)
      stamp_is u g = go (u.original.number == e.number) (u.original.ms == e.ms) (bytes_eq (p.spell u.current) e.body) refl refl g
        where
          go : (a b t : Bool) → (u.original.number == e.number) ≡ a → (u.original.ms == e.ms) ≡ b → (if a && (b && t) then None else Some (Forked e.number)) ≡ None → stamp_of u.original ≡ (e.number, e.ms)
          go true true t x y g = ap₂ (λ k m. (k, m)) (eqb-true u.original.number e.number x) (eqb-true u.original.ms e.ms y)
          go true false t x y g = cc
          go false b t x y g = cc

      on : (us : List (Unsent I)) → own_refusal p us e ≡ None → map stamp_of c.made ≡ sent ++ map (λ u. stamp_of u.original) us → map stamp_of c.made ≡ (sent ++ (e.number, e.ms) ∷ []) ++ map (λ u. stamp_of u.original) (tail us)
      on [] g m = cc
      on (u ∷ us) g m = m ∙ ap (λ s. sent ++ s ∷ map (λ u. stamp_of u.original) us) (stamp_is u g) ∙ sym (append_assoc sent ((e.number, e.ms) ∷ []) (map (λ u. stamp_of u.original) us))

  -- the stamps so far, and one more
  abbrev and_sent : Bool → List (ℕ × ℕ) → Sent → List (ℕ × ℕ)
  and_sent b sent e = if b then sent ++ (e.number, e.ms) ∷ [] else sent

  read_told : (sent : List (ℕ × ℕ)) (c : Client I S) (e : Sent) (r : Result (List I) (ℕ × ℕ)) → read_refusal p c e r ≡ None → Told sent c → Told (and_sent (e.origin == c.ident) sent e) (takes_entry p c (sent_changeset e (ok_list r)))
  read_told sent c e (Err f) h k = cc
  read_told sent c e (Ok is) h k = on (needs p is && not c.second) (e.origin == c.ident) h
    where
      crossed_told : (r : Result (List (Changeset I) × Changeset I) (ℕ × Stuck)) → ((q : List (Changeset I) × Changeset I) → r ≡ Ok q → length q.0 ≡ length c.unsent) → crossed_refusal p c r ≡ None → Told sent (crossed p c r)
      crossed_told (Ok q) f g = k ∙ ap (λ l. sent ++ l) (sym (carried_stamps c.unsent q.0 (f q refl)))
      crossed_told (Err g) f z = cc

      on : (a b : Bool) → (if a then Some (OldEntry c.cursor) else if b then own_refusal p c.unsent e else crossed_refusal p c (rebase (cross_changesets p) (map (changeset_of c.ident) c.unsent) (sent_changeset e is))) ≡ None
          → Told (and_sent b sent e) (if b then record c { cursor = suc c.cursor; unsent = tail c.unsent } else crossed p c (rebase (cross_changesets p) (map (changeset_of c.ident) c.unsent) (sent_changeset e is)))
      on true b g = cc
      on false true g = own_told sent c e g k
      on false false g = crossed_told (rebase (cross_changesets p) (map (changeset_of c.ident) c.unsent) (sent_changeset e is)) (λ q u. rebase_long (cross_changesets p) (map (changeset_of c.ident) c.unsent) (sent_changeset e is) q u ∙ len_map (changeset_of c.ident) c.unsent) g

  all_told : (rs : List ClientRecord) (c : Client I S) (sent : List (ℕ × ℕ)) (d : ℕ) → Each IsLong rs → client_opens p c rs ≡ true → (after_records p c rs).ident ≡ d → Told sent c → Told (sent ++ own_stamps d (tooks_of rs)) (after_records p c rs)
  all_told [] c sent d no_more e is h = subst (λ l. Told l c) (sym (append-nil sent)) h
  all_told (r ∷ rs) c sent d (and_each long longs) e is h = on r long (both (client_admits p c (map (λ q. Some q) rs) r) (client_opens p (after_record p c r) rs) e) is (λ m k. all_told rs (after_record p c r) m d longs (both (client_admits p c (map (λ q. Some q) rs) r) (client_opens p (after_record p c r) rs) e).1 is k)
    where
      on : (r : ClientRecord) → IsLong r → (client_admits p c (map (λ q. Some q) rs) r ≡ true) × (client_opens p (after_record p c r) rs ≡ true) → (after_records p (after_record p c r) rs).ident ≡ d
          → ((m : List (ℕ × ℕ)) → Told m (after_record p c r) → Told (m ++ own_stamps d (tooks_of rs)) (after_records p (after_record p c r) rs))
          → Told (sent ++ own_stamps d (tooks_of (r ∷ rs))) (after_records p (after_record p c r) rs)
      on (Born id) l b i go = go sent h
      on (Named ident) l b i go = go sent h
      on (Made number ms body) l b i go = go sent (made_told sent c (record { base = c.cursor; number = number; ms = ms; instrs = ok_list (p.unspell body) }) h)
      on (Took origin number ms body) l b i go =
          let t : Sent = record { origin = origin; number = number; ms = ms; body = body } in
          let a = both (not (c.ident == 0)) _ b.0 in
          let fine = none_there (entry_refusal p c t) (both (not (number == 0)) _ (both (not (origin == 0)) _ (both (nat_lt c.cursor p.full) _ a.1).1).1).1 in
          let same : c.ident ≡ d = sym (all_keep rs (after_record p c (Took origin number ms body)) b.1 (λ z. named c.ident a.0 (sym (takes_ident c (sent_changeset t (ok_list (p.unspell body)))) ∙ z)) ∙ takes_ident c (sent_changeset t (ok_list (p.unspell body)))) ∙ i in
          let one = go (and_sent (origin == c.ident) sent t) (read_told sent c t (p.unspell body) fine h) in
          subst (λ l. Told l (after_records p (after_record p c (Took origin number ms body)) rs)) (ap (λ z. and_sent (origin == z) sent t ++ own_stamps d (tooks_of rs)) same ∙ tells (origin == d) t) one
        where
          named : (k : ℕ) → not (k == 0) ≡ true → k ≡ 0 → ⊥
          named k g z = let t = test_true k 0 z in cc

          tells : (b : Bool) (t : Sent) → and_sent b sent t ++ own_stamps d (tooks_of rs) ≡ sent ++ (if b then (t.number, t.ms) ∷ own_stamps d (tooks_of rs) else own_stamps d (tooks_of rs))
          tells true t = append_assoc sent ((t.number, t.ms) ∷ []) (own_stamps d (tooks_of rs))
          tells false t = refl
      on Form l b i go = go sent h
      on (Subset tables) l b i go = go sent h
      on (Part body) l b i go = go sent h
      on (Floor version) l b i go = go sent h
      on (Resumed number waiting) l b i go = absurd l
      on (Waits number base ms body current) l b i go = absurd l

  stamps_sent : (o : Option Tables) (c : ℕ) (xs : List (Changeset I)) → own_stamps c (map (λ x. sent_of p (restricted p o x)) xs) ≡ stamps_of c xs
  stamps_sent o c [] = refl
  stamps_sent o c (x ∷ xs) = on (x.origin == c) (stamps_sent o c xs)
    where
      on : (b : Bool) → own_stamps c (map (λ x. sent_of p (restricted p o x)) xs) ≡ stamps_of c xs → (if b then (x.number, x.ms) ∷ own_stamps c (map (λ x. sent_of p (restricted p o x)) xs) else own_stamps c (map (λ x. sent_of p (restricted p o x)) xs)) ≡ (if b then (x.number, x.ms) ∷ stamps_of c xs else stamps_of c xs)
      on true e = ap (λ l. (x.number, x.ms) ∷ l) e
      on false e = e

  -- what is unsent comes next after the transactions that were taken
  pub made_and_next : (rs : List ClientRecord) → client_opens p (no_client p) rs ≡ true → Follow (taken (client_of p rs)) (client_of p rs).unsent
  made_and_next rs open_ =
      let c = client_of p rs in
      let nothing : Next 0 (no_client p) = record { follow = none_follows; made = omega arith } in
      let all = all_next rs (no_client p) 0 c.ident open_ refl nothing in
      let m = all.made in
      let same : 0 + resumed rs + length (own_numbers c.ident (tooks_of rs)) ≡ taken c = omega arith in
      subst (λ k. Follow k c.unsent) same all.follow

  -- ---- the server's history

  own_sent : (o : Option Tables) (c : ℕ) (xs : List (Changeset I)) → own_numbers c (map (λ x. sent_of p (restricted p o x)) xs) ≡ numbers_of c xs
  own_sent o c [] = refl
  own_sent o c (x ∷ xs) = on (x.origin == c) (own_sent o c xs)
    where
      on : (b : Bool) → own_numbers c (map (λ x. sent_of p (restricted p o x)) xs) ≡ numbers_of c xs → (if b then x.number ∷ own_numbers c (map (λ x. sent_of p (restricted p o x)) xs) else own_numbers c (map (λ x. sent_of p (restricted p o x)) xs)) ≡ (if b then x.number ∷ numbers_of c xs else numbers_of c xs)
      on true e = ap (λ l. x.number ∷ l) e
      on false e = e

  long_numbers : (k n : ℕ) → length (numbers_from k n) ≡ n
  long_numbers k zero = refl
  long_numbers k (suc n) = let r = long_numbers (suc k) n in omega arith

  -- what follows n is above it
  follow_above : {n m : ℕ} {us : List (Unsent I)} → n ≤ m → Follow m us → Each (λ h. n < h.number) (map (λ u. change_of p u.original) us)
  follow_above h none_follows = no_more
  follow_above h (one_follows e f) = and_each (omega arith) (follow_above (omega arith) f)

  fitting_each : {A : Type 0} (P : A → Type 0) (size : A → ℕ) (n room : ℕ) (xs : List A) → Each P xs → Each P (fitting size n room xs)
  fitting_each P size n room [] no_more = no_more
  fitting_each P size zero room (x ∷ xs) h = no_more
  fitting_each P size (suc n) room (x ∷ xs) (and_each h f) = on (nat_le (size x) room) (fitting_each P size n (room - size x) xs f)
    where
      on : (b : Bool) → Each P (fitting size n (room - size x) xs) → Each P (if b then x ∷ fitting size n (room - size x) xs else [])
      on true g = and_each h g
      on false g = no_more

  -- a server that has as many of its changes as it took of its own has none of what it has unsent
  pub probed : (rs : List ClientRecord) (n : ℕ) → client_opens p (no_client p) rs ≡ true → n ≡ taken (client_of p rs) → Each (λ h. n < h.number) (to_upload p (client_of p rs))
  probed rs n open_ e =
      let c = client_of p rs in
      fitting_each (λ h. n < h.number) (λ h. length h.body) p.most p.room (map (λ u. change_of p u.original) c.unsent) (follow_above (omega (arith, e)) (made_and_next rs open_))

  pub probe : (s : Server I) (c : ℕ) → is_given s c ≡ true → serve p s (Upload c []) ≡ replies (Stored c (count s c))
  probe s c e = ap (λ b. if b then replies (Stored c (count s c)) else refuses c 0 (NoSuchIdent (length s.ids))) e

  module _ {Fits : S → Type 0} (law : Lawful p Fits) where
    numbers_append : (c : ℕ) (xs ys : List (Changeset I)) → length (numbers_of c (xs ++ ys)) ≡ length (numbers_of c xs) + length (numbers_of c ys)
    numbers_append c [] ys = omega arith
    numbers_append c (x ∷ xs) ys = on (x.origin == c) (numbers_append c xs ys)
      where
        on : (b : Bool) → length (numbers_of c (xs ++ ys)) ≡ length (numbers_of c xs) + length (numbers_of c ys)
            → length (if b then x.number ∷ numbers_of c (xs ++ ys) else numbers_of c (xs ++ ys)) ≡ length (if b then x.number ∷ numbers_of c xs else numbers_of c xs) + length (numbers_of c ys)
        on true e = omega (arith, e)
        on false e = e

    stamps_append : (c : ℕ) (xs ys : List (Changeset I)) → stamps_of c (xs ++ ys) ≡ stamps_of c xs ++ stamps_of c ys
    stamps_append c [] ys = refl
    stamps_append c (x ∷ xs) ys = on (x.origin == c) (stamps_append c xs ys)
      where
        on : (b : Bool) → stamps_of c (xs ++ ys) ≡ stamps_of c xs ++ stamps_of c ys
            → (if b then (x.number, x.ms) ∷ stamps_of c (xs ++ ys) else stamps_of c (xs ++ ys)) ≡ (if b then (x.number, x.ms) ∷ stamps_of c xs else stamps_of c xs) ++ stamps_of c ys
        on true e = ap (λ l. (x.number, x.ms) ∷ l) e
        on false e = e

    no_stamps : (c : ℕ) (xs : List (Changeset I)) → length (numbers_of c xs) ≡ 0 → stamps_of c xs ≡ []
    no_stamps c [] e = refl
    no_stamps c (x ∷ xs) e = on (x.origin == c) e (no_stamps c xs)
      where
        on : (b : Bool) → length (if b then x.number ∷ numbers_of c xs else numbers_of c xs) ≡ 0 → (length (numbers_of c xs) ≡ 0 → stamps_of c xs ≡ []) → (if b then (x.number, x.ms) ∷ stamps_of c xs else stamps_of c xs) ≡ []
        on true f rec = absurd (omega (arith, f))
        on false f rec = rec f

    -- a client that took a beginning of the history, where the server has as many of its changes as it took of its own
    pub part_told : (rs : List ClientRecord) (ss : List ServerRecord) → Each IsLong rs → client_opens p (no_client p) rs ≡ true → server_opens p no_server ss ≡ true → HasPart p rs (server_of p ss) → count (server_of p ss) (client_of p rs).ident ≡ taken (client_of p rs) → HasTold p rs (server_of p ss)
    part_told rs ss longs open_ serves w same =
        let c = client_of p rs in
        let s = server_of p ss in
        let d = c.ident in
        let nothing : Next 0 (no_client p) = record { follow = none_follows; made = omega arith } in
        let all = all_next rs (no_client p) 0 d open_ refl nothing in
        let none_before = long_none rs longs in
        let own : length (own_numbers d (tooks_of rs)) ≡ length (numbers_of d w.front) = ap (λ l. length (own_numbers d l)) w.took ∙ ap length (own_sent c.subset d w.front) in
        let total : length (numbers_of d (whole_history p s)) ≡ count s d = ap length (history_numbers p law s (opened_more p law ss no_server serves (opened_first p)) d) ∙ long_numbers 1 (count s d) in
        let split : length (numbers_of d (whole_history p s)) ≡ length (numbers_of d w.front) + length (numbers_of d w.rest) = ap (λ l. length (numbers_of d l)) w.whole ∙ numbers_append d w.front w.rest in
        let m = all.made in
        let zero_is : 0 + resumed rs + length (own_numbers d (tooks_of rs)) ≡ count s d = omega (arith, m, same) in
        let none : length (numbers_of d w.rest) ≡ 0 = omega (arith, own, total, split, zero_is, none_before) in
        let next : Next (count s d) c = subst (λ k. Next k c) zero_is all in
        let stamps : stamps_of d (whole_history p s) ≡ stamps_of d w.front = ap (stamps_of d) w.whole ∙ stamps_append d w.front w.rest ∙ ap (λ l. stamps_of d w.front ++ l) (no_stamps d w.rest none) ∙ append-nil (stamps_of d w.front) in
        record {
          kept =
              all_told rs (no_client p) [] d longs open_ refl refl
              ∙ ap (λ l. l ++ map (λ u. stamp_of u.original) c.unsent) (ap (own_stamps d) w.took ∙ stamps_sent c.subset d w.front ∙ sym stamps);
          counted = next.made;
          next = next.follow;
          no_repeat = fitting_each (λ h. count s d < h.number) (λ h. length h.body) p.most p.room (map (λ u. change_of p u.original) c.unsent) (follow_above (omega arith) next.follow);
        }

    pub has_told : (rs : List ClientRecord) (ss : List ServerRecord) → Each IsLong rs → client_opens p (no_client p) rs ≡ true → server_opens p no_server ss ≡ true → HasWhole p rs (server_of p ss) → HasTold p rs (server_of p ss)
    has_told rs ss longs open_ serves w =
        let c = client_of p rs in
        let s = server_of p ss in
        let d = c.ident in
        let nothing : Next 0 (no_client p) = record { follow = none_follows; made = omega arith } in
        let all = all_next rs (no_client p) 0 d open_ refl nothing in
        let none_before = long_none rs longs in
        let counted : length (own_numbers d (tooks_of rs)) ≡ count s d =
        ap (λ l. length (own_numbers d l)) w.took
        ∙ ap length (own_sent c.subset d (whole_history p s))
        ∙ ap length (history_numbers p law s (opened_more p law ss no_server serves (opened_first p)) d)
        ∙ long_numbers 1 (count s d) in
        let zero_is : 0 + resumed rs + length (own_numbers d (tooks_of rs)) ≡ count s d = omega arith in
        let next : Next (count s d) c = subst (λ k. Next k c) zero_is all in
        record {
          kept =
              all_told rs (no_client p) [] d longs open_ refl refl
              ∙ ap (λ l. l ++ map (λ u. stamp_of u.original) c.unsent) (ap (own_stamps d) w.took ∙ stamps_sent c.subset d (whole_history p s));
          counted = next.made;
          next = next.follow;
          no_repeat = fitting_each (λ h. count s d < h.number) (λ h. length h.body) p.most p.room (map (λ u. change_of p u.original) c.unsent) (follow_above (omega arith) next.follow);
        }
