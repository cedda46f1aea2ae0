-- Where all that clients make is harmless, all that it becomes is, and nothing of it is stuck.
use Rattle.std.proofs.Common.{eqb-true, ◌≡◌, ◌≢◌, ℕ, zero, suc, ◌+◌, ◌-◌, ◌<◌, ◌≤◌, Bool, true, false, List, [], ◌∷◌, ◌++◌, Option, Some, None, Result, Ok, Err, IfOk, IfErr, refl, sym, subst, arith, if◌then◌else◌, ◌==◌, length, length-append}
use Rattle.sync_theory.specs.Changesets.{Changeset, is_later, with_lists}
use Rattle.sync_theory.specs.Grid.{rebase, rebase_one, rebase_put, rebased, rebased_one, head, tail, pending, past_entry, history, past, ok_entry, reciprocal, carry, carry_one, carry_put}
use Rattle.sync_theory.specs.Lists.{cross, kept, and_then}
use Rattle.sync_theory.specs.Logs.{Made as LogMade, Entry as LogEntry, made_at, of_origin, origin_at}
use Rattle.sync_theory.proofs.Recip.{ok_first, ok_second}
use Rattle.sync_theory.proofs.Server.{test_true}
use Rattle.sync_model.specs.Profile.{Profile, Stuck, cross_changesets, IsNamedKind}
use Rattle.sync_model.specs.Servers.{made_in, history_of}
use Rattle.sync_model.specs.Each.{Each, no_more, and_each}
use Rattle.sync_model.specs.Harmless.{AreHarmless}
use Rattle.sync_model.proofs.Limits.{each_append, each_tail, each_weaker}

both_of : {b : Bool} → b ≡ true → b ≡ false → ⊥
both_of e f = cc

module _ {I S : Type 0} (p : Profile I S) (of : ℕ → ℕ → List I → Type 0) (most size : ℕ) (harmless : AreHarmless p of most size) where
  abbrev pub Sets : ℕ → ℕ → List (Changeset I) → Type 0
  Sets c n xs = Each (λ x. of c n x.instrs) xs

  pub after_more : (c n : ℕ) (is : List I) → of c 0 is → of c n is
  after_more c zero is f = f
  after_more c (suc n) is f = harmless.more c n is (after_more c n is f)

  -- ---- two changesets

  pub sets_cross : (c d m n : ℕ) (a b : Changeset I) → c ≢ d → m < most → of c m a.instrs → of d n b.instrs → (x y : Changeset I) → cross_changesets p a b ≡ Ok (x, y) → of c (suc m) x.instrs × of d (suc n) y.instrs
  sets_cross c d m n a b ne lt f g x y e = on (cross (λ u v. p.meet u v (is_later a b)) a.instrs b.instrs) (harmless.crosses c d m n a.instrs b.instrs (is_later a b) ne lt f g) e
    where
      on : (r : Result (List I × List I) Stuck) → IfOk r (λ q. of c (suc m) q.0 × of d (suc n) q.1) → with_lists a b r ≡ Ok (x, y) → of c (suc m) x.instrs × of d (suc n) y.instrs
      on (Ok q) k e =
          let left = ok_first (record a { instrs = q.0 }, record b { instrs = q.1 }) x y e in
          let right = ok_second (record a { instrs = q.0 }, record b { instrs = q.1 }) x y e in
          (subst (λ z. of c (suc m) z.instrs) left k.0, subst (λ z. of d (suc n) z.instrs) right k.1)
      on (Err f) k e = cc

  pub sets_meet : (c d m n : ℕ) (a b : Changeset I) → c ≢ d → m < most → of c m a.instrs → of d n b.instrs → (s : Stuck) → cross_changesets p a b ≡ Err s → IsNamedKind s.2 → ⊥
  sets_meet c d m n a b ne lt f g s e = on (cross (λ u v. p.meet u v (is_later a b)) a.instrs b.instrs) (harmless.mismatches c d m n a.instrs b.instrs (is_later a b) ne lt f g) e
    where
      on : (r : Result (List I × List I) Stuck) → IfErr r (λ s. IsNamedKind s.2 → ⊥) → with_lists a b r ≡ Err s → IsNamedKind s.2 → ⊥
      on (Ok q) k e = cc
      on (Err t) k e = let same : t ≡ s = cc in subst (λ z. IsNamedKind z.2 → ⊥) same k

  -- ---- an entry crosses what is unsent

  rebased_of : (c d m n : ℕ) → c ≢ d → m < most → (ps : List (Changeset I)) (e : Changeset I) → Sets c m ps → of d n e.instrs → Sets c (suc m) (rebased (cross_changesets p) ps e)
  rebased_of c d m n ne lt [] e no_more k = no_more
  rebased_of c d m n ne lt (a ∷ ps) e (and_each f g) k = go (cross_changesets p a e) refl (λ x l. rebased_of c d m (suc n) ne lt ps x g l)
    where
      go : (r : Result (Changeset I × Changeset I) Stuck) → cross_changesets p a e ≡ r → ((x : Changeset I) → of d (suc n) x.instrs → Sets c (suc m) (rebased (cross_changesets p) ps x)) → Sets c (suc m) (rebased_one r (λ x. rebased (cross_changesets p) ps x))
      go (Err s) is rest = no_more
      go (Ok q) is rest = let z = sets_cross c d m n a e ne lt f k q.0 q.1 is in and_each z.0 (rest q.1 z.1)

  -- what an entry and what is unsent become
  abbrev pub Crossed : ℕ → ℕ → ℕ → List (Changeset I) × Changeset I → Type 0
  Crossed c d m q = Sets c m q.0 × ((k : ℕ) × of d k q.1.instrs)

  pub rebase_of : (c d m n : ℕ) → c ≢ d → m < most → (ps : List (Changeset I)) (e : Changeset I) → Sets c m ps → of d n e.instrs
      → IfOk (rebase (cross_changesets p) ps e) (Crossed c d (suc m)) × IfErr (rebase (cross_changesets p) ps e) (λ f. IsNamedKind f.1.2 → ⊥)
  rebase_of c d m n ne lt [] e no_more k = ((no_more, (n, k)), tt)
  rebase_of c d m n ne lt (a ∷ ps) e (and_each f g) k = go (cross_changesets p a e) refl (λ x l. rebase_of c d m (suc n) ne lt ps x g l)
    where
      put : (x : Changeset I) → of c (suc m) x.instrs → (r : Result (List (Changeset I) × Changeset I) (ℕ × Stuck)) → IfOk r (Crossed c d (suc m)) × IfErr r (λ f. IsNamedKind f.1.2 → ⊥) → IfOk (rebase_put x r) (Crossed c d (suc m)) × IfErr (rebase_put x r) (λ f. IsNamedKind f.1.2 → ⊥)
      put x good (Ok q) l = ((and_each good l.0.0, l.0.1), tt)
      put x good (Err s) l = (tt, l.1)

      go : (r : Result (Changeset I × Changeset I) Stuck) → cross_changesets p a e ≡ r → ((x : Changeset I) → of d (suc n) x.instrs → IfOk (rebase (cross_changesets p) ps x) (Crossed c d (suc m)) × IfErr (rebase (cross_changesets p) ps x) (λ f. IsNamedKind f.1.2 → ⊥))
          → IfOk (rebase_one r (λ x. rebase (cross_changesets p) ps x)) (Crossed c d (suc m)) × IfErr (rebase_one r (λ x. rebase (cross_changesets p) ps x)) (λ f. IsNamedKind f.1.2 → ⊥)
      go (Err s) is rest = (tt, sets_meet c d m n a e ne lt f k s is)
      go (Ok q) is rest = let z = sets_cross c d m n a e ne lt f k q.0 q.1 is in put q.0 z.0 (rebase (cross_changesets p) ps q.1) (rest q.1 z.1)

  -- ---- the grid

  head_of : (c n : ℕ) (xs : List (Changeset I)) (x : Changeset I) → Sets c n xs → head xs ≡ Some x → of c n x.instrs
  head_of c n [] x no_more e = cc
  head_of c n (y ∷ xs) x (and_each f g) e = let same : y ≡ x = cc in subst (λ z. of c n z.instrs) same f

  other : (a b : ℕ) → (a == b) ≡ false → b ≢ a
  other a b e same = both_of (test_true a b (sym same)) e

  pub pending_of : (made : ℕ → ℕ → List (Changeset I)) (origin : ℕ → ℕ) → ((c k : ℕ) → Sets c 0 (made c k)) → (k c : ℕ) → k ≤ most → Sets c k (pending (cross_changesets p) made origin k c)
  pending_of made origin f zero c le = f c 0
  pending_of made origin f (suc k) c le =
      each_append
      (go (origin k == c) refl (head (pending (cross_changesets p) made origin k (origin k))) refl (pending_of made origin f k c (omega arith)) (pending_of made origin f k (origin k) (omega arith)))
      (each_weaker (λ x g. after_more c (suc k) x.instrs g) (f c (suc k)))
    where
      go : (b : Bool) → (origin k == c) ≡ b → (o : Option (Changeset I)) → head (pending (cross_changesets p) made origin k (origin k)) ≡ o → Sets c k (pending (cross_changesets p) made origin k c) → Sets (origin k) k (pending (cross_changesets p) made origin k (origin k))
          → Sets c (suc k) (if b then tail (pending (cross_changesets p) made origin k c) else past_entry (cross_changesets p) (pending (cross_changesets p) made origin k c) o)
      go true b_is o o_is mine theirs = each_weaker (λ x g. harmless.more c k x.instrs g) (each_tail mine)
      go false b_is None o_is mine theirs = each_weaker (λ x g. harmless.more c k x.instrs g) mine
      go false b_is (Some e) o_is mine theirs = rebased_of c (origin k) k k (other (origin k) c b_is) (omega arith) (pending (cross_changesets p) made origin k c) e mine (head_of (origin k) k (pending (cross_changesets p) made origin k (origin k)) e theirs o_is)

  -- an entry of another that has met no matter how many
  abbrev pub Other : ℕ → Changeset I → Type 0
  Other c x = (d : ℕ) × (c ≢ d) × (n : ℕ) × of d n x.instrs

  past_of : (made : ℕ → ℕ → List (Changeset I)) (origin : ℕ → ℕ) → ((c k : ℕ) → Sets c 0 (made c k)) → (k c : ℕ) → k < most → c ≢ origin k → Each (Other c) (kept (past (cross_changesets p) made origin k c))
  past_of made origin f k c lt ne = on (history (cross_changesets p) made origin k) refl
    where
      crossed : (r : Result (List (Changeset I) × Changeset I) (ℕ × Stuck)) → IfOk r (Crossed c (origin k) (suc k)) → Each (Other c) (kept (ok_entry r))
      crossed (Ok q) g = and_each (origin k, ne, g.1.0, g.1.1) no_more
      crossed (Err s) g = no_more

      on : (o : Option (Changeset I)) → head (pending (cross_changesets p) made origin k (origin k)) ≡ o → Each (Other c) (kept (and_then o (λ e. ok_entry (rebase (cross_changesets p) (pending (cross_changesets p) made origin k c) e))))
      on None o_is = no_more
      on (Some e) o_is =
          crossed (rebase (cross_changesets p) (pending (cross_changesets p) made origin k c) e)
          (rebase_of c (origin k) k k ne lt (pending (cross_changesets p) made origin k c) e (pending_of made origin f k c (omega arith)) (head_of (origin k) k (pending (cross_changesets p) made origin k (origin k)) e (pending_of made origin f k (origin k) (omega arith)) o_is)).0

  reciprocal_of : (made : ℕ → ℕ → List (Changeset I)) (origin : ℕ → ℕ) → ((c k : ℕ) → Sets c 0 (made c k)) → (c d b : ℕ) → b + d ≤ most → Each (Other c) (reciprocal (cross_changesets p) made origin c d b) × (length (reciprocal (cross_changesets p) made origin c d b) ≤ d)
  reciprocal_of made origin f c zero b le = (no_more, omega arith)
  reciprocal_of made origin f c (suc d) b le = go (origin b == c) refl (reciprocal_of made origin f c d (suc b) (omega arith))
    where
      one : (o : Option (Changeset I)) → length (kept o) ≤ 1
      one None = omega arith
      one (Some x) = omega arith

      go : (t : Bool) → (origin b == c) ≡ t → Each (Other c) (reciprocal (cross_changesets p) made origin c d (suc b)) × (length (reciprocal (cross_changesets p) made origin c d (suc b)) ≤ d)
          → Each (Other c) ((if t then [] else kept (past (cross_changesets p) made origin b c)) ++ reciprocal (cross_changesets p) made origin c d (suc b)) × (length ((if t then [] else kept (past (cross_changesets p) made origin b c)) ++ reciprocal (cross_changesets p) made origin c d (suc b)) ≤ suc d)
      go true t_is rest = let fewer = rest.1 in (rest.0, omega arith)
      go false t_is rest =
          let fewer = rest.1 in
          let few = one (past (cross_changesets p) made origin b c) in
          let l = length-append (kept (past (cross_changesets p) made origin b c)) (reciprocal (cross_changesets p) made origin c d (suc b)) in
          (each_append (past_of made origin f b c (omega arith) (other (origin b) c t_is)) rest.0, omega arith)

  carry_of : (c m : ℕ) (es : List (Changeset I)) (x : Changeset I) → Each (Other c) es → of c m x.instrs → m + length es ≤ most → IfErr (carry (cross_changesets p) x es) (λ s. IsNamedKind s.2 → ⊥)
  carry_of c m [] x no_more f le = tt
  carry_of c m (e ∷ es) x (and_each g gs) f le = go (cross_changesets p x e) refl (λ y h. carry_of c (suc m) es y gs h (omega arith))
    where
      put : (y : Changeset I) (r : Result (Changeset I × List (Changeset I)) Stuck) → IfErr r (λ s. IsNamedKind s.2 → ⊥) → IfErr (carry_put y r) (λ s. IsNamedKind s.2 → ⊥)
      put y (Ok q) h = tt
      put y (Err s) h = h

      go : (r : Result (Changeset I × Changeset I) Stuck) → cross_changesets p x e ≡ r → ((y : Changeset I) → of c (suc m) y.instrs → IfErr (carry (cross_changesets p) y es) (λ s. IsNamedKind s.2 → ⊥)) → IfErr (carry_one r (λ y. carry (cross_changesets p) y es)) (λ s. IsNamedKind s.2 → ⊥)
      go (Err s) is rest = sets_meet c g.0 m g.2 x e g.1 (omega arith) f g.3 s is
      go (Ok q) is rest = put q.1 (carry (cross_changesets p) q.0 es) (rest q.0 (sets_cross c g.0 m g.2 x e g.1 (omega arith) f g.3 q.0 q.1 is).0)

  -- ---- the log

  -- each change in it is harmless
  abbrev pub LogOf : List (LogEntry (Changeset I)) → Type 0
  LogOf log = Each (λ e. of e.origin 0 e.change.instrs) log

  pub made_sets : (c : ℕ) (ms : List (LogMade (Changeset I))) (k : ℕ) → Each (λ m. of c 0 m.change.instrs) ms → Sets c 0 (made_at ms k)
  made_sets c [] k no_more = no_more
  made_sets c (m ∷ ms) k (and_each f g) = go (k == m.base) (made_sets c ms k g)
    where
      go : (b : Bool) → Sets c 0 (made_at ms k) → Sets c 0 ((if b then m.change ∷ [] else []) ++ made_at ms k)
      go true rest = and_each f rest
      go false rest = rest

  origin_sets : (c : ℕ) (log : List (LogEntry (Changeset I))) → LogOf log → Each (λ m. of c 0 m.change.instrs) (of_origin c log)
  origin_sets c [] no_more = no_more
  origin_sets c (e ∷ log) (and_each f g) = go (c == e.origin) refl (origin_sets c log g)
    where
      go : (b : Bool) → (c == e.origin) ≡ b → Each (λ m. of c 0 m.change.instrs) (of_origin c log) → Each (λ m. of c 0 m.change.instrs) ((if b then record { base = e.base; change = e.change } ∷ [] else []) ++ of_origin c log)
      go true b_is rest = and_each (subst (λ d. of d 0 e.change.instrs) (sym (eqb-true c e.origin b_is)) f) rest
      go false b_is rest = rest

  made_in_of : (log : List (LogEntry (Changeset I))) → LogOf log → (c k : ℕ) → Sets c 0 (made_in p log c k)
  made_in_of log f c k = made_sets c (of_origin c log) k (origin_sets c log f)

  pub history_harmless : (log : List (LogEntry (Changeset I))) → LogOf log → (k : ℕ) → k ≤ most → (x : Changeset I) → history_of p log k ≡ Some x → of (origin_at log k) k x.instrs
  history_harmless log f k le x e = head_of (origin_at log k) k (pending (cross_changesets p) (made_in p log) (λ j. origin_at log j) k (origin_at log k)) x (pending_of (made_in p log) (λ j. origin_at log j) (made_in_of log f) k (origin_at log k) le) e

  -- a change that the server carries isn't stuck
  pub carried_harmless : (log : List (LogEntry (Changeset I))) → LogOf log → length log ≤ most → (c b : ℕ) (x : Changeset I) → b ≤ length log → of c 0 x.instrs → IfErr (carry (cross_changesets p) x (reciprocal (cross_changesets p) (made_in p log) (λ k. origin_at log k) c (length log - b) b)) (λ s. IsNamedKind s.2 → ⊥)
  carried_harmless log f le c b x in_it g =
      let r = reciprocal_of (made_in p log) (λ k. origin_at log k) (made_in_of log f) c (length log - b) b (omega arith) in
      let few = r.1 in
      carry_of c 0 (reciprocal (cross_changesets p) (made_in p log) (λ k. origin_at log k) c (length log - b) b) x r.0 g (omega arith)
