-- What crosses keeps what each instruction keeps, and so does the history.
use Rattle.std.proofs.Common.{◌≡◌, ℕ, zero, suc, Bool, true, false, List, [], ◌∷◌, ◌++◌, Option, Some, None, Result, Ok, Err, IfOk, refl, subst, if◌then◌else◌, ◌==◌}
use Rattle.sync_theory.specs.Changesets.{Changeset, is_later, with_lists}
use Rattle.sync_theory.specs.Grid.{rebased, rebased_one, head, tail, pending, past_entry}
use Rattle.sync_theory.specs.Lists.{kept, cross}
use Rattle.sync_theory.specs.Logs.{Made as LogMade, Entry as LogEntry, made_at, of_origin, origin_at}
use Rattle.sync_theory.proofs.Cross.{rows_of}
use Rattle.sync_theory.proofs.Lists.{Row, gone, end, next, Rows, done, more}
use Rattle.sync_theory.proofs.Recip.{ok_first, ok_second}
use Rattle.sync_model.specs.Profile.{Profile, Stuck, cross_changesets}
use Rattle.sync_model.specs.Servers.{made_in, history_of}
use Rattle.sync_model.specs.Each.{Each, no_more, and_each}
use Rattle.sync_model.proofs.Limits.{each_append, each_tail}

module _ {I S : Type 0} (p : Profile I S) (Q : I → Type 0) where
  -- of what is left of an instruction
  abbrev pub Left : Option I → Type 0
  Left None = Unit {0}
  Left (Some i) = Q i

  left_each : (o : Option I) → Left o → Each Q (kept o)
  left_each None h = no_more
  left_each (Some i) h = and_each h no_more

  abbrev pub Sets : List (Changeset I) → Type 0
  Sets xs = Each (λ x. Each Q x.instrs) xs

  abbrev pub Log : List (LogEntry (Changeset I)) → Type 0
  Log log = Each (λ e. Each Q e.change.instrs) log

  module _ (meets : (later : Bool) (a b : I) → Q a → Q b → IfOk (p.meet a b later) (λ o. Left o.0 × Left o.1)) where
    first : {i : I} {is : List I} → Each Q (i ∷ is) → Q i
    first (and_each h f) = h

    row_keeps : (later : Bool) {x z : Option I} {bs cs : List I} → Each Q (kept x) → Each Q bs → Row (λ a b. p.meet a b later) x bs z cs → Each Q (kept z) × Each Q cs
    row_keeps later left right gone = (no_more, right)
    row_keeps later left right end = (left, no_more)
    row_keeps later left (and_each g right) (next {a = a} {b = b} {x = x} {y = y} m r) =
        let h = subst (λ r. IfOk r (λ o. Left o.0 × Left o.1)) m (meets later a b (first left) g) in
        let k = row_keeps later (left_each x h.0) right r in
        (k.0, each_append (left_each y h.1) k.1)

    rows_keep : (later : Bool) {as_ bs cs ds : List I} → Each Q as_ → Each Q bs → Rows (λ a b. p.meet a b later) as_ bs cs ds → Each Q cs × Each Q ds
    rows_keep later left right done = (no_more, right)
    rows_keep later (and_each h left) right (more r q) =
        let g = row_keeps later (and_each h no_more) right r in
        let k = rows_keep later left g.1 q in
        (each_append g.0 k.0, k.1)

    lists_keep : (a b x y : Changeset I) (r : Result (List I × List I) Stuck) → ((cs ds : List I) → r ≡ Ok (cs, ds) → Each Q cs × Each Q ds) → with_lists a b r ≡ Ok (x, y) → Each Q x.instrs × Each Q y.instrs
    lists_keep a b x y (Ok q) less e =
        let f = ok_first (record a { instrs = q.0 }, record b { instrs = q.1 }) x y e in
        let g = ok_second (record a { instrs = q.0 }, record b { instrs = q.1 }) x y e in
        let h = less q.0 q.1 refl in
        (subst (λ z. Each Q z.instrs) f h.0, subst (λ z. Each Q z.instrs) g h.1)
    lists_keep a b x y (Err m) less e = cc

    pub sets_keep : (a b x y : Changeset I) → Each Q a.instrs → Each Q b.instrs → cross_changesets p a b ≡ Ok (x, y) → Each Q x.instrs × Each Q y.instrs
    sets_keep a b x y left right e = lists_keep a b x y (cross (λ u v. p.meet u v (is_later a b)) a.instrs b.instrs) (λ cs ds f. rows_keep (is_later a b) left right (rows_of (λ u v. p.meet u v (is_later a b)) f)) e

    rebased_keep : (ps : List (Changeset I)) (e : Changeset I) → Sets ps → Each Q e.instrs → Sets (rebased (cross_changesets p) ps e)
    rebased_keep [] e no_more k = no_more
    rebased_keep (a ∷ ps) e (and_each h g) k = go (cross_changesets p a e) refl (λ f l. rebased_keep ps f g l)
      where
        go : (r : Result (Changeset I × Changeset I) Stuck) → cross_changesets p a e ≡ r → ((f : Changeset I) → Each Q f.instrs → Sets (rebased (cross_changesets p) ps f)) → Sets (rebased_one r (λ f. rebased (cross_changesets p) ps f))
        go (Err m) is rest = no_more
        go (Ok q) is rest = let s = sets_keep a e q.0 q.1 h k is in and_each s.0 (rest q.1 s.1)

    head_keeps : (xs : List (Changeset I)) (x : Changeset I) → Sets xs → head xs ≡ Some x → Each Q x.instrs
    head_keeps [] x no_more e = cc
    head_keeps (y ∷ xs) x (and_each h g) e = let same : y ≡ x = cc in subst (λ z. Each Q z.instrs) same h

    after_keeps : (b : Bool) (ps : List (Changeset I)) (o : Option (Changeset I)) → Sets ps → ((e : Changeset I) → o ≡ Some e → Each Q e.instrs) → Sets (if b then tail ps else past_entry (cross_changesets p) ps o)
    after_keeps true ps o h k = each_tail h
    after_keeps false ps None h k = h
    after_keeps false ps (Some e) h k = rebased_keep ps e h (k e refl)

    pending_keeps : (made : ℕ → ℕ → List (Changeset I)) (origin : ℕ → ℕ) → ((c k : ℕ) → Sets (made c k)) → (k c : ℕ) → Sets (pending (cross_changesets p) made origin k c)
    pending_keeps made origin h zero c = h c 0
    pending_keeps made origin h (suc k) c = each_append (after_keeps (origin k == c) (pending (cross_changesets p) made origin k c) (head (pending (cross_changesets p) made origin k (origin k))) (pending_keeps made origin h k c) (λ e is. head_keeps (pending (cross_changesets p) made origin k (origin k)) e (pending_keeps made origin h k (origin k)) is)) (h c (suc k))

    made_keeps : (ms : List (LogMade (Changeset I))) (k : ℕ) → Each (λ m. Each Q m.change.instrs) ms → Sets (made_at ms k)
    made_keeps [] k no_more = no_more
    made_keeps (m ∷ ms) k (and_each h g) = go (k == m.base) (made_keeps ms k g)
      where
        go : (b : Bool) → Sets (made_at ms k) → Sets ((if b then m.change ∷ [] else []) ++ made_at ms k)
        go true rest = and_each h rest
        go false rest = rest

    origin_keeps : (c : ℕ) (log : List (LogEntry (Changeset I))) → Log log → Each (λ m. Each Q m.change.instrs) (of_origin c log)
    origin_keeps c [] no_more = no_more
    origin_keeps c (e ∷ log) (and_each h g) = go (c == e.origin) (origin_keeps c log g)
      where
        go : (b : Bool) → Each (λ m. Each Q m.change.instrs) (of_origin c log) → Each (λ m. Each Q m.change.instrs) ((if b then record { base = e.base; change = e.change } ∷ [] else []) ++ of_origin c log)
        go true rest = and_each h rest
        go false rest = rest

    pub history_keeps : (log : List (LogEntry (Changeset I))) → Log log → (k : ℕ) (x : Changeset I) → history_of p log k ≡ Some x → Each Q x.instrs
    history_keeps log h k x e = head_keeps (pending (cross_changesets p) (made_in p log) (λ k. origin_at log k) k (origin_at log k)) x (pending_keeps (made_in p log) (λ k. origin_at log k) (λ c j. made_keeps (of_origin c log) j (origin_keeps c log h)) k (origin_at log k)) e
