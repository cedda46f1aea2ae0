-- An entry walks along the unsent changesets: what was settled so far, and what the rest gives, is what all gives.
use Rattle.std.proofs.Common.{◌≡◌, ◌≤◌, ◌<◌, ℕ, zero, suc, ◌+◌, ◌-◌, Bool, List, [], ◌∷◌, ◌++◌, Some, Result, Ok, Err, refl, sym, ap, ◌∙◌, length, take, drop, get_or, map, subst, add-one, zero-add, append-nil, arith}
use Rattle.std.proofs.lemmas.List.{drop_more, drop_all, take_all, map_push}
use Rattle.sync_data.specs.declared.instr.Instr.{Instr}
use Rattle.sync_data.specs.declared.entry.Entry.{Entry}
use Rattle.sync_data.specs.Payload.{Changes}
use Rattle.sync_theory.specs.Lists.{cross}
use Rattle.sync_theory.specs.Grid.{rebase}
use Rattle.sync_theory.specs.Loops.{rebase_after}
use Rattle.sync_theory.specs.Changesets.{Changeset, cross_sets, with_lists, is_later}
use Rattle.sync_theory.proofs.Steps.{rebase_step, rebase_stop}
use Rattle.sync_law.specs.Instrs.{meet}
use Rattle.sync_index.specs.Touched.{Touched, Covers}
use Rattle.sync_rivals.specs.Lists.{Indexed, Serves, Pass, StaysListed}
use Rattle.sync_rivals.proofs.Listed.{stands_at}
use Rattle.sync_rivals.specs.Lemmas.Skips.{lists_of, known_right, listed_left}
use Rattle.sync_model.specs.Clients.{Unsent, changeset_of}
use Rattle.sync_transform.specs.Sets.{made_by}
use Rattle.list_places.specs.Moves.{kind_in, kind_of, moved_first}
use Rattle.list_places.specs.declared.moves.ListAction.{ListAction}
use Rattle.sync_rebase.specs.declared.carried.Crossed.{Crossed}
use Rattle.sync_rebase.specs.declared.carried.Crossed.TheVariants.{One}
use Rattle.sync_rebase.specs.declared.carried.Became.{Became}
use Rattle.sync_rebase.specs.declared.carried.Became.TheVariants.{Moved, Changed}
use Rattle.sync_rebase.specs.declared.refusal.RebaseRefusal.{RebaseRefusal}
use Rattle.sync_rebase.specs.declared.refusal.RebaseRefusal.TheVariants.{Mismatch, NoMemory}
use Rattle.sync_rebase.specs.Settling.{left_of, put_current, settled, Suits, Fits, currents}
use Rattle.sync_rebase.specs.Taking.{Crosses, Refuses}
use Rattle.sync_rebase.specs.Passing.{StopsAt}
use Rattle.sync_rebase.proofs.Places.{element, take_put, drop_put, put_same, became_is, fits_there, number_there, carried_same, settled_push, fits_push, originals_settled, length_settled}

abbrev pub in_grid : ℕ → List (Unsent Instr) → List (Changeset Instr)
in_grid own us = map (changeset_of own) us

-- these changesets crossed the entry before a place
pub record Walked (t : Touched) (x : Indexed) (codes : List ℕ) (own : ℕ) (us : List (Unsent Instr)) (e : Entry) (i : ℕ) (crossed : List Crossed) (now : Changes) : Type 0 where
  pub so_far : rebase (cross_sets meet) (in_grid own us) (made_by e.origin e.number e.changes) ≡ rebase_after (in_grid own (take i (settled crossed us))) i (rebase (cross_sets meet) (in_grid own (drop i us)) (made_by e.origin e.number now))
  pub rest : drop i (settled crossed us) ≡ drop i us
  pub fits : Fits crossed us
  pub indexed : Covers t now.instrs
  pub served : Serves x codes now.instrs

pub nothing_before : {X E : Type 0} (r : Result (List X × X) (ℕ × E)) → r ≡ rebase_after [] 0 r
nothing_before (Ok q) = refl
nothing_before (Err f) = ap (λ n. Err (n, f.1)) (sym (zero-add f.0))

pub walk_start : (t : Touched) (x : Indexed) (codes : List ℕ) (own : ℕ) (us : List (Unsent Instr)) (e : Entry) (now : Changes) → now ≡ e.changes → Covers t e.changes.instrs → Serves x codes e.changes.instrs → Walked t x codes own us e 0 [] now
walk_start t x codes own us e now h c k =
    record {
      so_far = nothing_before (rebase (cross_sets meet) (in_grid own us) (made_by e.origin e.number e.changes)) ∙ ap (λ x. rebase_after [] 0 (rebase (cross_sets meet) (in_grid own us) (made_by e.origin e.number x))) (sym h);
      rest = refl;
      fits = tt;
      indexed = subst (λ x. Covers t x.instrs) (sym h) c;
      served = subst (λ y. Serves x codes y.instrs) (sym h) k;
    }

keeps_time : {M : Type 0} (a b x y : Changeset Instr) (r : Result (List Instr × List Instr) M) → with_lists a b r ≡ Ok (x, y) → x.ms ≡ a.ms
keeps_time a b x y (Ok p) e = let h : x ≡ record a { instrs = p.0 } = first (record a { instrs = p.0 }, record b { instrs = p.1 }) (x, y) e in ap (λ z. z.ms) h
  where
    first : {A B E : Type 0} (p q : A × B) → ◌≡◌ {A = Result (A × B) E} (Ok p) (Ok q) → q.0 ≡ p.0
    first p q e = let h : p ≡ q = cc in ap (λ z. z.0) (sym h)
keeps_time a b x y (Err m) e = cc

-- ---- at a changeset
module _ (t : Touched) (x : Indexed) (codes : List ℕ) (own : ℕ) (us : List (Unsent Instr)) (e : Entry) (i : ℕ) (crossed : List Crossed) (now : Changes) (w : Walked t x codes own us e i crossed now) (u : Unsent Instr) (within : i < length us) (here : u ≡ get_or us i u) where
  opened : drop i us ≡ u ∷ drop (i + 1) us
  opened = drop_more us i u within ∙ ap (λ v. v ∷ drop (i + 1) us) (sym here)

  there : drop i (settled crossed us) ≡ u ∷ drop (i + 1) us
  there = w.rest ∙ opened

  -- it stands with these instructions, and the entry goes on
  turn : (is : List Instr) (next : Changes) → cross_sets meet (changeset_of own u) (made_by e.origin e.number now) ≡ Ok (changeset_of own (record u { current = is }), made_by e.origin e.number next)
      → rebase (cross_sets meet) (in_grid own us) (made_by e.origin e.number e.changes) ≡ rebase_after (in_grid own (take (i + 1) (put_current i is (settled crossed us)))) (i + 1) (rebase (cross_sets meet) (in_grid own (drop (i + 1) us)) (made_by e.origin e.number next))
  turn is next m =
      w.so_far
      ∙ ap (λ l. rebase_after (in_grid own (take i (settled crossed us))) i (rebase (cross_sets meet) (in_grid own l) (made_by e.origin e.number now))) opened
      ∙ rebase_step (cross_sets meet) (in_grid own (take i (settled crossed us))) i (changeset_of own u) (in_grid own (drop (i + 1) us)) _ _ _ m
      ∙ ap (λ l. rebase_after l (i + 1) (rebase (cross_sets meet) (in_grid own (drop (i + 1) us)) (made_by e.origin e.number next)))
      (sym (ap (λ n. in_grid own (take n (put_current i is (settled crossed us)))) (add-one i) ∙ ap (in_grid own) (take_put (settled crossed us) i is u _ there) ∙ map_push (changeset_of own) (take i (settled crossed us)) (record u { current = is })))

  after : (is : List Instr) → drop (i + 1) (put_current i is (settled crossed us)) ≡ drop (i + 1) us
  after is =
      ap (λ n. drop n (put_current i is (settled crossed us))) (add-one i)
      ∙ drop_put (settled crossed us) i is
      ∙ later (settled crossed us) us i w.rest
      ∙ ap (λ n. drop n us) (sym (add-one i))
    where
      later : {A : Type 0} (xs ys : List A) (n : ℕ) → drop n xs ≡ drop n ys → drop (suc n) xs ≡ drop (suc n) ys
      later xs ys n h = sym (one xs n) ∙ ap (drop 1) h ∙ one ys n
        where
          one : {A : Type 0} (xs : List A) (n : ℕ) → drop 1 (drop n xs) ≡ drop (suc n) xs
          one [] zero = refl
          one [] (suc n) = refl
          one (x ∷ xs) zero = refl
          one (x ∷ xs) (suc n) = one xs n

  pub walk_stays : ((later : Bool) → cross (λ a b. meet a b later) u.current now.instrs ≡ Ok (u.current, now.instrs)) → Walked t x codes own us e (i + 1) crossed now
  walk_stays apart =
      let same = put_same (settled crossed us) i u _ there in
      let m : cross_sets meet (changeset_of own u) (made_by e.origin e.number now) ≡ Ok (changeset_of own u, made_by e.origin e.number now) =
      ap (with_lists (changeset_of own u) (made_by e.origin e.number now)) (apart (is_later (changeset_of own u) (made_by e.origin e.number now))) in
      record {
        so_far = turn u.current now m ∙ ap (λ l. rebase_after (in_grid own (take (i + 1) l)) (i + 1) (rebase (cross_sets meet) (in_grid own (drop (i + 1) us)) (made_by e.origin e.number now))) same;
        rest = ap (drop (i + 1)) (sym same) ∙ after u.current;
        fits = w.fits;
        indexed = w.indexed;
        served = w.served;
      }

  -- it becomes this, and the entry goes on
  walk_becomes : (b : Became) (next : Changes) → Suits b u → cross_sets meet (changeset_of own u) (made_by e.origin e.number now) ≡ Ok (changeset_of own (record u { current = left_of b u.current }), made_by e.origin e.number next) → Covers t next.instrs
      → Walked t x codes own us e (i + 1) (crossed ++ One i b ∷ []) next
  walk_becomes b next suits m covers =
      let is = left_of b u.current in
      let later = is_later (changeset_of own u) (made_by e.origin e.number now) in
      let lists = lists_of (changeset_of own u) (made_by e.origin e.number now) (cross (λ a b. meet a b later) u.current now.instrs) (changeset_of own (record u { current = is }), made_by e.origin e.number next) m in
      let left : StaysListed u.current is = λ s n. listed_left s n later u.current now.instrs is next.instrs lists in
      let list : settled (crossed ++ One i b ∷ []) us ≡ put_current i is (settled crossed us) = settled_push crossed (One i b) us ∙ became_is (settled crossed us) i b u _ there in
      record {
        so_far = turn is next m ∙ ap (λ l. rebase_after (in_grid own (take (i + 1) l)) (i + 1) (rebase (cross_sets meet) (in_grid own (drop (i + 1) us)) (made_by e.origin e.number next))) (sym list);
        rest = ap (drop (i + 1)) list ∙ after is;
        fits = fits_push crossed (One i b) us w.fits (fits_there (settled crossed us) i b u _ there suits left);
        indexed = covers;
        served = λ some. known_right codes later u.current now.instrs is next.instrs lists (w.served some);
      }

  -- its one list instruction does the same elsewhere
  pub walk_moves : (a : ListAction) (next : Changes) → kind_in u.current ≡ Some (kind_of a) → cross_sets meet (changeset_of own u) (made_by e.origin e.number now) ≡ Ok (changeset_of own (record u { current = moved_first a u.current }), made_by e.origin e.number next) → Covers t next.instrs
      → Walked t x codes own us e (i + 1) (crossed ++ One i (Moved a) ∷ []) next
  walk_moves a next kind m covers = walk_becomes (Moved a) next kind m covers

  -- or it is another changeset
  pub walk_crosses : (c next : Changes) → cross_sets meet (changeset_of own u) (made_by e.origin e.number now) ≡ Ok (made_by own u.original.number c, made_by e.origin e.number next) → Covers t next.instrs
      → Walked t x codes own us e (i + 1) (crossed ++ One i (Changed c) ∷ []) next
  walk_crosses c next m covers =
      let time : c.ms ≡ u.original.ms = keeps_time (changeset_of own u) (made_by e.origin e.number now) _ _ (cross (λ a b. meet a b (is_later (changeset_of own u) (made_by e.origin e.number now))) u.current now.instrs) m in
      let named : made_by own u.original.number c ≡ changeset_of own (record u { current = c.instrs }) = λ j. record { origin = own; number = u.original.number; ms = time j; instrs = c.instrs } in
      walk_becomes (Changed c) next time (m ∙ ap (λ x. Ok (x, made_by e.origin e.number next)) named) covers

  pub walk_stops : (refusal : RebaseRefusal) → StopsAt own u e.origin now refusal → Refuses own us e refusal
  walk_stops (Mismatch number kind) h = record {
    place = i;
    left = h.1.left;
    right = h.1.right;
    rebased = w.so_far
        ∙ ap (λ l. rebase_after (in_grid own (take i (settled crossed us))) i (rebase (cross_sets meet) (in_grid own l) (made_by e.origin e.number now))) opened
        ∙ rebase_stop (cross_sets meet) (in_grid own (take i (settled crossed us))) i (changeset_of own u) (in_grid own (drop (i + 1) us)) (made_by e.origin e.number now) (h.1.left, h.1.right, kind) (h.1.stuck e.number);
    number_is = h.0 ∙ sym (number_there us i u _ opened);
  }
  walk_stops NoMemory h = tt

-- ---- over several that stay
pub walk_skips : (t : Touched) (x : Indexed) (codes : List ℕ) (own : ℕ) (us : List (Unsent Instr)) (e : Entry) (crossed : List Crossed) (now : Changes) (d i : ℕ) → i + d ≤ length us → Pass i (i + d) (currents us) now.instrs
    → Walked t x codes own us e i crossed now → Walked t x codes own us e (i + d) crossed now
walk_skips t x codes own us e crossed now zero i l pass w = subst (λ n. Walked t x codes own us e n crossed now) (omega arith) w
walk_skips t x codes own us e crossed now (suc d) i l pass w =
    let within : i < length us = omega (arith, l) in
    let u = element us i within in
    let at = stands_at (λ (v : Unsent Instr). v.current) us i u.0 within u.1 in
    let one = walk_stays t x codes own us e i crossed now w u.0 within u.1 (λ later. (pass i u.0.current (omega arith) (omega arith) at later).0) in
    let same : (i + 1) + d ≡ i + suc d = omega arith in
    subst (λ n. Walked t x codes own us e n crossed now) same (walk_skips t x codes own us e crossed now d (i + 1) (omega (arith, l)) (λ place others a b. pass place others (omega (arith, a)) (omega (arith, b))) one)

pub walk_on : (t : Touched) (x : Indexed) (codes : List ℕ) (own : ℕ) (us : List (Unsent Instr)) (e : Entry) (crossed : List Crossed) (now : Changes) (i k : ℕ) → i ≤ k → k ≤ length us → Pass i k (currents us) now.instrs
    → Walked t x codes own us e i crossed now → Walked t x codes own us e k crossed now
walk_on t x codes own us e crossed now i k l m pass w =
    let same : i + (k - i) ≡ k = omega (arith, l) in
    subst (λ n. Walked t x codes own us e n crossed now) same (walk_skips t x codes own us e crossed now (k - i) i (omega (arith, l, m)) (λ place others a b. pass place others a (omega (arith, l, b))) w)

-- ---- at the end
pub walk_ends : (t : Touched) (x : Indexed) (codes : List ℕ) (own : ℕ) (us : List (Unsent Instr)) (e : Entry) (i : ℕ) (crossed : List Crossed) (now : Changes) → Walked t x codes own us e i crossed now → length us ≤ i → Crosses own us e (settled crossed us) now
walk_ends t x codes own us e i crossed now w end =
    let same = length_settled crossed us in
    let whole : take i (settled crossed us) ≡ settled crossed us = take_all i (settled crossed us) (omega arith) in
    record {
      rebased = w.so_far
          ∙ ap (λ l. rebase_after (in_grid own (take i (settled crossed us))) i (rebase (cross_sets meet) (in_grid own l) (made_by e.origin e.number now))) (drop_all i us end)
          ∙ ap (λ l. Ok (l, made_by e.origin e.number now)) (append-nil (in_grid own (take i (settled crossed us))) ∙ ap (in_grid own) whole);
      originals = carried_same own us (settled crossed us) (originals_settled crossed us);
    }
