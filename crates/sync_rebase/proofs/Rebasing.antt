-- An entry crosses a stretch of the unsent changesets at once.
use Rattle.std.proofs.Common.{◌≡◌, ◌≤◌, ℕ, zero, suc, ◌+◌, List, [], ◌∷◌, ◌++◌, Option, Some, None, Result, Ok, Err, refl, sym, ap, ◌∙◌, subst, length, take, drop, append_assoc, arith}
use Rattle.std.proofs.lemmas.List.{length-append, length-map, length-take-le, length-drop, map-append, take-append-drop, take_at, drop_at, drop-drop}
use Rattle.sync_data.specs.declared.instr.Instr.{Instr}
use Rattle.sync_data.specs.declared.entry.Entry.{Entry}
use Rattle.sync_data.specs.declared.entry.Stamp.{Stamp}
use Rattle.sync_data.specs.Payload.{Changes}
use Rattle.sync_theory.specs.Grid.{Meet, rebase, rebase_one, rebase_put}
use Rattle.sync_theory.specs.Loops.{rebase_after}
use Rattle.sync_theory.specs.Changesets.{cross_sets}
use Rattle.sync_law.specs.Instrs.{meet}
use Rattle.sync_index.specs.Touched.{Touched, Covers}
use Rattle.sync_rivals.specs.Lists.{Indexed, Pass}
use Rattle.sync_model.specs.Clients.{Unsent, changeset_of}
use Rattle.sync_transform.specs.Sets.{made_by}
use Rattle.list_places.specs.declared.moves.ListAction.{ListAction}
use Rattle.sync_transform.proofs.Shown.{shown_covered}
use Rattle.sync_rebase.specs.declared.carried.Crossed.{Crossed}
use Rattle.sync_rebase.specs.declared.carried.Crossed.TheVariants.{Stretch}
use Rattle.sync_rebase.specs.declared.items.Passing.{Passing}
use Rattle.sync_rebase.specs.Acrossing.{CrossesStretch, changes_left}
use Rattle.list_lane.specs.Actions.{instrs_left}
use Rattle.sync_rebase.specs.Settling.{CanPass, currents, passed, settled}
use Rattle.sync_rebase.specs.Stretches.{from_place}
use Rattle.sync_rebase.proofs.Listed.{left_known}
use Rattle.sync_rebase.proofs.Across.{passed_split}
use Rattle.sync_rebase.proofs.Places.{settled_push, fits_push, length_settled}
use Rattle.sync_rebase.proofs.Walk.{Walked, in_grid, nothing_before, walk_on}

-- ---- rebasing one list and then another
abbrev then_more : {X E : Type 0} → Result (List X × X) (ℕ × E) → (X → Result (List X × X) (ℕ × E)) → ℕ → Result (List X × X) (ℕ × E)
then_more (Ok q) go n = rebase_after q.0 n (go q.1)
then_more (Err f) go n = Err f

module _ {X E : Type 0} (meet : Meet X E) where
  put_after : (p : X) (cs : List X) (n : ℕ) (r : Result (List X × X) (ℕ × E)) → rebase_put p (rebase_after cs n r) ≡ rebase_after (p ∷ cs) (suc n) r
  put_after p cs n (Ok q) = refl
  put_after p cs n (Err f) = let k : suc (n + f.0) ≡ suc n + f.0 = omega arith in ap (λ j. Err (j, f.1)) k

  put_more : (p : X) (r : Result (List X × X) (ℕ × E)) (go : X → Result (List X × X) (ℕ × E)) (n : ℕ) → rebase_put p (then_more r go n) ≡ then_more (rebase_put p r) go (suc n)
  put_more p (Ok q) go n = put_after p q.0 n (go q.1)
  put_more p (Err f) go n = refl

  one_more : (r : Result (X × X) E) (ps qs : List X) → ((f : X) → rebase meet (ps ++ qs) f ≡ then_more (rebase meet ps f) (λ g. rebase meet qs g) (length ps))
      → rebase_one r (λ f. rebase meet (ps ++ qs) f) ≡ then_more (rebase_one r (λ f. rebase meet ps f)) (λ g. rebase meet qs g) (suc (length ps))
  one_more (Err m) ps qs ih = refl
  one_more (Ok q) ps qs ih = ap (rebase_put q.0) (ih q.1) ∙ put_more q.0 (rebase meet ps q.1) (λ g. rebase meet qs g) (length ps)

  rebase_append : (ps qs : List X) (e : X) → rebase meet (ps ++ qs) e ≡ then_more (rebase meet ps e) (λ f. rebase meet qs f) (length ps)
  rebase_append [] qs e = nothing_before (rebase meet qs e)
  rebase_append (p ∷ ps) qs e = one_more (meet p e) ps qs (rebase_append ps qs)

  after_twice : (cs ds : List X) (m n : ℕ) (r : Result (List X × X) (ℕ × E)) → rebase_after cs m (rebase_after ds n r) ≡ rebase_after (cs ++ ds) (m + n) r
  after_twice cs ds m n (Ok q) = ap (λ l. Ok (l, q.1)) (sym (append_assoc cs ds q.0))
  after_twice cs ds m n (Err f) = let k : m + (n + f.0) ≡ m + n + f.0 = omega arith in ap (λ j. Err (j, f.1)) k

  pub rebase_parts : (cs : List X) (n : ℕ) (ps qs ds : List X) (e f : X) → rebase meet ps e ≡ Ok (ds, f) → rebase_after cs n (rebase meet (ps ++ qs) e) ≡ rebase_after (cs ++ ds) (n + length ps) (rebase meet qs f)
  rebase_parts cs n ps qs ds e f h =
      ap (rebase_after cs n) (rebase_append ps qs e ∙ ap (λ r. then_more r (λ g. rebase meet qs g) (length ps)) h)
      ∙ after_twice cs ds n (length ps) (rebase meet qs f)

-- ---- a stretch in its place
split_from : {A : Type 0} (i : ℕ) (f : List A → List A) (us : List A) → i ≤ length us → from_place i f us ≡ take i us ++ f (drop i us)
split_from zero f us l = refl
split_from (suc i) f [] l = absurd (omega (arith, l))
split_from (suc i) f (u ∷ us) l = ap (λ t. u ∷ t) (split_from i f us (omega (arith, l)))

length_passed : (own : ℕ) (s : Stamp) (k : ℕ) (b : Option ListAction) (us : List (Unsent Instr)) → length (passed own s k b us) ≡ length us
length_passed own s k None us = refl
length_passed own s zero (Some b) us = refl
length_passed own s (suc k) (Some b) [] = refl
length_passed own s (suc k) (Some b) (u ∷ us) = ap suc (length_passed own s k _ us)

left_covered : (t : Touched) (o : Option ListAction) (is : List Instr) → Covers t is → Covers t (instrs_left o is)
left_covered t None is h = tt
left_covered t (Some a) is h = shown_covered t (Some a) is h

pub walk_across : (t : Touched) (x : Indexed) (codes : List ℕ) (own : ℕ) (us : List (Unsent Instr)) (e : Entry) (crossed : List Crossed) (now : Changes) (from place : ℕ) (p : Passing)
    → Pass from place (currents us) now.instrs → CrossesStretch from place own us e.origin now p → Walked t x codes own us e from crossed now
    → Walked t x codes own us e (p.across.start + p.across.count) (crossed ++ Stretch p.across ∷ []) (changes_left p.left now)
walk_across t x codes own us e crossed now from place p pass m w =
    let a = p.across in
    let i : ℕ = a.start in
    let k : ℕ = a.count in
    let within = m.within in
    let before = m.before in
    let there = walk_on t x codes own us e crossed now from i m.reached (omega (arith, within)) (λ n others f b. pass n others f (omega (arith, b, before))) w in
    let s : List (Unsent Instr) = settled crossed us in
    let part : List (Unsent Instr) = take k (drop i us) in
    let rest : List (Unsent Instr) = drop k (drop i us) in
    let became : List (Unsent Instr) = passed a.own a.stamp k (Some a.action) part in
    let size = length_settled crossed us in
    let list : settled (crossed ++ Stretch a ∷ []) us ≡ (take i s ++ became) ++ rest =
    settled_push crossed (Stretch a) us
    ∙ split_from i (passed a.own a.stamp k (Some a.action)) s (omega (arith, size, within))
    ∙ ap (λ l. take i s ++ passed a.own a.stamp k (Some a.action) l) there.rest
    ∙ ap (λ l. take i s ++ l) (passed_split a.own a.stamp k (Some a.action) (drop i us))
    ∙ sym (append_assoc (take i s) became rest)
    in
    let dropped = length-drop i us in
    let long : length part ≡ k = length-take-le k (drop i us) (omega (arith, dropped, within)) in
    let front : length (take i s ++ became) ≡ i + k =
    length-append (take i s) became ∙ (λ j. length-take-le i s (omega (arith, size, within)) j + (length_passed a.own a.stamp k (Some a.action) part ∙ long) j)
    in
    let behind : drop (i + k) us ≡ rest = sym (drop-drop k i us) in
    record {
      so_far = there.so_far
          ∙ ap (λ l. rebase_after (in_grid own (take i s)) i (rebase (cross_sets meet) (in_grid own l) (made_by e.origin e.number now))) (sym (take-append-drop k (drop i us)))
          ∙ ap (λ l. rebase_after (in_grid own (take i s)) i (rebase (cross_sets meet) l (made_by e.origin e.number now))) (map-append (changeset_of own) part rest)
          ∙ rebase_parts (cross_sets meet) (in_grid own (take i s)) i (in_grid own part) (in_grid own rest) (in_grid own became) (made_by e.origin e.number now) (made_by e.origin e.number (changes_left p.left now)) (m.crosses e.number)
          ∙ (λ j. rebase_after (sym (map-append (changeset_of own) (take i s) became) j) (i + (length-map part (changeset_of own) ∙ long) j) (rebase (cross_sets meet) (in_grid own (sym behind j)) (made_by e.origin e.number (changes_left p.left now))))
          ∙ ap (λ l. rebase_after (in_grid own l) (i + k) (rebase (cross_sets meet) (in_grid own (drop (i + k) us)) (made_by e.origin e.number (changes_left p.left now)))) (sym (ap (take (i + k)) list ∙ take_at (take i s ++ became) rest (i + k) front));
      rest = ap (drop (i + k)) list ∙ drop_at (take i s ++ became) rest (i + k) front ∙ sym behind;
      fits = fits_push crossed (Stretch a) us w.fits (subst (CanPass a.own a.stamp k (Some a.action)) (sym there.rest) m.fits);
      indexed = left_covered t p.left now.instrs there.indexed;
      served = λ some. left_known codes p.left now.instrs (there.served some);
    }
