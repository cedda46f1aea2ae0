-- A change on its way over the entries of a list of kept ones.
use Rattle.std.proofs.Common.{◌≡◌, ◌≢◌, ◌≤◌, ℕ, zero, suc, ◌+◌, ◌<◌, Bool, List, [], ◌∷◌, ◌++◌, Option, None, Some, Ok, refl, length, map, take, drop, get_or, sym, ap, ◌∙◌, subst, All, append-nil, arith}
use Rattle.std.proofs.lemmas.List.{drop-drop, take-append-drop}
use Rattle.std.proofs.lemmas.List.Elements.{All-head, All-tail}
use Rattle.sync_data.specs.declared.instr.Instr.{Instr}
use Rattle.sync_data.specs.Payload.{Changes}
use Rattle.sync_theory.specs.Lists.{cross}
use Rattle.sync_theory.specs.Changesets.{Changeset, cross_sets, with_lists, is_later}
use Rattle.sync_theory.specs.Grid.{carry}
use Rattle.sync_law.specs.Instrs.{meet}
use Rattle.sync_index.specs.Touched.{Touched, Covers}
use Rattle.sync_rivals.specs.Lists.{Indexed, Serves, StandsAt, StaysListed}
use Rattle.sync_rivals.specs.Lemmas.Skips.{lists_of, known_left, listed_right}
use Rattle.sync_transform.specs.Sets.{made_by}
use Rattle.list_places.specs.declared.moves.ListAction.{ListAction}
use Rattle.sync_recip.specs.declared.across.Across.{Across}
use Rattle.sync_recip.specs.declared.kept.Kept.{Kept}
use Rattle.sync_recip.specs.declared.carried.Crossed.{Crossed}
use Rattle.sync_recip.specs.declared.carried.Crossed.TheVariants.{One, Stretch}
use Rattle.sync_recip.specs.declared.refusal.RecipRefusal.{RecipRefusal}
use Rattle.sync_recip.specs.declared.refusal.RecipRefusal.TheVariants as refusals
use Rattle.sync_recip.specs.Lists.{kept_entry, lists_in}
use Rattle.sync_recip.specs.Passing.{passed, CanPass}
use Rattle.sync_recip.specs.Acrossing.{changes_left, put_across, CanCross}
use Rattle.sync_recip.specs.declared.carried.Became.{Became}
use Rattle.sync_recip.specs.Carrying.{became_of, crossed_entry, crossed_entries, AllFit, SuitsIf, noted, IsStuckBy}
use Rattle.sync_recip.proofs.Listed.{left_known}
use Rattle.sync_recip.proofs.Carries.{carry_after, carry_none, carry_step, carry_several, carry_stop}
use Rattle.sync_recip.proofs.Covered.{left_covered}
use Rattle.sync_recip.proofs.Entries.{length_crossed, crossed_push, fit_push, take_with, drop_with, take_next, drop_next, take_passed, drop_passed, left_there, left_is}

pub other_at : (own : ℕ) (ks : List Kept) (n : ℕ) (k : Kept) → n < length ks → k ≡ get_or ks n k → All (λ e. e.origin ≢ own) (map kept_entry ks) → k.item.origin ≢ own
other_at own [] n k h e a = absurd (omega arith)
other_at own (l ∷ ks) zero k h e a = λ is. All-head (λ e. e.origin ≢ own) (kept_entry l) (map kept_entry ks) a (sym (ap (λ (q : Kept). q.item.origin) e) ∙ is)
other_at own (l ∷ ks) (suc n) k h e a = other_at own ks n k (omega arith) e (All-tail (λ e. e.origin ≢ own) (kept_entry l) (map kept_entry ks) a)

-- ---- a change on its way over the entries
pub element : (ks : List Kept) (n : ℕ) → n < length ks → (k : Kept) × (k ≡ get_or ks n k)
element [] n l = absurd (omega (arith, l))
element (k ∷ ks) zero l = (k, refl)
element (k ∷ ks) (suc n) l = element ks n (omega (arith, l))

pub stands_kept : (ks : List Kept) (n : ℕ) (k : Kept) → n < length ks → k ≡ get_or ks n k → StandsAt n (kept_entry k).instrs (lists_in (map kept_entry ks))
stands_kept [] n k l e = absurd (omega (arith, l))
stands_kept (j ∷ ks) zero k l e = ap (λ (q : Kept). (kept_entry q).instrs) (sym e)
stands_kept (j ∷ ks) (suc n) k l e = stands_kept ks n k (omega (arith, l)) e

-- the entries before the place as they became, those from it on as they were
pub record Walked (t : Touched) (x : Indexed) (codes : List ℕ) (own : ℕ) (es : List (Changeset Instr)) (c : Changes) (n : ℕ) (cs : List Crossed) (now : Changes) : Type 0 where
  pub so_far : (number : ℕ) → carry (cross_sets meet) (made_by own number c) es ≡ carry_after (take n (crossed_entries cs es)) (carry (cross_sets meet) (made_by own number now) (drop n es))
  pub behind : drop n (crossed_entries cs es) ≡ drop n es
  pub fits : AllFit cs es
  pub indexed : Covers t now.instrs
  pub served : Serves x codes now.instrs

pub walk_start : (t : Touched) (x : Indexed) (codes : List ℕ) (own : ℕ) (es : List (Changeset Instr)) (c : Changes) → Covers t c.instrs → Serves x codes c.instrs → Walked t x codes own es c 0 [] c
walk_start t x codes own es c covers serves =
    record {
      so_far = λ number. carry_none (cross_sets meet) (carry (cross_sets meet) (made_by own number c) es);
      behind = refl;
      fits = tt;
      indexed = covers;
      served = serves;
    }

module _ (t : Touched) (x : Indexed) (codes : List ℕ) (own : ℕ) (es : List (Changeset Instr)) (c : Changes) (n : ℕ) (cs : List Crossed) (now : Changes) (w : Walked t x codes own es c n cs now) where
  -- ---- one entry further
  module _ (e : Changeset Instr) (rest : List (Changeset Instr)) (here : drop n es ≡ e ∷ rest) where
    there : drop n (crossed_entries cs es) ≡ e ∷ rest
    there = w.behind ∙ here

    became : (ds : List Crossed) (o : Option Became) → ds ≡ cs ++ noted n o → take (suc n) (crossed_entries ds es) ≡ take n (crossed_entries cs es) ++ crossed_entry o e ∷ []
    became ds None is = ap (λ l. take (suc n) (crossed_entries l es)) (is ∙ append-nil cs) ∙ take_next (crossed_entries cs es) n e rest there
    became ds (Some b) is = ap (λ l. take (suc n) (crossed_entries l es)) is ∙ ap (take (suc n)) (crossed_push cs (One n b) es) ∙ take_with (crossed_entries cs es) n b e rest there

    after : (ds : List Crossed) (o : Option Became) → ds ≡ cs ++ noted n o → drop (suc n) (crossed_entries ds es) ≡ drop (suc n) es
    after ds None is = ap (λ l. drop (suc n) (crossed_entries l es)) (is ∙ append-nil cs) ∙ drop_next (crossed_entries cs es) n e rest there ∙ sym (drop_next es n e rest here)
    after ds (Some b) is =
        ap (λ l. drop (suc n) (crossed_entries l es)) is ∙ ap (drop (suc n)) (crossed_push cs (One n b) es) ∙ drop_with (crossed_entries cs es) n b
        ∙ drop_next (crossed_entries cs es) n e rest there ∙ sym (drop_next es n e rest here)

    lists_crossed : (next : Changes) (f : Changeset Instr) → cross_sets meet (made_by own 0 now) e ≡ Ok (made_by own 0 next, f) → cross (λ a b. meet a b (is_later (made_by own 0 now) e)) now.instrs e.instrs ≡ Ok (next.instrs, f.instrs)
    lists_crossed next f m = lists_of (made_by own 0 now) e (cross (λ a b. meet a b (is_later (made_by own 0 now) e)) now.instrs e.instrs) (made_by own 0 next, f) m

    fitted : (ds : List Crossed) (o : Option Became) (next : Changes) → ds ≡ cs ++ noted n o → SuitsIf o e.instrs → cross_sets meet (made_by own 0 now) e ≡ Ok (made_by own 0 next, crossed_entry o e) → AllFit ds es
    fitted ds None next is s m = subst (λ l. AllFit l es) (sym (is ∙ append-nil cs)) w.fits
    fitted ds (Some b) next is s m =
        let later = is_later (made_by own 0 now) e in
        let stays : StaysListed e.instrs (became_of b e).instrs = λ q j. listed_right q j later now.instrs e.instrs next.instrs (became_of b e).instrs (lists_crossed next (became_of b e) m) in
        subst (λ l. AllFit l es) (sym is) (fit_push cs (One n b) es w.fits (left_there (crossed_entries cs es) n b e rest there s (subst (StaysListed e.instrs) (left_is b e) stays)))

    pub walk_over : (ds : List Crossed) (o : Option Became) (next : Changes) → ds ≡ cs ++ noted n o → SuitsIf o e.instrs → ((number : ℕ) → cross_sets meet (made_by own number now) e ≡ Ok (made_by own number next, crossed_entry o e))
        → Walked t x codes own es c (suc n) ds next
    walk_over ds o next is suits m =
        record {
          so_far = λ number.
              w.so_far number ∙ ap (λ l. carry_after (take n (crossed_entries cs es)) (carry (cross_sets meet) (made_by own number now) l)) here
              ∙ carry_step (cross_sets meet) (take n (crossed_entries cs es)) (made_by own number now) e rest (made_by own number next) (crossed_entry o e) (m number)
              ∙ (λ i. carry_after (sym (became ds o is) i) (carry (cross_sets meet) (made_by own number next) (sym (drop_next es n e rest here) i)));
          behind = after ds o is;
          fits = fitted ds o next is suits (m 0);
          indexed = left_covered t (made_by own 0 now) e (made_by own 0 next) (crossed_entry o e) (m 0) w.indexed;
          served = λ some. known_left codes (is_later (made_by own 0 now) e) now.instrs e.instrs next.instrs (crossed_entry o e).instrs (lists_crossed next (crossed_entry o e) (m 0)) (w.served some);
        }

    pub walk_past : ((later : Bool) → cross (λ a b. meet a b later) now.instrs e.instrs ≡ Ok (now.instrs, e.instrs)) → Walked t x codes own es c (suc n) cs now
    walk_past apart = walk_over cs None now (sym (append-nil cs)) tt (λ number. ap (with_lists (made_by own number now) e) (apart (is_later (made_by own number now) e)))

    pub walk_stops : (number : ℕ) (r : RecipRefusal) → IsStuckBy r (cross_sets meet (made_by own number now) e) → IsStuckBy r (carry (cross_sets meet) (made_by own number c) es)
    walk_stops number refusals.NoMemory h = tt
    walk_stops number (refusals.Mismatch place kind) h = record {
      right = h.right;
      is = w.so_far number ∙ ap (λ l. carry_after (take n (crossed_entries cs es)) (carry (cross_sets meet) (made_by own number now) l)) here
          ∙ carry_stop (cross_sets meet) (take n (crossed_entries cs es)) (made_by own number now) e rest (place, h.right, kind) h.is;
    }

  -- ---- over a stretch
  module _ (a : Across) (left : Option ListAction) (start : a.start ≡ n) (fits : n + a.count ≤ length es) (can : CanCross a es)
      (crosses : (number : ℕ) → carry (cross_sets meet) (made_by own number now) (take a.count (drop n es)) ≡ Ok (made_by own number (changes_left left now), passed a.stamp a.count (Some a.action) (take a.count (drop n es)))) where
    abbrev whole : List (Changeset Instr)
    whole = crossed_entries cs es

    size : length whole ≡ length es
    size = length_crossed cs es

    put_is : (ds : List Crossed) → ds ≡ cs ++ Stretch a ∷ [] → crossed_entries ds es ≡ put_across (record a { start = n }) whole
    put_is ds is = ap (λ l. crossed_entries l es) is ∙ crossed_push cs (Stretch a) es ∙ ap (λ m. put_across (record a { start = m }) whole) start

    first_ones : (ds : List Crossed) → ds ≡ cs ++ Stretch a ∷ [] → take (n + a.count) (crossed_entries ds es) ≡ take n whole ++ passed a.stamp a.count (Some a.action) (take a.count (drop n es))
    first_ones ds is = ap (take (n + a.count)) (put_is ds is) ∙ take_passed a.stamp a.action n a.count whole (omega (arith, size, fits)) ∙ ap (λ l. take n whole ++ passed a.stamp a.count (Some a.action) (take a.count l)) w.behind

    pub walk_across : (ds : List Crossed) → ds ≡ cs ++ Stretch a ∷ [] → Covers t (changes_left left now).instrs → Walked t x codes own es c (n + a.count) ds (changes_left left now)
    walk_across ds is covers =
        let split : drop n es ≡ take a.count (drop n es) ++ drop a.count (drop n es) = sym (take-append-drop a.count (drop n es)) in
        let further : drop a.count (drop n es) ≡ drop (n + a.count) es = drop-drop a.count n es in
        record {
          so_far = λ number.
              w.so_far number ∙ ap (λ l. carry_after (take n whole) (carry (cross_sets meet) (made_by own number now) l)) split
              ∙ carry_several (cross_sets meet) (take n whole) (made_by own number now) (take a.count (drop n es)) (drop a.count (drop n es)) (made_by own number (changes_left left now)) (passed a.stamp a.count (Some a.action) (take a.count (drop n es))) (crosses number)
              ∙ (λ i. carry_after (sym (first_ones ds is) i) (carry (cross_sets meet) (made_by own number (changes_left left now)) (further i)));
          behind = ap (drop (n + a.count)) (put_is ds is) ∙ drop_passed a.stamp a.action n a.count whole (omega (arith, size, fits)) ∙ sym (drop-drop a.count n whole) ∙ ap (drop a.count) w.behind ∙ further;
          fits = subst (λ l. AllFit l es) (sym is) (fit_push cs (Stretch a) es w.fits (
            omega (arith, size, fits, start),
            subst (CanPass a.stamp a.count (Some a.action)) (ap (λ m. drop m es) start ∙ sym w.behind ∙ ap (λ m. drop m whole) (sym start)) can,
          ));
          indexed = covers;
          served = λ some. left_known codes left now.instrs (w.served some);
        }
