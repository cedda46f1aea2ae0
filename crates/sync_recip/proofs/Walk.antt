-- A change on its way over the entries from a place on, where places are counted from the first of all.
use Rattle.std.proofs.Common.{◌≡◌, ◌≢◌, ◌≤◌, ℕ, zero, suc, ◌+◌, ◌-◌, ◌<◌, Bool, List, ◌∷◌, [], ◌++◌, Option, Some, None, Ok, refl, length, map, take, drop, get_or, sym, ap, ◌∙◌, subst, All, arith}
use Rattle.std.proofs.lemmas.List.{drop-drop, drop-map, drop_all, drop_more, get_or-drop, length-drop, length-map, take_all}
use Rattle.sync_data.specs.declared.instr.Instr.{Instr}
use Rattle.sync_data.specs.Payload.{Changes}
use Rattle.sync_theory.specs.Lists.{cross}
use Rattle.sync_theory.specs.Changesets.{Changeset, cross_sets}
use Rattle.sync_theory.specs.Grid.{carry}
use Rattle.sync_law.specs.Instrs.{meet}
use Rattle.sync_index.specs.Touched.{Touched, Covers}
use Rattle.sync_rivals.specs.Lists.{Indexed, Serves, Pass}
use Rattle.list_places.specs.Moves.{moved_changes}
use Rattle.sync_transform.specs.Sets.{made_by}
use Rattle.list_places.specs.declared.moves.ListAction.{ListAction}
use Rattle.list_places.specs.declared.moves.Moves.{Moves}
use Rattle.sync_transform.proofs.Shown.{shown_covered}
use Rattle.sync_recip.specs.declared.carried.Became.{Became}
use Rattle.sync_recip.specs.declared.carried.Became.TheVariants.{Moved}
use Rattle.sync_recip.specs.declared.carried.Crossed.{Crossed}
use Rattle.sync_recip.specs.declared.carried.Crossed.TheVariants.{Stretch}
use Rattle.sync_recip.specs.declared.items.Passing.{Passing}
use Rattle.sync_recip.specs.declared.kept.Kept.{Kept}
use Rattle.sync_recip.specs.declared.refusal.RecipRefusal.{RecipRefusal}
use Rattle.sync_recip.specs.Lists.{kept_entry, lists_in}
use Rattle.list_lane.specs.Actions.{instrs_left}
use Rattle.sync_recip.specs.Passing.{passed, CanPass}
use Rattle.sync_recip.specs.Acrossing.{changes_left, BothMove, CrossesStretch}
use Rattle.sync_recip.specs.Carrying.{crossed_entry, crossed_entries, noted, IsStuckBy, SuitsIf}
use Rattle.sync_recip.specs.Stretches.{instrs_in}
use Rattle.sync_recip.proofs.Carries.{carry_after, carry_end}
use Rattle.sync_recip.proofs.Entries.{length_crossed}
use Rattle.sync_recip.proofs.Turns.{Walked, element, other_at, stands_kept, walk_across, walk_over, walk_past, walk_start, walk_stops}

abbrev pub WalkedTo : Touched → Indexed → List ℕ → ℕ → List Kept → ℕ → Changes → ℕ → List Crossed → Changes → Type 0
WalkedTo t x codes own ks first c place cs now = Walked t x codes own (map kept_entry (drop first ks)) c (place - first) cs now

pub walk_begins : (t : Touched) (x : Indexed) (codes : List ℕ) (own : ℕ) (ks : List Kept) (first : ℕ) (c : Changes) → Covers t c.instrs → Serves x codes c.instrs → WalkedTo t x codes own ks first c first [] c
walk_begins t x codes own ks first c covers serves =
    let none : 0 ≡ first - first = omega arith in
    subst (λ n. Walked t x codes own (map kept_entry (drop first ks)) c n [] c) none (walk_start t x codes own (map kept_entry (drop first ks)) c covers serves)

-- ---- those from a place on
counted : (ks : List Kept) (first place : ℕ) → first ≤ place → drop (place - first) (map kept_entry (drop first ks)) ≡ map kept_entry (drop place ks)
counted ks first place l =
    let same : first + (place - first) ≡ place = omega (arith, l) in
    drop-map kept_entry (place - first) (drop first ks) ∙ ap (map kept_entry) (drop-drop (place - first) first ks ∙ ap (λ j. drop j ks) same)

opened : (ks : List Kept) (first place : ℕ) (k : Kept) → first ≤ place → place < length ks → k ≡ get_or ks place k
    → drop (place - first) (map kept_entry (drop first ks)) ≡ kept_entry k ∷ map kept_entry (drop (place + 1) ks)
opened ks first place k l w e = counted ks first place l ∙ ap (map kept_entry) (drop_more ks place k w ∙ ap (λ q. q ∷ drop (place + 1) ks) (sym e))

pub other_there : (own : ℕ) (ks : List Kept) (first place : ℕ) (k : Kept) → first ≤ place → place < length ks → k ≡ get_or ks place k → All (λ e. e.origin ≢ own) (map kept_entry (drop first ks)) → k.item.origin ≢ own
other_there own ks first place k l w e a =
    let same : place ≡ first + (place - first) = omega (arith, l) in
    let rest = length-drop first ks in
    other_at own (drop first ks) (place - first) k (omega (arith, l, w, rest)) (e ∙ ap (λ n. get_or ks n k) same ∙ sym (get_or-drop first ks (place - first) k)) a

left_covered : (t : Touched) (o : Option ListAction) (is : List Instr) → Covers t is → Covers t (instrs_left o is)
left_covered t None is h = tt
left_covered t (Some a) is h = shown_covered t (Some a) is h

module _ (t : Touched) (x : Indexed) (codes : List ℕ) (own : ℕ) (ks : List Kept) (first : ℕ) (c : Changes) (cs : List Crossed) (now : Changes) where
  -- ---- at an entry
  module _ (place : ℕ) (behind : first ≤ place) (w : WalkedTo t x codes own ks first c place cs now) (k : Kept) (within : place < length ks) (here : k ≡ get_or ks place k) where
    pub goes_over : (ds : List Crossed) (o : Option Became) (next : Changes) → ds ≡ cs ++ noted (place - first) o → SuitsIf o (instrs_in k)
        → ((number : ℕ) → cross_sets meet (made_by own number now) (kept_entry k) ≡ Ok (made_by own number next, crossed_entry o (kept_entry k)))
        → WalkedTo t x codes own ks first c (place + 1) ds next
    goes_over ds o next is suits m =
        let same : suc (place - first) ≡ (place + 1) - first = omega (arith, behind) in
        subst (λ n. Walked t x codes own (map kept_entry (drop first ks)) c n ds next) same
        (walk_over t x codes own (map kept_entry (drop first ks)) c (place - first) cs now w (kept_entry k) (map kept_entry (drop (place + 1) ks)) (opened ks first place k behind within here) ds o next is suits m)

    pub goes_past : ((later : Bool) → cross (λ a b. meet a b later) now.instrs (instrs_in k) ≡ Ok (now.instrs, instrs_in k)) → WalkedTo t x codes own ks first c (place + 1) cs now
    goes_past apart =
        let same : suc (place - first) ≡ (place + 1) - first = omega (arith, behind) in
        subst (λ n. Walked t x codes own (map kept_entry (drop first ks)) c n cs now) same
        (walk_past t x codes own (map kept_entry (drop first ks)) c (place - first) cs now w (kept_entry k) (map kept_entry (drop (place + 1) ks)) (opened ks first place k behind within here) apart)

    pub both_go : (ds : List Crossed) (m : Moves) → ds ≡ cs ++ noted (place - first) (Some (Moved m.right)) → BothMove own now k m → WalkedTo t x codes own ks first c (place + 1) ds (moved_changes m.left now)
    both_go ds m is both = goes_over ds (Some (Moved m.right)) (moved_changes m.left now) is both.right both.crosses

    pub stops : (number : ℕ) (r : RecipRefusal) → IsStuckBy r (cross_sets meet (made_by own number now) (kept_entry k)) → IsStuckBy r (carry (cross_sets meet) (made_by own number c) (map kept_entry (drop first ks)))
    stops number r h =
        walk_stops t x codes own (map kept_entry (drop first ks)) c (place - first) cs now w (kept_entry k) (map kept_entry (drop (place + 1) ks)) (opened ks first place k behind within here) number r h

  -- ---- over several that stay
  skips : (d from : ℕ) → first ≤ from → from + d ≤ length ks → Pass from (from + d) (lists_in (map kept_entry ks)) now.instrs → WalkedTo t x codes own ks first c from cs now → WalkedTo t x codes own ks first c (from + d) cs now
  skips zero from l b pass w = let same : from ≡ from + 0 = omega arith in subst (λ n. WalkedTo t x codes own ks first c n cs now) same w
  skips (suc d) from l b pass w =
      let within : from < length ks = omega (arith, b) in
      let k = element ks from within in
      let one = goes_past from l w k.0 within k.1 (λ later. (pass from (instrs_in k.0) (omega arith) (omega arith) (stands_kept ks from k.0 within k.1) later).1) in
      let same : (from + 1) + d ≡ from + suc d = omega arith in
      subst (λ n. WalkedTo t x codes own ks first c n cs now) same
      (skips d (from + 1) (omega (arith, l)) (omega (arith, b)) (λ place others a e. pass place others (omega (arith, a)) (omega (arith, e))) one)

  pub goes_on : (from to : ℕ) → first ≤ from → from ≤ to → to ≤ length ks → Pass from to (lists_in (map kept_entry ks)) now.instrs → WalkedTo t x codes own ks first c from cs now → WalkedTo t x codes own ks first c to cs now
  goes_on from to l m b pass w =
      let same : from + (to - from) ≡ to = omega (arith, m) in
      subst (λ n. WalkedTo t x codes own ks first c n cs now) same (skips (to - from) from l (omega (arith, m, b)) (λ place others a e. pass place others a (omega (arith, e, m))) w)

  -- ---- over a stretch
  pub goes_across : (from place : ℕ) (p : Passing) (ds : List Crossed) → first ≤ from → Pass from place (lists_in (map kept_entry ks)) now.instrs → CrossesStretch from place own ks now p
      → ds ≡ cs ++ Stretch (record p.across { start = p.across.start - first }) ∷ [] → WalkedTo t x codes own ks first c from cs now
      → WalkedTo t x codes own ks first c (p.across.start + p.across.count) ds (changes_left p.left now)
  goes_across from place p ds l pass m is w =
      let start : ℕ = p.across.start in
      let count : ℕ = p.across.count in
      let es : List (Changeset Instr) = map kept_entry (drop first ks) in
      let within = m.within in
      let before = m.before in
      let reached = m.reached in
      let there = goes_on from start l reached (omega (arith, within)) (λ n others f b. pass n others f (omega (arith, b, before))) w in
      let rest : drop start (map kept_entry ks) ≡ drop (start - first) es = drop-map kept_entry start ks ∙ sym (counted ks first start (omega (arith, l, reached))) in
      let size = length-map (drop first ks) kept_entry in
      let long = length-drop first ks in
      let same : (start - first) + count ≡ (start + count) - first = omega (arith, l, reached) in
      subst (λ n. Walked t x codes own es c n ds (changes_left p.left now)) same
      (walk_across t x codes own es c (start - first) cs now there (record p.across { start = start - first }) p.left refl (omega (arith, size, long, within, l, reached))
      (subst (CanPass p.across.stamp count (Some p.across.action)) rest m.fits)
      (λ number. subst (λ q. carry (cross_sets meet) (made_by own number now) (take count q) ≡ Ok (made_by own number (changes_left p.left now), passed p.across.stamp count (Some p.across.action) (take count q))) rest (m.crosses number))
      ds is (left_covered t p.left now.instrs there.indexed))

  -- ---- at the end
  pub goes_through : (to number : ℕ) → length ks ≤ to → WalkedTo t x codes own ks first c to cs now
      → carry (cross_sets meet) (made_by own number c) (map kept_entry (drop first ks)) ≡ Ok (made_by own number now, crossed_entries cs (map kept_entry (drop first ks)))
  goes_through to number b w =
      let es : List (Changeset Instr) = map kept_entry (drop first ks) in
      let count = length-map (drop first ks) kept_entry in
      let rest = length-drop first ks in
      let crossed = length_crossed cs es in
      let size : length es ≤ to - first = omega (arith, count, rest, b) in
      w.so_far number
      ∙ ap (λ l. carry_after (take (to - first) (crossed_entries cs es)) (carry (cross_sets meet) (made_by own number now) l)) (drop_all (to - first) es size)
      ∙ carry_end (cross_sets meet) (take (to - first) (crossed_entries cs es)) (made_by own number now)
      ∙ ap (λ l. Ok (made_by own number now, l)) (take_all (to - first) (crossed_entries cs es) (omega (arith, crossed, size)))
