-- Two regions become one: from one slot to the next.
use Rattle.std.proofs.Common.{◌≡◌, ℕ, zero, suc, ◌+◌, ◌<◌, ◌≤◌, List, [], ◌∷◌, ◌++◌, length, drop, Option, Some, None, refl, sym, ap, ◌∙◌, subst, append_assoc, append-nil, arith, inl, inr, ◌⊎◌}
use Rattle.std.specs.Prelude.{slice_get, IfSome}
use Rattle.sync_base.specs.Rules.{top}
use Rattle.list_lane.proofs.Rooms.{last_below, within_most}
use Rattle.list_places.specs.Places.{Within}
use Rattle.list_lane.specs.Lanes.{length_after, length_at_end, length_before, slot_at, Fits}
use Rattle.list_lane.specs.declared.op.Op.{Op}
use Rattle.list_regions.specs.Regions.{RegionOf, Ahead, Merge, nothing, left, right, both, moved_on, either}
use Rattle.list_regions.specs.Kept.{pushed_region, fresh}
use Rattle.list_regions.specs.Merges.{Slots, Merging, IsMerged}
use Rattle.list_regions.specs.declared.merge.Turn.{Turn}
use Rattle.list_regions.proofs.Found.{rest_at}
use Rattle.list_regions.proofs.Views.{within_more, within_on, longer_more, longer_behind}

-- ---- slots
pub slot_rest : (ss : List (Option Op)) (i : ℕ) → i < length ss → drop i ss ≡ slot_at i ss ∷ drop (i + 1) ss
slot_rest ss i lt = let e : suc i ≡ i + 1 = omega arith in one ss i lt ∙ ap (λ n. slot_at i ss ∷ drop n ss) e
  where
    one : (ss : List (Option Op)) (i : ℕ) → i < length ss → drop i ss ≡ slot_at i ss ∷ drop (suc i) ss
    one [] i lt = absurd (omega (arith, lt))
    one (s ∷ ss) zero lt = refl
    one (s ∷ ss) (suc i) lt = one ss i (omega (arith, lt))

pub number_rest : (ns : List ℕ) (i n : ℕ) → slice_get ns i ≡ Some n → drop i ns ≡ n ∷ drop (i + 1) ns
number_rest ns i n g = let e : suc i ≡ i + 1 = omega arith in rest_at ns i n g ∙ ap (λ k. n ∷ drop k ns) e

pub number_there : (ns : List ℕ) (i n : ℕ) → slice_get ns i ≡ Some n → i < length ns
number_there [] i n g = cc
number_there (m ∷ ns) zero n g = omega arith
number_there (m ∷ ns) (suc i) n g = let h = number_there ns i n g in omega (arith, h)

pub before_more : (ss : List (Option Op)) (i x : ℕ) → i < length ss → length_before (i + 1) x ss ≡ length_after (slot_at i ss) (length_before i x ss)
before_more ss i x lt = let e : i + 1 ≡ suc i = omega arith in ap (λ n. length_before n x ss) e ∙ one ss i x lt
  where
    one : (ss : List (Option Op)) (i x : ℕ) → i < length ss → length_before (suc i) x ss ≡ length_after (slot_at i ss) (length_before i x ss)
    one [] i x lt = absurd (omega (arith, lt))
    one (s ∷ []) zero x lt = refl
    one (s ∷ t ∷ ss) zero x lt = refl
    one (s ∷ ss) (suc i) x lt = one ss i (length_after s x) (omega (arith, lt))

pub end_more : (ss : List (Option Op)) (x : ℕ) (s : Option Op) → length_at_end x (ss ++ s ∷ []) ≡ length_after s (length_at_end x ss)
end_more [] x s = refl
end_more (a ∷ ss) x s = end_more ss (length_after a x) s

-- ---- lengths
slot_more : (s : Option Op) (x y : ℕ) → Fits x s → length_after s (x + y) ≡ length_after s x + y
slot_more None x y f = refl
slot_more (Some a) x y f = longer_more a.does a.place x y f

slot_behind : (t : Option Op) (n x g y : ℕ) → Fits y t → length_after (moved_on n t) (x + (g + y)) ≡ x + (g + length_after t y)
slot_behind None n x g y f = refl
slot_behind (Some a) n x g y f = longer_behind a.does a.place x g y f

pub fits_more : (s : Option Op) (x y m : ℕ) → Fits x s → m ≡ x + y → Fits m s
fits_more None x y m f e = tt
fits_more (Some a) x y m f e = subst (Within a.does a.place) (sym e) (within_more a.does a.place x y f)

pub fits_on : (t : Option Op) (x g y m : ℕ) → Fits y t → m ≡ x + (g + y) → Fits m (moved_on (x + g) t)
fits_on None x g y m f e = tt
fits_on (Some a) x g y m f e = subst (Within a.does (a.place + (x + g))) (sym e) (within_on a.does a.place x g y f)

pub fits_either : (s t : Option Op) (m : ℕ) → Fits m s → Fits m t → Fits m (either s t)
fits_either None t m f h = h
fits_either (Some a) t m f h = f

pushed_lists : {g x : ℕ} {ns ms : List ℕ} {ss ts : List (Option Op)} (os ps : List ℕ) (us vs : List (Option Op)) (n : ℕ) (s : Option Op) → Merge g x ns ss ms ts (os ++ (n ∷ ps)) (us ++ (s ∷ vs)) → Merge g x ns ss ms ts ((os ++ n ∷ []) ++ ps) ((us ++ s ∷ []) ++ vs)
pushed_lists {g = g} {x = x} {ns = ns} {ms = ms} {ss = ss} {ts = ts} os ps us vs n s m =
    subst (λ r. Merge g x ns ss ms ts r ((us ++ s ∷ []) ++ vs)) (sym (append_assoc os (n ∷ []) ps)) (subst (Merge g x ns ss ms ts (os ++ (n ∷ ps))) (sym (append_assoc us (s ∷ []) vs)) m)

module _ (q r : RegionOf) (t : Turn) (m : RegionOf) (h : Merging q r t m) where
  abbrev pub before_left : ℕ
  before_left = length_before t.left q.lane.first q.lane.slots

  abbrev pub before_right : ℕ
  before_right = length_before t.right r.lane.first r.lane.slots

  pub left_taken : (n : ℕ) (s : Option Op) (u : Turn) → t.left < length q.lane.slots → slice_get q.numbers t.left ≡ Some n → Ahead n (drop t.right r.numbers) → s ≡ slot_at t.left q.lane.slots → Fits before_left s
      → u ≡ record { left = t.left + 1; right = t.right; length = length_after s t.length } → Merging q r u (pushed_region n s m)
  left_taken n s u lt g ahead is fits e =
      let f = subst (λ k. Fits k s) (sym h.length_is) fits in
      subst (λ u. Merging q r u (pushed_region n s m)) (sym e) (record {
        steps = λ os us w. pushed_lists m.numbers os m.lane.slots us n s (h.steps (n ∷ os) (s ∷ us)
            (subst (λ ns. Merge r.gap t.length ns (drop t.left q.lane.slots) (drop t.right r.numbers) (drop t.right r.lane.slots) (n ∷ os) (s ∷ us)) (sym (number_rest q.numbers t.left n g))
            (subst (λ ss. Merge r.gap t.length (n ∷ drop (t.left + 1) q.numbers) ss (drop t.right r.numbers) (drop t.right r.lane.slots) (n ∷ os) (s ∷ us)) (ap (λ o. o ∷ drop (t.left + 1) q.lane.slots) is ∙ sym (slot_rest q.lane.slots t.left lt)) (left ahead w))));
        gap = h.gap;
        first = h.first;
        length_is = ap (length_after s) h.length_is ∙ ap (λ o. length_after o before_left) is ∙ sym (before_more q.lane.slots t.left q.lane.first lt);
        last = end_more m.lane.slots m.lane.first s ∙ ap (length_after s) h.last ∙ slot_more s t.length (r.gap + before_right) f;
        left = omega (arith, lt);
        right = h.right;
      })

  pub right_taken : (n : ℕ) (s : Option Op) (u : Turn) → t.right < length r.lane.slots → slice_get r.numbers t.right ≡ Some n → Ahead n (drop t.left q.numbers) → s ≡ slot_at t.right r.lane.slots → Fits before_right s
      → u ≡ record { left = t.left; right = t.right + 1; length = t.length } → Merging q r u (pushed_region n (moved_on (t.length + r.gap) s) m)
  right_taken n s u lt g ahead is fits e =
      let v = moved_on (t.length + r.gap) s in
      subst (λ u. Merging q r u (pushed_region n v m)) (sym e) (record {
        steps = λ os us w. pushed_lists m.numbers os m.lane.slots us n v (h.steps (n ∷ os) (v ∷ us)
            (subst (λ ns. Merge r.gap t.length (drop t.left q.numbers) (drop t.left q.lane.slots) ns (drop t.right r.lane.slots) (n ∷ os) (v ∷ us)) (sym (number_rest r.numbers t.right n g))
            (subst (λ ss. Merge r.gap t.length (drop t.left q.numbers) (drop t.left q.lane.slots) (n ∷ drop (t.right + 1) r.numbers) ss (n ∷ os) (v ∷ us)) (ap (λ o. o ∷ drop (t.right + 1) r.lane.slots) is ∙ sym (slot_rest r.lane.slots t.right lt)) (right ahead w))));
        gap = h.gap;
        first = h.first;
        length_is = h.length_is;
        last = end_more m.lane.slots m.lane.first v ∙ ap (length_after v) h.last ∙ slot_behind s (t.length + r.gap) t.length r.gap before_right fits
            ∙ ap (λ k. t.length + (r.gap + k)) (ap (λ o. length_after o before_right) is ∙ sym (before_more r.lane.slots t.right r.lane.first lt));
        left = h.left;
        right = omega (arith, lt);
      })

  both_last : (s o : Option Op) → (s ≡ None) ⊎ (moved_on (t.length + r.gap) o ≡ None) → Fits t.length s → Fits before_right o → length_after (either s (moved_on (t.length + r.gap) o)) (t.length + (r.gap + before_right)) ≡ length_after s t.length + (r.gap + length_after o before_right)
  both_last None o e f g = slot_behind o (t.length + r.gap) t.length r.gap before_right g
  both_last (Some a) None e f g = longer_more a.does a.place t.length (r.gap + before_right) f
  both_last (Some a) (Some b) (inl e) f g = cc
  both_last (Some a) (Some b) (inr e) f g = cc

  pub both_taken : (n : ℕ) (s o v : Option Op) (u : Turn) → t.left < length q.lane.slots → t.right < length r.lane.slots → slice_get q.numbers t.left ≡ Some n → slice_get r.numbers t.right ≡ Some n → s ≡ slot_at t.left q.lane.slots → o ≡ slot_at t.right r.lane.slots
      → Fits before_left s → Fits before_right o → (s ≡ None) ⊎ (moved_on (t.length + r.gap) o ≡ None) → v ≡ either s (moved_on (t.length + r.gap) o) → u ≡ record { left = t.left + 1; right = t.right + 1; length = length_after s t.length } → Merging q r u (pushed_region n v m)
  both_taken n s o v u lt rt g k is iso fs fo one e i =
      let w0 = either s (moved_on (t.length + r.gap) o) in
      let f = subst (λ k. Fits k s) (sym h.length_is) fs in
      subst (λ u. Merging q r u (pushed_region n v m)) (sym i) (subst (λ v. Merging q r (record { left = t.left + 1; right = t.right + 1; length = length_after s t.length }) (pushed_region n v m)) (sym e) (record {
        steps = λ os us w. pushed_lists m.numbers os m.lane.slots us n w0 (h.steps (n ∷ os) (w0 ∷ us)
            (subst (λ ns. Merge r.gap t.length ns (drop t.left q.lane.slots) (drop t.right r.numbers) (drop t.right r.lane.slots) (n ∷ os) (w0 ∷ us)) (sym (number_rest q.numbers t.left n g))
            (subst (λ ss. Merge r.gap t.length (n ∷ drop (t.left + 1) q.numbers) ss (drop t.right r.numbers) (drop t.right r.lane.slots) (n ∷ os) (w0 ∷ us)) (ap (λ p. p ∷ drop (t.left + 1) q.lane.slots) is ∙ sym (slot_rest q.lane.slots t.left lt))
            (subst (λ ns. Merge r.gap t.length (n ∷ drop (t.left + 1) q.numbers) (s ∷ drop (t.left + 1) q.lane.slots) ns (drop t.right r.lane.slots) (n ∷ os) (w0 ∷ us)) (sym (number_rest r.numbers t.right n k))
            (subst (λ ss. Merge r.gap t.length (n ∷ drop (t.left + 1) q.numbers) (s ∷ drop (t.left + 1) q.lane.slots) (n ∷ drop (t.right + 1) r.numbers) ss (n ∷ os) (w0 ∷ us)) (ap (λ p. p ∷ drop (t.right + 1) r.lane.slots) iso ∙ sym (slot_rest r.lane.slots t.right rt)) (both refl w))))));
        gap = h.gap;
        first = h.first;
        length_is = ap (length_after s) h.length_is ∙ ap (λ p. length_after p before_left) is ∙ sym (before_more q.lane.slots t.left q.lane.first lt);
        last = end_more m.lane.slots m.lane.first w0 ∙ ap (length_after w0) h.last ∙ both_last s o one f fo
            ∙ ap (λ k. length_after s t.length + (r.gap + k)) (ap (λ p. length_after p before_right) iso ∙ sym (before_more r.lane.slots t.right r.lane.first rt));
        left = omega (arith, lt);
        right = omega (arith, rt);
      }))

-- ---- from the start to the end
pub none_left : {A : Type 0} (xs : List A) (i : ℕ) → length xs ≤ i → drop i xs ≡ []
none_left [] zero h = refl
none_left [] (suc i) h = refl
none_left (x ∷ xs) zero h = absurd (omega (arith, h))
none_left (x ∷ xs) (suc i) h = none_left xs i (omega (arith, h))

pub before_all : (ss : List (Option Op)) (i x : ℕ) → length ss ≤ i → length_before i x ss ≡ length_at_end x ss
before_all [] i x h = refl
before_all (s ∷ ss) zero x h = absurd (omega (arith, h))
before_all (s ∷ ss) (suc i) x h = before_all ss i (length_after s x) (omega (arith, h))

pub before_none : (n : ℕ) (ss : List (Option Op)) → length_before 0 n ss ≡ n
before_none n [] = refl
before_none n (s ∷ ss) = refl

pub merge_starts : (q r m : RegionOf) (t : Turn) → m ≡ fresh q.gap (q.lane.first + (r.gap + r.lane.first)) → t ≡ record { left = 0; right = 0; length = q.lane.first } → Merging q r t m
merge_starts q r m t e i =
    subst (λ u. Merging q r u m) (sym i) (subst (Merging q r (record { left = 0; right = 0; length = q.lane.first })) (sym e) (record {
      steps = λ os us w. w;
      gap = refl;
      first = refl;
      length_is = sym (before_none q.lane.first q.lane.slots);
      last = ap (λ n. q.lane.first + (r.gap + n)) (sym (before_none r.lane.first r.lane.slots));
      left = omega arith;
      right = omega arith;
    }))

pub merge_ends : (q r m : RegionOf) (t : Turn) → Slots q → Slots r → Merging q r t m → length q.lane.slots ≤ t.left → length r.lane.slots ≤ t.right → IsMerged q r m
merge_ends q r m t sq sr h lt rt =
    let a = sq.are in
    let b = sr.are in
    let w : Merge r.gap t.length [] [] [] [] [] [] = nothing in
    let x : Merge r.gap t.length (drop t.left q.numbers) (drop t.left q.lane.slots) (drop t.right r.numbers) (drop t.right r.lane.slots) [] [] =
    subst (λ ns. Merge r.gap t.length ns (drop t.left q.lane.slots) (drop t.right r.numbers) (drop t.right r.lane.slots) [] []) (sym (none_left q.numbers t.left (omega (arith, a, lt))))
    (subst (λ ss. Merge r.gap t.length [] ss (drop t.right r.numbers) (drop t.right r.lane.slots) [] []) (sym (none_left q.lane.slots t.left lt))
    (subst (λ ns. Merge r.gap t.length [] [] ns (drop t.right r.lane.slots) [] []) (sym (none_left r.numbers t.right (omega (arith, b, rt))))
    (subst (λ ss. Merge r.gap t.length [] [] [] ss [] []) (sym (none_left r.lane.slots t.right rt)) w))) in
    record {
      gap = h.gap;
      first = h.first;
      merge = subst (λ os. Merge r.gap q.lane.first q.numbers q.lane.slots r.numbers r.lane.slots os m.lane.slots) (append-nil m.numbers) (subst (Merge r.gap q.lane.first q.numbers q.lane.slots r.numbers r.lane.slots (m.numbers ++ [])) (append-nil m.lane.slots) (h.steps [] [] x));
      last = h.last ∙ (λ i. (h.length_is ∙ before_all q.lane.slots t.left q.lane.first lt) i + (r.gap + before_all r.lane.slots t.right r.lane.first rt i));
    }

-- ---- what is known at a turn
pub first_some : (a b c d : ℕ) → (a < b) ⊎ (c < d) → d ≤ c → a < b
first_some a b c d (inl h) e = h
first_some a b c d (inr h) e = absurd (omega (arith, h, e))

pub second_some : (a b c d : ℕ) → (a < b) ⊎ (c < d) → b ≤ a → c < d
second_some a b c d (inl h) e = absurd (omega (arith, h, e))
second_some a b c d (inr h) e = h

pub ahead_none : (n : ℕ) (ms : List ℕ) → ms ≡ [] → Ahead n ms
ahead_none n ms e = subst (Ahead n) (sym e) tt

pub ahead_one : (n m : ℕ) (ms ks : List ℕ) → ms ≡ m ∷ ks → n < m → Ahead n ms
ahead_one n m ms ks e h = subst (Ahead n) (sym e) h

pub turn_low : (q r : RegionOf) (t : Turn) (m : RegionOf) → Merging q r t m → m.gap + m.lane.first + length m.lane.slots + 1 < top → t.length + (r.gap + length_before t.right r.lane.first r.lane.slots) < top
turn_low q r t m h room = let low = last_below m.lane.slots m.lane.first in let last = h.last in omega (arith, low, last, room)

pub right_low : (s : Option Op) (n x g y : ℕ) → Fits y s → x + (g + y) < top → n ≡ x + g → IfSome s (λ z. z.place + n ≤ top)
right_low None n x g y f low e = tt
right_low (Some a) n x g y f low e = let w = within_most a.does a.place y f in omega (arith, w, low, e)

pub less_shared : (n m : ℕ) → n ≤ m → m ≤ n → n ≡ m
less_shared n m h k = omega (arith, h, k)
