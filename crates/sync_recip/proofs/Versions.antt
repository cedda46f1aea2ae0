-- Kept entries by their versions: those before a base and those from it on.
use Rattle.std.proofs.Common.{◌≡◌, ◌≢◌, cond, ◌+◌, None, Some, ℕ, zero, suc, ◌<◌, ◌≤◌, true, false, List, [], ◌∷◌, ◌++◌, length, map, take, drop, get_or, refl, sym, ap, ◌∙◌, subst, if◌then◌else◌, nat_lt, All, Result, Ok, Err, OnOk, OnErr, arith}
use Rattle.std.specs.List.Sorted.{IsNonDecreasingBy}
use Rattle.std.specs.Prelude.{◌==◌}
use Rattle.std.proofs.lemmas.Bool.{lt-ltb, le-ltb, eq-eqb}
use Rattle.std.proofs.lemmas.Bool.Decides.{nat_tests}
use Rattle.std.proofs.lemmas.List.{drop-map, drop_all, drop_more, length-map, map-append, take-append-drop, take-map}
use Rattle.std.proofs.lemmas.List.Elements.{All-nil, All-cons, All-head, All-tail, All-push}
use Rattle.sync_data.specs.declared.instr.Instr.{Instr}
use Rattle.sync_theory.specs.Changesets.{Changeset}
use Rattle.sync_theory.specs.Grid.{tail}
use Rattle.sync_theory.specs.Reciprocals.{from_base, put_first, settle}
use Rattle.sync_theory.proofs.World.{put_if, put_unless}
use Rattle.sync_recip.specs.declared.kept.Kept.{Kept}
use Rattle.sync_recip.specs.Lists.{entry_at, kept_entry, pair_of, versions, IsRising}
use Rattle.sync_recip.specs.declared.carried.Crossed.{Crossed}
use Rattle.sync_recip.specs.Carrying.{crossed_entries}
use Rattle.sync_recip.specs.Stretches.{from_place}
use Rattle.sync_recip.proofs.Laid.{drop_from, take_from}

-- ---- what rises
first_least : (v : ℕ) (ks : List Kept) (i : ℕ) (d : Kept) → All (λ w. v < w) (versions ks) → i < length ks → v < (get_or ks i d).version
first_least v [] i d a h = absurd (omega arith)
first_least v (k ∷ ks) zero d a h = All-head (λ w. v < w) k.version (versions ks) a
first_least v (k ∷ ks) (suc i) d a h = first_least v ks i d (All-tail (λ w. v < w) k.version (versions ks) a) (omega arith)

pub rising_far : (ks : List Kept) → IsRising (versions ks) → IsNonDecreasingBy (λ k. k.version) ks
rising_far [] r i j d h l = absurd (omega arith)
rising_far (k ∷ ks) r zero zero d h l = omega arith
rising_far (k ∷ ks) r zero (suc j) d h l = let g = first_least k.version ks j d r.0 (omega arith) in omega arith
rising_far (k ∷ ks) r (suc i) zero d h l = absurd (omega arith)
rising_far (k ∷ ks) r (suc i) (suc j) d h l = rising_far ks r.1 i j d (omega arith) (omega arith)

rising_more : (vs : List ℕ) (v : ℕ) → IsRising vs → All (λ w. w < v) vs → IsRising (vs ++ v ∷ [])
rising_more [] v r a = (All-nil (λ w. v < w), tt)
rising_more (u ∷ vs) v r a = (All-push (λ w. u < w) vs v r.0 (All-head (λ w. w < v) u vs a), rising_more vs v r.1 (All-tail (λ w. w < v) u vs a))

versions_below : (ks : List Kept) (v : ℕ) → All (λ p. p.0 < v) (map pair_of ks) → All (λ w. w < v) (versions ks)
versions_below [] v a = All-nil (λ w. w < v)
versions_below (k ∷ ks) v a =
    All-cons (λ w. w < v) k.version (versions ks) (All-head (λ p. p.0 < v) (pair_of k) (map pair_of ks) a) (versions_below ks v (All-tail (λ p. p.0 < v) (pair_of k) (map pair_of ks) a))

rising_push : (ks : List Kept) (k : Kept) → IsRising (versions ks) → All (λ p. p.0 < k.version) (map pair_of ks) → IsRising (versions (ks ++ k ∷ []))
rising_push ks k r a = subst IsRising (sym (map-append (λ k. k.version) ks (k ∷ []))) (rising_more (versions ks) k.version r (versions_below ks k.version a))

pub rising_pushed : {E : Type 0} (r : Result (Unit {0}) E) (ks ns : List Kept) (k : Kept) → OnOk r (ns ≡ ks ++ k ∷ []) → OnErr r (ns ≡ ks) → IsRising (versions ks) → All (λ p. p.0 < k.version) (map pair_of ks) → IsRising (versions ns)
rising_pushed (Ok u) ks ns k f g r a = subst (λ l. IsRising (versions l)) (sym f) (rising_push ks k r a)
rising_pushed (Err m) ks ns k f g r a = subst (λ l. IsRising (versions l)) (sym g) r

pub same_length : (ks js : List Kept) → versions ks ≡ versions js → length ks ≡ length js
same_length ks js e = sym (length-map ks (λ k. k.version)) ∙ ap length e ∙ length-map js (λ k. k.version)

-- ---- those from a base on
pub from_base_is : (b : ℕ) (ks : List Kept) (n : ℕ) → All (λ k. k.version < b) (take n ks) → All (λ k. b ≤ k.version) (drop n ks) → from_base b (map pair_of ks) ≡ map kept_entry (drop n ks)
from_base_is b [] zero f g = refl
from_base_is b [] (suc n) f g = refl
from_base_is b (k ∷ ks) zero f g =
    put_unless (nat_lt k.version b) (from_base b (map pair_of ks)) (kept_entry k ∷ from_base b (map pair_of ks)) (le-ltb k.version b (All-head (λ k. b ≤ k.version) k ks g))
    ∙ ap (λ l. kept_entry k ∷ l) (from_base_is b ks zero (All-nil (λ k. k.version < b)) (All-tail (λ k. b ≤ k.version) k ks g))
from_base_is b (k ∷ ks) (suc n) f g =
    put_if (nat_lt k.version b) (from_base b (map pair_of ks)) (kept_entry k ∷ from_base b (map pair_of ks)) (lt-ltb k.version b (All-head (λ k. k.version < b) k (take n ks) f))
    ∙ from_base_is b ks n (All-tail (λ k. k.version < b) k (take n ks) f) g

abbrev first : List ℕ → ℕ
first [] = 0
first (v ∷ vs) = v

pub settle_is : (b : ℕ) (ks : List Kept) (n : ℕ) (ns : List Kept) → All (λ k. k.version < b) (take n ks) → All (λ k. b ≤ k.version) (drop n ks) → versions ns ≡ versions (drop n ks)
    → settle b (map pair_of ks) (map kept_entry ns) ≡ map pair_of (take n ks ++ ns)
settle_is b [] zero [] f g e = refl
settle_is b [] (suc n) [] f g e = refl
settle_is b [] zero (m ∷ ns) f g e = cc
settle_is b [] (suc n) (m ∷ ns) f g e = cc
settle_is b (k ∷ ks) zero [] f g e = cc
settle_is b (k ∷ ks) zero (m ∷ ns) f g e =
    put_unless (nat_lt k.version b) (pair_of k ∷ settle b (map pair_of ks) (map kept_entry (m ∷ ns))) ((k.version, kept_entry m) ∷ settle b (map pair_of ks) (map kept_entry ns))
    (le-ltb k.version b (All-head (λ k. b ≤ k.version) k ks g))
    ∙ (let rest = settle_is b ks zero ns (All-nil (λ k. k.version < b)) (All-tail (λ k. b ≤ k.version) k ks g) (ap tail e) in
    let same = ap first e in
    λ i. (sym same i, kept_entry m) ∷ rest i)
settle_is b (k ∷ ks) (suc n) ns f g e =
    put_if (nat_lt k.version b) (pair_of k ∷ settle b (map pair_of ks) (map kept_entry ns)) (put_first (pair_of k) (map kept_entry ns) ∷ settle b (map pair_of ks) (tail (map kept_entry ns)))
    (lt-ltb k.version b (All-head (λ k. k.version < b) k (take n ks) f))
    ∙ ap (λ l. pair_of k ∷ l) (settle_is b ks n ns (All-tail (λ k. k.version < b) k (take n ks) f) g e)

-- ---- the entry of a version
not_below : (m n : ℕ) → m < n → (m == n) ≡ false
not_below m n h = grind (arith, nat_tests, h)

not_above : (m n : ℕ) → n < m → (m == n) ≡ false
not_above m n h = grind (arith, nat_tests, h)

-- those before it don't count
pub before_at : (v : ℕ) (ks : List Kept) (n : ℕ) → All (λ k. k.version < v) (take n ks) → entry_at v (map pair_of ks) ≡ entry_at v (map pair_of (drop n ks))
before_at v [] zero a = refl
before_at v [] (suc n) a = refl
before_at v (k ∷ ks) zero a = refl
before_at v (k ∷ ks) (suc n) a =
    ap (λ t. cond t (Some (kept_entry k)) (entry_at v (map pair_of ks))) (not_below k.version v (All-head (λ k. k.version < v) k (take n ks) a))
    ∙ before_at v ks n (All-tail (λ k. k.version < v) k (take n ks) a)

none_at : (v : ℕ) (ks : List Kept) → All (λ w. v < w) (versions ks) → entry_at v (map pair_of ks) ≡ None
none_at v [] a = refl
none_at v (k ∷ ks) a =
    ap (λ t. cond t (Some (kept_entry k)) (entry_at v (map pair_of ks))) (not_above k.version v (All-head (λ w. v < w) k.version (versions ks) a))
    ∙ none_at v ks (All-tail (λ w. v < w) k.version (versions ks) a)

all_above : (v u : ℕ) (vs : List ℕ) → v < u → All (λ w. u < w) vs → All (λ w. v < w) vs
all_above v u [] h a = All-nil (λ w. v < w)
all_above v u (w ∷ vs) h a =
    let g = All-head (λ w. u < w) w vs a in All-cons (λ w. v < w) w vs (omega (arith, g, h)) (all_above v u vs h (All-tail (λ w. u < w) w vs a))

rising_drop : (ks : List Kept) (n : ℕ) → IsRising (versions ks) → IsRising (versions (drop n ks))
rising_drop [] zero r = r
rising_drop [] (suc n) r = r
rising_drop (k ∷ ks) zero r = r
rising_drop (k ∷ ks) (suc n) r = rising_drop ks n r.1

module _ (v : ℕ) (ks : List Kept) (n : ℕ) (rising : IsRising (versions ks)) (below : All (λ k. k.version < v) (take n ks)) (above : All (λ k. v ≤ k.version) (drop n ks)) where
  pub at_end : length ks ≤ n → entry_at v (map pair_of ks) ≡ None
  at_end h = before_at v ks n below ∙ ap (λ l. entry_at v (map pair_of l)) (drop_all n ks h)

  module _ (k : Kept) (within : n < length ks) (here : k ≡ get_or ks n k) where
    opened : drop n ks ≡ k ∷ drop (n + 1) ks
    opened = drop_more ks n k within ∙ ap (λ q. q ∷ drop (n + 1) ks) (sym here)

    pub at_found : k.version ≡ v → entry_at v (map pair_of ks) ≡ Some (kept_entry k)
    at_found e =
        before_at v ks n below ∙ ap (λ l. entry_at v (map pair_of l)) opened
        ∙ ap (λ t. cond t (Some (kept_entry k)) (entry_at v (map pair_of (drop (n + 1) ks)))) (eq-eqb k.version v e)

    pub at_other : k.version ≢ v → entry_at v (map pair_of ks) ≡ None
    at_other e =
        let least : v ≤ k.version = All-head (λ k. v ≤ k.version) k (drop (n + 1) ks) (subst (All (λ k. v ≤ k.version)) opened above) in
        let more : v < k.version = omega (arith, least, e) in
        let rest = (subst (λ l. IsRising (versions l)) opened (rising_drop ks n rising)).0 in
        before_at v ks n below ∙ ap (λ l. entry_at v (map pair_of l)) opened
        ∙ none_at v (k ∷ drop (n + 1) ks) (All-cons (λ w. v < w) k.version (versions (drop (n + 1) ks)) more (all_above v k.version (versions (drop (n + 1) ks)) more rest))

-- what holds of all entries holds of those from a base on
pub all_from_base : {X : Type 0} (P : X → Type 0) (b : ℕ) (qs : List (ℕ × X)) → All (λ q. P q.1) qs → All P (from_base b qs)
all_from_base P b [] a = All-nil P
all_from_base P b (q ∷ qs) a =
    let rest = all_from_base P b qs (All-tail (λ q. P q.1) q qs a) in
    elim (nat_lt q.0 b) as (λ t. All P (if t then from_base b qs else q.1 ∷ from_base b qs)) [
      | true ↦ rest
      | false ↦ All-cons P q.1 (from_base b qs) (All-head (λ q. P q.1) q qs a) rest
    ]

-- ---- a list that is settled
same_pairs : (ks js : List Kept) → versions ks ≡ versions js → map kept_entry ks ≡ map kept_entry js → map pair_of ks ≡ map pair_of js
same_pairs [] [] e f = refl
same_pairs [] (j ∷ js) e f = cc
same_pairs (k ∷ ks) [] e f = cc
same_pairs (k ∷ ks) (j ∷ js) e f =
    let version : k.version ≡ j.version = cc in
    let entry : kept_entry k ≡ kept_entry j = cc in
    let further : versions ks ≡ versions js = cc in
    let entries : map kept_entry ks ≡ map kept_entry js = cc in
    λ i. (version i, entry i) ∷ same_pairs ks js further entries i

front_same : {B : Type 0} (g : Kept → B) (n : ℕ) (ks ns : List Kept) → take n (map g ns) ≡ take n (map g ks) → map g (take n ks ++ drop n ns) ≡ map g ns
front_same g n ks ns h =
    map-append g (take n ks) (drop n ns)
    ∙ (λ i. (sym (take-map g n ks) ∙ sym h) i ++ sym (drop-map g n ns) i)
    ∙ take-append-drop n (map g ns)

module _ (b : ℕ) (ks : List Kept) (n : ℕ) (below : All (λ k. k.version < b) (take n ks)) (above : All (λ k. b ≤ k.version) (drop n ks)) where
  behind_settled : (ns : List Kept) (cs : List Crossed) → versions ns ≡ versions (drop n ks) → map kept_entry ns ≡ crossed_entries cs (map kept_entry (drop n ks))
      → map pair_of (take n ks ++ ns) ≡ settle b (map pair_of ks) (crossed_entries cs (from_base b (map pair_of ks)))
  behind_settled ns cs e f = sym (settle_is b ks n ns below above e) ∙ ap (settle b (map pair_of ks)) (f ∙ ap (crossed_entries cs) (sym (from_base_is b ks n below above)))

  pub settled : (ns : List Kept) (cs : List Crossed) → n ≤ length ks → versions ns ≡ versions ks → map kept_entry ns ≡ from_place n (crossed_entries cs) (map kept_entry ks)
      → map pair_of ns ≡ settle b (map pair_of ks) (crossed_entries cs (from_base b (map pair_of ks)))
  settled ns cs l e f =
      let es : List (Changeset Instr) = map kept_entry ks in
      let count = length-map ks kept_entry in
      let within : n ≤ length es = omega (arith, l, count) in
      same_pairs ns (take n ks ++ drop n ns)
      (sym (front_same (λ k. k.version) n ks ns (ap (take n) e)))
      (sym (front_same kept_entry n ks ns (ap (take n) f ∙ take_from n (crossed_entries cs) es)))
      ∙ behind_settled (drop n ns) cs
      (sym (drop-map (λ k. k.version) n ns) ∙ ap (drop n) e ∙ drop-map (λ k. k.version) n ks)
      (sym (drop-map kept_entry n ns) ∙ ap (drop n) f ∙ drop_from n (crossed_entries cs) es within ∙ ap (crossed_entries cs) (drop-map kept_entry n ks))
