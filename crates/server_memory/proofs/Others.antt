-- How the reciprocal lists of all idents but one get an entry more.
use Rattle.std.proofs.Common.{◌≡◌, ℕ, zero, suc, ◌+◌, ◌<◌, ◌≤◌, ◌==◌, Bool, true, false, List, [], ◌∷◌, ◌++◌, length, get_or, set, map, take, All, if◌then◌else◌, refl, sym, ap, ◌∙◌, subst, arith}
use Rattle.std.proofs.lemmas.Bool.{eq-eqb, ne_eqb}
use Rattle.std.proofs.lemmas.List.Elements.{All-nil, All-cons}
use Rattle.std.proofs.lemmas.List.{take_more, length-map, length-take-le, map-append}
use Rattle.sync_data.specs.declared.entry.Entry.{Entry}
use Rattle.sync_data.specs.declared.instr.Instr.{Instr}
use Rattle.sync_recip.specs.Lists.{entry_of}
use Rattle.sync_theory.specs.Changesets.{Changeset}
use Rattle.sync_model.specs.Parts.{Given, extended, with_versions, settled, idents_after}
use Rattle.server_memory.specs.Extending.{extended_at, first_extended}

-- ---- entries with their versions
pub versions_push : (k : ℕ) (xs : List (Changeset Instr)) (x : Changeset Instr) → with_versions k (xs ++ x ∷ []) ≡ with_versions k xs ++ (k + length xs, x) ∷ []
versions_push k [] x = let e : k ≡ k + 0 = omega arith in ap (λ n. (n, x) ∷ []) e
versions_push k (y ∷ xs) x = let e : suc k + length xs ≡ k + suc (length xs) = omega arith in ap (λ l. (k, y) ∷ l) (versions_push (suc k) xs x ∙ ap (λ n. with_versions (suc k) xs ++ (n, x) ∷ []) e)

pub versions_below : (k n : ℕ) (xs : List (Changeset Instr)) → k + length xs ≤ n → All (λ q. q.0 < n) (with_versions k xs)
versions_below k n [] h = All-nil (λ q. q.0 < n)
versions_below k n (x ∷ xs) h = All-cons (λ q. q.0 < n) (k, x) (with_versions (suc k) xs) (omega arith) (versions_below (suc k) n xs (omega arith))

-- ---- one ident after the other
module _ (own version : ℕ) (x : Changeset Instr) where
  pub next_is : (n k : ℕ) (gs : List (Given Instr)) (d : Given Instr) → n < length gs → get_or (first_extended n own version x k gs) n d ≡ get_or gs n d
  next_is zero k gs d h = refl
  next_is (suc n) k [] d h = absurd (omega arith)
  next_is (suc n) k (g ∷ gs) d h = next_is n (suc k) gs d (omega arith)

  pub one_more : (n k : ℕ) (gs : List (Given Instr)) (d : Given Instr) → n < length gs → set (first_extended n own version x k gs) n (extended_at own version x (k + n) (get_or gs n d)) ≡ first_extended (suc n) own version x k gs
  one_more zero k [] d h = absurd (omega arith)
  one_more zero k (g ∷ gs) d h = let e : k + 0 ≡ k = omega arith in ap (λ j. extended_at own version x j g ∷ gs) e
  one_more (suc n) k [] d h = absurd (omega arith)
  one_more (suc n) k (g ∷ gs) d h =
      let e : k + suc n ≡ suc k + n = omega arith in
      ap (λ l. extended_at own version x k g ∷ l) (ap (λ j. set (first_extended n own version x (suc k) gs) n (extended_at own version x j (get_or gs n d))) e ∙ one_more n (suc k) gs d (omega arith))

  pub extended_length : (n k : ℕ) (gs : List (Given Instr)) → length (first_extended n own version x k gs) ≡ length gs
  extended_length zero k gs = refl
  extended_length (suc n) k [] = refl
  extended_length (suc n) k (g ∷ gs) = ap suc (extended_length n (suc k) gs)

  -- ---- all of them, and the own one settled
  unless : (b : Bool) (g h : Given Instr) → b ≡ false → (if b then g else h) ≡ h
  unless true g h e = cc
  unless false g h e = refl

  when : (b : Bool) (g h : Given Instr) → b ≡ true → (if b then g else h) ≡ g
  when true g h e = refl
  when false g h e = cc

  module _ (base : ℕ) (es : List (Changeset Instr)) where
    after_own : (k : ℕ) (gs : List (Given Instr)) → own < k → first_extended (length gs) own version x k gs ≡ idents_after (suc own) base es version x (suc k) gs
    after_own k [] h = refl
    after_own k (g ∷ gs) h =
        let e = ne_eqb k own (omega arith) in
        let f = ne_eqb (suc k) (suc own) (omega arith) in
        (λ i. (unless (k == own) g (extended version x g) e ∙ sym (unless (suc k == suc own) (settled base es g) (extended version x g) f)) i ∷ after_own (suc k) gs (omega arith) i)

    pub all_after : (j k : ℕ) (gs : List (Given Instr)) (g : Given Instr) → own ≡ k + j → j < length gs → g ≡ get_or gs j g → first_extended (length gs) own version x k (set gs j (settled base es g)) ≡ idents_after (suc own) base es version x (suc k) gs
    all_after j k [] g e h is = absurd (omega arith)
    all_after zero k (a ∷ gs) g e h is =
        let f = eq-eqb k own (omega arith) in
        let f2 = eq-eqb (suc k) (suc own) (omega arith) in
        (λ i. (when (k == own) (settled base es g) (extended version x (settled base es g)) f ∙ ap (settled base es) is ∙ sym (when (suc k == suc own) (settled base es a) (extended version x a) f2)) i ∷ after_own (suc k) gs (omega arith) i)
    all_after (suc j) k (a ∷ gs) g e h is =
        let f = ne_eqb k own (omega arith) in
        let f2 = ne_eqb (suc k) (suc own) (omega arith) in
        (λ i. (unless (k == own) a (extended version x a) f ∙ sym (unless (suc k == suc own) (settled base es a) (extended version x a) f2)) i ∷ all_after j (suc k) gs g (omega arith) (omega arith) is i)

-- ---- the loops of the code
pub versions_more : (first : ℕ) (es : List Entry) (i : ℕ) (e : Entry) (made new : List (ℕ × Changeset Instr)) → i < length es → e ≡ get_or es i e → made ≡ with_versions first (map entry_of (take i es)) → new ≡ made ++ (first + i, entry_of e) ∷ [] → new ≡ with_versions first (map entry_of (take (i + 1) es))
versions_more first es i e made new h is was now =
    let size : first + length (map entry_of (take i es)) ≡ first + i = omega (arith, length-map (take i es) entry_of, length-take-le i es (omega arith)) in
    now
    ∙ ap (λ l. l ++ (first + i, entry_of e) ∷ []) was
    ∙ ap (λ n. with_versions first (map entry_of (take i es)) ++ (n, entry_of e) ∷ []) (sym size)
    ∙ sym (versions_push first (map entry_of (take i es)) (entry_of e))
    ∙ ap (with_versions first) (sym (map-append entry_of (take i es) (e ∷ [])))
    ∙ ap (λ d. with_versions first (map entry_of (take i es ++ d ∷ []))) is
    ∙ ap (λ l. with_versions first (map entry_of l)) (sym (take_more es i e h))

pub versions_before : (first : ℕ) (es : List Entry) (i : ℕ) (made : List (ℕ × Changeset Instr)) → i ≤ length es → made ≡ with_versions first (map entry_of (take i es)) → All (λ q. q.0 < first + i) made
versions_before first es i made h was =
    let size : first + length (map entry_of (take i es)) ≡ first + i = omega (arith, length-map (take i es) entry_of, length-take-le i es h) in
    subst (All (λ q. q.0 < first + i)) (sym was) (versions_below first (first + i) (map entry_of (take i es)) (omega arith))

-- another ident gets the entry
pub next_other : (own version : ℕ) (x : Changeset Instr) (n : ℕ) (gs now : List (Given Instr)) (d h : Given Instr) → n < length gs → (n ≡ own → ⊥) → now ≡ first_extended n own version x 0 gs → h ≡ extended version x (get_or now n d)
    → set now n h ≡ first_extended (n + 1) own version x 0 gs
next_other own version x n gs now d h lt ne was is =
    let same = ap (λ l. get_or l n d) was ∙ next_is own version x n 0 gs d lt in
    let place : n ≡ 0 + n = omega arith in
    let more : suc n ≡ n + 1 = omega arith in
    (λ i. set (was i) n ((is ∙ ap (extended version x) same ∙ sym (unless own version x (n == own) (get_or gs n d) (extended version x (get_or gs n d)) (ne_eqb n own ne))) i))
    ∙ ap (λ k. set (first_extended n own version x 0 gs) n (extended_at own version x k (get_or gs n d))) place
    ∙ one_more own version x n 0 gs d lt
    ∙ ap (λ k. first_extended k own version x 0 gs) more

set_same : {X : Type 0} (xs : List X) (n : ℕ) → n < length xs → (g : X) × ((d : X) → get_or xs n d ≡ g) × (set xs n g ≡ xs)
set_same [] n h = absurd (omega arith)
set_same (x ∷ xs) zero h = (x, λ d. refl, refl)
set_same (x ∷ xs) (suc n) h = let r = set_same xs n (omega arith) in (r.0, r.1, ap (λ l. x ∷ l) r.2)

-- its own ident stays
pub next_own : (own version : ℕ) (x : Changeset Instr) (n : ℕ) (gs now : List (Given Instr)) → n < length gs → n ≡ own → now ≡ first_extended n own version x 0 gs → now ≡ first_extended (n + 1) own version x 0 gs
next_own own version x n gs now lt e was =
    let size : n < length now = omega (arith, ap length was, extended_length own version x n 0 gs) in
    let r = set_same now n size in
    let g = r.0 in
    let same = sym (r.1 g) ∙ ap (λ l. get_or l n g) was ∙ next_is own version x n 0 gs g lt in
    let place : n ≡ 0 + n = omega arith in
    let more : suc n ≡ n + 1 = omega arith in
    sym r.2
    ∙ (λ i. set (was i) n ((same ∙ sym (when own version x (n == own) (get_or gs n g) (extended version x (get_or gs n g)) (eq-eqb n own e))) i))
    ∙ ap (λ k. set (first_extended n own version x 0 gs) n (extended_at own version x k (get_or gs n g))) place
    ∙ one_more own version x n 0 gs g lt
    ∙ ap (λ k. first_extended k own version x 0 gs) more

-- the idents are as many as before
pub idents_length : (c base : ℕ) (es : List (Changeset Instr)) (version : ℕ) (x : Changeset Instr) (k : ℕ) (gs : List (Given Instr)) → length (idents_after c base es version x k gs) ≡ length gs
idents_length c base es version x k [] = refl
idents_length c base es version x k (g ∷ gs) = ap suc (idents_length c base es version x (suc k) gs)
