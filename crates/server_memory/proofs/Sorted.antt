-- Crossed entries in the order of their idents and versions.
use Rattle.std.proofs.Common.{◌≡◌, ◌≢◌, ℕ, zero, suc, ◌-◌, ◌<◌, ◌≤◌, ◌==◌, Bool, true, false, ◌&&◌, ◌||◌, List, [], ◌∷◌, ◌++◌, length, take, drop, get_or, All, if◌then◌else◌, nat_lt, refl, sym, ap, ◌∙◌, arith, ◌⊎◌, inl, inr}
use Rattle.std.proofs.lemmas.Bool.{eq-eqb, ne_eqb, eqb-true, lt-ltb, ltb-true}
use Rattle.std.proofs.lemmas.List.Elements.{All-nil, All-cons, All-head, All-tail, All-push}
use Rattle.sync_model.specs.Fronts.{Passed, instrs_at, rises}
use Rattle.server_memory.specs.Crossing.{IsSorted, is_before}

-- the order of pairs, as a fact
abbrev Before : (a b c d : ℕ) → Type 0
Before a b c d = (a < c) ⊎ ((a ≡ c) × (b < d))

or_true : (s t : Bool) → (s || t) ≡ true → (s ≡ true) ⊎ (t ≡ true)
or_true true t e = inl refl
or_true false t e = inr e

and_true : (s t : Bool) → (s && t) ≡ true → (s ≡ true) × (t ≡ true)
and_true true t e = (refl, e)
and_true false t e = cc

tested : (a b c d : ℕ) → (nat_lt a c || ((a == c) && nat_lt b d)) ≡ true → Before a b c d
tested a b c d e = on (or_true (nat_lt a c) ((a == c) && nat_lt b d) e)
  where
    on : (nat_lt a c ≡ true) ⊎ (((a == c) && nat_lt b d) ≡ true) → Before a b c d
    on (inl f) = inl (ltb-true a c f)
    on (inr f) = let both = and_true (a == c) (nat_lt b d) f in inr (eqb-true a c both.0, ltb-true b d both.1)

is_tested : (a b c d : ℕ) → Before a b c d → (nat_lt a c || ((a == c) && nat_lt b d)) ≡ true
is_tested a b c d (inl h) = ap (λ t. t || ((a == c) && nat_lt b d)) (lt-ltb a c h)
is_tested a b c d (inr h) = ap (λ t. nat_lt a c || (t && nat_lt b d)) (eq-eqb a c h.0) ∙ ap (λ t. nat_lt a c || t) (lt-ltb b d h.1) ∙ or_yes (nat_lt a c)
  where
    or_yes : (s : Bool) → (s || true) ≡ true
    or_yes true = refl
    or_yes false = refl

further : (a b c d e f : ℕ) → Before a b c d → Before c d e f → Before a b e f
further a b c d e f (inl h) (inl g) = inl (omega (arith, h, g))
further a b c d e f (inl h) (inr g) = inl (omega (arith, h, g.0))
further a b c d e f (inr h) (inl g) = inl (omega (arith, h.0, g))
further a b c d e f (inr h) (inr g) = inr (omega (arith, h.0, g.0), omega (arith, h.1, g.1))

module _ {I : Type 0} where
  between : (p q : Passed I) (c v : ℕ) → is_before q.ident q.version p ≡ true → is_before c v q ≡ true → is_before c v p ≡ true
  between p q c v e f = is_tested p.ident p.version c v (further p.ident p.version q.ident q.version c v (tested p.ident p.version q.ident q.version e) (tested q.ident q.version c v f))

  -- those before the last one are before what comes behind it
  all_before : (qs : List (Passed I)) (c v : ℕ) → IsSorted qs → rises qs c v ≡ true → All (λ q. is_before c v q ≡ true) qs
  all_before [] c v s e = All-nil (λ q. is_before c v q ≡ true)
  all_before (q ∷ []) c v s e = All-cons (λ q. is_before c v q ≡ true) q [] e (All-nil (λ q. is_before c v q ≡ true))
  all_before (q ∷ r ∷ qs) c v s e =
      let rest = all_before (r ∷ qs) c v s.1 e in
      let next = All-head (λ r. is_before r.ident r.version q ≡ true) r qs s.0 in
      All-cons (λ q. is_before c v q ≡ true) q (r ∷ qs) (between q r c v next (All-head (λ q. is_before c v q ≡ true) r qs rest)) rest

  sorted_snoc : (qs : List (Passed I)) (r : Passed I) → IsSorted qs → All (λ q. is_before r.ident r.version q ≡ true) qs → IsSorted (qs ++ r ∷ [])
  sorted_snoc [] r s a = (All-nil (λ x. is_before x.ident x.version r ≡ true), tt)
  sorted_snoc (q ∷ qs) r s a =
      (All-push (λ x. is_before x.ident x.version q ≡ true) qs r s.0 (All-head (λ q. is_before r.ident r.version q ≡ true) q qs a), sorted_snoc qs r s.1 (All-tail (λ q. is_before r.ident r.version q ≡ true) q qs a))

  pub sorted_more : (qs : List (Passed I)) (r : Passed I) → IsSorted qs → rises qs r.ident r.version ≡ true → IsSorted (qs ++ r ∷ [])
  sorted_more qs r s e = sorted_snoc qs r s (all_before qs r.ident r.version s e)

  -- the last one decides
  pub rises_last : (qs : List (Passed I)) (c v : ℕ) (q : Passed I) → length qs ≢ 0 → q ≡ get_or qs (length qs - 1) q → rises qs c v ≡ is_before c v q
  rises_last [] c v q ne e = absurd (ne refl)
  rises_last (x ∷ []) c v q ne e = ap (is_before c v) (sym e)
  rises_last (x ∷ y ∷ qs) c v q ne e =
      let less : length (x ∷ y ∷ qs) - 1 ≡ suc (length (y ∷ qs) - 1) = omega arith in
      rises_last (y ∷ qs) c v q (λ f. absurd (omega (arith, f))) (e ∙ ap (λ n. get_or (x ∷ y ∷ qs) n q) less)

  -- ---- looking for one

  -- what is before something, so is what stands before it
  pub parted : (qs : List (Passed I)) (c v : ℕ) → IsSorted qs → (i j : ℕ) (d : Passed I) → i ≤ j → j < length qs → is_before c v (get_or qs j d) ≡ true → is_before c v (get_or qs i d) ≡ true
  parted [] c v s i j d le lt e = absurd (omega (arith, lt))
  parted (q ∷ qs) c v s zero zero d le lt e = e
  parted (q ∷ qs) c v s zero (suc j) d le lt e = between q (get_or qs j d) c v (s.0 j d (omega (arith, lt))) e
  parted (q ∷ qs) c v s (suc i) zero d le lt e = absurd (omega (arith, le))
  parted (q ∷ qs) c v s (suc i) (suc j) d le lt e = parted qs c v s.1 i j d (omega (arith, le)) (omega (arith, lt)) e

  not_same : (q : Passed I) (c v : ℕ) → Before q.ident q.version c v → ((q.ident == c) && (q.version == v)) ≡ false
  not_same q c v (inl h) = ap (λ t. t && (q.version == v)) (ne_eqb q.ident c (λ e. absurd (omega (arith, e, h))))
  not_same q c v (inr h) = ap (λ t. (q.ident == c) && t) (ne_eqb q.version v (λ e. absurd (omega (arith, e, h.1)))) ∙ and_no (q.ident == c)
    where
      and_no : (s : Bool) → (s && false) ≡ false
      and_no true = refl
      and_no false = refl

  pub passed_by : (q : Passed I) (qs : List (Passed I)) (c v : ℕ) (is : List I) → ((q.ident == c) && (q.version == v)) ≡ false → instrs_at c v (q ∷ qs) is ≡ instrs_at c v qs is
  passed_by q qs c v is e = ap (λ t. if t then q.instrs else instrs_at c v qs is) e

  -- those before it aren't it
  pub before_it : (qs : List (Passed I)) (n c v : ℕ) (is : List I) → All (λ q. is_before c v q ≡ true) (take n qs) → instrs_at c v qs is ≡ instrs_at c v (drop n qs) is
  before_it [] zero c v is a = refl
  before_it [] (suc n) c v is a = refl
  before_it (q ∷ qs) zero c v is a = refl
  before_it (q ∷ qs) (suc n) c v is a =
      passed_by q qs c v is (not_same q c v (tested q.ident q.version c v (All-head (λ q. is_before c v q ≡ true) q (take n qs) a)))
      ∙ before_it qs n c v is (All-tail (λ q. is_before c v q ≡ true) q (take n qs) a)

  other_way : (q : Passed I) (c v : ℕ) → is_before c v q ≡ false → ((q.ident ≡ c) × (q.version ≡ v) → ⊥) → Before c v q.ident q.version
  other_way q c v e ne = on (tests q.ident c) (tests q.version v)
    where
      tests : (a b : ℕ) → (a < b) ⊎ ((a ≡ b) ⊎ (b < a))
      tests zero zero = inr (inl refl)
      tests zero (suc b) = inl (omega arith)
      tests (suc a) zero = inr (inr (omega arith))
      tests (suc a) (suc b) = up (tests a b)
        where
          up : (a < b) ⊎ ((a ≡ b) ⊎ (b < a)) → (suc a < suc b) ⊎ ((suc a ≡ suc b) ⊎ (suc b < suc a))
          up (inl h) = inl (omega (arith, h))
          up (inr (inl h)) = inr (inl (ap suc h))
          up (inr (inr h)) = inr (inr (omega (arith, h)))

      no : Before q.ident q.version c v → ⊥
      no h = clash (sym (is_tested q.ident q.version c v h) ∙ e)
        where
          clash : true ≡ false → ⊥
          clash f = cc

      on : (q.ident < c) ⊎ ((q.ident ≡ c) ⊎ (c < q.ident)) → (q.version < v) ⊎ ((q.version ≡ v) ⊎ (v < q.version)) → Before c v q.ident q.version
      on (inl h) w = absurd (no (inl h))
      on (inr (inr h)) w = inl h
      on (inr (inl h)) (inl g) = absurd (no (inr (h, g)))
      on (inr (inl h)) (inr (inl g)) = absurd (ne (h, g))
      on (inr (inl h)) (inr (inr g)) = inr (sym h, g)

  not_same_back : (q : Passed I) (c v : ℕ) → Before c v q.ident q.version → ((q.ident == c) && (q.version == v)) ≡ false
  not_same_back q c v (inl h) = ap (λ t. t && (q.version == v)) (ne_eqb q.ident c (λ e. absurd (omega (arith, e, h))))
  not_same_back q c v (inr h) = ap (λ t. (q.ident == c) && t) (ne_eqb q.version v (λ e. absurd (omega (arith, e, h.1)))) ∙ and_no (q.ident == c)
    where
      and_no : (s : Bool) → (s && false) ≡ false
      and_no true = refl
      and_no false = refl

  -- nor are those behind a later one
  behind_it : (qs : List (Passed I)) (c v a b : ℕ) (is : List I) → Before c v a b → All (λ r. (nat_lt a r.ident || ((a == r.ident) && nat_lt b r.version)) ≡ true) qs → instrs_at c v qs is ≡ is
  behind_it [] c v a b is h all = refl
  behind_it (q ∷ qs) c v a b is h all =
      let first = All-head (λ r. (nat_lt a r.ident || ((a == r.ident) && nat_lt b r.version)) ≡ true) q qs all in
      passed_by q qs c v is (not_same_back q c v (further c v a b q.ident q.version h (tested a b q.ident q.version first)))
      ∙ behind_it qs c v a b is h (All-tail (λ r. (nat_lt a r.ident || ((a == r.ident) && nat_lt b r.version)) ≡ true) q qs all)

  pub another : (q : Passed I) (qs : List (Passed I)) (c v : ℕ) (is : List I) → IsSorted (q ∷ qs) → is_before c v q ≡ false → ((q.ident ≡ c) × (q.version ≡ v) → ⊥) → instrs_at c v (q ∷ qs) is ≡ is
  another q qs c v is s e ne =
      let later = other_way q c v e ne in
      passed_by q qs c v is (not_same_back q c v later) ∙ behind_it qs c v q.ident q.version is later s.0

  pub the_one : (q : Passed I) (qs : List (Passed I)) (c v : ℕ) (is : List I) → q.ident ≡ c → q.version ≡ v → instrs_at c v (q ∷ qs) is ≡ q.instrs
  the_one q qs c v is e f = ap (λ t. if t && (q.version == v) then q.instrs else instrs_at c v qs is) (eq-eqb q.ident c e) ∙ ap (λ t. if t then q.instrs else instrs_at c v qs is) (eq-eqb q.version v f)

  pub sorted_drop : (qs : List (Passed I)) (n : ℕ) → IsSorted qs → IsSorted (drop n qs)
  sorted_drop [] zero s = s
  sorted_drop [] (suc n) s = s
  sorted_drop (q ∷ qs) zero s = s
  sorted_drop (q ∷ qs) (suc n) s = sorted_drop qs n s.1
