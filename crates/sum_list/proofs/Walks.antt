-- A walk over a list that adds up the items so far, until a sum is reached.
use Rattle.std.proofs.Common.{◌≡◌, ℕ, inl, inr, zero, suc, ◌+◌, ◌-◌, ◌*◌, ◌^◌, ◌<◌, ◌≤◌, List, [], ◌∷◌, ◌++◌, length, take, refl, sym, ap, subst, ◌∙◌, length-append, arith}
use Rattle.std.specs.Prelude.{sum_by}
use Rattle.std.proofs.lemmas.List.{length-take-le, take_all}
use Rattle.std.proofs.lemmas.Bool.{cases_lt}
use Rattle.std.proofs.lemmas.List.Sums.{sum_by-append, sum_by-cons}
use Rattle.sum_list.specs.declared.at.At.{At}
use Rattle.sum_list.specs.declared.measured.Measure.{Measure}
use Rattle.sum_list.specs.declared.measured.Measure.TheVariants.{Places, Before, After}
use Rattle.sum_list.specs.Counts.{by, counts}
use Rattle.sum_list.specs.Places.{IsAt, Reaches}
use Rattle.sum_list.proofs.Parts.{sum_within}

-- the place so much further on
abbrev pub further : At → At → At
further a e = record { place = a.place + e.place; before = a.before + e.before; after = a.after + e.after }

module _ {X : Type 0} (f g : X → ℕ) where
  -- the sums of whole items, whose lengths are those of 32 bits
  pub record Sums (xs : List X) (at : At) : Type 0 where
    pub place : at.place ≡ length xs
    pub before : at.before ≡ sum_by f xs
    pub after : at.after ≡ sum_by g xs
    pub low_before : at.before ≤ at.place * 4294967295
    pub low_after : at.after ≤ at.place * 4294967295

  -- the items xs fall short of the sum
  pub record Walk (m : Measure) (sum : ℕ) (xs : List X) (at : At) : Type 0 where
    pub sums : Sums xs at
    pub short : 0 < at.place → by m at.place at.before at.after < sum

  ones : (xs : List X) → sum_by (λ _. 1) xs ≡ length xs
  ones [] = refl
  ones (x ∷ xs) = let rest = ones xs in let one = sum_by-cons (λ (_ : X). 1) x xs in omega arith

  pub by_is : (m : Measure) (xs : List X) (at : At) → Sums xs at → by m at.place at.before at.after ≡ sum_by (counts f g m) xs
  by_is Places xs at s = s.place ∙ sym (ones xs)
  by_is Before xs at s = s.before
  by_is After xs at s = s.after

  pub sums_one : (x : X) (e : At) → e.place ≡ 1 → e.before ≡ f x → e.after ≡ g x → e.before < 2 ^ 32 → e.after < 2 ^ 32 → Sums (x ∷ []) e
  sums_one x e p b a lb la =
      let one = sum_by-cons f x [] in let other = sum_by-cons g x [] in
      record { place = p; before = omega arith; after = omega arith; low_before = omega arith; low_after = omega arith }

  pub sums_more : (xs b : List X) (at e : At) → Sums xs at → Sums b e → Sums (xs ++ b) (further at e)
  sums_more xs b at e s t =
      let n = length-append xs b in let p = sum_by-append f xs b in let q = sum_by-append g xs b in
      let s0 = s.place in let s1 = s.before in let s2 = s.after in let s3 = s.low_before in let s4 = s.low_after in
      let t0 = t.place in let t1 = t.before in let t2 = t.after in let t3 = t.low_before in let t4 = t.low_after in
      record {
        place = omega arith;
        before = omega arith;
        after = omega arith;
        low_before = omega arith;
        low_after = omega arith;
      }

  -- the sum is reached with the part b
  pub reached_with : (m : Measure) (sum : ℕ) (xs b : List X) (at e r : At) → Sums xs at → Sums b e → r ≡ further at e → sum ≤ by m r.place r.before r.after → sum ≤ sum_by (counts f g m) xs + sum_by (counts f g m) b
  reached_with m sum xs b at e r s t is low =
      let whole = by_is m (xs ++ b) (further at e) (sums_more xs b at e s t) ∙ sum_by-append (counts f g m) xs b in
      subst (λ v. sum ≤ v) ((λ k. by m (is k).place (is k).before (is k).after) ∙ whole) low

  -- the sum is reached with the next item
  pub walk_at : (m : Measure) (sum : ℕ) (xs : List X) (x : X) (ys : List X) (at : At) → Walk m sum xs at → sum ≤ sum_by (counts f g m) xs + sum_by (counts f g m) (x ∷ []) → Reaches (counts f g m) sum (xs ++ (x ∷ ys)) at.place
  walk_at m sum xs x ys at w enough =
      let h = counts f g m in let s = w.sums in let place = s.place in let reach = by_is m xs at s in
      let up_to = λ (p q : ℕ) (same : p ≡ length xs + q) (low : q ≤ 1). ap (λ k. sum_by h (take k (xs ++ (x ∷ ys)))) same ∙ sum_within h xs (x ∷ []) ys q low in
      record {
        short = λ first. let e = up_to at.place 0 (omega arith) (omega arith) in let none : sum_by h (take 0 (x ∷ [])) ≡ 0 = refl in let low = w.short first in omega arith;
        reached = λ _. subst (λ v. sum ≤ v) (sym (up_to (at.place + 1) 1 (omega arith) (omega arith))) enough;
      }

  pub reaches_place : (xs : List X) (p q : ℕ) → p ≤ length xs → q ≤ length xs → Reaches (λ _. 1) (q + 1) xs p → p ≡ q
  reaches_place xs p q low few r =
      let here = ones (take p xs) in let long = length-take-le p xs low in
      let short : 0 < p → p < q + 1 = λ h. let v = r.short h in omega arith in
      elim (cases_lt p (length xs)) [
        | inl lt ↦
            let next = ones (take (p + 1) xs) in let longer = length-take-le (p + 1) xs (omega arith) in let v = r.reached lt in
            elim (cases_lt 0 p) [ inl some ↦ let u = short some in omega arith | inr none ↦ omega arith ]
        | inr le ↦ elim (cases_lt 0 p) [ inl some ↦ let u = short some in omega arith | inr none ↦ omega arith ]
      ]

  -- the sum wasn't reached
  pub walk_end : (m : Measure) (sum : ℕ) (xs : List X) (at : At) → Walk m sum xs at → IsAt f g xs at × Reaches (counts f g m) sum xs at.place
  walk_end m sum xs at w =
      let s = w.sums in let place = s.place in let all = take_all at.place xs (omega arith) in
      let reach = by_is m xs at s in let whole = ap (sum_by (counts f g m)) all in (
        record { within = omega arith; before = s.before ∙ sym (ap (sum_by f) all); after = s.after ∙ sym (ap (sum_by g) all) },
        record { short = λ h. let short = w.short h in omega arith; reached = λ h. absurd (omega (arith, h)) },
      )

  short_within : (h : X → ℕ) (sum : ℕ) (xs b : List X) (p q r v : ℕ) → r ≡ sum_by h xs → (0 < p → r < sum) → (0 < q → sum_by h (take q b) < sum - r) → v ≡ sum_by h xs + sum_by h (take q b) → 0 < p + q → v < sum
  short_within h sum xs b p zero r v re outer inner e first = let none : sum_by h (take 0 b) ≡ 0 = refl in let o = outer (omega arith) in omega arith
  short_within h sum xs b p (suc q) r v re outer inner e first = let o = inner (omega arith) in omega arith

  reached_within : (h : X → ℕ) (sum : ℕ) (xs b ys : List X) (p q r : ℕ) → r ≡ sum_by h xs → p ≡ length xs → q ≤ length b → 0 < length b → sum ≤ sum_by h xs + sum_by h b → Reaches h (sum - r) b q → sum ≤ sum_by h (take (p + q + 1) (xs ++ (b ++ ys)))
  reached_within h sum xs b ys p q r re pe low some enough reaches =
      elim (cases_lt q (length b)) [
        | inl lt ↦
            let same : p + q + 1 ≡ length xs + (q + 1) = omega arith in
            let here = reaches.reached lt in
            let e = ap (λ k. sum_by h (take k (xs ++ (b ++ ys)))) same ∙ sum_within h xs b ys (q + 1) (omega arith) in omega arith
        | inr le ↦
            let all = ap (sum_by h) (take_all q b le) in
            let here = reaches.short (omega arith) in absurd (omega arith)
      ]

  -- the sum is reached within the part b, at i
  pub walk_found : (m : Measure) (sum : ℕ) (xs b ys : List X) (at i : At) → Walk m sum xs at → 0 < length b → sum ≤ sum_by (counts f g m) xs + sum_by (counts f g m) b → IsAt f g b i → Reaches (counts f g m) (sum - by m at.place at.before at.after) b i.place → IsAt f g (xs ++ (b ++ ys)) (further at i) × Reaches (counts f g m) sum (xs ++ (b ++ ys)) (at.place + i.place)
  walk_found m sum xs b ys at i w some enough here reaches =
      let s = w.sums in let place = s.place in let low = here.within in let h = counts f g m in
      let r = by m at.place at.before at.after in let reach = by_is m xs at s in
      let same : at.place + i.place ≡ length xs + i.place = omega arith in
      let up_to = λ (q : X → ℕ). ap (λ k. sum_by q (take k (xs ++ (b ++ ys)))) same ∙ sum_within q xs b ys i.place low in
      let long = length-append xs (b ++ ys) in let longer = length-append b ys in (
        record {
          within = omega arith;
          before = (λ k. s.before k + here.before k) ∙ sym (up_to f);
          after = (λ k. s.after k + here.after k) ∙ sym (up_to g);
        },
        record {
          short = short_within h sum xs b at.place i.place r (sum_by h (take (at.place + i.place) (xs ++ (b ++ ys)))) reach w.short reaches.short (up_to h);
          reached = λ _. reached_within h sum xs b ys at.place i.place r reach place low some enough reaches;
        },
      )
