-- Where the gate of a record stands.
use Rattle.std.proofs.Common.{◌≡◌, ℕ, zero, suc, ◌+◌, ◌-◌, ◌<◌, ◌≤◌, ◌^◌, min, List, [], ◌∷◌, length, drop, get_or, drop-cons, Vec, Global, refl, ap, ap₂, ◌∙◌, sym, arith, add-one}
use Rattle.std.proofs.Math.ListN.{drop_of_length-le}
use Rattle.std.proofs.lemmas.List.{drop_more}
use Rattle.sync_journal.specs.Gates.{gate_from, gate_of, told}

told_sum : (a n : ℕ) → min (told a + n) (2 ^ 64 - 1) ≡ told (a + n)
told_sum a n = grind arith

pub record GateSoFar (file : List (List ℕ)) (number place index : ℕ) (rest : List (List ℕ)) : Type 0 where
  pub exact : ℕ
  pub place_is : place ≡ told exact
  pub same : gate_of file number ≡ gate_from exact rest (number - index)
  pub within : index ≤ number

pub gate_first : (file : List (List ℕ)) (number : ℕ) → GateSoFar file number 8 0 file
gate_first file number = let all : number ≡ number - 0 = omega arith in record { exact = 8; place_is = sym eight; same = ap (gate_from 8 file) all; within = omega arith }
  where
    eight : told 8 ≡ 8
    eight = omega arith

gate_on : (exact m : ℕ) (r : List ℕ) (rest : List (List ℕ)) → 1 ≤ m → gate_from exact (r ∷ rest) m ≡ gate_from (exact + 5 + length r) rest (m - 1)
gate_on exact zero r rest h = absurd (omega (arith, h))
gate_on exact (suc m) r rest h = let e : m ≡ suc m - 1 = omega arith in ap (gate_from (exact + 5 + length r) rest) e

pub gate_next : (file : List (List ℕ)) (number place index : ℕ) (left rest : List (List ℕ)) (r : List ℕ) (next : ℕ) → GateSoFar file number place index left → left ≡ r ∷ rest → ¬ (index ≡ number) → next ≡ min (place + (5 + length r)) (2 ^ 64 - 1) → GateSoFar file number next (index + 1) rest
gate_next file number place index left rest r next s is other sum =
    let within = s.within in
    let sums : s.exact + (5 + length r) ≡ s.exact + 5 + length r = omega arith in
    let down : number - index - 1 ≡ number - (index + 1) = omega arith in
    record {
      exact = s.exact + 5 + length r;
      place_is = sum ∙ ap (λ p. min (p + (5 + length r)) (2 ^ 64 - 1)) s.place_is ∙ told_sum s.exact (5 + length r) ∙ ap told sums;
      same = s.same ∙ ap (λ l. gate_from s.exact l (number - index)) is ∙ gate_on s.exact (number - index) r rest (omega (arith, within, other)) ∙ ap (gate_from (s.exact + 5 + length r) rest) down;
      within = omega (arith, within, other);
    }

gate_zero : (exact : ℕ) (rest : List (List ℕ)) → gate_from exact rest 0 ≡ exact
gate_zero exact [] = refl
gate_zero exact (r ∷ rest) = refl

pub gate_here : (file : List (List ℕ)) (number place index : ℕ) (left : List (List ℕ)) → GateSoFar file number place index left → index ≡ number → place ≡ told (gate_of file number)
gate_here file number place index left s is =
    let none : number - index ≡ 0 = omega (arith, is) in
    s.place_is ∙ ap told (sym (s.same ∙ ap (gate_from s.exact left) none ∙ gate_zero s.exact left))

pub gate_end : (file : List (List ℕ)) (number place index : ℕ) (left : List (List ℕ)) → GateSoFar file number place index left → left ≡ [] → place ≡ told (gate_of file number)
gate_end file number place index left s is = s.place_is ∙ ap told (sym (s.same ∙ ap (λ l. gate_from s.exact l (number - index)) is))

-- ---- the records at a place and behind it
pub left_at : (file : List (List ℕ)) (i : ℕ) (r : List ℕ) → i < length file → r ≡ get_or file i [] → drop i file ≡ r ∷ drop (i + 1) file
left_at file i r h is = drop_more file i [] h ∙ ap (λ x. x ∷ drop (i + 1) file) (sym is)

pub none_left : (file : List (List ℕ)) (i : ℕ) → length file ≤ i → drop i file ≡ []
none_left file i h = drop_of_length-le file h
