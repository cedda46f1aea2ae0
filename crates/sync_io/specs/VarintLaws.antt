-- What is read is a spelling, and a spelling is read whatever follows it.
use Rattle.std.proofs.Common.{◌≡◌, ℕ, zero, suc, ◌+◌, ◌*◌, ◌/◌, ◌%◌, ◌^◌, ◌<◌, ◌≤◌, List, [], ◌∷◌, ◌++◌, get_or, Bool, true, false, cond, ltb, Result, Ok, Err, ℤ, pos, negsuc, refl, sym, ap, subst, ◌∙◌, arith, inl, inr}
use Rattle.std.proofs.Math.Nat.{pow-succ'}
use Rattle.std.proofs.lemmas.Bool.{cases_lt, lt-ltb, le-ltb, ltb-true}
use Rattle.sync_io.specs.declared.varint.VarintFault.{VarintFault}
use Rattle.sync_io.specs.declared.varint.VarintFault.TheVariants.{Bad}
use Rattle.sync_io.specs.Varints.{spelled, varint, before, below, number_at, varint32_at, varint64_at, zigzag, unzigzag}

abbrev pub IsBytes : List ℕ → Type 0
IsBytes bytes = (i : ℕ) → get_or bytes i 0 < 256

-- the bytes are that text, and then the rest, of bytes too
pub record Takes (bytes text rest : List ℕ) : Type 0 where
  pub parts : bytes ≡ text ++ rest
  pub rest_fits : IsBytes rest

-- ---- the spelling by cases on the number

spelled_small : (more n : ℕ) → n < 128 → spelled more n ≡ n ∷ []
unfolding spelled
spelled_small zero n h = refl
spelled_small (suc more) n h = rw lt-ltb refl

spelled_large : (more n : ℕ) → 128 ≤ n → spelled (suc more) n ≡ (128 + n % 128) ∷ spelled more (n / 128)
unfolding spelled
spelled_large more n h = rw le-ltb refl

-- more room changes nothing
same_room : (f g n : ℕ) → n ≤ f → n ≤ g → spelled f n ≡ spelled g n
same_room zero g n hf hg = spelled_small zero n (omega arith) ∙ sym (spelled_small g n (omega arith))
same_room (suc f) zero n hf hg = spelled_small (suc f) n (omega arith) ∙ sym (spelled_small zero n (omega arith))
same_room (suc f) (suc g) n hf hg =
    elim (cases_lt n 128) [
      | inl lt ↦ spelled_small (suc f) n lt ∙ sym (spelled_small (suc g) n lt)
      | inr le ↦ spelled_large f n le ∙ ap (λ (t : List ℕ). (128 + n % 128) ∷ t) (same_room f g (n / 128) (omega arith) (omega arith)) ∙ sym (spelled_large g n le)
    ]

pub varint_small : (n : ℕ) → n < 128 → varint n ≡ n ∷ []
unfolding varint
varint_small n h = spelled_small n n h

pub varint_large : (n : ℕ) → 128 ≤ n → varint n ≡ (128 + n % 128) ∷ varint (n / 128)
unfolding varint
varint_large zero h = absurd (omega arith)
varint_large (suc n) h = spelled_large n (suc n) h ∙ ap (λ (t : List ℕ). (128 + suc n % 128) ∷ t) (same_room n (suc n / 128) (suc n / 128) (omega arith) (omega arith))

-- ---- a spelling is read

pub number_small : (room n : ℕ) (rest : List ℕ) → n < 128 → number_at (suc room) (n ∷ rest) ≡ Ok (n, rest)
unfolding number_at
number_small room n rest h = rw lt-ltb refl

pub number_large : (room b : ℕ) (rest : List ℕ) → 128 ≤ b → number_at (suc room) (b ∷ rest) ≡ before b (number_at room rest)
unfolding number_at
number_large room b rest h = rw le-ltb refl

before_ok : (b high : ℕ) (rest : List ℕ) → 0 < high → before b (Ok (high, rest)) ≡ Ok (b % 128 + 128 * high, rest)
before_ok b zero rest h = absurd (omega arith)
before_ok b (suc high) rest h = refl

number_again : (room n : ℕ) (rest : List ℕ) → n < 128 ^ suc room → number_at (suc room) (varint n ++ rest) ≡ Ok (n, rest)
number_again zero n rest h = rw (varint_small n (omega arith)) (number_small zero n rest (omega arith))
number_again (suc room) n rest h =
    elim (cases_lt n 128) [
      | inl lt ↦ rw (varint_small n lt) (number_small (suc room) n rest lt)
      | inr le ↦
          let high : n / 128 < 128 ^ suc room = omega (arith, pow-succ' 128 (suc room)) in
          let inner = number_again room (n / 128) rest high in
          ap (λ (t : List ℕ). number_at (suc (suc room)) (t ++ rest)) (varint_large n le)
          ∙ number_large (suc room) (128 + n % 128) (varint (n / 128) ++ rest) (omega arith)
          ∙ ap (before (128 + n % 128)) inner
          ∙ before_ok (128 + n % 128) (n / 128) rest (omega arith)
          ∙ ap (λ m. Ok (m, rest)) (let e : (128 + n % 128) % 128 + 128 * (n / 128) ≡ n = omega arith in e)
    ]

pub varint32_again : (n : ℕ) (rest : List ℕ) → n < 2 ^ 32 → varint32_at (varint n ++ rest) ≡ Ok (n, rest)
unfolding varint32_at
varint32_again n rest h = ap (below (2 ^ 32)) (number_again 4 n rest (omega arith)) ∙ rw (lt-ltb n (2 ^ 32) h) refl

pub varint64_again : (n : ℕ) (rest : List ℕ) → n < 2 ^ 64 → varint64_at (varint n ++ rest) ≡ Ok (n, rest)
unfolding varint64_at
varint64_again n rest h = ap (below (2 ^ 64)) (number_again 9 n rest (omega arith)) ∙ rw (lt-ltb n (2 ^ 64) h) refl

-- ---- what is read is a spelling

IsBytes-rest : (b : ℕ) (bytes : List ℕ) → IsBytes (b ∷ bytes) → IsBytes bytes
IsBytes-rest b bytes h i = h (suc i)

abbrev done : {A : Type 0} → A → Result A VarintFault
done x = Ok x

ok_is : {A : Type 0} (x y : A) → done x ≡ done y → x ≡ y
ok_is x y e = cc

guarded : {A : Type 0} (b : Bool) (x y : A) → cond b (done x) (Err Bad) ≡ done y → (b ≡ true) × (x ≡ y)
guarded true x y e = (refl, cc)
guarded false x y e = absurd cc

before_gives : (b : ℕ) (r : Result (ℕ × List ℕ) VarintFault) (n : ℕ) (rest : List ℕ) → before b r ≡ Ok (n, rest) → (m : ℕ) × (r ≡ Ok (m, rest)) × (0 < m) × (n ≡ b % 128 + 128 * m)
before_gives b (Err fault) n rest e = absurd cc
before_gives b (Ok (zero, more)) n rest e = absurd cc
before_gives b (Ok (suc m, more)) n rest e =
    let same = ok_is (b % 128 + 128 * suc m, more) (n, rest) e in
    (suc m, ap (λ (t : List ℕ). Ok (suc m, t)) (ap (λ (x : ℕ × List ℕ). x.1) same), omega arith, sym (ap (λ (x : ℕ × List ℕ). x.0) same))

taken_before : (b : ℕ) (bytes : List ℕ) (m n : ℕ) (rest : List ℕ) → 128 ≤ b → b < 256 → 0 < m → n ≡ b % 128 + 128 * m → Takes bytes (varint m) rest → Takes (b ∷ bytes) (varint n) rest
taken_before b bytes m n rest le lt some is inner =
    let first : b ≡ 128 + n % 128 = omega arith in
    let high : m ≡ n / 128 = omega arith in
    record {
      parts = ap (λ (t : List ℕ). b ∷ t) inner.parts ∙ ap (λ (k : ℕ). k ∷ (varint m ++ rest)) first
          ∙ ap (λ (k : ℕ). (128 + n % 128) ∷ (varint k ++ rest)) high ∙ ap (λ (t : List ℕ). t ++ rest) (sym (varint_large n (omega arith)));
      rest_fits = inner.rest_fits;
    }

number_takes : (room : ℕ) (bytes : List ℕ) (n : ℕ) (rest : List ℕ) → IsBytes bytes → number_at room bytes ≡ Ok (n, rest) → Takes bytes (varint n) rest
unfolding number_at
number_takes zero bytes n rest fits e = absurd cc
number_takes (suc room) [] n rest fits e = absurd cc
number_takes (suc room) (b ∷ bytes) n rest fits e =
    elim (cases_lt b 128) [
      | inl lt ↦
          let same = ok_is (b, bytes) (n, rest) (sym (number_small room b bytes lt) ∙ e) in
          subst (λ (x : ℕ × List ℕ). Takes (b ∷ bytes) (varint x.0) x.1) same
          (record { parts = ap (λ (t : List ℕ). t ++ bytes) (sym (varint_small b lt)); rest_fits = IsBytes-rest b bytes fits })
      | inr le ↦
          let more = before_gives b (number_at room bytes) n rest (sym (number_large room b bytes le) ∙ e) in
          let inner = number_takes room bytes more.0 rest (IsBytes-rest b bytes fits) more.1 in
          taken_before b bytes more.0 n rest le (fits 0) more.2 more.3 inner
    ]

below_ok : (limit : ℕ) (r : Result (ℕ × List ℕ) VarintFault) (x : ℕ × List ℕ) → below limit r ≡ Ok x → (r ≡ Ok x) × (x.0 < limit)
below_ok limit (Err fault) x e = absurd cc
below_ok limit (Ok y) x e =
    let g = guarded (ltb y.0 limit) y x e in
    (ap done g.1, subst (λ (v : ℕ × List ℕ). v.0 < limit) g.1 (ltb-true _ _ g.0))

pub varint32_takes : (bytes : List ℕ) (x : ℕ × List ℕ) → IsBytes bytes → varint32_at bytes ≡ Ok x → Takes bytes (varint x.0) x.1 × (x.0 < 2 ^ 32)
unfolding varint32_at
varint32_takes bytes x fits e =
    let ok = below_ok (2 ^ 32) (number_at 5 bytes) x e in
    (number_takes 5 bytes x.0 x.1 fits ok.0, ok.1)

pub varint64_takes : (bytes : List ℕ) (x : ℕ × List ℕ) → IsBytes bytes → varint64_at bytes ≡ Ok x → Takes bytes (varint x.0) x.1 × (x.0 < 2 ^ 64)
unfolding varint64_at
varint64_takes bytes x fits e =
    let ok = below_ok (2 ^ 64) (number_at 10 bytes) x e in
    (number_takes 10 bytes x.0 x.1 fits ok.0, ok.1)

-- ---- numbers with a sign

halves_pos : (n : ℕ) → unzigzag (2 * n) ≡ pos n
halves_pos n = grind arith

halves_neg : (n : ℕ) → unzigzag (2 * n + 1) ≡ negsuc n
halves_neg n = grind arith

pub unzigzag_zigzag : (n : ℤ) → unzigzag (zigzag n) ≡ n
unzigzag_zigzag (pos n) = halves_pos n
unzigzag_zigzag (negsuc n) = halves_neg n

pub zigzag_unzigzag : (n : ℕ) → zigzag (unzigzag n) ≡ n
zigzag_unzigzag n = grind arith
