-- How a number is read: byte by byte, the lowest first.
use Rattle.std.proofs.Common.{◌≡◌, ℕ, zero, suc, ◌+◌, ◌-◌, ◌*◌, ◌%◌, ◌^◌, ◌<◌, ◌≤◌, List, [], ◌∷◌, length, take, drop, slice_index_or, Result, Ok, Err, refl, sym, ap, ◌∙◌, arith, inl, inr}
use Rattle.std.proofs.lemmas.Bool.{cases_lt, lt-ltb, le-ltb}
use Rattle.std.proofs.lemmas.List.{take_all}
use Rattle.sync_io.specs.declared.varint.VarintFault.{VarintFault}
use Rattle.sync_io.specs.declared.varint.VarintFault.TheVariants.{Truncated, Bad}
use Rattle.sync_io.specs.Varints.{before, below, number_at}
use Rattle.sync_io.specs.VarintLaws.{number_small, number_large}

-- the bytes behind the first
abbrev pub behind : List ℕ → List ℕ
behind bytes = take (length bytes - 1) (drop 1 bytes)

pub front : (bytes : List ℕ) → 1 ≤ length bytes → bytes ≡ slice_index_or bytes 0 0 ∷ behind bytes
front [] h = absurd (omega arith)
front (b ∷ bytes) h = ap (λ (t : List ℕ). b ∷ t) (sym (take_all (suc (length bytes) - 1) bytes (omega arith)))

pub at_none : (room : ℕ) (bytes : List ℕ) (limit : ℕ) → room ≡ 0 → below limit (number_at room bytes) ≡ Err Bad
unfolding number_at
at_none zero bytes limit h = refl
at_none (suc room) bytes limit h = absurd (omega arith)

pub at_empty : (room : ℕ) (bytes : List ℕ) (limit : ℕ) → 0 < room → length bytes < 1 → below limit (number_at room bytes) ≡ Err Truncated
unfolding number_at
at_empty zero bytes limit h e = absurd (omega arith)
at_empty (suc room) [] limit h e = refl
at_empty (suc room) (b ∷ bytes) limit h e = absurd (omega arith)

large : (room : ℕ) (bytes : List ℕ) → 0 < room → 1 ≤ length bytes → 128 ≤ slice_index_or bytes 0 0 → number_at room bytes ≡ before (slice_index_or bytes 0 0) (number_at (room - 1) (behind bytes))
large zero bytes h e g = absurd (omega arith)
large (suc room) bytes h e g = ap (number_at (suc room)) (front bytes e) ∙ number_large room (slice_index_or bytes 0 0) (behind bytes) g ∙ ap (λ r. before (slice_index_or bytes 0 0) (number_at r (behind bytes))) (let e : room ≡ suc room - 1 = omega arith in e)

pub below_small : (limit n : ℕ) (rest : List ℕ) → n < limit → below limit (Ok (n, rest)) ≡ Ok (n, rest)
below_small limit n rest h = rw lt-ltb refl

pub below_large : (limit n : ℕ) (rest : List ℕ) → limit ≤ n → below limit (Ok (n, rest)) ≡ Err Bad
below_large limit n rest h = rw le-ltb refl

pub at_last : (room : ℕ) (bytes : List ℕ) (limit : ℕ) → 0 < room → 1 ≤ length bytes → slice_index_or bytes 0 0 < 128 → 128 ≤ limit → below limit (number_at room bytes) ≡ Ok (slice_index_or bytes 0 0, behind bytes)
at_last zero bytes limit h e g l = absurd (omega arith)
at_last (suc room) bytes limit h e g l =
    ap (λ t. below limit (number_at (suc room) t)) (front bytes e) ∙ ap (below limit) (number_small room (slice_index_or bytes 0 0) (behind bytes) g)
    ∙ below_small limit (slice_index_or bytes 0 0) (behind bytes) (omega arith)

-- what a number behind a byte from 128 on makes of it
abbrev pub part : ℕ → Result (ℕ × List ℕ) VarintFault → Result (ℕ × List ℕ) VarintFault
part b inner = below (2 ^ 64) (before b inner)

pub too_large : (b n : ℕ) (rest : List ℕ) → 2 ^ 57 ≤ n → part b (Ok (n, rest)) ≡ Err Bad
too_large b zero rest h = absurd (omega arith)
too_large b (suc n) rest h = below_large (2 ^ 64) (b % 128 + 128 * suc n) rest (omega arith)

pub fitting : (b n : ℕ) (rest : List ℕ) → 0 < n → n < 2 ^ 57 → part b (Ok (n, rest)) ≡ Ok (b % 128 + 128 * n, rest)
fitting b zero rest h l = absurd (omega arith)
fitting b (suc n) rest h l = below_small (2 ^ 64) (b % 128 + 128 * suc n) rest (omega arith)

pub none_higher : (b n : ℕ) (rest : List ℕ) → n ≡ 0 → part b (Ok (n, rest)) ≡ Err Bad
none_higher b zero rest h = refl
none_higher b (suc n) rest h = absurd (omega arith)

joined : (b : ℕ) (r : Result (ℕ × List ℕ) VarintFault) → part b r ≡ part b (below (2 ^ 64) r)
joined b (Err fault) = refl
joined b (Ok (n, rest)) =
    elim (cases_lt n (2 ^ 64)) [
      | inl lt ↦ ap (part b) (sym (below_small (2 ^ 64) n rest lt))
      | inr le ↦ too_large b n rest (omega arith) ∙ ap (part b) (sym (below_large (2 ^ 64) n rest le))
    ]

pub at_more : (room : ℕ) (bytes : List ℕ) (inner : Result (ℕ × List ℕ) VarintFault) → 0 < room → 1 ≤ length bytes → 128 ≤ slice_index_or bytes 0 0 → below (2 ^ 64) (number_at (room - 1) (behind bytes)) ≡ inner → below (2 ^ 64) (number_at room bytes) ≡ part (slice_index_or bytes 0 0) inner
at_more room bytes inner h e g i = ap (below (2 ^ 64)) (large room bytes h e g) ∙ joined (slice_index_or bytes 0 0) (number_at (room - 1) (behind bytes)) ∙ ap (part (slice_index_or bytes 0 0)) i

-- a number of 32 bits is one of 64
pub narrowed : (r inner : Result (ℕ × List ℕ) VarintFault) → below (2 ^ 64) r ≡ inner → below (2 ^ 32) r ≡ below (2 ^ 32) inner
narrowed (Err fault) inner e = ap (below (2 ^ 32)) e
narrowed (Ok (n, rest)) inner e =
    elim (cases_lt n (2 ^ 64)) [
      | inl lt ↦ ap (below (2 ^ 32)) (sym (below_small (2 ^ 64) n rest lt) ∙ e)
      | inr le ↦ below_large (2 ^ 32) n rest (omega arith) ∙ ap (below (2 ^ 32)) (sym (below_large (2 ^ 64) n rest le) ∙ e)
    ]
