-- Lemmas: tests that say what the readers' types say, and what reading and spelling have to do with each other.
pub mod Runs
pub mod Fields
pub mod Keys
pub mod Columns
pub mod Values
pub mod Instrs
pub mod Tables
pub mod Uses
pub mod Whole
pub mod Few
pub mod Back
pub mod Answers
pub mod Strings
use Rattle.std.proofs.Common.{◌≡◌, ℕ, zero, suc, ◌+◌, ◌<◌, Bool, true, false, List, ℤ, pos, negsuc, refl, arith}
use Rattle.std.specs.Prelude.{◌≤ℤ◌, ◌&&◌}
use Rattle.std.specs.Str.{IsUtf8, is_utf8}
use Rattle.std.proofs.lemmas.Bool.{lt-ltb, ltb-true}
use Rattle.std.proofs.lemmas.Int.{ints}
use Rattle.std.proofs.lemmas.Str.{IsUtf8-from_is_utf8, is_utf8-from_IsUtf8}
use Rattle.sync_data.specs.Times.{IsTime}
use Rattle.sync_codec.specs.Values.{is_time}

both : (a b : Bool) → a ≡ true → b ≡ true → (a && b) ≡ true
both true b h k = k
both false b h k = h

first : (a b : Bool) → (a && b) ≡ true → a ≡ true
first true b h = refl
first false b h = h

negated : (b : Bool) → (b ≡ true → ⊥) → b ≡ false
negated true h = absurd (h refl)
negated false h = refl

never : (b : Bool) → (b && false) ≡ true → ⊥
never true e = cc
never false e = cc

pub is_time_from : (secs nanos : ℤ) → IsTime secs nanos → is_time secs nanos ≡ true
is_time_from (pos zero) (pos n) h = both _ _ (lt-ltb _ _ (omega (arith, ints, h.high))) refl
is_time_from (pos zero) (negsuc n) h = both _ _ (lt-ltb _ _ (omega (arith, ints, h.low))) refl
is_time_from (pos (suc m)) (pos n) h = both _ _ (lt-ltb _ _ (omega (arith, ints, h.high))) refl
is_time_from (pos (suc m)) (negsuc n) h = let k : pos 0 ≤ℤ negsuc n = h.after (omega (arith, ints)) in absurd (omega (arith, ints, k))
is_time_from (negsuc m) (pos zero) h = refl
is_time_from (negsuc m) (pos (suc n)) h = let k : pos (suc n) ≤ℤ pos 0 = h.before (omega (arith, ints)) in absurd (omega (arith, ints, k))
is_time_from (negsuc m) (negsuc n) h = both _ _ (lt-ltb _ _ (omega (arith, ints, h.low))) refl

time_from : (secs nanos : ℤ) → is_time secs nanos ≡ true → IsTime secs nanos
time_from (pos zero) (pos n) e = let lt : n < 1000000000 = ltb-true n 1000000000 (first _ _ e) in record { low = omega (arith, ints); high = omega (arith, ints, lt); after = λ h. omega (arith, ints); before = λ h. absurd (omega (arith, ints, h)) }
time_from (pos zero) (negsuc n) e = let lt : n + 1 < 1000000000 = ltb-true (n + 1) 1000000000 (first _ _ e) in record { low = omega (arith, ints, lt); high = omega (arith, ints); after = λ h. absurd (omega (arith, ints, h)); before = λ h. omega (arith, ints) }
time_from (pos (suc m)) (pos n) e = let lt : n < 1000000000 = ltb-true n 1000000000 (first _ _ e) in record { low = omega (arith, ints); high = omega (arith, ints, lt); after = λ h. omega (arith, ints); before = λ h. absurd (omega (arith, ints, h)) }
time_from (pos (suc m)) (negsuc n) e = absurd (never _ e)
time_from (negsuc m) (pos zero) e = record { low = omega (arith, ints); high = omega (arith, ints); after = λ h. omega (arith, ints); before = λ h. omega (arith, ints) }
time_from (negsuc m) (pos (suc n)) e = absurd (never _ e)
time_from (negsuc m) (negsuc n) e = let lt : n + 1 < 1000000000 = ltb-true (n + 1) 1000000000 (first _ _ e) in record { low = omega (arith, ints, lt); high = omega (arith, ints); after = λ h. absurd (omega (arith, ints, h)); before = λ h. omega (arith, ints) }

pub is_time_not : (secs nanos : ℤ) → ¬ (IsTime secs nanos) → is_time secs nanos ≡ false
is_time_not secs nanos h = negated _ (λ e. h (time_from secs nanos e))

pub utf8_is : (bytes : List ℕ) → IsUtf8 bytes → is_utf8 bytes ≡ true
utf8_is bytes h = is_utf8-from_IsUtf8 bytes h

pub utf8_not : (bytes : List ℕ) → ¬ (IsUtf8 bytes) → is_utf8 bytes ≡ false
utf8_not bytes h = negated _ (λ e. h (IsUtf8-from_is_utf8 bytes e))
