-- A test of UTF-8 says what the type of texts says.
use Rattle.std.proofs.Common.{◌≡◌, ℕ, Bool, true, false, List, refl}
use Rattle.std.specs.Str.{IsUtf8, is_utf8}
use Rattle.std.proofs.lemmas.Str.{IsUtf8-from_is_utf8, is_utf8-from_IsUtf8}

negated : (b : Bool) → (b ≡ true → ⊥) → b ≡ false
negated true h = absurd (h refl)
negated false h = refl

pub utf8_is : (bytes : List ℕ) → IsUtf8 bytes → is_utf8 bytes ≡ true
utf8_is bytes h = is_utf8-from_IsUtf8 bytes h

pub utf8_not : (bytes : List ℕ) → ¬ (IsUtf8 bytes) → is_utf8 bytes ≡ false
utf8_not bytes h = negated _ (λ e. h (IsUtf8-from_is_utf8 bytes e))
