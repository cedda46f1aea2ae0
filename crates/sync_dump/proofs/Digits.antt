-- The digits of an integer.
use Rattle.std.proofs.Common.{◌≡◌, ℤ, pos, negsuc, refl}
use Rattle.std.specs.Fmt.{signed_decimal}
use Rattle.serde_json.specs.Find.{of_integer}
use Rattle.serde_json.specs.Written.{number_text}

pub digits_of : (n : ℤ) → number_text (of_integer n) ≡ signed_decimal n
digits_of (pos n) = refl
digits_of (negsuc n) = refl
