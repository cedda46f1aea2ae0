-- Whether bytes are text, as a test and as a fact.
use Rattle.std.proofs.Common.{◌≡◌, ℕ, List, Bool, true, false, None, refl}
use Rattle.std.proofs.lemmas.Str.{IsUtf8-from_is_utf8, is_utf8-from_IsUtf8}
use Rattle.std.specs.Str.{IsUtf8, is_utf8}
use Rattle.serde_json.specs.Read.{read}
use Rattle.sync_edits.specs.Lines.{line_data}

not_text : (b : Bool) (bytes : List ℕ) → is_utf8 bytes ≡ b → ¬ (IsUtf8 bytes) → b ≡ false
not_text true bytes is not = absurd (not (IsUtf8-from_is_utf8 bytes is))
not_text false bytes is not = refl

-- bytes that are no text have no data
pub no_text : (line : List ℕ) → ¬ (IsUtf8 line) → line_data line ≡ None
unfolding line_data
no_text line not = rw (not_text _ line refl not) refl

-- the data of a text is what JSON's reader reads
pub of_text : (line : List ℕ) → IsUtf8 line → line_data line ≡ read line
unfolding line_data
of_text line text = rw (is_utf8-from_IsUtf8 line text) refl
