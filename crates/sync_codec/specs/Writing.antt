-- Writing fields one after the other: a string gets its number as it is used.
use Rattle.std.specs.Prelude.{◌≡◌, ℕ, List, [], ◌∷◌, ◌++◌, fold, refl}
use Rattle.sync_intern.specs.FirstUses.{place_of, with_string}
use Rattle.sync_io.specs.Varints.{varint}
use Rattle.sync_codec.specs.Spelling.{Field, byte, number, run, string}

-- the strings that were used, and the fields' bytes
pub record Written : Type 0 where
  pub strings : List (List ℕ)
  pub bytes : List ℕ

abbrev pub with_bytes : Written → List ℕ → Written
with_bytes w more = record w { bytes = w.bytes ++ more }

abbrev pub with_field : Written → Field → Written
with_field w (byte b) = with_bytes w (b ∷ [])
with_field w (number n) = with_bytes w (varint n)
with_field w (run bytes) = with_bytes w bytes
with_field w (string s) = record { strings = with_string w.strings s; bytes = w.bytes ++ varint (place_of (with_string w.strings s) s) }

abbrev pub with_fields : Written → List Field → Written
with_fields w fields = fold with_field w fields

-- fields and then fields
pub with_fields_more : (w : Written) (xs ys : List Field) → with_fields w (xs ++ ys) ≡ with_fields (with_fields w xs) ys
with_fields_more w [] ys = refl
with_fields_more w (x ∷ xs) ys = with_fields_more (with_field w x) xs ys
