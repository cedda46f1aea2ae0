-- An ordered map as an index of strings: it tells the place of each.
use Rattle.std.specs.Prelude.{◌≡◌, ℕ, List}
use Rattle.std.specs.BTreeMap.{BTreeMap, get_by_text}
use Rattle.std.specs.declared.string.String.{String}
use Rattle.sync_intern.specs.FirstUses.{place_in}

-- what it finds of any text is its place among the strings
abbrev pub Indexes : {A : Type 0} → BTreeMap (String A) ℕ → List (List ℕ) → Type 0
Indexes index strings = (text : List ℕ) → get_by_text index text ≡ place_in strings text
