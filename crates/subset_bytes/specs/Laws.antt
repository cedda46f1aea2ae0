-- What is read is a spelling, and a spelling is read, whatever follows it.
use Rattle.std.proofs.Common.{◌≡◌, ℕ, ◌<◌, ◌≤◌, ◌^◌, Bool, true, false, ltb, List, [], ◌∷◌, length, refl, arith}
use Rattle.std.specs.Prelude.{◌&&◌}
use Rattle.std.specs.Str.{is_utf8}
use Rattle.std.specs.List.{AllByRecursion}
use Rattle.std.proofs.lemmas.Bool.{lt-ltb, ltb-true}
use Rattle.std.proofs.lemmas.Str.{IsUtf8-from_is_utf8, is_utf8-from_IsUtf8}
use Rattle.std.proofs.lemmas.List.Elements.{recursion_from_All, All-from_recursion}
use Rattle.sync_io.specs.Formats.{body}
use Rattle.sync_io.specs.FormatLaws.{IsFormat, body_is, only_is, listed_is}
use Rattle.sync_subset.specs.Tables.{Tables, rises}
use Rattle.subset_bytes.specs.Spelling.{IsTableName, AreTables, tables_spelling}
use Rattle.subset_bytes.specs.Reading.{is_short, name_in, are_in_order, tables_in}

abbrev pub FitsName : List ℕ → Type 0
FitsName name = ((length name < 2 ^ 32) × (is_utf8 name ≡ true)) × (is_short name ≡ true)

abbrev pub FitsTables : Tables → Type 0
FitsTables tables = ((length tables < 2 ^ 32) × (length tables ≤ 64) × AllByRecursion FitsName tables) × (are_in_order tables ≡ true)

pub name_is : IsFormat body name_in FitsName
name_is = only_is (only_is body_is is_utf8) is_short

pub tables_are : IsFormat tables_spelling tables_in FitsTables
tables_are = only_is (listed_is name_is 64) are_in_order

-- ---- what fits is what the types hold

both : (a b : Bool) → a ≡ true → b ≡ true → (a && b) ≡ true
both true b h k = k
both false b h k = h

first : (a b : Bool) → (a && b) ≡ true → a ≡ true
first true b h = refl
first false b h = h

second : (a b : Bool) → (a && b) ≡ true → b ≡ true
second true b h = h
second false b h = absurd cc

name_fits : (name : List ℕ) → IsTableName name → FitsName name
name_fits name is =
    let low : 0 < length name = is.some in
    let high : length name ≤ 63 = is.few in
    ((omega arith, is_utf8-from_IsUtf8 name is.text), both (ltb 0 (length name)) (ltb (length name) 64) (lt-ltb _ _ low) (lt-ltb _ _ (omega arith)))

name_whole : (name : List ℕ) → FitsName name → IsTableName name
name_whole name f =
    let high : length name < 64 = ltb-true (length name) 64 (second (ltb 0 (length name)) (ltb (length name) 64) f.1) in
    record {
      some = ltb-true 0 (length name) (first (ltb 0 (length name)) (ltb (length name) 64) f.1);
      few = omega arith;
      text = IsUtf8-from_is_utf8 name f.0.1;
    }

names_fit : (names : Tables) → AllByRecursion IsTableName names → AllByRecursion FitsName names
names_fit [] all = tt
names_fit (name ∷ names) all = (name_fits name all.0, names_fit names all.1)

names_whole : (names : Tables) → AllByRecursion FitsName names → AllByRecursion IsTableName names
names_whole [] all = tt
names_whole (name ∷ names) all = (name_whole name all.0, names_whole names all.1)

pub tables_fit : (tables : Tables) → AreTables tables → FitsTables tables
tables_fit tables are =
    let low : 0 < length tables = are.0.0 in
    let high : length tables ≤ 64 = are.0.1 in
    ((omega arith, high, names_fit tables (recursion_from_All IsTableName tables are.1)), both (ltb 0 (length tables)) (rises tables) (lt-ltb _ _ low) are.0.2)

pub tables_whole : (tables : Tables) → FitsTables tables → AreTables tables
tables_whole tables f =
    ((ltb-true 0 (length tables) (first (ltb 0 (length tables)) (rises tables) f.1), f.0.1, second (ltb 0 (length tables)) (rises tables) f.1), All-from_recursion IsTableName tables (names_whole tables f.0.2))
