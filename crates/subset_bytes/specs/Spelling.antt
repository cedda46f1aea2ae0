-- The one spelling of the tables that a client names.
use Rattle.std.specs.Prelude.{ℕ, ◌<◌, ◌≤◌, List, length, All}
use Rattle.std.specs.Str.{IsUtf8}
use Rattle.sync_io.specs.Formats.{body, listed}
use Rattle.sync_subset.specs.Tables.{Tables, IsSubset}

-- a count, and each name as its length and its bytes
abbrev pub tables_spelling : Tables → List ℕ
tables_spelling tables = listed body tables

-- a name has 1 to 63 bytes of UTF-8
pub record IsTableName (name : List ℕ) : Type 0 where
  pub some : 0 < length name
  pub few : length name ≤ 63
  pub text : IsUtf8 name

-- 1 to 64 names, in strictly rising order
abbrev pub AreTables : Tables → Type 0
AreTables tables = IsSubset tables × All IsTableName tables
