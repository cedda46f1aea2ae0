-- How the tables that a client names are read.
use Rattle.std.specs.Prelude.{◌≡◌, ℕ, ◌&&◌, Bool, List, length, nat_lt, Option, None, Some, Result, Ok, Err}
use Rattle.std.specs.Str.{is_utf8}
use Rattle.sync_io.specs.Formats.{body_in, only_in, listed_in}
use Rattle.sync_subset.specs.Tables.{Tables, rises}
use Rattle.subset_bytes.specs.declared.refusal.TablesRefusal.{TablesRefusal}
use Rattle.subset_bytes.specs.declared.refusal.TablesRefusal.TheVariants as refusals

-- What a function returned, seen by view, is what reading gives, unless memory ran out.
abbrev pub Fails : {Y : Type 0} → TablesRefusal → Option Y → Type 0
Fails refusals.NoMemory read = Unit {0}
Fails refusals.BadTables read = read ≡ None

abbrev pub Gives : {X Y : Type 0} → (X → Y) → Result X TablesRefusal → Option Y → Type 0
Gives view (Ok x) read = read ≡ Some (view x)
Gives view (Err refusal) read = Fails refusal read

-- 1 to 63 bytes
abbrev pub is_short : List ℕ → Bool
is_short name = nat_lt 0 (length name) && nat_lt (length name) 64

-- a name
abbrev pub name_in : List ℕ → Option (List ℕ × List ℕ)
name_in bytes = only_in is_short (only_in is_utf8 body_in) bytes

-- 1 name or more, in strictly rising order
abbrev pub are_in_order : Tables → Bool
are_in_order tables = nat_lt 0 (length tables) && rises tables

-- 1 to 64 names
abbrev pub tables_in : List ℕ → Option (Tables × List ℕ)
tables_in bytes = only_in are_in_order (listed_in 64 name_in) bytes
