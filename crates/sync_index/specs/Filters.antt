-- A mark for each byte: which keys a filter lets pass.
use Rattle.std.specs.Prelude.{◌≡◌, ℕ, ◌-◌, ◌%◌, Bool, true, false, List, length, slice_index, slice_index_or}
use Rattle.std.specs.FinMap as map
use Rattle.std.specs.FinSet as set
use Rattle.std.specs.Int.{w64, cast_unsigned}
use Rattle.sync_data.specs.Orders.{name_cmp, key_cmp}
use Rattle.sync_data.specs.declared.key.Key.{Key}
use Rattle.sync_data.specs.declared.key.Key.TheVariants as keys
use Rattle.sync_base.specs.Effects.{ObjectName}
use Rattle.sync_index.specs.Touched.{holds}

-- the last byte, or 0 where there is none
abbrev pub last_byte : List ℕ → ℕ
last_byte bytes = slice_index bytes (length bytes - 1)

abbrev pub spot_of : Key → ℕ
spot_of (keys.Int number) = cast_unsigned w64 number % 256
spot_of (keys.Text text) = last_byte text
spot_of (keys.Uuid id) = slice_index id 15

abbrev pub is_marked : List Bool → ℕ → Bool
is_marked marks spot = slice_index_or marks spot false

abbrev pub may_hold : List Bool → Key → Bool
may_hold marks key = is_marked marks (spot_of key)

-- the key of each object that is held passes
abbrev pub PassesAll : List Bool → map.FinMap name_cmp (set.FinSet key_cmp) → Type 0
PassesAll marks objects = (o : ObjectName) → holds objects o ≡ true → may_hold marks o.1 ≡ true
