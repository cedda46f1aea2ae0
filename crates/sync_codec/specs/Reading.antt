-- Where reading stands among the instructions, and the fields that name strings.
use Rattle.std.specs.Prelude.{ℕ, ◌+◌, Bool, ◌&&◌, ◌==◌, List, length, slice_get, Option, Some, None, Result, Ok, Err, nat_lt, ℤ, if◌then◌else◌}
use Rattle.sync_codec.specs.declared.refusal.Fault.{Fault}
use Rattle.sync_codec.specs.declared.refusal.Rule.TheVariants.{StringOrder, NameLength}
use Rattle.sync_codec.specs.Fields.{◌>>=◌, breaks, byte_in, run_in, number32_in, signed32_in, signed64_in}

-- whether the first byte was 2, the strings, how many of them were used, and the bytes that are left
pub record Reading : Type 0 where
  pub second : Bool
  pub strings : List (List ℕ)
  pub used : ℕ
  pub rest : List ℕ

-- the same, behind the field
abbrev pub behind : {A : Type 0} → Reading → Result (A × List ℕ) Fault → Result (A × Reading) Fault
behind r (Ok x) = Ok (x.0, record r { rest = x.1 })
behind r (Err fault) = Err fault

abbrev pub byte_at : Reading → Result (ℕ × Reading) Fault
byte_at r = behind r (byte_in r.rest)

abbrev pub run_at : ℕ → Reading → Result (List ℕ × Reading) Fault
run_at n r = behind r (run_in n r.rest)

abbrev pub number32_at : Reading → Result (ℕ × Reading) Fault
number32_at r = behind r (number32_in r.rest)

abbrev pub signed32_at : Reading → Result (ℤ × Reading) Fault
signed32_at r = behind r (signed32_in r.rest)

abbrev pub signed64_at : Reading → Result (ℤ × Reading) Fault
signed64_at r = behind r (signed64_in r.rest)

-- the string of that number, where there is one
abbrev pub found : List ℕ → ℕ → Reading → Option (List ℕ) → Result (List ℕ × Reading) Fault
found field n r None = breaks field StringOrder
found field n r (Some s) = Ok (s, record r { used = if n == r.used then n + 1 else r.used })

-- a string: one that was used before, or the first that wasn't
unfoldable pub string_at : Reading → Result (List ℕ × Reading) Fault
string_at r = do
  n ← number32_at r
  if nat_lt r.used n.0 then breaks r.rest StringOrder else found r.rest n.0 n.1 (slice_get r.strings n.0)

abbrev pub is_name : List ℕ → Bool
is_name s = nat_lt 0 (length s) && nat_lt (length s) 64

-- a name: a string of 1 to 63 bytes
unfoldable pub name_at : Reading → Result (List ℕ × Reading) Fault
name_at r = do
  s ← string_at r
  if is_name s.0 then Ok s else breaks r.rest NameLength
