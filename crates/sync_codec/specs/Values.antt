-- Values among the instructions.
use Rattle.std.specs.Prelude.{ℕ, suc, ◌+◌, ℤ, pos, negsuc, Bool, true, false, ◌&&◌, ◌==◌, List, Option, None, Some, Result, Ok, nat_lt, not, if◌then◌else◌}
use Rattle.std.specs.Str.{is_utf8}
use Rattle.sync_data.specs.Times.{Moment}
use Rattle.sync_data.specs.declared.value.Value.{Value}
use Rattle.sync_data.specs.declared.value.Value.TheVariants as values
use Rattle.sync_codec.specs.declared.refusal.Fault.{Fault}
use Rattle.sync_codec.specs.declared.refusal.Rule.TheVariants.{BadTag, BadText, BadTime}
use Rattle.sync_codec.specs.Fields.{◌>>=◌, breaks}
use Rattle.sync_codec.specs.Reading.{Reading, byte_at, run_at, number32_at, signed32_at, signed64_at, name_at}
use Rattle.sync_codec.specs.Keys.{flag_at, key_at}

abbrev pub size : ℤ → ℕ
size (pos n) = n
size (negsuc n) = n + 1

abbrev pub have_other_signs : ℤ → ℤ → Bool
have_other_signs (pos (suc m)) (negsuc n) = true
have_other_signs (negsuc m) (pos (suc n)) = true
have_other_signs m n = false

-- the nanoseconds are less than a second, and not of the other sign
abbrev pub is_time : ℤ → ℤ → Bool
is_time secs nanos = nat_lt (size nanos) 1000000000 && not (have_other_signs secs nanos)

unfoldable pub time_at : Reading → Result (Moment × Reading) Fault
time_at r = do
  secs ← signed64_at r
  nanos ← signed32_at secs.1
  if is_time secs.0 nanos.0 then Ok (record { secs = secs.0; nanos = nanos.0 }, nanos.1) else breaks r.rest BadTime

-- a length, and so many bytes
unfoldable pub blob_at : Reading → Result (List ℕ × Reading) Fault
blob_at r = do
  len ← number32_at r
  run_at len.0 len.1

-- a length, and so many bytes of UTF-8
unfoldable pub text_at : Reading → Result (List ℕ × Reading) Fault
text_at r = do
  len ← number32_at r
  text ← run_at len.0 len.1
  if is_utf8 text.0 then Ok text else breaks len.1.rest BadText

unfoldable pub int_value_at : Reading → Result (Value × Reading) Fault
int_value_at r = do
  n ← signed64_at r
  Ok (values.Int n.0, n.1)

unfoldable pub flag_value_at : Reading → Result (Value × Reading) Fault
flag_value_at r = do
  b ← flag_at r
  Ok (values.Bool b.0, b.1)

unfoldable pub text_value_at : Reading → Result (Value × Reading) Fault
text_value_at r = do
  text ← text_at r
  Ok (values.Text text.0, text.1)

unfoldable pub bytes_value_at : Reading → Result (Value × Reading) Fault
bytes_value_at r = do
  bytes ← blob_at r
  Ok (values.Bytes bytes.0, bytes.1)

unfoldable pub time_value_at : Reading → Result (Value × Reading) Fault
time_value_at r = do
  time ← time_at r
  Ok (values.Time time.0, time.1)

unfoldable pub uuid_value_at : Reading → Result (Value × Reading) Fault
uuid_value_at r = do
  id ← run_at 16 r
  Ok (values.Uuid id.0, id.1)

unfoldable pub link_value_at : Reading → Result (Value × Reading) Fault
link_value_at r = do
  table ← name_at r
  key ← key_at table.1
  Ok (values.Link table.0 key.0, key.1)

-- the values whose tags are 4 to 7
unfoldable pub later_value_at : ℕ → Reading → List ℕ → Result (Value × Reading) Fault
later_value_at tag r field = if tag == 4 then bytes_value_at r else if tag == 5 then time_value_at r else if tag == 6 then uuid_value_at r else if tag == 7 then link_value_at r else breaks field BadTag

unfoldable pub value_at : Reading → Result (Value × Reading) Fault
value_at r = do
  tag ← byte_at r
  if tag.0 == 0 then Ok (values.Null, tag.1) else if tag.0 == 1 then int_value_at tag.1 else if tag.0 == 2 then flag_value_at tag.1 else if tag.0 == 3 then text_value_at tag.1 else later_value_at tag.0 tag.1 r.rest

-- a presence byte, and the value where it is 1
unfoldable pub binding_at : Reading → Result (Option Value × Reading) Fault
binding_at r = do
  is_bound ← flag_at r
  if is_bound.0 then (value_at is_bound.1 >>= λ v. Ok (Some v.0, v.1)) else Ok (None, is_bound.1)
