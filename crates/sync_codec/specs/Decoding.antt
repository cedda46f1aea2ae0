-- Bytes as a changeset, or the first rule that they break.
use Rattle.std.specs.Prelude.{◌≡◌, ℕ, zero, suc, ◌-◌, Bool, true, false, ◌&&◌, ◌==◌, not, List, [], ◌∷◌, ◌++◌, length, Result, Ok, Err, nat_lt, if◌then◌else◌}
use Rattle.std.specs.List.{list_any}
use Rattle.std.specs.Str.{is_utf8}
use Rattle.sync_data.specs.Payload.{Changes, payload_all}
use Rattle.sync_data.specs.declared.instr.Instr.{Instr}
use Rattle.sync_intern.specs.FirstUses.{has_string}
use Rattle.sync_codec.specs.declared.refusal.Fault.{Fault}
use Rattle.sync_codec.specs.declared.refusal.Rule.{Rule}
use Rattle.sync_codec.specs.declared.refusal.Rule.TheVariants as rules
use Rattle.sync_codec.specs.declared.refusal.BadBytes.{BadBytes}
use Rattle.sync_codec.specs.declared.refusal.DecodeRefusal.{DecodeRefusal}
use Rattle.sync_codec.specs.declared.refusal.DecodeRefusal.TheVariants as refusals
use Rattle.sync_codec.specs.Fields.{◌>>=◌, breaks, byte_in, run_in, number32_in}
use Rattle.sync_codec.specs.Reading.{Reading}
use Rattle.sync_codec.specs.Instrs.{instr_at}
use Rattle.sync_codec.specs.Spelling.{needs_second}

-- whether the version is the second
unfoldable pub version_in : List ℕ → Result (Bool × List ℕ) Fault
version_in bytes = do
  b ← byte_in bytes
  if b.0 == 1 then Ok (false, b.1) else if b.0 == 2 then Ok (true, b.1) else breaks bytes rules.Version

-- a length of at most 255
unfoldable pub string_len_in : List ℕ → Result (ℕ × List ℕ) Fault
string_len_in bytes = do
  len ← number32_in bytes
  if nat_lt 255 len.0 then breaks bytes rules.BadText else Ok len

-- those bytes as a text, which must be UTF-8
abbrev pub as_text : List ℕ → List ℕ → Result (List ℕ) Fault
as_text run field = if is_utf8 run then Ok run else breaks field rules.BadText

-- the strings with one more, which must be a new one, and the bytes behind it
unfoldable pub string_in : List (List ℕ) → List ℕ → Result (List (List ℕ) × List ℕ) Fault
string_in known bytes = do
  len ← string_len_in bytes
  run ← run_in len.0 len.1
  text ← as_text run.0 len.1
  if has_string known text then breaks len.1 rules.StringRepeat else Ok (known ++ text ∷ [], run.1)

-- a step, so many times
unfoldable pub repeated : {S : Type 0} → (S → Result S Fault) → ℕ → S → Result S Fault
repeated step zero s = Ok s
repeated step (suc n) s = step s >>= repeated step n

-- so many strings, behind those that are known
abbrev pub strings_in : ℕ → List (List ℕ) → List ℕ → Result (List (List ℕ) × List ℕ) Fault
strings_in n known bytes = repeated (λ s. string_in s.0 s.1) n (known, bytes)

-- the instructions with one more, and what is left behind it
unfoldable pub next_at : List Instr → Reading → Result (List Instr × Reading) Fault
next_at done r = do
  i ← instr_at r
  if nat_lt 4194304 (payload_all (done ++ i.0 ∷ [])) then breaks r.rest rules.TooLarge else Ok (done ++ i.0 ∷ [], i.1)

-- so many instructions, behind those that were read
abbrev pub instrs_at : ℕ → List Instr → Reading → Result (List Instr × Reading) Fault
instrs_at n done r = repeated (λ s. next_at s.0 s.1) n (done, r)

-- the rules that are seen after the last instruction
unfoldable pub ended : List ℕ → List Instr → Reading → Result (List Instr) Fault
ended bytes is r = if nat_lt r.used (length r.strings) then breaks r.rest rules.StringUnused else if r.second && not (list_any needs_second is) then breaks bytes rules.NeedlessVersion else if nat_lt 0 (length r.rest) then breaks r.rest rules.Trailing else Ok is

-- the strings, behind a version, and where the number of instructions stands
unfoldable pub table_in : List ℕ → Result (List (List ℕ) × List ℕ) Fault
table_in bytes = do
  count ← number32_in bytes
  strings_in count.0 [] count.1

unfoldable pub count_in : List ℕ → Result (ℕ × List ℕ) Fault
count_in bytes = do
  count ← number32_in bytes
  if nat_lt 65536 count.0 then breaks bytes rules.TooLarge else Ok count

-- the instructions behind the strings, which are the rest of these bytes
abbrev pub listed_in : List ℕ → Bool → List (List ℕ) → List ℕ → Result (List Instr) Fault
listed_in bytes second strings rest = do
  count ← count_in rest
  is ← instrs_at count.0 [] (record { second = second; strings = strings; used = 0; rest = count.1 })
  ended bytes is.0 is.1

unfoldable pub instrs_in : List ℕ → Result (List Instr) Fault
instrs_in bytes = do
  second ← version_in bytes
  strings ← table_in second.1
  listed_in bytes second.0 strings.0 strings.1

-- ---- the answer
abbrev pub rule_number : Rule → ℕ
rule_number rules.Truncated = 40
rule_number rules.Version = 41
rule_number rules.Varint = 42
rule_number rules.BadText = 43
rule_number rules.StringRepeat = 44
rule_number rules.StringOrder = 45
rule_number rules.StringUnused = 46
rule_number rules.NameLength = 47
rule_number rules.BadTag = 48
rule_number rules.BadPlace = 49
rule_number rules.BadTime = 50
rule_number rules.TooLarge = 51
rule_number rules.Trailing = 52
rule_number rules.NeedlessVersion = 53

-- a fault, with the place of its field
abbrev pub bad_bytes : List ℕ → Fault → BadBytes
bad_bytes bytes fault = record { offset = length bytes - fault.left; rule = rule_number fault.rule }

abbrev pub Refuses : List ℕ → DecodeRefusal → Result (List Instr) Fault → Type 0
Refuses bytes refusals.NoMemory read = Unit {0}
Refuses bytes (refusals.Bad bad) read = (fault : Fault) × (read ≡ Err fault) × (bad ≡ bad_bytes bytes fault)

-- what was answered is what reading the bytes gives, unless memory ran out
abbrev pub Answers : ℕ → List ℕ → Result Changes DecodeRefusal → Type 0
Answers ms bytes (Ok v) = (v.ms ≡ ms) × (instrs_in bytes ≡ Ok v.instrs)
Answers ms bytes (Err e) = Refuses bytes e (instrs_in bytes)

-- these instructions were read, unless memory ran out
abbrev pub IsRead : ℕ → List Instr → Result Changes DecodeRefusal → Type 0
IsRead ms is (Ok v) = v ≡ record { ms = ms; instrs = is }
IsRead ms is (Err refusals.NoMemory) = Unit {0}
IsRead ms is (Err (refusals.Bad bad)) = ⊥
