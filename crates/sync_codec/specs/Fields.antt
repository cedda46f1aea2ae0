-- Fields of a changeset's bytes: single bytes, numbers, and runs of bytes of a known length. A field is read from the front,
-- and gives its value and the bytes behind it, or the first rule that it breaks.
use Rattle.std.specs.Prelude.{◌≡◌, ℕ, List, [], ◌∷◌, length, take, drop, Result, Ok, Err, nat_lt, ℤ, if◌then◌else◌}
use Rattle.sync_io.specs.Varints.{varint32_at, varint64_at, unzigzag}
use Rattle.sync_io.specs.declared.varint.VarintFault.{VarintFault}
use Rattle.sync_io.specs.declared.varint.VarintFault.TheVariants as numbers
use Rattle.sync_codec.specs.declared.refusal.Rule.{Rule}
use Rattle.sync_codec.specs.declared.refusal.Rule.TheVariants.{Truncated, Varint}
use Rattle.sync_codec.specs.declared.refusal.Fault.{Fault}
use Rattle.sync_codec.specs.declared.refusal.ReadRefusal.{ReadRefusal}
use Rattle.sync_codec.specs.declared.refusal.ReadRefusal.TheVariants as refusals

infixl 10 ◌>>=◌
abbrev pub ◌>>=◌ : {A B : Type 0} → Result A Fault → (A → Result B Fault) → Result B Fault
(Ok x) >>= f = f x
(Err fault) >>= f = Err fault

-- what a function returned, seen by view, is what reading gives, unless memory ran out
abbrev pub Fails : {Y : Type 0} → ReadRefusal → Result Y Fault → Type 0
Fails refusals.NoMemory read = Unit {0}
Fails (refusals.Bad fault) read = read ≡ Err fault

abbrev pub Gives : {X Y : Type 0} → (X → Y) → Result X ReadRefusal → Result Y Fault → Type 0
Gives view (Ok x) read = read ≡ Ok (view x)
Gives view (Err e) read = Fails e read

-- that rule, broken by the field that these bytes begin with
abbrev pub breaks : {A : Type 0} → List ℕ → Rule → Result A Fault
breaks field rule = Err (record { left = length field; rule = rule })

abbrev pub byte_in : List ℕ → Result (ℕ × List ℕ) Fault
byte_in [] = breaks [] Truncated
byte_in (b ∷ rest) = Ok (b, rest)

abbrev pub run_in : ℕ → List ℕ → Result (List ℕ × List ℕ) Fault
run_in n bytes = if nat_lt (length bytes) n then breaks bytes Truncated else Ok (take n bytes, drop n bytes)

abbrev pub numbered : List ℕ → Result (ℕ × List ℕ) VarintFault → Result (ℕ × List ℕ) Fault
numbered field (Ok x) = Ok x
numbered field (Err numbers.Truncated) = breaks field Truncated
numbered field (Err numbers.Bad) = breaks field Varint

abbrev pub number32_in : List ℕ → Result (ℕ × List ℕ) Fault
number32_in bytes = numbered bytes (varint32_at bytes)

abbrev pub number64_in : List ℕ → Result (ℕ × List ℕ) Fault
number64_in bytes = numbered bytes (varint64_at bytes)

abbrev pub signed32_in : List ℕ → Result (ℤ × List ℕ) Fault
signed32_in bytes = do
  n ← number32_in bytes
  Ok (unzigzag n.0, n.1)

abbrev pub signed64_in : List ℕ → Result (ℤ × List ℕ) Fault
signed64_in bytes = do
  n ← number64_in bytes
  Ok (unzigzag n.0, n.1)
