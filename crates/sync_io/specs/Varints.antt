-- Numbers as bytes of seven bits each, the lowest first: each byte but the last is 128 greater. A number has one spelling, the shortest.
use Rattle.std.specs.Prelude.{ℕ, zero, suc, ◌+◌, ◌*◌, ◌/◌, ◌%◌, ◌^◌, List, [], ◌∷◌, nat_lt, ◌==◌, if◌then◌else◌, Result, Ok, Err, ℤ, pos, negsuc}
use Rattle.sync_io.specs.declared.varint.VarintFault.{VarintFault}
use Rattle.sync_io.specs.declared.varint.VarintFault.TheVariants.{Truncated, Bad}

-- in not many more bytes than so many
unfoldable pub spelled : ℕ → ℕ → List ℕ
spelled zero n = n ∷ []
spelled (suc more) n = if nat_lt n 128 then n ∷ [] else (128 + n % 128) ∷ spelled more (n / 128)

unfoldable pub varint : ℕ → List ℕ
varint n = spelled n n

-- a byte from 128 on, before a higher part and what follows; a higher part of 0 is needless
abbrev pub before : ℕ → Result (ℕ × List ℕ) VarintFault → Result (ℕ × List ℕ) VarintFault
before b (Ok (zero, rest)) = Err Bad
before b (Ok (suc n, rest)) = Ok (b % 128 + 128 * suc n, rest)
before b (Err fault) = Err fault

-- the number at the front, of at most so many bytes, and the bytes behind it
unfoldable pub number_at : ℕ → List ℕ → Result (ℕ × List ℕ) VarintFault
number_at zero bytes = Err Bad
number_at (suc room) [] = Err Truncated
number_at (suc room) (b ∷ bytes) = if nat_lt b 128 then Ok (b, bytes) else before b (number_at room bytes)

-- a number that isn't below the limit is none
abbrev pub below : ℕ → Result (ℕ × List ℕ) VarintFault → Result (ℕ × List ℕ) VarintFault
below limit (Ok x) = if nat_lt x.0 limit then Ok x else Err Bad
below limit (Err fault) = Err fault

-- the number of 32 bits at the front, or the first fault
unfoldable pub varint32_at : List ℕ → Result (ℕ × List ℕ) VarintFault
varint32_at bytes = below (2 ^ 32) (number_at 5 bytes)

-- the number of 64 bits at the front, or the first fault
unfoldable pub varint64_at : List ℕ → Result (ℕ × List ℕ) VarintFault
varint64_at bytes = below (2 ^ 64) (number_at 10 bytes)

-- a number with a sign as one without: 0, -1, 1, -2, 2 in order
abbrev pub zigzag : ℤ → ℕ
zigzag (pos n) = 2 * n
zigzag (negsuc n) = 2 * n + 1

abbrev pub unzigzag : ℕ → ℤ
unzigzag n = if n % 2 == 0 then pos (n / 2) else negsuc (n / 2)
