-- How values are spelled as bytes and read again, and how formats are joined.
use Rattle.std.specs.Prelude.{ℕ, zero, suc, Bool, List, [], ◌∷◌, ◌++◌, length, take, drop, nat_lt, nat_le, ◌==◌, if◌then◌else◌, Option, Some, None, Result, Ok, Err}
use Rattle.std.specs.List.{flat_map}
use Rattle.sync_io.specs.declared.varint.VarintFault.{VarintFault}
use Rattle.sync_io.specs.Varints.{varint, varint32_at, varint64_at}

-- what is read, without the fault
abbrev pub found : {A : Type 0} → Result A VarintFault → Option A
found (Ok x) = Some x
found (Err fault) = None

infixl 10 ◌>>=◌
abbrev pub ◌>>=◌ : {A B : Type 0} → Option A → (A → Option B) → Option B
(Some x) >>= f = f x
None >>= f = None

-- ---- single fields: a reader answers the value and the bytes behind it

-- a number of 32 bits, and one of 64
abbrev pub number_in : List ℕ → Option (ℕ × List ℕ)
number_in bytes = found (varint32_at bytes)

abbrev pub wide_in : List ℕ → Option (ℕ × List ℕ)
wide_in bytes = found (varint64_at bytes)

-- so many bytes
abbrev pub bytes_in : ℕ → List ℕ → Option (List ℕ × List ℕ)
bytes_in count bytes = if nat_lt (length bytes) count then None else Some (take count bytes, drop count bytes)

-- a length and so many bytes
abbrev pub body : List ℕ → List ℕ
body bytes = varint (length bytes) ++ bytes

abbrev pub body_in : List ℕ → Option (List ℕ × List ℕ)
body_in bytes = number_in bytes >>= λ n. bytes_in n.0 n.1

-- ---- joined fields

-- one value, and behind it another
abbrev pub both : {A B : Type 0} → (A → List ℕ) → (B → List ℕ) → A × B → List ℕ
both a b x = a x.0 ++ b x.1

abbrev pub both_in : {A B : Type 0} → (List ℕ → Option (A × List ℕ)) → (List ℕ → Option (B × List ℕ)) → List ℕ → Option ((A × B) × List ℕ)
both_in a b bytes = a bytes >>= λ x. b x.1 >>= λ y. Some ((x.0, y.0), y.1)

-- values that pass a test
abbrev pub only_in : {A : Type 0} → (A → Bool) → (List ℕ → Option (A × List ℕ)) → List ℕ → Option (A × List ℕ)
only_in test a bytes = a bytes >>= λ x. if test x.0 then Some x else None

-- values under another form
abbrev pub seen_in : {A B : Type 0} → (A → B) → (List ℕ → Option (A × List ℕ)) → List ℕ → Option (B × List ℕ)
seen_in view a bytes = a bytes >>= λ x. Some (view x.0, x.1)

-- so many values
unfoldable pub many_in : {A : Type 0} → (List ℕ → Option (A × List ℕ)) → ℕ → List ℕ → Option (List A × List ℕ)
many_in a zero bytes = Some ([], bytes)
many_in a (suc n) bytes = a bytes >>= λ x. many_in a n x.1 >>= λ xs. Some (x.0 ∷ xs.0, xs.1)

-- a count, which is at most so much, and so many values
abbrev pub listed : {A : Type 0} → (A → List ℕ) → List A → List ℕ
listed a xs = varint (length xs) ++ flat_map a xs

abbrev pub listed_in : {A : Type 0} → ℕ → (List ℕ → Option (A × List ℕ)) → List ℕ → Option (List A × List ℕ)
listed_in most a bytes = number_in bytes >>= λ n. if nat_le n.0 most then many_in a n.0 n.1 else None

-- all of the bytes
abbrev pub ended : {A : Type 0} → A → List ℕ → Option A
ended x [] = Some x
ended x (b ∷ bytes) = None

abbrev pub all_in : {A : Type 0} → (List ℕ → Option (A × List ℕ)) → List ℕ → Option A
all_in a bytes = a bytes >>= λ x. ended x.0 x.1

-- ---- values of several forms

-- the fields behind a tag, where a table has each tag with its reader
abbrev pub tagged_in : {A : Type 0} → List (ℕ × (List ℕ → Option (A × List ℕ))) → ℕ → List ℕ → Option (A × List ℕ)
tagged_in [] tag bytes = None
tagged_in (form ∷ forms) tag bytes = if tag == form.0 then form.1 bytes else tagged_in forms tag bytes

-- a tag, and the fields behind it
abbrev pub tag_in : {A : Type 0} → List (ℕ × (List ℕ → Option (A × List ℕ))) → List ℕ → Option (A × List ℕ)
tag_in forms [] = None
tag_in forms (tag ∷ bytes) = tagged_in forms tag bytes
