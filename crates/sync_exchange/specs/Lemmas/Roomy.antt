-- A list within the limits of a changeset is spelled in at most 16 MiB: each instruction takes some 80 bytes at most beside those that
-- it carries.
use Rattle.std.proofs.Common.{◌≡◌, ℕ, zero, suc, ◌+◌, ◌*◌, ◌/◌, ◌^◌, ◌<◌, ◌≤◌, true, false, cond, List, [], ◌∷◌, ◌++◌, length, Option, Some, None, refl, sym, ap, ◌∙◌, subst, arith, inl, inr}
use Rattle.std.specs.Prelude.{not}
use Rattle.std.specs.List.{flat_map, AllByRecursion}
use Rattle.std.specs.Str.{bytes_eq}
use Rattle.std.proofs.Math.Nat.{pow-succ'}
use Rattle.std.proofs.lemmas.Bool.{cases_lt}
use Rattle.std.proofs.lemmas.List.{length-append}
use Rattle.std.proofs.lemmas.List.Sums.{prefix_len-le-length, sum_by-cons}
use Rattle.sync_data.specs.Spot.{Spot}
use Rattle.sync_data.specs.Payload.{payload, payload_all, key_payload, value_payload, binding_payload_of, kind_payload, cell_payload}
use Rattle.sync_data.specs.declared.key.Key.{Key}
use Rattle.sync_data.specs.declared.key.Key.TheVariants as keys
use Rattle.sync_data.specs.declared.value.Value.{Value}
use Rattle.sync_data.specs.declared.value.Value.TheVariants as values
use Rattle.sync_data.specs.declared.column.Kind.{Kind}
use Rattle.sync_data.specs.declared.column.Kind.TheVariants as kinds
use Rattle.sync_data.specs.declared.instr.CellName.{CellName}
use Rattle.sync_data.specs.declared.instr.Instr.{Instr}
use Rattle.sync_data.specs.declared.instr.Instr.TheVariants as instrs
use Rattle.sync_intern.specs.FirstUses.{has_string, place_of, with_string, with_strings}
use Rattle.sync_io.specs.Varints.{varint, zigzag}
use Rattle.sync_io.specs.VarintLaws.{varint_small, varint_large}
use Rattle.sync_codec.specs.Spelling.{Field, byte, number, run, string, key_fields, value_fields, binding_fields, target_fields, cell_fields, spot_fields, instr_fields, strings_in_field, strings_of, field_bytes, string_bytes, table_bytes, spelling}
use Rattle.sync_codec.specs.Valid.{IsKey, IsValue, IsBinding, IsCell, IsInstr, IsString, AreInstrs}
use Rattle.sync_codec.specs.Lemmas.Few.{strings_few}
use Rattle.sync_model.specs.Progress.{IsRoomy}
use Rattle.sync_exchange.specs.Profile.{the_profile}
use Rattle.sync_exchange.specs.Whole.{strings_in}
use Rattle.sync_exchange.specs.Lemmas.Whole.{IsWhole}
use Rattle.sync_exchange.specs.Lemmas.Strings.{all_append, all_front, all_back, whole_each}
use Rattle.sync_exchange.specs.Lemmas.Lawful.{small_instrs}

-- ---- a number takes a byte for each seven bits
varint_short : (room n : ℕ) → n < 128 ^ suc room → length (varint n) ≤ suc room
varint_short zero n h = rw (varint_small n (omega arith)) (omega arith)
varint_short (suc room) n h =
    elim (cases_lt n 128) [
      | inl lt ↦ rw (varint_small n lt) (omega arith)
      | inr le ↦
          let high : n / 128 < 128 ^ suc room = omega (arith, pow-succ' 128 (suc room)) in
          let rest = varint_short room (n / 128) high in
          rw (varint_large n le) (omega (arith, rest))
    ]

short32 : (n : ℕ) → n < 2 ^ 32 → length (varint n) ≤ 5
short32 n h = varint_short 4 n (omega arith)

short64 : (n : ℕ) → n < 2 ^ 64 → length (varint n) ≤ 10
short64 n h = varint_short 9 n (omega arith)

-- ---- a field: its bytes, and those of its string in the table

-- what a string takes in the table
abbrev size : List ℕ → ℕ
size s = length (string_bytes s)

abbrev sizes : List (List ℕ) → ℕ
sizes [] = 0
sizes (s ∷ ss) = size s + sizes ss

sizes_append : (ss ts : List (List ℕ)) → sizes (ss ++ ts) ≡ sizes ss + sizes ts
sizes_append [] ts = omega arith
sizes_append (s ∷ ss) ts = let e : size s + sizes (ss ++ ts) ≡ size s + sizes ss + sizes ts = omega (arith, sizes_append ss ts) in e

abbrev cost : Field → ℕ
cost (byte b) = 1
cost (number n) = 10
cost (run bytes) = length bytes
cost (string s) = 7 + length s

abbrev costs : List Field → ℕ
costs [] = 0
costs (f ∷ fs) = cost f + costs fs

costs_append : (fs gs : List Field) → costs (fs ++ gs) ≡ costs fs + costs gs
costs_append [] gs = omega arith
costs_append (f ∷ fs) gs = let e : cost f + costs (fs ++ gs) ≡ cost f + costs fs + costs gs = omega (arith, costs_append fs gs) in e

abbrev FitsNumber : Field → Type 0
FitsNumber (byte b) = Unit {0}
FitsNumber (number n) = n < 2 ^ 64
FitsNumber (run bytes) = Unit {0}
FitsNumber (string s) = Unit {0}

place_within : (strings : List (List ℕ)) (s : List ℕ) → place_of strings s ≤ length strings
place_within strings s = prefix_len-le-length (λ t. not (bytes_eq s t)) strings

size_short : (s : List ℕ) → length s ≤ 255 → size s ≤ 2 + length s
size_short s h = omega (arith, varint_short 1 (length s) (omega arith), length-append (varint (length s)) s)

field_short : (strings : List (List ℕ)) → length strings < 2 ^ 32 → (f : Field) → FitsNumber f → AllByRecursion IsString (strings_in_field f) → length (field_bytes strings f) + sizes (strings_in_field f) ≤ cost f
field_short strings few (byte b) n h = omega arith
field_short strings few (number k) n h = let e : length (varint k) + 0 ≤ 10 = omega (arith, short64 k n) in e
field_short strings few (run bytes) n h = let e : length bytes + 0 ≤ length bytes = omega arith in e
field_short strings few (string s) n h =
    let place = place_within strings s in
    let e : length (varint (place_of strings s)) + (size s + 0) ≤ 7 + length s = omega (arith, short32 (place_of strings s) (omega (arith, place)), size_short s h.0.0) in
    e

fields_short : (strings : List (List ℕ)) → length strings < 2 ^ 32 → (fs : List Field) → AllByRecursion FitsNumber fs → AllByRecursion IsString (flat_map strings_in_field fs) → length (flat_map (field_bytes strings) fs) + sizes (flat_map strings_in_field fs) ≤ costs fs
fields_short strings few [] n h = omega arith
fields_short strings few (f ∷ fs) n h =
    let e : length (field_bytes strings f ++ flat_map (field_bytes strings) fs) + sizes (strings_in_field f ++ flat_map strings_in_field fs) ≤ cost f + costs fs = omega (
      arith,
      field_short strings few f n.0 (all_front IsString (strings_in_field f) (flat_map strings_in_field fs) h),
      fields_short strings few fs n.1 (all_back IsString (strings_in_field f) (flat_map strings_in_field fs) h),
      length-append (field_bytes strings f) (flat_map (field_bytes strings) fs),
      sizes_append (strings_in_field f) (flat_map strings_in_field fs),
    ) in
    e

-- ---- the table: a string stands there once
table_size : (ss : List (List ℕ)) → length (flat_map string_bytes ss) ≡ sizes ss
table_size [] = refl
table_size (s ∷ ss) = length-append (string_bytes s) (flat_map string_bytes ss) ∙ ap (λ n. size s + n) (table_size ss)

one_size : (known : List (List ℕ)) (s : List ℕ) → sizes (with_string known s) ≤ sizes known + size s
one_size known s = elim (has_string known s) as (λ b. sizes (cond b known (known ++ s ∷ [])) ≤ sizes known + size s) [ true ↦ omega arith | false ↦ let e : sizes (known ++ s ∷ []) ≡ sizes known + (size s + 0) = sizes_append known (s ∷ []) in omega (arith, e) ]

used_size : (known used : List (List ℕ)) → sizes (with_strings known used) ≤ sizes known + sizes used
used_size known [] = omega arith
used_size known (s ∷ used) = let e : sizes (with_strings (with_string known s) used) ≤ sizes known + (size s + sizes used) = omega (arith, used_size (with_string known s) used, one_size known s) in e

-- ---- an instruction
key_cost : (k : Key) → IsKey k → costs (key_fields k) ≤ key_payload k + 17
key_cost (keys.Int n) h = omega arith
key_cost (keys.Text s) h = let e : 1 + ((7 + length s) + 0) ≤ length s + 17 = omega arith in e
key_cost (keys.Uuid id) h = let e : 1 + (length id + 0) ≤ 17 = omega (arith, h) in e

cell_cost : (c : CellName) → IsCell c → costs (cell_fields c) ≤ cell_payload c + 31
cell_cost c h =
    let more : costs (key_fields c.key ++ string c.column ∷ []) ≡ costs (key_fields c.key) + ((7 + length c.column) + 0) = costs_append (key_fields c.key) (string c.column ∷ []) in
    let e : (7 + length c.table) + costs (key_fields c.key ++ string c.column ∷ []) ≤ length c.table + key_payload c.key + length c.column + 31 = omega (arith, key_cost c.key h.1, more) in
    e

value_cost : (v : Value) → IsValue v → costs (value_fields v) ≤ value_payload v + 25
value_cost values.Null h = omega arith
value_cost (values.Int n) h = omega arith
value_cost (values.Bool b) h = omega arith
value_cost (values.Text t) h = let e : 1 + (10 + (length t + 0)) ≤ length t + 25 = omega arith in e
value_cost (values.Bytes bs) h = let e : 1 + (10 + (length bs + 0)) ≤ length bs + 25 = omega arith in e
value_cost (values.Time t) h = omega arith
value_cost (values.Uuid id) h = let e : 1 + (length id + 0) ≤ 25 = omega (arith, h) in e
value_cost (values.Link t k) h = let e : 1 + ((7 + length t) + costs (key_fields k)) ≤ length t + key_payload k + 25 = omega (arith, key_cost k h.1) in e

binding_cost : (v : Option Value) → IsBinding v → costs (binding_fields v) ≤ binding_payload_of v + 26
binding_cost None h = omega arith
binding_cost (Some v) h = let e : 1 + costs (value_fields v) ≤ value_payload v + 26 = omega (arith, value_cost v h) in e

target_cost : (k : Kind) → costs (target_fields k) ≤ kind_payload k + 7
target_cost kinds.Int = omega arith
target_cost kinds.Bool = omega arith
target_cost kinds.Text = omega arith
target_cost kinds.Bytes = omega arith
target_cost kinds.Time = omega arith
target_cost kinds.Uuid = omega arith
target_cost (kinds.Link t) = let e : (7 + length t) + 0 ≤ length t + 7 = omega arith in e

-- what stands behind a cell takes no more than 48 bytes beside what it carries
behind : (c : CellName) (fs : List Field) (n : ℕ) → IsCell c → costs fs ≤ n + 48 → 1 + costs (cell_fields c ++ fs) ≤ cell_payload c + n + 80
behind c fs n h le = omega (arith, le, cell_cost c h, costs_append (cell_fields c) fs)

placed : (s : Spot) (v : Value) → IsValue v → costs (spot_fields s ++ value_fields v) ≤ value_payload v + 48
placed s v h = let e : 10 + (10 + costs (value_fields v)) ≤ value_payload v + 48 = omega (arith, value_cost v h) in e

bound : (s : List ℕ) (v : Option Value) → IsBinding v → costs (string s ∷ binding_fields v) ≤ length s + binding_payload_of v + 48
bound s v h = let e : (7 + length s) + costs (binding_fields v) ≤ length s + binding_payload_of v + 48 = omega (arith, binding_cost v h) in e

instr_cost : (i : Instr) → IsInstr i → costs (instr_fields i) ≤ payload i + 80
unfolding instr_fields
instr_cost (instrs.AddTable i) h = let e : 1 + ((7 + length i.table) + (1 + 0)) ≤ length i.table + 80 = omega arith in e
instr_cost (instrs.AddColumn i) h = let e : 1 + ((7 + length i.table) + ((7 + length i.column) + (1 + (1 + (1 + costs (target_fields i.def.kind)))))) ≤ length i.table + length i.column + kind_payload i.def.kind + 80 = omega (arith, target_cost i.def.kind) in e
instr_cost (instrs.CreateObject i) h = let e : 1 + ((7 + length i.table) + costs (key_fields i.key)) ≤ length i.table + key_payload i.key + 80 = omega (arith, key_cost i.key h.1) in e
instr_cost (instrs.EraseObject i) h = let e : 1 + ((7 + length i.table) + costs (key_fields i.key)) ≤ length i.table + key_payload i.key + 80 = omega (arith, key_cost i.key h.1) in e
instr_cost (instrs.Update i) h = behind i.cell (value_fields i.value) (value_payload i.value) h.0 (omega (arith, value_cost i.value h.1))
instr_cost (instrs.AddInteger i) h = let e : 1 + costs (cell_fields i.cell ++ number (zigzag i.amount) ∷ []) ≤ cell_payload i.cell + 0 + 80 = behind i.cell (number (zigzag i.amount) ∷ []) 0 h.0 (omega arith) in omega (arith, e)
instr_cost (instrs.ListUpdate i) h = behind i.cell (spot_fields i.spot ++ value_fields i.value) (value_payload i.value) h.0 (placed i.spot i.value h.2)
instr_cost (instrs.ListInsert i) h = behind i.cell (spot_fields i.spot ++ value_fields i.value) (value_payload i.value) h.0 (placed i.spot i.value h.2)
instr_cost (instrs.ListErase i) h = let e : 1 + costs (cell_fields i.cell ++ spot_fields i.spot) ≤ cell_payload i.cell + 0 + 80 = behind i.cell (spot_fields i.spot) 0 h.0 (omega arith) in omega (arith, e)
instr_cost (instrs.SetInsert i) h = behind i.cell (value_fields i.value) (value_payload i.value) h.0 (omega (arith, value_cost i.value h.1))
instr_cost (instrs.SetErase i) h = behind i.cell (value_fields i.value) (value_payload i.value) h.0 (omega (arith, value_cost i.value h.1))
instr_cost (instrs.DictUpdate i) h =
    let at : costs (string i.at ∷ binding_fields i.value) ≤ length i.at + binding_payload_of i.value + 48 = bound i.at i.value h.1 in
    let e : 1 + costs (cell_fields i.cell ++ string i.at ∷ binding_fields i.value) ≤ cell_payload i.cell + (length i.at + binding_payload_of i.value) + 80 = behind i.cell (string i.at ∷ binding_fields i.value) (length i.at + binding_payload_of i.value) h.0 at in
    omega (arith, e)
instr_cost (instrs.Clear i) h = let e : 1 + costs (cell_fields i.cell) ≤ cell_payload i.cell + 80 = omega (arith, cell_cost i.cell h) in e

-- its numbers have at most 64 bits
key_numbers : (k : Key) → IsKey k → AllByRecursion FitsNumber (key_fields k)
key_numbers (keys.Int n) h = (tt, (h, tt))
key_numbers (keys.Text s) h = (tt, (tt, tt))
key_numbers (keys.Uuid id) h = (tt, (tt, tt))

cell_numbers : (c : CellName) → IsCell c → AllByRecursion FitsNumber (cell_fields c)
cell_numbers c h = (tt, all_append FitsNumber (key_fields c.key) (string c.column ∷ []) (key_numbers c.key h.1) (tt, tt))

value_numbers : (v : Value) → IsValue v → AllByRecursion FitsNumber (value_fields v)
value_numbers values.Null h = (tt, tt)
value_numbers (values.Int n) h = (tt, (h, tt))
value_numbers (values.Bool b) h = (tt, (tt, tt))
value_numbers (values.Text t) h = (tt, (omega (arith, h.0), (tt, tt)))
value_numbers (values.Bytes bs) h = (tt, (omega (arith, h), (tt, tt)))
value_numbers (values.Time t) h = (tt, (h.0, (omega (arith, h.1), tt)))
value_numbers (values.Uuid id) h = (tt, (tt, tt))
value_numbers (values.Link t k) h = (tt, (tt, key_numbers k h.1))

binding_numbers : (v : Option Value) → IsBinding v → AllByRecursion FitsNumber (binding_fields v)
binding_numbers None h = (tt, tt)
binding_numbers (Some v) h = (tt, value_numbers v h)

target_numbers : (k : Kind) → AllByRecursion FitsNumber (target_fields k)
target_numbers kinds.Int = tt
target_numbers kinds.Bool = tt
target_numbers kinds.Text = tt
target_numbers kinds.Bytes = tt
target_numbers kinds.Time = tt
target_numbers kinds.Uuid = tt
target_numbers (kinds.Link t) = (tt, tt)

spot_numbers : (s : Spot) → s.place < 2 ^ 32 → s.prior < 2 ^ 32 → AllByRecursion FitsNumber (spot_fields s)
spot_numbers s a b = (omega (arith, a), (omega (arith, b), tt))

instr_numbers : (i : Instr) → IsInstr i → AllByRecursion FitsNumber (instr_fields i)
unfolding instr_fields
instr_numbers (instrs.AddTable i) h = (tt, (tt, (tt, tt)))
instr_numbers (instrs.AddColumn i) h = (tt, (tt, (tt, (tt, (tt, (tt, target_numbers i.def.kind))))))
instr_numbers (instrs.CreateObject i) h = (tt, (tt, key_numbers i.key h.1))
instr_numbers (instrs.EraseObject i) h = (tt, (tt, key_numbers i.key h.1))
instr_numbers (instrs.Update i) h = (tt, all_append FitsNumber (cell_fields i.cell) (value_fields i.value) (cell_numbers i.cell h.0) (value_numbers i.value h.1))
instr_numbers (instrs.AddInteger i) h = (tt, all_append FitsNumber (cell_fields i.cell) (number (zigzag i.amount) ∷ []) (cell_numbers i.cell h.0) (h.1, tt))
instr_numbers (instrs.ListUpdate i) h = (tt, all_append FitsNumber (cell_fields i.cell) (spot_fields i.spot ++ value_fields i.value) (cell_numbers i.cell h.0) (all_append FitsNumber (spot_fields i.spot) (value_fields i.value) (spot_numbers i.spot h.1.0 h.1.1) (value_numbers i.value h.2)))
instr_numbers (instrs.ListInsert i) h = (tt, all_append FitsNumber (cell_fields i.cell) (spot_fields i.spot ++ value_fields i.value) (cell_numbers i.cell h.0) (all_append FitsNumber (spot_fields i.spot) (value_fields i.value) (spot_numbers i.spot h.1.0 h.1.1) (value_numbers i.value h.2)))
instr_numbers (instrs.ListErase i) h = (tt, all_append FitsNumber (cell_fields i.cell) (spot_fields i.spot) (cell_numbers i.cell h.0) (spot_numbers i.spot h.1.0 h.1.1))
instr_numbers (instrs.SetInsert i) h = (tt, all_append FitsNumber (cell_fields i.cell) (value_fields i.value) (cell_numbers i.cell h.0) (value_numbers i.value h.1))
instr_numbers (instrs.SetErase i) h = (tt, all_append FitsNumber (cell_fields i.cell) (value_fields i.value) (cell_numbers i.cell h.0) (value_numbers i.value h.1))
instr_numbers (instrs.DictUpdate i) h = (tt, all_append FitsNumber (cell_fields i.cell) (string i.at ∷ binding_fields i.value) (cell_numbers i.cell h.0) (tt, binding_numbers i.value h.1))
instr_numbers (instrs.Clear i) h = (tt, cell_numbers i.cell h)

-- ---- all of them
instrs_cost : (is : List Instr) → AllByRecursion IsWhole is → costs (flat_map instr_fields is) ≤ payload_all is + 80 * length is
instrs_cost [] h = omega arith
instrs_cost (i ∷ is) h =
    let more : costs (flat_map instr_fields (i ∷ is)) ≡ costs (instr_fields i) + costs (flat_map instr_fields is) = costs_append (instr_fields i) (flat_map instr_fields is) in
    omega (arith, instr_cost i h.0.fields, instrs_cost is h.1, more, sum_by-cons payload i is)

instrs_numbers : (is : List Instr) → AllByRecursion IsWhole is → AllByRecursion FitsNumber (flat_map instr_fields is)
instrs_numbers [] h = tt
instrs_numbers (i ∷ is) h = all_append FitsNumber (instr_fields i) (flat_map instr_fields is) (instr_numbers i h.0.fields) (instrs_numbers is h.1)

instrs_strings : (is : List Instr) → AllByRecursion IsWhole is → AllByRecursion IsString (flat_map strings_in_field (flat_map instr_fields is))
instrs_strings [] h = tt
instrs_strings (i ∷ is) h = subst (AllByRecursion IsString) (sym (Rattle.sync_exchange.specs.Lemmas.Strings.fields_append (instr_fields i) (flat_map instr_fields is))) (all_append IsString (strings_in i) (flat_map strings_in_field (flat_map instr_fields is)) h.0.strings (instrs_strings is h.1))

-- eleven bytes beside the instructions
pub spelled_short : (is : List Instr) → AreInstrs is → length (spelling is) ≤ payload_all is + 80 * length is + 11
unfolding spelling
spelled_short is v =
    let whole = whole_each is v in
    let fs : List Field = flat_map instr_fields is in
    let few = strings_few is v.small.0 in
    let strings : List (List ℕ) = strings_of (flat_map instr_fields is) in
    let body = fields_short (strings_of (flat_map instr_fields is)) few (flat_map instr_fields is) (instrs_numbers is whole) (instrs_strings is whole) in
    omega (
      arith,
      v.small.0,
      body,
      instrs_cost is whole,
      table_size (strings_of (flat_map instr_fields is)),
      used_size [] (flat_map strings_in_field (flat_map instr_fields is)),
      short32 (length (strings_of (flat_map instr_fields is))) few,
      short32 (length is) (omega (arith, v.small.0)),
      length-append (table_bytes (strings_of (flat_map instr_fields is))) (varint (length is) ++ flat_map (field_bytes (strings_of (flat_map instr_fields is))) (flat_map instr_fields is)),
      length-append (varint (length is)) (flat_map (field_bytes (strings_of (flat_map instr_fields is))) (flat_map instr_fields is)),
      length-append (varint (length (strings_of (flat_map instr_fields is)))) (flat_map string_bytes (strings_of (flat_map instr_fields is))),
    )

-- so a message bears it
pub real_roomy : IsRoomy the_profile
real_roomy = record { some = omega arith; fits = λ is small. let v = small_instrs is small in omega (arith, spelled_short is v, v.small.0, v.small.1) }
