-- What an instruction that a changeset can bear bears, and the other way round.
use Rattle.std.specs.Prelude.{◌≡◌, ℕ, ◌+◌, ◌-◌, ◌<◌, ◌≤◌, Bool, true, false, ◌&&◌, nat_lt, List, [], ◌∷◌, ◌++◌, length, None, Some}
use Rattle.std.specs.List.{flat_map, AllByRecursion}
use Rattle.std.proofs.Common.{sym, subst, arith}
use Rattle.std.proofs.lemmas.Bool.{ltb-true}
use Rattle.sync_data.specs.Spot.{Spot}
use Rattle.sync_data.specs.Payload.{payload, key_payload, kind_payload, value_payload}
use Rattle.sync_data.specs.declared.column.Column.{Column}
use Rattle.sync_data.specs.declared.column.Kind.{Kind}
use Rattle.sync_data.specs.declared.column.Kind.TheVariants as kinds
use Rattle.sync_data.specs.declared.key.Key.{Key}
use Rattle.sync_data.specs.declared.key.Key.TheVariants as keys
use Rattle.sync_data.specs.declared.key.KeyKind.{KeyKind}
use Rattle.sync_data.specs.declared.value.Value.{Value}
use Rattle.sync_data.specs.declared.instr.Instr.{Instr}
use Rattle.sync_base.specs.Effects.{ObjectName, CellPath, Edit, Effect, Set, Add, Replace, Insert, Remove, Include, Exclude, Bind, Empty, NewTable, NewColumn, Create, Erase, Change, cell_name, effect_of, instr_of}
use Rattle.sync_base.specs.Lemmas.Whole.{instr-effect}
use Rattle.sync_codec.specs.Spelling.{Field, instr_fields, cell_fields, key_fields, value_fields, binding_fields, spot_fields, strings_in_field, string}
use Rattle.sync_codec.specs.Valid.{IsName, IsString, IsGap}
use Rattle.sync_exchange.specs.Profile.{weight}
use Rattle.sync_exchange.specs.Bounded.{IsHeldName, IsHeldKey, IsHeldKind, IsHeldValue, names_of}
use Rattle.sync_exchange.specs.Lemmas.Whole.{IsWhole}
use Rattle.sync_exchange.specs.Lemmas.Weights.{light_whole, carried}
use Rattle.sync_exchange.specs.Lemmas.Strings.{all_append, all_back, fields_append}

-- ---- weights
abbrev pub most_bytes : ℕ
most_bytes = 4194304

-- an instruction that a changeset can bear
abbrev pub IsLight : Instr → Type 0
IsLight i = weight i ≤ most_bytes

light_bytes : (i : Instr) → IsLight i → payload i ≤ most_bytes
light_bytes i h = let e = carried i (light_whole i h) in omega (arith, e, h)

light : (i : Instr) → IsWhole i → payload i ≤ most_bytes → IsLight i
light i w h = let e = carried i w in omega (arith, e, h)

-- ---- strings of fields
abbrev strings : List Field → List (List ℕ)
strings fs = flat_map strings_in_field fs

behind : (cs fs : List Field) → AllByRecursion IsString (strings (cs ++ fs)) → AllByRecursion IsString (strings fs)
behind cs fs h = all_back IsString (strings cs) (strings fs) (subst (AllByRecursion IsString) (fields_append cs fs) h)

together : (cs fs : List Field) → AllByRecursion IsString (strings cs) → AllByRecursion IsString (strings fs) → AllByRecursion IsString (strings (cs ++ fs))
together cs fs h g = subst (AllByRecursion IsString) (sym (fields_append cs fs)) (all_append IsString (strings cs) (strings fs) h g)

-- ---- what an edit and an effect bear
abbrev pub IsHeldEdit : ℕ → Edit → Type 0
IsHeldEdit n (Set v) = IsHeldValue n v
IsHeldEdit n (Replace s v) = IsHeldValue n v
IsHeldEdit n (Insert s v) = IsHeldValue n v × (s.prior < 4294967296)
IsHeldEdit n (Include v) = IsHeldValue n v
IsHeldEdit n (Bind k (Some v)) = IsString k × IsHeldValue (n + length k) v
IsHeldEdit n e = Unit {0}

abbrev pub IsHeldEffect : Effect → Type 0
IsHeldEffect (NewTable t k) = IsHeldName t
IsHeldEffect (NewColumn t c def) = IsHeldName c × IsHeldKind def.kind
IsHeldEffect (Create o) = IsHeldKey o.1
IsHeldEffect (Erase o) = Unit {0}
IsHeldEffect (Change p e) = IsHeldEdit (names_of p.0 p.1) e

fits_beside : (n m : ℕ) → n + m ≤ most_bytes → m ≤ most_bytes - n
fits_beside n m h = omega (arith, h)

held_edit : (p : CellPath) (e : Edit) → IsWhole (instr_of (Change p e)) → payload (instr_of (Change p e)) ≤ most_bytes → IsHeldEdit (names_of p.0 p.1) e
unfolding instr_fields
held_edit p (Set v) w h = record { value = w.fields.1; strings = behind (cell_fields (cell_name p)) (value_fields v) w.strings; light = fits_beside (names_of p.0 p.1) (value_payload v) h }
held_edit p (Replace s v) w h = record { value = w.fields.2; strings = behind (cell_fields (cell_name p)) (spot_fields s ++ value_fields v) w.strings; light = fits_beside (names_of p.0 p.1) (value_payload v) h }
held_edit p (Insert s v) w h = (record { value = w.fields.2; strings = behind (cell_fields (cell_name p)) (spot_fields s ++ value_fields v) w.strings; light = fits_beside (names_of p.0 p.1) (value_payload v) h }, w.fields.1.1)
held_edit p (Include v) w h = record { value = w.fields.1; strings = behind (cell_fields (cell_name p)) (value_fields v) w.strings; light = fits_beside (names_of p.0 p.1) (value_payload v) h }
held_edit p (Bind k (Some v)) w h =
    let both = behind (cell_fields (cell_name p)) (string k ∷ binding_fields (Some v)) w.strings in
    (both.0, record { value = w.fields.1; strings = both.1; light = fits_beside (names_of p.0 p.1 + length k) (value_payload v) h })
held_edit p (Bind k None) w h = tt
held_edit p (Add n) w h = tt
held_edit p (Remove s) w h = tt
held_edit p (Exclude v) w h = tt
held_edit p Empty w h = tt

held_whole : (d : Effect) → IsWhole (instr_of d) → payload (instr_of d) ≤ most_bytes → IsHeldEffect d
unfolding instr_fields
held_whole (NewTable t k) w h = (w.fields, w.strings.0)
held_whole (NewColumn t c def) w h = ((w.fields.1, w.strings.1.0), (w.fields.2, w.strings.1.1))
held_whole (Create o) w h = (w.fields.1, w.strings.1)
held_whole (Erase o) w h = tt
held_whole (Change p e) w h = held_edit p e w h

pub held_effect : (i : Instr) → IsLight i → IsHeldEffect (effect_of i)
held_effect i h = held_whole (effect_of i) (subst IsWhole (sym (instr-effect i)) (light_whole i h)) (subst (λ j. payload j ≤ most_bytes) (sym (instr-effect i)) (light_bytes i h))

-- ---- and what bears that is light
few : (s : List ℕ) → IsName s → length s < 64
few s h = ltb-true (length s) 64 (right (nat_lt 0 (length s)) (nat_lt (length s) 64) h)
  where
    right : (a b : Bool) → (a && b) ≡ true → b ≡ true
    right true b e = e
    right false b e = cc

key_few : (k : Key) → IsHeldKey k → key_payload k ≤ 255
key_few (keys.Int n) h = omega arith
key_few (keys.Text t) h = h.1.0.0
key_few (keys.Uuid id) h = omega arith

pub light_table : (t : List ℕ) (k : KeyKind) → IsHeldName t → IsLight (instr_of (NewTable t k))
unfolding instr_fields
light_table t k h = light (instr_of (NewTable t k)) (record { fields = h.0; strings = (h.1, tt) }) (let a = few t h.0 in omega (arith, a))

kind_few : (def : Column) → IsHeldKind def.kind → kind_payload def.kind ≤ 255
kind_few def h = go def.kind h
  where
    go : (k : Kind) → IsHeldKind k → kind_payload k ≤ 255
    go (kinds.Link t) h = h.1.0.0
    go k h = omega arith

pub light_column : (t c : List ℕ) (def : Column) → IsHeldName t → IsHeldName c → IsHeldKind def.kind → IsLight (instr_of (NewColumn t c def))
unfolding instr_fields
light_column t c def h g k =
    light (instr_of (NewColumn t c def)) (record { fields = (h.0, g.0, k.0); strings = (h.1, (g.1, k.1)) })
    (let a = few t h.0 in let b = few c g.0 in let d = kind_few def k in omega (arith, a, b, d))

pub light_create : (o : ObjectName) → IsHeldName o.0 → IsHeldKey o.1 → IsLight (instr_of (Create o))
unfolding instr_fields
light_create o h k = light (instr_of (Create o)) (record { fields = (h.0, k.0); strings = (h.1, k.1) }) (let a = few o.0 h.0 in let b = key_few o.1 k in omega (arith, a, b))

-- the names of a cell
pub record IsHeldPath (p : CellPath) : Type 0 where
  pub table : IsHeldName p.0.0
  pub key : IsHeldKey p.0.1
  pub column : IsHeldName p.1

path_few : (p : CellPath) → IsHeldPath p → names_of p.0 p.1 ≤ 381
path_few p h = let a = few p.0.0 h.table.0 in let b = key_few p.0.1 h.key in let c = few p.1 h.column.0 in omega (arith, a, b, c)

path_strings : (p : CellPath) → IsHeldPath p → AllByRecursion IsString (strings (cell_fields (cell_name p)))
path_strings p h = (h.table.1, together (key_fields p.0.1) (string p.1 ∷ []) h.key.1 (h.column.1, tt))

fits_after : (n m : ℕ) → n ≤ 1000 → m ≤ most_bytes - n → n + m ≤ most_bytes
fits_after n m h g = omega (arith, h, g)

pub light_set : (p : CellPath) (v : Value) → IsHeldPath p → IsHeldValue (names_of p.0 p.1) v → IsLight (instr_of (Change p (Set v)))
unfolding instr_fields
light_set p v h g =
    light (instr_of (Change p (Set v))) (record { fields = ((h.table.0, h.key.0, h.column.0), g.value); strings = together (cell_fields (cell_name p)) (value_fields v) (path_strings p h) g.strings })
    (fits_after (names_of p.0 p.1) (value_payload v) (let a = path_few p h in omega (arith, a)) g.light)

pub light_include : (p : CellPath) (v : Value) → IsHeldPath p → IsHeldValue (names_of p.0 p.1) v → IsLight (instr_of (Change p (Include v)))
unfolding instr_fields
light_include p v h g =
    light (instr_of (Change p (Include v))) (record { fields = ((h.table.0, h.key.0, h.column.0), g.value); strings = together (cell_fields (cell_name p)) (value_fields v) (path_strings p h) g.strings })
    (fits_after (names_of p.0 p.1) (value_payload v) (let a = path_few p h in omega (arith, a)) g.light)

pub light_insert : (p : CellPath) (s : Spot) (v : Value) → IsHeldPath p → IsGap s → IsHeldValue (names_of p.0 p.1) v → IsLight (instr_of (Change p (Insert s v)))
unfolding instr_fields
light_insert p s v h gap g =
    light (instr_of (Change p (Insert s v))) (record { fields = ((h.table.0, h.key.0, h.column.0), gap, g.value); strings = together (cell_fields (cell_name p)) (spot_fields s ++ value_fields v) (path_strings p h) g.strings })
    (fits_after (names_of p.0 p.1) (value_payload v) (let a = path_few p h in omega (arith, a)) g.light)

pub light_bind : (p : CellPath) (k : List ℕ) (v : Value) → IsHeldPath p → IsString k → IsHeldValue (names_of p.0 p.1 + length k) v → IsLight (instr_of (Change p (Bind k (Some v))))
unfolding instr_fields
light_bind p k v h s g =
    light (instr_of (Change p (Bind k (Some v)))) (record { fields = ((h.table.0, h.key.0, h.column.0), g.value); strings = together (cell_fields (cell_name p)) (string k ∷ binding_fields (Some v)) (path_strings p h) (s, g.strings) })
    (fits_after (names_of p.0 p.1 + length k) (value_payload v) (let a = path_few p h in let b = s.0 in omega (arith, a, b)) g.light)
