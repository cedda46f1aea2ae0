-- When two instructions, or two changesets, are equal: kind by kind and part by part.
use Rattle.std.specs.Prelude.{◌≡◌, ℕ, Bool, true, false, cond, ◌&&◌, ◌==◌, List, [], Option, None, Some, nat_eq, refl}
use Rattle.std.specs.Bool.{Decides}
use Rattle.std.specs.Ordering.{eq_by_cmp, int_eq}
use Rattle.std.specs.Cmp.{IsEquivalence, decided, eq_by_cmp_equiv, signed_Decides}
use Rattle.std.specs.Cmp.Lexicographic.{pointwise, pointwise_decides, bytes_decides}
use Rattle.std.specs.declared.cmp.Ordering.{Ordering}
use Rattle.std.specs.declared.cmp.Ordering.TheVariants.{Less, Equal, Greater}
use Rattle.std.specs.Ordering.{is_eq}
use Rattle.std.proofs.Common.{sym, ◌∙◌, ap}
use Rattle.std.proofs.lemmas.Bool.{eqb-true, eq-eqb}
use Rattle.sync_data.specs.Spot.{Spot}
use Rattle.sync_data.specs.Orders.{key_cmp, key_cmp_total, key_cmp_exact, value_cmp, value_cmp_total, value_cmp_exact}
use Rattle.sync_data.specs.Payload.{Changes}
use Rattle.sync_data.specs.declared.key.Key.{Key}
use Rattle.sync_data.specs.declared.key.KeyKind.{KeyKind}
use Rattle.sync_data.specs.declared.key.KeyKind.TheVariants as key_kinds
use Rattle.sync_data.specs.declared.value.Value.{Value}
use Rattle.sync_data.specs.declared.column.Kind.{Kind}
use Rattle.sync_data.specs.declared.column.Kind.TheVariants as kinds
use Rattle.sync_data.specs.declared.column.Shape.{Shape}
use Rattle.sync_data.specs.declared.column.Shape.TheVariants as shapes
use Rattle.sync_data.specs.declared.column.Column.{Column}
use Rattle.sync_data.specs.declared.instr.CellName.{CellName}
use Rattle.sync_data.specs.declared.instr.Instr.{Instr}
use Rattle.sync_data.specs.declared.instr.Instr.TheVariants as instrs

-- ---- parts
abbrev pub name_eq : List ℕ → List ℕ → Bool
name_eq = pointwise nat_eq

abbrev pub key_eq : Key → Key → Bool
key_eq = eq_by_cmp key_cmp

abbrev pub value_eq : Value → Value → Bool
value_eq = eq_by_cmp value_cmp

abbrev pub key_kind_number : KeyKind → ℕ
key_kind_number key_kinds.Int = 0
key_kind_number key_kinds.Text = 1
key_kind_number key_kinds.Uuid = 2

abbrev pub kind_number : Kind → ℕ
kind_number kinds.Int = 0
kind_number kinds.Bool = 1
kind_number kinds.Text = 2
kind_number kinds.Bytes = 3
kind_number kinds.Time = 4
kind_number kinds.Uuid = 5
kind_number (kinds.Link t) = 6

abbrev pub kind_target : Kind → List ℕ
kind_target (kinds.Link t) = t
kind_target k = []

abbrev pub shape_number : Shape → ℕ
shape_number shapes.One = 0
shape_number shapes.List = 1
shape_number shapes.Set = 2
shape_number shapes.Dict = 3

abbrev pub flag : Bool → ℕ
flag b = cond b 1 0

abbrev pub column_eq : Column → Column → Bool
column_eq x y = kind_number x.kind == kind_number y.kind && name_eq (kind_target x.kind) (kind_target y.kind) && flag x.nullable == flag y.nullable && shape_number x.shape == shape_number y.shape

abbrev pub cell_eq : CellName → CellName → Bool
cell_eq x y = name_eq x.table y.table && key_eq x.key y.key && name_eq x.column y.column

abbrev pub spot_eq : Spot → Spot → Bool
spot_eq x y = x.place == y.place && x.prior == y.prior

abbrev pub binding_eq : Option Value → Option Value → Bool
binding_eq (Some v) (Some w) = value_eq v w
binding_eq None None = true
binding_eq v w = false

-- ---- instructions and changesets
abbrev pub instr_eq : Instr → Instr → Bool
instr_eq (instrs.AddTable i) (instrs.AddTable j) = name_eq i.table j.table && key_kind_number i.key == key_kind_number j.key
instr_eq (instrs.AddColumn i) (instrs.AddColumn j) = name_eq i.table j.table && name_eq i.column j.column && column_eq i.def j.def
instr_eq (instrs.CreateObject i) (instrs.CreateObject j) = name_eq i.table j.table && key_eq i.key j.key
instr_eq (instrs.EraseObject i) (instrs.EraseObject j) = name_eq i.table j.table && key_eq i.key j.key
instr_eq (instrs.Update i) (instrs.Update j) = cell_eq i.cell j.cell && value_eq i.value j.value
instr_eq (instrs.AddInteger i) (instrs.AddInteger j) = cell_eq i.cell j.cell && int_eq i.amount j.amount
instr_eq (instrs.ListUpdate i) (instrs.ListUpdate j) = cell_eq i.cell j.cell && spot_eq i.spot j.spot && value_eq i.value j.value
instr_eq (instrs.ListInsert i) (instrs.ListInsert j) = cell_eq i.cell j.cell && spot_eq i.spot j.spot && value_eq i.value j.value
instr_eq (instrs.ListErase i) (instrs.ListErase j) = cell_eq i.cell j.cell && spot_eq i.spot j.spot
instr_eq (instrs.SetInsert i) (instrs.SetInsert j) = cell_eq i.cell j.cell && value_eq i.value j.value
instr_eq (instrs.SetErase i) (instrs.SetErase j) = cell_eq i.cell j.cell && value_eq i.value j.value
instr_eq (instrs.DictUpdate i) (instrs.DictUpdate j) = cell_eq i.cell j.cell && name_eq i.at j.at && binding_eq i.value j.value
instr_eq (instrs.Clear i) (instrs.Clear j) = cell_eq i.cell j.cell
instr_eq i j = false

abbrev pub changes_eq : Changes → Changes → Bool
changes_eq x y = x.ms == y.ms && pointwise instr_eq x.instrs y.instrs

-- ---- what the tests tell
first : (a b : Bool) → (a && b) ≡ true → a ≡ true
first true b h = refl
first false b h = cc

second : (a b : Bool) → (a && b) ≡ true → b ≡ true
second true b h = h
second false b h = cc

both : (a b : Bool) → a ≡ true → b ≡ true → (a && b) ≡ true
both true b h k = k
both false b h k = h

name_is : (x y : List ℕ) → name_eq x y ≡ true → x ≡ y
name_is x y = (bytes_decides x y).0

name_own : (x : List ℕ) → name_eq x x ≡ true
name_own x = (bytes_decides x x).1 refl

tied : (o : Ordering) → is_eq o ≡ true → o ≡ Equal
tied Less e = cc
tied Equal e = refl
tied Greater e = cc

key_is : (x y : Key) → key_eq x y ≡ true → x ≡ y
key_is x y h = key_cmp_exact x y (tied (key_cmp x y) h)

key_own : (x : Key) → key_eq x x ≡ true
key_own = (eq_by_cmp_equiv key_cmp_total).refl

value_is : (x y : Value) → value_eq x y ≡ true → x ≡ y
value_is x y h = value_cmp_exact x y (tied (value_cmp x y) h)

value_own : (x : Value) → value_eq x x ≡ true
value_own = (eq_by_cmp_equiv value_cmp_total).refl

number_own : (x : ℕ) → (x == x) ≡ true
number_own x = eq-eqb x x refl

key_kind_by : ℕ → KeyKind
key_kind_by r = cond (r == 0) key_kinds.Int (cond (r == 1) key_kinds.Text key_kinds.Uuid)

key_kind_back : (k : KeyKind) → key_kind_by (key_kind_number k) ≡ k
unfolding key_kind_by
key_kind_back key_kinds.Int = refl
key_kind_back key_kinds.Text = refl
key_kind_back key_kinds.Uuid = refl

key_kind_is : (x y : KeyKind) → (key_kind_number x == key_kind_number y) ≡ true → x ≡ y
key_kind_is x y h = sym (key_kind_back x) ∙ ap key_kind_by (eqb-true _ _ h) ∙ key_kind_back y

kind_by : ℕ → List ℕ → Kind
kind_by r t = cond (r == 0) kinds.Int (cond (r == 1) kinds.Bool (cond (r == 2) kinds.Text (cond (r == 3) kinds.Bytes (cond (r == 4) kinds.Time (cond (r == 5) kinds.Uuid (kinds.Link t))))))

kind_back : (k : Kind) → kind_by (kind_number k) (kind_target k) ≡ k
unfolding kind_by
kind_back kinds.Int = refl
kind_back kinds.Bool = refl
kind_back kinds.Text = refl
kind_back kinds.Bytes = refl
kind_back kinds.Time = refl
kind_back kinds.Uuid = refl
kind_back (kinds.Link t) = refl

shape_by : ℕ → Shape
shape_by r = cond (r == 0) shapes.One (cond (r == 1) shapes.List (cond (r == 2) shapes.Set shapes.Dict))

shape_back : (x : Shape) → shape_by (shape_number x) ≡ x
unfolding shape_by
shape_back shapes.One = refl
shape_back shapes.List = refl
shape_back shapes.Set = refl
shape_back shapes.Dict = refl

flag_is : (a b : Bool) → flag a ≡ flag b → a ≡ b
flag_is true true h = refl
flag_is true false h = cc
flag_is false true h = cc
flag_is false false h = refl

column_is : (x y : Column) → column_eq x y ≡ true → x ≡ y
column_is x y h =
    let tests = first _ (shape_number x.shape == shape_number y.shape) h in
    let names = first _ (flag x.nullable == flag y.nullable) tests in
    let r = eqb-true (kind_number x.kind) (kind_number y.kind) (first (kind_number x.kind == kind_number y.kind) _ names) in
    let t = name_is (kind_target x.kind) (kind_target y.kind) (second (kind_number x.kind == kind_number y.kind) _ names) in
    let n = flag_is x.nullable y.nullable (eqb-true _ _ (second _ (flag x.nullable == flag y.nullable) tests)) in
    let s = sym (shape_back x.shape) ∙ ap shape_by (eqb-true _ _ (second _ (shape_number x.shape == shape_number y.shape) h)) ∙ shape_back y.shape in
    let k : x.kind ≡ y.kind = sym (kind_back x.kind) ∙ (λ i. kind_by (r i) (t i)) ∙ kind_back y.kind in
    λ i. record { kind = k i; nullable = n i; shape = s i }

column_own : (x : Column) → column_eq x x ≡ true
column_own x = both _ _ (both _ _ (both _ _ (number_own (kind_number x.kind)) (name_own (kind_target x.kind))) (number_own (flag x.nullable))) (number_own (shape_number x.shape))

cell_is : (x y : CellName) → cell_eq x y ≡ true → x ≡ y
cell_is x y h =
    let object = first _ (name_eq x.column y.column) h in
    let t = name_is x.table y.table (first _ (key_eq x.key y.key) object) in
    let k = key_is x.key y.key (second (name_eq x.table y.table) _ object) in
    let c = name_is x.column y.column (second _ (name_eq x.column y.column) h) in
    λ i. record { table = t i; key = k i; column = c i }

cell_own : (x : CellName) → cell_eq x x ≡ true
cell_own x = both _ _ (both _ _ (name_own x.table) (key_own x.key)) (name_own x.column)

spot_is : (x y : Spot) → spot_eq x y ≡ true → x ≡ y
spot_is x y h =
    let p = eqb-true x.place y.place (first _ (x.prior == y.prior) h) in
    let q = eqb-true x.prior y.prior (second (x.place == y.place) _ h) in
    λ i. record { place = p i; prior = q i }

spot_own : (x : Spot) → spot_eq x x ≡ true
spot_own x = both _ _ (number_own x.place) (number_own x.prior)

binding_is : (x y : Option Value) → binding_eq x y ≡ true → x ≡ y
binding_is (Some v) (Some w) h = ap Some (value_is v w h)
binding_is None None h = refl
binding_is (Some v) None h = cc
binding_is None (Some w) h = cc

binding_own : (x : Option Value) → binding_eq x x ≡ true
binding_own (Some v) = value_own v
binding_own None = refl

instr_is : (x y : Instr) → instr_eq x y ≡ true → x ≡ y
instr_is (instrs.AddTable i) (instrs.AddTable j) h =
    let t = name_is i.table j.table (first _ (key_kind_number i.key == key_kind_number j.key) h) in
    let k = key_kind_is i.key j.key (second (name_eq i.table j.table) _ h) in
    λ v. instrs.AddTable (record { table = t v; key = k v })
instr_is (instrs.AddColumn i) (instrs.AddColumn j) h =
    let names = first _ (column_eq i.def j.def) h in
    let t = name_is i.table j.table (first _ (name_eq i.column j.column) names) in
    let c = name_is i.column j.column (second (name_eq i.table j.table) _ names) in
    let d = column_is i.def j.def (second _ (column_eq i.def j.def) h) in
    λ v. instrs.AddColumn (record { table = t v; column = c v; def = d v })
instr_is (instrs.CreateObject i) (instrs.CreateObject j) h =
    let t = name_is i.table j.table (first _ (key_eq i.key j.key) h) in
    let k = key_is i.key j.key (second (name_eq i.table j.table) _ h) in
    λ v. instrs.CreateObject (record { table = t v; key = k v })
instr_is (instrs.EraseObject i) (instrs.EraseObject j) h =
    let t = name_is i.table j.table (first _ (key_eq i.key j.key) h) in
    let k = key_is i.key j.key (second (name_eq i.table j.table) _ h) in
    λ v. instrs.EraseObject (record { table = t v; key = k v })
instr_is (instrs.Update i) (instrs.Update j) h =
    let c = cell_is i.cell j.cell (first _ (value_eq i.value j.value) h) in
    let w = value_is i.value j.value (second (cell_eq i.cell j.cell) _ h) in
    λ v. instrs.Update (record { cell = c v; value = w v })
instr_is (instrs.AddInteger i) (instrs.AddInteger j) h =
    let c = cell_is i.cell j.cell (first _ (int_eq i.amount j.amount) h) in
    let n = (signed_Decides i.amount j.amount).0 (second (cell_eq i.cell j.cell) _ h) in
    λ v. instrs.AddInteger (record { cell = c v; amount = n v })
instr_is (instrs.ListUpdate i) (instrs.ListUpdate j) h =
    let spots = first _ (value_eq i.value j.value) h in
    let c = cell_is i.cell j.cell (first _ (spot_eq i.spot j.spot) spots) in
    let s = spot_is i.spot j.spot (second (cell_eq i.cell j.cell) _ spots) in
    let w = value_is i.value j.value (second _ (value_eq i.value j.value) h) in
    λ v. instrs.ListUpdate (record { cell = c v; spot = s v; value = w v })
instr_is (instrs.ListInsert i) (instrs.ListInsert j) h =
    let spots = first _ (value_eq i.value j.value) h in
    let c = cell_is i.cell j.cell (first _ (spot_eq i.spot j.spot) spots) in
    let s = spot_is i.spot j.spot (second (cell_eq i.cell j.cell) _ spots) in
    let w = value_is i.value j.value (second _ (value_eq i.value j.value) h) in
    λ v. instrs.ListInsert (record { cell = c v; spot = s v; value = w v })
instr_is (instrs.ListErase i) (instrs.ListErase j) h =
    let c = cell_is i.cell j.cell (first _ (spot_eq i.spot j.spot) h) in
    let s = spot_is i.spot j.spot (second (cell_eq i.cell j.cell) _ h) in
    λ v. instrs.ListErase (record { cell = c v; spot = s v })
instr_is (instrs.SetInsert i) (instrs.SetInsert j) h =
    let c = cell_is i.cell j.cell (first _ (value_eq i.value j.value) h) in
    let w = value_is i.value j.value (second (cell_eq i.cell j.cell) _ h) in
    λ v. instrs.SetInsert (record { cell = c v; value = w v })
instr_is (instrs.SetErase i) (instrs.SetErase j) h =
    let c = cell_is i.cell j.cell (first _ (value_eq i.value j.value) h) in
    let w = value_is i.value j.value (second (cell_eq i.cell j.cell) _ h) in
    λ v. instrs.SetErase (record { cell = c v; value = w v })
instr_is (instrs.DictUpdate i) (instrs.DictUpdate j) h =
    let names = first _ (binding_eq i.value j.value) h in
    let c = cell_is i.cell j.cell (first _ (name_eq i.at j.at) names) in
    let k = name_is i.at j.at (second (cell_eq i.cell j.cell) _ names) in
    let w = binding_is i.value j.value (second _ (binding_eq i.value j.value) h) in
    λ v. instrs.DictUpdate (record { cell = c v; at = k v; value = w v })
instr_is (instrs.Clear i) (instrs.Clear j) h =
    let c = cell_is i.cell j.cell h in
    λ v. instrs.Clear (record { cell = c v })
instr_is x y h = cc

instr_own : (x : Instr) → instr_eq x x ≡ true
instr_own (instrs.AddTable i) = both _ _ (name_own i.table) (number_own (key_kind_number i.key))
instr_own (instrs.AddColumn i) = both _ _ (both _ _ (name_own i.table) (name_own i.column)) (column_own i.def)
instr_own (instrs.CreateObject i) = both _ _ (name_own i.table) (key_own i.key)
instr_own (instrs.EraseObject i) = both _ _ (name_own i.table) (key_own i.key)
instr_own (instrs.Update i) = both _ _ (cell_own i.cell) (value_own i.value)
instr_own (instrs.AddInteger i) = both _ _ (cell_own i.cell) ((signed_Decides i.amount i.amount).1 refl)
instr_own (instrs.ListUpdate i) = both _ _ (both _ _ (cell_own i.cell) (spot_own i.spot)) (value_own i.value)
instr_own (instrs.ListInsert i) = both _ _ (both _ _ (cell_own i.cell) (spot_own i.spot)) (value_own i.value)
instr_own (instrs.ListErase i) = both _ _ (cell_own i.cell) (spot_own i.spot)
instr_own (instrs.SetInsert i) = both _ _ (cell_own i.cell) (value_own i.value)
instr_own (instrs.SetErase i) = both _ _ (cell_own i.cell) (value_own i.value)
instr_own (instrs.DictUpdate i) = both _ _ (both _ _ (cell_own i.cell) (name_own i.at)) (binding_own i.value)
instr_own (instrs.Clear i) = cell_own i.cell

pub instr_decides : (x y : Instr) → Decides (instr_eq x y) (x ≡ y)
instr_decides x y = (instr_is x y, λ e. ap (instr_eq x) (sym e) ∙ instr_own x)

pub instr_equivalence : IsEquivalence instr_eq
instr_equivalence = decided instr_eq instr_decides

lists_decide : (x y : List Instr) → Decides (pointwise instr_eq x y) (x ≡ y)
lists_decide = pointwise_decides instr_decides

changes_is : (x y : Changes) → changes_eq x y ≡ true → x ≡ y
changes_is x y h =
    let m = eqb-true x.ms y.ms (first _ (pointwise instr_eq x.instrs y.instrs) h) in
    let l = (lists_decide x.instrs y.instrs).0 (second (x.ms == y.ms) _ h) in
    λ i. record { ms = m i; instrs = l i }

pub changes_decides : (x y : Changes) → Decides (changes_eq x y) (x ≡ y)
changes_decides x y = (changes_is x y, λ e. ap (changes_eq x) (sym e) ∙ both _ _ (number_own x.ms) ((lists_decide x.instrs x.instrs).1 refl))

pub changes_equivalence : IsEquivalence changes_eq
changes_equivalence = decided changes_eq changes_decides
