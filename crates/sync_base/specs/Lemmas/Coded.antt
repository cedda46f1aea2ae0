-- A state as data: the codes of its parts, with which it can be what a type of the program is seen as.
use Rattle.std.specs.Prelude.{◌≡◌, ℕ, ℤ, Bool, cond, ◌==◌, List, [], ◌∷◌, refl}
use Rattle.std.specs.Coded.{Coded, code_by, coded×, coded_ℕ, coded_ℤ, coded_bool, coded_list}
use Rattle.std.specs.FinMap as map
use Rattle.std.specs.FinSet as set
use Rattle.sync_data.specs.Orders.{name_cmp, value_cmp, value_rank, value_number, value_nanos, value_bytes, value_key, value_of, value_of-parts, key_rank, key_number, key_bytes, key_of, key_of-parts}
use Rattle.sync_data.specs.declared.key.Key.{Key}
use Rattle.sync_data.specs.declared.value.Value.{Value}
use Rattle.sync_data.specs.declared.value.Value.TheVariants as values
use Rattle.sync_data.specs.declared.column.Column.{Column}
use Rattle.sync_base.specs.States.{State, Table, Cell, Cells, One, Many, Members, Dict, object_cmp, cell_rank, key_rank_of, shape_rank}
use Rattle.sync_base.specs.Merged.{kind_rank, target_of}
use Rattle.sync_base.specs.Lemmas.Equal.{key_kind_of, key_kind_of-rank, kind_of, kind_of-rank, shape_of, shape_of-rank}

abbrev pub coded_bytes : Coded (List ℕ)
coded_bytes = coded_list coded_ℕ

abbrev pub coded_key : Coded Key
coded_key = code_by (ℕ × (ℤ × List ℕ)) (coded× coded_ℕ (coded× coded_ℤ coded_bytes)) (λ k. (key_rank k, (key_number k, key_bytes k))) (λ p. key_of p.0 p.1.0 p.1.1) key_of-parts

abbrev pub coded_value : Coded Value
coded_value =
    code_by (ℕ × (ℤ × (ℤ × (List ℕ × Key)))) (coded× coded_ℕ (coded× coded_ℤ (coded× coded_ℤ (coded× coded_bytes coded_key))))
    (λ v. (value_rank v, (value_number v, (value_nanos v, (value_bytes v, value_key v))))) (λ p. value_of p.0 p.1.0 p.1.1.0 p.1.1.1.0 p.1.1.1.1) value_of-parts

pub column_back : (c : Column) → ◌≡◌ {A = Column} (record { kind = kind_of (kind_rank c.kind) (target_of c.kind); nullable = c.nullable; shape = shape_of (shape_rank c.shape) }) c
column_back c = λ i. record { kind = kind_of-rank c.kind i; nullable = c.nullable; shape = shape_of-rank c.shape i }

abbrev pub coded_column : Coded Column
coded_column =
    code_by ((ℕ × List ℕ) × (Bool × ℕ)) (coded× (coded× coded_ℕ coded_bytes) (coded× coded_bool coded_ℕ))
    (λ c. ((kind_rank c.kind, target_of c.kind), (c.nullable, shape_rank c.shape))) (λ p. record { kind = kind_of p.0.0 p.0.1; nullable = p.1.0; shape = shape_of p.1.1 }) column_back

pub table_back : (t : Table) → ◌≡◌ {A = Table} (record { key = key_kind_of (key_rank_of t.key); columns = t.columns }) t
table_back t = λ i. record { key = key_kind_of-rank t.key i; columns = t.columns }

abbrev pub coded_table : Coded Table
coded_table = code_by (ℕ × map.FinMap name_cmp Column) (coded× coded_ℕ (map.code coded_bytes coded_column)) (λ t. (key_rank_of t.key, t.columns)) (λ p. record { key = key_kind_of p.0; columns = p.1 }) table_back

-- what a cell holds, where it is of that shape
abbrev pub cell_items : Cell → List Value
cell_items (One v) = v ∷ []
cell_items (Many xs) = xs
cell_items (Members xs) = []
cell_items (Dict m) = []

abbrev pub cell_members : Cell → set.FinSet value_cmp
cell_members (One v) = set.empty
cell_members (Many xs) = set.empty
cell_members (Members xs) = xs
cell_members (Dict m) = set.empty

abbrev pub cell_bindings : Cell → map.FinMap name_cmp Value
cell_bindings (One v) = map.empty
cell_bindings (Many xs) = map.empty
cell_bindings (Members xs) = map.empty
cell_bindings (Dict m) = m

abbrev pub first_of_items : List Value → Value
first_of_items [] = values.Null
first_of_items (v ∷ vs) = v

abbrev pub cell_of : ℕ → List Value → set.FinSet value_cmp → map.FinMap name_cmp Value → Cell
cell_of n xs s m = cond (n == 0) (One (first_of_items xs)) (cond (n == 1) (Many xs) (cond (n == 2) (Members s) (Dict m)))

pub cell_back : (x : Cell) → cell_of (cell_rank x) (cell_items x) (cell_members x) (cell_bindings x) ≡ x
cell_back (One v) = refl
cell_back (Many xs) = refl
cell_back (Members xs) = refl
cell_back (Dict m) = refl

abbrev pub coded_cell : Coded Cell
coded_cell =
    code_by (ℕ × (List Value × (set.FinSet value_cmp × map.FinMap name_cmp Value))) (coded× coded_ℕ (coded× (coded_list coded_value) (coded× (set.code coded_value) (map.code coded_bytes coded_value))))
    (λ x. (cell_rank x, (cell_items x, (cell_members x, cell_bindings x)))) (λ p. cell_of p.0 p.1.0 p.1.1.0 p.1.1.1) cell_back

abbrev pub coded_state : Coded State
coded_state =
    code_by (map.FinMap name_cmp Table × map.FinMap object_cmp Cells) (coded× (map.code coded_bytes coded_table) (map.code (coded× coded_bytes coded_key) (map.code coded_bytes coded_cell)))
    (λ s. (s.tables, s.objects)) (λ p. record { tables = p.0; objects = p.1 }) (λ _. refl)
