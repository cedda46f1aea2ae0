-- Columns and tables as data.
use Rattle.std.specs.Prelude.{◌≡◌, ℕ, Bool, cond, ◌==◌, List, refl}
use Rattle.std.specs.Coded.{Coded, code_by, coded×, coded_ℕ, coded_bool, coded_list}
use Rattle.std.specs.FinMap as map
use Rattle.sync_data.specs.Orders.{name_cmp}
use Rattle.sync_data.specs.declared.key.KeyKind.{KeyKind}
use Rattle.sync_data.specs.declared.key.KeyKind.TheVariants as key_kinds
use Rattle.sync_data.specs.declared.column.Column.{Column}
use Rattle.sync_data.specs.declared.column.Kind.{Kind}
use Rattle.sync_data.specs.declared.column.Kind.TheVariants as kinds
use Rattle.sync_data.specs.declared.column.Shape.{Shape}
use Rattle.sync_data.specs.declared.column.Shape.TheVariants as shapes
use Rattle.sync_base.specs.Merged.{kind_rank, target_of}
use Rattle.sync_base.specs.States.{Table, Tables, key_rank_of, shape_rank}

abbrev pub coded_bytes : Coded (List ℕ)
coded_bytes = coded_list coded_ℕ

abbrev pub key_kind_of : ℕ → KeyKind
key_kind_of n = cond (n == 0) key_kinds.Int (cond (n == 1) key_kinds.Text key_kinds.Uuid)

pub key_kind_back : (k : KeyKind) → key_kind_of (key_rank_of k) ≡ k
key_kind_back key_kinds.Int = refl
key_kind_back key_kinds.Text = refl
key_kind_back key_kinds.Uuid = refl

abbrev pub kind_of : ℕ → List ℕ → Kind
kind_of n t = cond (n == 0) kinds.Int (cond (n == 1) kinds.Bool (cond (n == 2) kinds.Text (cond (n == 3) kinds.Bytes (cond (n == 4) kinds.Time (cond (n == 5) kinds.Uuid (kinds.Link t))))))

pub kind_back : (k : Kind) → kind_of (kind_rank k) (target_of k) ≡ k
kind_back kinds.Int = refl
kind_back kinds.Bool = refl
kind_back kinds.Text = refl
kind_back kinds.Bytes = refl
kind_back kinds.Time = refl
kind_back kinds.Uuid = refl
kind_back (kinds.Link t) = refl

abbrev pub shape_of : ℕ → Shape
shape_of n = cond (n == 0) shapes.One (cond (n == 1) shapes.List (cond (n == 2) shapes.Set shapes.Dict))

pub shape_back : (k : Shape) → shape_of (shape_rank k) ≡ k
shape_back shapes.One = refl
shape_back shapes.List = refl
shape_back shapes.Set = refl
shape_back shapes.Dict = refl

pub column_back : (c : Column) → ◌≡◌ {A = Column} (record { kind = kind_of (kind_rank c.kind) (target_of c.kind); nullable = c.nullable; shape = shape_of (shape_rank c.shape) }) c
column_back c = λ i. record { kind = kind_back c.kind i; nullable = c.nullable; shape = shape_back c.shape i }

abbrev pub coded_column : Coded Column
coded_column =
    code_by ((ℕ × List ℕ) × (Bool × ℕ)) (coded× (coded× coded_ℕ coded_bytes) (coded× coded_bool coded_ℕ))
    (λ c. ((kind_rank c.kind, target_of c.kind), (c.nullable, shape_rank c.shape))) (λ p. record { kind = kind_of p.0.0 p.0.1; nullable = p.1.0; shape = shape_of p.1.1 }) column_back

pub table_back : (t : Table) → ◌≡◌ {A = Table} (record { key = key_kind_of (key_rank_of t.key); columns = t.columns }) t
table_back t = λ i. record { key = key_kind_back t.key i; columns = t.columns }

abbrev pub coded_table : Coded Table
coded_table = code_by (ℕ × map.FinMap name_cmp Column) (coded× coded_ℕ (map.code coded_bytes coded_column)) (λ t. (key_rank_of t.key, t.columns)) (λ p. record { key = key_kind_of p.0; columns = p.1 }) table_back

abbrev pub coded_tables : Coded Tables
coded_tables = map.code coded_bytes coded_table
