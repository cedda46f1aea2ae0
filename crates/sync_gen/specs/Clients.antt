-- The clients of a generated exchange, and its first transaction.
use Rattle.std.specs.Prelude.{ℕ, Bool, true, false, List, [], ◌∷◌, ◌++◌, codes, decimal}
use Rattle.sync_data.specs.declared.key.KeyKind.TheVariants as key_kinds
use Rattle.sync_data.specs.declared.column.Kind.{Kind}
use Rattle.sync_data.specs.declared.column.Kind.TheVariants as kinds
use Rattle.sync_data.specs.declared.column.Shape.{Shape}
use Rattle.sync_data.specs.declared.column.Shape.TheVariants as shapes
use Rattle.sync_data.specs.declared.instr.Instr.{Instr}
use Rattle.sync_data.specs.declared.instr.Instr.TheVariants as instrs
use Rattle.sync_gen.specs.Edits.{table}

-- `c1` to `c8`
abbrev pub name_of : ℕ → List ℕ
name_of client = codes "c" ++ decimal client

-- the bytes of the uuids 00000000-0000-4000-8000-000000000001 to ..8
abbrev pub id_of : ℕ → List ℕ
id_of client = 0 ∷ 0 ∷ 0 ∷ 0 ∷ 0 ∷ 0 ∷ 64 ∷ 0 ∷ 128 ∷ 0 ∷ 0 ∷ 0 ∷ 0 ∷ 0 ∷ 0 ∷ client ∷ []

abbrev pub add_column : List ℕ → Kind → Bool → Shape → Instr
add_column name kind nullable shape = instrs.AddColumn (record { table = table; column = name; def = record { kind = kind; nullable = nullable; shape = shape } })

-- the table and its columns
abbrev pub first_edits_of : List Instr
first_edits_of =
    instrs.AddTable (record { table = table; key = key_kinds.Int })
    ∷ add_column (codes "n") kinds.Int false shapes.One
    ∷ add_column (codes "m") kinds.Int true shapes.One
    ∷ add_column (codes "s") kinds.Text true shapes.One
    ∷ add_column (codes "l") kinds.Text false shapes.List
    ∷ add_column (codes "u") kinds.Int false shapes.Set
    ∷ add_column (codes "k") (kinds.Link table) true shapes.One
    ∷ []
