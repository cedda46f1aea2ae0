-- Worked cases: lists of instructions that cross, with results that were worked out by hand.
use Rattle.std.proofs.Common.{◌≡◌, ℕ, pos, true, false, List, [], ◌∷◌, Ok, Err, refl}
use Rattle.sync_data.specs.declared.key.Key.TheVariants as keys
use Rattle.sync_data.specs.declared.value.Value.TheVariants as values
use Rattle.sync_data.specs.declared.column.Kind.{Kind}
use Rattle.sync_data.specs.declared.column.Kind.TheVariants as kinds
use Rattle.sync_data.specs.declared.column.Shape.TheVariants as shapes
use Rattle.sync_data.specs.declared.instr.CellName.{CellName}
use Rattle.sync_data.specs.declared.instr.Instr.{Instr}
use Rattle.sync_data.specs.declared.instr.Instr.TheVariants as instrs
use Rattle.sync_base.specs.declared.answers.Mismatch.TheVariants as mismatches
use Rattle.sync_theory.specs.Lists.{cross}
use Rattle.sync_law.specs.Instrs.{meet}

-- the table `t`, the list `l` of its object 1, and the texts `x`, `y` and `z`
abbrev t : List ℕ
t = 116 ∷ []

abbrev l : CellName
l = record { table = t; key = keys.Int (pos 1); column = 108 ∷ [] }

abbrev inserted : ℕ → ℕ → ℕ → Instr
inserted place prior letter = instrs.ListInsert (record { cell = l; spot = record { place = place; prior = prior }; value = values.Text (letter ∷ []) })

abbrev column : List ℕ → Kind → Instr
column name kind = instrs.AddColumn (record { table = t; column = name; def = record { kind = kind; nullable = false; shape = shapes.One } })

abbrev created : Instr
created = instrs.CreateObject (record { table = t; key = keys.Int (pos 1) })

-- "age" and "b"
abbrev age : List ℕ
age = 97 ∷ 103 ∷ 101 ∷ []

abbrev b : List ℕ
b = 98 ∷ []

-- two insertions cross one at the same place: the earlier side stands first
later_left : cross (λ a c. meet a c true) (inserted 0 0 120 ∷ inserted 1 1 121 ∷ []) (inserted 0 0 122 ∷ []) ≡ Ok (inserted 1 1 120 ∷ inserted 2 2 121 ∷ [], inserted 0 2 122 ∷ [])
later_left = refl

later_right : cross (λ a c. meet a c false) (inserted 0 0 120 ∷ inserted 1 1 121 ∷ []) (inserted 0 0 122 ∷ []) ≡ Ok (inserted 0 1 120 ∷ inserted 1 2 121 ∷ [], inserted 2 2 122 ∷ [])
later_right = refl

-- one column of two kinds is stuck at the second of both sides
two_kinds : cross (λ a c. meet a c true) (created ∷ column age kinds.Int ∷ []) (column b kinds.Int ∷ column age kinds.Text ∷ []) ≡ Err (1, 1, mismatches.ColumnsDiffer)
two_kinds = refl
