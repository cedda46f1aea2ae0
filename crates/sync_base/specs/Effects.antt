-- An instruction by its effect. There are five kinds of effects; nine kinds of instructions change one cell, each by its edit.
use Rattle.std.specs.Prelude.{ℕ, ℤ, Bool, true, List, Option, nat_lt, nat_le}
use Rattle.sync_data.specs.Spot.{Spot}
use Rattle.sync_data.specs.declared.key.Key.{Key}
use Rattle.sync_data.specs.declared.key.KeyKind.{KeyKind}
use Rattle.sync_data.specs.declared.value.Value.{Value}
use Rattle.sync_data.specs.declared.column.Column.{Column}
use Rattle.sync_data.specs.declared.instr.CellName.{CellName}
use Rattle.sync_data.specs.declared.instr.Instr.{Instr}
use Rattle.sync_data.specs.declared.instr.Instr.TheVariants as instrs

-- an object: its table and its key
abbrev pub ObjectName : Type 0
ObjectName = List ℕ × Key

-- a cell: its object and its column
abbrev pub CellPath : Type 0
CellPath = ObjectName × List ℕ

pub data Edit : Type 0 where
  Set : (value : Value) → Edit
  Add : (amount : ℤ) → Edit
  Replace : (spot : Spot) (value : Value) → Edit
  Insert : (spot : Spot) (value : Value) → Edit
  Remove : (spot : Spot) → Edit
  Include : (value : Value) → Edit
  Exclude : (value : Value) → Edit
  Bind : (at : List ℕ) (value : Option Value) → Edit
  Empty : Edit

pub data Effect : Type 0 where
  NewTable : (table : List ℕ) (key : KeyKind) → Effect
  NewColumn : (table : List ℕ) (column : List ℕ) (def : Column) → Effect
  Create : (object : ObjectName) → Effect
  Erase : (object : ObjectName) → Effect
  Change : (cell : CellPath) (edit : Edit) → Effect

abbrev pub path_of : CellName → CellPath
path_of c = ((c.table, c.key), c.column)

abbrev pub effect_of : Instr → Effect
effect_of (instrs.AddTable i) = NewTable i.table i.key
effect_of (instrs.AddColumn i) = NewColumn i.table i.column i.def
effect_of (instrs.CreateObject i) = Create (i.table, i.key)
effect_of (instrs.EraseObject i) = Erase (i.table, i.key)
effect_of (instrs.Update i) = Change (path_of i.cell) (Set i.value)
effect_of (instrs.AddInteger i) = Change (path_of i.cell) (Add i.amount)
effect_of (instrs.ListUpdate i) = Change (path_of i.cell) (Replace i.spot i.value)
effect_of (instrs.ListInsert i) = Change (path_of i.cell) (Insert i.spot i.value)
effect_of (instrs.ListErase i) = Change (path_of i.cell) (Remove i.spot)
effect_of (instrs.SetInsert i) = Change (path_of i.cell) (Include i.value)
effect_of (instrs.SetErase i) = Change (path_of i.cell) (Exclude i.value)
effect_of (instrs.DictUpdate i) = Change (path_of i.cell) (Bind i.at i.value)
effect_of (instrs.Clear i) = Change (path_of i.cell) Empty

-- the instruction that has this effect: the table above, read from the right
abbrev pub cell_name : CellPath → CellName
cell_name p = record { table = p.0.0; key = p.0.1; column = p.1 }

abbrev pub instr_of : Effect → Instr
instr_of (NewTable t k) = instrs.AddTable (record { table = t; key = k })
instr_of (NewColumn t c def) = instrs.AddColumn (record { table = t; column = c; def = def })
instr_of (Create o) = instrs.CreateObject (record { table = o.0; key = o.1 })
instr_of (Erase o) = instrs.EraseObject (record { table = o.0; key = o.1 })
instr_of (Change p (Set v)) = instrs.Update (record { cell = cell_name p; value = v })
instr_of (Change p (Add n)) = instrs.AddInteger (record { cell = cell_name p; amount = n })
instr_of (Change p (Replace s v)) = instrs.ListUpdate (record { cell = cell_name p; spot = s; value = v })
instr_of (Change p (Insert s v)) = instrs.ListInsert (record { cell = cell_name p; spot = s; value = v })
instr_of (Change p (Remove s)) = instrs.ListErase (record { cell = cell_name p; spot = s })
instr_of (Change p (Include v)) = instrs.SetInsert (record { cell = cell_name p; value = v })
instr_of (Change p (Exclude v)) = instrs.SetErase (record { cell = cell_name p; value = v })
instr_of (Change p (Bind k v)) = instrs.DictUpdate (record { cell = cell_name p; at = k; value = v })
instr_of (Change p Empty) = instrs.Clear (record { cell = cell_name p })

-- a place lies in the list whose length stands beside it: as an element, or as a gap
abbrev pub is_placed : Edit → Bool
is_placed (Replace s v) = nat_lt s.place s.prior
is_placed (Insert s v) = nat_le s.place s.prior
is_placed (Remove s) = nat_lt s.place s.prior
is_placed e = true

abbrev pub is_effect : Effect → Bool
is_effect (Change p e) = is_placed e
is_effect d = true
