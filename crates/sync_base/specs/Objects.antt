-- Which object an instruction is about, which cell it changes, pairs that are apart, and what is left of an instruction.
use Rattle.std.specs.Prelude.{◌≡◌, Bool, true, false, if◌then◌else◌, Option, None, Some, Ok, IfOk}
use Rattle.std.specs.Ordering.{eq_by_cmp}
use Rattle.sync_data.specs.declared.instr.Instr.{Instr}
use Rattle.sync_data.specs.Payload.{payload}
use Rattle.sync_base.specs.Effects.{ObjectName, CellPath, Effect, NewTable, NewColumn, Create, Erase, Change, effect_of}
use Rattle.sync_base.specs.States.{object_cmp}
use Rattle.sync_base.specs.Rules.{meeting}

-- of a table and a column, none
abbrev pub object_of : Effect → Option ObjectName
object_of (NewTable t k) = None
object_of (NewColumn t c def) = None
object_of (Create o) = Some o
object_of (Erase o) = Some o
object_of (Change p e) = Some p.0

-- the cell that it changes: of an object or of the schema, none
abbrev pub cell_in : Effect → Option CellPath
cell_in (Change p e) = Some p
cell_in d = None

-- they are about two objects, or one is about an object and the other about a table or a column
abbrev pub are_apart : Option ObjectName → Option ObjectName → Bool
are_apart None None = false
are_apart (Some o) None = true
are_apart None (Some p) = true
are_apart (Some o) (Some p) = if eq_by_cmp object_cmp o p then false else true

-- apart, both stay as they are
abbrev pub ApartStay : Instr → Instr → Type 0
ApartStay a b = (later : Bool) → are_apart (object_of (effect_of a)) (object_of (effect_of b)) ≡ true → meeting a b later ≡ Ok (record { left = Some a; right = Some b })

-- what is left of an instruction is about its object
abbrev pub IsAbout : Option ObjectName → Option Instr → Type 0
IsAbout o None = Unit {0}
IsAbout o (Some i) = object_of (effect_of i) ≡ o

abbrev pub ObjectsStay : Instr → Instr → Type 0
ObjectsStay a b = (later : Bool) → IfOk (meeting a b later) (λ o. IsAbout (object_of (effect_of a)) o.left × IsAbout (object_of (effect_of b)) o.right)

-- what is left of an instruction carries as many bytes
abbrev pub CarriesAsMuch : Instr → Option Instr → Type 0
CarriesAsMuch i None = Unit {0}
CarriesAsMuch i (Some j) = payload j ≡ payload i

abbrev pub PayloadsStay : Instr → Instr → Type 0
PayloadsStay a b = (later : Bool) → IfOk (meeting a b later) (λ o. CarriesAsMuch a o.left × CarriesAsMuch b o.right)
