-- Instructions of lists: what they do where, and the same elsewhere.
use Rattle.std.specs.Prelude.{◌≡◌, ℕ, Bool, List, [], ◌∷◌, Option, None, Some, Ok}
use Rattle.std.specs.Option.{option_map}
use Rattle.sync_data.specs.Spot as places
use Rattle.sync_data.specs.Payload.{Changes}
use Rattle.sync_data.specs.declared.value.Value.{Value}
use Rattle.sync_data.specs.declared.instr.CellName.{CellName}
use Rattle.sync_data.specs.declared.instr.Instr.{Instr}
use Rattle.sync_data.specs.declared.instr.Instr.TheVariants as instrs
use Rattle.sync_base.specs.Effects.{CellPath, effect_of}
use Rattle.sync_base.specs.Rules.{spot}
use Rattle.sync_law.specs.Instrs.{meet}
use Rattle.sync_base.specs.Objects.{cell_in}
use Rattle.list_places.specs.declared.places.Does.{Does}
use Rattle.list_places.specs.declared.places.Does.TheVariants.{Inserts, Erases, Updates}
use Rattle.list_places.specs.declared.moves.ListAction.{ListAction}
use Rattle.list_places.specs.declared.moves.ListAction.TheVariants.{Insert, Erase, Update}
use Rattle.list_places.specs.declared.moves.Moves.{Moves}

-- ---- an instruction of a list by what it does, and the value that it bears
abbrev pub instr_at : CellName → Value → Does → ℕ → ℕ → Instr
instr_at c v Inserts p n = instrs.ListInsert (record { cell = c; spot = spot p n; value = v })
instr_at c v Erases p n = instrs.ListErase (record { cell = c; spot = spot p n })
instr_at c v Updates p n = instrs.ListUpdate (record { cell = c; spot = spot p n; value = v })

abbrev pub instr_left : CellName → Value → Does → ℕ → Option ℕ → Option Instr
instr_left c v d n None = None
instr_left c v d n (Some p) = Some (instr_at c v d p n)

-- the same by an action
abbrev pub acting : CellName → Value → ListAction → Instr
acting c v (Insert s) = instrs.ListInsert (record { cell = c; spot = s; value = v })
acting c v (Erase s) = instrs.ListErase (record { cell = c; spot = s })
acting c v (Update s) = instrs.ListUpdate (record { cell = c; spot = s; value = v })

abbrev pub kind_of : ListAction → Does
kind_of (Insert s) = Inserts
kind_of (Erase s) = Erases
kind_of (Update s) = Updates

-- ---- what an instruction does in its list, if it is one of a list
abbrev pub action_at : Instr → Option ListAction
action_at (instrs.ListInsert i) = Some (Insert i.spot)
action_at (instrs.ListErase i) = Some (Erase i.spot)
action_at (instrs.ListUpdate i) = Some (Update i.spot)
action_at i = None

-- of one instruction alone; several do nothing that an action tells
abbrev pub action_in : List Instr → Option ListAction
action_in [] = None
action_in (i ∷ []) = action_at i
action_in (i ∷ j ∷ is) = None

abbrev pub kind_in : List Instr → Option Does
kind_in is = option_map kind_of (action_in is)

-- the cell that the first of them changes
abbrev pub first_cell : List Instr → Option CellPath
first_cell [] = None
first_cell (i ∷ is) = cell_in (effect_of i)

-- ---- elsewhere
abbrev pub inserted_at : places.Spot → Instr → Instr
inserted_at s (instrs.ListInsert i) = instrs.ListInsert (record { cell = i.cell; spot = s; value = i.value })
inserted_at s i = i

abbrev pub erased_at : places.Spot → Instr → Instr
erased_at s (instrs.ListErase i) = instrs.ListErase (record { cell = i.cell; spot = s })
erased_at s i = i

abbrev pub updated_at : places.Spot → Instr → Instr
updated_at s (instrs.ListUpdate i) = instrs.ListUpdate (record { cell = i.cell; spot = s; value = i.value })
updated_at s i = i

-- an instruction that does so does it there; another stays
abbrev pub moved : ListAction → Instr → Instr
moved (Insert s) i = inserted_at s i
moved (Erase s) i = erased_at s i
moved (Update s) i = updated_at s i

-- the first one of several does
abbrev pub moved_first : ListAction → List Instr → List Instr
moved_first a [] = []
moved_first a (i ∷ is) = moved a i ∷ is

abbrev pub moved_changes : ListAction → Changes → Changes
moved_changes a c = record { ms = c.ms; instrs = moved_first a c.instrs }

-- or stays, where no action is told
abbrev pub shown : Option ListAction → List Instr → List Instr
shown None is = is
shown (Some a) is = moved_first a is

-- these are shown so by some action, or as they are
pub record IsShown (was is : List Instr) : Type 0 where
  pub action : Option ListAction
  pub stands : shown action was ≡ is

abbrev pub shown_changes : Option ListAction → Changes → Changes
shown_changes a c = record { ms = c.ms; instrs = shown a c.instrs }

-- ---- two that met
-- in any list, with any values, both stay, and do these afterwards
pub record Move (x y : ListAction) (later : Bool) (m : Moves) : Type 0 where
  pub met : (c : CellName) (v w : Value) → meet (acting c v x) (acting c w y) later ≡ Ok (Some (acting c v m.left), Some (acting c w m.right))
  pub left : kind_of m.left ≡ kind_of x
  pub right : kind_of m.right ≡ kind_of y
