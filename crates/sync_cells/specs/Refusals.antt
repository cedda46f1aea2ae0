-- When a cell refuses an edit.
use Rattle.std.specs.Prelude.{◌≡◌, Bool, true, false, if◌then◌else◌, Option, None, Some, Result, Ok, Err}
use Rattle.sync_data.specs.declared.value.Value.{Value}
use Rattle.sync_data.specs.declared.value.Value.TheVariants as values
use Rattle.sync_base.specs.States.{Cell, One, cell_rank}
use Rattle.sync_base.specs.Effects as effects
use Rattle.sync_base.specs.Effects.{Edit}
use Rattle.sync_base.specs.Checks.{has_shape, is_prior}
use Rattle.sync_cells.specs.declared.refusal.CellRefusal.{CellRefusal}
use Rattle.sync_cells.specs.declared.refusal.CellRefusal.TheVariants as refusals
use Rattle.sync_cells.specs.declared.refusal.WrongShape.{WrongShape}
use Rattle.sync_cells.specs.declared.edit.Edit as cell_edit
use Rattle.sync_cells.specs.declared.edit.Edit.TheVariants as edits

-- a wrong shape alone is refused
abbrev pub shape_refusal : Edit → Cell → Option CellRefusal
shape_refusal e x = if has_shape e (cell_rank x) then None else Some refusals.WrongShape

-- then a prior length that isn't the list's
abbrev pub list_refusal : Edit → Cell → Option CellRefusal
list_refusal e x = if has_shape e (cell_rank x) then (if is_prior e x then None else Some refusals.BadPrior) else Some refusals.WrongShape

-- to an integer or null something may be added
abbrev pub is_summand : Value → Bool
is_summand (values.Int n) = true
is_summand values.Null = true
is_summand v = false

abbrev pub sum_refusal : Cell → Option CellRefusal
sum_refusal (One v) = if is_summand v then None else Some refusals.WrongKind
sum_refusal x = Some refusals.WrongShape

-- the refusal of an edit of the code; content that was taken out always goes back
abbrev pub edit_refusal : cell_edit.Edit → Cell → Option CellRefusal
edit_refusal (edits.Set v) x = shape_refusal (effects.Set v) x
edit_refusal (edits.Add n) x = sum_refusal x
edit_refusal (edits.Replace s v) x = list_refusal (effects.Replace s v) x
edit_refusal (edits.Insert s v) x = list_refusal (effects.Insert s v) x
edit_refusal (edits.Remove s) x = list_refusal (effects.Remove s) x
edit_refusal (edits.Include v) x = shape_refusal (effects.Include v) x
edit_refusal (edits.Exclude v) x = shape_refusal (effects.Exclude v) x
edit_refusal (edits.Bind k v) x = shape_refusal (effects.Bind k v) x
edit_refusal edits.Empty x = shape_refusal effects.Empty x
edit_refusal (edits.Restore c) x = None

-- the answer of a call that takes no memory
abbrev pub answer_of : Option CellRefusal → Result (Unit {0}) CellRefusal
answer_of None = Ok tt
answer_of (Some e) = Err e

abbrev pub shape_answer : Bool → Result (Unit {0}) WrongShape
shape_answer true = Ok tt
shape_answer false = Err (record {})

-- the refusal itself, where it isn't out of memory
abbrev pub cause_of : CellRefusal → Option CellRefusal
cause_of refusals.NoMemory = None
cause_of e = Some e

-- what is refused is the refusal found, and where none is found out of memory alone
abbrev pub IsRefusedBy : {A : Type 0} → Option CellRefusal → Result A CellRefusal → Type 0
IsRefusedBy found (Ok a) = found ≡ None
IsRefusedBy found (Err e) = found ≡ cause_of e
