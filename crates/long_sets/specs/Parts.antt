-- Instructions of one list, and all others, apart from each other.
use Rattle.std.specs.Prelude.{◌≡◌, Bool, false, List, [], ◌∷◌, Option, Some, None, if◌then◌else◌, map}
use Rattle.std.specs.Ordering.{eq_by_cmp}
use Rattle.sync_data.specs.declared.instr.Instr.{Instr}
use Rattle.sync_data.specs.declared.instr.Instr.TheVariants as instrs
use Rattle.sync_base.specs.Effects.{CellPath, path_of}
use Rattle.sync_base.specs.Merged.{path_cmp}
use Rattle.sync_index.specs.Touched.{Apart}
use Rattle.sync_rivals.specs.Homes.{InCell, Placed}
use Rattle.sync_rivals.specs.Strangers.{place_of}
use Rattle.sync_theory.specs.Changesets.{Changeset}
use Rattle.sync_data.specs.declared.entry.Stamp.{Stamp}
use Rattle.sync_law.specs.Instrs.{meet}
use Rattle.list_lane.specs.Told.{stamp_of}
use Rattle.slot_law.specs.Slots.{all_through, slots_of, on_right}

-- an instruction is one of the list in a cell
abbrev pub is_of : CellPath → Instr → Bool
is_of p (instrs.ListInsert i) = eq_by_cmp path_cmp (path_of i.cell) p
is_of p (instrs.ListErase i) = eq_by_cmp path_cmp (path_of i.cell) p
is_of p (instrs.ListUpdate i) = eq_by_cmp path_cmp (path_of i.cell) p
is_of p i = false

abbrev pub one_of : CellPath → Option Instr → Option Instr
one_of p None = None
one_of p (Some i) = if is_of p i then Some i else None

abbrev pub other_of : CellPath → Option Instr → Option Instr
other_of p None = None
other_of p (Some i) = if is_of p i then None else Some i

-- those of the list, and those that aren't, each in its place
abbrev pub list_of : CellPath → List (Option Instr) → List (Option Instr)
list_of p xs = map (one_of p) xs

abbrev pub others_of : CellPath → List (Option Instr) → List (Option Instr)
others_of p xs = map (other_of p) xs

-- both together again
abbrev pub either_one : Option Instr → Option Instr → Option Instr
either_one None y = y
either_one (Some i) y = Some i

abbrev pub together : List (Option Instr) → List (Option Instr) → List (Option Instr)
together [] ys = ys
together (x ∷ xs) [] = x ∷ xs
together (x ∷ xs) (y ∷ ys) = either_one x y ∷ together xs ys

-- it stays as it is when it meets one of the list, and so does that, wherever both stand
abbrev pub Stranger : CellPath → Option Instr → Type 0
Stranger p None = Unit {0}
Stranger p (Some i) = (a b : Instr) → place_of a ≡ place_of i → place_of b ≡ InCell p Placed → Apart a b

abbrev pub AllStrangers : CellPath → List (Option Instr) → Type 0
AllStrangers p [] = Unit {0}
AllStrangers p (x ∷ xs) = Stranger p x × AllStrangers p xs

-- instructions with one stamp cross the slots of a changeset with another
abbrev pub CrossAll : Stamp → Stamp → List (Option Instr) → List (Option Instr) → List (Option Instr) → List (Option Instr) → Type 0
CrossAll own other ys xs zs us = (t e : Changeset Instr) → stamp_of e ≡ own → stamp_of t ≡ other → all_through (on_right meet e) (slots_of t xs) ys ≡ Some (slots_of t us, zs)
