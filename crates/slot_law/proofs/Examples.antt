-- Two transactions of a title and letters, and one of two letters and the title, by hand.
use Rattle.std.proofs.Common.{◌≡◌, ℕ, pos, List, [], ◌∷◌, Option, Some, None, refl}
use Rattle.sync_data.specs.declared.key.Key.TheVariants as keys
use Rattle.sync_data.specs.declared.value.Value.{Value}
use Rattle.sync_data.specs.declared.value.Value.TheVariants as values
use Rattle.sync_data.specs.declared.instr.CellName.{CellName}
use Rattle.sync_data.specs.declared.instr.Instr.{Instr}
use Rattle.sync_data.specs.declared.instr.Instr.TheVariants as instrs
use Rattle.sync_base.specs.Rules.{spot}
use Rattle.sync_theory.specs.Changesets.{Changeset}
use Rattle.sync_law.specs.Instrs.{meet}
use Rattle.slot_law.specs.Slots.{Item, all_through, flat, on_left}

abbrev cell : ℕ → CellName
cell c = record { table = 116 ∷ []; key = keys.Int (pos 1); column = c ∷ [] }

abbrev letter : ℕ → Value
letter a = values.Text (a ∷ [])

abbrev typed : ℕ → ℕ → ℕ → Option Instr
typed a p n = Some (instrs.ListInsert (record { cell = cell 108; spot = spot p n; value = letter a }))

abbrev titled : ℕ → Option Instr
titled a = Some (instrs.Update (record { cell = cell 111; value = letter a }))

abbrev head : ℕ → ℕ → ℕ → Changeset Instr
head origin number ms = record { origin = origin; number = number; ms = ms; instrs = [] }

abbrev first : List (Option Instr) → Item Instr
first xs = record { head = head 1 1 5; slots = xs }

abbrev second : List (Option Instr) → Item Instr
second xs = record { head = head 1 2 6; slots = xs }

crosses : all_through (on_left meet (head 2 1 7)) (flat (first (titled 1 ∷ typed 2 0 0 ∷ []) ∷ second (typed 3 1 1 ∷ []) ∷ [])) (typed 4 0 0 ∷ typed 5 1 1 ∷ titled 6 ∷ [])
    ≡ Some (flat (first (None ∷ typed 2 0 2 ∷ []) ∷ second (typed 3 1 3 ∷ []) ∷ []), typed 4 2 2 ∷ typed 5 3 3 ∷ titled 6 ∷ [])
crosses = refl
