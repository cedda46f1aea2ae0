-- An insertion of another client, as it is made to fit the list that is there.
use Rattle.std.specs.Prelude.{ℕ, nat_le, if◌then◌else◌, length, Option, None, Some}
use Rattle.sync_data.specs.Spot.{Spot}
use Rattle.sync_data.specs.declared.instr.Instr.{Instr}
use Rattle.sync_data.specs.declared.instr.Instr.TheVariants as instrs
use Rattle.sync_base.specs.Effects.{path_of}
use Rattle.sync_base.specs.States.{State, Cell, One, Many, Members, Dict, cell_at}

-- the lesser of two
abbrev pub least : ℕ → ℕ → ℕ
least m n = if nat_le m n then m else n

-- the least of its place and the list's length, in a list of that length; no spot lies in a list of 2^32 elements and more
abbrev pub spot_in : Spot → ℕ → Spot
spot_in s n = if nat_le n 4294967295 then record { place = least s.place n; prior = n } else s

-- where a list is there
abbrev pub spot_at : Spot → Option Cell → Spot
spot_at s (Some (Many xs)) = spot_in s (length xs)
spot_at s (Some (One v)) = s
spot_at s (Some (Members vs)) = s
spot_at s (Some (Dict m)) = s
spot_at s None = s

-- an instruction, as far as it can be made to fit a state
abbrev pub adapt : State → Instr → Instr
adapt s (instrs.AddTable i) = instrs.AddTable i
adapt s (instrs.AddColumn i) = instrs.AddColumn i
adapt s (instrs.CreateObject i) = instrs.CreateObject i
adapt s (instrs.EraseObject i) = instrs.EraseObject i
adapt s (instrs.Update i) = instrs.Update i
adapt s (instrs.AddInteger i) = instrs.AddInteger i
adapt s (instrs.ListUpdate i) = instrs.ListUpdate i
adapt s (instrs.ListInsert i) = instrs.ListInsert (record { cell = i.cell; spot = spot_at i.spot (cell_at s (path_of i.cell).0 i.cell.column); value = i.value })
adapt s (instrs.ListErase i) = instrs.ListErase i
adapt s (instrs.SetInsert i) = instrs.SetInsert i
adapt s (instrs.SetErase i) = instrs.SetErase i
adapt s (instrs.DictUpdate i) = instrs.DictUpdate i
adapt s (instrs.Clear i) = instrs.Clear i
