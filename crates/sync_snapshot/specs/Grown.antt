-- What `grown` answers, by the model's answer.
use Rattle.std.specs.Prelude.{◌≡◌, ℕ, List, map, Result, Ok, Err}
use Rattle.sync_data.specs.Payload.{Changes}
use Rattle.sync_data.specs.declared.instr.Instr.{Instr}
use Rattle.sync_base.specs.States.{State}
use Rattle.sync_snapshot.specs.declared.growing.GrowRefusal.{GrowRefusal}
use Rattle.sync_snapshot.specs.declared.growing.GrowRefusal.TheVariants as refusals

-- the lists of instructions of changesets
abbrev pub lists_of : List Changes → List (List Instr)
lists_of parts = map (λ part. part.instrs) parts

-- the part at that place is named; out of memory, nothing is said
abbrev pub Names : GrowRefusal → Result State ℕ → Type 0
Names (refusals.BadPart place) r = r ≡ Err place
Names refusals.NoMemory r = Unit {0}

-- the state that the model has, or the part that it names
abbrev pub Grows : Result State GrowRefusal → Result State ℕ → Type 0
Grows (Ok s) r = r ≡ Ok s
Grows (Err why) r = Names why r
