-- Places in lists, as the calls for them find them.
use Rattle.std.specs.Prelude.{◌≡◌, ◌<◌, ℕ, Bool, false, Option, None, Some, Result, Ok, Err}
use Rattle.sync_data.specs.Spot.{Spot}
use Rattle.sync_data.specs.declared.instr.CellName.{CellName}
use Rattle.sync_data.specs.declared.value.Value.{Value}
use Rattle.sync_base.specs.Checks.{first_failed}
use Rattle.sync_base.specs.Effects.{path_of}
use Rattle.sync_base.specs.declared.answers.Break.{Break}
use Rattle.sync_store.specs.Asking.{change_checks, has_size, takes}
use Rattle.sync_app.specs.Drafts.{Draft, objects_of}
use Rattle.sync_app.specs.Wants.{is_wanted}
use Rattle.sync_app.specs.declared.refusal.Refusal.{Refusal}
use Rattle.sync_app.specs.declared.refusal.Refusal.TheVariants as refusals
use Rattle.sync_app.specs.declared.wanted.Wanted.TheVariants as wanted

-- the break of an instruction for a list that bears its length, and that value if it has one
abbrev pub list_break : Draft → CellName → Option Value → Option Break
list_break d c v = first_failed (change_checks (objects_of d) (path_of c) (is_wanted wanted.List) (takes (objects_of d).tables v) (has_size None))

-- the length of a list is answered, which fits an instruction; or the break is found
abbrev pub Measures : Result ℕ Refusal → ℕ → Option Break → Type 0
Measures (Ok n) len found = (n ≡ len) × (found ≡ None)
Measures (Err (refusals.Break b)) len found = found ≡ Some b
Measures (Err refusals.ListFull) len found = 4294967295 < len
Measures (Err refusals.NoMemory) len found = Unit {0}
Measures (Err why) len found = ⊥

-- the place is answered, or the break is found, or it lies outside
abbrev pub Places : Result Spot Refusal → Bool → ℕ → ℕ → Option Break → Type 0
Places (Ok spot) inside place len found = spot ≡ record { place = place; prior = len }
Places (Err (refusals.OutOfRange p l)) inside place len found = (inside ≡ false) × (p ≡ place) × (l ≡ len) × (found ≡ None)
Places (Err why) inside place len found = Measures (Err why) len found
