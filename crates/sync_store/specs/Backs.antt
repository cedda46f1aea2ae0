-- What takes an instruction back, and then those before it.
use Rattle.std.specs.Prelude.{◌≡◌, ℕ, true, List, [], ◌∷◌, ◌++◌, None, Some, Result, Ok, Err, refl}
use Rattle.std.proofs.Common.{ap}
use Rattle.std.specs.FinMap as map
use Rattle.sync_data.specs.declared.instr.CellName.{CellName}
use Rattle.sync_base.specs.States.{State, Cell}
use Rattle.sync_base.specs.Maps.{map_with}
use Rattle.sync_data.specs.declared.instr.Instr.{Instr}
use Rattle.sync_base.specs.After.{after}
use Rattle.sync_base.specs.Checks.{break_of}
use Rattle.sync_base.specs.Effects.{path_of, effect_of, is_effect}
use Rattle.sync_schema.specs.Steps.{tables_without_column}
use Rattle.sync_cells.specs.Undoing.{done_if, inverse_at}
use Rattle.sync_maps.specs.Seen.{at_key}
use Rattle.sync_store.specs.declared.undo.Undo.{Undo}
use Rattle.sync_store.specs.declared.undo.Undo.TheVariants as undos
use Rattle.sync_store.specs.declared.refusals.ApplyRefusal.{ApplyRefusal}
use Rattle.sync_store.specs.declared.refusals.ApplyRefusal.TheVariants as applies
use Rattle.sync_store.specs.declared.refusals.AllRefusal.{AllRefusal}
use Rattle.sync_store.specs.declared.refusals.AllRefusal.TheVariants as refusals
use Rattle.sync_store.specs.Flat.{without_cell}
use Rattle.sync_store.specs.Small.{MayGrow}

-- one cell is changed
abbrev pub changed_at : CellName → (Cell → Cell) → State → State
changed_at c f s = record { tables = s.tables; objects = at_key (path_of c).0 (at_key c.column f) s.objects }

abbrev pub back : Undo → State → State
back undos.Nothing s = s
back (undos.RemoveTable t) s = record { tables = map.remove s.tables t.now; objects = s.objects }
back (undos.RemoveColumn t c) s = record { tables = tables_without_column t.now c.now s.tables; objects = map_with (without_cell t.now c.now) s.objects }
back (undos.RemoveObject t k) s = record { tables = s.tables; objects = map.remove s.objects (t.now, k.now) }
back (undos.PutObject t k cells) s = record { tables = s.tables; objects = map.insert s.objects (t.now, k.now) cells }
back (undos.EditCell i c f) s = changed_at c.now (done_if (inverse_at i.now f)) s

-- the last first
abbrev pub all_back : List Undo → State → State
all_back [] s = s
all_back (u ∷ us) s = back u (all_back us s)

pub back_last : (us : List Undo) (u : Undo) (s : State) → all_back (us ++ u ∷ []) s ≡ all_back us (back u s)
back_last [] u s = refl
back_last (v ∷ us) u s = ap (back v) (back_last us u s)

-- the break is told once all is taken back; out of memory, nothing is said
abbrev pub IsTakenBack : Result (Unit {0}) AllRefusal → ℕ → ApplyRefusal → State → State → Type 0
IsTakenBack (Ok u) place refusal former new = ⊥
IsTakenBack (Err (refusals.Break p b)) place refusal former new = (p ≡ place) × (refusal ≡ applies.Break b) × (new ≡ former)
IsTakenBack (Err refusals.NoMemory) place refusal former new = Unit {0}

pub record HasStepped (i : Instr) (old new : State) (undo : Undo) : Type 0 where
  pub unbroken : break_of old (effect_of i) ≡ None
  pub placed : is_effect (effect_of i) ≡ true
  pub after : new ≡ after old (effect_of i)
  pub back : back undo new ≡ old
  pub grows : MayGrow (effect_of i)

-- an instruction is applied and what takes it back is given, or it meets a break and nothing changes
abbrev pub Steps : Result Undo ApplyRefusal → Instr → State → State → Type 0
Steps (Ok undo) i old new = HasStepped i old new undo
Steps (Err (applies.Break b)) i old new = (break_of old (effect_of i) ≡ Some b) × (new ≡ old)
Steps (Err applies.NoMemory) i old new = Unit {0}
