-- A transaction: the objects before it, and instructions that act on them one after the other.
use Rattle.std.specs.Prelude.{◌≡◌, ◌<◌, ℕ, Bool, true, false, List, [], ◌∷◌, ◌++◌, None, Some, Result, Ok, Err}
use Rattle.sync_data.specs.declared.instr.CellName.{CellName}
use Rattle.sync_data.specs.declared.instr.Instr.{Instr}
use Rattle.sync_data.specs.Payload.{IsSmall, payload_all}
use Rattle.sync_base.specs.Checks.{act, act_all, break_of}
use Rattle.sync_base.specs.Effects.{effect_of, is_effect, path_of}
use Rattle.sync_base.specs.States.{State}
use Rattle.sync_store.specs.Applying.{after_all}
use Rattle.sync_app.specs.declared.refusal.Refusal.{Refusal}
use Rattle.sync_app.specs.declared.refusal.Refusal.TheVariants as refusals
use Rattle.sync_app.specs.Sizes.{size_at}

pub record Draft : Type 0 where
  pub base : State
  pub instrs : List Instr

-- the objects with the transaction so far
abbrev pub objects_of : Draft → State
objects_of d = after_all d.instrs d.base

-- the length of a list in them
abbrev pub length_of : Draft → CellName → ℕ
length_of d c = size_at (objects_of d) (path_of c)

-- with one instruction more
abbrev pub and_instr : Draft → Instr → Draft
and_instr d i = record { base = d.base; instrs = d.instrs ++ i ∷ [] }

-- what every transaction keeps: its instructions act one after the other, few and small enough
pub record IsDraft (d : Draft) : Type 0 where
  pub acts : act_all d.instrs d.base ≡ Some (objects_of d)
  pub small : IsSmall d.instrs

-- the instruction is the last one and has acted, or it is refused: for its break, or since it is one too many
abbrev pub Puts : Result (Unit {0}) Refusal → Instr → Draft → Draft → Type 0
Puts (Ok u) i old new = (new ≡ and_instr old i) × (act i (objects_of old) ≡ Some (objects_of new))
Puts (Err (refusals.Break b)) i old new = (break_of (objects_of old) (effect_of i) ≡ Some b) × (new ≡ old)
Puts (Err refusals.TooLarge) i old new = ¬ IsSmall (old.instrs ++ i ∷ []) × (new ≡ old)
Puts (Err refusals.NoMemory) i old new = new ≡ old
Puts (Err why) i old new = ⊥

-- one more acts and fits in, and so much do they carry then; or it is refused
abbrev pub Weighs : Result ℕ Refusal → Instr → Draft → Type 0
Weighs (Ok n) i d = (is_effect (effect_of i) ≡ true) × (break_of (objects_of d) (effect_of i) ≡ None) × IsSmall (d.instrs ++ i ∷ []) × (n ≡ payload_all (d.instrs ++ i ∷ []))
Weighs (Err why) i d = Puts (Err why) i d d

-- the same of an instruction for a place in a list of that length: the place may lie outside, or the list be too long
abbrev pub PutsAt : Result (Unit {0}) Refusal → Bool → ℕ → ℕ → Instr → Draft → Draft → Type 0
PutsAt (Err (refusals.OutOfRange p l)) inside place len i old new = (inside ≡ false) × (p ≡ place) × (l ≡ len) × (break_of (objects_of old) (effect_of i) ≡ None) × (new ≡ old)
PutsAt (Err refusals.ListFull) inside place len i old new = (4294967295 < len) × (new ≡ old)
PutsAt r inside place len i old new = Puts r i old new
