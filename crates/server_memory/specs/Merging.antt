-- What the steps of a merge answer, as the model has them.
use Rattle.std.specs.Prelude.{◌≡◌, ◌<◌, ◌==◌, ℕ, suc, Bool, true, List, [], ◌∷◌, ◌++◌, All, Option, None, Some, Result, Ok, Err, nat_lt, if◌then◌else◌}
use Rattle.sync_data.specs.Payload.{Changes}
use Rattle.sync_data.specs.declared.instr.Instr.{Instr}
use Rattle.sync_base.specs.States.{State}
use Rattle.sync_theory.specs.Changesets.{Changeset}
use Rattle.sync_theory.specs.Grid.{carry}
use Rattle.sync_theory.specs.Reciprocals.{from_base}
use Rattle.sync_transform.specs.Sets.{made_by}
use Rattle.sync_recip.specs.Carrying.{Carrying, Fits, entries_of}
use Rattle.sync_recip.specs.declared.refusal.RecipRefusal.{RecipRefusal}
use Rattle.sync_recip.specs.declared.refusal.RecipRefusal.TheVariants as uncarried
use Rattle.sync_model.specs.Messages.{Change}
use Rattle.sync_model.specs.Profile.{Stuck, apply_all, cross_changesets, needs}
use Rattle.sync_model.specs.Servers.{ServerRecord, ServerRefusal, NumberGap, BaseBack, AheadOfHistory, HistoryFull, BadBytes, Mismatch, Break, IdentRetired, Trimmed, Entry, Form, is_retired}
use Rattle.sync_model.specs.Parts.{Given, Parts, Merged, at_ident, merge_applied_by}
use Rattle.sync_exchange.specs.Profile.{fits_changeset, the_profile, unspell}
use Rattle.server_memory.specs.History.{IsOther}
use Rattle.server_memory.specs.Refusals.{refusal_seen}
use Rattle.server_memory.specs.declared.refusal.Refusal.{Refusal}
use Rattle.server_memory.specs.declared.refusal.Refusal.TheVariants as refusals
use Rattle.server_memory.specs.declared.refusal.ChangeRefusal.{ChangeRefusal}
use Rattle.server_memory.specs.declared.refusal.ChangeRefusal.TheVariants.{Refused, NoMemory}
use Rattle.server_memory.specs.declared.merging.ChangeHead.{ChangeHead}
use Rattle.server_memory.specs.declared.merging.Prepared.{Prepared}

-- ---- the numbers of a change

-- a change with these bytes
abbrev pub change_of : ChangeHead → List ℕ → Change
change_of head body = record { number = head.number; base = head.base; ms = head.ms; body = body }

-- the refusal that an answer is, if it is one
abbrev pub refused : {T : Type 0} → Result T Refusal → Option ServerRefusal
refused (Ok t) = None
refused (Err why) = Some (refusal_seen why)

-- the first rule that the number and the base of a change break, where the history has this length and begins at a floor
abbrev pub numbers_broken : (len floor : ℕ) → Given Instr → (number base : ℕ) → Option ServerRefusal
numbers_broken len floor g number base =
    if is_retired g.heir then Some (IdentRetired g.count)
    else if nat_lt (suc g.count) number then Some (NumberGap (suc g.count))
    else if nat_lt base g.last then Some (BaseBack g.last)
    else if nat_lt len base then Some (AheadOfHistory len)
    else if nat_lt base floor then Some (Trimmed floor)
    else if len == 4294967295 then Some (HistoryFull len)
    else None

-- ---- the steps; out of memory, nothing is said

-- the instructions that its bytes spell, or the first rule that they break
abbrev pub Reads : Result Changes ChangeRefusal → Change → Type 0
Reads (Ok v) h = (v.ms ≡ h.ms) × (unspell h.body ≡ Ok v.instrs) × (fits_changeset v.instrs ≡ true)
Reads (Err (Refused why)) h = (f : ℕ × ℕ) × (unspell h.body ≡ Err f) × (refusal_seen why ≡ BadBytes f.0 f.1)
Reads (Err NoMemory) h = Unit {0}

-- how a change of a base crosses the entries of a reciprocal list
abbrev pub crossing : ℕ → ℕ → Changes → ℕ → List (ℕ × Changeset Instr) → Result (Changeset Instr × List (Changeset Instr)) Stuck
crossing own number v base list = carry (cross_changesets the_profile) (made_by own number v) (from_base base list)

-- the change as carried, or the first mismatch
abbrev pub Carries : Result Carrying ChangeRefusal → ℕ → ℕ → Changes → ℕ → List (ℕ × Changeset Instr) → Type 0
Carries (Ok c) own number v base list = (crossing own number v base list ≡ Ok (made_by own number c.changes, entries_of c list)) × (c.base ≡ base) × Fits c list
Carries (Err (Refused why)) own number v base list = (m : Stuck) × (crossing own number v base list ≡ Err m) × (refusal_seen why ≡ Mismatch m.0 m.2)
Carries (Err NoMemory) own number v base list = Unit {0}

-- a change that isn't carried is refused
abbrev pub carried_as : Result Carrying RecipRefusal → Result Carrying ChangeRefusal
carried_as (Ok c) = Ok c
carried_as (Err (uncarried.Mismatch place kind)) = Err (Refused (refusals.Mismatch place kind))
carried_as (Err uncarried.NoMemory) = Err NoMemory

-- the state after the change, or the first break; then nothing changes
abbrev pub AppliesBy : Result (Unit {0}) ChangeRefusal → List Instr → State → State → Type 0
AppliesBy (Ok u) is old new = apply_all the_profile is old ≡ Ok new
AppliesBy (Err (Refused why)) is old new = (b : ℕ × ℕ) × (apply_all the_profile is old ≡ Err b) × (refusal_seen why ≡ Break b.0 b.1) × (new ≡ old)
AppliesBy (Err NoMemory) is old new = Unit {0}

-- ---- the whole

-- a change is ready to act: what comes of it is what comes of these instructions as carried
pub record IsReady (p : Prepared) (kept : Parts Instr State) (c : ℕ) (g : Given Instr) (h : Change) (r : Result (Merged Instr State) ServerRefusal) : Type 0 where
  pub made : List Instr
  pub gives : r ≡ merge_applied_by the_profile kept c h made (made_by c h.number p.carried.changes) (entries_of p.carried g.reciprocal) (apply_all the_profile p.carried.changes.instrs kept.objects)
  pub second : needs the_profile made ≡ p.second
  pub next : h.number ≡ suc g.count
  pub base_is : p.carried.base ≡ h.base
  pub fits : Fits p.carried g.reciprocal
  pub small : fits_changeset p.carried.changes.instrs ≡ true
  pub others : All (IsOther c) (entries_of p.carried g.reciprocal)
  pub room : kept.len < 4294967295

-- up to its acting a merge goes like this
abbrev pub Prepares : Result Prepared ChangeRefusal → Parts Instr State → ℕ → Given Instr → Change → Result (Merged Instr State) ServerRefusal → Type 0
Prepares (Ok p) kept c g h r = IsReady p kept c g h r
Prepares (Err (Refused why)) kept c g h r = r ≡ Err (refusal_seen why)
Prepares (Err NoMemory) kept c g h r = Unit {0}

-- the records of a change of ident c that is integrated
abbrev pub records_of : Bool → ℕ → Change → List ServerRecord
records_of form c h = (if form then Form ∷ [] else []) ++ Entry c h.number h.base h.ms h.body ∷ []

-- a change is integrated, and a truth value tells whether a Form stands before its Entry; or it is refused, and nothing changes
abbrev pub Merges : Result Bool ChangeRefusal → Result (Merged Instr State) ServerRefusal → ℕ → Change → Parts Instr State → Parts Instr State → Type 0
Merges (Ok form) r c h old new = r ≡ Ok (record { records = records_of form c h; parts = new })
Merges (Err (Refused why)) r c h old new = (r ≡ Err (refusal_seen why)) × (new ≡ old)
Merges (Err NoMemory) r c h old new = Unit {0}

-- the next change of an ident that is given: not a repeat
pub record IsFresh (c : ℕ) (h : Change) (gs : List (Given Instr)) : Type 0 where
  pub given : Given Instr
  pub is_given : at_ident c gs ≡ Some given
  pub above : given.count < h.number
