-- How the records at the front of a trimmed file are read.
use Rattle.std.specs.Prelude.{◌≡◌, ◌+◌, ◌&&◌, ◌==◌, not, ℕ, Bool, true, false, List, [], ◌∷◌, All, length, map, drop, Option, Some, None, Result, Ok, Err}
use Rattle.std.specs.Option.{option_map}
use Rattle.sync_data.specs.Payload.{Changes}
use Rattle.sync_data.specs.declared.memory.NoMemory.{NoMemory}
use Rattle.sync_data.specs.declared.instr.Instr.{Instr}
use Rattle.sync_base.specs.States.{State}
use Rattle.sync_recip.specs.Lists.{entry_of}
use Rattle.sync_theory.specs.Changesets.{Changeset}
use Rattle.sync_model.specs.Fronts.{Counted as ModelCounted, Front, Grows as ModelGrows, Kept as ModelKept, grows_on, is_among}
use Rattle.sync_model.specs.Bytes.{Uuid}
use Rattle.sync_model.specs.Parts.{Given}
use Rattle.sync_model.specs.Profile.{act_changeset}
use Rattle.sync_model.specs.Servers.{ServerRecord, heir_of, is_retired}
use Rattle.sync_model.specs.Snapshots.{grown}
use Rattle.sync_exchange.specs.Profile.{the_profile}
use Rattle.sync_exchange.specs.Seen.{server_bytes, server_seen}
use Rattle.sync_records.specs.declared.server.ServerRecord.{ServerRecord as CodeRecord}
use Rattle.server_memory.specs.History.{IsEntry}
use Rattle.server_memory.specs.Kept.{parts}
use Rattle.server_memory.specs.declared.carried.Grown.{Grown}
use Rattle.server_memory.specs.declared.merging.ChangeHead.{ChangeHead}
use Rattle.server_memory.specs.declared.kept.Kept.{Kept}
use Rattle.server_memory.specs.declared.kinds.Counted.{Counted}
use Rattle.sync_journal.specs.declared.opening.ReadRefusal.{ReadRefusal}
use Rattle.sync_journal.specs.declared.opening.ReadRefusal.TheVariants as refusals

-- records of the code as those of the model
abbrev pub seen : List (Option CodeRecord) → List (Option ServerRecord)
seen records = map (option_map server_seen) records

-- those from a place on
abbrev pub seen_from : ℕ → List (Option CodeRecord) → List (Option ServerRecord)
seen_from first records = drop first (seen records)

abbrev pub counted_seen : Counted → ModelCounted
counted_seen c = record { ident = c.ident; number = c.number; base = c.base; settled = c.settled }

-- the lists of instructions of changesets
abbrev pub instrs_of : List Changes → List (List Instr)
instrs_of vs = map (λ v. v.instrs) vs

-- the uuids of idents
abbrev pub uuids_of : List (Given Instr) → List Uuid
uuids_of gs = map (λ g. g.uuid) gs

-- of so many idents this one isn't retired yet, and can be for another
abbrev pub can_retire : ℕ → List (ℕ × ℕ) → ℕ → ℕ → Bool
can_retire given retired ident by = (is_among given ident && is_among given by) && (not (ident == by) && not (is_retired (heir_of ident retired)))

-- a walk over records from a place on refuses one of them
pub record RefusedAt {B : Type 0} (first place : ℕ) (walk : Result B ℕ) : Type 0 where
  pub number : ℕ
  pub place_is : place ≡ first + number
  pub is : walk ≡ Err number

-- what a walk over so many records from a place on makes, or where it ends
abbrev pub Walks : {B T : Type 0} → (T → B) → (T → ℕ) → ℕ → Result B ℕ → ℕ → Result T ReadRefusal → Type 0
Walks made count first walk size (Ok t) = (walk ≡ Ok (made t)) × (count t ≡ size)
Walks made count first walk size (Err (refusals.BadRecord place)) = RefusedAt first place walk
Walks made count first walk size (Err refusals.NoMemory) = Unit {0}

-- what the front of a file gives, or the place of the first record that is refused
abbrev pub Fronts : Result (Kept × ℕ) ReadRefusal → Result (Front Instr State) ℕ → Type 0
Fronts (Ok f) front = front ≡ Ok (record { parts = parts f.0; size = f.1 })
Fronts (Err (refusals.BadRecord place)) front = front ≡ Err place
Fronts (Err refusals.NoMemory) front = Unit {0}

-- the state of which these are the parts, from a place on, or the first part that is wrong
abbrev pub Grows : ℕ → List (List Instr) → Result State ReadRefusal → Type 0
Grows first parts (Ok s) = grown the_profile parts ≡ Ok s
Grows first parts (Err (refusals.BadRecord place)) = RefusedAt first place (grown the_profile parts)
Grows first parts (Err refusals.NoMemory) = Unit {0}

-- the bytes of a record that was read are its own
abbrev pub IsSpelled : Option ServerRecord → List ℕ → Type 0
IsSpelled None bytes = Unit {0}
IsSpelled (Some r) bytes = server_bytes r ≡ bytes

-- and of each
abbrev pub AreSpelled : List (Option ServerRecord) → List (List ℕ) → Type 0
AreSpelled [] file = Unit {0}
AreSpelled (o ∷ os) [] = Unit {0}
AreSpelled (o ∷ os) (bytes ∷ file) = IsSpelled o bytes × AreSpelled os file

-- an entry as it was carried
abbrev pub carried_seen : ℕ → ChangeHead → List ℕ → ModelKept
carried_seen origin head body = record { origin = origin; number = head.number; base = head.base; ms = head.ms; body = body }

-- the entries so far, and the objects after them
abbrev pub grown_seen : Grown → ModelGrows Instr State
grown_seen g = record { objects = g.objects; entries = map entry_of g.entries.items; bases = g.bases.items }

-- none yet
abbrev pub begun_on : State → ModelGrows Instr State
begun_on s = record { objects = s; entries = []; bases = [] }

-- an entry acts, or doesn't
abbrev pub ActsOn : ModelGrows Instr State → Changeset Instr → ℕ → ModelGrows Instr State → Result Bool NoMemory → Type 0
ActsOn old x base new (Ok true) = grows_on old x base (act_changeset the_profile x old.objects) ≡ Some new
ActsOn old x base new (Ok false) = act_changeset the_profile x old.objects ≡ None
ActsOn old x base new (Err e) = Unit {0}

-- as many bases as entries, each of which is one of so many idents
pub record IsGrown (given : ℕ) (g : ModelGrows Instr State) : Type 0 where
  pub each : All (IsEntry given) g.entries
  pub based : length g.bases ≡ length g.entries

-- an entry is taken, or refused
abbrev pub Enters : ℕ → ModelGrows Instr State → ModelGrows Instr State → Option (ModelGrows Instr State) → Result Bool NoMemory → Type 0
Enters given old new step (Ok true) = (step ≡ Some new) × (IsGrown given old → IsGrown given new)
Enters given old new step (Ok false) = step ≡ None
Enters given old new step (Err e) = Unit {0}
