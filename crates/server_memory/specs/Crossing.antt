-- How the records of crossed entries at the front of a trimmed file are read.
use Rattle.std.specs.Prelude.{◌≡◌, ◌≤◌, ◌<◌, ◌-◌, ◌&&◌, ◌||◌, ◌==◌, ℕ, Bool, true, List, [], ◌∷◌, ◌++◌, All, map, length, get_or, nat_le, nat_lt, Option, Some, None, if◌then◌else◌}
use denote.Bor.{Bor}
use Rattle.sync_data.specs.declared.entry.Entry.{Entry}
use Rattle.sync_data.specs.declared.instr.Instr.{Instr}
use Rattle.sync_recip.specs.Lists.{entry_of}
use Rattle.sync_theory.specs.Changesets.{Changeset}
use Rattle.sync_model.specs.Files.{readable}
use Rattle.sync_model.specs.Fronts.{Crossed, Passed as ModelPassed, crossed_step, instrs_at, is_crossed, rises}
use Rattle.sync_model.specs.Parts.{Given, at_ident}
use Rattle.sync_model.specs.Worlds.{at}
use Rattle.sync_exchange.specs.Profile.{fits_changeset, the_profile, unspell}
use Rattle.server_memory.specs.declared.kinds.PastHead.{PastHead}
use Rattle.server_memory.specs.declared.passed.Passed.{Passed}

abbrev pub past_seen : PastHead → List ℕ → Crossed
past_seen head body = record { ident = head.ident; version = head.version; ms = head.ms; body = body }

abbrev pub passed_seen : Passed → ModelPassed Instr
passed_seen p = record { ident = p.ident; version = p.version; instrs = p.entry.changes.instrs }

-- one comes before that ident and version
abbrev pub is_before : {I : Type 0} → ℕ → ℕ → ModelPassed I → Bool
is_before c version q = nat_lt q.ident c || ((q.ident == c) && nat_lt q.version version)

-- each comes before those behind it
abbrev pub IsSorted : {I : Type 0} → List (ModelPassed I) → Type 0
IsSorted [] = Unit {0}
IsSorted (q ∷ qs) = All (λ r. is_before r.ident r.version q ≡ true) qs × IsSorted qs

-- the entry of that version, where the first is of the floor, is this but for its list
pub record IsOf (floor : ℕ) (xs : List (Changeset Instr)) (version : ℕ) (e : Entry) : Type 0 where
  pub above : floor ≤ version
  pub entry : Changeset Instr
  pub is : at xs (version - floor) ≡ Some entry
  pub same : entry_of e ≡ record entry { instrs = e.changes.instrs }
  pub small : fits_changeset e.changes.instrs ≡ true

-- each is of an entry
abbrev pub ArePassed : ℕ → List (Changeset Instr) → List Passed → Type 0
ArePassed floor xs ps = All (λ p. IsOf floor xs p.version p.entry) ps

-- the one of that ident and version, if there is one
pub record IsFound (c version : ℕ) (ps : List Passed) (p : Passed) : Type 0 where
  pub place : ℕ
  pub within : place < length ps
  pub is : p ≡ get_or ps place p
  pub version_is : p.version ≡ version
  pub list : (is : List Instr) → instrs_at c version (map passed_seen ps) is ≡ p.entry.changes.instrs

abbrev pub FindsAt : ℕ → ℕ → List Passed → Option (Bor Passed) → Type 0
FindsAt c version ps (Some p) = IsFound c version ps p.now
FindsAt c version ps None = (is : List Instr) → instrs_at c version (map passed_seen ps) is ≡ is

-- a record is of an entry that an ident's changes cross
abbrev pub may_cross : ℕ → List (Given Instr) → List (Changeset Instr) → Crossed → Bool
may_cross floor gs xs e = nat_le floor e.version && is_crossed the_profile floor e (at_ident e.ident gs) (at xs (e.version - floor))

-- the list that it tells, if it is one
abbrev pub crossing_of : Bool → ℕ → List (Given Instr) → List (Changeset Instr) → Crossed → Option (List Instr)
crossing_of second floor gs xs e = if may_cross floor gs xs e then readable the_profile second (unspell e.body) else None

abbrev pub Crosses : Bool → ℕ → List (Given Instr) → List (Changeset Instr) → Crossed → Option Entry → Type 0
Crosses second floor gs xs e (Some y) = (crossing_of second floor gs xs e ≡ Some y.changes.instrs) × IsOf floor xs e.version y
Crosses second floor gs xs e None = crossing_of second floor gs xs e ≡ None

-- the next of them
pub record IsNextPassed (second : Bool) (floor : ℕ) (gs : List (Given Instr)) (xs : List (Changeset Instr)) (ps : List Passed) (e : Crossed) (p : Passed) : Type 0 where
  pub step : crossed_step the_profile second floor gs xs (map passed_seen ps) e ≡ Some (map passed_seen ps ++ passed_seen p ∷ [])
  pub rises_ : rises (map passed_seen ps) p.ident p.version ≡ true
  pub of_ : IsOf floor xs p.version p.entry

abbrev pub NextPassed : Bool → ℕ → List (Given Instr) → List (Changeset Instr) → List Passed → Crossed → Option Passed → Type 0
NextPassed second floor gs xs ps e (Some p) = IsNextPassed second floor gs xs ps e p
NextPassed second floor gs xs ps e None = crossed_step the_profile second floor gs xs (map passed_seen ps) e ≡ None
