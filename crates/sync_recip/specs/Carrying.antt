-- A change that was carried over entries, and these as it crossed them.
use Rattle.std.specs.Prelude.{◌≡◌, ℕ, zero, suc, ◌≤◌, ◌+◌, List, [], ◌∷◌, Option, None, Some, Result, Err, length}
use Rattle.sync_data.specs.Payload.{Changes}
use Rattle.sync_data.specs.declared.instr.Instr.{Instr}
use Rattle.sync_base.specs.declared.answers.Mismatch.{Mismatch}
use Rattle.sync_theory.specs.Changesets.{Changeset}
use Rattle.sync_theory.specs.Reciprocals.{from_base}
use Rattle.sync_rivals.specs.Lists.{StaysListed}
use Rattle.list_places.specs.Moves.{kind_in, kind_of, moved_first}
use Rattle.list_places.specs.declared.moves.ListAction.{ListAction}
use Rattle.sync_recip.specs.Lists.{entry_of, lists_in}
use Rattle.sync_recip.specs.declared.carried.Became.{Became}
use Rattle.sync_recip.specs.declared.carried.Became.TheVariants.{Moved, Changed}
use Rattle.sync_recip.specs.declared.carried.Crossed.{Crossed}
use Rattle.sync_recip.specs.declared.carried.Crossed.TheVariants.{One, Stretch}
use Rattle.sync_recip.specs.Acrossing.{put_across, CanCross}
use Rattle.sync_recip.specs.declared.refusal.RecipRefusal.{RecipRefusal}
use Rattle.sync_recip.specs.declared.refusal.RecipRefusal.TheVariants as refusals

-- the base, the change as carried, and those entries from the base on that changed
pub record Carrying : Type 0 where
  pub base : ℕ
  pub changes : Changes
  pub crossed : List Crossed

-- ---- the entries as crossed

-- an entry of which the one list instruction does this now
abbrev pub moved_entry : ListAction → Changeset Instr → Changeset Instr
moved_entry a e = record e { instrs = moved_first a e.instrs }

-- an entry as what became of it
abbrev pub became_of : Became → Changeset Instr → Changeset Instr
became_of (Moved a) e = moved_entry a e
became_of (Changed x) e = entry_of x

-- or as it was
abbrev pub crossed_entry : Option Became → Changeset Instr → Changeset Instr
crossed_entry None e = e
crossed_entry (Some b) e = became_of b e

-- entries of which this became of the one at a place
abbrev pub with_crossed : ℕ → Became → List (Changeset Instr) → List (Changeset Instr)
with_crossed place b [] = []
with_crossed zero b (e ∷ es) = became_of b e ∷ es
with_crossed (suc place) b (e ∷ es) = e ∷ with_crossed place b es

abbrev pub put_crossed : Crossed → List (Changeset Instr) → List (Changeset Instr)
put_crossed (One place b) es = with_crossed place b es
put_crossed (Stretch a) es = put_across a es

-- entries of which those that changed are what became of them
abbrev pub crossed_entries : List Crossed → List (Changeset Instr) → List (Changeset Instr)
crossed_entries [] es = es
crossed_entries (c ∷ cs) es = crossed_entries cs (put_crossed c es)

-- ---- their instructions

-- what became of these
abbrev pub left_of : Became → List Instr → List Instr
left_of (Moved a) is = moved_first a is
left_of (Changed x) is = x.changes.instrs

-- only of one list instruction that does the same it is told what it does
abbrev pub Suits : Became → List Instr → Type 0
Suits (Moved a) is = kind_in is ≡ Some (kind_of a)
Suits (Changed x) is = Unit {0}

abbrev pub SuitsIf : Option Became → List Instr → Type 0
SuitsIf None is = Unit {0}
SuitsIf (Some b) is = Suits b is

-- what became of those at a place is left of them
abbrev pub LeftAt : ℕ → Became → List (List Instr) → Type 0
LeftAt n b [] = ⊥
LeftAt zero b (l ∷ lists) = Suits b l × StaysListed l (left_of b l)
LeftAt (suc n) b (l ∷ lists) = LeftAt n b lists

-- there are such entries, and this is left of them
abbrev pub FitsOne : Crossed → List (Changeset Instr) → Type 0
FitsOne (One place b) es = LeftAt place b (lists_in es)
FitsOne (Stretch a) es = (a.start + a.count ≤ length es) × CanCross a es

abbrev pub AllFit : List Crossed → List (Changeset Instr) → Type 0
AllFit [] es = Unit {0}
AllFit (c ∷ cs) es = FitsOne c es × AllFit cs (put_crossed c es)

-- what is noted of an entry at a place: nothing where it stays
abbrev pub noted : ℕ → Option Became → List Crossed
noted place None = []
noted place (Some b) = One place b ∷ []

-- ---- of a list

-- a carried change is one of a list: each entry that changed is an entry of the list, and is left of it
abbrev pub Fits : Carrying → List (ℕ × Changeset Instr) → Type 0
Fits c list = AllFit c.crossed (from_base c.base list)

-- the list's entries from the base on, as the change crossed them
abbrev pub entries_of : Carrying → List (ℕ × Changeset Instr) → List (Changeset Instr)
entries_of c list = crossed_entries c.crossed (from_base c.base list)

-- ---- refusals

-- stuck at this place of the change, at some place of the entry that it crosses
pub record StuckAt {A : Type 0} (r : Result A (ℕ × ℕ × Mismatch)) (place : ℕ) (kind : Mismatch) : Type 0 where
  pub right : ℕ
  pub is : r ≡ Err (place, right, kind)

-- a mismatch is that of the crossing; out of memory, nothing is said
abbrev pub IsStuckBy : {A : Type 0} → RecipRefusal → Result A (ℕ × ℕ × Mismatch) → Type 0
IsStuckBy (refusals.Mismatch place kind) r = StuckAt r place kind
IsStuckBy refusals.NoMemory r = Unit {0}
