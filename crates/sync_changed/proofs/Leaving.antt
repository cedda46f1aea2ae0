-- Lists of instructions that leave a part of a state as it is: as they cross others, and as they act.
use Rattle.std.proofs.Common.{ℕ, Bool, List, [], ◌∷◌, ◌++◌, Option, None, Some, Result, Ok, Err, refl, ◌∙◌}
use Rattle.std.specs.Prelude.{IfOk}
use Rattle.sync_data.specs.declared.instr.Instr.{Instr}
use Rattle.sync_base.specs.Footprints.{Part, TableAt, ColumnAt, ObjectAt, CellAt, SameAt}
use Rattle.sync_base.specs.Lemmas.Reads.{framed}
use Rattle.sync_base.specs.States.{State}
use Rattle.sync_exchange.specs.Profile.{the_profile}
use Rattle.sync_law.specs.Coded.{meet_by_code}
use Rattle.sync_model.specs.Clients.{state_or}
use Rattle.sync_model.specs.Profile.{Stuck, cross_changesets}
use Rattle.sync_model.specs.Profile as profile
use Rattle.sync_theory.specs.Changesets.{Changeset, is_later, with_lists}
use Rattle.sync_theory.specs.Grid.{rebase, rebase_one, rebase_put}
use Rattle.sync_theory.specs.Lists.{cross, kept, met, row, rowed, run, step_down, step_right}
use Rattle.sync_changed.proofs.Keeping.{AllKeep, kept_so}
use Rattle.sync_changed.proofs.Meeting.{Leaves, LeavesIf, meets}

abbrev pub AllLeave : Part → List Instr → Type 0
AllLeave x [] = Unit {0}
AllLeave x (i ∷ is) = Leaves x i × AllLeave x is

-- ---- crossing
put_before : (x : Part) (o : Option Instr) (is : List Instr) → LeavesIf x o → AllLeave x is → AllLeave x (kept o ++ is)
put_before x None is h k = k
put_before x (Some i) is h k = (h, k)

abbrev Row : Type 0
Row = Result (Option Instr × List Instr) (ℕ × ℕ)

stepped : (x : Part) (o : Option Instr) (r : Row) → LeavesIf x o → IfOk r (λ p. AllLeave x p.1) → IfOk (step_right o r) (λ p. AllLeave x p.1)
stepped x o (Err e) h k = tt
stepped x o (Ok p) h k = put_before x o p.1 h k

has_met : (x : Part) (m : Result (Option Instr × Option Instr) ℕ) (go : Option Instr → Row) → IfOk m (λ p. LeavesIf x p.1) → ((a : Option Instr) → IfOk (go a) (λ p. AllLeave x p.1)) → IfOk (met m go) (λ p. AllLeave x p.1)
has_met x (Err m) go h k = tt
has_met x (Ok p) go h k = stepped x p.1 (go p.0) h (k p.0)

row_leaves : (x : Part) (later : Bool) (a : Option Instr) (bs : List Instr) → AllLeave x bs → IfOk (row (λ u v. meet_by_code u v later) a bs) (λ p. AllLeave x p.1)
row_leaves x later a [] h = h
row_leaves x later None (b ∷ bs) h = h
row_leaves x later (Some a) (b ∷ bs) h = has_met x (meet_by_code a b later) (λ o. row (λ u v. meet_by_code u v later) o bs) (meets x a b later h.0) (λ o. row_leaves x later o bs h.1)

abbrev Crossed : Type 0
Crossed = Result (List Instr × List Instr) Stuck

down : (x : Part) (o : Option Instr) (r : Crossed) → IfOk r (λ p. AllLeave x p.1) → IfOk (step_down o r) (λ p. AllLeave x p.1)
down x o (Err e) h = tt
down x o (Ok p) h = h

has_rowed : (x : Part) (r : Row) (go : List Instr → Crossed) → IfOk r (λ p. AllLeave x p.1) → ((bs : List Instr) → AllLeave x bs → IfOk (go bs) (λ p. AllLeave x p.1)) → IfOk (rowed r go) (λ p. AllLeave x p.1)
has_rowed x (Err e) go h k = tt
has_rowed x (Ok p) go h k = down x p.0 (go p.1) (k p.1 h)

cross_leaves : (x : Part) (later : Bool) (as_ bs : List Instr) → AllLeave x bs → IfOk (cross (λ u v. meet_by_code u v later) as_ bs) (λ p. AllLeave x p.1)
cross_leaves x later [] bs h = h
cross_leaves x later (a ∷ as_) bs h =
    has_rowed x (row (λ u v. meet_by_code u v later) (Some a) bs) (λ cs. cross (λ u v. meet_by_code u v later) as_ cs) (row_leaves x later (Some a) bs h) (λ cs k. cross_leaves x later as_ cs k)

abbrev Set : Type 0
Set = Changeset Instr

with_leaves : (x : Part) (a b : Set) (r : Crossed) → IfOk r (λ p. AllLeave x p.1) → IfOk (with_lists a b r) (λ p. AllLeave x p.1.instrs)
with_leaves x a b (Err m) h = tt
with_leaves x a b (Ok p) h = h

abbrev Rebased : Type 0
Rebased = Result (List Set × Set) (ℕ × Stuck)

put_leaves : (x : Part) (a : Set) (r : Rebased) → IfOk r (λ q. AllLeave x q.1.instrs) → IfOk (rebase_put a r) (λ q. AllLeave x q.1.instrs)
put_leaves x a (Err f) h = tt
put_leaves x a (Ok q) h = h

one_leaves : (x : Part) (r : Result (Set × Set) Stuck) (go : Set → Rebased) → IfOk r (λ p. AllLeave x p.1.instrs) → ((e : Set) → AllLeave x e.instrs → IfOk (go e) (λ q. AllLeave x q.1.instrs)) → IfOk (rebase_one r go) (λ q. AllLeave x q.1.instrs)
one_leaves x (Err m) go h k = tt
one_leaves x (Ok q) go h k = put_leaves x q.0 (go q.1) (k q.1 h)

pub rebase_leaves : (x : Part) (ps : List Set) (e : Set) → AllLeave x e.instrs → IfOk (rebase (cross_changesets the_profile) ps e) (λ q. AllLeave x q.1.instrs)
rebase_leaves x [] e h = h
rebase_leaves x (p ∷ ps) e h =
    one_leaves x (cross_changesets the_profile p e) (λ f. rebase (cross_changesets the_profile) ps f)
    (with_leaves x p e (cross (λ u v. meet_by_code u v (is_later p e)) p.instrs e.instrs) (cross_leaves x (is_later p e) p.instrs e.instrs h)) (λ f k. rebase_leaves x ps f k)

-- ---- acting
pub same_itself : (s : State) (x : Part) → SameAt s s x
same_itself s (TableAt t) = refl
same_itself s (ColumnAt t c) = refl
same_itself s (ObjectAt o) = refl
same_itself s (CellAt p) = refl

pub same_then : (s t u : State) (x : Part) → SameAt u t x → SameAt t s x → SameAt u s x
same_then s t u (TableAt v) h k = h ∙ k
same_then s t u (ColumnAt v c) h k = h ∙ k
same_then s t u (ObjectAt o) h k = h ∙ k
same_then s t u (CellAt p) h k = h ∙ k

acting : (x : Part) (is : List Instr) → AllLeave x is → AllKeep (λ t s. SameAt t s x) is
acting x [] h = tt
acting x (i ∷ is) h = ((λ s t e. (framed i).changes_alone s t e x h.0), acting x is h.1)

-- what a list leaves, whether it acts or not
pub leaves : (x : Part) (is : List Instr) (s : State) → AllLeave x is → SameAt (state_or s (run (profile.act the_profile) is s)) s x
leaves x is s h = kept_so (λ t s. SameAt t s x) (λ s. same_itself s x) (λ s t u. same_then s t u x) is s (acting x is h)
