-- Lists that crossed end in one state.
use Rattle.std.proofs.Common.{◌≡◌, ℕ, Bool, List, Some, Result, Ok, Err, IfOk, subst}
use Rattle.sync_data.specs.declared.instr.Instr.{Instr}
use Rattle.sync_data.specs.Payload.{Changes}
use Rattle.sync_base.specs.States.{State, IsState}
use Rattle.sync_base.specs.Checks.{act}
use Rattle.sync_theory.specs.Lists.{cross, run, Agreement}
use Rattle.sync_theory.specs.Grid.{OneState}
use Rattle.sync_theory.specs.Changesets.{Changeset, act_set, cross_sets}
use Rattle.sync_theory.proofs.Agree as theory
use Rattle.sync_theory.proofs.Changesets as changesets
use Rattle.sync_base.specs.Lemmas.Whole.{empty_is_state}
use Rattle.sync_base.specs.States.{no_state}
use Rattle.sync_law.specs.Instrs.{meet}
use Rattle.sync_law.specs.Law.{law}
use Rattle.sync_transform.specs.Sets.{made_by}

-- what a call answers agrees, where it is what crossing gives
pub lists_agreed : {A E : Type 0} (view : A → List Instr × List Instr) (later : Bool) (left right : List Instr) (r : Result A E) → IfOk r (λ p. cross (λ a b. meet a b later) left right ≡ Ok (view p))
    → (s sa sb : State) → IsState s → run act left s ≡ Some sa → run act right s ≡ Some sb → IfOk r (λ p. Agreement act (view p).0 (view p).1 sa sb)
lists_agreed view later left right (Err m) h s sa sb fit e f = tt
lists_agreed view later left right (Ok p) h s sa sb fit e f = subst (λ r. IfOk r (λ q. Agreement act q.0 q.1 sa sb)) h (theory.lists_agree act (λ a b. meet a b later) (law later) left right s sa sb fit e f)

one_state : (p q : Changeset Instr) (sa sb : State) → OneState (act_set act) p q sa sb → Agreement act p.instrs q.instrs sa sb
one_state p q sa sb h = record { last = h.last; left_then_right = h.entry; right_then_left = h.changes }

pub sets_agreed : {E : Type 0} (i j : ℕ) (left right : Changes) (r : Result (Changes × Changes) E) → IfOk r (λ p. (m n : ℕ) → cross_sets meet (made_by i m left) (made_by j n right) ≡ Ok (made_by i m p.0, made_by j n p.1))
    → (s sa sb : State) → IsState s → run act left.instrs s ≡ Some sa → run act right.instrs s ≡ Some sb → IfOk r (λ p. Agreement act p.0.instrs p.1.instrs sa sb)
sets_agreed i j left right (Err m) h s sa sb fit e f = tt
sets_agreed i j left right (Ok p) h s sa sb fit e f =
    one_state (made_by i 0 p.0) (made_by j 0 p.1) sa sb
    (subst (λ r. IfOk r (λ q. OneState (act_set act) q.0 q.1 sa sb)) (h 0 0) ((changesets.sets_agree act no_state meet empty_is_state law).two_sided (made_by i 0 left) (made_by j 0 right) s sa sb fit e f))
