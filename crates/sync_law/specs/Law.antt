-- Instructions meet the law that the theory of merging asks for.
use Rattle.std.specs.Prelude.{◌≡◌, Bool, List, [], ◌∷◌, Option, None, Some, Result, Ok, Err, IfOk, refl}
use Rattle.std.specs.Option.{option_and_then}
use Rattle.std.proofs.Common.{◌∙◌}
use Rattle.sync_theory.specs.Lists.{kept, and_then, run, Agreement, TwoSided, Law}
use Rattle.sync_data.specs.declared.instr.Instr.{Instr}
use Rattle.sync_base.specs.declared.answers.Mismatch.{Mismatch}
use Rattle.sync_base.specs.declared.answers.Outcome.{Outcome}
use Rattle.sync_base.specs.States.{State, IsState}
use Rattle.sync_base.specs.Checks.{act, act_all}
use Rattle.sync_base.specs.Merged.{merge}
use Rattle.sync_base.specs.Rules.{meeting}
use Rattle.sync_base.specs.Agreement.{act_rest, Agree}
use Rattle.sync_base.specs.Lemmas.Steps.{some_is}
use Rattle.sync_base.specs.Lemmas.Whole.{keeps_state, instrs_two_sided}
use Rattle.sync_law.specs.Instrs.{as_pair, meet}

-- one instruction that is left acts as a list of one, and none as the empty list
and_done : (x : Option State) → and_then x (λ s. Some s) ≡ x
and_done None = refl
and_done (Some s) = refl

run_rest : (o : Option Instr) (s : State) (r : Option State) → act_rest o s ≡ r → run act (kept o) s ≡ r
run_rest None s r e = e
run_rest (Some i) s r e = and_done (act i s) ∙ e

two_ways : (a b : Instr) (later : Bool) (s after_a after_b : State) (m : Result Outcome Mismatch) → IfOk m (Agree a b later s after_a after_b) → IfOk (as_pair m) (λ p. Agreement act (kept p.0) (kept p.1) after_a after_b)
two_ways a b later s sa sb (Err m) h = tt
two_ways a b later s sa sb (Ok o) h =
    let end = some_is (merge a b later s) h.defined in
    record {
      last = end.0;
      left_then_right = run_rest o.right sa (Some end.0) (h.left_first ∙ end.1);
      right_then_left = run_rest o.left sb (Some end.0) (h.right_first ∙ end.1);
    }

pub two_sided : (later : Bool) → TwoSided IsState act (λ a b. meet a b later)
two_sided later a b s sa sb ok e f = two_ways a b later s sa sb (meeting a b later) (instrs_two_sided a b later s sa sb ok e f)

pub law : (later : Bool) → Law IsState act (λ a b. meet a b later)
law later = record { keeps = keeps_state; two_sided = two_sided later }

-- ---- the same list of instructions acts alike in both forms
chained : (x : Option State) (f g : State → Option State) → ((s : State) → f s ≡ g s) → option_and_then f x ≡ and_then x g
chained None f g h = refl
chained (Some s) f g h = h s

pub act_all-run : (is : List Instr) (s : State) → act_all is s ≡ run act is s
act_all-run [] s = refl
act_all-run (i ∷ is) s = chained (act i s) (act_all is) (λ t. run act is t) (act_all-run is)
