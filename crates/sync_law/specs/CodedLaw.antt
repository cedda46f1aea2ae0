-- The same laws with breaks and mismatches by their numbers.
use Rattle.std.specs.Prelude.{◌≡◌, ℕ, Bool, true, false, if◌then◌else◌, Option, None, Some, Result, Ok, Err, IfOk, IfErr, refl}
use Rattle.std.proofs.Common.{sym, ◌∙◌, subst, inl, inr}
use Rattle.sync_theory.specs.Lists.{kept, ok_state, Agreement, Keeps, TwoSided}
use Rattle.sync_data.specs.declared.instr.Instr.{Instr}
use Rattle.sync_base.specs.declared.answers.Break.{Break}
use Rattle.sync_base.specs.declared.answers.Mismatch.{Mismatch}
use Rattle.sync_base.specs.declared.answers.Mismatch.TheVariants as mismatches
use Rattle.sync_base.specs.declared.answers.Outcome.{Outcome}
use Rattle.sync_base.specs.Effects.{effect_of, is_effect}
use Rattle.sync_base.specs.States.{State, IsState}
use Rattle.sync_base.specs.After.{after}
use Rattle.sync_base.specs.Checks.{act, break_of, unbroken}
use Rattle.sync_base.specs.Rules.{meeting}
use Rattle.sync_base.specs.Lemmas.Whole.{keeps_state, sizes_fit}
use Rattle.sync_law.specs.Instrs.{as_pair, meet}
use Rattle.sync_law.specs.Law.{two_sided}
use Rattle.sync_law.specs.Coded.{state_or_code, apply, coded, meet_by_code, IsNamed}

ok_of : (b : Bool) (o : Option Break) (t : State) (c : ℕ) → ok_state (if b then state_or_code o t else Err c) ≡ (if b then unbroken o t else None)
ok_of true None t c = refl
ok_of true (Some k) t c = refl
ok_of false o t c = refl

pub applies : (i : Instr) (s : State) → ok_state (apply i s) ≡ act i s
applies i s = ok_of (is_effect (effect_of i)) (break_of s (effect_of i)) (after s (effect_of i)) _

pub keeps_by_code : Keeps IsState (λ i s. ok_state (apply i s))
keeps_by_code i s t ok e = keeps_state i s t ok (sym (applies i s) ∙ e)

abbrev Agreed : (Instr → State → Option State) → State → State → Result (Option Instr × Option Instr) ℕ → Type 0
Agreed f sa sb m = IfOk m (λ p. Agreement f (kept p.0) (kept p.1) sa sb)

coded_agrees : (sa sb : State) (m : Result (Option Instr × Option Instr) Mismatch) → IfOk m (λ p. Agreement act (kept p.0) (kept p.1) sa sb) → Agreed act sa sb (coded m)
coded_agrees sa sb (Ok p) h = h
coded_agrees sa sb (Err m) h = tt

same_act : ◌≡◌ {A = Instr → State → Option State} (λ i s. ok_state (apply i s)) act
same_act = λ j i s. applies i s j

pub two_sided_by_code : (later : Bool) → TwoSided IsState (λ i s. ok_state (apply i s)) (λ a b. meet_by_code a b later)
two_sided_by_code later a b s sa sb ok e f =
    let back : Agreed act sa sb (meet_by_code a b later) = coded_agrees sa sb (meet a b later) (two_sided later a b s sa sb ok (sym (applies a s) ∙ e) (sym (applies b s) ∙ f)) in
    subst (λ (g : Instr → State → Option State). Agreed g sa sb (meet_by_code a b later)) (sym same_act) back

named : (m : Result Outcome Mismatch) → ¬ (m ≡ Err mismatches.SizesDiffer) → IfErr (coded (as_pair m)) IsNamed
named (Ok o) h = tt
named (Err mismatches.TablesDiffer) h = inl (inl refl)
named (Err mismatches.ColumnsDiffer) h = inl (inr refl)
named (Err mismatches.SizesDiffer) h = absurd (h refl)
named (Err mismatches.Range) h = inr refl

pub kinds_by_code : (later : Bool) (a b : Instr) (s sa sb : State) → ok_state (apply a s) ≡ Some sa → ok_state (apply b s) ≡ Some sb → IfErr (meet_by_code a b later) IsNamed
kinds_by_code later a b s sa sb e f = named (meeting a b later) (sizes_fit a b later s sa sb (sym (applies a s) ∙ e) (sym (applies b s) ∙ f))
