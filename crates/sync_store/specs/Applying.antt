-- What the calls that apply instructions answer, and what they leave.
use Rattle.std.specs.Prelude.{◌≡◌, ℕ, suc, List, [], ◌∷◌, Option, None, Some, Result, Ok, Err, refl}
use Rattle.std.specs.Option.{option_and_then, option_map}
use Rattle.std.proofs.Common.{sym, ◌∙◌, ap, subst}
use Rattle.sync_data.specs.declared.instr.Instr.{Instr}
use Rattle.sync_base.specs.States.{State, IsState}
use Rattle.sync_base.specs.Effects.{effect_of}
use Rattle.sync_base.specs.After.{after}
use Rattle.sync_base.specs.Checks.{act, act_all, break_of, break_at}
use Rattle.sync_base.specs.declared.answers.Break.{Break}
use Rattle.sync_base.specs.Lemmas.Places.{acted}
use Rattle.sync_base.specs.Lemmas.Whole.{keeps_state}
use Rattle.sync_store.specs.declared.refusals.ApplyRefusal.{ApplyRefusal}
use Rattle.sync_store.specs.declared.refusals.ApplyRefusal.TheVariants as refusals
use Rattle.sync_store.specs.declared.refusals.AllRefusal.{AllRefusal}
use Rattle.sync_store.specs.declared.refusals.AllRefusal.TheVariants as all_refusals

-- the instruction has acted, or its break is told and nothing has changed; out of memory, nothing is said
abbrev pub Applies : Result (Unit {0}) ApplyRefusal → Instr → State → State → Type 0
Applies (Ok u) i old new = act i old ≡ Some new
Applies (Err (refusals.Break b)) i old new = (break_of old (effect_of i) ≡ Some b) × (new ≡ old)
Applies (Err refusals.NoMemory) i old new = Unit {0}

-- the instructions have acted one after the other, or the first break and its place are told and nothing has changed
abbrev pub AppliesAll : Result (Unit {0}) AllRefusal → List Instr → State → State → Type 0
AppliesAll (Ok u) is old new = act_all is old ≡ Some new
AppliesAll (Err (all_refusals.Break place cause)) is old new = (break_at is old ≡ Some (place, cause)) × (new ≡ old)
AppliesAll (Err all_refusals.NoMemory) is old new = Unit {0}

-- the state after instructions that act one after the other
abbrev pub after_all : List Instr → State → State
after_all [] s = s
after_all (i ∷ is) s = after_all is (after s (effect_of i))

some_is : {A : Type 0} {x y : A} → Some x ≡ Some y → x ≡ y
some_is e = cc

rest_acts : (x : Option State) (is : List Instr) {t : State} → option_and_then (act_all is) x ≡ Some t → (s : State) × (x ≡ Some s) × (act_all is s ≡ Some t)
rest_acts None is e = cc
rest_acts (Some s) is e = (s, refl, e)

no_break : (is : List Instr) (s : State) (o : Option Break) → o ≡ None → break_at is s ≡ None
    → ◌≡◌ {A = Option (ℕ × Break)} (elim o [ Some b ↦ Some (0, b) | None ↦ option_map (λ p. (suc p.0, p.1)) (break_at is s) ]) None
no_break is s None e f = ap (option_map (λ p. (suc p.0, p.1))) f
no_break is s (Some b) e f = cc

-- instructions that have acted meet no break
pub have_acted : (is : List Instr) (s t : State) → act_all is s ≡ Some t → (break_at is s ≡ None) × (t ≡ after_all is s)
have_acted [] s t e = (refl, some_is (sym e))
have_acted (i ∷ is) s t e =
    let first = rest_acts (act i s) is e in
    let a = acted (effect_of i) s first.0 first.1 in
    let rest = have_acted is first.0 t first.2 in
    (no_break is (after s (effect_of i)) (break_of s (effect_of i)) a.acts (ap (break_at is) a.gives ∙ rest.0), rest.1 ∙ ap (after_all is) (sym a.gives))

-- and they keep a state a state
pub keep_state : (is : List Instr) (s t : State) → IsState s → act_all is s ≡ Some t → IsState t
keep_state [] s t ok e = subst IsState (some_is e) ok
keep_state (i ∷ is) s t ok e =
    let first = rest_acts (act i s) is e in
    keep_state is first.0 t (keeps_state i s first.0 ok first.1) first.2
