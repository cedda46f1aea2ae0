-- A list of instructions acts, or one of them is the first that meets a break.
use Rattle.std.specs.Prelude.{◌≡◌, ℕ, suc, Bool, true, false, not, cond, List, [], ◌∷◌, is_some, Option, None, Some, refl}
use Rattle.std.specs.Option.{option_map, option_and_then}
use Rattle.std.proofs.Common.{sym, ◌∙◌, ap}
use Rattle.sync_data.specs.declared.instr.Instr.{Instr}
use Rattle.sync_base.specs.declared.answers.Break.{Break}
use Rattle.sync_base.specs.Effects.{effect_of, is_effect}
use Rattle.sync_base.specs.States.{State}
use Rattle.sync_base.specs.After.{after}
use Rattle.sync_base.specs.Checks.{act, act_all, break_of, break_at, unbroken, AllPlaced}

when : {A : Type 0} (b : Bool) (x y : A) → b ≡ true → cond b x y ≡ x
when true x y h = refl
when false x y h = cc

pub act_or_break : (i : Instr) (s : State) → is_effect (effect_of i) ≡ true → act i s ≡ unbroken (break_of s (effect_of i)) (after s (effect_of i))
act_or_break i s h = when _ _ _ h

some_map : {X Y : Type 0} (f : X → Y) (x : Option X) → is_some (option_map f x) ≡ is_some x
some_map f None = refl
some_map f (Some x) = refl

pub act_all_or_break : (is : List Instr) (s : State) → AllPlaced is → is_some (act_all is s) ≡ not (is_some (break_at is s))
act_all_or_break [] s h = refl
act_all_or_break (i ∷ is) s h =
    ap (λ x. is_some (option_and_then (act_all is) x)) (act_or_break i s h.0)
    ∙ elim (break_of s (effect_of i)) as (λ b. is_some (option_and_then (act_all is) (unbroken b (after s (effect_of i)))) ≡ not (is_some (elim b as (λ _. Option (ℕ × Break)) [ Some k ↦ Some (0, k) | None ↦ option_map (λ p. (suc p.0, p.1)) (break_at is (after s (effect_of i))) ]))) [
      | Some k ↦ refl
      | None ↦ act_all_or_break is (after s (effect_of i)) h.1 ∙ ap not (sym (some_map (λ (p : ℕ × Break). (suc p.0, p.1)) (break_at is (after s (effect_of i)))))
    ]
