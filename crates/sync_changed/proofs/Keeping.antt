-- A relation of states that each instruction keeps as it acts, a list keeps, whether it acts or not.
use Rattle.std.proofs.Common.{◌≡◌, List, [], ◌∷◌, Option, None, Some, refl, sym, ◌∙◌}
use Rattle.std.specs.Prelude.{IfSome}
use Rattle.sync_data.specs.declared.instr.Instr.{Instr}
use Rattle.sync_base.specs.Checks.{act}
use Rattle.sync_base.specs.States.{State}
use Rattle.sync_exchange.specs.Profile.{the_profile}
use Rattle.sync_law.specs.CodedLaw.{applies}
use Rattle.sync_model.specs.Clients.{state_or}
use Rattle.sync_model.specs.Profile as profile
use Rattle.sync_theory.specs.Lists.{and_then, run}

abbrev pub AllKeep : (State → State → Type 0) → List Instr → Type 0
AllKeep R [] = Unit {0}
AllKeep R (i ∷ is) = ((s t : State) → act i s ≡ Some t → R t s) × AllKeep R is

module _ (R : State → State → Type 0) (itself : (s : State) → R s s) (then : (s t u : State) → R u t → R t s → R u s) where
  acted : (s t : State) (o : Option State) (go : State → Option State) → R t s → ((u : State) → o ≡ Some u → IfSome (go u) (λ v. R v s)) → IfSome (and_then o go) (λ v. R v s)
  acted s t None go h k = tt
  acted s t (Some u) go h k = k u refl

  run_keeps : (is : List Instr) (s t : State) → R t s → AllKeep R is → IfSome (run (profile.act the_profile) is t) (λ u. R u s)
  run_keeps [] s t h k = h
  run_keeps (i ∷ is) s t h k =
      acted s t (profile.act the_profile i t) (run (profile.act the_profile) is) h
      (λ u e. run_keeps is s u (then s t u (k.0 t u (sym (applies i t) ∙ e)) h) k.1)

  or_same : (s : State) (o : Option State) → IfSome o (λ t. R t s) → R (state_or s o) s
  or_same s None h = itself s
  or_same s (Some t) h = h

  pub kept_so : (is : List Instr) (s : State) → AllKeep R is → R (state_or s (run (profile.act the_profile) is s)) s
  kept_so is s k = or_same s (run (profile.act the_profile) is s) (run_keeps is s s (itself s) k)
