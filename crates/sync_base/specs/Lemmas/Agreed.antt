-- What is left of an instruction: itself as changed, or nothing.
use Rattle.std.specs.Prelude.{◌≡◌, Bool, Option, None, Some, Ok, Err}
use Rattle.sync_base.specs.After.{after}
use Rattle.sync_base.specs.Checks.{Acts}
use Rattle.sync_base.specs.Effects.{Effect}
use Rattle.sync_base.specs.Lemmas.Shaped.{IsShaped, IsEffect}
use Rattle.sync_base.specs.Merged.{merged_state}
use Rattle.sync_base.specs.Rules.{Outcomes, Answer, rule}
use Rattle.sync_base.specs.States.{State}

abbrev pub after_outcome : State → Option Effect → State
after_outcome s None = s
after_outcome s (Some d) = after s d

abbrev pub ActsOutcome : State → Option Effect → Type 0
ActsOutcome s None = Unit {0}
ActsOutcome s (Some d) = Acts s d

-- each side and then what is left of the other acts, and both ways end in the merged_cell state
pub record Agrees (s : State) (a b : Effect) (l : Bool) (f : Outcomes Effect) : Type 0 where
  pub right_acts : ActsOutcome (after s a) f.right
  pub right_gives : after_outcome (after s a) f.right ≡ merged_state s a b l
  pub left_acts : ActsOutcome (after s b) f.left
  pub left_gives : after_outcome (after s b) f.left ≡ merged_state s a b l

-- the same of an answer that may be a mismatch
abbrev pub AgreesIfMet : State → Effect → Effect → Bool → Answer Effect → Type 0
AgreesIfMet s a b l (Err m) = Unit {0}
AgreesIfMet s a b l (Ok f) = Agrees s a b l f

abbrev pub EffectsAgree : Effect → Effect → Type 0
EffectsAgree a b = (s : State) (l : Bool) → IsShaped s → IsEffect a → IsEffect b → Acts s a → Acts s b → AgreesIfMet s a b l (rule l a b)
