-- An entry as it stands: shown by an action, or fallen.
use Rattle.std.specs.List.{AllByRecursion}
use Rattle.std.proofs.Common.{◌≡◌, Bool, true, false, List, [], ◌∷◌, Option, Some, None, Result, Ok, refl, sym, ap, subst}
use Rattle.sync_data.specs.declared.instr.Instr.{Instr}
use Rattle.sync_data.specs.Payload.{Changes}
use Rattle.sync_theory.specs.Lists.{cross, step_down}
use Rattle.sync_rivals.specs.Homes.{listed}
use Rattle.sync_rivals.specs.Lists.{StaysListed}
use Rattle.sync_rivals.specs.Marks.{is_at}
use Rattle.sync_rivals.specs.Strangers.{place_of}
use Rattle.list_places.specs.Moves.{shown}
use Rattle.list_places.specs.declared.moves.ListAction.{ListAction}
use Rattle.list_places.proofs.Stands.{same_elsewhere}
use Rattle.sync_recip.specs.Standing.{stood}

-- where an instruction of a list stands isn't asked
pub shown_listed : (o : Option ListAction) (is : List Instr) → StaysListed is (shown o is)
shown_listed None is = λ s n h. h
shown_listed (Some a) [] = λ s n h. h
shown_listed (Some a) (i ∷ is) = λ s n h. (
  subst (λ q. AllByRecursion (λ p. is_at s n p ≡ true) (listed q)) (sym (same_elsewhere place_of (λ c v s t. refl) (λ c s t. refl) (λ c v s t. refl) a i)) h.0,
  h.1,
)

pub stood_listed : (f : Bool) (o : Option ListAction) (c : Changes) → StaysListed c.instrs (stood f o c).instrs
stood_listed true o c = λ s n h. tt
stood_listed false o c = shown_listed o c.instrs

-- nothing crosses none
pub none_crossed : {L R M : Type 0} (meet : L → R → Result (Option L × Option R) M) (as_ : List L) → cross meet as_ [] ≡ Ok (as_, [])
none_crossed meet [] = refl
none_crossed meet (a ∷ as_) = ap (step_down (Some a)) (none_crossed meet as_)
