-- An index of one list instruction is one of what is left of it: where that stands isn't asked.
use Rattle.std.specs.List.{AllByRecursion}
use Rattle.std.proofs.Common.{◌≡◌, ℕ, true, false, List, [], ◌∷◌, Option, Some, None, refl, sym, subst}
use Rattle.sync_data.specs.declared.instr.Instr.{Instr}
use Rattle.sync_rivals.specs.Codes.{code}
use Rattle.sync_rivals.specs.Homes.{listed, rivals}
use Rattle.sync_rivals.specs.Lists.{StaysListed}
use Rattle.sync_rivals.specs.Marks.{Knows, is_at}
use Rattle.sync_rivals.specs.Strangers.{place_of}
use Rattle.list_places.specs.declared.moves.ListAction.{ListAction}
use Rattle.list_places.proofs.Stands.{same_elsewhere}
use Rattle.list_lane.specs.Actions.{instrs_left}
use Rattle.list_lane.specs.Told.{action, told}
use Rattle.list_lane.specs.declared.op.Op.{Op}

pub told_listed : (n : ℕ) (s : Option Op) (is : List Instr) → StaysListed is (told n s is)
told_listed n None is = λ m k h. tt
told_listed n (Some a) [] = λ m k h. h
told_listed n (Some a) (i ∷ is) = λ m k h. (
  subst (λ q. AllByRecursion (λ p. is_at m k p ≡ true) (listed q)) (sym (same_elsewhere place_of (λ c v s t. refl) (λ c s t. refl) (λ c v s t. refl) (action a.does a.place n) i)) h.0,
  h.1,
)

pub left_listed : (o : Option ListAction) (is : List Instr) → StaysListed is (instrs_left o is)
left_listed None is = λ m k h. tt
left_listed (Some a) [] = λ m k h. h
left_listed (Some a) (i ∷ is) = λ m k h. (
  subst (λ q. AllByRecursion (λ p. is_at m k p ≡ true) (listed q)) (sym (same_elsewhere place_of (λ c v s t. refl) (λ c s t. refl) (λ c v s t. refl) a i)) h.0,
  h.1,
)

pub left_known : (codes : List ℕ) (o : Option ListAction) (is : List Instr) → Knows codes is → Knows codes (instrs_left o is)
left_known codes None is h = λ test none. tt
left_known codes (Some a) [] h = h
left_known codes (Some a) (i ∷ is) h = λ test none. (
  subst (λ q. AllByRecursion (λ p. test (code p) ≡ false) (rivals q)) (sym (same_elsewhere place_of (λ c v s t. refl) (λ c s t. refl) (λ c v s t. refl) a i)) (h test none).0,
  (h test none).1,
)
