-- Which instruction of a list is the first that tables don't admit.
use Rattle.std.proofs.Common.{◌≡◌, ℕ, suc, ◌+◌, true, false, List, [], ◌∷◌, None, Some, drop, refl, ap, ◌∙◌, arith}
use Rattle.std.specs.Prelude.{◌&&◌, if◌then◌else◌}
use Rattle.sync_data.specs.declared.instr.Instr.{Instr}
use Rattle.sync_subset.specs.Tables.{Tables, admits}
use Rattle.sync_model.specs.Profile.{all_admitted, first_outside}
use Rattle.sync_exchange.specs.Profile.{the_profile}

-- a client that gets all admits all
pub all_free : (is : List Instr) → all_admitted the_profile None is ≡ true
all_free [] = refl
all_free (i ∷ is) = all_free is

-- all of those before an index are admitted
pub record AllBefore (tables : Tables) (is : List Instr) (place index : ℕ) : Type 0 where
  pub place_is : place ≡ index
  pub all_is : all_admitted the_profile (Some tables) is ≡ all_admitted the_profile (Some tables) (drop index is)
  pub first_is : first_outside the_profile (Some tables) is ≡ index + first_outside the_profile (Some tables) (drop index is)

pub all_at_first : (tables : Tables) (is : List Instr) → AllBefore tables is 0 0
all_at_first tables is = let all : first_outside the_profile (Some tables) (drop 0 is) ≡ first_outside the_profile (Some tables) is = refl in record { place_is = refl; all_is = refl; first_is = omega (arith, all) }

pub all_next : (tables : Tables) (is : List Instr) (place i : ℕ) (x : Instr) → AllBefore tables is place i → drop i is ≡ x ∷ drop (i + 1) is → admits tables x ≡ true → AllBefore tables is (place + 1) (i + 1)
all_next tables is place i x a left does =
    let rest : first_outside the_profile (Some tables) (drop i is) ≡ suc (first_outside the_profile (Some tables) (drop (i + 1) is)) = ap (first_outside the_profile (Some tables)) left ∙ ap (λ b. if b then suc (first_outside the_profile (Some tables) (drop (i + 1) is)) else 0) does in
    let first = a.first_is in
    record {
      place_is = ap (λ k. k + 1) a.place_is;
      all_is = a.all_is ∙ ap (all_admitted the_profile (Some tables)) left ∙ ap (λ b. b && all_admitted the_profile (Some tables) (drop (i + 1) is)) does;
      first_is = omega (arith, first, rest);
    }

pub outside_here : (tables : Tables) (is : List Instr) (place i : ℕ) (x : Instr) → AllBefore tables is place i → drop i is ≡ x ∷ drop (i + 1) is → admits tables x ≡ false → all_admitted the_profile (Some tables) is ≡ false
outside_here tables is place i x a left isnt = a.all_is ∙ ap (all_admitted the_profile (Some tables)) left ∙ ap (λ b. b && all_admitted the_profile (Some tables) (drop (i + 1) is)) isnt

pub place_here : (tables : Tables) (is : List Instr) (place i : ℕ) (x : Instr) → AllBefore tables is place i → drop i is ≡ x ∷ drop (i + 1) is → admits tables x ≡ false → place ≡ first_outside the_profile (Some tables) is
place_here tables is place i x a left isnt =
    let rest : first_outside the_profile (Some tables) (drop i is) ≡ 0 = ap (first_outside the_profile (Some tables)) left ∙ ap (λ b. if b then suc (first_outside the_profile (Some tables) (drop (i + 1) is)) else 0) isnt in
    let first = a.first_is in
    let place_is = a.place_is in
    omega (arith, first, rest, place_is)

pub all_at_last : (tables : Tables) (is : List Instr) (place i : ℕ) → AllBefore tables is place i → drop i is ≡ [] → all_admitted the_profile (Some tables) is ≡ true
all_at_last tables is place i a left = a.all_is ∙ ap (all_admitted the_profile (Some tables)) left
