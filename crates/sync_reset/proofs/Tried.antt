-- The instructions from a place on.
use Rattle.std.proofs.Common.{◌≡◌, ℕ, suc, ◌+◌, ◌<◌, List, [], ◌∷◌, length, drop, refl, arith, get_or}
use Rattle.std.proofs.Math.Seq.{drop-cons}
use Rattle.sync_data.specs.declared.instr.Instr.{Instr}

pub one_more : (place : ℕ) → suc place ≡ place + 1
one_more place = omega arith

pub cut_at : (place : ℕ) (is : List Instr) (i : Instr) → place < length is → i ≡ get_or is place i → drop place is ≡ i ∷ drop (place + 1) is
cut_at place is i h e =
    let first : drop place is ≡ get_or is place i ∷ drop (suc place) is = drop-cons is place i h in
    let next = one_more place in
    cc

pub none_left : (is : List Instr) → drop (length is) is ≡ []
none_left [] = refl
none_left (i ∷ is) = none_left is
