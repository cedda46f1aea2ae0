-- Names that a client may name, as a test and as a fact.
use Rattle.std.proofs.Common.{◌≡◌, ◌<◌, ◌≤◌, Bool, true, false, not, ◌&&◌, ◌==◌, nat_le, length, Some, None, refl, ap, arith}
use Rattle.std.proofs.lemmas.Bool.Decides.{nat_tests}
use Rattle.sync_value_text.specs.Forms.{provided}
use Rattle.sync_subset.specs.Tables.{Tables, IsSubset, rises}
use Rattle.sync_edits.specs.Tables.{is_subset}

both : (a b d : Bool) → a ≡ true → b ≡ true → d ≡ true → (a && (b && d)) ≡ true
both true true true f g h = refl
both true true false f g h = h
both true false d f g h = absurd cc
both false b d f g h = absurd cc

parts : (a b d : Bool) → (a && (b && d)) ≡ true → (a ≡ true) × (b ≡ true) × (d ≡ true)
parts true true d e = (refl, refl, e)
parts true false d e = absurd cc
parts false b d e = absurd cc

pub is_one : (names : Tables) → IsSubset names → is_subset names ≡ true
unfolding is_subset
is_one names is =
    let some : not (length names == 0) ≡ true = let low = is.0 in grind (arith, nat_tests) in
    let few : nat_le (length names) 64 ≡ true = let high = is.1 in grind (arith, nat_tests) in
    both (not (length names == 0)) (nat_le (length names) 64) (rises names) some few is.2

pub is_then : (names : Tables) → is_subset names ≡ true → IsSubset names
unfolding is_subset
is_then names e =
    let p = parts (not (length names == 0)) (nat_le (length names) 64) (rises names) e in
    let some : 0 < length names = let a = p.0 in grind (arith, nat_tests) in
    let few : length names ≤ 64 = let b = p.1 in grind (arith, nat_tests) in
    (some, few, p.2)

pub is_taken : (names : Tables) → IsSubset names → provided (is_subset names) names ≡ Some names
is_taken names is = ap (λ b. provided b names) (is_one names is)

pub is_left : (names : Tables) → (IsSubset names → ⊥) → provided (is_subset names) names ≡ None
is_left names isnt = on (is_subset names) refl
  where
    on : (b : Bool) → is_subset names ≡ b → provided b names ≡ None
    on true e = absurd (isnt (is_then names e))
    on false e = refl
