use Rattle.std.proofs.Common.{◌≡◌, ℕ, Bool, true, false, cond, not, ◌&&◌, ◌||◌, ◌==◌, nat_lt, refl, arith, ap, ◌∙◌}
use Rattle.std.proofs.lemmas.Bool.Decides.{nat_tests}
use Rattle.std.specs.declared.cmp.Ordering.{Ordering}
use Rattle.std.specs.declared.cmp.Ordering.TheVariants.{Less, Equal, Greater}
use Rattle.std.specs.Ordering.{nat_cmp, is_gt, ordering_then}
use Rattle.sync_law.proofs.stamps.stamps_tell.Goals as goal

-- of below, equal and above just one holds
three : (a b c : Bool) (o : Ordering) → c ≡ (not a && not b) → (a && b) ≡ false → (c || (b && is_gt o)) ≡ is_gt (ordering_then (cond a Less (cond b Equal Greater)) o)
three true true c o h g = cc
three true false true o h g = cc
three true false false o h g = refl
three false true true o h g = cc
three false true false o h g = refl
three false false true o h g = refl
three false false false o h g = cc

one_above : (x y : ℕ) → nat_lt y x ≡ (not (nat_lt x y) && not (x == y))
one_above x y = grind (arith, nat_tests)

not_both : (x y : ℕ) → (nat_lt x y && (x == y)) ≡ false
not_both x y = grind (arith, nat_tests)

alone : (a b c : Bool) → c ≡ (not a && not b) → c ≡ is_gt (cond a Less (cond b Equal Greater))
alone true b c h = h
alone false true c h = h
alone false false c h = h

above : (x y : ℕ) → nat_lt y x ≡ is_gt (nat_cmp x y)
above x y = alone (nat_lt x y) (x == y) (nat_lt y x) (one_above x y)

pub returns : goal.returns
returns c = λ a b.
    ap (λ v. nat_lt b.ms a.ms || ((a.ms == b.ms) && v)) (above a.ident b.ident)
    ∙ three (nat_lt a.ms b.ms) (a.ms == b.ms) (nat_lt b.ms a.ms) (nat_cmp a.ident b.ident) (one_above a.ms b.ms) (not_both a.ms b.ms)
