-- One entry of a list of kept ones becomes another.
use Rattle.std.proofs.Common.{◌≡◌, ℕ, zero, suc, ◌<◌, List, [], ◌∷◌, refl, sym, ap, ◌∙◌, subst, length, set, get_or, map, arith}
use Rattle.sync_recip.specs.declared.carried.Became.{Became}
use Rattle.sync_recip.specs.declared.kept.Kept.{Kept}
use Rattle.sync_recip.specs.Lists.{kept_entry, lists_in}
use Rattle.sync_recip.specs.Carrying.{became_of, with_crossed, LeftAt, Suits}
use Rattle.sync_recip.specs.Stretches.{instrs_in}

pub left_within : (ks : List Kept) (n : ℕ) (b : Became) → LeftAt n b (lists_in (map kept_entry ks)) → n < length ks
left_within [] n b h = absurd h
left_within (k ∷ ks) zero b h = omega arith
left_within (k ∷ ks) (suc n) b h = let l = left_within ks n b h in omega (arith, l)

pub left_here : (ks : List Kept) (n : ℕ) (b : Became) (r : Kept) → LeftAt n b (lists_in (map kept_entry ks)) → r ≡ get_or ks n r → Suits b (instrs_in r)
left_here [] n b r h e = absurd h
left_here (k ∷ ks) zero b r h e = subst (λ (w : Kept). Suits b (instrs_in w)) (sym e) h.0
left_here (k ∷ ks) (suc n) b r h e = left_here ks n b r h e

pub entries_set : (ks : List Kept) (n : ℕ) (b : Became) (r v : Kept) → r ≡ get_or ks n r → kept_entry v ≡ became_of b (kept_entry r) → map kept_entry (set ks n v) ≡ with_crossed n b (map kept_entry ks)
entries_set [] n b r v e h = refl
entries_set (k ∷ ks) zero b r v e h = ap (λ x. x ∷ map kept_entry ks) (h ∙ ap (λ w. became_of b (kept_entry w)) e)
entries_set (k ∷ ks) (suc n) b r v e h = ap (λ l. kept_entry k ∷ l) (entries_set ks n b r v e h)
