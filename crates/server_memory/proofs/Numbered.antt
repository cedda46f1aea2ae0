-- The numbers of entries.
use Rattle.std.proofs.Common.{◌≡◌, ℕ, zero, suc, ◌<◌, ◌==◌, List, [], ◌∷◌, length, map, take, get_or, if◌then◌else◌, Option, Some, sym, ap, arith}
use Rattle.sync_theory.specs.Changesets.{Changeset}
use Rattle.sync_model.specs.Fronts.{last_of}

module _ {I E : Type 0} (f : E → Changeset I) where
  pub last_behind : (c : ℕ) (es : List E) (o : Option ℕ) (k : ℕ) (e : E) → k < length es → e ≡ get_or es k e → last_of c (map f (take (suc k) es)) o ≡ (if (f e).origin == c then Some (f e).number else last_of c (map f (take k es)) o)
  last_behind c [] o k e h is = absurd (omega (arith, h))
  last_behind c (x ∷ es) o zero e h is = ap (λ y. if (f y).origin == c then Some (f y).number else o) (sym is)
  last_behind c (x ∷ es) o (suc k) e h is = last_behind c es (if (f x).origin == c then Some (f x).number else o) k e (omega (arith, h)) is
