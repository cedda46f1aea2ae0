-- The first changes of an Upload.
use Rattle.std.proofs.Common.{ℕ, zero, suc, ◌≤◌, List, [], ◌∷◌, length, take, arith}
use Rattle.std.proofs.lemmas.List.Sums.{sum_by-take-le}
use Rattle.sync_messages.specs.Parts.{ChangeParts, bytes_of_changes}

pub few_of : (n : ℕ) (cs : List ChangeParts) → length (take n cs) ≤ length cs
few_of zero cs = omega (arith)
few_of (suc n) [] = omega (arith)
few_of (suc n) (c ∷ cs) = let h = few_of n cs in omega (arith, h)

pub small_of : (n : ℕ) (cs : List ChangeParts) → bytes_of_changes (take n cs) ≤ bytes_of_changes cs
small_of n cs = sum_by-take-le (λ change. length change.body) cs n
