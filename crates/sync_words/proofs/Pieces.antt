-- What is put in pieces.
use Rattle.std.proofs.Common.{◌≡◌, ℕ, ◌++◌, List, ap, ◌∙◌, append_assoc}

-- two pieces were put, and the third comes behind them
pub three_put : (out first second third after after_both : List ℕ) → after ≡ out ++ first → after_both ≡ after ++ second → after_both ++ third ≡ out ++ (first ++ second ++ third)
three_put out first second third after after_both is both =
    ap (λ l. l ++ third) (both ∙ ap (λ l. l ++ second) is ∙ append_assoc out first second) ∙ append_assoc out (first ++ second) third
