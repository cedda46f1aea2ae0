-- Numbers that are told one after the other.
use Rattle.std.proofs.Common.{◌≡◌, ℕ, ◌+◌, ◌<◌, List, [], ◌∷◌, ◌++◌, length, get_or, drop, map, drop-cons, sym, ap, ◌∙◌, add-one, append_assoc}

pub told_next : (f : List ℕ → ℕ) (lives : List (List ℕ)) (i : ℕ) (life : List ℕ) (old new : List ℕ) (n : ℕ) → i < length lives → life ≡ get_or lives i life → n ≡ f life → new ≡ old ++ n ∷ []
    → new ++ map f (drop (i + 1) lives) ≡ old ++ map f (drop i lives)
told_next f lives i life old new n lt is told pushed =
    ap (λ (xs : List ℕ). xs ++ map f (drop (i + 1) lives)) pushed
    ∙ append_assoc old (n ∷ []) (map f (drop (i + 1) lives))
    ∙ ap (λ (x : ℕ). old ++ x ∷ map f (drop (i + 1) lives)) (told ∙ ap f is)
    ∙ ap (λ (k : ℕ). old ++ f (get_or lives i life) ∷ map f (drop k lives)) (add-one i)
    ∙ ap (λ (xs : List (List ℕ)). old ++ map f xs) (sym (drop-cons lives i life lt))
