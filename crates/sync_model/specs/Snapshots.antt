-- A state as lists of instructions, and back.
use Rattle.std.specs.Prelude.{◌≡◌, ◌≤◌, bytes_eq, ℕ, suc, ◌-◌, Bool, true, false, List, [], ◌∷◌, Option, Some, None, Result, Ok, Err, IfOk, IfSome, if◌then◌else◌}
use Rattle.sync_model.specs.Each.{Each}
use Rattle.sync_model.specs.Profile.{Profile, act, apply_all, is_small, needs}

-- the state after a part and then those that follow, or the place of the first that breaks
abbrev pub grown_on : {S : Type 0} → ℕ → Result S (ℕ × ℕ) → (S → Result S ℕ) → Result S ℕ
grown_on k (Ok s) go = go s
grown_on k (Err b) go = Err k

-- it is the state, or the place of the part that isn't as it is to be
abbrev pub grown_as : {S : Type 0} → S → Option ℕ → Result S ℕ
grown_as s None = Ok s
grown_as s (Some k) = Err k

module _ {I S : Type 0} (p : Profile I S) where
  -- the state after all parts, counted from one on
  abbrev pub run_parts : ℕ → List (List I) → S → Result S ℕ
  run_parts k [] s = Ok s
  run_parts k (x ∷ xs) s = grown_on k (apply_all p x s) (run_parts (suc k) xs)

  -- the place of the first part that isn't as the other list has it, or of the last one where that list goes on
  abbrev pub part_differs : ℕ → List (List I) → List (List I) → Option ℕ
  part_differs k [] [] = None
  part_differs k [] (y ∷ ys) = Some (k - 1)
  part_differs k (x ∷ xs) [] = Some k
  part_differs k (x ∷ xs) (y ∷ ys) = if bytes_eq (p.spell x) (p.spell y) then part_differs (suc k) xs ys else Some k

  -- these parts lead to a state, whose own parts they are to be
  abbrev pub grown_to : List (List I) → Result S ℕ → Result S ℕ
  grown_to parts (Ok s) = grown_as s (part_differs 0 parts (p.build s))
  grown_to parts (Err k) = Err k

  -- the state that is grown from parts, or the place of the first that is wrong
  abbrev pub grown : List (List I) → Result S ℕ
  grown parts = grown_to parts (run_parts 0 parts p.empty)

  -- what the theorems ask of it: on the states that fit, and whose values are no larger than can be spelled; an old one
  -- came of instructions that version 1 of the bytes can spell
  pub record Buildable (Fits Bounded Old : S → Type 0) : Type 0 where
    pub first : Bounded p.empty
    pub keeps : (i : I) (s t : S) → p.weight i ≤ p.most_weight → Bounded s → act p i s ≡ Some t → Bounded t
    pub first_old : Old p.empty
    pub keeps_old : (i : I) (s t : S) → p.needs_second i ≡ false → Old s → act p i s ≡ Some t → Old t
    -- what is left of two such instructions is such a one
    pub meets_old : (later : Bool) (a b : I) → p.needs_second a ≡ false → p.needs_second b ≡ false → IfOk (p.meet a b later) (λ o. IfSome o.0 (λ i. p.needs_second i ≡ false) × IfSome o.1 (λ i. p.needs_second i ≡ false))
    pub nothing : p.build p.empty ≡ []
    pub small : (s : S) → Fits s → Bounded s → Each (λ is. is_small p is ≡ true) (p.build s)
    pub old : (s : S) → Fits s → Old s → Each (λ is. needs p is ≡ false) (p.build s)
    pub grows : (s : S) → Fits s → Bounded s → run_parts 0 (p.build s) p.empty ≡ Ok s
