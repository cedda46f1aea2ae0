-- Lists of instructions, of which the first so many are listed, by numbers that rise by one.
use Rattle.std.specs.Prelude.{◌≡◌, ◌≤◌, ◌<◌, ℕ, zero, suc, Bool, List, [], ◌∷◌, Ok, refl}
use Rattle.std.specs.Coded.{Coded, code_by, coded×, coded_ℕ}
use Rattle.sync_data.specs.declared.instr.Instr.{Instr}
use Rattle.sync_theory.specs.Lists.{cross}
use Rattle.sync_law.specs.Instrs.{meet}
use Rattle.sync_rivals.specs.Marks.{Marks, IsListed, Knows, coded_marks}

-- the marks, the number of the first list, and how many are listed
pub record Indexed : Type 0 where
  pub marks : Marks
  pub first : ℕ
  pub listed : ℕ

abbrev pub coded_indexed : Coded Indexed
coded_indexed = code_by (Marks × (ℕ × ℕ)) (coded× coded_marks (coded× coded_ℕ coded_ℕ)) (λ x. (x.marks, (x.first, x.listed))) (λ p. record { marks = p.0; first = p.1.0; listed = p.1.1 }) (λ _. refl)

abbrev pub AreListed : Marks → ℕ → ℕ → List (List Instr) → Type 0
AreListed s n zero lists = Unit {0}
AreListed s n (suc k) [] = ⊥
AreListed s n (suc k) (l ∷ lists) = IsListed s n l × AreListed s (suc n) k lists

-- those that it has as listed are so
abbrev pub Lists : Indexed → List (List Instr) → Type 0
Lists x lists = AreListed x.marks x.first x.listed lists

-- ---- one of them
-- it stands at this place
abbrev pub StandsAt : ℕ → List Instr → List (List Instr) → Type 0
StandsAt n l [] = ⊥
StandsAt zero l (k ∷ lists) = k ≡ l
StandsAt (suc n) l (k ∷ lists) = StandsAt n l lists

-- another is put at this place
abbrev pub put_list : ℕ → List Instr → List (List Instr) → List (List Instr)
put_list n is [] = []
put_list zero is (l ∷ lists) = is ∷ lists
put_list (suc n) is (l ∷ lists) = l ∷ put_list n is lists

-- what is left of instructions is listed where they are
abbrev pub StaysListed : List Instr → List Instr → Type 0
StaysListed was is = (s : Marks) (n : ℕ) → IsListed s n was → IsListed s n is

-- and these are left of those at a place
abbrev pub StaysAt : ℕ → List Instr → List (List Instr) → Type 0
StaysAt n is [] = ⊥
StaysAt zero is (l ∷ lists) = StaysListed l is
StaysAt (suc n) is (l ∷ lists) = StaysAt n is lists

-- ---- what crosses them
-- the codes of its rivals are known, where any list is listed
abbrev pub Serves : Indexed → List ℕ → List Instr → Type 0
Serves x codes instrs = 0 < x.listed → Knows codes instrs

-- what stands at these places crosses the instructions as it is, on either side, and they stay too
abbrev pub Pass : (from to : ℕ) → List (List Instr) → List Instr → Type 0
Pass from to lists instrs =
    (place : ℕ) (others : List Instr) → from ≤ place → place < to → StandsAt place others lists
    → (later : Bool) → (cross (λ a b. meet a b later) others instrs ≡ Ok (others, instrs)) × (cross (λ a b. meet a b later) instrs others ≡ Ok (instrs, others))
