-- Marks: a changeset of a number is listed under a place of a code.
use Rattle.std.specs.Prelude.{◌≡◌, ◌≢◌, ◌≤◌, ℕ, Bool, true, false, List, [], ◌∷◌, ◌++◌, Option, None, Some, refl}
use Rattle.std.specs.Coded.{Coded, code_by, coded×, coded_ℕ}
use Rattle.std.specs.List.{AllByRecursion}
use Rattle.std.specs.declared.cmp.Ordering.{Ordering}
use Rattle.std.specs.Ordering.{nat_cmp, on, then_cmp}
use Rattle.std.specs.Cmp.{IsTotalOrder, nat_cmp_total, on_total, then_total}
use Rattle.std.specs.BTreeMap.Range.{IsLeBy}
use Rattle.std.specs.FinSet as set
use Rattle.std.specs.FinMap.{IsAntisymmetric, nat_cmp-IsAntisymmetric}
use Rattle.sync_data.specs.Orders.{ties_first, ties_second}
use Rattle.sync_data.specs.declared.instr.Instr.{Instr}
use Rattle.sync_rivals.specs.declared.mark.Mark.{Mark}
use Rattle.sync_rivals.specs.Homes.{Place}
use Rattle.sync_rivals.specs.Codes.{code, listed_codes, rival_codes}
use Rattle.sync_rivals.specs.Strangers.{IsFoundBy, FindsNoRival}

abbrev pub mark_code : Mark → ℕ
mark_code m = m.code

abbrev pub mark_number : Mark → ℕ
mark_number m = m.number

-- by the code, then by the number
abbrev pub mark_cmp : Mark → Mark → Ordering
mark_cmp = then_cmp (on mark_code nat_cmp) (on mark_number nat_cmp)

pub mark_cmp_total : IsTotalOrder mark_cmp
mark_cmp_total = then_total (on_total mark_code nat_cmp_total) (on_total mark_number nat_cmp_total)

pub mark_cmp_exact : IsAntisymmetric mark_cmp
mark_cmp_exact x y e =
    let c : x.code ≡ y.code = nat_cmp-IsAntisymmetric _ _ (ties_first (nat_cmp x.code y.code) _ e) in
    let n : x.number ≡ y.number = nat_cmp-IsAntisymmetric _ _ (ties_second (nat_cmp x.code y.code) _ e) in
    λ i. record { code = c i; number = n i }

abbrev pub Marks : Type 0
Marks = set.FinSet mark_cmp

abbrev pub coded_mark : Coded Mark
coded_mark = code_by (ℕ × ℕ) (coded× coded_ℕ coded_ℕ) (λ m. (m.code, m.number)) (λ p. record { code = p.0; number = p.1 }) (λ _. refl)

abbrev pub coded_marks : Coded Marks
coded_marks = set.code coded_mark

abbrev pub mark : ℕ → ℕ → Mark
mark c n = record { code = c; number = n }

abbrev pub is_marked : Marks → ℕ → ℕ → Bool
is_marked s c n = set.contains s (mark c n)

-- whether a number is listed under a place
abbrev pub is_at : Marks → ℕ → Place → Bool
is_at s n q = is_marked s (code q) n

-- each instruction is listed under all its places, by this number
abbrev pub IsListed : Marks → ℕ → List Instr → Type 0
IsListed s n instrs = AllByRecursion (IsFoundBy (is_at s n)) instrs

-- the codes of the rivals of all
abbrev pub all_rivals : List Instr → List ℕ
all_rivals [] = []
all_rivals (i ∷ is) = rival_codes i ++ all_rivals is

-- what marks none of these codes finds no rival of the instructions
abbrev pub Knows : List ℕ → List Instr → Type 0
Knows codes instrs = (test : ℕ → Bool) → AllByRecursion (λ c. test c ≡ false) codes → AllByRecursion (FindsNoRival (λ q. test (code q))) instrs

-- a number isn't below what was found
abbrev pub IsReached : ℕ → Option ℕ → Type 0
IsReached n None = ⊥
IsReached n (Some m) = m ≤ n

-- from there on no number that is marked with the code is missed
abbrev pub Reaches : Marks → ℕ → Option ℕ → ℕ → Type 0
Reaches s from found c = (n : ℕ) → from ≤ n → is_marked s c n ≡ true → IsReached n found

-- of the marks that the test passes: none from the start on, or the least of these
abbrev pub IsLeast : (Mark → Bool) → Mark → Option Mark → Type 0
IsLeast has start None = (m : Mark) → IsLeBy mark_cmp start m → has m ≡ false
IsLeast has start (Some k) = IsLeBy mark_cmp start k × ((m : Mark) → IsLeBy mark_cmp start m → has m ≡ true → IsLeBy mark_cmp k m)

-- ---- what a change of the marks keeps
abbrev pub KeepsAll : Marks → Marks → Type 0
KeepsAll s t = (m : Mark) → set.contains s m ≡ true → set.contains t m ≡ true

abbrev pub KeepsOthers : ℕ → Marks → Marks → Type 0
KeepsOthers n s t = (m : Mark) → m.number ≢ n → set.contains s m ≡ true → set.contains t m ≡ true

abbrev pub AddsNone : Marks → Marks → Type 0
AddsNone s t = (m : Mark) → set.contains s m ≡ false → set.contains t m ≡ false

-- a number is marked with each of these codes, or with none
abbrev pub AreMarked : Marks → ℕ → List ℕ → Type 0
AreMarked s n codes = AllByRecursion (λ c. is_marked s c n ≡ true) codes

abbrev pub AreUnmarked : Marks → ℕ → List ℕ → Type 0
AreUnmarked s n codes = AllByRecursion (λ c. is_marked s c n ≡ false) codes

-- no instruction is listed under any of its places by this number
abbrev pub AreGone : Marks → ℕ → List Instr → Type 0
AreGone s n instrs = AllByRecursion (λ i. AreUnmarked s n (listed_codes i)) instrs
