-- What is left of lists that cross is no more: not in number, and not in the bytes that they carry.
use Rattle.std.proofs.Common.{◌≡◌, ℕ, ◌≤◌, Bool, List, [], ◌∷◌, Option, Some, None, Result, Ok, IfOk, refl, length, arith, le_refl, subst}
use Rattle.std.specs.List.{sum_by}
use Rattle.std.proofs.lemmas.List.Sums.{sum_by-cons, sum_by-append}
use Rattle.sync_data.specs.declared.instr.Instr.{Instr}
use Rattle.sync_data.specs.Payload.{payload, IsSmall}
use Rattle.sync_base.specs.Objects.{CarriesAsMuch}
use Rattle.sync_base.specs.Rules.{meeting}
use Rattle.sync_base.specs.Lemmas.Payloads.{payloads_stay}
use Rattle.sync_theory.specs.Lists.{kept, cross}
use Rattle.sync_theory.proofs.Lists.{Row, gone, end, next, Rows, done, more}
use Rattle.sync_theory.proofs.Cross.{rows_of}
use Rattle.sync_law.specs.Instrs.{meet}
use Rattle.sync_transform.proofs.Covered.{sides}

-- the weight of what is left of one
abbrev of_rest : (Instr → ℕ) → Option Instr → ℕ
of_rest w o = sum_by w (kept o)

-- neither side gets heavier
abbrev Lightens : (Instr → ℕ) → Type 0
Lightens w = (later : Bool) (a b : Instr) (x y : Option Instr) → meet a b later ≡ Ok (x, y) → (of_rest w x ≤ w a) × (of_rest w y ≤ w b)

module _ (w : Instr → ℕ) (light : Lightens w) (later : Bool) where
  row_lighter : {x z : Option Instr} {bs cs : List Instr} → Row (λ a b. meet a b later) x bs z cs → (of_rest w z ≤ of_rest w x) × (sum_by w cs ≤ sum_by w bs)
  row_lighter (gone {bs = bs}) = (le_refl 0, le_refl (sum_by w bs))
  row_lighter (end {a = a}) = (le_refl (of_rest w (Some a)), le_refl 0)
  row_lighter (next {a = a} {b = b} {x = x} {z = z} {y = y} {bs = bs} {cs = cs} m r) =
      let p = light later a b x y m in
      let q = row_lighter r in
      (omega (arith, p.0, q.0), omega (arith, p.1, q.1, sum_by-cons w b bs, sum_by-append w (kept y) cs))

  rows_lighter : {as_ cs bs ds : List Instr} → Rows (λ a b. meet a b later) as_ bs cs ds → (sum_by w cs ≤ sum_by w as_) × (sum_by w ds ≤ sum_by w bs)
  rows_lighter (done {bs = bs}) = (le_refl 0, le_refl (sum_by w bs))
  rows_lighter (more {a = a} {as_ = as_} {as1 = as1} {x = x} {bs = bs} {cs = cs} r q) =
      let p = row_lighter r in
      let s = rows_lighter q in
      (omega (arith, p.0, s.0, sum_by-cons w a as_, sum_by-append w (kept x) as1), omega (arith, p.1, s.1))

-- ---- by number
one_at_most : (o : Option Instr) → of_rest (λ _. 1) o ≤ 1
one_at_most None = omega arith
one_at_most (Some i) = omega arith

number_of : (is : List Instr) → sum_by (λ _. 1) is ≡ length is
number_of [] = refl
number_of (i ∷ is) = let e = number_of is in omega (arith, sum_by-cons (λ (_ : Instr). 1) i is)

-- ---- by bytes
carried : (i : Instr) (o : Option Instr) → CarriesAsMuch i o → of_rest payload o ≤ payload i
carried i None h = omega arith
carried i (Some j) h = omega (arith, h)

bytes_lighten : Lightens payload
bytes_lighten later a b x y e =
    let both = sides (λ l r. CarriesAsMuch a l × CarriesAsMuch b r) (meeting a b later) x y e (payloads_stay a b later) in
    (carried a x both.0, carried b y both.1)

-- ---- both together
pub crossed_small : (later : Bool) (as_ bs cs ds : List Instr) → cross (λ a b. meet a b later) as_ bs ≡ Ok (cs, ds) → IsSmall as_ → IsSmall bs → IsSmall cs × IsSmall ds
crossed_small later as_ bs cs ds e f g =
    let rows = rows_of (λ a b. meet a b later) {as_ = as_} {cs = cs} {bs = bs} {ds = ds} e in
    let n = rows_lighter (λ _. 1) (λ later a b x y e. (one_at_most x, one_at_most y)) later rows in
    let p = rows_lighter payload bytes_lighten later rows in
    ((omega (arith, n.0, f.0, number_of as_, number_of cs), omega (arith, p.0, f.1)), (omega (arith, n.1, g.0, number_of bs, number_of ds), omega (arith, p.1, g.1)))

-- what is ok is what it is said to be
pub ok_is : {A E : Type 0} (r : Result A E) (x y : A) → r ≡ Ok x → IfOk r (λ z. z ≡ y) → x ≡ y
ok_is r x y e h = subst (λ s. IfOk s (λ z. z ≡ y)) e h
