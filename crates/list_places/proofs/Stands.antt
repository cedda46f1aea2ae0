-- Where two list instructions stand after they met.
use Rattle.std.proofs.Common.{◌≡◌, ℕ, ◌+◌, ◌-◌, ◌<◌, ◌≤◌, Bool, true, false, cond, not, ◌&&◌, ◌||◌, List, [], ◌∷◌, length, get_or, set, Option, Some, None, Ok, refl, sym, ap, ◌∙◌, subst, arith}
use Rattle.std.specs.Prelude.{◌==◌, nat_lt, nat_le}
use Rattle.std.specs.Option.{option_map}
use Rattle.std.proofs.lemmas.Bool.{ltb-true, ltb-false, leb-true, eqb-false}
use Rattle.std.proofs.lemmas.Bool.Decides.{nat_tests}
use Rattle.std.proofs.lemmas.List.Sums.{sum_by-cons}
use Rattle.sync_data.specs.Spot as places
use Rattle.sync_data.specs.declared.value.Value.{Value}
use Rattle.sync_data.specs.declared.value.Value.TheVariants as values
use Rattle.sync_data.specs.declared.instr.CellName.{CellName}
use Rattle.sync_data.specs.declared.instr.Instr.{Instr}
use Rattle.sync_data.specs.declared.instr.Instr.TheVariants as instrs
use Rattle.sync_data.specs.Payload.{payload, IsSmall}
use Rattle.sync_base.specs.Effects.{path_of, CellPath, effect_of}
use Rattle.sync_base.specs.Objects.{object_of, cell_in}
use Rattle.sync_base.specs.Rules.{top}
use Rattle.sync_law.specs.Instrs.{meet}
use Rattle.list_places.specs.Places.{longer, Within, place_after}
use Rattle.list_places.specs.Moves.{instr_at, instr_left, acting, kind_of, action_at, action_in, kind_in, first_cell, moved, moved_first, shown}
use Rattle.list_places.specs.declared.places.Does.{Does}
use Rattle.list_places.specs.declared.places.Does.TheVariants.{Inserts, Erases, Updates}
use Rattle.list_places.specs.declared.moves.ListAction.{ListAction}
use Rattle.list_places.specs.declared.moves.ListAction.TheVariants.{Insert, Erase, Update}
use Rattle.list_places.specs.declared.moves.Moves.{Moves}
use Rattle.list_places.proofs.Rows.{grows, pair}

-- ---- what is left lies in the list after the other
abbrev pub WithinIf : Does → ℕ → Option ℕ → Type 0
WithinIf d n None = Unit {0}
WithinIf d n (Some p) = Within d p n

shorter : (p q n : ℕ) → p < n → q < n → (t s : Bool) → (p == q) ≡ t → nat_lt p q ≡ s → (t ≡ false → cond s p (p - 1) < n - 1)
shorter p q n f g true s e h k = cc
shorter p q n f g false true e h k = let m = ltb-true p q h in omega (arith, m, g)
shorter p q n f g false false e h k = let m = ltb-false p q h in let d = eqb-false p q e in grind (arith, m, d, f, g)

pub within_after : (l : Bool) (d e : Does) (p q n : ℕ) → Within d p n → Within e q n → WithinIf d (longer e n) (place_after l d p e q)
within_after l Inserts Inserts p q n f g = elim (nat_lt p q || ((p == q) && not l)) as (λ s. cond s p (p + 1) ≤ n + 1) [ true ↦ omega (arith, f) | false ↦ omega (arith, f) ]
within_after l Inserts Erases p q n f g = elim (nat_le p q) as (λ s. nat_le p q ≡ s → cond s p (p - 1) ≤ n - 1) [ true ↦ λ e. let m = leb-true p q e in omega (arith, m, g) | false ↦ λ e. omega (arith, f) ] refl
within_after l Inserts Updates p q n f g = f
within_after l Erases Inserts p q n f g = elim (nat_le q p) as (λ s. cond s (p + 1) p < n + 1) [ true ↦ omega (arith, f) | false ↦ omega (arith, f) ]
within_after l Erases Erases p q n f g = elim (p == q) as (λ t. (p == q) ≡ t → WithinIf Erases (n - 1) (cond t None (Some (cond (nat_lt p q) p (p - 1))))) [ true ↦ λ e. tt | false ↦ λ e. shorter p q n f g false (nat_lt p q) e refl refl ] refl
within_after l Erases Updates p q n f g = f
within_after l Updates Inserts p q n f g = elim (nat_le q p) as (λ s. cond s (p + 1) p < n + 1) [ true ↦ omega (arith, f) | false ↦ omega (arith, f) ]
within_after l Updates Erases p q n f g = elim (p == q) as (λ t. (p == q) ≡ t → WithinIf Updates (n - 1) (cond t None (Some (cond (nat_lt p q) p (p - 1))))) [ true ↦ λ e. tt | false ↦ λ e. shorter p q n f g false (nat_lt p q) e refl refl ] refl
within_after l Updates Updates p q n f g = elim (p == q) as (λ t. WithinIf Updates n (cond t (cond l (Some p) None) (Some p))) [ true ↦ elim l as (λ b. WithinIf Updates n (cond b (Some p) None)) [ true ↦ f | false ↦ tt ] | false ↦ f ]

pub within_some : (l : Bool) (d e : Does) (p q n r : ℕ) → Within d p n → Within e q n → place_after l d p e q ≡ Some r → Within d r (longer e n)
within_some l d e p q n r f g h = subst (WithinIf d (longer e n)) h (within_after l d e p q n f g)

-- ---- the places tell what is left
abbrev cell_of : CellPath → CellName
cell_of p = record { table = p.0.0; key = p.0.1; column = p.1 }

pub one_cell : (c k : CellName) → path_of c ≡ path_of k → c ≡ k
one_cell c k e = ap cell_of e

below_top : (d e : Does) (n : ℕ) → n < top → (grows d e && (n == top)) ≡ false
below_top d e n h = elim (grows d e) as (λ b. (b && (n == top)) ≡ false) [ true ↦ grind (arith, nat_tests, h) | false ↦ refl ]

pub both_stand : (l : Bool) (x y : ListAction) (m : Moves) (d e : Does) (p q n r s : ℕ)
    → ((c : CellName) (v : Value) → acting c v x ≡ instr_at c v d p n) → ((c : CellName) (v : Value) → acting c v y ≡ instr_at c v e q n) → n < top
    → place_after l d p e q ≡ Some r → place_after (not l) e q d p ≡ Some s
    → ((c : CellName) (v : Value) → acting c v m.left ≡ instr_at c v d r (longer e n)) → ((c : CellName) (v : Value) → acting c v m.right ≡ instr_at c v e s (longer d n))
    → (c : CellName) (v w : Value) → meet (acting c v x) (acting c w y) l ≡ Ok (Some (acting c v m.left), Some (acting c w m.right))
both_stand l x y m d e p q n r s is_x is_y h own other left right c v w =
    (λ i. meet (is_x c v i) (is_y c w i) l)
    ∙ pair l c v w d e p q n (below_top d e n h)
    ∙ (λ i. Ok (instr_left c v d (longer e n) (own i), instr_left c w e (longer d n) (other i)))
    ∙ (λ i. Ok (Some (sym (left c v) i), Some (sym (right c w) i)))

-- ---- what doesn't change by where an instruction stands
module _ {A : Type 0} (f : Instr → A)
    (inserts : (c : CellName) (v : Value) (s t : places.Spot) → f (acting c v (Insert s)) ≡ f (acting c v (Insert t)))
    (erases : (c : CellName) (s t : places.Spot) → f (acting c values.Null (Erase s)) ≡ f (acting c values.Null (Erase t)))
    (updates : (c : CellName) (v : Value) (s t : places.Spot) → f (acting c v (Update s)) ≡ f (acting c v (Update t))) where
  pub same_elsewhere : (a : ListAction) (i : Instr) → f (moved a i) ≡ f i
  same_elsewhere (Insert s) (instrs.AddTable i) = refl
  same_elsewhere (Insert s) (instrs.AddColumn i) = refl
  same_elsewhere (Insert s) (instrs.CreateObject i) = refl
  same_elsewhere (Insert s) (instrs.EraseObject i) = refl
  same_elsewhere (Insert s) (instrs.Update i) = refl
  same_elsewhere (Insert s) (instrs.AddInteger i) = refl
  same_elsewhere (Insert s) (instrs.ListUpdate i) = refl
  same_elsewhere (Insert s) (instrs.ListInsert i) = inserts i.cell i.value s i.spot
  same_elsewhere (Insert s) (instrs.ListErase i) = refl
  same_elsewhere (Insert s) (instrs.SetInsert i) = refl
  same_elsewhere (Insert s) (instrs.SetErase i) = refl
  same_elsewhere (Insert s) (instrs.DictUpdate i) = refl
  same_elsewhere (Insert s) (instrs.Clear i) = refl
  same_elsewhere (Erase s) (instrs.AddTable i) = refl
  same_elsewhere (Erase s) (instrs.AddColumn i) = refl
  same_elsewhere (Erase s) (instrs.CreateObject i) = refl
  same_elsewhere (Erase s) (instrs.EraseObject i) = refl
  same_elsewhere (Erase s) (instrs.Update i) = refl
  same_elsewhere (Erase s) (instrs.AddInteger i) = refl
  same_elsewhere (Erase s) (instrs.ListUpdate i) = refl
  same_elsewhere (Erase s) (instrs.ListInsert i) = refl
  same_elsewhere (Erase s) (instrs.ListErase i) = erases i.cell s i.spot
  same_elsewhere (Erase s) (instrs.SetInsert i) = refl
  same_elsewhere (Erase s) (instrs.SetErase i) = refl
  same_elsewhere (Erase s) (instrs.DictUpdate i) = refl
  same_elsewhere (Erase s) (instrs.Clear i) = refl
  same_elsewhere (Update s) (instrs.AddTable i) = refl
  same_elsewhere (Update s) (instrs.AddColumn i) = refl
  same_elsewhere (Update s) (instrs.CreateObject i) = refl
  same_elsewhere (Update s) (instrs.EraseObject i) = refl
  same_elsewhere (Update s) (instrs.Update i) = refl
  same_elsewhere (Update s) (instrs.AddInteger i) = refl
  same_elsewhere (Update s) (instrs.ListUpdate i) = updates i.cell i.value s i.spot
  same_elsewhere (Update s) (instrs.ListInsert i) = refl
  same_elsewhere (Update s) (instrs.ListErase i) = refl
  same_elsewhere (Update s) (instrs.SetInsert i) = refl
  same_elsewhere (Update s) (instrs.SetErase i) = refl
  same_elsewhere (Update s) (instrs.DictUpdate i) = refl
  same_elsewhere (Update s) (instrs.Clear i) = refl

pub moved_small : (a : ListAction) (is : List Instr) → IsSmall is → IsSmall (moved_first a is)
moved_small a [] h = h
moved_small a (i ∷ is) h =
    let e = same_elsewhere payload (λ c v s t. refl) (λ c s t. refl) (λ c v s t. refl) a i in
    (h.0, omega (arith, h.1, e, sum_by-cons payload i is, sum_by-cons payload (moved a i) is))

pub object_stays : (a : ListAction) (i : Instr) → object_of (effect_of (moved a i)) ≡ object_of (effect_of i)
object_stays = same_elsewhere (λ i. object_of (effect_of i)) (λ c v s t. refl) (λ c s t. refl) (λ c v s t. refl)

pub shown_cell : (o : Option ListAction) (is : List Instr) → first_cell (shown o is) ≡ first_cell is
shown_cell None is = refl
shown_cell (Some a) [] = refl
shown_cell (Some a) (i ∷ is) = same_elsewhere (λ i. cell_in (effect_of i)) (λ c v s t. refl) (λ c s t. refl) (λ c v s t. refl) a i

pub shown_kind : (o : Option ListAction) (is : List Instr) → kind_in (shown o is) ≡ kind_in is
shown_kind None is = refl
shown_kind (Some a) [] = refl
shown_kind (Some a) (i ∷ []) = same_elsewhere (λ i. option_map kind_of (action_at i)) (λ c v s t. refl) (λ c s t. refl) (λ c v s t. refl) a i
shown_kind (Some a) (i ∷ j ∷ is) = refl

-- ---- written elsewhere in between
moved_twice : (a b : ListAction) (i : Instr) → option_map kind_of (action_at i) ≡ Some (kind_of a) → moved a (moved b i) ≡ moved a i
moved_twice a b (instrs.AddTable i) e = cc
moved_twice a b (instrs.AddColumn i) e = cc
moved_twice a b (instrs.CreateObject i) e = cc
moved_twice a b (instrs.EraseObject i) e = cc
moved_twice a b (instrs.Update i) e = cc
moved_twice a b (instrs.AddInteger i) e = cc
moved_twice (Insert s) b (instrs.ListUpdate i) e = cc
moved_twice (Erase s) b (instrs.ListUpdate i) e = cc
moved_twice (Update s) (Insert t) (instrs.ListUpdate i) e = refl
moved_twice (Update s) (Erase t) (instrs.ListUpdate i) e = refl
moved_twice (Update s) (Update t) (instrs.ListUpdate i) e = refl
moved_twice (Insert s) (Insert t) (instrs.ListInsert i) e = refl
moved_twice (Insert s) (Erase t) (instrs.ListInsert i) e = refl
moved_twice (Insert s) (Update t) (instrs.ListInsert i) e = refl
moved_twice (Erase s) b (instrs.ListInsert i) e = cc
moved_twice (Update s) b (instrs.ListInsert i) e = cc
moved_twice (Insert s) b (instrs.ListErase i) e = cc
moved_twice (Erase s) (Insert t) (instrs.ListErase i) e = refl
moved_twice (Erase s) (Erase t) (instrs.ListErase i) e = refl
moved_twice (Erase s) (Update t) (instrs.ListErase i) e = refl
moved_twice (Update s) b (instrs.ListErase i) e = cc
moved_twice a b (instrs.SetInsert i) e = cc
moved_twice a b (instrs.SetErase i) e = cc
moved_twice a b (instrs.DictUpdate i) e = cc
moved_twice a b (instrs.Clear i) e = cc

pub told_written : (a : ListAction) (o : Option ListAction) (is : List Instr) → kind_in (shown o is) ≡ Some (kind_of a) → moved_first a (shown o is) ≡ shown (Some a) is
told_written a None is e = refl
told_written a (Some b) [] e = refl
told_written a (Some b) (i ∷ []) e = ap (λ j. j ∷ []) (moved_twice a b i (sym (shown_kind (Some b) (i ∷ [])) ∙ e))
told_written a (Some b) (i ∷ j ∷ is) e = cc

-- ---- one list instruction
pub some_is : {A : Type 0} {x y : A} → ◌≡◌ {A = Option A} (Some x) (Some y) → x ≡ y
some_is e = cc

record Acted (i : Instr) (a : ListAction) : Type 0 where
  cell : CellName
  value : Value
  does : ListAction
  is : i ≡ acting cell value does
  same : does ≡ a

acted : (i : Instr) (a : ListAction) → action_at i ≡ Some a → Acted i a
acted (instrs.AddTable i) a e = cc
acted (instrs.AddColumn i) a e = cc
acted (instrs.CreateObject i) a e = cc
acted (instrs.EraseObject i) a e = cc
acted (instrs.Update i) a e = cc
acted (instrs.AddInteger i) a e = cc
acted (instrs.ListUpdate i) a e = record { cell = i.cell; value = i.value; does = Update i.spot; is = refl; same = some_is e }
acted (instrs.ListInsert i) a e = record { cell = i.cell; value = i.value; does = Insert i.spot; is = refl; same = some_is e }
acted (instrs.ListErase i) a e = record { cell = i.cell; value = values.Null; does = Erase i.spot; is = refl; same = some_is e }
acted (instrs.SetInsert i) a e = cc
acted (instrs.SetErase i) a e = cc
acted (instrs.DictUpdate i) a e = cc
acted (instrs.Clear i) a e = cc

pub record One (list : List Instr) (a : ListAction) : Type 0 where
  pub cell : CellName
  pub value : Value
  pub is : list ≡ acting cell value a ∷ []

pub one : (is : List Instr) (a : ListAction) → action_in is ≡ Some a → One is a
one [] a e = cc
one (i ∷ []) a e = let f = acted i a e in record { cell = f.cell; value = f.value; is = ap (λ j. j ∷ []) (f.is ∙ ap (acting f.cell f.value) f.same) }
one (i ∷ j ∷ is) a e = cc

moved_acting : (c : CellName) (v : Value) (a b : ListAction) → kind_of a ≡ kind_of b → moved b (acting c v a) ≡ acting c v b
moved_acting c v (Insert s) (Insert t) e = refl
moved_acting c v (Insert s) (Erase t) e = cc
moved_acting c v (Insert s) (Update t) e = cc
moved_acting c v (Erase s) (Insert t) e = cc
moved_acting c v (Erase s) (Erase t) e = refl
moved_acting c v (Erase s) (Update t) e = cc
moved_acting c v (Update s) (Insert t) e = cc
moved_acting c v (Update s) (Erase t) e = cc
moved_acting c v (Update s) (Update t) e = refl

action_of : (c : CellName) (v : Value) (a : ListAction) → action_at (acting c v a) ≡ Some a
action_of c v (Insert s) = refl
action_of c v (Erase s) = refl
action_of c v (Update s) = refl

pub cell_there : (c : CellName) (v : Value) (a : ListAction) → cell_in (effect_of (acting c v a)) ≡ Some (path_of c)
cell_there c v (Insert s) = refl
cell_there c v (Erase s) = refl
cell_there c v (Update s) = refl

pub moved_one : (is : List Instr) (a b : ListAction) (f : One is a) → kind_of a ≡ kind_of b → moved_first b is ≡ acting f.cell f.value b ∷ []
moved_one is a b f e = ap (moved_first b) f.is ∙ ap (λ i. i ∷ []) (moved_acting f.cell f.value a b e)

-- ---- shown as it stands
shown_as : (is : List Instr) (o : Option ListAction) → action_in is ≡ o → shown o is ≡ is
shown_as is None e = refl
shown_as is (Some a) e = let f = one is a e in moved_one is a a f refl ∙ sym f.is

pub shown_itself : (is : List Instr) → shown (action_in is) is ≡ is
shown_itself is = shown_as is (action_in is) refl

-- the action of the instruction that is written is of the kind that is kept
record Kinded (is : List Instr) (a : ListAction) : Type 0 where
  written : ListAction
  told : action_in is ≡ Some written
  kind : kind_of written ≡ kind_of a

kinded : (is : List Instr) (a : ListAction) (o : Option ListAction) → action_in is ≡ o → kind_in is ≡ Some (kind_of a) → Kinded is a
kinded is a None told e = let f : option_map kind_of None ≡ Some (kind_of a) = sym (ap (option_map kind_of) told) ∙ e in cc
kinded is a (Some w) told e = record { written = w; told = told; kind = some_is (sym (ap (option_map kind_of) told) ∙ e) }

none_told : (o : Option ListAction) → option_map kind_of o ≡ None → o ≡ None
none_told None e = refl
none_told (Some a) e = cc

pub shown_action : (o : Option ListAction) (is : List Instr) → kind_in is ≡ option_map kind_of o → action_in (shown o is) ≡ o
shown_action None is e = none_told (action_in is) e
shown_action (Some a) is e =
    let k = kinded is a (action_in is) refl e in
    let f = one is k.written k.told in
    ap action_in (moved_one is k.written a f k.kind) ∙ action_of f.cell f.value a

pub shown_twice : (o : Option ListAction) (is : List Instr) → kind_in is ≡ option_map kind_of o → shown o (shown o is) ≡ shown o is
shown_twice None is e = refl
shown_twice (Some a) is e = told_written a (Some a) is (shown_kind (Some a) is ∙ e)

pub kind_told : (is : List Instr) (a b : ListAction) → action_in is ≡ Some a → kind_of b ≡ kind_of a → kind_in is ≡ Some (kind_of b)
kind_told is a b e k = ap (option_map kind_of) e ∙ ap Some (sym k)

-- ---- the first of a list, where there is one, is written
pub first_moved : (a : ListAction) (xs : List Instr) (x y : Instr) → 0 < length xs → x ≡ get_or xs 0 x → y ≡ moved a x → set xs 0 y ≡ moved_first a xs
first_moved a [] x y h e g = absurd (omega (arith, h))
first_moved a (z ∷ xs) x y h e g = ap (λ i. i ∷ xs) (g ∙ ap (moved a) e)

pub none_moved : (a : ListAction) (xs : List Instr) → length xs ≡ 0 → xs ≡ moved_first a xs
none_moved a [] h = refl
none_moved a (x ∷ xs) h = absurd (omega (arith, h))
