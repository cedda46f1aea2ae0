-- What is left of two instructions is of instructions: each place lies in the list whose length it bears.
use Rattle.std.specs.Prelude.{◌≡◌, ◌+◌, ◌-◌, Bool, true, false, not, cond, ◌&&◌, ◌||◌, ◌==◌, nat_lt, nat_le, Option, None, Some, Ok, Err, refl}
use Rattle.std.specs.Ordering.{eq_by_cmp}
use Rattle.std.proofs.Common.{subst, arith}
use Rattle.std.proofs.lemmas.Bool.{eqb-true, eqb-false, leb-true, leb-false, ltb-true, ltb-false}
use Rattle.sync_base.specs.After.{added}
use Rattle.sync_base.specs.Effects.{CellPath, Edit, Effect, Set, Add, Replace, Insert, Remove, Include, Exclude, Bind, Empty, NewTable, NewColumn, Create, Erase, Change}
use Rattle.sync_base.specs.Lemmas.Shaped.{IsEdit, IsEffect}
use Rattle.sync_base.specs.Merged.{path_cmp, same_column}
use Rattle.sync_base.specs.Rules.{Answer, rule, rule_of_edits, sized, top, spot, is_summed, lifted, placed, kept, only_left, only_right, neither, later_of, has_row, Outcomes}
use Rattle.sync_base.specs.States.{object_cmp, key_rank_of}
use Rattle.sync_data.specs.Orders.{name_cmp, value_cmp}
use Rattle.sync_data.specs.Spot.{Spot}
use Rattle.sync_base.specs.declared.answers.Mismatch.TheVariants as mismatches
use Rattle.std.specs.Prelude.{List, [], ◌∷◌}

abbrev pub listed : Option Effect → List Effect
listed None = []
listed (Some d) = d ∷ []

abbrev pub AreEffects : List Effect → Type 0
AreEffects [] = Unit {0}
AreEffects (d ∷ ds) = IsEffect d × AreEffects ds

abbrev pub Leaves : (a b : Effect) → Type 0
Leaves a b = (l : Bool) (f : Outcomes Effect) → IsEffect a → IsEffect b → rule l a b ≡ Ok f → AreEffects (listed f.left) × AreEffects (listed f.right)

abbrev pub IfEdit : Option Edit → Type 0
IfEdit None = Unit {0}
IfEdit (Some e) = IsEdit e

abbrev FineAt : Answer Edit → Type 0
FineAt (Err m) = Unit {0}
FineAt (Ok f) = IfEdit f.left × IfEdit f.right

record Fine (m : Answer Edit) : Type 0 where
  fine : FineAt m

either : (b : Bool) (m n : Answer Edit) → (b ≡ true → Fine m) → (b ≡ false → Fine n) → Fine (cond b m n)
either true m n g h = g refl
either false m n g h = h refl

in_size : (b : Bool) (s t : Spot) (row : Answer Edit) → (s.prior ≡ t.prior → Fine row) → Fine (sized b s t row)
in_size b s t row h = either (s.prior == t.prior) _ _ (λ e. either (b && (s.prior == top)) (Err mismatches.Range) row (λ _. record { fine = tt }) (λ _. h (eqb-true _ _ e))) (λ _. record { fine = tt })

two : (e f : Edit) → IsEdit e → IsEdit f → Fine (kept e f)
two e f i j = record { fine = (i, j) }

later_fine : (l : Bool) (e f : Edit) → IsEdit e → IsEdit f → Fine (later_of l e f)
later_fine true e f i j = record { fine = (i, tt) }
later_fine false e f i j = record { fine = (tt, j) }

edits_leave : (l : Bool) (e f : Edit) → IsEdit e → IsEdit f → Fine (rule_of_edits l e f)
edits_leave l (Set v) (Set w) i j = later_fine l (Set v) (Set w) tt tt
edits_leave true (Set v) (Add n) i j = either (is_summed v) (only_left (Set v)) (kept (Set v) (Add n)) (λ _. record { fine = (tt, tt) }) (λ _. two (Set v) (Add n) tt tt)
edits_leave false (Set v) (Add n) i j = either (is_summed v) (kept (Set (added n v)) (Add n)) (kept (Set v) (Add n)) (λ _. two (Set (added n v)) (Add n) tt tt) (λ _. two (Set v) (Add n) tt tt)
edits_leave true (Add n) (Set v) i j = either (is_summed v) (kept (Add n) (Set (added n v))) (kept (Add n) (Set v)) (λ _. two (Add n) (Set (added n v)) tt tt) (λ _. two (Add n) (Set v) tt tt)
edits_leave false (Add n) (Set v) i j = either (is_summed v) (only_right (Set v)) (kept (Add n) (Set v)) (λ _. record { fine = (tt, tt) }) (λ _. two (Add n) (Set v) tt tt)
edits_leave l (Insert s v) (Insert t w) i j = in_size true s t _ (λ e. either (nat_lt s.place t.place || ((s.place == t.place) && not l)) _ _
    (λ _. two (Insert (spot s.place (s.prior + 1)) v) (Insert (spot (t.place + 1) (t.prior + 1)) w) (omega arith) (omega arith))
    (λ _. two (Insert (spot (s.place + 1) (s.prior + 1)) v) (Insert (spot t.place (t.prior + 1)) w) (omega arith) (omega arith)))
edits_leave l (Insert s v) (Remove t) i j = in_size true s t _ (λ e. either (nat_le s.place t.place) _ _
    (λ k. two (Insert (spot s.place (s.prior - 1)) v) (Remove (spot (t.place + 1) (t.prior + 1))) (omega (arith, leb-true _ _ k)) (omega arith))
    (λ k. two (Insert (spot (s.place - 1) (s.prior - 1)) v) (Remove (spot t.place (t.prior + 1))) (omega (arith, leb-false _ _ k)) (omega arith)))
edits_leave l (Remove s) (Insert t w) i j = in_size true s t _ (λ e. either (nat_le t.place s.place) _ _
    (λ k. two (Remove (spot (s.place + 1) (s.prior + 1))) (Insert (spot t.place (t.prior - 1)) w) (omega arith) (omega (arith, leb-true _ _ k)))
    (λ k. two (Remove (spot s.place (s.prior + 1))) (Insert (spot (t.place - 1) (t.prior - 1)) w) (omega arith) (omega (arith, leb-false _ _ k))))
edits_leave l (Insert s v) (Replace t w) i j = in_size true s t _ (λ e. either (nat_le s.place t.place) _ _
    (λ k. two (Insert s v) (Replace (spot (t.place + 1) (t.prior + 1)) w) i (omega arith)) (λ k. two (Insert s v) (Replace (spot t.place (t.prior + 1)) w) i (omega arith)))
edits_leave l (Replace s v) (Insert t w) i j = in_size true s t _ (λ e. either (nat_le t.place s.place) _ _
    (λ k. two (Replace (spot (s.place + 1) (s.prior + 1)) v) (Insert t w) (omega arith) j) (λ k. two (Replace (spot s.place (s.prior + 1)) v) (Insert t w) (omega arith) j))
edits_leave l (Remove s) (Remove t) i j = in_size false s t _ (λ e. either (s.place == t.place) neither _ (λ _. record { fine = (tt, tt) }) (λ d. either (nat_lt s.place t.place) _ _
    (λ k. two (Remove (spot s.place (s.prior - 1))) (Remove (spot (t.place - 1) (t.prior - 1))) (omega (arith, ltb-true _ _ k)) (omega (arith, ltb-true _ _ k)))
    (λ k. two (Remove (spot (s.place - 1) (s.prior - 1))) (Remove (spot t.place (t.prior - 1))) (omega (arith, ltb-false _ _ k, eqb-false _ _ d)) (omega (arith, ltb-false _ _ k, eqb-false _ _ d)))))
edits_leave l (Remove s) (Replace t w) i j = in_size false s t _ (λ e. either (s.place == t.place) (only_left (Remove s)) _ (λ _. record { fine = (i, tt) }) (λ d. either (nat_lt s.place t.place) _ _
    (λ k. two (Remove s) (Replace (spot (t.place - 1) (t.prior - 1)) w) i (omega (arith, ltb-true _ _ k)))
    (λ k. two (Remove s) (Replace (spot t.place (t.prior - 1)) w) i (omega (arith, ltb-false _ _ k, eqb-false _ _ d)))))
edits_leave l (Replace s v) (Remove t) i j = in_size false s t _ (λ e. either (s.place == t.place) (only_right (Remove t)) _ (λ _. record { fine = (tt, j) }) (λ d. either (nat_lt t.place s.place) _ _
    (λ k. two (Replace (spot (s.place - 1) (s.prior - 1)) v) (Remove t) (omega (arith, ltb-true _ _ k)) j)
    (λ k. two (Replace (spot s.place (s.prior - 1)) v) (Remove t) (omega (arith, ltb-false _ _ k, eqb-false _ _ d)) j)))
edits_leave l (Replace s v) (Replace t w) i j = in_size false s t _ (λ e. either (s.place == t.place) _ (kept (Replace s v) (Replace t w)) (λ _. later_fine l (Replace s v) (Replace t w) i j) (λ _. two (Replace s v) (Replace t w) i j))
edits_leave l (Include v) (Exclude w) i j = either (eq_by_cmp value_cmp v w) _ (kept (Include v) (Exclude w)) (λ _. later_fine l (Include v) (Exclude w) tt tt) (λ _. two (Include v) (Exclude w) tt tt)
edits_leave l (Exclude v) (Include w) i j = either (eq_by_cmp value_cmp v w) _ (kept (Exclude v) (Include w)) (λ _. later_fine l (Exclude v) (Include w) tt tt) (λ _. two (Exclude v) (Include w) tt tt)
edits_leave l (Bind k v) (Bind n w) i j = either (eq_by_cmp name_cmp k n) _ (kept (Bind k v) (Bind n w)) (λ _. later_fine l (Bind k v) (Bind n w) tt tt) (λ _. two (Bind k v) (Bind n w) tt tt)
edits_leave l Empty Empty i j = record { fine = (tt, tt) }
edits_leave l Empty (Insert s v) i j = record { fine = (tt, tt) }
edits_leave l (Insert s v) Empty i j = record { fine = (tt, tt) }
edits_leave l Empty (Remove s) i j = record { fine = (tt, tt) }
edits_leave l (Remove s) Empty i j = record { fine = (tt, tt) }
edits_leave l Empty (Replace s v) i j = record { fine = (tt, tt) }
edits_leave l (Replace s v) Empty i j = record { fine = (tt, tt) }
edits_leave l Empty (Include v) i j = record { fine = (tt, tt) }
edits_leave l (Include v) Empty i j = record { fine = (tt, tt) }
edits_leave l Empty (Exclude v) i j = record { fine = (tt, tt) }
edits_leave l (Exclude v) Empty i j = record { fine = (tt, tt) }
edits_leave l Empty (Bind k v) i j = record { fine = (tt, tt) }
edits_leave l (Bind k v) Empty i j = record { fine = (tt, tt) }
edits_leave l e f i j = two e f i j

-- ---- the same of instructions
abbrev IfEffect : Option Effect → Type 0
IfEffect None = Unit {0}
IfEffect (Some d) = IsEffect d

abbrev LeftAt : Answer Effect → Type 0
LeftAt (Err m) = Unit {0}
LeftAt (Ok f) = IfEffect f.left × IfEffect f.right

record Left (m : Answer Effect) : Type 0 where
  all : LeftAt m

either_effect : (b : Bool) (m n : Answer Effect) → Left m → Left n → Left (cond b m n)
either_effect true m n g h = g
either_effect false m n g h = h

if_placed : (p : CellPath) (e : Option Edit) → IfEdit e → IfEffect (placed p e)
if_placed p None h = tt
if_placed p (Some e) h = h

lifted_left : (p : CellPath) (m : Answer Edit) → Fine m → Left (lifted p m)
lifted_left p (Err m) h = record { all = tt }
lifted_left p (Ok f) h = record { all = (if_placed p f.left h.fine.0, if_placed p f.right h.fine.1) }

stay : (a b : Effect) → IsEffect a → IsEffect b → Left (kept a b)
stay a b i j = record { all = (i, j) }

effects_leave : (l : Bool) (a b : Effect) → IsEffect a → IsEffect b → Left (rule l a b)
effects_leave l (NewTable t k) (NewTable u j) p q = either_effect (eq_by_cmp name_cmp t u) _ (kept (NewTable t k) (NewTable u j)) (either_effect (key_rank_of k == key_rank_of j) neither (Err mismatches.TablesDiffer) (record { all = (tt, tt) }) (record { all = tt })) (stay (NewTable t k) (NewTable u j) p q)
effects_leave l (NewColumn t c x) (NewColumn u d y) p q = either_effect (eq_by_cmp name_cmp t u && eq_by_cmp name_cmp c d) _ (kept (NewColumn t c x) (NewColumn u d y)) (either_effect (same_column x y) neither (Err mismatches.ColumnsDiffer) (record { all = (tt, tt) }) (record { all = tt })) (stay (NewColumn t c x) (NewColumn u d y) p q)
effects_leave l (Create o) (Erase r) p q = either_effect (eq_by_cmp object_cmp o r) (only_right (Erase r)) (kept (Create o) (Erase r)) (record { all = (tt, tt) }) (stay (Create o) (Erase r) p q)
effects_leave l (Erase o) (Create r) p q = either_effect (eq_by_cmp object_cmp o r) (only_left (Erase o)) (kept (Erase o) (Create r)) (record { all = (tt, tt) }) (stay (Erase o) (Create r) p q)
effects_leave l (Erase o) (Erase r) p q = either_effect (eq_by_cmp object_cmp o r) neither (kept (Erase o) (Erase r)) (record { all = (tt, tt) }) (stay (Erase o) (Erase r) p q)
effects_leave l (Erase o) (Change r e) p q = either_effect (eq_by_cmp object_cmp o r.0) (only_left (Erase o)) (kept (Erase o) (Change r e)) (record { all = (tt, tt) }) (stay (Erase o) (Change r e) p q)
effects_leave l (Change r e) (Erase o) p q = either_effect (eq_by_cmp object_cmp r.0 o) (only_right (Erase o)) (kept (Change r e) (Erase o)) (record { all = (tt, tt) }) (stay (Change r e) (Erase o) p q)
effects_leave l (Change r e) (Change t f) p q = either_effect (has_row e f && eq_by_cmp path_cmp r t) (lifted r (rule_of_edits l e f)) (kept (Change r e) (Change t f)) (lifted_left r (rule_of_edits l e f) (edits_leave l e f p q)) (stay (Change r e) (Change t f) p q)
effects_leave l a b p q = stay a b p q

are_listed : (d : Option Effect) → IfEffect d → AreEffects (listed d)
are_listed None h = tt
are_listed (Some d) h = (h, tt)

pub leaves : (a b : Effect) → Leaves a b
leaves a b l f i j h =
    let all : LeftAt (Ok f) = (subst Left h (effects_leave l a b i j)).all in
    (are_listed f.left all.0, are_listed f.right all.1)
