-- Two changes of one cell: the first, and then what is left of the second, give the merged_cell cell.
use Rattle.std.specs.Prelude.{◌≡◌, ℕ, ℤ, ◌+◌, ◌-◌, ◌≤◌, ◌<◌, ◌≢◌, ◌+ℤ◌, Bool, true, false, cond, not, ◌&&◌, ◌||◌, ◌⊎◌, ◌==◌, nat_lt, nat_le, List, [], ◌∷◌, ◌++◌, length, Option, None, Some, Ok, Err, refl, slice_set}
use Rattle.std.specs.Ordering.{eq_by_cmp}
use Rattle.std.specs.Cmp.{eq_by_cmp_equiv}
use Rattle.std.specs.List.{insert, remove}
use Rattle.std.specs.FinMap as map
use Rattle.std.specs.FinSet as set
use Rattle.sync_base.specs.After.{bound, edited, added, sum64}
use Rattle.sync_base.specs.Checks.{is_prior, has_shape, edit_fits}
use Rattle.sync_base.specs.Effects.{Edit, Set, Add, Replace, Insert, Remove, Include, Exclude, Bind, Empty}
use Rattle.sync_base.specs.Lemmas.Looks.{name_total, name_exact}
use Rattle.sync_base.specs.Lemmas.Maps.{tied_is}
use Rattle.sync_base.specs.Lemmas.Shaped.{IsEdit}
use Rattle.sync_base.specs.Lemmas.Texts.{one, none, keep, cut, swap, cut_both, cut_or_swap, swap_both, or_false, inserted_removed_after, inserted_removed_before, removed_inserted_before, removed_inserted_after, both_inserted_after, both_inserted_before, both_removed_after, both_removed_before, inserted_replaced_after, inserted_replaced_before, replaced_inserted, removed_replaced_after, removed_replaced_before, removed_here, replaced_removed, replaced_replaced, replaced_once, removed}
use Rattle.sync_base.specs.Merged.{empties, text, is_at, text_of, sum_of, merged_cell}
use Rattle.sync_base.specs.Rules.{Answer, rule_of_edits, top, spot, is_summed, later_of, kept, only_left, only_right, neither}
use Rattle.sync_base.specs.States.{Cell, One, Many, Members, Dict, Tables, cell_rank, is_of, fits}
use Rattle.sync_data.specs.Orders.{name_cmp, value_cmp, value_cmp_total, value_cmp_exact}
use Rattle.sync_data.specs.Spot.{Spot}
use Rattle.std.specs.Int.{int_wrap, w64}
use Rattle.std.proofs.Common.{sym, ◌∙◌, ap, arith, zero, suc, add-one, inl, inr}
use Rattle.std.proofs.lemmas.Bool.{both_ways, eqb-true, eqb-false, eq-eqb, leb-true, leb-false, ltb-true}
use Rattle.std.proofs.lemmas.Bool.Decides.{nat_tests}
use Rattle.std.proofs.lemmas.Int.{int_wrap-add_left, ints}
use Rattle.std.proofs.lemmas.List.Edits.{length-insert, length-remove}
use Rattle.sync_data.specs.declared.value.Value.{Value}
use Rattle.sync_data.specs.declared.value.Value.TheVariants as values
use Rattle.sync_data.specs.declared.column.Kind.{Kind}
use Rattle.sync_data.specs.declared.column.Kind.TheVariants as kinds
use Rattle.sync_data.specs.declared.column.Column.{Column}
use Rattle.sync_base.specs.declared.answers.Mismatch.TheVariants as mismatches

-- what is left of f after e, at a cell x: it gives the merged_cell cell, and it acts where both did
pub record Follows (l : Bool) (e f : Edit) (x : Cell) (k : Edit) : Type 0 where
  pub gives : edited k (edited e x) ≡ merged_cell l e f x
  pub prior : is_prior k (edited e x) ≡ true
  pub asked : ◌≡◌ {A = ℕ → Bool} (has_shape k) (has_shape f)
  pub fits : (ts : Tables) (col : Column) → edit_fits ts col e ≡ true → edit_fits ts col f ≡ true → edit_fits ts col k ≡ true

abbrev pub RightLaw : Bool → Edit → Edit → Cell → Option Edit → Type 0
RightLaw l e f x None = edited e x ≡ merged_cell l e f x
RightLaw l e f x (Some k) = Follows l e f x k

abbrev pub MetLaw : Bool → Edit → Edit → Cell → Answer Edit → Type 0
MetLaw l e f x (Err m) = Unit {0}
MetLaw l e f x (Ok g) = RightLaw l e f x g.right

-- ---- fields
unsummed : (v : Value) (n : ℤ) → is_summed v ≡ false → added n v ≡ v
unsummed values.Null n h = cc
unsummed (values.Int m) n h = cc
unsummed v n h = refl

int_alike : (ts : Tables) (k : Kind) (m n : ℤ) → is_of ts k (values.Int m) ≡ is_of ts k (values.Int n)
int_alike ts kinds.Int m n = refl
int_alike ts k m n = refl

pub added_fits : (ts : Tables) (col : Column) (n : ℤ) (v : Value) → fits ts col v ≡ true → fits ts col (added n v) ≡ true
added_fits ts col n (values.Int m) h = sym (int_alike ts col.kind m (sum64 m n)) ∙ h
added_fits ts col n v h = h

swapped : (k m n : ℤ) → (k +ℤ m) +ℤ n ≡ (k +ℤ n) +ℤ m
swapped k m n = omega (arith, ints)

sums_swap : (k m n : ℤ) → sum64 (sum64 k m) n ≡ sum64 (sum64 k n) m
sums_swap k m n = int_wrap-add_left w64 (k +ℤ m) n ∙ ap (int_wrap w64) (swapped k m n) ∙ sym (int_wrap-add_left w64 (k +ℤ n) m)

sum_swap : (m n : ℤ) (v : Value) → added n (added m v) ≡ sum_of n m v
sum_swap m n (values.Int k) = ap values.Int (sums_swap k m n)
sum_swap m n v = refl

field_set_set : (l : Bool) (v w u : Value) → MetLaw l (Set v) (Set w) (One u) (rule_of_edits l (Set v) (Set w))
field_set_set true v w u = refl
field_set_set false v w u = record { gives = refl; prior = refl; asked = refl; fits = λ ts col a b. b }

field_set_add : (l : Bool) (v u : Value) (n : ℤ) (b : Bool) → is_summed v ≡ b → MetLaw l (Set v) (Add n) (One u) (cond b (cond l (only_left (Set v)) (kept (Set (added n v)) (Add n))) (kept (Set v) (Add n)))
field_set_add true v u n true h = refl
field_set_add false v u n true h = record { gives = refl; prior = refl; asked = refl; fits = λ ts col a b. b }
field_set_add true v u n false h = record { gives = ap One (unsummed v n h); prior = refl; asked = refl; fits = λ ts col a b. b }
field_set_add false v u n false h = record { gives = refl; prior = refl; asked = refl; fits = λ ts col a b. b }

field_add_set : (l : Bool) (v u : Value) (n : ℤ) (b : Bool) → is_summed v ≡ b → MetLaw l (Add n) (Set v) (One u) (cond b (cond l (kept (Add n) (Set (added n v))) (only_right (Set v))) (kept (Add n) (Set v)))
field_add_set true v u n true h = record { gives = refl; prior = refl; asked = refl; fits = λ ts col a b. added_fits ts col n v b }
field_add_set false v u n true h = record { gives = refl; prior = refl; asked = refl; fits = λ ts col a b. b }
field_add_set true v u n false h = record { gives = ap One (sym (unsummed v n h)); prior = refl; asked = refl; fits = λ ts col a b. b }
field_add_set false v u n false h = record { gives = refl; prior = refl; asked = refl; fits = λ ts col a b. b }

in_turn : (m n : ℤ) (v : Value) → added n (added m v) ≡ sum_of m n v
in_turn m n (values.Int k) = refl
in_turn m n v = refl

field_add_add : (l : Bool) (m n : ℤ) (u : Value) → MetLaw l (Add m) (Add n) (One u) (rule_of_edits l (Add m) (Add n))
field_add_add true m n u = record { gives = ap One (sum_swap m n u); prior = refl; asked = refl; fits = λ ts col a b. b }
field_add_add false m n u = record { gives = ap One (in_turn m n u); prior = refl; asked = refl; fits = λ ts col a b. b }

-- ---- lists
sized_at : (l : Bool) (e f : Edit) (x : Cell) (same over : Bool) (row : Answer Edit) → MetLaw l e f x row → MetLaw l e f x (cond same (cond over (Err mismatches.Range) row) (Err mismatches.SizesDiffer))
sized_at l e f x true true row h = tt
sized_at l e f x true false row h = h
sized_at l e f x false over row h = tt

-- where the test is told, the law of the branch that it takes
chosen : (l : Bool) (e f : Edit) (x : Cell) (b : Bool) (m n : Answer Edit) → (b ≡ true → MetLaw l e f x m) → (b ≡ false → MetLaw l e f x n) → MetLaw l e f x (cond b m n)
chosen l e f x true m n g h = g refl
chosen l e f x false m n g h = h refl

append_nil : {A : Type 0} (xs : List A) → xs ++ [] ≡ xs
append_nil [] = refl
append_nil (x ∷ xs) = ap (λ ys. x ∷ ys) (append_nil xs)

one_mark : (xs : List Value) (p : ℕ) (v : Value) (el : ℕ → Value → List Value) → text (one p v) el xs ≡ text (λ g. one p v g ++ []) el xs
one_mark xs p v el = ap (λ (f : ℕ → List Value). text f el xs) (λ i g. sym (append_nil (one p v g)) i)

right_cut : (xs : List Value) (gap : ℕ → List Value) (q : ℕ) → text gap (cut q) xs ≡ text gap (λ g x. cond (is_at q g || false) [] (x ∷ [])) xs
right_cut xs gap q = ap (λ (f : ℕ → Value → List Value). text gap f xs) (λ i g x. cond (sym (or_false (is_at q g)) i) [] (x ∷ []))

-- two gaps that differ, in either order
apart : (p q g : ℕ) (v w : Value) → p ≢ q → one p v g ++ one q w g ≡ one q w g ++ one p v g
apart zero zero g v w h = absurd (h refl)
apart zero (suc q) zero v w h = refl
apart zero (suc q) (suc g) v w h = sym (append_nil (one q w g))
apart (suc p) zero zero v w h = refl
apart (suc p) zero (suc g) v w h = append_nil (one p v g)
apart (suc p) (suc q) zero v w h = refl
apart (suc p) (suc q) (suc g) v w h = apart p q g v w (λ e. h (ap suc e))

gaps_apart : (xs : List Value) (p q : ℕ) (v w : Value) → p ≢ q → text (λ g. one p v g ++ one q w g) keep xs ≡ text (λ g. one q w g ++ one p v g) keep xs
gaps_apart xs p q v w h = ap (λ (f : ℕ → List Value). text f keep xs) (λ i g. apart p q g v w h i)

length_set : (xs : List Value) (i : ℕ) (v : Value) → length (slice_set xs i v) ≡ length xs
length_set [] i v = refl
length_set (x ∷ xs) zero v = refl
length_set (x ∷ xs) (suc i) v = ap suc (length_set xs i v)

grown : (n m : ℕ) (xs : List Value) (p : ℕ) (v : Value) → (n == length xs) ≡ true → p ≤ length xs → m ≡ n + 1 → (m == length (insert xs p v)) ≡ true
grown n m xs p v h k e = eq-eqb _ _ (omega (arith, eqb-true n (length xs) h, length-insert xs p v k))

shrunk : (n m : ℕ) (xs : List Value) (p : ℕ) → (n == length xs) ≡ true → p < length xs → m ≡ n - 1 → (m == length (remove xs p)) ≡ true
shrunk n m xs p h k e = eq-eqb _ _ (omega (arith, eqb-true n (length xs) h, length-remove xs p k))

unmoved : (n : ℕ) (xs : List Value) (p : ℕ) (v : Value) → (n == length xs) ≡ true → (n == length (slice_set xs p v)) ≡ true
unmoved n xs p v h = ap (λ m. n == m) (length_set xs p v) ∙ h

sooner : (l : Bool) (p q : ℕ) → (nat_lt p q || ((p == q) && not l)) ≡ true → ((l ≡ false) × (p ≤ q)) ⊎ ((l ≡ true) × (p < q))
sooner true p q h = inr (refl, grind (arith, nat_tests))
sooner false p q h = inl (refl, grind (arith, nat_tests))

not_sooner : (l : Bool) (p q : ℕ) → (nat_lt p q || ((p == q) && not l)) ≡ false → ((l ≡ false) × (q < p)) ⊎ ((l ≡ true) × (q ≤ p))
not_sooner true p q h = inr (refl, grind (arith, nat_tests))
not_sooner false p q h = inl (refl, grind (arith, nat_tests))

later_right : (l : Bool) (s t : Spot) (v w : Value) (xs : List Value) → ((l ≡ false) × (s.place ≤ t.place)) ⊎ ((l ≡ true) × (s.place < t.place)) → s.place ≤ length xs → t.place ≤ length xs
    → Many (insert (insert xs s.place v) (t.place + 1) w) ≡ merged_cell l (Insert s v) (Insert t w) (Many xs)
later_right l s t v w xs (inl h) a b = ap (λ n. Many (insert (insert xs s.place v) n w)) (add-one t.place) ∙ ap Many (both_inserted_after xs s.place t.place v w h.1 b) ∙ ap (λ l. merged_cell l (Insert s v) (Insert t w) (Many xs)) (sym h.0)
later_right l s t v w xs (inr h) a b = ap (λ n. Many (insert (insert xs s.place v) n w)) (add-one t.place) ∙ ap Many (both_inserted_after xs s.place t.place v w (omega (arith, h.1)) b ∙ gaps_apart xs s.place t.place v w (omega (arith, h.1))) ∙ ap (λ l. merged_cell l (Insert s v) (Insert t w) (Many xs)) (sym h.0)

later_left : (l : Bool) (s t : Spot) (v w : Value) (xs : List Value) → ((l ≡ false) × (t.place < s.place)) ⊎ ((l ≡ true) × (t.place ≤ s.place)) → s.place ≤ length xs → t.place ≤ length xs
    → Many (insert (insert xs s.place v) t.place w) ≡ merged_cell l (Insert s v) (Insert t w) (Many xs)
later_left l s t v w xs (inl h) a b = ap Many (both_inserted_before xs s.place t.place v w (omega (arith, h.1)) a ∙ gaps_apart xs t.place s.place w v (omega (arith, h.1))) ∙ ap (λ l. merged_cell l (Insert s v) (Insert t w) (Many xs)) (sym h.0)
later_left l s t v w xs (inr h) a b = ap Many (both_inserted_before xs s.place t.place v w h.1 a) ∙ ap (λ l. merged_cell l (Insert s v) (Insert t w) (Many xs)) (sym h.0)

list_insert_insert : (l : Bool) (s t : Spot) (v w : Value) (xs : List Value) → s.place ≤ s.prior → t.place ≤ t.prior → (s.prior == length xs) ≡ true → (t.prior == length xs) ≡ true → MetLaw l (Insert s v) (Insert t w) (Many xs) (rule_of_edits l (Insert s v) (Insert t w))
list_insert_insert l s t v w xs i j p q =
    let a : s.place ≤ length xs = omega (arith, eqb-true _ _ p) in
    let b : t.place ≤ length xs = omega (arith, eqb-true _ _ q) in
    let m : Answer Edit = kept (Insert (spot s.place (s.prior + 1)) v) (Insert (spot (t.place + 1) (t.prior + 1)) w) in
    let n : Answer Edit = kept (Insert (spot (s.place + 1) (s.prior + 1)) v) (Insert (spot t.place (t.prior + 1)) w) in
    let test = nat_lt s.place t.place || ((s.place == t.place) && not l) in
    let first : test ≡ true → MetLaw l (Insert s v) (Insert t w) (Many xs) m = λ h. record {
      gives = later_right l s t v w xs (sooner l s.place t.place h) a b;
      prior = grown t.prior (t.prior + 1) xs s.place v q a refl;
      asked = refl;
      fits = λ ts col x y. y;
    } in
    let second : test ≡ false → MetLaw l (Insert s v) (Insert t w) (Many xs) n = λ h. record {
      gives = later_left l s t v w xs (not_sooner l s.place t.place h) a b;
      prior = grown t.prior (t.prior + 1) xs s.place v q a refl;
      asked = refl;
      fits = λ ts col x y. y;
    } in
    sized_at l (Insert s v) (Insert t w) (Many xs) (s.prior == t.prior) (s.prior == top) (cond test m n) (chosen l (Insert s v) (Insert t w) (Many xs) test m n first second)

-- where only one side inserts, the order of stamps says nothing
any_order : (l : Bool) (e f : Edit) (xs ys : List Value) → (empties e || empties f) ≡ false → (empties f || empties e) ≡ false → ys ≡ text_of e f xs → ys ≡ text_of f e xs → Many ys ≡ merged_cell l e f (Many xs)
any_order true e f xs ys a b p q = ap Many (q ∙ ap (λ t. cond t [] (text_of f e xs)) (sym b))
any_order false e f xs ys a b p q = ap Many (p ∙ ap (λ t. cond t [] (text_of e f xs)) (sym a))

-- ---- the other pairs of list changes
twice : (b : Bool) → b ≡ (b || b)
twice true = refl
twice false = refl

or_swap : (a b : Bool) → (a || b) ≡ (b || a)
or_swap true true = refl
or_swap true false = refl
or_swap false true = refl
or_swap false false = refl

cuts_swap : (xs : List Value) (p q : ℕ) → text none (cut_both p q) xs ≡ text none (cut_both q p) xs
cuts_swap xs p q = ap (λ (f : ℕ → Value → List Value). text none f xs) (λ i g y. cond (or_swap (is_at p g) (is_at q g) i) [] (y ∷ []))

insert_remove_text : (s t : Spot) (v : Value) (xs ys : List Value) → ys ≡ text (one s.place v) (cut t.place) xs → (ys ≡ text_of (Insert s v) (Remove t) xs) × (ys ≡ text_of (Remove t) (Insert s v) xs)
insert_remove_text s t v xs ys h = (h ∙ one_mark xs s.place v (cut t.place), h ∙ right_cut xs (one s.place v) t.place)

list_insert_remove : (l : Bool) (s t : Spot) (v : Value) (xs : List Value) → s.place ≤ s.prior → t.place < t.prior → (s.prior == length xs) ≡ true → (t.prior == length xs) ≡ true → MetLaw l (Insert s v) (Remove t) (Many xs) (rule_of_edits l (Insert s v) (Remove t))
list_insert_remove l s t v xs i j p q =
    let a : s.place ≤ length xs = omega (arith, eqb-true _ _ p) in
    let b : t.place < length xs = omega (arith, eqb-true _ _ q) in
    let m : Answer Edit = kept (Insert (spot s.place (s.prior - 1)) v) (Remove (spot (t.place + 1) (t.prior + 1))) in
    let n : Answer Edit = kept (Insert (spot (s.place - 1) (s.prior - 1)) v) (Remove (spot t.place (t.prior + 1))) in
    let first : nat_le s.place t.place ≡ true → MetLaw l (Insert s v) (Remove t) (Many xs) m = λ h.
    let e = insert_remove_text s t v xs _ (ap (λ n. remove (insert xs s.place v) n) (add-one t.place) ∙ inserted_removed_after xs s.place t.place v (leb-true _ _ h) b) in
    record { gives = any_order l (Insert s v) (Remove t) xs _ refl refl e.0 e.1; prior = grown t.prior (t.prior + 1) xs s.place v q a refl; asked = refl; fits = λ ts col x y. y } in
    let second : nat_le s.place t.place ≡ false → MetLaw l (Insert s v) (Remove t) (Many xs) n = λ h.
    let e = insert_remove_text s t v xs _ (inserted_removed_before xs s.place t.place v (leb-false _ _ h) a) in
    record { gives = any_order l (Insert s v) (Remove t) xs _ refl refl e.0 e.1; prior = grown t.prior (t.prior + 1) xs s.place v q a refl; asked = refl; fits = λ ts col x y. y } in
    sized_at l (Insert s v) (Remove t) (Many xs) (s.prior == t.prior) (s.prior == top) (cond (nat_le s.place t.place) m n) (chosen l (Insert s v) (Remove t) (Many xs) (nat_le s.place t.place) m n first second)

list_remove_insert : (l : Bool) (s t : Spot) (w : Value) (xs : List Value) → s.place < s.prior → t.place ≤ t.prior → (s.prior == length xs) ≡ true → (t.prior == length xs) ≡ true → MetLaw l (Remove s) (Insert t w) (Many xs) (rule_of_edits l (Remove s) (Insert t w))
list_remove_insert l s t w xs i j p q =
    let a : s.place < length xs = omega (arith, eqb-true _ _ p) in
    let b : t.place ≤ length xs = omega (arith, eqb-true _ _ q) in
    let m : Answer Edit = kept (Remove (spot (s.place + 1) (s.prior + 1))) (Insert (spot t.place (t.prior - 1)) w) in
    let n : Answer Edit = kept (Remove (spot s.place (s.prior + 1))) (Insert (spot (t.place - 1) (t.prior - 1)) w) in
    let first : nat_le t.place s.place ≡ true → MetLaw l (Remove s) (Insert t w) (Many xs) m = λ h.
    let e = insert_remove_text t s w xs _ (removed_inserted_before xs t.place s.place w (leb-true _ _ h) a) in
    record { gives = any_order l (Remove s) (Insert t w) xs _ refl refl e.1 e.0; prior = shrunk t.prior (t.prior - 1) xs s.place q a refl; asked = refl; fits = λ ts col x y. y } in
    let second : nat_le t.place s.place ≡ false → MetLaw l (Remove s) (Insert t w) (Many xs) n = λ h.
    let up : suc (t.place - 1) ≡ t.place = omega (arith, leb-false _ _ h) in
    let e = insert_remove_text t s w xs _ (removed_inserted_after xs (t.place - 1) s.place w (omega (arith, leb-false _ _ h)) (omega (arith, leb-false _ _ h)) ∙ ap (λ n. text (one n w) (cut s.place) xs) up) in
    record { gives = any_order l (Remove s) (Insert t w) xs _ refl refl e.1 e.0; prior = shrunk t.prior (t.prior - 1) xs s.place q a refl; asked = refl; fits = λ ts col x y. y } in
    sized_at l (Remove s) (Insert t w) (Many xs) (s.prior == t.prior) (s.prior == top) (cond (nat_le t.place s.place) m n) (chosen l (Remove s) (Insert t w) (Many xs) (nat_le t.place s.place) m n first second)

list_remove_remove : (l : Bool) (s t : Spot) (xs : List Value) → s.place < s.prior → t.place < t.prior → (s.prior == length xs) ≡ true → (t.prior == length xs) ≡ true → MetLaw l (Remove s) (Remove t) (Many xs) (rule_of_edits l (Remove s) (Remove t))
list_remove_remove l s t xs i j p q =
    let a : s.place < length xs = omega (arith, eqb-true _ _ p) in
    let b : t.place < length xs = omega (arith, eqb-true _ _ q) in
    let x : Cell = Many xs in
    let m : Answer Edit = kept (Remove (spot s.place (s.prior - 1))) (Remove (spot (t.place - 1) (t.prior - 1))) in
    let n : Answer Edit = kept (Remove (spot (s.place - 1) (s.prior - 1))) (Remove (spot t.place (t.prior - 1))) in
    let here : (s.place == t.place) ≡ true → MetLaw l (Remove s) (Remove t) x neither = λ h.
    let e : remove xs s.place ≡ text none (cut_both s.place t.place) xs = removed xs s.place a ∙ ap (λ (f : ℕ → Value → List Value). text none f xs) (λ i g y. cond (twice (is_at s.place g) i) [] (y ∷ [])) ∙ ap (λ n. text none (cut_both s.place n) xs) (eqb-true _ _ h) in
    any_order l (Remove s) (Remove t) xs _ refl refl e (e ∙ cuts_swap xs s.place t.place) in
    let first : nat_lt s.place t.place ≡ true → MetLaw l (Remove s) (Remove t) x m = λ h.
    let up : suc (t.place - 1) ≡ t.place = omega (arith, ltb-true _ _ h) in
    let e : remove (remove xs s.place) (t.place - 1) ≡ text none (cut_both s.place t.place) xs = both_removed_after xs s.place (t.place - 1) (omega (arith, ltb-true _ _ h)) (omega (arith, ltb-true _ _ h)) ∙ ap (λ n. text none (cut_both s.place n) xs) up in
    record { gives = any_order l (Remove s) (Remove t) xs _ refl refl e (e ∙ cuts_swap xs s.place t.place); prior = shrunk t.prior (t.prior - 1) xs s.place q a refl; asked = refl; fits = λ ts col x y. y } in
    let second : (s.place == t.place) ≡ false → nat_lt s.place t.place ≡ false → MetLaw l (Remove s) (Remove t) x n = λ k h.
    let below : t.place < s.place = grind (arith, nat_tests) in
    let e : remove (remove xs s.place) t.place ≡ text none (cut_both s.place t.place) xs = both_removed_before xs s.place t.place below a in
    record { gives = any_order l (Remove s) (Remove t) xs _ refl refl e (e ∙ cuts_swap xs s.place t.place); prior = shrunk t.prior (t.prior - 1) xs s.place q a refl; asked = refl; fits = λ ts col x y. y } in
    sized_at l (Remove s) (Remove t) x (s.prior == t.prior) false _ (chosen l (Remove s) (Remove t) x (s.place == t.place) neither (cond (nat_lt s.place t.place) m n) here (λ k. chosen l (Remove s) (Remove t) x (nat_lt s.place t.place) m n first (second k)))

insert_replace_text : (s t : Spot) (v w : Value) (xs ys : List Value) → ys ≡ text (one s.place v) (swap t.place w) xs → (ys ≡ text_of (Insert s v) (Replace t w) xs) × (ys ≡ text_of (Replace t w) (Insert s v) xs)
insert_replace_text s t v w xs ys h = (h ∙ one_mark xs s.place v (swap t.place w), h)

list_insert_replace : (l : Bool) (s t : Spot) (v w : Value) (xs : List Value) → s.place ≤ s.prior → t.place < t.prior → (s.prior == length xs) ≡ true → (t.prior == length xs) ≡ true → MetLaw l (Insert s v) (Replace t w) (Many xs) (rule_of_edits l (Insert s v) (Replace t w))
list_insert_replace l s t v w xs i j p q =
    let a : s.place ≤ length xs = omega (arith, eqb-true _ _ p) in
    let b : t.place < length xs = omega (arith, eqb-true _ _ q) in
    let m : Answer Edit = kept (Insert s v) (Replace (spot (t.place + 1) (t.prior + 1)) w) in
    let n : Answer Edit = kept (Insert s v) (Replace (spot t.place (t.prior + 1)) w) in
    let first : nat_le s.place t.place ≡ true → MetLaw l (Insert s v) (Replace t w) (Many xs) m = λ h.
    let e = insert_replace_text s t v w xs _ (ap (λ n. slice_set (insert xs s.place v) n w) (add-one t.place) ∙ inserted_replaced_after xs s.place t.place v w (leb-true _ _ h) b) in
    record { gives = any_order l (Insert s v) (Replace t w) xs _ refl refl e.0 e.1; prior = grown t.prior (t.prior + 1) xs s.place v q a refl; asked = refl; fits = λ ts col x y. y } in
    let second : nat_le s.place t.place ≡ false → MetLaw l (Insert s v) (Replace t w) (Many xs) n = λ h.
    let e = insert_replace_text s t v w xs _ (inserted_replaced_before xs s.place t.place v w (leb-false _ _ h) a) in
    record { gives = any_order l (Insert s v) (Replace t w) xs _ refl refl e.0 e.1; prior = grown t.prior (t.prior + 1) xs s.place v q a refl; asked = refl; fits = λ ts col x y. y } in
    sized_at l (Insert s v) (Replace t w) (Many xs) (s.prior == t.prior) (s.prior == top) (cond (nat_le s.place t.place) m n) (chosen l (Insert s v) (Replace t w) (Many xs) (nat_le s.place t.place) m n first second)

list_replace_insert : (l : Bool) (s t : Spot) (v w : Value) (xs : List Value) → s.place < s.prior → t.place ≤ t.prior → (s.prior == length xs) ≡ true → (t.prior == length xs) ≡ true → MetLaw l (Replace s v) (Insert t w) (Many xs) (rule_of_edits l (Replace s v) (Insert t w))
list_replace_insert l s t v w xs i j p q =
    let a : s.place < length xs = omega (arith, eqb-true _ _ p) in
    let b : t.place ≤ length xs = omega (arith, eqb-true _ _ q) in
    let e = insert_replace_text t s w v xs _ (replaced_inserted xs t.place s.place w v b a) in
    let k : Follows l (Replace s v) (Insert t w) (Many xs) (Insert t w) = record { gives = any_order l (Replace s v) (Insert t w) xs _ refl refl e.1 e.0; prior = unmoved t.prior xs s.place v q; asked = refl; fits = λ ts col x y. y } in
    let m : Answer Edit = kept (Replace (spot (s.place + 1) (s.prior + 1)) v) (Insert t w) in
    let n : Answer Edit = kept (Replace (spot s.place (s.prior + 1)) v) (Insert t w) in
    sized_at l (Replace s v) (Insert t w) (Many xs) (s.prior == t.prior) (s.prior == top) (cond (nat_le t.place s.place) m n) (chosen l (Replace s v) (Insert t w) (Many xs) (nat_le t.place s.place) m n (λ _. k) (λ _. k))

-- the erasure at p and the replacement at q, in either order of the marks
cut_swap_text : (s t : Spot) (w : Value) (xs ys : List Value) → ys ≡ text none (cut_or_swap s.place t.place w) xs → (ys ≡ text_of (Remove s) (Replace t w) xs) × (ys ≡ text_of (Replace t w) (Remove s) xs)
cut_swap_text s t w xs ys h = (h ∙ ap (λ (f : ℕ → Value → List Value). text none f xs) (λ i g y. cond (sym (or_false (is_at s.place g)) i) [] (cond (is_at t.place g) w y ∷ [])), h)

list_remove_replace : (l : Bool) (s t : Spot) (w : Value) (xs : List Value) → s.place < s.prior → t.place < t.prior → (s.prior == length xs) ≡ true → (t.prior == length xs) ≡ true → MetLaw l (Remove s) (Replace t w) (Many xs) (rule_of_edits l (Remove s) (Replace t w))
list_remove_replace l s t w xs i j p q =
    let a : s.place < length xs = omega (arith, eqb-true _ _ p) in
    let b : t.place < length xs = omega (arith, eqb-true _ _ q) in
    let x : Cell = Many xs in
    let m : Answer Edit = kept (Remove s) (Replace (spot (t.place - 1) (t.prior - 1)) w) in
    let n : Answer Edit = kept (Remove s) (Replace (spot t.place (t.prior - 1)) w) in
    let here : (s.place == t.place) ≡ true → MetLaw l (Remove s) (Replace t w) x (only_left (Remove s)) = λ h.
    let e = cut_swap_text s t w xs _ (removed_here xs s.place w a ∙ ap (λ n. text none (cut_or_swap s.place n w) xs) (eqb-true _ _ h)) in
    any_order l (Remove s) (Replace t w) xs _ refl refl e.0 e.1 in
    let first : nat_lt s.place t.place ≡ true → MetLaw l (Remove s) (Replace t w) x m = λ h.
    let up : suc (t.place - 1) ≡ t.place = omega (arith, ltb-true _ _ h) in
    let e = cut_swap_text s t w xs _ (removed_replaced_after xs s.place (t.place - 1) w (omega (arith, ltb-true _ _ h)) (omega (arith, ltb-true _ _ h)) ∙ ap (λ n. text none (cut_or_swap s.place n w) xs) up) in
    record { gives = any_order l (Remove s) (Replace t w) xs _ refl refl e.0 e.1; prior = shrunk t.prior (t.prior - 1) xs s.place q a refl; asked = refl; fits = λ ts col x y. y } in
    let second : (s.place == t.place) ≡ false → nat_lt s.place t.place ≡ false → MetLaw l (Remove s) (Replace t w) x n = λ k h.
    let below : t.place < s.place = grind (arith, nat_tests) in
    let e = cut_swap_text s t w xs _ (removed_replaced_before xs s.place t.place w below a) in
    record { gives = any_order l (Remove s) (Replace t w) xs _ refl refl e.0 e.1; prior = shrunk t.prior (t.prior - 1) xs s.place q a refl; asked = refl; fits = λ ts col x y. y } in
    sized_at l (Remove s) (Replace t w) x (s.prior == t.prior) false _ (chosen l (Remove s) (Replace t w) x (s.place == t.place) (only_left (Remove s)) (cond (nat_lt s.place t.place) m n) here (λ k. chosen l (Remove s) (Replace t w) x (nat_lt s.place t.place) m n first (second k)))

list_replace_remove : (l : Bool) (s t : Spot) (v : Value) (xs : List Value) → s.place < s.prior → t.place < t.prior → (s.prior == length xs) ≡ true → (t.prior == length xs) ≡ true → MetLaw l (Replace s v) (Remove t) (Many xs) (rule_of_edits l (Replace s v) (Remove t))
list_replace_remove l s t v xs i j p q =
    let a : s.place < length xs = omega (arith, eqb-true _ _ p) in
    let b : t.place < length xs = omega (arith, eqb-true _ _ q) in
    let x : Cell = Many xs in
    let e = cut_swap_text t s v xs _ (replaced_removed xs t.place s.place v b a) in
    let k : Follows l (Replace s v) (Remove t) x (Remove t) = record { gives = any_order l (Replace s v) (Remove t) xs _ refl refl e.1 e.0; prior = unmoved t.prior xs s.place v q; asked = refl; fits = λ ts col x y. y } in
    let m : Answer Edit = kept (Replace (spot (s.place - 1) (s.prior - 1)) v) (Remove t) in
    let n : Answer Edit = kept (Replace (spot s.place (s.prior - 1)) v) (Remove t) in
    sized_at l (Replace s v) (Remove t) x (s.prior == t.prior) false _ (chosen l (Replace s v) (Remove t) x (s.place == t.place) (only_right (Remove t)) (cond (nat_lt t.place s.place) m n) (λ _. k) (λ _. chosen l (Replace s v) (Remove t) x (nat_lt t.place s.place) m n (λ _. k) (λ _. k)))

is_at-same : (p g : ℕ) → is_at p g ≡ true → p ≡ g
is_at-same zero zero h = refl
is_at-same zero (suc g) h = cc
is_at-same (suc p) zero h = cc
is_at-same (suc p) (suc g) h = ap suc (is_at-same p g h)

-- two replacements of different elements, in either order of the marks
swaps_apart_at : (a b : Bool) (v w x : Value) → (a ≡ true → b ≡ true → ⊥) → cond b w (cond a v x) ≡ cond a v (cond b w x)
swaps_apart_at true true v w x h = absurd (h refl refl)
swaps_apart_at true false v w x h = refl
swaps_apart_at false b v w x h = refl

swaps_apart : (xs : List Value) (p q : ℕ) (v w : Value) → p ≢ q → text none (swap_both p v q w) xs ≡ text none (swap_both q w p v) xs
swaps_apart xs p q v w h = ap (λ (f : ℕ → Value → List Value). text none f xs) (λ i g y. swaps_apart_at (is_at p g) (is_at q g) v w y (λ a b. h (is_at-same p g a ∙ sym (is_at-same q g b))) i ∷ [])

list_replace_replace : (l : Bool) (s t : Spot) (v w : Value) (xs : List Value) → s.place < s.prior → t.place < t.prior → (s.prior == length xs) ≡ true → (t.prior == length xs) ≡ true → MetLaw l (Replace s v) (Replace t w) (Many xs) (rule_of_edits l (Replace s v) (Replace t w))
list_replace_replace l s t v w xs i j p q =
    let a : s.place < length xs = omega (arith, eqb-true _ _ p) in
    let b : t.place < length xs = omega (arith, eqb-true _ _ q) in
    let x : Cell = Many xs in
    let e : slice_set (slice_set xs s.place v) t.place w ≡ text none (swap_both s.place v t.place w) xs = replaced_replaced xs s.place t.place v w a b in
    let m : Answer Edit = later_of l (Replace s v) (Replace t w) in
    let n : Answer Edit = kept (Replace s v) (Replace t w) in
    let here : (l2 : Bool) → (s.place == t.place) ≡ true → MetLaw l2 (Replace s v) (Replace t w) x (later_of l2 (Replace s v) (Replace t w)) = elim [
      | true ↦ λ h. ap Many (replaced_once xs s.place v w a ∙ ap (λ n. text none (swap_both n w s.place v) xs) (eqb-true _ _ h))
      | false ↦ λ h. record { gives = ap Many e; prior = unmoved t.prior xs s.place v q; asked = refl; fits = λ ts col x y. y }
    ] in
    let there : (s.place == t.place) ≡ false → MetLaw l (Replace s v) (Replace t w) x n = λ h.
    record { gives = any_order l (Replace s v) (Replace t w) xs _ refl refl e (e ∙ swaps_apart xs s.place t.place v w (eqb-false _ _ h)); prior = unmoved t.prior xs s.place v q; asked = refl; fits = λ ts col x y. y } in
    sized_at l (Replace s v) (Replace t w) x (s.prior == t.prior) false _ (chosen l (Replace s v) (Replace t w) x (s.place == t.place) m n (here l) there)

-- ---- sets
kept_law : (l : Bool) (e f : Edit) (x : Cell) → edited f (edited e x) ≡ merged_cell l e f x → is_prior f (edited e x) ≡ true → MetLaw l e f x (kept e f)
kept_law l e f x g p = record { gives = g; prior = p; asked = refl; fits = λ ts col a b. b }

or_turn : (a b c : Bool) → (b || (a || c)) ≡ (a || (b || c))
or_turn true true c = refl
or_turn true false c = refl
or_turn false b c = refl

not_turn : (a b c : Bool) → (not b && (not a && c)) ≡ (not a && (not b && c))
not_turn true true c = refl
not_turn true false c = refl
not_turn false b c = refl

inserts_swap : (xs : set.FinSet value_cmp) (v w : Value) → set.insert (set.insert xs v) w ≡ set.insert (set.insert xs w) v
inserts_swap xs v w = set.same_set value_cmp_total value_cmp_exact _ _ (λ q.
    set.contains-insert value_cmp_total (set.insert xs v) w q ∙ ap (λ b. eq_by_cmp value_cmp q w || b) (set.contains-insert value_cmp_total xs v q)
    ∙ or_turn (eq_by_cmp value_cmp q v) (eq_by_cmp value_cmp q w) (set.contains xs q)
    ∙ sym (set.contains-insert value_cmp_total (set.insert xs w) v q ∙ ap (λ b. eq_by_cmp value_cmp q v || b) (set.contains-insert value_cmp_total xs w q)))

removes_swap : (xs : set.FinSet value_cmp) (v w : Value) → set.remove (set.remove xs v) w ≡ set.remove (set.remove xs w) v
removes_swap xs v w = set.same_set value_cmp_total value_cmp_exact _ _ (λ q.
    set.contains-remove value_cmp_total (set.remove xs v) w q ∙ ap (λ b. not (eq_by_cmp value_cmp q w) && b) (set.contains-remove value_cmp_total xs v q)
    ∙ not_turn (eq_by_cmp value_cmp q v) (eq_by_cmp value_cmp q w) (set.contains xs q)
    ∙ sym (set.contains-remove value_cmp_total (set.remove xs w) v q ∙ ap (λ b. not (eq_by_cmp value_cmp q v) && b) (set.contains-remove value_cmp_total xs w q)))

-- at a member, in then out and out then in, of different values
mixed : (a b c : Bool) → (a ≡ true → b ≡ true → ⊥) → (not b && (a || c)) ≡ (a || (not b && c))
mixed true true c h = absurd (h refl refl)
mixed true false c h = refl
mixed false b c h = refl

mixed_swap : (xs : set.FinSet value_cmp) (v w : Value) → eq_by_cmp value_cmp v w ≡ false → set.remove (set.insert xs v) w ≡ set.insert (set.remove xs w) v
mixed_swap xs v w h = set.same_set value_cmp_total value_cmp_exact _ _ (λ q.
    set.contains-remove value_cmp_total (set.insert xs v) w q ∙ ap (λ b. not (eq_by_cmp value_cmp q w) && b) (set.contains-insert value_cmp_total xs v q)
    ∙ mixed (eq_by_cmp value_cmp q v) (eq_by_cmp value_cmp q w) (set.contains xs q) (λ a b. both_ways (eq_by_cmp value_cmp v w) h (ap (λ x. eq_by_cmp value_cmp x w) (sym (tied_is value_cmp_exact q v a)) ∙ b))
    ∙ sym (set.contains-insert value_cmp_total (set.remove xs w) v q ∙ ap (λ b. eq_by_cmp value_cmp q v || b) (set.contains-remove value_cmp_total xs w q)))

in_again : (a c : Bool) → (a || c) ≡ (a || (not a && c))
in_again true c = refl
in_again false c = refl

out_again : (a c : Bool) → (not a && c) ≡ (not a && (a || c))
out_again true c = refl
out_again false c = refl

insert_wins : (xs : set.FinSet value_cmp) (v w : Value) → eq_by_cmp value_cmp v w ≡ true → set.insert xs v ≡ set.insert (set.remove xs w) v
insert_wins xs v w h = set.same_set value_cmp_total value_cmp_exact _ _ (λ q.
    set.contains-insert value_cmp_total xs v q ∙ in_again (eq_by_cmp value_cmp q v) (set.contains xs q)
    ∙ ap (λ x. eq_by_cmp value_cmp q v || (not (eq_by_cmp value_cmp q x) && set.contains xs q)) (tied_is value_cmp_exact v w h)
    ∙ sym (set.contains-insert value_cmp_total (set.remove xs w) v q ∙ ap (λ b. eq_by_cmp value_cmp q v || b) (set.contains-remove value_cmp_total xs w q)))

remove_wins : (xs : set.FinSet value_cmp) (v w : Value) → eq_by_cmp value_cmp v w ≡ true → set.remove xs v ≡ set.remove (set.insert xs w) v
remove_wins xs v w h = set.same_set value_cmp_total value_cmp_exact _ _ (λ q.
    set.contains-remove value_cmp_total xs v q ∙ out_again (eq_by_cmp value_cmp q v) (set.contains xs q)
    ∙ ap (λ x. not (eq_by_cmp value_cmp q v) && (eq_by_cmp value_cmp q x || set.contains xs q)) (tied_is value_cmp_exact v w h)
    ∙ sym (set.contains-remove value_cmp_total (set.insert xs w) v q ∙ ap (λ b. not (eq_by_cmp value_cmp q v) && b) (set.contains-insert value_cmp_total xs w q)))

set_include_include : (l : Bool) (v w : Value) (xs : set.FinSet value_cmp) → MetLaw l (Include v) (Include w) (Members xs) (rule_of_edits l (Include v) (Include w))
set_include_include true v w xs = kept_law true (Include v) (Include w) (Members xs) (ap Members (inserts_swap xs v w)) refl
set_include_include false v w xs = kept_law false (Include v) (Include w) (Members xs) refl refl

set_exclude_exclude : (l : Bool) (v w : Value) (xs : set.FinSet value_cmp) → MetLaw l (Exclude v) (Exclude w) (Members xs) (rule_of_edits l (Exclude v) (Exclude w))
set_exclude_exclude true v w xs = kept_law true (Exclude v) (Exclude w) (Members xs) (ap Members (removes_swap xs v w)) refl
set_exclude_exclude false v w xs = kept_law false (Exclude v) (Exclude w) (Members xs) refl refl

set_include_exclude : (l : Bool) (v w : Value) (xs : set.FinSet value_cmp) → MetLaw l (Include v) (Exclude w) (Members xs) (rule_of_edits l (Include v) (Exclude w))
set_include_exclude true v w xs = chosen true (Include v) (Exclude w) (Members xs) (eq_by_cmp value_cmp v w) (only_left (Include v)) (kept (Include v) (Exclude w))
    (λ h. ap Members (insert_wins xs v w h)) (λ h. kept_law true (Include v) (Exclude w) (Members xs) (ap Members (mixed_swap xs v w h)) refl)
set_include_exclude false v w xs = chosen false (Include v) (Exclude w) (Members xs) (eq_by_cmp value_cmp v w) (only_right (Exclude w)) (kept (Include v) (Exclude w))
    (λ h. record { gives = refl; prior = refl; asked = refl; fits = λ ts col a b. b }) (λ h. kept_law false (Include v) (Exclude w) (Members xs) refl refl)

turned_test : (v w : Value) → eq_by_cmp value_cmp v w ≡ false → eq_by_cmp value_cmp w v ≡ false
turned_test v w h = sym ((eq_by_cmp_equiv value_cmp_total).symm v w) ∙ h

set_exclude_include : (l : Bool) (v w : Value) (xs : set.FinSet value_cmp) → MetLaw l (Exclude v) (Include w) (Members xs) (rule_of_edits l (Exclude v) (Include w))
set_exclude_include true v w xs = chosen true (Exclude v) (Include w) (Members xs) (eq_by_cmp value_cmp v w) (only_left (Exclude v)) (kept (Exclude v) (Include w))
    (λ h. ap Members (remove_wins xs v w h)) (λ h. kept_law true (Exclude v) (Include w) (Members xs) (ap Members (sym (mixed_swap xs w v (turned_test v w h)))) refl)
set_exclude_include false v w xs = chosen false (Exclude v) (Include w) (Members xs) (eq_by_cmp value_cmp v w) (only_right (Include w)) (kept (Exclude v) (Include w))
    (λ h. record { gives = refl; prior = refl; asked = refl; fits = λ ts col a b. b }) (λ h. kept_law false (Exclude v) (Include w) (Members xs) refl refl)

-- ---- dictionaries
got_bound : (m : map.FinMap name_cmp Value) (k : List ℕ) (v : Option Value) (q : List ℕ) → map.get (bound m k v) q ≡ cond (eq_by_cmp name_cmp q k) v (map.get m q)
got_bound m k (Some v) q = map.get-insert name_total m k v q
got_bound m k None q = map.get-remove name_total m k q

conds_apart : {A : Type 0} (a b : Bool) (x y z : A) → (a ≡ true → b ≡ true → ⊥) → cond a x (cond b y z) ≡ cond b y (cond a x z)
conds_apart true true x y z h = absurd (h refl refl)
conds_apart true false x y z h = refl
conds_apart false b x y z h = refl

conds_over : {A : Type 0} (b : Bool) (x y z : A) → cond b x (cond b y z) ≡ cond b x z
conds_over true x y z = refl
conds_over false x y z = refl

bounds_swap : (m : map.FinMap name_cmp Value) (j k : List ℕ) (v w : Option Value) → eq_by_cmp name_cmp j k ≡ false → bound (bound m j v) k w ≡ bound (bound m k w) j v
bounds_swap m j k v w h = map.same_map name_total name_exact _ _ (λ q.
    got_bound (bound m j v) k w q ∙ ap (cond (eq_by_cmp name_cmp q k) w) (got_bound m j v q)
    ∙ conds_apart (eq_by_cmp name_cmp q k) (eq_by_cmp name_cmp q j) w v (map.get m q) (λ a b. both_ways (eq_by_cmp name_cmp j k) h (ap (λ x. eq_by_cmp name_cmp x k) (sym (tied_is name_exact q j b)) ∙ a))
    ∙ sym (got_bound (bound m k w) j v q ∙ ap (cond (eq_by_cmp name_cmp q j) v) (got_bound m k w q)))

bound_over : (m : map.FinMap name_cmp Value) (j k : List ℕ) (v w : Option Value) → j ≡ k → bound m j v ≡ bound (bound m k w) j v
bound_over m j k v w e = map.same_map name_total name_exact _ _ (λ q.
    got_bound m j v q ∙ sym (conds_over (eq_by_cmp name_cmp q j) v w (map.get m q))
    ∙ ap (λ x. cond (eq_by_cmp name_cmp q j) v (cond (eq_by_cmp name_cmp q x) w (map.get m q))) e
    ∙ sym (got_bound (bound m k w) j v q ∙ ap (cond (eq_by_cmp name_cmp q j) v) (got_bound m k w q)))

dict_bind_bind : (l : Bool) (j k : List ℕ) (v w : Option Value) (m : map.FinMap name_cmp Value) → MetLaw l (Bind j v) (Bind k w) (Dict m) (rule_of_edits l (Bind j v) (Bind k w))
dict_bind_bind true j k v w m = chosen true (Bind j v) (Bind k w) (Dict m) (eq_by_cmp name_cmp j k) (only_left (Bind j v)) (kept (Bind j v) (Bind k w))
    (λ h. ap Dict (bound_over m j k v w (tied_is name_exact j k h))) (λ h. kept_law true (Bind j v) (Bind k w) (Dict m) (ap Dict (bounds_swap m j k v w h)) refl)
dict_bind_bind false j k v w m = chosen false (Bind j v) (Bind k w) (Dict m) (eq_by_cmp name_cmp j k) (only_right (Bind k w)) (kept (Bind j v) (Bind k w))
    (λ h. record { gives = refl; prior = refl; asked = refl; fits = λ ts col a b. b }) (λ h. kept_law false (Bind j v) (Bind k w) (Dict m) refl refl)

-- ---- clearing
after_clear : (l : Bool) (e : Edit) (x : Cell) → edited Empty (edited e x) ≡ merged_cell l e Empty x → MetLaw l e Empty x (only_right Empty)
after_clear l e x g = record { gives = g; prior = refl; asked = refl; fits = λ ts col a b. b }

abbrev AskedAt : Edit → ℕ → Type 0
AskedAt (Set v) r = r ≡ 0
AskedAt (Add n) r = r ≡ 0
AskedAt (Replace s v) r = r ≡ 1
AskedAt (Insert s v) r = r ≡ 1
AskedAt (Remove s) r = r ≡ 1
AskedAt (Include v) r = r ≡ 2
AskedAt (Exclude v) r = r ≡ 2
AskedAt (Bind k v) r = r ≡ 3
AskedAt Empty r = 0 < r

not_zero : (r : ℕ) → not (r == 0) ≡ true → 0 < r
not_zero r h = grind (arith, nat_tests)

asked_at : (e : Edit) (r : ℕ) → has_shape e r ≡ true → AskedAt e r
asked_at (Set v) r h = eqb-true r 0 h
asked_at (Add n) r h = eqb-true r 0 h
asked_at (Replace s v) r h = eqb-true r 1 h
asked_at (Insert s v) r h = eqb-true r 1 h
asked_at (Remove s) r h = eqb-true r 1 h
asked_at (Include v) r h = eqb-true r 2 h
asked_at (Exclude v) r h = eqb-true r 2 h
asked_at (Bind k v) r h = eqb-true r 3 h
asked_at Empty r h = not_zero r h

-- ---- every pair of changes that act on one cell
pub edit_law : (l : Bool) (e f : Edit) (x : Cell) → IsEdit e → IsEdit f → has_shape e (cell_rank x) ≡ true → has_shape f (cell_rank x) ≡ true → is_prior e x ≡ true → is_prior f x ≡ true → MetLaw l e f x (rule_of_edits l e f)
edit_law l (Set v) (Set w) (One u) i j a b p q = field_set_set l v w u
edit_law l (Set v) (Add n) (One u) i j a b p q = field_set_add l v u n (is_summed v) refl
edit_law l (Add n) (Set v) (One u) i j a b p q = field_add_set l v u n (is_summed v) refl
edit_law l (Add m) (Add n) (One u) i j a b p q = field_add_add l m n u
edit_law l (Insert s v) (Insert t w) (Many xs) i j a b p q = list_insert_insert l s t v w xs i j p q
edit_law l (Insert s v) (Remove t) (Many xs) i j a b p q = list_insert_remove l s t v xs i j p q
edit_law l (Remove s) (Insert t w) (Many xs) i j a b p q = list_remove_insert l s t w xs i j p q
edit_law l (Insert s v) (Replace t w) (Many xs) i j a b p q = list_insert_replace l s t v w xs i j p q
edit_law l (Replace s v) (Insert t w) (Many xs) i j a b p q = list_replace_insert l s t v w xs i j p q
edit_law l (Remove s) (Remove t) (Many xs) i j a b p q = list_remove_remove l s t xs i j p q
edit_law l (Remove s) (Replace t w) (Many xs) i j a b p q = list_remove_replace l s t w xs i j p q
edit_law l (Replace s v) (Remove t) (Many xs) i j a b p q = list_replace_remove l s t v xs i j p q
edit_law l (Replace s v) (Replace t w) (Many xs) i j a b p q = list_replace_replace l s t v w xs i j p q
edit_law l (Include v) (Include w) (Members xs) i j a b p q = set_include_include l v w xs
edit_law l (Exclude v) (Exclude w) (Members xs) i j a b p q = set_exclude_exclude l v w xs
edit_law l (Include v) (Exclude w) (Members xs) i j a b p q = set_include_exclude l v w xs
edit_law l (Exclude v) (Include w) (Members xs) i j a b p q = set_exclude_include l v w xs
edit_law l (Bind j v) (Bind k w) (Dict m) i o a b p q = dict_bind_bind l j k v w m
edit_law true Empty Empty (Many xs) i o a b p q = refl
edit_law true Empty Empty (Members xs) i o a b p q = refl
edit_law true Empty Empty (Dict m) i o a b p q = refl
edit_law true Empty (Insert t w) (Many xs) i o a b p q = refl
edit_law true (Insert t w) Empty (Many xs) i o a b p q = after_clear true (Insert t w) (Many xs) refl
edit_law true Empty (Remove t) (Many xs) i o a b p q = refl
edit_law true (Remove t) Empty (Many xs) i o a b p q = after_clear true (Remove t) (Many xs) refl
edit_law true Empty (Replace t w) (Many xs) i o a b p q = refl
edit_law true (Replace t w) Empty (Many xs) i o a b p q = after_clear true (Replace t w) (Many xs) refl
edit_law true Empty (Include w) (Members xs) i o a b p q = refl
edit_law true (Include w) Empty (Members xs) i o a b p q = after_clear true (Include w) (Members xs) refl
edit_law true Empty (Exclude w) (Members xs) i o a b p q = refl
edit_law true (Exclude w) Empty (Members xs) i o a b p q = after_clear true (Exclude w) (Members xs) refl
edit_law true Empty (Bind k w) (Dict m) i o a b p q = refl
edit_law true (Bind k w) Empty (Dict m) i o a b p q = after_clear true (Bind k w) (Dict m) refl
edit_law false Empty Empty (Many xs) i o a b p q = refl
edit_law false Empty Empty (Members xs) i o a b p q = refl
edit_law false Empty Empty (Dict m) i o a b p q = refl
edit_law false Empty (Insert t w) (Many xs) i o a b p q = refl
edit_law false (Insert t w) Empty (Many xs) i o a b p q = after_clear false (Insert t w) (Many xs) refl
edit_law false Empty (Remove t) (Many xs) i o a b p q = refl
edit_law false (Remove t) Empty (Many xs) i o a b p q = after_clear false (Remove t) (Many xs) refl
edit_law false Empty (Replace t w) (Many xs) i o a b p q = refl
edit_law false (Replace t w) Empty (Many xs) i o a b p q = after_clear false (Replace t w) (Many xs) refl
edit_law false Empty (Include w) (Members xs) i o a b p q = refl
edit_law false (Include w) Empty (Members xs) i o a b p q = after_clear false (Include w) (Members xs) refl
edit_law false Empty (Exclude w) (Members xs) i o a b p q = refl
edit_law false (Exclude w) Empty (Members xs) i o a b p q = after_clear false (Exclude w) (Members xs) refl
edit_law false Empty (Bind k w) (Dict m) i o a b p q = refl
edit_law false (Bind k w) Empty (Dict m) i o a b p q = after_clear false (Bind k w) (Dict m) refl
edit_law l e f x i j a b p q = absurd (omega (arith, asked_at e (cell_rank x) a, asked_at f (cell_rank x) b))
