-- The rule table and the merged_cell state with the sides swapped.
use Rattle.std.specs.Prelude.{◌≡◌, ℕ, ℤ, ◌-◌, Bool, true, false, cond, not, ◌&&◌, ◌||◌, ◌==◌, nat_lt, nat_le, Ok, Err, refl}
use Rattle.std.specs.declared.cmp.Ordering.{Ordering}
use Rattle.std.specs.Ordering.{eq_by_cmp}
use Rattle.std.specs.Cmp.{IsTotalOrder, eq_by_cmp_equiv}
use Rattle.std.proofs.Common.{sym, ◌∙◌, ap, arith}
use Rattle.std.proofs.lemmas.Bool.{eqb-true}
use Rattle.std.proofs.lemmas.Bool.Decides.{nat_tests}
use Rattle.sync_base.specs.After.{added}
use Rattle.sync_base.specs.Effects.{CellPath, Edit, Effect, Set, Add, Replace, Insert, Remove, Include, Exclude, Bind, Empty, NewTable, NewColumn, Create, Erase, Change}
use Rattle.sync_base.specs.Lemmas.Apart.{changes_there, changes_apart}
use Rattle.sync_base.specs.Lemmas.Looks.{name_total, object_total, path_total, path_exact}
use Rattle.sync_base.specs.Lemmas.Maps.{tied_is}
use Rattle.sync_base.specs.Merged.{path_cmp, same_column, kind_rank, target_of, bit}
use Rattle.sync_base.specs.Rules.{Answer, rule, rule_of_edits, sized, top, spot, is_summed, lifted, kept, only_left, only_right, neither, later_of}
use Rattle.sync_base.specs.States.{object_cmp, key_rank_of, shape_rank}
use Rattle.sync_data.specs.Orders.{name_cmp, value_cmp, value_cmp_total}
use Rattle.sync_data.specs.Spot.{Spot}
use Rattle.sync_data.specs.declared.value.Value.{Value}
use Rattle.sync_data.specs.declared.column.Column.{Column}
use Rattle.sync_base.specs.declared.answers.Mismatch.TheVariants as mismatches

-- the same with the sides swapped
abbrev pub mirrored : {A : Type 0} → Answer A → Answer A
mirrored (Err m) = Err m
mirrored (Ok f) = Ok (record { left = f.right; right = f.left })

test_turned : {K : Type 0} {R : K → K → Ordering} → IsTotalOrder R → (x y : K) → eq_by_cmp R x y ≡ eq_by_cmp R y x
test_turned o x y = (eq_by_cmp_equiv o).symm x y

number_turned : (m n : ℕ) → (m == n) ≡ (n == m)
number_turned m n = grind (arith, nat_tests)

mirrored_if : {A : Type 0} (b c : Bool) (m n p q : Answer A) → b ≡ c → m ≡ mirrored p → n ≡ mirrored q → cond b m n ≡ mirrored (cond c p q)
mirrored_if true true m n p q e h k = h
mirrored_if false false m n p q e h k = k
mirrored_if true false m n p q e h k = cc
mirrored_if false true m n p q e h k = cc

sized_turned : (b : Bool) (s t : Spot) (m n : Answer Edit) → m ≡ mirrored n → sized b t s m ≡ mirrored (sized b s t n)
sized_turned b s t m n h =
    elim (t.prior == s.prior) as (λ v. (t.prior == s.prior) ≡ v → cond v (cond (b && (t.prior == top)) (Err mismatches.Range) m) (Err mismatches.SizesDiffer) ≡ mirrored (sized b s t n)) [
      | true ↦ λ e.
          let same : s.prior ≡ t.prior = sym (eqb-true t.prior s.prior e) in
          mirrored_if (b && (t.prior == top)) (b && (s.prior == top)) (Err mismatches.Range) m (Err mismatches.Range) n (ap (λ k. b && (k == top)) (sym same)) refl h
          ∙ ap (λ v. mirrored (cond v (cond (b && (s.prior == top)) (Err mismatches.Range) n) (Err mismatches.SizesDiffer))) (sym (number_turned s.prior t.prior ∙ e))
      | false ↦ λ e. ap (λ v. mirrored (cond v (cond (b && (s.prior == top)) (Err mismatches.Range) n) (Err mismatches.SizesDiffer))) (sym (number_turned s.prior t.prior ∙ e))
    ] refl

later_turned : {A : Type 0} (l : Bool) (a b : A) → later_of (not l) b a ≡ mirrored (later_of l a b)
later_turned true a b = refl
later_turned false a b = refl

-- of two places one is sooner, and at one place the earlier
sooner_turned : (l : Bool) (p q : ℕ) → (nat_lt q p || ((q == p) && not (not l))) ≡ not (nat_lt p q || ((p == q) && not l))
sooner_turned true p q = grind (arith, nat_tests)
sooner_turned false p q = grind (arith, nat_tests)

mirrored_not : {A : Type 0} (b c : Bool) (m n p q : Answer A) → b ≡ not c → m ≡ mirrored q → n ≡ mirrored p → cond b m n ≡ mirrored (cond c p q)
mirrored_not true false m n p q e h k = h
mirrored_not false true m n p q e h k = k
mirrored_not true true m n p q e h k = cc
mirrored_not false false m n p q e h k = cc

insert_turned : (l : Bool) (s t : Spot) (v w : Value) → rule_of_edits (not l) (Insert t w) (Insert s v) ≡ mirrored (rule_of_edits l (Insert s v) (Insert t w))
insert_turned l s t v w = sized_turned true s t _ _ (mirrored_not (nat_lt t.place s.place || ((t.place == s.place) && not (not l))) (nat_lt s.place t.place || ((s.place == t.place) && not l)) _ _ _ _ (sooner_turned l s.place t.place) refl refl)

apart_turned : (p q : ℕ) → (p == q) ≡ false → nat_lt q p ≡ not (nat_lt p q)
apart_turned p q h = grind (arith, nat_tests)

remove_turned : (l : Bool) (s t : Spot) → rule_of_edits (not l) (Remove t) (Remove s) ≡ mirrored (rule_of_edits l (Remove s) (Remove t))
remove_turned l s t =
    sized_turned false s t _ _ (elim (s.place == t.place) as (λ v. (s.place == t.place) ≡ v → cond (t.place == s.place) neither (cond (nat_lt t.place s.place) (kept (Remove (spot t.place (t.prior - 1))) (Remove (spot (s.place - 1) (s.prior - 1)))) (kept (Remove (spot (t.place - 1) (t.prior - 1))) (Remove (spot s.place (s.prior - 1)))))
    ≡ mirrored (cond v neither (cond (nat_lt s.place t.place) (kept (Remove (spot s.place (s.prior - 1))) (Remove (spot (t.place - 1) (t.prior - 1)))) (kept (Remove (spot (s.place - 1) (s.prior - 1))) (Remove (spot t.place (t.prior - 1))))))) [
      | true ↦ λ e. ap (λ v. cond v neither (cond (nat_lt t.place s.place) (kept (Remove (spot t.place (t.prior - 1))) (Remove (spot (s.place - 1) (s.prior - 1)))) (kept (Remove (spot (t.place - 1) (t.prior - 1))) (Remove (spot s.place (s.prior - 1)))))) (number_turned t.place s.place ∙ e)
      | false ↦ λ e. ap (λ v. cond v neither (cond (nat_lt t.place s.place) (kept (Remove (spot t.place (t.prior - 1))) (Remove (spot (s.place - 1) (s.prior - 1)))) (kept (Remove (spot (t.place - 1) (t.prior - 1))) (Remove (spot s.place (s.prior - 1)))))) (number_turned t.place s.place ∙ e)
          ∙ mirrored_not (nat_lt t.place s.place) (nat_lt s.place t.place) _ _ _ _ (apart_turned s.place t.place e) refl refl
    ] refl)

replace_turned : (l : Bool) (s t : Spot) (v w : Value) → rule_of_edits (not l) (Replace t w) (Replace s v) ≡ mirrored (rule_of_edits l (Replace s v) (Replace t w))
replace_turned l s t v w = sized_turned false s t _ _ (mirrored_if (t.place == s.place) (s.place == t.place) _ _ _ _ (number_turned t.place s.place) (later_turned l (Replace s v) (Replace t w)) refl)

summed_turned : (l b : Bool) (v : Value) (n : ℤ) → cond b (cond (not l) (kept (Add n) (Set (added n v))) (only_right (Set v))) (kept (Add n) (Set v)) ≡ mirrored (cond b (cond l (only_left (Set v)) (kept (Set (added n v)) (Add n))) (kept (Set v) (Add n)))
summed_turned true true v n = refl
summed_turned false true v n = refl
summed_turned true false v n = refl
summed_turned false false v n = refl

summed_back : (l b : Bool) (v : Value) (n : ℤ) → cond b (cond (not l) (only_left (Set v)) (kept (Set (added n v)) (Add n))) (kept (Set v) (Add n)) ≡ mirrored (cond b (cond l (kept (Add n) (Set (added n v))) (only_right (Set v))) (kept (Add n) (Set v)))
summed_back true true v n = refl
summed_back false true v n = refl
summed_back true false v n = refl
summed_back false false v n = refl

pub edits_turned : (l : Bool) (e f : Edit) → rule_of_edits (not l) f e ≡ mirrored (rule_of_edits l e f)
edits_turned l (Set v) (Set w) = later_turned l (Set v) (Set w)
edits_turned l (Set v) (Add n) = summed_turned l (is_summed v) v n
edits_turned l (Add n) (Set v) = summed_back l (is_summed v) v n
edits_turned l (Insert s v) (Insert t w) = insert_turned l s t v w
edits_turned l (Insert s v) (Remove t) = sized_turned true s t _ _ (mirrored_if (nat_le s.place t.place) (nat_le s.place t.place) _ _ _ _ refl refl refl)
edits_turned l (Remove s) (Insert t w) = sized_turned true s t _ _ (mirrored_if (nat_le t.place s.place) (nat_le t.place s.place) _ _ _ _ refl refl refl)
edits_turned l (Insert s v) (Replace t w) = sized_turned true s t _ _ (mirrored_if (nat_le s.place t.place) (nat_le s.place t.place) _ _ _ _ refl refl refl)
edits_turned l (Replace s v) (Insert t w) = sized_turned true s t _ _ (mirrored_if (nat_le t.place s.place) (nat_le t.place s.place) _ _ _ _ refl refl refl)
edits_turned l (Remove s) (Remove t) = remove_turned l s t
edits_turned l (Remove s) (Replace t w) = sized_turned false s t _ _ (mirrored_if (t.place == s.place) (s.place == t.place) _ _ _ _ (number_turned t.place s.place) refl (mirrored_if (nat_lt s.place t.place) (nat_lt s.place t.place) _ _ _ _ refl refl refl))
edits_turned l (Replace s v) (Remove t) = sized_turned false s t _ _ (mirrored_if (t.place == s.place) (s.place == t.place) _ _ _ _ (number_turned t.place s.place) refl (mirrored_if (nat_lt t.place s.place) (nat_lt t.place s.place) _ _ _ _ refl refl refl))
edits_turned l (Replace s v) (Replace t w) = replace_turned l s t v w
edits_turned l (Include v) (Exclude w) = mirrored_if (eq_by_cmp value_cmp w v) (eq_by_cmp value_cmp v w) _ _ _ _ (test_turned value_cmp_total w v) (later_turned l (Include v) (Exclude w)) refl
edits_turned l (Exclude v) (Include w) = mirrored_if (eq_by_cmp value_cmp w v) (eq_by_cmp value_cmp v w) _ _ _ _ (test_turned value_cmp_total w v) (later_turned l (Exclude v) (Include w)) refl
edits_turned l (Bind j v) (Bind k w) = mirrored_if (eq_by_cmp name_cmp k j) (eq_by_cmp name_cmp j k) _ _ _ _ (test_turned name_total k j) (later_turned l (Bind j v) (Bind k w)) refl
edits_turned l Empty (Set v) = refl
edits_turned l Empty (Add n) = refl
edits_turned l Empty (Replace t w) = refl
edits_turned l Empty (Insert t w) = refl
edits_turned l Empty (Remove t) = refl
edits_turned l Empty (Include w) = refl
edits_turned l Empty (Exclude w) = refl
edits_turned l Empty (Bind k w) = refl
edits_turned l Empty Empty = refl
edits_turned l e f = refl

lifted_turned : (p : CellPath) (m : Answer Edit) → lifted p (mirrored m) ≡ mirrored (lifted p m)
lifted_turned p (Err m) = refl
lifted_turned p (Ok f) = refl

and_both : (a b c d : Bool) → a ≡ c → b ≡ d → (a && b) ≡ (c && d)
and_both a b c d p q = λ i. p i && q i

column_turned : (x y : Column) → same_column y x ≡ same_column x y
column_turned x y = λ i. ((number_turned (kind_rank y.kind) (kind_rank x.kind) i && test_turned name_total (target_of y.kind) (target_of x.kind) i) && number_turned (bit y.nullable) (bit x.nullable) i) && number_turned (shape_rank y.shape) (shape_rank x.shape) i

pub rule_turned : (l : Bool) (a b : Effect) → rule (not l) b a ≡ mirrored (rule l a b)
rule_turned l (NewTable t k) (NewTable u j) = mirrored_if (eq_by_cmp name_cmp u t) (eq_by_cmp name_cmp t u) _ _ _ _ (test_turned name_total u t) (mirrored_if (key_rank_of j == key_rank_of k) (key_rank_of k == key_rank_of j) _ _ _ _ (number_turned _ _) refl refl) refl
rule_turned l (NewColumn t c x) (NewColumn u d y) = mirrored_if (eq_by_cmp name_cmp u t && eq_by_cmp name_cmp d c) (eq_by_cmp name_cmp t u && eq_by_cmp name_cmp c d) _ _ _ _ (and_both _ _ _ _ (test_turned name_total u t) (test_turned name_total d c)) (mirrored_if (same_column y x) (same_column x y) _ _ _ _ (column_turned x y) refl refl) refl
rule_turned l (Create o) (Erase p) = mirrored_if (eq_by_cmp object_cmp p o) (eq_by_cmp object_cmp o p) _ _ _ _ (test_turned object_total p o) refl refl
rule_turned l (Erase o) (Create p) = mirrored_if (eq_by_cmp object_cmp p o) (eq_by_cmp object_cmp o p) _ _ _ _ (test_turned object_total p o) refl refl
rule_turned l (Erase o) (Erase p) = mirrored_if (eq_by_cmp object_cmp p o) (eq_by_cmp object_cmp o p) _ _ _ _ (test_turned object_total p o) refl refl
rule_turned l (Erase o) (Change q e) = mirrored_if (eq_by_cmp object_cmp q.0 o) (eq_by_cmp object_cmp o q.0) _ _ _ _ (test_turned object_total q.0 o) refl refl
rule_turned l (Change q e) (Erase o) = mirrored_if (eq_by_cmp object_cmp o q.0) (eq_by_cmp object_cmp q.0 o) _ _ _ _ (test_turned object_total o q.0) refl refl
rule_turned l (Change p e) (Change q f) =
    elim (eq_by_cmp path_cmp p q) as (λ v. eq_by_cmp path_cmp p q ≡ v → rule (not l) (Change q f) (Change p e) ≡ mirrored (rule l (Change p e) (Change q f))) [
      | true ↦ λ h.
          let same : p ≡ q = tied_is path_exact p q h in
          changes_there (not l) q p f e (test_turned path_total q p ∙ h) (sym same)
          ∙ ap (λ r. lifted r (rule_of_edits (not l) f e)) (sym same) ∙ ap (lifted p) (edits_turned l e f) ∙ lifted_turned p (rule_of_edits l e f)
          ∙ ap mirrored (sym (changes_there l p q e f h same))
      | false ↦ λ h. changes_apart (not l) q p f e (test_turned path_total q p ∙ h) ∙ ap mirrored (sym (changes_apart l p q e f h))
    ] refl
rule_turned l a b = refl
