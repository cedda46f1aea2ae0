-- The rule table on two list instructions of one cell is `place_after`, from both sides.
use Rattle.std.proofs.Common.{◌≡◌, ℕ, ◌+◌, ◌-◌, Bool, true, false, cond, not, ◌&&◌, ◌||◌, Option, Some, None, Ok, Err, refl, ap, ◌∙◌, arith}
use Rattle.std.specs.Prelude.{◌==◌, nat_lt, nat_le}
use Rattle.std.specs.Option.{option_map}
use Rattle.std.specs.Ordering.{eq_by_cmp}
use Rattle.std.proofs.lemmas.Bool.{eq-eqb}
use Rattle.std.proofs.lemmas.Bool.Decides.{nat_tests}
use Rattle.sync_data.specs.declared.value.Value.{Value}
use Rattle.sync_data.specs.declared.instr.CellName.{CellName}
use Rattle.sync_base.specs.declared.answers.Mismatch.TheVariants as mismatches
use Rattle.sync_base.specs.Effects.{CellPath, path_of, effect_of, instr_of, Edit, Insert, Remove, Replace, Change}
use Rattle.sync_base.specs.Merged.{path_cmp}
use Rattle.sync_base.specs.Rules.{Answer, rule, rule_of_edits, sized, spot, top, kept, neither, only_left, only_right, later_of, lifted, outcome_of, meeting}
use Rattle.sync_base.specs.Lemmas.Apart.{changes_there}
use Rattle.sync_base.specs.Lemmas.Looks.{path_total}
use Rattle.std.specs.Cmp.{eq_by_cmp_equiv}
use Rattle.sync_law.specs.Instrs.{as_pair, meet}
use Rattle.list_places.specs.Places.{longer, place_after}
use Rattle.list_places.specs.Moves.{instr_at, instr_left}
use Rattle.list_places.specs.declared.places.Does.{Does}
use Rattle.list_places.specs.declared.places.Does.TheVariants.{Inserts, Erases, Updates}

-- ---- edits
abbrev pub edit_at : Value → Does → ℕ → ℕ → Edit
edit_at v Inserts p n = Insert (spot p n) v
edit_at v Erases p n = Remove (spot p n)
edit_at v Updates p n = Replace (spot p n) v

-- both sides, where they are
abbrev pub answer : Value → Value → Does → Does → ℕ → Option ℕ → Option ℕ → Answer Edit
answer v w d e n x y = Ok (record { left = option_map (λ p. edit_at v d p (longer e n)) x; right = option_map (λ q. edit_at w e q (longer d n)) y })

same_size : (b : Bool) (p q n : ℕ) (row : Answer Edit) → (b && (n == top)) ≡ false → sized b (spot p n) (spot q n) row ≡ row
same_size b p q n row h =
    ap (λ t. cond t (cond (b && (n == top)) (Err mismatches.Range) row) (Err mismatches.SizesDiffer)) (eq-eqb n n refl)
    ∙ ap (λ t. cond t (Err mismatches.Range) row) h

at_top : (p q n : ℕ) (row : Answer Edit) → (n == top) ≡ true → sized true (spot p n) (spot q n) row ≡ Err mismatches.Range
at_top p q n row h = ap (λ t. cond t (cond (n == top) (Err mismatches.Range) row) (Err mismatches.SizesDiffer)) (eq-eqb n n refl) ∙ ap (λ t. cond t (Err mismatches.Range) row) h

sooner_turned : (l : Bool) (p q : ℕ) → (nat_lt q p || ((q == p) && not (not l))) ≡ not (nat_lt p q || ((p == q) && not l))
sooner_turned true p q = grind (arith, nat_tests)
sooner_turned false p q = grind (arith, nat_tests)

number_turned : (m n : ℕ) → (m == n) ≡ (n == m)
number_turned m n = grind (arith, nat_tests)

apart_turned : (p q : ℕ) → (p == q) ≡ false → nat_lt q p ≡ not (nat_lt p q)
apart_turned p q h = grind (arith, nat_tests)

back_turned : (p q : ℕ) → (p == q) ≡ false → nat_lt p q ≡ not (nat_lt q p)
back_turned p q h = grind (arith, nat_tests)

module _ (v w : Value) (n p q : ℕ) where
  two_insertions : (s t : Bool) → t ≡ not s
      → cond s (kept (Insert (spot p (n + 1)) v) (Insert (spot (q + 1) (n + 1)) w)) (kept (Insert (spot (p + 1) (n + 1)) v) (Insert (spot q (n + 1)) w))
      ≡ answer v w Inserts Inserts n (Some (cond s p (p + 1))) (Some (cond t q (q + 1)))
  two_insertions true true h = cc
  two_insertions true false h = refl
  two_insertions false true h = refl
  two_insertions false false h = cc

  insertion_erasure : (s : Bool)
      → cond s (kept (Insert (spot p (n - 1)) v) (Remove (spot (q + 1) (n + 1)))) (kept (Insert (spot (p - 1) (n - 1)) v) (Remove (spot q (n + 1))))
      ≡ answer v w Inserts Erases n (Some (cond s p (p - 1))) (Some (cond s (q + 1) q))
  insertion_erasure true = refl
  insertion_erasure false = refl

  erasure_insertion : (s : Bool)
      → cond s (kept (Remove (spot (p + 1) (n + 1))) (Insert (spot q (n - 1)) w)) (kept (Remove (spot p (n + 1))) (Insert (spot (q - 1) (n - 1)) w))
      ≡ answer v w Erases Inserts n (Some (cond s (p + 1) p)) (Some (cond s q (q - 1)))
  erasure_insertion true = refl
  erasure_insertion false = refl

  insertion_update : (s : Bool)
      → cond s (kept (Insert (spot p n) v) (Replace (spot (q + 1) (n + 1)) w)) (kept (Insert (spot p n) v) (Replace (spot q (n + 1)) w))
      ≡ answer v w Inserts Updates n (Some p) (Some (cond s (q + 1) q))
  insertion_update true = refl
  insertion_update false = refl

  update_insertion : (s : Bool)
      → cond s (kept (Replace (spot (p + 1) (n + 1)) v) (Insert (spot q n) w)) (kept (Replace (spot p (n + 1)) v) (Insert (spot q n) w))
      ≡ answer v w Updates Inserts n (Some (cond s (p + 1) p)) (Some q)
  update_insertion true = refl
  update_insertion false = refl

  two_erasures : (t u s r : Bool) → u ≡ t → (t ≡ false → r ≡ not s)
      → cond t neither (cond s (kept (Remove (spot p (n - 1))) (Remove (spot (q - 1) (n - 1)))) (kept (Remove (spot (p - 1) (n - 1))) (Remove (spot q (n - 1)))))
      ≡ answer v w Erases Erases n (cond t None (Some (cond s p (p - 1)))) (cond u None (Some (cond r q (q - 1))))
  two_erasures true true s r h k = refl
  two_erasures true false s r h k = cc
  two_erasures false true s r h k = cc
  two_erasures false false true true h k = let e = k refl in cc
  two_erasures false false true false h k = refl
  two_erasures false false false true h k = refl
  two_erasures false false false false h k = let e = k refl in cc

  erasure_update : (t u s r : Bool) → u ≡ t → (t ≡ false → r ≡ not s)
      → cond t (only_left (Remove (spot p n))) (cond s (kept (Remove (spot p n)) (Replace (spot (q - 1) (n - 1)) w)) (kept (Remove (spot p n)) (Replace (spot q (n - 1)) w)))
      ≡ answer v w Erases Updates n (Some p) (cond u None (Some (cond r q (q - 1))))
  erasure_update true true s r h k = refl
  erasure_update true false s r h k = cc
  erasure_update false true s r h k = cc
  erasure_update false false true true h k = let e = k refl in cc
  erasure_update false false true false h k = refl
  erasure_update false false false true h k = refl
  erasure_update false false false false h k = let e = k refl in cc

  update_erasure : (t s r : Bool) → (t ≡ false → r ≡ not s)
      → cond t (only_right (Remove (spot q n))) (cond s (kept (Replace (spot (p - 1) (n - 1)) v) (Remove (spot q n))) (kept (Replace (spot p (n - 1)) v) (Remove (spot q n))))
      ≡ answer v w Updates Erases n (cond t None (Some (cond r p (p - 1)))) (Some q)
  update_erasure true s r k = refl
  update_erasure false true true k = let e = k refl in cc
  update_erasure false true false k = refl
  update_erasure false false true k = refl
  update_erasure false false false k = let e = k refl in cc

  two_updates : (t u l : Bool) → u ≡ t
      → cond t (later_of l (Replace (spot p n) v) (Replace (spot q n) w)) (kept (Replace (spot p n) v) (Replace (spot q n) w))
      ≡ answer v w Updates Updates n (cond t (cond l (Some p) None) (Some p)) (cond u (cond (not l) (Some q) None) (Some q))
  two_updates true true true h = refl
  two_updates true true false h = refl
  two_updates true false l h = cc
  two_updates false true l h = cc
  two_updates false false l h = refl

-- one of both is an insertion
abbrev pub grows : Does → Does → Bool
grows Inserts e = true
grows Erases Inserts = true
grows Erases Erases = false
grows Erases Updates = false
grows Updates Inserts = true
grows Updates Erases = false
grows Updates Updates = false

pub pair_of_edits : (l : Bool) (v w : Value) (d e : Does) (p q n : ℕ) → (grows d e && (n == top)) ≡ false
    → rule_of_edits l (edit_at v d p n) (edit_at w e q n) ≡ answer v w d e n (place_after l d p e q) (place_after (not l) e q d p)
pair_of_edits l v w Inserts Inserts p q n h = same_size true p q n _ h ∙ two_insertions v w n p q _ _ (sooner_turned l p q)
pair_of_edits l v w Inserts Erases p q n h = same_size true p q n _ h ∙ insertion_erasure v w n p q (nat_le p q)
pair_of_edits l v w Inserts Updates p q n h = same_size true p q n _ h ∙ insertion_update v w n p q (nat_le p q)
pair_of_edits l v w Erases Inserts p q n h = same_size true p q n _ h ∙ erasure_insertion v w n p q (nat_le q p)
pair_of_edits l v w Erases Erases p q n h = same_size false p q n _ h ∙ two_erasures v w n p q (p == q) (q == p) (nat_lt p q) (nat_lt q p) (number_turned q p) (apart_turned p q)
pair_of_edits l v w Erases Updates p q n h = same_size false p q n _ h ∙ erasure_update v w n p q (p == q) (q == p) (nat_lt p q) (nat_lt q p) (number_turned q p) (apart_turned p q)
pair_of_edits l v w Updates Inserts p q n h = same_size true p q n _ h ∙ update_insertion v w n p q (nat_le q p)
pair_of_edits l v w Updates Erases p q n h = same_size false p q n _ h ∙ update_erasure v w n p q (p == q) (nat_lt q p) (nat_lt p q) (back_turned p q)
pair_of_edits l v w Updates Updates p q n h = same_size false p q n _ h ∙ two_updates v w n p q (p == q) (q == p) l (number_turned q p)

pub edits_at_top : (l : Bool) (v w : Value) (d e : Does) (p q n : ℕ) → (grows d e && (n == top)) ≡ true → rule_of_edits l (edit_at v d p n) (edit_at w e q n) ≡ Err mismatches.Range
edits_at_top l v w Inserts Inserts p q n h = at_top p q n _ h
edits_at_top l v w Inserts Erases p q n h = at_top p q n _ h
edits_at_top l v w Inserts Updates p q n h = at_top p q n _ h
edits_at_top l v w Erases Inserts p q n h = at_top p q n _ h
edits_at_top l v w Erases Erases p q n h = cc
edits_at_top l v w Erases Updates p q n h = cc
edits_at_top l v w Updates Inserts p q n h = at_top p q n _ h
edits_at_top l v w Updates Erases p q n h = cc
edits_at_top l v w Updates Updates p q n h = cc

-- ---- instructions
effect_at : (c : CellName) (v : Value) (d : Does) (p n : ℕ) → effect_of (instr_at c v d p n) ≡ Change (path_of c) (edit_at v d p n)
effect_at c v Inserts p n = refl
effect_at c v Erases p n = refl
effect_at c v Updates p n = refl

back : (c : CellName) (v : Value) (d : Does) (p n : ℕ) → instr_of (Change (path_of c) (edit_at v d p n)) ≡ instr_at c v d p n
back c v Inserts p n = refl
back c v Erases p n = refl
back c v Updates p n = refl

back_left : (c : CellName) (v : Value) (d : Does) (n : ℕ) (x : Option ℕ) → option_map instr_of (Rattle.sync_base.specs.Rules.placed (path_of c) (option_map (λ p. edit_at v d p n) x)) ≡ instr_left c v d n x
back_left c v d n None = refl
back_left c v d n (Some p) = ap Some (back c v d p n)

path_itself : (p : CellPath) → eq_by_cmp path_cmp p p ≡ true
path_itself p = (eq_by_cmp_equiv path_total).refl p

module _ (l : Bool) (c : CellName) (v w : Value) (d e : Does) (p q n : ℕ) where
  by_edits : meet (instr_at c v d p n) (instr_at c w e q n) l ≡ as_pair (outcome_of (lifted (path_of c) (rule_of_edits l (edit_at v d p n) (edit_at w e q n))))
  by_edits =
      (λ i. as_pair (outcome_of (rule l (effect_at c v d p n i) (effect_at c w e q n i))))
      ∙ ap (λ r. as_pair (outcome_of r)) (changes_there l (path_of c) (path_of c) (edit_at v d p n) (edit_at w e q n) (path_itself (path_of c)) refl)

  -- what is left of two list instructions of one cell that were made on lists of one length
  pub pair : (grows d e && (n == top)) ≡ false → meet (instr_at c v d p n) (instr_at c w e q n) l ≡ Ok (instr_left c v d (longer e n) (place_after l d p e q), instr_left c w e (longer d n) (place_after (not l) e q d p))
  pair h =
      by_edits
      ∙ ap (λ r. as_pair (outcome_of (lifted (path_of c) r))) (pair_of_edits l v w d e p q n h)
      ∙ (λ i. Ok (back_left c v d (longer e n) (place_after l d p e q) i, back_left c w e (longer d n) (place_after (not l) e q d p) i))

  -- and why they can't be merged: only where one of them makes the longest list longer
  pub pair_at_top : (grows d e && (n == top)) ≡ true → meet (instr_at c v d p n) (instr_at c w e q n) l ≡ Err mismatches.Range
  pair_at_top h = by_edits ∙ ap (λ r. as_pair (outcome_of (lifted (path_of c) r))) (edits_at_top l v w d e p q n h)
