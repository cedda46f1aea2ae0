-- Which mismatches come where both sides act.
use Rattle.std.specs.Prelude.{◌≡◌, ℕ, Bool, true, false, cond, not, ◌&&◌, ◌||◌, ◌==◌, nat_lt, nat_le, Ok, Err, refl}
use Rattle.std.specs.Ordering.{eq_by_cmp}
use Rattle.std.proofs.Common.{sym, ◌∙◌, subst}
use Rattle.std.proofs.lemmas.Bool.{eqb-true, eq-eqb}
use Rattle.sync_base.specs.Checks.{is_prior, size}
use Rattle.sync_base.specs.Effects.{CellPath, Edit, Effect, Set, Add, Replace, Insert, Remove, Include, Exclude, Bind, Empty, NewTable, NewColumn, Create, Erase, Change}
use Rattle.sync_base.specs.Lemmas.Apart.{changes_there, changes_apart}
use Rattle.sync_base.specs.Lemmas.Laws.{prior_of, prior_is}
use Rattle.sync_base.specs.Lemmas.Looks.{path_exact}
use Rattle.sync_base.specs.Lemmas.Maps.{tied_is}
use Rattle.sync_base.specs.Lemmas.Steps.{Found, FoundCell}
use Rattle.sync_base.specs.Merged.{path_cmp, same_column}
use Rattle.sync_base.specs.Rules.{Outcomes, Answer, rule, rule_of_edits, sized, top, lifted, is_summed}
use Rattle.sync_base.specs.States.{State, Cell, object_cmp, cell_at, key_rank_of}
use Rattle.sync_data.specs.Orders.{name_cmp, value_cmp}
use Rattle.sync_data.specs.Spot.{Spot}
use Rattle.sync_base.specs.declared.answers.Mismatch.{Mismatch}
use Rattle.sync_base.specs.declared.answers.Mismatch.TheVariants as mismatches

abbrev pub IsNoSizes : Mismatch → Type 0
IsNoSizes mismatches.SizesDiffer = ⊥
IsNoSizes m = Unit {0}

abbrev pub NoSizesAt : {A : Type 0} → Answer A → Type 0
NoSizesAt (Err m) = IsNoSizes m
NoSizesAt (Ok f) = Unit {0}

pub record NoSizes {A : Type 0} (m : Answer A) : Type 0 where
  pub fine : NoSizesAt m

yes : {A : Type 0} (f : Outcomes A) → NoSizes (Ok f)
yes f = record { fine = tt }

either : {A : Type 0} (b : Bool) (m n : Answer A) → NoSizes m → NoSizes n → NoSizes (cond b m n)
either true m n g h = g
either false m n g h = h

sized_fine : (b : Bool) (s t : Spot) (row : Answer Edit) → (s.prior == t.prior) ≡ true → NoSizes row → NoSizes (sized b s t row)
sized_fine b s t row e h = subst (λ v. NoSizes (cond v (cond (b && (s.prior == top)) (Err mismatches.Range) row) (Err mismatches.SizesDiffer))) (sym e) (either (b && (s.prior == top)) (Err mismatches.Range) row (record { fine = tt }) h)

alike : (m n k : ℕ) → (m == k) ≡ true → (n == k) ≡ true → (m == n) ≡ true
alike m n k g h = eq-eqb m n (eqb-true m k g ∙ sym (eqb-true n k h))

edits_fine : (l : Bool) (e f : Edit) (x : Cell) → is_prior e x ≡ true → is_prior f x ≡ true → NoSizes (rule_of_edits l e f)
edits_fine true (Set v) (Set w) x p q = yes _
edits_fine false (Set v) (Set w) x p q = yes _
edits_fine true (Set v) (Add n) x p q = either (is_summed v) _ _ (yes _) (yes _)
edits_fine false (Set v) (Add n) x p q = either (is_summed v) _ _ (yes _) (yes _)
edits_fine true (Add n) (Set v) x p q = either (is_summed v) _ _ (yes _) (yes _)
edits_fine false (Add n) (Set v) x p q = either (is_summed v) _ _ (yes _) (yes _)
edits_fine l (Insert s v) (Insert t w) x p q = sized_fine true s t _ (alike s.prior t.prior (size x) p q) (either (nat_lt s.place t.place || ((s.place == t.place) && not l)) _ _ (yes _) (yes _))
edits_fine l (Insert s v) (Remove t) x p q = sized_fine true s t _ (alike s.prior t.prior (size x) p q) (either (nat_le s.place t.place) _ _ (yes _) (yes _))
edits_fine l (Remove s) (Insert t w) x p q = sized_fine true s t _ (alike s.prior t.prior (size x) p q) (either (nat_le t.place s.place) _ _ (yes _) (yes _))
edits_fine l (Insert s v) (Replace t w) x p q = sized_fine true s t _ (alike s.prior t.prior (size x) p q) (either (nat_le s.place t.place) _ _ (yes _) (yes _))
edits_fine l (Replace s v) (Insert t w) x p q = sized_fine true s t _ (alike s.prior t.prior (size x) p q) (either (nat_le t.place s.place) _ _ (yes _) (yes _))
edits_fine l (Remove s) (Remove t) x p q = sized_fine false s t _ (alike s.prior t.prior (size x) p q) (either (s.place == t.place) _ _ (yes _) (either (nat_lt s.place t.place) _ _ (yes _) (yes _)))
edits_fine l (Remove s) (Replace t w) x p q = sized_fine false s t _ (alike s.prior t.prior (size x) p q) (either (s.place == t.place) _ _ (yes _) (either (nat_lt s.place t.place) _ _ (yes _) (yes _)))
edits_fine l (Replace s v) (Remove t) x p q = sized_fine false s t _ (alike s.prior t.prior (size x) p q) (either (s.place == t.place) _ _ (yes _) (either (nat_lt t.place s.place) _ _ (yes _) (yes _)))
edits_fine true (Replace s v) (Replace t w) x p q = sized_fine false s t _ (alike s.prior t.prior (size x) p q) (either (s.place == t.place) _ _ (yes _) (yes _))
edits_fine false (Replace s v) (Replace t w) x p q = sized_fine false s t _ (alike s.prior t.prior (size x) p q) (either (s.place == t.place) _ _ (yes _) (yes _))
edits_fine true (Include v) (Exclude w) x p q = either (eq_by_cmp value_cmp v w) _ _ (yes _) (yes _)
edits_fine false (Include v) (Exclude w) x p q = either (eq_by_cmp value_cmp v w) _ _ (yes _) (yes _)
edits_fine true (Exclude v) (Include w) x p q = either (eq_by_cmp value_cmp v w) _ _ (yes _) (yes _)
edits_fine false (Exclude v) (Include w) x p q = either (eq_by_cmp value_cmp v w) _ _ (yes _) (yes _)
edits_fine true (Bind j v) (Bind k w) x p q = either (eq_by_cmp name_cmp j k) _ _ (yes _) (yes _)
edits_fine false (Bind j v) (Bind k w) x p q = either (eq_by_cmp name_cmp j k) _ _ (yes _) (yes _)
edits_fine l Empty (Set v) x p q = yes _
edits_fine l Empty (Add n) x p q = yes _
edits_fine l Empty (Replace t w) x p q = yes _
edits_fine l Empty (Insert t w) x p q = yes _
edits_fine l Empty (Remove t) x p q = yes _
edits_fine l Empty (Include w) x p q = yes _
edits_fine l Empty (Exclude w) x p q = yes _
edits_fine l Empty (Bind k w) x p q = yes _
edits_fine l Empty Empty x p q = yes _
edits_fine l e f x p q = (yes _)

lifted_fine : (p : CellPath) (m : Answer Edit) → NoSizes m → NoSizes (lifted p m)
lifted_fine p (Err m) h = record { fine = h.fine }
lifted_fine p (Ok f) h = (yes _)

-- where both act, the sizes never differ
pub no_sizes : (s : State) (l : Bool) (a b : Effect) → Found s a → Found s b → NoSizes (rule l a b)
no_sizes s l (NewTable t k) (NewTable u j) f g = either (eq_by_cmp name_cmp t u) _ _ (either (key_rank_of k == key_rank_of j) _ _ (yes _) (record { fine = tt })) (yes _)
no_sizes s l (NewColumn t c x) (NewColumn u d y) f g = either (eq_by_cmp name_cmp t u && eq_by_cmp name_cmp c d) _ _ (either (same_column x y) _ _ (yes _) (record { fine = tt })) (yes _)
no_sizes s l (Create o) (Erase p) f g = either (eq_by_cmp object_cmp o p) _ _ (yes _) (yes _)
no_sizes s l (Erase o) (Create p) f g = either (eq_by_cmp object_cmp o p) _ _ (yes _) (yes _)
no_sizes s l (Erase o) (Erase p) f g = either (eq_by_cmp object_cmp o p) _ _ (yes _) (yes _)
no_sizes s l (Erase o) (Change q e) f g = either (eq_by_cmp object_cmp o q.0) _ _ (yes _) (yes _)
no_sizes s l (Change q e) (Erase o) f g = either (eq_by_cmp object_cmp q.0 o) _ _ (yes _) (yes _)
no_sizes s l (Change p e) (Change q k) f g =
    elim (eq_by_cmp path_cmp p q) as (λ b. eq_by_cmp path_cmp p q ≡ b → NoSizes (rule l (Change p e) (Change q k))) [
      | true ↦ λ h.
          let was = prior_of e (cell_at s p.0 p.1) f.prior in
          let same : p ≡ q = tied_is path_exact p q h in
          let g2 : FoundCell s p k = subst (λ (r : CellPath). FoundCell s r k) (sym same) g in
          subst NoSizes (sym (changes_there l p q e k h same)) (lifted_fine p (rule_of_edits l e k) (edits_fine l e k was.0 was.2 (prior_is s p k was.0 was.1 g2)))
      | false ↦ λ h. subst NoSizes (sym (changes_apart l p q e k h)) (yes _)
    ] refl
no_sizes s l a b f g = (yes _)
