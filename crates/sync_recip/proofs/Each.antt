-- Entries of a stretch meet an action, one after the other.
use Rattle.std.proofs.Common.{◌≡◌, ℕ, zero, suc, ◌+◌, ◌-◌, ◌<◌, not, List, [], ◌∷◌, Option, Some, None, refl, sym, ap, ◌∙◌, subst, length, drop, set, get_or, map, arith}
use Rattle.sync_data.specs.declared.instr.Instr.{Instr}
use Rattle.sync_data.specs.declared.entry.Stamp.{Stamp}
use Rattle.sync_theory.specs.Changesets.{Changeset}
use Rattle.list_places.specs.Moves.{action_in}
use Rattle.list_places.specs.declared.moves.ListAction.{ListAction}
use Rattle.list_lane.specs.Actions.{own_left, other_left}
use Rattle.sync_recip.specs.Passing.{change_later, passed, Meets, CanPass}
use Rattle.sync_recip.specs.Stretches.{from_place}

abbrev pub met : Stamp → ListAction → Changeset Instr → Changeset Instr
met s b u = record u { instrs = own_left (not (change_later s u)) (action_in u.instrs) b u.instrs }

abbrev pub met_other : Stamp → ListAction → Changeset Instr → Option ListAction
met_other s b u = other_left (change_later s u) (action_in u.instrs) b

module _ (s : Stamp) where
  pub passed_none : (i k : ℕ) (us : List (Changeset Instr)) → from_place i (passed s k None) us ≡ us
  passed_none zero k us = refl
  passed_none (suc i) k [] = refl
  passed_none (suc i) k (u ∷ us) = ap (λ l. u ∷ l) (passed_none i k us)

  none_left : (b : Option ListAction) (us : List (Changeset Instr)) → passed s 0 b us ≡ us
  none_left None us = refl
  none_left (Some b) us = refl

  pub passed_zero : (i : ℕ) (b : Option ListAction) (us : List (Changeset Instr)) → from_place i (passed s 0 b) us ≡ us
  passed_zero zero b us = none_left b us
  passed_zero (suc i) b [] = refl
  passed_zero (suc i) b (u ∷ us) = ap (λ l. u ∷ l) (passed_zero i b us)

  pub can_within : (i k : ℕ) (b : ListAction) (us : List (Changeset Instr)) → 0 < k → CanPass s k (Some b) (drop i us) → i < length us
  can_within i zero b us p h = absurd (omega (arith, p))
  can_within zero (suc k) b [] p h = absurd h
  can_within zero (suc k) b (u ∷ us) p h = omega arith
  can_within (suc i) (suc k) b [] p h = absurd h
  can_within (suc i) (suc k) b (u ∷ us) p h = let l = can_within i (suc k) b us p h in omega (arith, l)

  pub can_first : (i k : ℕ) (b : ListAction) (us : List (Changeset Instr)) (u : Changeset Instr) → 0 < k → CanPass s k (Some b) (drop i us) → u ≡ get_or us i u → Meets u.instrs b
  can_first i zero b us u p h e = absurd (omega (arith, p))
  can_first zero (suc k) b [] u p h e = absurd h
  can_first zero (suc k) b (v ∷ us) u p h e = subst (λ (w : Changeset Instr). Meets w.instrs b) (sym e) h.0
  can_first (suc i) (suc k) b [] u p h e = absurd h
  can_first (suc i) (suc k) b (v ∷ us) u p h e = can_first i (suc k) b us u p h e

  can_on : (i k : ℕ) (b : ListAction) (us : List (Changeset Instr)) (u v : Changeset Instr) → CanPass s (suc k) (Some b) (drop i us) → u ≡ get_or us i u → CanPass s k (met_other s b u) (drop (suc i) (set us i v))
  can_on zero k b [] u v h e = absurd h
  can_on zero k b (w ∷ us) u v h e = subst (λ x. CanPass s k (met_other s b x) us) (sym e) h.1
  can_on (suc i) k b [] u v h e = absurd h
  can_on (suc i) k b (w ∷ us) u v h e = can_on i k b us u v h e

  pub can_step : (i k : ℕ) (b : ListAction) (us : List (Changeset Instr)) (u v : Changeset Instr) (o : Option ListAction) → 0 < k → CanPass s k (Some b) (drop i us) → u ≡ get_or us i u → o ≡ met_other s b u → CanPass s (k - 1) o (drop (i + 1) (set us i v))
  can_step i zero b us u v o p h e f = absurd (omega (arith, p))
  can_step i (suc k) b us u v o p h e f =
      let n : suc k - 1 ≡ k = omega arith in
      let m : i + 1 ≡ suc i = omega arith in
      rw (n, m, f) (can_on i k b us u v h e)

  passed_on : (i k : ℕ) (b : ListAction) (us : List (Changeset Instr)) (u : Changeset Instr) → i < length us → u ≡ get_or us i u
      → from_place (suc i) (passed s k (met_other s b u)) (set us i (met s b u)) ≡ from_place i (passed s (suc k) (Some b)) us
  passed_on i k b [] u l e = absurd (omega (arith, l))
  passed_on zero k b (w ∷ us) u l e = ap (λ x. met s b x ∷ passed s k (met_other s b x) us) e
  passed_on (suc i) k b (w ∷ us) u l e = ap (λ t. w ∷ t) (passed_on i k b us u (omega (arith, l)) e)

  pub passed_step : (i k : ℕ) (b : ListAction) (us : List (Changeset Instr)) (u v : Changeset Instr) (o : Option ListAction) → 0 < k → i < length us → u ≡ get_or us i u → v ≡ met s b u → o ≡ met_other s b u
      → from_place (i + 1) (passed s (k - 1) o) (set us i v) ≡ from_place i (passed s k (Some b)) us
  passed_step i zero b us u v o p l e g f = absurd (omega (arith, p))
  passed_step i (suc k) b us u v o p l e g f =
      let n : suc k - 1 ≡ k = omega arith in
      let m : i + 1 ≡ suc i = omega arith in
      rw (n, m, g, f) (passed_on i k b us u l e)

-- ---- entries by the places of the kept ones
pub map_get : {A B : Type 0} (f : A → B) (xs : List A) (i : ℕ) (x : A) → x ≡ get_or xs i x → f x ≡ get_or (map f xs) i (f x)
map_get f [] i x e = refl
map_get f (y ∷ xs) zero x e = ap f e
map_get f (y ∷ xs) (suc i) x e = map_get f xs i x e

pub map_set : {A B : Type 0} (f : A → B) (xs : List A) (i : ℕ) (x : A) → map f (set xs i x) ≡ set (map f xs) i (f x)
map_set f [] i x = refl
map_set f (y ∷ xs) zero x = refl
map_set f (y ∷ xs) (suc i) x = ap (λ l. f y ∷ l) (map_set f xs i x)

pub map_set_same : {A B : Type 0} (f : A → B) (xs : List A) (i : ℕ) (x y : A) → x ≡ get_or xs i x → f y ≡ f x → map f (set xs i y) ≡ map f xs
map_set_same f [] i x y e h = refl
map_set_same f (z ∷ xs) zero x y e h = ap (λ v. v ∷ map f xs) (h ∙ ap f e)
map_set_same f (z ∷ xs) (suc i) x y e h = ap (λ l. f z ∷ l) (map_set_same f xs i x y e h)
