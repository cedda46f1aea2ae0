-- Unsent changesets of a stretch meet an action, one after the other.
use Rattle.std.proofs.Common.{◌≡◌, ℕ, zero, suc, ◌+◌, ◌-◌, ◌<◌, not, List, [], ◌∷◌, Option, Some, None, refl, sym, ap, subst, length, drop, set, get_or, arith}
use Rattle.sync_data.specs.declared.instr.Instr.{Instr}
use Rattle.sync_data.specs.declared.entry.Stamp.{Stamp}
use Rattle.sync_theory.specs.Changesets.{later_stamp}
use Rattle.sync_model.specs.Clients.{Unsent}
use Rattle.list_places.specs.Moves.{action_in}
use Rattle.list_places.specs.declared.moves.ListAction.{ListAction}
use Rattle.list_lane.specs.Actions.{own_left, other_left}
use Rattle.sync_rebase.specs.Settling.{passed, Meets, CanPass}
use Rattle.sync_rebase.specs.Stretches.{from_place}

abbrev pub met : ℕ → Stamp → ListAction → Unsent Instr → Unsent Instr
met own s b u = record u { current = own_left (later_stamp u.original.ms own s.ms s.ident) (action_in u.current) b u.current }

abbrev pub met_other : ℕ → Stamp → ListAction → Unsent Instr → Option ListAction
met_other own s b u = other_left (not (later_stamp u.original.ms own s.ms s.ident)) (action_in u.current) b

module _ (own : ℕ) (s : Stamp) where
  pub passed_none : (i k : ℕ) (us : List (Unsent Instr)) → from_place i (passed own s k None) us ≡ us
  passed_none zero k us = refl
  passed_none (suc i) k [] = refl
  passed_none (suc i) k (u ∷ us) = ap (λ l. u ∷ l) (passed_none i k us)

  none_left : (b : Option ListAction) (us : List (Unsent Instr)) → passed own s 0 b us ≡ us
  none_left None us = refl
  none_left (Some b) us = refl

  pub passed_zero : (i : ℕ) (b : Option ListAction) (us : List (Unsent Instr)) → from_place i (passed own s 0 b) us ≡ us
  passed_zero zero b us = none_left b us
  passed_zero (suc i) b [] = refl
  passed_zero (suc i) b (u ∷ us) = ap (λ l. u ∷ l) (passed_zero i b us)

  pub can_within : (i k : ℕ) (b : ListAction) (us : List (Unsent Instr)) → 0 < k → CanPass own s k (Some b) (drop i us) → i < length us
  can_within i zero b us p h = absurd (omega (arith, p))
  can_within zero (suc k) b [] p h = absurd h
  can_within zero (suc k) b (u ∷ us) p h = omega arith
  can_within (suc i) (suc k) b [] p h = absurd h
  can_within (suc i) (suc k) b (u ∷ us) p h = let l = can_within i (suc k) b us p h in omega (arith, l)

  pub can_first : (i k : ℕ) (b : ListAction) (us : List (Unsent Instr)) (u : Unsent Instr) → 0 < k → CanPass own s k (Some b) (drop i us) → u ≡ get_or us i u → Meets u b
  can_first i zero b us u p h e = absurd (omega (arith, p))
  can_first zero (suc k) b [] u p h e = absurd h
  can_first zero (suc k) b (v ∷ us) u p h e = subst (λ w. Meets w b) (sym e) h.0
  can_first (suc i) (suc k) b [] u p h e = absurd h
  can_first (suc i) (suc k) b (v ∷ us) u p h e = can_first i (suc k) b us u p h e

  can_on : (i k : ℕ) (b : ListAction) (us : List (Unsent Instr)) (u v : Unsent Instr) → CanPass own s (suc k) (Some b) (drop i us) → u ≡ get_or us i u → CanPass own s k (met_other own s b u) (drop (suc i) (set us i v))
  can_on zero k b [] u v h e = absurd h
  can_on zero k b (w ∷ us) u v h e = subst (λ x. CanPass own s k (met_other own s b x) us) (sym e) h.1
  can_on (suc i) k b [] u v h e = absurd h
  can_on (suc i) k b (w ∷ us) u v h e = can_on i k b us u v h e

  pub can_step : (i k : ℕ) (b : ListAction) (us : List (Unsent Instr)) (u v : Unsent Instr) (o : Option ListAction) → 0 < k → CanPass own s k (Some b) (drop i us) → u ≡ get_or us i u → o ≡ met_other own s b u → CanPass own s (k - 1) o (drop (i + 1) (set us i v))
  can_step i zero b us u v o p h e f = absurd (omega (arith, p))
  can_step i (suc k) b us u v o p h e f =
      let n : suc k - 1 ≡ k = omega arith in
      let m : i + 1 ≡ suc i = omega arith in
      rw (n, m, f) (can_on i k b us u v h e)

  passed_on : (i k : ℕ) (b : ListAction) (us : List (Unsent Instr)) (u : Unsent Instr) → i < length us → u ≡ get_or us i u
      → from_place (suc i) (passed own s k (met_other own s b u)) (set us i (met own s b u)) ≡ from_place i (passed own s (suc k) (Some b)) us
  passed_on i k b [] u l e = absurd (omega (arith, l))
  passed_on zero k b (w ∷ us) u l e = ap (λ x. met own s b x ∷ passed own s k (met_other own s b x) us) e
  passed_on (suc i) k b (w ∷ us) u l e = ap (λ t. w ∷ t) (passed_on i k b us u (omega (arith, l)) e)

  pub passed_step : (i k : ℕ) (b : ListAction) (us : List (Unsent Instr)) (u v : Unsent Instr) (o : Option ListAction) → 0 < k → i < length us → u ≡ get_or us i u → v ≡ met own s b u → o ≡ met_other own s b u
      → from_place (i + 1) (passed own s (k - 1) o) (set us i v) ≡ from_place i (passed own s k (Some b)) us
  passed_step i zero b us u v o p l e g f = absurd (omega (arith, p))
  passed_step i (suc k) b us u v o p l e g f =
      let n : suc k - 1 ≡ k = omega arith in
      let m : i + 1 ≡ suc i = omega arith in
      rw (n, m, g, f) (passed_on i k b us u l e)
