-- What was carried over the entries from a place on was carried over those from a base on.
use Rattle.std.proofs.Common.{◌≡◌, ℕ, List, Result, Ok, Err, IfOk, IfErr, sym, ap, ◌∙◌, subst}
use Rattle.sync_data.specs.Payload.{Changes}
use Rattle.sync_data.specs.declared.instr.Instr.{Instr}
use Rattle.sync_theory.specs.Changesets.{Changeset, cross_sets}
use Rattle.sync_theory.specs.Grid.{carry}
use Rattle.sync_theory.specs.Reciprocals.{from_base}
use Rattle.sync_law.specs.Instrs.{meet}
use Rattle.sync_transform.specs.Sets.{made_by}
use Rattle.sync_recip.specs.declared.refusal.RecipRefusal.{RecipRefusal}
use Rattle.sync_recip.specs.Carrying.{Carrying, AllFit, crossed_entries, Fits, entries_of, IsStuckBy}

module _ (own base : ℕ) (c : Changes) (list : List (ℕ × Changeset Instr)) (es : List (Changeset Instr)) (is : from_base base list ≡ es) where
  pub carried_over : (r : Result Carrying RecipRefusal) → IfOk r (λ d. d.base ≡ base)
      → IfOk r (λ d. (number : ℕ) → carry (cross_sets meet) (made_by own number c) es ≡ Ok (made_by own number d.changes, crossed_entries d.crossed es))
      → IfOk r (λ d. (number : ℕ) → carry (cross_sets meet) (made_by own number c) (from_base base list) ≡ Ok (made_by own number d.changes, entries_of d list))
  carried_over (Ok d) b h = λ number.
      ap (carry (cross_sets meet) (made_by own number c)) is ∙ h number
      ∙ ap (λ l. Ok (made_by own number d.changes, crossed_entries d.crossed l)) (sym is ∙ ap (λ n. from_base n list) (sym b))
  carried_over (Err e) b h = tt

  pub carried_fits : (r : Result Carrying RecipRefusal) → IfOk r (λ d. d.base ≡ base) → IfOk r (λ d. AllFit d.crossed es) → IfOk r (λ d. Fits d list)
  carried_fits (Ok d) b h = subst (AllFit d.crossed) (sym is ∙ ap (λ n. from_base n list) (sym b)) h
  carried_fits (Err e) b h = tt

  pub carried_stuck : (r : Result Carrying RecipRefusal) → IfErr r (λ e. (number : ℕ) → IsStuckBy e (carry (cross_sets meet) (made_by own number c) es))
      → IfErr r (λ e. (number : ℕ) → IsStuckBy e (carry (cross_sets meet) (made_by own number c) (from_base base list)))
  carried_stuck (Ok d) h = tt
  carried_stuck (Err e) h = λ number. subst (λ l. IsStuckBy e (carry (cross_sets meet) (made_by own number c) l)) (sym is) (h number)
