-- One ident that changes among all.
use Rattle.std.proofs.Common.{◌≡◌, ◌≢◌, ℕ, zero, suc, ◌+◌, ◌-◌, ◌<◌, ◌==◌, Bool, true, false, List, [], ◌∷◌, length, get_or, set, if◌then◌else◌, refl, sym, ap, ◌∙◌, arith, All, subst}
use Rattle.std.proofs.lemmas.Bool.{eq-eqb, ne_eqb}
use Rattle.std.proofs.lemmas.List.{set-get_or}
use Rattle.std.proofs.lemmas.List.Elements.{All-nil}
use Rattle.sync_data.specs.declared.instr.Instr.{Instr}
use Rattle.sync_model.specs.Parts.{Given, given_up, idents_retired, marked}
use Rattle.server_memory.specs.History.{HistoryParts, IsHistory, IsReciprocal, AreGiven, len_of}
use Rattle.server_memory.proofs.Idents.{IsAt}
use Rattle.server_memory.proofs.Keeps.{all_to, given_at, settled_history}

chosen : (b : Bool) (x y : Given Instr) → b ≡ true → (if b then x else y) ≡ x
chosen true x y e = refl
chosen false x y e = cc

other : (b : Bool) (x y : Given Instr) → b ≡ false → (if b then x else y) ≡ y
other true x y e = cc
other false x y e = refl

-- where a list of idents is walked, and the one of number c changes
module _ (c : ℕ) (f : Given Instr → Given Instr) (walk : ℕ → List (Given Instr) → List (Given Instr)) (ends : (k : ℕ) → walk k [] ≡ [])
    (steps : (k : ℕ) (g : Given Instr) (gs : List (Given Instr)) → walk k (g ∷ gs) ≡ (if k == c then f g else g) ∷ walk (suc k) gs) where
  behind : (k : ℕ) (gs : List (Given Instr)) → c < k → walk k gs ≡ gs
  behind k [] h = ends k
  behind k (g ∷ gs) h = steps k g gs ∙ (λ i. other (k == c) (f g) g (ne_eqb k c (omega arith)) i ∷ behind (suc k) gs (omega arith) i)

  is_set : (j k : ℕ) (gs : List (Given Instr)) (d : Given Instr) → c ≡ k + j → j < length gs → set gs j (f (get_or gs j d)) ≡ walk k gs
  is_set j k [] d e h = absurd (omega arith)
  is_set zero k (g ∷ gs) d e h = sym (steps k g gs ∙ (λ i. chosen (k == c) (f g) g (eq-eqb k c (omega arith)) i ∷ behind (suc k) gs (omega arith) i))
  is_set (suc j) k (g ∷ gs) d e h =
      let rest = is_set j (suc k) gs d (omega arith) (omega arith) in
      sym (steps k g gs ∙ (λ i. other (k == c) (f g) g (ne_eqb k c (omega arith)) i ∷ sym rest i))

module _ (c : ℕ) (gs : List (Given Instr)) (g : Given Instr) (at : IsAt c gs g) where
  pub marked_is : (n : ℕ) (new : Given Instr) → new ≡ record g { mark = n } → set gs (c - 1) new ≡ marked c n 1 gs
  marked_is n new e =
      let place = at.positive in
      ap (set gs (c - 1)) (e ∙ ap (λ (d : Given Instr). record d { mark = n }) (at.here g)) ∙ is_set c (λ d. record d { mark = n }) (marked c n) (λ k. refl) (λ k d ds. refl) (c - 1) 1 gs g (omega arith) at.within

  pub retired_is : (by : ℕ) (new : Given Instr) → new ≡ given_up by g → set gs (c - 1) new ≡ idents_retired c by 1 gs
  retired_is by new e =
      let place = at.positive in
      ap (set gs (c - 1)) (e ∙ ap (given_up by) (at.here g)) ∙ is_set c (given_up by) (idents_retired c by) (λ k. refl) (λ k d ds. refl) (c - 1) 1 gs g (omega arith) at.within

  pub same_is : (new : Given Instr) → new ≡ g → set gs (c - 1) new ≡ gs
  same_is new e = ap (set gs (c - 1)) (e ∙ at.here g) ∙ set-get_or gs (c - 1) g

  -- what holds of the history stays
  module _ (h : HistoryParts) (same : h.idents ≡ gs) (was : IsHistory h) where
    at_place : All (IsReciprocal (len_of h) (1 + (c - 1))) g.reciprocal
    at_place =
        subst (λ (d : Given Instr). All (IsReciprocal (len_of h) (1 + (c - 1))) d.reciprocal) (sym (at.here g))
        (given_at (len_of h) 1 (c - 1) gs g at.within (subst (λ l. AreGiven (len_of h) 1 l) same was.idents))

    pub other_there : All (λ pair. pair.1.origin ≢ c) g.reciprocal
    other_there =
        let place = at.positive in
        let own : 1 + (c - 1) ≡ c = omega (arith, place) in
        all_to (IsReciprocal (len_of h) (1 + (c - 1))) (λ pair. pair.1.origin ≢ c) g.reciprocal (λ q r is. r.entry.other (is ∙ sym own)) at_place

    pub marked_keeps : (n : ℕ) (new : Given Instr) → new ≡ record g { mark = n } → IsHistory (record h { idents = set gs (c - 1) new })
    marked_keeps n new e =
        subst (λ l. IsHistory (record h { idents = set l (c - 1) new })) same
        (settled_history h h.entries h.bases (c - 1) new refl refl was (subst (λ (d : Given Instr). All (IsReciprocal (len_of h) (1 + (c - 1))) d.reciprocal) (sym e) at_place))

    pub retired_keeps : (by : ℕ) (new : Given Instr) → new ≡ given_up by g → IsHistory (record h { idents = set gs (c - 1) new })
    retired_keeps by new e =
        subst (λ l. IsHistory (record h { idents = set l (c - 1) new })) same
        (settled_history h h.entries h.bases (c - 1) new refl refl was (subst (λ (d : Given Instr). All (IsReciprocal (len_of h) (1 + (c - 1))) d.reciprocal) (sym e) (All-nil (IsReciprocal (len_of h) (1 + (c - 1))))))
