-- An entry that was carried over small changesets is small.
use Rattle.std.proofs.Common.{◌≡◌, ℕ, true, List, [], ◌∷◌, Result, Ok, Err, refl, ap, subst}
use Rattle.sync_theory.specs.Changesets.{Changeset}
use Rattle.sync_theory.specs.Grid.{rebase, rebase_one, rebase_put}
use Rattle.sync_model.specs.Profile.{Profile, Stuck, cross_changesets, is_small, Lawful}
use Rattle.sync_model.specs.Each.{and_each}
use Rattle.sync_model.proofs.Small.{SmallSets, sets_small}

module _ {I S : Type 0} (p : Profile I S) {Fits : S → Type 0} (law : Lawful p Fits) where
  pub entry_stays_small : (ps qs : List (Changeset I)) (e f : Changeset I) → SmallSets p ps → is_small p e.instrs ≡ true → rebase (cross_changesets p) ps e ≡ Ok (qs, f) → is_small p f.instrs ≡ true
  entry_stays_small [] qs e f s k is = let same : ◌≡◌ {A = List (Changeset I) × Changeset I} ([], e) (qs, f) = ok_is is in subst (λ (x : Changeset I). is_small p x.instrs ≡ true) (ap (λ (q : List (Changeset I) × Changeset I). q.1) same) k
    where
      ok_is : {x y : List (Changeset I) × Changeset I} → ◌≡◌ {A = Result (List (Changeset I) × Changeset I) (ℕ × Stuck)} (Ok x) (Ok y) → x ≡ y
      ok_is h = cc
  entry_stays_small (a ∷ ps) qs e f (and_each s ss) k is = go (cross_changesets p a e) refl is (λ rs g small h. entry_stays_small ps rs g f ss small h)
    where
      ok_is : {x y : List (Changeset I) × Changeset I} → ◌≡◌ {A = Result (List (Changeset I) × Changeset I) (ℕ × Stuck)} (Ok x) (Ok y) → x ≡ y
      ok_is h = cc

      put : (x : Changeset I) (r : Result (List (Changeset I) × Changeset I) (ℕ × Stuck)) → rebase_put x r ≡ Ok (qs, f) → (rs : List (Changeset I)) × (r ≡ Ok (rs, f))
      put x (Err m) h = cc
      put x (Ok q) h = let same : ◌≡◌ {A = List (Changeset I) × Changeset I} (x ∷ q.0, q.1) (qs, f) = ok_is h in (q.0, ap (λ (y : Changeset I). Ok (q.0, y)) (ap (λ (z : List (Changeset I) × Changeset I). z.1) same))

      go : (r : Result (Changeset I × Changeset I) Stuck) → cross_changesets p a e ≡ r → rebase_one r (λ g. rebase (cross_changesets p) ps g) ≡ Ok (qs, f)
          → ((rs : List (Changeset I)) (g : Changeset I) → is_small p g.instrs ≡ true → rebase (cross_changesets p) ps g ≡ Ok (rs, f) → is_small p f.instrs ≡ true) → is_small p f.instrs ≡ true
      go (Err m) c h rest = cc
      go (Ok q) c h rest = let t = put q.0 (rebase (cross_changesets p) ps q.1) h in rest t.0 q.1 ((sets_small p law a e q.0 q.1 c).right s k) t.1
