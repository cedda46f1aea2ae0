-- The objects of a server that wrote its own file can be built, as its state at the floor can.
use Rattle.std.proofs.Common.{◌≡◌, ℕ, ◌≤◌, Bool, true, false, List, [], ◌∷◌, ◌++◌, Option, None, Some, Result, Ok, Err, ap, subst, sym, ◌∙◌, arith, refl, if◌then◌else◌, length, nat_le, sum_by}
use Rattle.std.proofs.lemmas.Bool.{leb-true}
use Rattle.sync_theory.specs.Changesets.{Changeset}
use Rattle.sync_model.specs.Each.{Each, and_each}
use Rattle.sync_model.specs.Files.{readable}
use Rattle.sync_model.specs.Fronts.{Grows, entry_read, entry_step, further_on, grows_on, numbers_on, walk, walk_on}
use Rattle.sync_model.specs.Parts.{Given, Parts, at_ident}
use Rattle.sync_model.specs.Profile.{Lawful, Profile, act_changeset}
use Rattle.sync_model.specs.Snapshots.{Buildable}
use Rattle.sync_model.proofs.Integrated.{allowed_old, old_each}
use Rattle.sync_model.proofs.Kept.{Kept_}
use Rattle.sync_model.proofs.Limits.{both}
use Rattle.sync_model.proofs.Stamps.{sets_law}
use Rattle.sync_model.proofs.Starting.{light_each, run_stays}
use Rattle.sync_model.proofs.Whole.{Writable, bare, kept_of}

module _ {I S : Type 0} (p : Profile I S) where
  -- what each entry keeps of a state holds behind all of them
  entries_keep : (second : Bool) (gs : List (Given I)) (P : S → Type 0) → ((x : Changeset I) (s t : S) → Writable p second x.instrs → P s → act_changeset p x s ≡ Some t → P t)
      → ((is : List I) → Writable p second is → readable p second (p.unspell (p.spell is)) ≡ Some is)
      → (xs : List (Changeset I)) (bs : List ℕ) (a z : Grows I S) → length bs ≡ length xs → Each (λ (x : Changeset I). Writable p second x.instrs) xs → walk (entry_step p second gs) a (kept_of p xs bs) ≡ Ok z → P a.objects → P z.objects
  entries_keep second gs P keeps read [] bs a z l w e h = let same : a ≡ z = cc in subst (λ (g : Grows I S). P g.objects) same h
  entries_keep second gs P keeps read (x ∷ xs) [] a z l w e h = absurd (omega arith)
  entries_keep second gs P keeps read (x ∷ xs) (b ∷ bs) a z l (and_each w ws) e h =
      step (numbers_on a.entries (record { origin = x.origin; number = x.number; base = b; ms = x.ms; body = p.spell x.instrs }) (at_ident x.origin gs)) (act_changeset p x a.objects) refl
      (subst (λ o. walk_on (if numbers_on a.entries (record { origin = x.origin; number = x.number; base = b; ms = x.ms; body = p.spell x.instrs }) (at_ident x.origin gs) then entry_read p a (record { origin = x.origin; number = x.number; base = b; ms = x.ms; body = p.spell x.instrs }) o else None) (λ y. further_on (walk (entry_step p second gs) y (kept_of p xs bs))) ≡ Ok z) (read x.instrs w) e)
      (λ y f g. entries_keep second gs P keeps read xs bs y z (omega arith) ws f g)
    where
      inner : (r : Result (Grows I S) ℕ) → further_on r ≡ Ok z → r ≡ Ok z
      inner (Ok a) f = f
      inner (Err n) f = cc

      step : (t : Bool) (o : Option S) → act_changeset p x a.objects ≡ o → walk_on (if t then grows_on a x b o else None) (λ y. further_on (walk (entry_step p second gs) y (kept_of p xs bs))) ≡ Ok z
          → ((y : Grows I S) → walk (entry_step p second gs) y (kept_of p xs bs) ≡ Ok z → P y.objects → P z.objects) → P z.objects
      step true (Some y) acts f rest = rest (record { objects = y; entries = a.entries ++ x ∷ []; bases = a.bases ++ b ∷ [] }) (inner (walk (entry_step p second gs) (record { objects = y; entries = a.entries ++ x ∷ []; bases = a.bases ++ b ∷ [] }) (kept_of p xs bs)) f) (keeps x a.objects y w h acts)
      step true None acts f rest = cc
      step false o acts f rest = cc

  module _ {Fits Bounded Old : S → Type 0} (law : Lawful p Fits) (built : Buildable p Fits Bounded Old) (kept : Parts I S) (k : Kept_ p law built kept) where
    holds_behind : (P : S → Type 0) → ((x : Changeset I) (s t : S) → Writable p kept.second x.instrs → P s → act_changeset p x s ≡ Some t → P t) → P kept.below → P kept.objects
    holds_behind P keeps h =
        entries_keep kept.second (Rattle.std.proofs.Common.map bare kept.idents) P keeps (λ is w. ap (readable p kept.second) (law.spelled is w.small) ∙ w.allowed) kept.entries kept.bases
        (record { objects = kept.below; entries = []; bases = [] }) (record { objects = kept.objects; entries = kept.entries; bases = kept.bases }) k.sound.spans.bases k.sound.lists k.sound.entries h

    pub objects_fit : Fits kept.objects
    objects_fit = holds_behind Fits (λ x s t w h e. (sets_law p law).keeps x s t h e) k.based.fits

    pub objects_bounded : Bounded kept.objects
    objects_bounded = holds_behind Bounded (λ x s t w h e. run_stays p law built Bounded (λ i. p.weight i ≤ p.most_weight) built.keeps x.instrs s t (light_each p law built x.instrs (leb-true (sum_by p.weight x.instrs) p.most_weight (both (nat_le (length x.instrs) p.most_instrs) (nat_le (sum_by p.weight x.instrs) p.most_weight) w.small).1)) h e) k.based.bounded

    pub objects_old : kept.second ≡ false → Old kept.objects
    objects_old form = holds_behind Old (λ x s t w h e. run_stays p law built Old (λ i. p.needs_second i ≡ false) built.keeps_old x.instrs s t (old_each p law built x.instrs (allowed_old p law built x.instrs (ap (λ b. readable p b (Ok x.instrs)) (sym form) ∙ w.allowed))) h e) (k.based.old form)
