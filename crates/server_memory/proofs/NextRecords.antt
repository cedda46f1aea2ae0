-- One entry more, or one that was crossed.
use Rattle.std.proofs.Common.{◌≡◌, ℕ, zero, suc, ◌-◌, ◌<◌, ◌≤◌, ◌==◌, Bool, true, false, not, ◌&&◌, List, [], ◌∷◌, length, Option, Some, None, if◌then◌else◌, nat_le, refl, ap, ◌∙◌, arith}
use Rattle.std.specs.Prelude.{bytes_eq, max}
use Rattle.std.proofs.lemmas.Bool.{le-leb, leb-true}
use Rattle.sync_theory.specs.Changesets.{Changeset}
use Rattle.sync_model.specs.Files.{readable}
use Rattle.sync_model.specs.Fronts.{Crossed, Grows, Kept, entry_read, entry_step, grows_on, is_crossed, numbers_on}
use Rattle.sync_model.specs.Parts.{Given, at_ident}
use Rattle.sync_model.specs.Profile.{Profile, act_changeset}
use Rattle.sync_model.specs.Trims.{is_live}
use Rattle.sync_model.specs.Worlds.{at}

at_within : {A : Type 0} (xs : List A) (n : ℕ) (x : A) → at xs n ≡ Some x → n < length xs
at_within [] n x e = cc
at_within (y ∷ xs) zero x e = omega arith
at_within (y ∷ xs) (suc n) x e = let r = at_within xs n x e in omega (arith, r)

both_true : (s t : Bool) → (s && t) ≡ true → (s ≡ true) × (t ≡ true)
both_true true t e = (refl, e)
both_true false t e = cc

module _ {I S : Type 0} (p : Profile I S) (second : Bool) (gs : List (Given I)) where
  -- ---- an entry
  -- whose numbers are those of an ident that is given
  pub numbers_hold : (xs : List (Changeset I)) (e : Kept) → numbers_on xs e (at_ident e.origin gs) ≡ true → (1 ≤ e.origin) × (e.origin ≤ length gs) × (1 ≤ e.number)
  numbers_hold xs e h = on e.origin (at_ident e.origin gs) refl h
    where
      on : (c : ℕ) (o : Option (Given I)) → at_ident c gs ≡ o → numbers_on xs e o ≡ true → (1 ≤ c) × (c ≤ length gs) × (1 ≤ e.number)
      on c None is f = cc
      on zero (Some g) is f = cc
      on (suc c) (Some g) is f =
          let lt = at_within gs c g is in
          let one = leb-true 1 e.number (both_true (nat_le 1 e.number) (nat_le e.number g.count) (both_true (nat_le 1 e.number && nat_le e.number g.count) _ f).0).0 in
          (omega arith, omega (arith, lt), one)

  module _ (st : Grows I S) (e : Kept) where
    module _ (next : numbers_on st.entries e (at_ident e.origin gs) ≡ true) where
      pub entry_acts : (is : List I) → readable p second (p.unspell e.body) ≡ Some is
          → entry_step p second gs st e ≡ grows_on st (record { origin = e.origin; number = e.number; ms = e.ms; instrs = is }) e.base (act_changeset p (record { origin = e.origin; number = e.number; ms = e.ms; instrs = is }) st.objects)
      entry_acts is h = ap (λ t. if t then entry_read p st e (readable p second (p.unspell e.body)) else None) next ∙ ap (entry_read p st e) h

  -- ---- one that was crossed
  module _ (floor : ℕ) (xs : List (Changeset I)) (e : Crossed) where
    abbrev pub may : Bool
    may = nat_le floor e.version && is_crossed p floor e (at_ident e.ident gs) (at xs (e.version - floor))

    abbrev pub told : Option (List I)
    told = if may then readable p second (p.unspell e.body) else None

    untold : may ≡ false → told ≡ None
    untold h = ap (λ t. if t then readable p second (p.unspell e.body) else None) h

    module _ (g : Given I) (given : at_ident e.ident gs ≡ Some g) where
      module _ (x : Changeset I) (is : at xs (e.version - floor) ≡ Some x) (above : floor ≤ e.version) where
        abbrev pub can : Bool
        can = is_live g && (nat_le (max floor g.last) e.version && (not (x.origin == e.ident) && (e.ms == x.ms)))

        abbrev other : Bool
        other = not (bytes_eq e.body (p.spell x.instrs))

        may_is : may ≡ (can && other)
        may_is =
            ap (λ o. nat_le floor e.version && is_crossed p floor e o (at xs (e.version - floor))) given
            ∙ ap (λ o. nat_le floor e.version && is_crossed p floor e (Some g) o) is
            ∙ ap (λ t. t && is_crossed p floor e (Some g) (Some x)) (le-leb floor e.version above)
            ∙ on (is_live g) (nat_le (max floor g.last) e.version) (not (x.origin == e.ident)) (e.ms == x.ms)
          where
            on : (a b c d : Bool) → (a && (b && (c && (d && other)))) ≡ ((a && (b && (c && d))) && other)
            on false b c d = refl
            on true false c d = refl
            on true true false d = refl
            on true true true d = refl

        module _ (yes_ : can ≡ true) where
          pub told_same : other ≡ false → told ≡ None
          told_same h = untold (may_is ∙ ap (λ t. t && other) yes_ ∙ h)

          pub told_as : other ≡ true → told ≡ readable p second (p.unspell e.body)
          told_as h = ap (λ t. if t then readable p second (p.unspell e.body) else None) (may_is ∙ ap (λ t. t && other) yes_ ∙ h)
