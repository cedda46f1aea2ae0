-- What an index says of the instructions that it knows of.
use Rattle.std.specs.Prelude.{◌≡◌, true, false, cond, List, [], ◌∷◌, Option, None, Some, refl}
use Rattle.std.proofs.Common.{sym, ◌∙◌, ap}
use Rattle.std.specs.Ordering.{eq_by_cmp}
use Rattle.sync_data.specs.declared.instr.Instr.{Instr}
use Rattle.sync_base.specs.Effects.{ObjectName, effect_of}
use Rattle.sync_base.specs.States.{object_cmp}
use Rattle.sync_base.specs.Objects.{object_of, are_apart}
use Rattle.sync_base.specs.Lemmas.Looks.{object_exact}
use Rattle.sync_base.specs.Lemmas.Maps.{tied_is}
use Rattle.sync_base.specs.Lemmas.Objects.{apart_stay}
use Rattle.sync_index.specs.Touched.{Touched, has_object, touches, may_touch, Covers, Apart, ApartFromAll}

-- ---- what is apart
are_two : (t : Touched) (o p : Option ObjectName) → touches t o ≡ false → touches t p ≡ true → are_apart o p ≡ true
are_two t None None e f = cc
are_two t None (Some p) e f = refl
are_two t (Some o) None e f = refl
are_two t (Some o) (Some p) e f =
    elim (eq_by_cmp object_cmp o p) as (λ b. eq_by_cmp object_cmp o p ≡ b → cond b false true ≡ true) [
      | true ↦ λ h. let same = ap (has_object t) (tied_is object_exact o p h) in cc
      | false ↦ λ _. refl
    ] refl

turned : (o p : Option ObjectName) → are_apart o p ≡ true → are_apart p o ≡ true
turned None None e = e
turned None (Some p) e = refl
turned (Some o) None e = refl
turned (Some o) (Some p) e =
    elim (eq_by_cmp object_cmp p o) as (λ b. eq_by_cmp object_cmp p o ≡ b → cond b false true ≡ true) [
      | true ↦ λ h.
          let same = tied_is object_exact p o h in
          ap (λ b. cond b false true) (sym h) ∙ ap (λ q. cond (eq_by_cmp object_cmp q o) false true) same ∙ sym (ap (λ q. cond (eq_by_cmp object_cmp o q) false true) same) ∙ e
      | false ↦ λ _. refl
    ] refl

pub apart : (t : Touched) (a b : Instr) → may_touch t a ≡ false → may_touch t b ≡ true → Apart a b
apart t a b e f later =
    let two = are_two t (object_of (effect_of a)) (object_of (effect_of b)) e f in
    (apart_stay a b later two, apart_stay b a later (turned (object_of (effect_of a)) (object_of (effect_of b)) two))

pub apart_from_all : (t : Touched) (a : Instr) (bs : List Instr) → may_touch t a ≡ false → Covers t bs → ApartFromAll a bs
apart_from_all t a [] e c = tt
apart_from_all t a (b ∷ bs) e c = (apart t a b e c.0, apart_from_all t a bs e c.1)
