-- What finds no rival passes.
use Rattle.std.proofs.Common.{◌≡◌, Bool, true, false, not, ◌||◌, List, [], ◌∷◌, Option, Some, None, Result, Ok, Err, refl, sym, ap, subst}
use Rattle.std.specs.Prelude.{IfOk}
use Rattle.sync_data.specs.declared.instr.Instr.{Instr}
use Rattle.sync_base.specs.declared.answers.Mismatch.{Mismatch}
use Rattle.sync_base.specs.declared.answers.Outcome.{Outcome}
use Rattle.sync_base.specs.Rules.{meeting}
use Rattle.sync_theory.specs.Changesets.{Changeset, is_later}
use Rattle.sync_law.specs.Instrs.{as_pair, meet}
use Rattle.sync_index.specs.Touched.{Apart}
use Rattle.sync_rivals.specs.Homes.{Place, eraser, first_rival, second_rival}
use Rattle.sync_rivals.specs.Strangers.{place_of, IsFoundBy, FindsNoRival, IsAt}
use Rattle.sync_rivals.specs.Lemmas.Strangers.{strangers_stay}
use Rattle.sync_rivals.specs.Lemmas.Homes.{homes_stay}
use Rattle.slot_law.specs.Slots.{Slot, Meets, meets_in, Passes, PassesOthers, InClass, ok_pair, turned, on_left, on_right}
use Rattle.slot_law.specs.Steps.{finds_none, IsFoundIn, OthersFound, RivalsPass}

some_is : {A : Type 0} {x y : A} → Some x ≡ Some y → x ≡ y
some_is e = cc

none_of : (x y z : Bool) → not (x || (y || z)) ≡ true → (x ≡ false) × (y ≡ false) × (z ≡ false)
none_of true y z e = cc
none_of false true z e = cc
none_of false false true e = cc
none_of false false false e = (refl, refl, refl)

module _ (test : Place → Bool) where
  finds_no_rival : (b : Instr) → finds_none test b ≡ true → FindsNoRival test b
  finds_no_rival b h = let p = none_of (test (eraser (place_of b))) (test (first_rival (place_of b))) (test (second_rival (place_of b))) h in (p.0, (p.1, (p.2, tt)))

  still_none : (b : Instr) (y : Option Instr) → IsAt (place_of b) y → finds_none test b ≡ true → InClass (finds_none test) y
  still_none b None k h = tt
  still_none b (Some c) k h = subst (λ p. not (test (eraser p) || (test (first_rival p) || test (second_rival p))) ≡ true) (sym k) h

  -- ---- on the left
  left_stays : (a b : Instr) (x y : Option Instr) (m : Result Outcome Mismatch) → IfOk m (λ o. IsAt (place_of a) o.left × IsAt (place_of b) o.right) → finds_none test b ≡ true → ok_pair (as_pair m) ≡ Some (x, y) → InClass (finds_none test) y
  left_stays a b x y (Ok o) k h e = let f = some_is e in subst (InClass (finds_none test)) (ap (λ (w : Option Instr × Option Instr). w.1) f) (still_none b o.right k.1 h)
  left_stays a b x y (Err m) k h e = cc

  right_stays : (a b : Instr) (x y : Option Instr) (m : Result Outcome Mismatch) → IfOk m (λ o. IsAt (place_of b) o.left × IsAt (place_of a) o.right) → finds_none test b ≡ true → turned (as_pair m) ≡ Some (x, y) → InClass (finds_none test) y
  right_stays a b x y (Ok o) k h e = let f = some_is e in subst (InClass (finds_none test)) (ap (λ (w : Option Instr × Option Instr). w.1) f) (still_none b o.left k.0 h)
  right_stays a b x y (Err m) k h e = cc

  module _ (side : Meets (Changeset Instr) Instr) (passes : (s : Slot (Changeset Instr) Instr) → IsFoundIn test s.1 → Passes side (finds_none test) s) where
    all_pass : (ms : List Bool) (ss : List (Slot (Changeset Instr) Instr)) → OthersFound test ms ss → PassesOthers side (finds_none test) ms ss
    all_pass [] [] h = tt
    all_pass [] (s ∷ ss) h = (passes s h.0, all_pass [] ss h.1)
    all_pass (m ∷ ms) [] h = tt
    all_pass (true ∷ ms) (s ∷ ss) h = all_pass ms ss h
    all_pass (false ∷ ms) (s ∷ ss) h = (passes s h.0, all_pass ms ss h.1)

  apart : (a b : Instr) → IsFoundBy test a → finds_none test b ≡ true → Apart b a
  apart a b f h = strangers_stay b a test (finds_no_rival b h) f

  pass_left : (e : Changeset Instr) (t : Changeset Instr) (x : Option Instr) → IsFoundIn test x → (b : Instr) → finds_none test b ≡ true → meets_in (on_left meet e) t x (Some b) ≡ Some (x, Some b)
  pass_left e t None f b h = refl
  pass_left e t (Some a) f b h = ap (λ m. ok_pair (as_pair m)) ((apart a b f h (is_later t e)).1)

  pass_right : (e : Changeset Instr) (t : Changeset Instr) (x : Option Instr) → IsFoundIn test x → (b : Instr) → finds_none test b ≡ true → meets_in (on_right meet e) t x (Some b) ≡ Some (x, Some b)
  pass_right e t None f b h = refl
  pass_right e t (Some a) f b h = ap (λ m. turned (as_pair m)) ((apart a b f h (is_later e t)).0)

pub pass_on_left : RivalsPass (on_left meet)
pass_on_left e test = (λ t a b x y h k. left_stays test a b x y (meeting a b (is_later t e)) (homes_stay a b (is_later t e)) h k, λ ms ss f. all_pass test (on_left meet e) (λ s g b h. pass_left test e s.0 s.1 g b h) ms ss f)

pub pass_on_right : RivalsPass (on_right meet)
pass_on_right e test = (λ t a b x y h k. right_stays test a b x y (meeting b a (is_later e t)) (homes_stay b a (is_later e t)) h k, λ ms ss f. all_pass test (on_right meet e) (λ s g b h. pass_right test e s.0 s.1 g b h) ms ss f)
