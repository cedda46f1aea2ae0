-- What an index passes over stays.
use Rattle.std.proofs.Common.{◌≡◌, ℕ, Bool, List, [], ◌∷◌, Option, Some, None, Result, Ok, Err, refl, ap}
use Rattle.std.specs.Prelude.{IfSome}
use Rattle.sync_theory.specs.Lists.{row, met, rowed, cross}
use Rattle.sync_theory.specs.Changesets.{Changeset, is_later}
use Rattle.slot_law.specs.Slots.{Slot, meets_in, ok_pair, turned, on_left, on_right}
use Rattle.slot_law.specs.Laws.{SingleStays, AllStay, Skips}
use Rattle.slot_law.proofs.Through.{Through, end, next, through_is}

ok_is : {A E : Type 0} {x y : A} → ◌≡◌ {A = Result A E} (Ok x) (Ok y) → x ≡ y
ok_is e = cc

one_is : {A : Type 0} {x a : A} → x ∷ [] ≡ a ∷ [] → x ≡ a
one_is e = cc

no_one : {A B : Type 0} {a : A} → [] ≡ a ∷ [] → B
no_one e = cc

module _ {I M : Type 0} (meet : I → I → Result (Option I × Option I) M) where
  both_are : (a b x y : I) → ◌≡◌ {A = Result (List I × List I) (ℕ × ℕ × M)} (Ok (x ∷ [], y ∷ [])) (Ok (a ∷ [], b ∷ [])) → ◌≡◌ {A = Result (Option I × Option I) M} (Ok (Some x, Some y)) (Ok (Some a, Some b))
  both_are a b x y e =
      let p : (x ∷ [], y ∷ []) ≡ (a ∷ [], b ∷ []) = ok_is e in
      let f : x ≡ a = one_is (ap (λ (w : List I × List I). w.0) p) in
      let g : y ≡ b = one_is (ap (λ (w : List I × List I). w.1) p) in
      λ i. Ok (Some (f i), Some (g i))

  met_is : (a b : I) (r : Result (Option I × Option I) M) → rowed (met r (λ x. row meet x [])) (λ cs. cross meet [] cs) ≡ Ok (a ∷ [], b ∷ []) → r ≡ Ok (Some a, Some b)
  met_is a b (Err m) e = cc
  met_is a b (Ok p) e = go p.0 p.1 e
    where
      go : (x y : Option I) → rowed (met (Ok (x, y)) (λ x. row meet x [])) (λ cs. cross meet [] cs) ≡ Ok (a ∷ [], b ∷ []) → ◌≡◌ {A = Result (Option I × Option I) M} (Ok (x, y)) (Ok (Some a, Some b))
      go None None e = no_one (ap (λ (w : List I × List I). w.0) (ok_is e))
      go None (Some y) e = no_one (ap (λ (w : List I × List I). w.0) (ok_is e))
      go (Some x) None e = no_one (ap (λ (w : List I × List I). w.1) (ok_is e))
      go (Some x) (Some y) e = both_are a b x y e

  single_stays : (a b : I) → SingleStays meet a b → meet a b ≡ Ok (Some a, Some b)
  single_stays a b e = met_is a b (meet a b) e

module _ {I M : Type 0} (meet : I → I → Bool → Result (Option I × Option I) M) (e : Changeset I) (b : I) where
  left_one : (t : Changeset I) (x : Option I) → IfSome x (λ a. (later : Bool) → SingleStays (λ x y. meet x y later) a b × SingleStays (λ x y. meet x y later) b a) → meets_in (on_left meet e) t x (Some b) ≡ Some (x, Some b)
  left_one t None h = refl
  left_one t (Some a) h = ap ok_pair (single_stays (λ x y. meet x y (is_later t e)) a b ((h (is_later t e)).0))

  right_one : (t : Changeset I) (x : Option I) → IfSome x (λ a. (later : Bool) → SingleStays (λ x y. meet x y later) a b × SingleStays (λ x y. meet x y later) b a) → meets_in (on_right meet e) t x (Some b) ≡ Some (x, Some b)
  right_one t None h = refl
  right_one t (Some a) h = ap turned (single_stays (λ x y. meet x y (is_later e t)) b a ((h (is_later e t)).1))

  skip_left : (ss : List (Slot (Changeset I) I)) → AllStay meet ss b → Through (on_left meet e) ss (Some b) ss (Some b)
  skip_left [] h = end
  skip_left (s ∷ ss) h = next (left_one s.0 s.1 h.0) (skip_left ss h.1)

  skip_right : (ss : List (Slot (Changeset I) I)) → AllStay meet ss b → Through (on_right meet e) ss (Some b) ss (Some b)
  skip_right [] h = end
  skip_right (s ∷ ss) h = next (right_one s.0 s.1 h.0) (skip_right ss h.1)

pub skips : {I M : Type 0} (meet : I → I → Bool → Result (Option I × Option I) M) → Skips meet
skips meet e ss b h = (through_is (on_left meet e) (skip_left meet e b ss h), through_is (on_right meet e) (skip_right meet e b ss h))
