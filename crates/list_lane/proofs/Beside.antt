-- Of two instructions the one before the other stands, and pushes the other; so do many.
use Rattle.std.proofs.Common.{◌≡◌, ℕ, ◌+◌, ◌-◌, ◌<◌, ◌≤◌, Bool, true, false, cond, not, ◌&&◌, ◌||◌, List, [], ◌∷◌, Option, Some, None, refl, sym, ap, ◌∙◌, ⊎_elim, le_refl, arith}
use Rattle.std.specs.Prelude.{◌==◌, nat_lt}
use Rattle.std.proofs.lemmas.Bool.{lt-ltb, le-ltb, le-leb, lt-leb, eq-eqb, ne_eqb, cases_lt, and_from, and_right, or_from, or_right}
use Rattle.sync_data.specs.declared.entry.Stamp.{Stamp}
use Rattle.list_places.specs.Places.{longer, place_after}
use Rattle.list_places.specs.declared.places.Does.{Does}
use Rattle.list_places.specs.declared.places.Does.TheVariants.{Inserts, Erases, Updates}
use Rattle.list_lane.specs.Ops.{moved}
use Rattle.list_lane.specs.Lanes.{behind, crossed, length_at_end}
use Rattle.list_lane.specs.Bursts.{Leads, InFront, AllBehind, AllBefore, pushed_all}
use Rattle.list_lane.specs.declared.op.Op.{Op}
use Rattle.list_lane.proofs.Chain.{not_not}

some_if : (b c : Bool) (x y : ℕ) → b ≡ c → Some (cond b x y) ≡ Some (cond c x y)
some_if b c x y e = ap (λ t. Some (cond t x y)) e

apart_lt : (p q : ℕ) → p < q → (p == q) ≡ false
apart_lt p q h = ne_eqb p q (λ e. omega (arith, h, e))

apart_gt : (p q : ℕ) → q < p → (p == q) ≡ false
apart_gt p q h = ne_eqb p q (λ e. omega (arith, h, e))

at_most : (p q : ℕ) → p < q → p ≤ q
at_most p q h = omega (arith, h)

-- two that aren't of one element
pub first_stands : (l : Bool) (d e : Does) (p q : ℕ) → p < q → place_after l d p e q ≡ Some p
first_stands l Inserts Inserts p q h = ap (λ t. Some (cond (t || ((p == q) && not l)) p (p + 1))) (lt-ltb p q h)
first_stands l Inserts Erases p q h = some_if _ true p (p - 1) (le-leb p q (at_most p q h))
first_stands l Inserts Updates p q h = refl
first_stands l Erases Inserts p q h = some_if _ false (p + 1) p (lt-leb q p h)
first_stands l Erases Erases p q h = (λ i. cond (apart_lt p q h i) None (Some (cond (lt-ltb p q h i) p (p - 1))))
first_stands l Erases Updates p q h = refl
first_stands l Updates Inserts p q h = some_if _ false (p + 1) p (lt-leb q p h)
first_stands l Updates Erases p q h = (λ i. cond (apart_lt p q h i) None (Some (cond (lt-ltb p q h i) p (p - 1))))
first_stands l Updates Updates p q h = ap (λ t. cond t (cond l (Some p) None) (Some p)) (apart_lt p q h)

pub second_pushed : (l : Bool) (d e : Does) (p q : ℕ) → p < q → place_after l e q d p ≡ Some (longer d q)
second_pushed l Inserts Inserts p q h = (λ i. Some (cond (le-ltb q p (at_most p q h) i || (apart_gt q p h i && not l)) q (q + 1)))
second_pushed l Inserts Erases p q h = some_if _ true (q + 1) q (le-leb p q (at_most p q h))
second_pushed l Inserts Updates p q h = some_if _ true (q + 1) q (le-leb p q (at_most p q h))
second_pushed l Erases Inserts p q h = some_if _ false q (q - 1) (lt-leb q p h)
second_pushed l Erases Erases p q h = (λ i. cond (apart_gt q p h i) None (Some (cond (le-ltb q p (at_most p q h) i) q (q - 1))))
second_pushed l Erases Updates p q h = (λ i. cond (apart_gt q p h i) None (Some (cond (le-ltb q p (at_most p q h) i) q (q - 1))))
second_pushed l Updates Inserts p q h = refl
second_pushed l Updates Erases p q h = refl
second_pushed l Updates Updates p q h = ap (λ t. cond t (cond l (Some q) None) (Some q)) (apart_gt q p h)

-- and at one place
same_stands : (k : Bool) (d e : Does) (p : ℕ) → Leads d e k → place_after (not k) d p e p ≡ Some p
same_stands k Inserts Inserts p h = ap (λ t. Some (cond t p (p + 1))) (or_right (nat_lt p p) ((p == p) && not (not k)) (and_from (p == p) (not (not k)) (eq-eqb p p refl) (ap (λ b. not (not b)) h)))
same_stands k Inserts Erases p h = some_if _ true p (p - 1) (le-leb p p (le_refl p))
same_stands k Inserts Updates p h = refl
same_stands k Erases e p h = absurd h
same_stands k Updates e p h = absurd h

same_pushed : (k : Bool) (d e : Does) (p : ℕ) → Leads d e k → place_after k e p d p ≡ Some (longer d p)
same_pushed k Inserts Inserts p h = some_if _ false p (p + 1) (or_from (nat_lt p p) ((p == p) && not k) (le-ltb p p (le_refl p)) (and_right (p == p) (not k) (ap not h)))
same_pushed k Inserts Erases p h = some_if _ true (p + 1) p (le-leb p p (le_refl p))
same_pushed k Inserts Updates p h = some_if _ true (p + 1) p (le-leb p p (le_refl p))
same_pushed k Erases e p h = absurd h
same_pushed k Updates e p h = absurd h

front_stands : (k : Bool) (a b : Op) → InFront k a b → place_after (not k) a.does a.place b.does b.place ≡ Some a.place
front_stands k a b h =
    ⊎_elim (λ lt. first_stands (not k) a.does b.does a.place b.place lt)
    (λ le. let here = h.0 in let e : a.place ≡ b.place = omega (arith, here, le) in
    ap (λ q. place_after (not k) a.does a.place b.does q) (sym e) ∙ same_stands k a.does b.does a.place (h.1 e))
    (cases_lt a.place b.place)

front_pushes : (k : Bool) (a b : Op) → InFront k a b → place_after k b.does b.place a.does a.place ≡ Some (longer a.does b.place)
front_pushes k a b h =
    ⊎_elim (λ lt. second_pushed k a.does b.does a.place b.place lt)
    (λ le. let here = h.0 in let e : a.place ≡ b.place = omega (arith, here, le) in
    ap (λ q. place_after k b.does q a.does a.place) (sym e) ∙ same_pushed k a.does b.does a.place (h.1 e) ∙ ap (λ q. Some (longer a.does q)) e)
    (cases_lt a.place b.place)

module _ (l : Stamp → Stamp → Bool) where
  -- a lane that is all behind an instruction
  pub behind_all : (ss : List (Option Op)) (b : Op) → AllBehind l b ss → crossed l ss (Some b) ≡ record { slots = pushed_all b.does ss; left = Some b }
  behind_all [] b h = refl
  behind_all (None ∷ ss) b h = ap (behind None) (behind_all ss b h)
  behind_all (Some a ∷ ss) b h =
      let la : Bool = l a.stamp b.stamp in
      (λ i. behind (moved a (front_pushes la b a h.0 i)) (crossed l ss (moved b (front_stands la b a h.0 i))))
      ∙ ap (behind (Some (record a { place = longer b.does a.place }))) (behind_all ss b h.1)

  -- or all before it
  pub before_all : (ss : List (Option Op)) (b : Op) → AllBefore l b ss → crossed l ss (Some b) ≡ record { slots = ss; left = Some (record b { place = length_at_end b.place ss }) }
  before_all [] b h = refl
  before_all (None ∷ ss) b h = ap (behind None) (before_all ss b h)
  before_all (Some a ∷ ss) b h =
      let la : Bool = l a.stamp b.stamp in
      ap (λ f. behind (moved a (place_after f a.does a.place b.does b.place)) (crossed l ss (moved b (place_after (not la) b.does b.place a.does a.place)))) (sym (not_not la))
      ∙ (λ i. behind (moved a (front_stands (not la) a b h.0 i)) (crossed l ss (moved b (front_pushes (not la) a b h.0 i))))
      ∙ ap (behind (Some a)) (before_all ss (record b { place = longer a.does b.place }) h.1)
