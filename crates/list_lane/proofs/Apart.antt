-- Elements that a lane leaves alone part it.
use Rattle.std.proofs.Common.{◌≡◌, ℕ, ◌+◌, ◌-◌, ◌<◌, Bool, cond, not, List, ◌∷◌, Option, Some, None, refl, sym, ap, ◌∙◌, subst, arith}
use Rattle.std.specs.Prelude.{IfSome}
use Rattle.std.specs.Option.{option_map}
use Rattle.std.proofs.lemmas.Bool.{le-leb}
use Rattle.sync_data.specs.declared.entry.Stamp.{Stamp}
use Rattle.list_places.specs.Places.{longer, Within, place_after}
use Rattle.list_places.specs.declared.places.Does.{Does}
use Rattle.list_places.specs.declared.places.Does.TheVariants.{Inserts, Erases, Updates}
use Rattle.list_places.proofs.Stands.{WithinIf, within_after}
use Rattle.list_lane.specs.Ops.{moved}
use Rattle.list_lane.specs.Lanes.{Crossed, behind, crossed, length_at_end}
use Rattle.list_lane.specs.Parts.{Parts, end, empty, front, back, from, IsOfElement, CrossesBefore, CrossesBehind, PassesAmong, PassesOne}
use Rattle.list_lane.specs.declared.op.Op.{Op}
use Rattle.list_lane.proofs.Lengths.{Lengths}
use Rattle.list_lane.proofs.Chain.{crossed_none, if_some, both_lengths}
use Rattle.list_lane.proofs.Rooms.{within_most}
use Rattle.list_lane.proofs.Beside.{first_stands, second_pushed}
use Rattle.list_lane.proofs.Further.{on, further}

-- what is behind is pushed as the first elements are
pushed_on : (d : Does) (p x g q : ℕ) → Within d p x → longer d (q + (x + g)) ≡ q + (longer d x + g)
pushed_on Inserts p x g q h = omega arith
pushed_on Erases p x g q h = omega (arith, h)
pushed_on Updates p x g q h = refl

module _ (l : Stamp → Stamp → Bool) (g : ℕ) where
  -- ---- what is before them
  abbrev pub Before : ℕ → List (Option Op) → List (Option Op) → List (Option Op) → Crossed → Crossed → Type 0
  Before x ss ls rs whole part = Parts g x whole.slots part.slots rs × (whole.left ≡ part.left)

  front_one : (x : ℕ) {ss ls rs : List (Option Op)} (a b : Op) (q y : Option ℕ) → Lengths b.does a.does x q y → WithinIf a.does (longer b.does x) y → Parts g (longer a.does x) ss ls rs
      → IfSome q (λ p. Before (longer b.does (longer a.does x)) ss ls rs (crossed l ss (Some (record b { place = p }))) (crossed l ls (Some (record b { place = p }))))
      → Before (longer b.does x) (Some a ∷ ss) (Some a ∷ ls) (None ∷ rs) (behind (moved a y) (crossed l ss (moved b q))) (behind (moved a y) (crossed l ls (moved b q)))
  front_one x {ss = ss} {ls = ls} {rs = rs} a b (Some p) (Some r) e w d h = (front w (subst (λ n. Parts g n (crossed l ss (Some (record b { place = p }))).slots (crossed l ls (Some (record b { place = p }))).slots rs) e h.0), h.1)
  front_one x {ss = ss} {ls = ls} {rs = rs} a b (Some p) None e w d h = (empty (subst (λ n. Parts g n (crossed l ss (Some (record b { place = p }))).slots (crossed l ls (Some (record b { place = p }))).slots rs) e h.0), h.1)
  front_one x {ss = ss} {ls = ls} {rs = rs} a b None (Some r) e w d h =
      subst (λ (u : Crossed). Before (longer b.does x) (Some a ∷ ss) (Some a ∷ ls) (None ∷ rs) (behind (Some (record a { place = r })) u) (behind (Some (record a { place = r })) (crossed l ls None))) (sym (crossed_none l ss))
      (subst (λ (u : Crossed). Before (longer b.does x) (Some a ∷ ss) (Some a ∷ ls) (None ∷ rs) (behind (Some (record a { place = r })) (record { slots = ss; left = None })) (behind (Some (record a { place = r })) u)) (sym (crossed_none l ls))
      (front w (subst (λ n. Parts g n ss ls rs) (sym e) d), refl))
  front_one x {ss = ss} {ls = ls} {rs = rs} a b None None e w d h =
      subst (λ (u : Crossed). Before (longer b.does x) (Some a ∷ ss) (Some a ∷ ls) (None ∷ rs) (behind None u) (behind None (crossed l ls None))) (sym (crossed_none l ss))
      (subst (λ (u : Crossed). Before (longer b.does x) (Some a ∷ ss) (Some a ∷ ls) (None ∷ rs) (behind None (record { slots = ss; left = None })) (behind None u)) (sym (crossed_none l ls))
      (empty (subst (λ n. Parts g n ss ls rs) (sym e) d), refl))

  pub crosses_before : {x : ℕ} {ss ls rs : List (Option Op)} → Parts g x ss ls rs → (b : Op) → 0 < g → Within b.does b.place x → Before (longer b.does x) ss ls rs (crossed l ss (Some b)) (crossed l ls (Some b))
  crosses_before end b h w = (end, refl)
  crosses_before (empty d) b h w = let r = crosses_before d b h w in (empty r.0, r.1)
  crosses_before {x = x} (front {a = a} {ss = ss} {ls = ls} {rs = rs} v d) b h w =
      let la : Bool = l a.stamp b.stamp in
      front_one x a b (place_after (not la) b.does b.place a.does a.place) (place_after la a.does a.place b.does b.place) (both_lengths la x a b v w) (within_after la a.does b.does a.place b.place x v w) d
      (if_some b.does (longer a.does x) _ (place_after (not la) b.does b.place a.does a.place) (within_after (not la) b.does a.does b.place a.place x w v) (λ q z. crosses_before d (record b { place = q }) h z))
  crosses_before {x = x} (back {a = a} {ss = ss} {ls = ls} {rs = rs} d) b h w =
      let la : Bool = l a.stamp b.stamp in
      let r = crosses_before d b h w in
      let m = within_most b.does b.place x w in
      let lt : b.place < a.place + (x + g) = omega (arith, m, h) in
      let met : crossed l (Some (from (x + g) a) ∷ ss) (Some b) ≡ behind (Some (from (longer b.does x + g) a)) (crossed l ss (Some b)) =
      (λ i. behind (moved (from (x + g) a) (second_pushed la b.does a.does b.place (a.place + (x + g)) lt i)) (crossed l ss (moved b (first_stands (not la) b.does a.does b.place (a.place + (x + g)) lt i))))
      ∙ ap (λ n. behind (Some (record a { place = n })) (crossed l ss (Some b))) (pushed_on b.does b.place x g a.place w) in
      (subst (λ (u : Crossed). Parts g (longer b.does x) u.slots (None ∷ (crossed l ls (Some b)).slots) (Some a ∷ rs)) (sym met) (back r.0), ap (λ (u : Crossed). u.left) met ∙ r.1)

  -- ---- what is behind them
  abbrev pub Behind : ℕ → ℕ → List (Option Op) → Crossed → Crossed → Type 0
  Behind x n ls whole part = Parts g x whole.slots ls part.slots × (whole.left ≡ option_map (from (n + g)) part.left)

  back_one : (n : ℕ) {x : ℕ} {ss ls rs : List (Option Op)} (a b : Op) (q y : Option ℕ) → Parts g x ss ls rs
      → IfSome q (λ p. Behind x n ls (crossed l ss (Some (from (x + g) (record b { place = p })))) (crossed l rs (Some (record b { place = p }))))
      → Behind x n (None ∷ ls) (behind (moved (from (x + g) a) (on (x + g) y)) (crossed l ss (moved (from (x + g) b) (on (x + g) q)))) (behind (moved a y) (crossed l rs (moved b q)))
  back_one n a b (Some p) (Some r) d h = (back h.0, h.1)
  back_one n a b (Some p) None d h = (empty h.0, h.1)
  back_one n {x = x} {ss = ss} {ls = ls} {rs = rs} a b None (Some r) d h =
      subst (λ (u : Crossed). Behind x n (None ∷ ls) (behind (Some (from (x + g) (record a { place = r }))) u) (behind (Some (record a { place = r })) (crossed l rs None))) (sym (crossed_none l ss))
      (subst (λ (u : Crossed). Behind x n (None ∷ ls) (behind (Some (from (x + g) (record a { place = r }))) (record { slots = ss; left = None })) (behind (Some (record a { place = r })) u)) (sym (crossed_none l rs)) (back d, refl))
  back_one n {x = x} {ss = ss} {ls = ls} {rs = rs} a b None None d h =
      subst (λ (u : Crossed). Behind x n (None ∷ ls) (behind None u) (behind None (crossed l rs None))) (sym (crossed_none l ss))
      (subst (λ (u : Crossed). Behind x n (None ∷ ls) (behind None (record { slots = ss; left = None })) (behind None u)) (sym (crossed_none l rs)) (empty d, refl))

  any_some : (Q : ℕ → Type 0) (x : Option ℕ) → ((q : ℕ) → Q q) → IfSome x Q
  any_some Q None f = tt
  any_some Q (Some q) f = f q

  pub crosses_behind : {x : ℕ} {ss ls rs : List (Option Op)} → Parts g x ss ls rs → (b : Op) → 0 < g → Behind x (length_at_end x ls) ls (crossed l ss (Some (from (x + g) b))) (crossed l rs (Some b))
  crosses_behind end b h = (end, refl)
  crosses_behind (empty d) b h = let r = crosses_behind d b h in (empty r.0, r.1)
  crosses_behind {x = x} (front {a = a} {ss = ss} {ls = ls} {rs = rs} v d) b h =
      let la : Bool = l a.stamp b.stamp in
      let r = crosses_behind d b h in
      let m = within_most a.does a.place x v in
      let lt : a.place < b.place + (x + g) = omega (arith, m, h) in
      let met : crossed l (Some a ∷ ss) (Some (from (x + g) b)) ≡ behind (Some a) (crossed l ss (Some (from (longer a.does x + g) b))) =
      (λ i. behind (moved a (first_stands la a.does b.does a.place (b.place + (x + g)) lt i)) (crossed l ss (moved (from (x + g) b) (second_pushed (not la) a.does b.does a.place (b.place + (x + g)) lt i))))
      ∙ ap (λ n. behind (Some a) (crossed l ss (Some (record b { place = n })))) (pushed_on a.does a.place x g b.place v) in
      (subst (λ (u : Crossed). Parts g x u.slots (Some a ∷ ls) (None ∷ (crossed l rs (Some b)).slots)) (sym met) (front v r.0), ap (λ (u : Crossed). u.left) met ∙ r.1)
  crosses_behind {x = x} (back {a = a} {ss = ss} {ls = ls} {rs = rs} d) b h =
      let la : Bool = l a.stamp b.stamp in
      let q = place_after (not la) b.does b.place a.does a.place in
      let y = place_after la a.does a.place b.does b.place in
      let met : crossed l (Some (from (x + g) a) ∷ ss) (Some (from (x + g) b)) ≡ behind (moved (from (x + g) a) (on (x + g) y)) (crossed l ss (moved (from (x + g) b) (on (x + g) q))) =
      (λ i. behind (moved (from (x + g) a) (further (x + g) la a.does b.does a.place b.place i)) (crossed l ss (moved (from (x + g) b) (further (x + g) (not la) b.does a.does b.place a.place i)))) in
      subst (λ (u : Crossed). Behind x (length_at_end x ls) (None ∷ ls) u (behind (moved a y) (crossed l rs (moved b q)))) (sym met)
      (back_one (length_at_end x ls) a b q y d (any_some (λ p. Behind x (length_at_end x ls) ls (crossed l ss (Some (from (x + g) (record b { place = p })))) (crossed l rs (Some (record b { place = p })))) q (λ p. crosses_behind d (record b { place = p }) h)))

-- ---- what is among them
-- an instruction of the first elements stands beside what is done behind them, and pushes it
beside_gap : (d : Does) (q x p : ℕ) → Within d q x → 0 < p → q < x + p
beside_gap d q x p w h = let m = within_most d q x w in omega (arith, m, h)

stands_before : (l : Bool) (d e : Does) (q x : ℕ) → IsOfElement e → Within d q x → place_after l d q e x ≡ Some q
stands_before l d Inserts q x i w = absurd i
stands_before l Inserts Erases q x i w = ap (λ t. Some (cond t q (q - 1))) (le-leb q x w)
stands_before l Inserts Updates q x i w = refl
stands_before l Erases Erases q x i w = first_stands l Erases Erases q x w
stands_before l Erases Updates q x i w = refl
stands_before l Updates Erases q x i w = first_stands l Updates Erases q x w
stands_before l Updates Updates q x i w = first_stands l Updates Updates q x w

goes_behind : (l : Bool) (d e : Does) (q x : ℕ) → IsOfElement e → Within d q x → place_after l e x d q ≡ Some (longer d x)
goes_behind l d Inserts q x i w = absurd i
goes_behind l Inserts Erases q x i w = ap (λ t. Some (cond t (x + 1) x)) (le-leb q x w)
goes_behind l Inserts Updates q x i w = ap (λ t. Some (cond t (x + 1) x)) (le-leb q x w)
goes_behind l Erases Erases q x i w = second_pushed l Erases Erases q x w
goes_behind l Erases Updates q x i w = second_pushed l Erases Updates q x w
goes_behind l Updates Erases q x i w = refl
goes_behind l Updates Updates q x i w = second_pushed l Updates Updates q x w

within_more : (d : Does) (q x p : ℕ) → Within d q x → Within d q (x + p)
within_more Inserts q x p w = omega (arith, w)
within_more Erases q x p w = omega (arith, w)
within_more Updates q x p w = omega (arith, w)

among_on : (d : Does) (q x p : ℕ) → Within d q x → longer d (x + p) ≡ longer d x + p
among_on Inserts q x p w = omega arith
among_on Erases q x p w = omega (arith, w)
among_on Updates q x p w = refl

-- one of those among them is erased, or updated
gap_on : (d : Does) (p x g q : ℕ) → IsOfElement d → p < g → longer d (q + (x + g)) ≡ q + (x + longer d g)
gap_on Inserts p x g q i h = absurd i
gap_on Erases p x g q i h = omega (arith, h)
gap_on Updates p x g q i h = refl

module _ (l : Stamp → Stamp → Bool) (g p : ℕ) (b : Op) where
  abbrev pub at : ℕ → Op
  at n = record b { place = n }

  abbrev pub Among : ℕ → ℕ → ℕ → List (Option Op) → List (Option Op) → Crossed → Type 0
  Among k x n ls rs whole = Parts k x whole.slots ls rs × (whole.left ≡ Some (at (n + p)))

  -- the first part, whatever is done
  among_front : (k n : ℕ) (ss : List (Option Op)) {x : ℕ} {ls rs : List (Option Op)} (a : Op) → Within a.does a.place x
      → place_after (l a.stamp b.stamp) a.does a.place b.does (x + p) ≡ Some a.place → place_after (not (l a.stamp b.stamp)) b.does (x + p) a.does a.place ≡ Some (longer a.does (x + p))
      → Among k (longer a.does x) n ls rs (crossed l ss (Some (at (longer a.does x + p)))) → Among k x n (Some a ∷ ls) (None ∷ rs) (crossed l (Some a ∷ ss) (Some (at (x + p))))
  among_front k n ss {x = x} {ls = ls} {rs = rs} a w e f r =
      let met : crossed l (Some a ∷ ss) (Some (at (x + p))) ≡ behind (Some a) (crossed l ss (Some (at (longer a.does x + p)))) =
      (λ i. behind (moved a (e i)) (crossed l ss (moved (at (x + p)) (f i)))) ∙ ap (λ m. behind (Some a) (crossed l ss (Some (at m)))) (among_on a.does a.place x p w) in
      subst (Among k x n (Some a ∷ ls) (None ∷ rs)) (sym met) (front w r.0, r.1)

  -- and the last one
  among_back : (k n : ℕ) (ss : List (Option Op)) {x : ℕ} {ls rs : List (Option Op)} (a : Op) → p < g → longer b.does (a.place + (x + g)) ≡ a.place + (x + k)
      → Among k x n ls rs (crossed l ss (Some (at (x + p)))) → Among k x n (None ∷ ls) (Some a ∷ rs) (crossed l (Some (from (x + g) a) ∷ ss) (Some (at (x + p))))
  among_back k n ss {x = x} {ls = ls} {rs = rs} a h e r =
      let la : Bool = l a.stamp b.stamp in
      let lt : x + p < a.place + (x + g) = omega (arith, h) in
      let met : crossed l (Some (from (x + g) a) ∷ ss) (Some (at (x + p))) ≡ behind (Some (from (x + k) a)) (crossed l ss (Some (at (x + p)))) =
      (λ i. behind (moved (from (x + g) a) (second_pushed la b.does a.does (x + p) (a.place + (x + g)) lt i)) (crossed l ss (moved (at (x + p)) (first_stands (not la) b.does a.does (x + p) (a.place + (x + g)) lt i))))
      ∙ ap (λ m. behind (Some (record a { place = m })) (crossed l ss (Some (at (x + p))))) e in
      subst (Among k x n (None ∷ ls) (Some a ∷ rs)) (sym met) (back r.0, r.1)

  pub passes_one : {x : ℕ} {ss ls rs : List (Option Op)} → Parts g x ss ls rs → IsOfElement b.does → p < g → Among (longer b.does g) x (length_at_end x ls) ls rs (crossed l ss (Some (at (x + p))))
  passes_one end i h = (end, refl)
  passes_one (empty d) i h = let r = passes_one d i h in (empty r.0, r.1)
  passes_one {x = x} (front {a = a} {ss = ss} {ls = ls} w d) i h =
      let la : Bool = l a.stamp b.stamp in
      let v = within_more a.does a.place x p w in
      among_front (longer b.does g) (length_at_end (longer a.does x) ls) ss a w (stands_before la a.does b.does a.place (x + p) i v) (goes_behind (not la) a.does b.does a.place (x + p) i v) (passes_one d i h)
  passes_one {x = x} (back {a = a} {ss = ss} {ls = ls} d) i h = among_back (longer b.does g) (length_at_end x ls) ss a h (gap_on b.does p x g a.place i h) (passes_one d i h)

  pub passes_among : {x : ℕ} {ss ls rs : List (Option Op)} → Parts g x ss ls rs → b.does ≡ Inserts → 0 < p → p < g → Among (g + 1) x (length_at_end x ls) ls rs (crossed l ss (Some (at (x + p))))
  passes_among end i z h = (end, refl)
  passes_among (empty d) i z h = let r = passes_among d i z h in (empty r.0, r.1)
  passes_among {x = x} (front {a = a} {ss = ss} {ls = ls} w d) i z h =
      let la : Bool = l a.stamp b.stamp in
      let lt = beside_gap a.does a.place x p w z in
      among_front (g + 1) (length_at_end (longer a.does x) ls) ss a w (first_stands la a.does b.does a.place (x + p) lt) (second_pushed (not la) a.does b.does a.place (x + p) lt) (passes_among d i z h)
  passes_among {x = x} (back {a = a} {ss = ss} {ls = ls} d) i z h =
      let e : longer Inserts (a.place + (x + g)) ≡ a.place + (x + (g + 1)) = omega arith in
      among_back (g + 1) (length_at_end x ls) ss a h (ap (λ (k : Does). longer k (a.place + (x + g))) i ∙ e) (passes_among d i z h)

pub all_before_them : CrossesBefore
all_before_them l g x ss ls rs b h d w = crosses_before l g d b h w

pub all_behind_them : CrossesBehind
all_behind_them l g x ss ls rs b h d = crosses_behind l g d b h

pub all_among_them : PassesAmong
all_among_them l g x p ss ls rs b i z h d = passes_among l g p b d i z h

pub one_of_them : PassesOne
one_of_them l g x p ss ls rs b i h d = passes_one l g p b d i h
