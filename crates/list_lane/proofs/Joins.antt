-- Bursts one after another.
use Rattle.std.proofs.Common.{◌≡◌, ℕ, zero, suc, ◌+◌, ◌-◌, ◌<◌, ◌≤◌, Bool, not, List, [], ◌∷◌, ◌++◌, length, length-append, take, drop, get_or, set, Option, Some, None, refl, sym, ap, ◌∙◌, subst, append_assoc, append-nil, arith}
use Rattle.std.proofs.lemmas.List.{drop_more, take_more_set}
use Rattle.sync_data.specs.declared.entry.Stamp.{Stamp}
use Rattle.list_lane.specs.Ops.{op_after}
use Rattle.list_places.specs.Places.{longer}
use Rattle.list_lane.specs.Lanes.{Crossed, behind, crossed, length_after, length_before, slot_at}
use Rattle.list_lane.specs.Bursts.{lift_all}
use Rattle.list_lane.proofs.Rooms.{after_more}
use Rattle.list_lane.specs.Flat.{done, joined, Placed}
use Rattle.list_lane.specs.declared.op.Op.{Op}
use Rattle.list_lane.proofs.Chain.{crossed_none}
use Rattle.list_lane.proofs.Turns.{whole_again}

pub joined_append : (xs ys : List (List (Option Op))) → joined (xs ++ ys) ≡ joined xs ++ joined ys
joined_append [] ys = refl
joined_append (x ∷ xs) ys = ap (λ l. x ++ l) (joined_append xs ys) ∙ sym (append_assoc x (joined xs) (joined ys))

pub placed_left : (xs ys : List (Option Op)) → Placed (xs ++ ys) → Placed xs
placed_left [] ys h = tt
placed_left (None ∷ xs) ys h = placed_left xs ys h
placed_left (Some a ∷ xs) ys h = (h.0, placed_left xs ys h.1)

pub placed_right : (xs ys : List (Option Op)) → Placed (xs ++ ys) → Placed ys
placed_right [] ys h = h
placed_right (None ∷ xs) ys h = placed_right xs ys h
placed_right (Some a ∷ xs) ys h = placed_right xs ys h.1

pub drop_set : {A : Type 0} (xs : List A) (i : ℕ) (y : A) → drop (i + 1) (set xs i y) ≡ drop (i + 1) xs
drop_set xs i y = let k : i + 1 ≡ suc i = omega arith in ap (λ n. drop n (set xs i y)) k ∙ one xs i y ∙ ap (λ n. drop n xs) (sym k)
  where
    one : {A : Type 0} (xs : List A) (i : ℕ) (y : A) → drop (suc i) (set xs i y) ≡ drop (suc i) xs
    one [] i y = refl
    one (x ∷ xs) zero y = refl
    one (x ∷ xs) (suc i) y = one xs i y

module _ (l : Stamp → Stamp → Bool) where
  pub crossed_append : (xs ys : List (Option Op)) (x : Option Op) → crossed l (xs ++ ys) x ≡ done (crossed l xs x).slots (crossed l ys (crossed l xs x).left)
  crossed_append [] ys x = refl
  crossed_append (s ∷ xs) ys None = ap (done (s ∷ xs)) (sym (crossed_none l ys))
  crossed_append (None ∷ xs) ys (Some b) = ap (behind None) (crossed_append xs ys (Some b))
  crossed_append (Some a ∷ xs) ys (Some b) = ap (behind (op_after (l a.stamp b.stamp) a b)) (crossed_append xs ys (op_after (not (l a.stamp b.stamp)) b a))

  -- a lane in two parts of which the first is crossed
  pub next_burst : (front : List (Option Op)) (x : List (Option Op)) (rest : List (Option Op)) (b : Op)
      → done front (crossed l (x ++ rest) (Some b)) ≡ done (front ++ (crossed l x (Some b)).slots) (crossed l rest (crossed l x (Some b)).left)
  next_burst front x rest b =
      ap (done front) (crossed_append x rest (Some b))
      ∙ ap (λ ys. record { slots = ys; left = (crossed l rest (crossed l x (Some b)).left).left }) (sym (append_assoc front (crossed l x (Some b)).slots (crossed l rest (crossed l x (Some b)).left).slots))

  -- one burst further
  pub burst_turn : (whole : Crossed) (xs zs : List (List (Option Op))) (i : ℕ) (d x y : List (Option Op)) (b : Op) (z : Option Op) → i < length xs → drop i xs ≡ drop i zs
      → whole ≡ done (joined (take i xs)) (crossed l (joined (drop i zs)) (Some b)) → x ≡ get_or xs i d → y ≡ (crossed l x (Some b)).slots → z ≡ (crossed l x (Some b)).left
      → whole ≡ done (joined (take (i + 1) (set xs i y))) (crossed l (joined (drop (i + 1) xs)) z)
  burst_turn whole xs zs i d x y b z lt same e at is left =
      e
      ∙ ap (λ r. done (joined (take i xs)) (crossed l (joined r) (Some b))) (sym same ∙ drop_more xs i d lt ∙ ap (λ r. r ∷ drop (i + 1) xs) (sym at))
      ∙ next_burst (joined (take i xs)) x (joined (drop (i + 1) xs)) b
      ∙ (λ k. done (joined (take i xs) ++ sym is k) (crossed l (joined (drop (i + 1) xs)) (sym left k)))
      ∙ ap (λ r. done r (crossed l (joined (drop (i + 1) xs)) z)) (ap (λ r. joined (take i xs) ++ r) (sym (append-nil y)) ∙ sym (joined_append (take i xs) (y ∷ [])) ∙ ap joined (sym (take_more_set xs i y lt)))

  -- where nothing is left of it
  pub burst_end : (whole : Crossed) (xs : List (List (Option Op))) (i : ℕ) (y : List (Option Op)) (z : Option Op) → z ≡ None → whole ≡ done (joined (take (i + 1) (set xs i y))) (crossed l (joined (drop (i + 1) xs)) z) → whole ≡ record { slots = joined (set xs i y); left = None }
  burst_end whole xs i y z gone e =
      e
      ∙ ap (λ o. done (joined (take (i + 1) (set xs i y))) (crossed l (joined (drop (i + 1) xs)) o)) gone
      ∙ ap (done (joined (take (i + 1) (set xs i y)))) (crossed_none l (joined (drop (i + 1) xs)))
      ∙ ap (λ r. record { slots = joined (take (i + 1) (set xs i y)) ++ joined r; left = None }) (sym (drop_set xs i y))
      ∙ ap (λ r. record { slots = r; left = None }) (sym (joined_append (take (i + 1) (set xs i y)) (drop (i + 1) (set xs i y))) ∙ ap joined (whole_again (set xs i y) (i + 1)))

  -- the same, where they stay
  pub left_turn : (whole : Option Op) (xs : List (List (Option Op))) (i : ℕ) (d x : List (Option Op)) (b : Op) (z : Option Op) → i < length xs → x ≡ get_or xs i d → whole ≡ (crossed l (joined (drop i xs)) (Some b)).left → z ≡ (crossed l x (Some b)).left
      → whole ≡ (crossed l (joined (drop (i + 1) xs)) z).left
  left_turn whole xs i d x b z lt at e left =
      e
      ∙ ap (λ ys. (crossed l (joined ys) (Some b)).left) (drop_more xs i d lt ∙ ap (λ y. y ∷ drop (i + 1) xs) (sym at))
      ∙ ap (λ (r : Crossed). r.left) (crossed_append x (joined (drop (i + 1) xs)) (Some b))
      ∙ ap (λ o. (crossed l (joined (drop (i + 1) xs)) o).left) (sym left)

  pub left_end : (whole : Option Op) (ss : List (Option Op)) (z : Option Op) → z ≡ None → whole ≡ (crossed l ss z).left → None ≡ whole
  left_end whole ss z gone e = sym (e ∙ ap (λ o. (crossed l ss o).left) gone ∙ ap (λ (r : Crossed). r.left) (crossed_none l ss))

-- ---- one of them
pub placed_at : (xs : List (List (Option Op))) (i : ℕ) (d x : List (Option Op)) → i < length xs → x ≡ get_or xs i d → Placed (joined xs) → Placed x
placed_at [] i d x lt e h = absurd (omega (arith, lt))
placed_at (z ∷ xs) zero d x lt e h = subst Placed (sym e) (placed_left z (joined xs) h)
placed_at (z ∷ xs) (suc i) d x lt e h = placed_at xs i d x (omega (arith, lt)) e (placed_right z (joined xs) h)

pub length_at : (xs : List (List (Option Op))) (i : ℕ) (d x : List (Option Op)) → i < length xs → x ≡ get_or xs i d → length x ≤ length (joined xs)
length_at [] i d x lt e = absurd (omega (arith, lt))
length_at (z ∷ xs) zero d x lt e = let k = length-append z (joined xs) in let n = ap length e in omega (arith, k, n)
length_at (z ∷ xs) (suc i) d x lt e = let k = length-append z (joined xs) in let n = length_at xs i d x (omega (arith, lt)) e in omega (arith, k, n)

-- a slot more in the last
pub joined_last : (xs : List (List (Option Op))) (i : ℕ) (d x y : List (Option Op)) (s : Option Op) → suc i ≡ length xs → x ≡ get_or xs i d → y ≡ x ++ s ∷ [] → joined (set xs i y) ≡ joined xs ++ s ∷ []
joined_last [] i d x y s n e h = absurd (omega (arith, n))
joined_last (z ∷ []) zero d x y s n e h = append-nil y ∙ h ∙ ap (λ w. w ++ s ∷ []) (e ∙ sym (append-nil z))
joined_last (z ∷ []) (suc i) d x y s n e h = absurd (omega (arith, n))
joined_last (z ∷ w ∷ xs) zero d x y s n e h = absurd (omega (arith, n))
joined_last (z ∷ w ∷ xs) (suc i) d x y s n e h =
    ap (λ r. z ++ r) (joined_last (w ∷ xs) i d x y s (omega (arith, n)) e h) ∙ sym (append_assoc z (joined (w ∷ xs)) (s ∷ []))

pub last_same : (xs : List (List (Option Op))) (i : ℕ) (d x y : List (Option Op)) → i < length xs → x ≡ get_or xs i d → y ≡ x → joined (set xs i y) ≡ joined xs
last_same [] i d x y lt e h = refl
last_same (z ∷ xs) zero d x y lt e h = ap (λ w. w ++ joined xs) (h ∙ e)
last_same (z ∷ xs) (suc i) d x y lt e h = ap (λ w. z ++ w) (last_same xs i d x y (omega (arith, lt)) e h)

pub joined_one : (xs : List (List (Option Op))) (y : List (Option Op)) (s : Option Op) → y ≡ [] ++ s ∷ [] → joined (xs ++ y ∷ []) ≡ joined xs ++ s ∷ []
joined_one xs y s h = joined_append xs (y ∷ []) ∙ ap (λ w. joined xs ++ w) (append-nil y ∙ h)

-- ---- the rest, from a place on
pub joined_more : (xs : List (List (Option Op))) (i : ℕ) (d x : List (Option Op)) → i < length xs → x ≡ get_or xs i d → joined (drop i xs) ≡ x ++ joined (drop (i + 1) xs)
joined_more xs i d x lt e = ap joined (drop_more xs i d lt) ∙ ap (λ y. y ++ joined (drop (i + 1) xs)) (sym e)

pub placed_here : (xs : List (List (Option Op))) (i : ℕ) (d x : List (Option Op)) → i < length xs → x ≡ get_or xs i d → Placed (joined (drop i xs)) → Placed x × Placed (joined (drop (i + 1) xs))
placed_here xs i d x lt e h = let k = subst Placed (joined_more xs i d x lt e) h in (placed_left x (joined (drop (i + 1) xs)) k, placed_right x (joined (drop (i + 1) xs)) k)

pub length_here : (xs : List (List (Option Op))) (i : ℕ) (d x : List (Option Op)) → i < length xs → x ≡ get_or xs i d → length (joined (drop i xs)) ≡ length x + length (joined (drop (i + 1) xs))
length_here xs i d x lt e = ap length (joined_more xs i d x lt e) ∙ length-append x (joined (drop (i + 1) xs))

pub slot_before : (xs ys : List (Option Op)) (i : ℕ) → i < length xs → slot_at i (xs ++ ys) ≡ slot_at i xs
slot_before [] ys i lt = absurd (omega (arith, lt))
slot_before (s ∷ xs) ys zero lt = refl
slot_before (s ∷ xs) ys (suc i) lt = slot_before xs ys i (omega (arith, lt))

pub slot_behind : (xs ys : List (Option Op)) (i : ℕ) → length xs ≤ i → slot_at i (xs ++ ys) ≡ slot_at (i - length xs) ys
slot_behind [] ys i le = let k : i - 0 ≡ i = omega arith in ap (λ n. slot_at n ys) (sym k)
slot_behind (s ∷ xs) ys zero le = absurd (omega (arith, le))
slot_behind (s ∷ xs) ys (suc i) le =
    let k : suc i - suc (length xs) ≡ i - length xs = omega arith in
    slot_behind xs ys i (omega (arith, le)) ∙ ap (λ n. slot_at n ys) (sym k)

-- ---- lengths of the list
pub before_none : (n : ℕ) (ss : List (Option Op)) → length_before 0 n ss ≡ n
before_none n [] = refl
before_none n (s ∷ ss) = refl

pub before_first : (xs ys : List (Option Op)) (i n : ℕ) → i < length xs → length_before i n (xs ++ ys) ≡ length_before i n xs
before_first [] ys i n lt = absurd (omega (arith, lt))
before_first (s ∷ xs) ys zero n lt = refl
before_first (s ∷ xs) ys (suc i) n lt = before_first xs ys i (length_after s n) (omega (arith, lt))

pub before_rest : (xs ys : List (Option Op)) (i n : ℕ) → length xs ≤ i → length_before i n (xs ++ ys) ≡ length_before (i - length xs) (length_before (length xs) n xs) ys
before_rest [] ys i n le = let k : i - 0 ≡ i = omega arith in ap (λ m. length_before m n ys) (sym k)
before_rest (s ∷ xs) ys zero n le = absurd (omega (arith, le))
before_rest (s ∷ xs) ys (suc i) n le =
    let k : suc i - suc (length xs) ≡ i - length xs = omega arith in
    before_rest xs ys i (length_after s n) (omega (arith, le)) ∙ ap (λ m. length_before m (length_before (length xs) (length_after s n) xs) ys) (sym k)

pub before_most : (ss : List (Option Op)) (i n : ℕ) → length_before i n ss ≤ n + i
before_most [] i n = omega arith
before_most (s ∷ ss) zero n = omega arith
before_most (s ∷ ss) (suc i) n = let m = after_more s n in let k = before_most ss i (length_after s n) in omega (arith, m, k)

pub lift_before : (ss : List (Option Op)) (up down i n : ℕ) → length_before i n (lift_all up down ss) ≡ length_before i n ss
lift_before [] up down i n = refl
lift_before (s ∷ ss) up down zero n = refl
lift_before (None ∷ ss) up down (suc i) n = lift_before ss up down i n
lift_before (Some a ∷ ss) up down (suc i) n = lift_before ss up down i (longer a.does n)

-- one slot further
pub before_turn : (whole : ℕ) (ss : List (Option Op)) (at i n m : ℕ) (d s : Option Op) → i < length ss → i < at → s ≡ get_or ss i d → whole ≡ length_before (at - i) n (drop i ss) → m ≡ length_after s n → whole ≡ length_before (at - (i + 1)) m (drop (i + 1) ss)
before_turn whole ss at i n m d s lt more here e is =
    let k : at - i ≡ suc (at - (i + 1)) = omega (arith, more) in
    e
    ∙ (λ j. length_before (k j) n (drop_more ss i d lt j))
    ∙ ap (λ y. length_before (at - (i + 1)) (length_after y n) (drop (i + 1) ss)) (sym here)
    ∙ ap (λ y. length_before (at - (i + 1)) y (drop (i + 1) ss)) (sym is)
