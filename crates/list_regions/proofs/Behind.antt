-- What is behind elements that part a lane, or among them; also where nothing is in front of them.
use Rattle.std.proofs.Common.{◌≡◌, ℕ, zero, suc, ◌+◌, ◌<◌, Bool, not, List, [], ◌∷◌, length, Option, Some, None, refl, sym, ap, ◌∙◌, subst, arith}
use Rattle.std.specs.Option.{option_map}
use Rattle.sync_data.specs.declared.entry.Stamp.{Stamp}
use Rattle.list_places.specs.Places.{longer}
use Rattle.list_places.specs.declared.places.Does.{Does}
use Rattle.list_places.specs.declared.places.Does.TheVariants.{Inserts, Erases, Updates}
use Rattle.list_lane.specs.Ops.{moved}
use Rattle.list_lane.specs.Lanes.{Crossed, behind, crossed, length_at_end, Chains}
use Rattle.list_lane.specs.Parts.{Parts, end, empty, front, back, from, IsOfElement}
use Rattle.list_lane.specs.declared.op.Op.{Op}
use Rattle.list_lane.proofs.Beside.{first_stands, second_pushed}
use Rattle.list_lane.proofs.Rooms.{crossed_length}
use Rattle.list_lane.proofs.Apart.{crosses_behind, passes_one, passes_among}
use Rattle.list_regions.specs.Regions.{AllEmpty, empties, weave}

-- ---- lengths
pub parts_left : {g x : ℕ} {ss ls rs : List (Option Op)} → Parts g x ss ls rs → length ls ≡ length ss
parts_left end = refl
parts_left (empty d) = ap (λ n. suc n) (parts_left d)
parts_left (front w d) = ap (λ n. suc n) (parts_left d)
parts_left (back d) = ap (λ n. suc n) (parts_left d)

pub parts_right : {g x : ℕ} {ss ls rs : List (Option Op)} → Parts g x ss ls rs → length rs ≡ length ss
parts_right end = refl
parts_right (empty d) = ap (λ n. suc n) (parts_right d)
parts_right (front w d) = ap (λ n. suc n) (parts_right d)
parts_right (back d) = ap (λ n. suc n) (parts_right d)

-- the parts tell the whole
pub weave_is : {g x : ℕ} {ss ls rs : List (Option Op)} → Parts g x ss ls rs → weave x g ls rs ≡ ss
weave_is end = refl
weave_is (empty d) = ap (λ xs. None ∷ xs) (weave_is d)
weave_is (front {a = a} w d) = ap (λ xs. Some a ∷ xs) (weave_is d)
weave_is {g = g} {x = x} (back {a = a} d) = ap (λ xs. Some (from (x + g) a) ∷ xs) (weave_is d)

-- ---- nothing is in front, and no element between
pub flat : {ss ls rs : List (Option Op)} → Parts zero zero ss ls rs → AllEmpty ls → ss ≡ rs
flat end h = refl
flat (empty d) h = ap (λ xs. None ∷ xs) (flat d h)
flat (front w d) h = absurd h
flat (back {a = a} d) h = let e : a.place + (zero + zero) ≡ a.place = omega arith in (λ i. Some (record a { place = e i }) ∷ flat d h i)

flat_back : (a : Op) {ss ls rs : List (Option Op)} → Parts zero zero ss ls rs → Parts zero zero (Some a ∷ ss) (None ∷ ls) (Some a ∷ rs)
flat_back a {ss = ss} {ls = ls} {rs = rs} d =
    let e : a.place + (zero + zero) ≡ a.place = omega arith in
    subst (λ n. Parts zero zero (Some (record a { place = n }) ∷ ss) (None ∷ ls) (Some a ∷ rs)) e (back {a = a} d)

pub flat_parts : {ss ls rs : List (Option Op)} → Parts zero zero ss ls rs → AllEmpty ls → (ts : List (Option Op)) → length ts ≡ length rs → Parts zero zero ts ls ts
flat_parts end h [] e = end
flat_parts end h (t ∷ ts) e = absurd (omega (arith, e))
flat_parts (empty d) h [] e = absurd (omega (arith, e))
flat_parts (empty d) h (None ∷ ts) e = empty (flat_parts d h ts (omega (arith, e)))
flat_parts (empty d) h (Some a ∷ ts) e = flat_back a (flat_parts d h ts (omega (arith, e)))
flat_parts (front w d) h ts e = absurd h
flat_parts (back d) h [] e = absurd (omega (arith, e))
flat_parts (back d) h (None ∷ ts) e = empty (flat_parts d h ts (omega (arith, e)))
flat_parts (back d) h (Some a ∷ ts) e = flat_back a (flat_parts d h ts (omega (arith, e)))

-- ---- nothing is behind the elements among which it is
pub alone : (g : ℕ) (ls : List (Option Op)) (x : ℕ) → Chains x ls → Parts g x ls ls (empties (length ls))
alone g [] x h = end
alone g (None ∷ ls) x h = empty (alone g ls x h.1)
alone g (Some a ∷ ls) x h = front h.0 (alone g ls (longer a.does x) h.1)

module _ (l : Stamp → Stamp → Bool) where
  abbrev pub Behind : ℕ → ℕ → ℕ → List (Option Op) → Crossed → Crossed → Type 0
  Behind g x n ls whole part = Parts g x whole.slots ls part.slots × (whole.left ≡ option_map (from (n + g)) part.left)

  from_none : (r : Option Op) (n : ℕ) → n ≡ 0 → r ≡ option_map (from n) r
  from_none None n e = refl
  from_none (Some a) n e = let k : a.place ≡ a.place + n = omega (arith, e) in ap (λ m. Some (record a { place = m })) k

  behind_flat : {ss ls rs : List (Option Op)} → Parts zero zero ss ls rs → AllEmpty ls → (n : ℕ) → n ≡ 0 → (b : Op) → Behind zero zero n ls (crossed l ss (Some (from (zero + zero) b))) (crossed l rs (Some b))
  behind_flat {ss = ss} {ls = ls} {rs = rs} d h n z b =
      let e : b.place ≡ b.place + (zero + zero) = omega arith in
      let m : n + zero ≡ 0 = omega (arith, z) in
      let same : crossed l rs (Some b) ≡ crossed l ss (Some (from (zero + zero) b)) = (λ i. crossed l (sym (flat d h) i) (Some (record b { place = e i }))) in
      subst (λ (u : Crossed). Behind zero zero n ls u (crossed l rs (Some b))) same
      (flat_parts d h (crossed l rs (Some b)).slots (crossed_length l rs (Some b)), from_none (crossed l rs (Some b)).left (n + zero) m)

  pub end_none : (ls : List (Option Op)) → AllEmpty ls → length_at_end zero ls ≡ 0
  end_none [] h = refl
  end_none (None ∷ ls) h = end_none ls h
  end_none (Some a ∷ ls) h = absurd h

  -- what is behind them crosses the part behind them, also where nothing is in front
  pub behind_front : (g : ℕ) {ss ls rs : List (Option Op)} → Parts g zero ss ls rs → AllEmpty ls → (b : Op) → Behind g zero (length_at_end zero ls) ls (crossed l ss (Some (from (zero + g) b))) (crossed l rs (Some b))
  behind_front zero {ls = ls} d h b = behind_flat d h (length_at_end zero ls) (end_none ls h) b
  behind_front (suc g) d h b = crosses_behind l (suc g) d b (omega arith)

  -- ---- nothing is in front of the elements among which it is
  first_on : (d : Does) (g p q : ℕ) → p < g → longer d (q + (0 + g)) ≡ q + (0 + longer d g)
  first_on Inserts g p q h = omega arith
  first_on Erases g p q h = omega (arith, h)
  first_on Updates g p q h = refl

  abbrev pub First : ℕ → List (Option Op) → List (Option Op) → Op → Crossed → Type 0
  First g ls rs b whole = Parts g zero whole.slots ls rs × (whole.left ≡ Some b)

  pub passes_first : (g : ℕ) {ss ls rs : List (Option Op)} → Parts g zero ss ls rs → AllEmpty ls → (b : Op) → b.place < g → First (longer b.does g) ls rs b (crossed l ss (Some b))
  passes_first g end h b lt = (end, refl)
  passes_first g (empty d) h b lt = let r = passes_first g d h b lt in (empty r.0, r.1)
  passes_first g (front w d) h b lt = absurd h
  passes_first g (back {a = a} {ss = ss} {ls = ls} {rs = rs} d) h b lt =
      let la : Bool = l a.stamp b.stamp in
      let far : b.place < a.place + (zero + g) = omega (arith, lt) in
      let r = passes_first g d h b lt in
      let met : crossed l (Some (from (zero + g) a) ∷ ss) (Some b) ≡ behind (Some (from (zero + longer b.does g) a)) (crossed l ss (Some b)) =
      (λ i. behind (moved (from (zero + g) a) (second_pushed la b.does a.does b.place (a.place + (zero + g)) far i)) (crossed l ss (moved b (first_stands (not la) b.does a.does b.place (a.place + (zero + g)) far i))))
      ∙ ap (λ n. behind (Some (record a { place = n })) (crossed l ss (Some b))) (first_on b.does g b.place a.place lt) in
      subst (First (longer b.does g) (None ∷ ls) (Some a ∷ rs) b) (sym met) (back r.0, r.1)

  pub alone_is : {g x : ℕ} {ss ls rs : List (Option Op)} → Parts g x ss ls rs → AllEmpty rs → ss ≡ ls
  alone_is end h = refl
  alone_is (empty d) h = ap (λ xs. None ∷ xs) (alone_is d h)
  alone_is (front {a = a} w d) h = ap (λ xs. Some a ∷ xs) (alone_is d h)
  alone_is (back d) h = absurd h

  no_slots : (c : ℕ) → AllEmpty (empties c)
  no_slots zero = tt
  no_slots (suc c) = no_slots c

  abbrev pub Beyond : ℕ → ℕ → List (Option Op) → Op → Type 0
  Beyond x p ls b = crossed l ls (Some (record b { place = x + p })) ≡ record { slots = ls; left = Some (record b { place = length_at_end x ls + p }) }

  beyond : {g x : ℕ} (n : ℕ) (ls : List (Option Op)) (b : Op) (r : Crossed) (z : Op) → Parts g x r.slots ls (empties n) × (r.left ≡ Some z) → r ≡ record { slots = ls; left = Some z }
  beyond n ls b r z h = (λ i. record { slots = alone_is h.0 (no_slots n) i; left = h.1 i })

  pub beyond_element : (x p : ℕ) (ls : List (Option Op)) (b : Op) → Chains x ls → IsOfElement b.does → Beyond x p ls b
  beyond_element x p ls b h i = beyond (length ls) ls b (crossed l ls (Some (record b { place = x + p }))) (record b { place = length_at_end x ls + p }) (passes_one l (suc p) p b (alone (suc p) ls x h) i (omega arith))

  pub beyond_insertion : (x p : ℕ) (ls : List (Option Op)) (b : Op) → Chains x ls → b.does ≡ Inserts → 0 < p → Beyond x p ls b
  beyond_insertion x p ls b h i lt = beyond (length ls) ls b (crossed l ls (Some (record b { place = x + p }))) (record b { place = length_at_end x ls + p }) (passes_among l (suc p) p b (alone (suc p) ls x h) i lt (omega arith))
