-- The bounds of a burst tell on which side of an instruction it lies.
use Rattle.std.proofs.Common.{◌≡◌, ℕ, zero, suc, ◌+◌, ◌-◌, ◌<◌, ◌≤◌, Bool, true, false, not, List, [], ◌∷◌, ◌++◌, Option, Some, None, refl, sym, ap, ◌∙◌, subst, ⊎_elim, length, take, drop, get_or, append_assoc, arith}
use Rattle.std.specs.Prelude.{min, max, IfSome}
use Rattle.std.proofs.lemmas.Bool.{cases_lt}
use Rattle.std.proofs.lemmas.List.{drop_more}
use Rattle.sync_base.specs.Rules.{top}
use Rattle.sync_data.specs.declared.entry.Stamp.{Stamp}
use Rattle.list_places.specs.Places.{longer}
use Rattle.list_places.specs.declared.places.Does.{Does}
use Rattle.list_places.specs.declared.places.Does.TheVariants.{Inserts, Erases, Updates}
use Rattle.sync_theory.specs.Grid.{tail}
use Rattle.list_lane.specs.Lanes.{first_slot, length_at_end, slot_at}
use Rattle.list_lane.specs.Flat.{Placed}
use Rattle.list_lane.specs.Ops.{lane_later}
use Rattle.list_lane.specs.Bursts.{lift, lift_all, Leads, InFront, AllBehind, AllBefore, AllLater, pushed_all, AllFrom, width, AllPast, is_insertion, is_erasure, insertions, erasures, is_after, NoneBefore, NoneAfter, Bounded, IsBurst, earlier_of, later_of, with_op, with_slot, without_op, without_slot}
use Rattle.list_lane.specs.declared.bounds.Bounds.{Bounds}
use Rattle.list_lane.specs.declared.op.Op.{Op}
use Rattle.list_lane.proofs.Stamps.{none_after, earlier_first, earlier_second, later_first, later_second, still_later, still_earlier}

-- ---- a slot behind the others
module _ (a : Op) where
  from_last : (ss : List (Option Op)) (m k : ℕ) → AllFrom m ss → k ≤ m → k ≤ a.place → AllFrom k (ss ++ Some a ∷ [])
  from_last [] m k f h g = (g, tt)
  from_last (None ∷ ss) m k f h g = from_last ss m k f h g
  from_last (Some c ∷ ss) m k f h g = let r = f.0 in (omega (arith, h, r), from_last ss m k f.1 h g)

  past_last : (t : Bool) (ss : List (Option Op)) (p q : ℕ) → AllPast t p ss → p ≤ q → a.place + width t a.does + erasures ss ≤ q + insertions ss → AllPast t q (ss ++ Some a ∷ [])
  past_last t [] p q f h g = (omega (arith, g), tt)
  past_last t (None ∷ ss) p q f h g = past_last t ss p q f h g
  past_last t (Some c ∷ ss) p q f h g =
      let r = f.0 in
      (omega (arith, h, r), past_last t ss (longer c.does p) (longer c.does q) f.1 (longer_more c.does p q h) (on c.does q (erasures ss) (insertions ss) g))
    where
      longer_more : (d : Does) (p q : ℕ) → p ≤ q → longer d p ≤ longer d q
      longer_more Inserts p q h = omega (arith, h)
      longer_more Erases p q h = omega (arith, h)
      longer_more Updates p q h = h

      on : (d : Does) (q e i : ℕ) → a.place + width t a.does + (e + is_erasure d) ≤ q + (i + is_insertion d) → a.place + width t a.does + e ≤ longer d q + i
      on Inserts q e i g = omega (arith, g)
      on Erases q e i g = omega (arith, g)
      on Updates q e i g = omega (arith, g)

  insertions_last : (ss : List (Option Op)) → insertions (ss ++ Some a ∷ []) ≡ insertions ss + is_insertion a.does
  insertions_last [] = refl
  insertions_last (None ∷ ss) = insertions_last ss
  insertions_last (Some c ∷ ss) = let e = insertions_last ss in omega (arith, e)

  erasures_last : (ss : List (Option Op)) → erasures (ss ++ Some a ∷ []) ≡ erasures ss + is_erasure a.does
  erasures_last [] = refl
  erasures_last (None ∷ ss) = erasures_last ss
  erasures_last (Some c ∷ ss) = let e = erasures_last ss in omega (arith, e)

  none_before : (ss : List (Option Op)) (e f : Stamp) → NoneBefore e ss → is_after f e ≡ false → is_after f a.stamp ≡ false → NoneBefore f (ss ++ Some a ∷ [])
  none_before [] e f n h g = (g, tt)
  none_before (None ∷ ss) e f n h g = none_before ss e f n h g
  none_before (Some c ∷ ss) e f n h g = (none_after f e c.stamp h n.0, none_before ss e f n.1 h g)

  none_later : (ss : List (Option Op)) (e f : Stamp) → NoneAfter e ss → is_after e f ≡ false → is_after a.stamp f ≡ false → NoneAfter f (ss ++ Some a ∷ [])
  none_later [] e f n h g = (g, tt)
  none_later (None ∷ ss) e f n h g = none_later ss e f n h g
  none_later (Some c ∷ ss) e f n h g = (none_after c.stamp e f n.0 h, none_later ss e f n.1 h g)

  strict_reach : (d : Does) (x i e p : ℕ) → x + width false d + e ≤ max p (x + e + 1 - i) + i
  strict_reach Inserts x i e p = omega arith
  strict_reach Erases x i e p = omega arith
  strict_reach Updates x i e p = omega arith

  tied_reach : (d : Does) (x i e p : ℕ) → x + width true d + e ≤ max p (x + e + 1 - is_insertion d - i) + i
  tied_reach Inserts x i e p = omega arith
  tied_reach Erases x i e p = omega arith
  tied_reach Updates x i e p = omega arith

  bounded_op : (b : Bounds) (ss : List (Option Op)) → Bounded b ss → Bounded (with_op a b) (ss ++ Some a ∷ [])
  bounded_op b ss h =
      let i = h.inserted in
      let e = h.erased in
      let strict = strict_reach a.does a.place b.inserted b.erased b.past in
      let tied = tied_reach a.does a.place b.inserted b.erased b.edge in
      record {
        low = from_last ss b.low (min a.place b.low) h.low (omega arith) (omega arith);
        past = past_last false ss b.past (max b.past (a.place + b.erased + 1 - b.inserted)) h.past (omega arith) (omega (arith, i, e, strict));
        edge = past_last true ss b.edge (max b.edge (a.place + b.erased + 1 - is_insertion a.does - b.inserted)) h.edge (omega arith) (omega (arith, i, e, tied));
        inserted = ap (λ n. n + is_insertion a.does) h.inserted ∙ sym (insertions_last ss);
        erased = ap (λ n. n + is_erasure a.does) h.erased ∙ sym (erasures_last ss);
        earliest = none_before ss b.earliest (earlier_of a.stamp b.earliest) h.earliest (earlier_second a.stamp b.earliest) (earlier_first a.stamp b.earliest);
        latest = none_later ss b.latest (later_of a.stamp b.latest) h.latest (later_second a.stamp b.latest) (later_first a.stamp b.latest);
      }

-- ---- an empty one
from_none : (ss : List (Option Op)) (m : ℕ) → AllFrom m ss → AllFrom m (ss ++ None ∷ [])
from_none [] m f = tt
from_none (None ∷ ss) m f = from_none ss m f
from_none (Some c ∷ ss) m f = (f.0, from_none ss m f.1)

past_none : (t : Bool) (ss : List (Option Op)) (p : ℕ) → AllPast t p ss → AllPast t p (ss ++ None ∷ [])
past_none t [] p f = tt
past_none t (None ∷ ss) p f = past_none t ss p f
past_none t (Some c ∷ ss) p f = (f.0, past_none t ss (longer c.does p) f.1)

insertions_none : (ss : List (Option Op)) → insertions (ss ++ None ∷ []) ≡ insertions ss
insertions_none [] = refl
insertions_none (None ∷ ss) = insertions_none ss
insertions_none (Some c ∷ ss) = ap (λ n. n + is_insertion c.does) (insertions_none ss)

erasures_none : (ss : List (Option Op)) → erasures (ss ++ None ∷ []) ≡ erasures ss
erasures_none [] = refl
erasures_none (None ∷ ss) = erasures_none ss
erasures_none (Some c ∷ ss) = ap (λ n. n + is_erasure c.does) (erasures_none ss)

before_none : (ss : List (Option Op)) (e : Stamp) → NoneBefore e ss → NoneBefore e (ss ++ None ∷ [])
before_none [] e n = tt
before_none (None ∷ ss) e n = before_none ss e n
before_none (Some c ∷ ss) e n = (n.0, before_none ss e n.1)

later_none : (ss : List (Option Op)) (e : Stamp) → NoneAfter e ss → NoneAfter e (ss ++ None ∷ [])
later_none [] e n = tt
later_none (None ∷ ss) e n = later_none ss e n
later_none (Some c ∷ ss) e n = (n.0, later_none ss e n.1)

pub bounded_slot : (s : Option Op) (b : Bounds) (ss : List (Option Op)) → Bounded b ss → Bounded (with_slot s b) (ss ++ s ∷ [])
bounded_slot None b ss h = record {
  low = from_none ss b.low h.low;
  past = past_none false ss b.past h.past;
  edge = past_none true ss b.edge h.edge;
  inserted = h.inserted ∙ sym (insertions_none ss);
  erased = h.erased ∙ sym (erasures_none ss);
  earliest = before_none ss b.earliest h.earliest;
  latest = later_none ss b.latest h.latest;
}
bounded_slot (Some a) b ss h = bounded_op a b ss h

-- ---- the slots behind the first
bounded_behind : (a : Op) (b : Bounds) (ss : List (Option Op)) → Bounded b (Some a ∷ ss) → (d : Does) → a.does ≡ d → Bounded (without_op d b) ss
bounded_behind a b ss h Inserts e = record {
  low = h.low.1;
  past = subst (λ d. AllPast false (longer d b.past) ss) e h.past.1;
  edge = subst (λ d. AllPast true (longer d b.edge) ss) e h.edge.1;
  inserted = (let n = h.inserted in let one = ap is_insertion e in omega (arith, n, one));
  erased = (let n = h.erased in let none = ap is_erasure e in omega (arith, n, none));
  earliest = h.earliest.1;
  latest = h.latest.1;
}
bounded_behind a b ss h Erases e = record {
  low = h.low.1;
  past = subst (λ d. AllPast false (longer d b.past) ss) e h.past.1;
  edge = subst (λ d. AllPast true (longer d b.edge) ss) e h.edge.1;
  inserted = (let n = h.inserted in let none = ap is_insertion e in omega (arith, n, none));
  erased = (let n = h.erased in let one = ap is_erasure e in omega (arith, n, one));
  earliest = h.earliest.1;
  latest = h.latest.1;
}
bounded_behind a b ss h Updates e = record {
  low = h.low.1;
  past = subst (λ d. AllPast false (longer d b.past) ss) e h.past.1;
  edge = subst (λ d. AllPast true (longer d b.edge) ss) e h.edge.1;
  inserted = (let n = h.inserted in let none = ap is_insertion e in omega (arith, n, none));
  erased = (let n = h.erased in let none = ap is_erasure e in omega (arith, n, none));
  earliest = h.earliest.1;
  latest = h.latest.1;
}

bounded_rest : (s : Option Op) (b : Bounds) (ss : List (Option Op)) → Bounded b (s ∷ ss) → Bounded (without_slot s b) ss
bounded_rest None b ss h = record { low = h.low; past = h.past; edge = h.edge; inserted = h.inserted; erased = h.erased; earliest = h.earliest; latest = h.latest }
bounded_rest (Some a) b ss h = bounded_behind a b ss h a.does refl

low_stays : (d : Does) (b : Bounds) → (without_op d b).low ≡ b.low
low_stays Inserts b = refl
low_stays Erases b = refl
low_stays Updates b = refl

rest_low : (s : Option Op) (b : Bounds) → (without_slot s b).low ≡ b.low
rest_low None b = refl
rest_low (Some a) b = low_stays a.does b

-- what is kept of a burst without its first slot
pub burst_rest : (up down : ℕ) (b : Bounds) (ss : List (Option Op)) (s : Option Op) → 0 < length ss → s ≡ get_or ss 0 s → IsBurst up down b ss → IsBurst up down (without_slot s b) (tail ss)
burst_rest up down b [] s some is h = absurd (omega (arith, some))
burst_rest up down b (x ∷ ss) s some is h = record {
  bounded = subst (λ y. Bounded (without_slot y b) ss) (sym is) (bounded_rest x b ss h.bounded);
  front = (let f = h.front in let low = rest_low s b in omega (arith, f, low));
}

-- and what it is
pub lift_tail : (up down : ℕ) (ss : List (Option Op)) → lift_all up down (tail ss) ≡ tail (lift_all up down ss)
lift_tail up down [] = refl
lift_tail up down (s ∷ ss) = refl

pub first_at : (ss : List (Option Op)) → slot_at 0 ss ≡ first_slot ss
first_at [] = refl
first_at (s ∷ ss) = refl

-- a burst that wasn't moved back beyond the front stays so
pub front_slot : (s : Option Op) (b : Bounds) (up down : ℕ) → IfSome s (λ a. down ≤ a.place + up) → down ≤ b.low + up → down ≤ (with_slot s b).low + up
front_slot None b up down h g = g
front_slot (Some a) b up down h g = omega (arith, h, g)

-- ---- what is pushed on is written so
pub lift_insertion : (ss : List (Option Op)) (m up down : ℕ) → AllFrom m ss → down ≤ m + up → lift_all (up + 1) down ss ≡ pushed_all Inserts (lift_all up down ss)
lift_insertion [] m up down f h = refl
lift_insertion (None ∷ ss) m up down f h = ap (λ xs. None ∷ xs) (lift_insertion ss m up down f h)
lift_insertion (Some a ∷ ss) m up down f h =
    let g = f.0 in
    let e : a.place + (up + 1) - down ≡ a.place + up - down + 1 = omega (arith, g, h) in
    (λ i. Some (record a { place = e i }) ∷ lift_insertion ss m up down f.1 h i)

pub lift_erasure : (ss : List (Option Op)) (up down : ℕ) → lift_all up (down + 1) ss ≡ pushed_all Erases (lift_all up down ss)
lift_erasure [] up down = refl
lift_erasure (None ∷ ss) up down = ap (λ xs. None ∷ xs) (lift_erasure ss up down)
lift_erasure (Some a ∷ ss) up down =
    let e : a.place + up - (down + 1) ≡ a.place + up - down - 1 = omega arith in
    (λ i. Some (record a { place = e i }) ∷ lift_erasure ss up down i)

pub pushed_same : (ss : List (Option Op)) → pushed_all Updates ss ≡ ss
pushed_same [] = refl
pushed_same (None ∷ ss) = ap (λ xs. None ∷ xs) (pushed_same ss)
pushed_same (Some a ∷ ss) = ap (λ xs. Some a ∷ xs) (pushed_same ss)

pub lift_none : (ss : List (Option Op)) → lift_all 0 0 ss ≡ ss
lift_none [] = refl
lift_none (None ∷ ss) = ap (λ xs. None ∷ xs) (lift_none ss)
lift_none (Some a ∷ ss) =
    let e : a.place + 0 - 0 ≡ a.place = omega arith in
    (λ i. Some (record a { place = e i }) ∷ lift_none ss i)

pub lift_length : (ss : List (Option Op)) (up down : ℕ) → length (lift_all up down ss) ≡ length ss
lift_length [] up down = refl
lift_length (s ∷ ss) up down = ap (λ n. suc n) (lift_length ss up down)

-- ---- what is lifted is before a place that is past its bounds, lifted alike
pub lifted_past : (t : Bool) (ss : List (Option Op)) (m up down p q : ℕ) → AllFrom m ss → down ≤ m + up → AllPast t q ss → q + up ≤ p + down → AllPast t p (lift_all up down ss)
lifted_past t [] m up down p q f h b k = tt
lifted_past t (None ∷ ss) m up down p q f h b k = lifted_past t ss m up down p q f h b k
lifted_past t (Some a ∷ ss) m up down p q f h b k =
    let g = f.0 in
    let r = b.0 in
    (omega (arith, g, h, r, k), lifted_past t ss m up down (longer a.does p) (longer a.does q) f.1 h b.1 (both a.does p q a.place g r k))
  where
    one_wide : (t : Bool) → width t Erases ≡ 1
    one_wide true = refl
    one_wide false = refl

    both : (d : Does) (p q x : ℕ) → m ≤ x → x + width t d ≤ q → q + up ≤ p + down → longer d q + up ≤ longer d p + down
    both Inserts p q x g r k = omega (arith, k)
    both Erases p q x g r k = let w : width t Erases ≡ 1 = one_wide t in omega (arith, g, h, r, k, w)
    both Updates p q x g r k = k

-- ---- by stamps
module _ (left : Bool) (up down : ℕ) (t : Stamp) where
  pub all_later : (ss : List (Option Op)) (e : Stamp) → NoneBefore e ss → lane_later left e t ≡ true → AllLater true (lane_later left) t (lift_all up down ss)
  all_later [] e f h = tt
  all_later (None ∷ ss) e f h = all_later ss e f h
  all_later (Some a ∷ ss) e f h = (still_later left e a.stamp t f.0 h, all_later ss e f.1 h)

  pub all_earlier : (ss : List (Option Op)) (e : Stamp) → NoneAfter e ss → lane_later left e t ≡ false → AllLater false (lane_later left) t (lift_all up down ss)
  all_earlier [] e f h = tt
  all_earlier (None ∷ ss) e f h = all_earlier ss e f h
  all_earlier (Some a ∷ ss) e f h = (still_earlier left a.stamp e t f.0 h, all_earlier ss e f.1 h)

-- ---- so all are behind an instruction, or before it
module _ (l : Stamp → Stamp → Bool) where
  pub are_behind : (ss : List (Option Op)) (m up down : ℕ) (b : Op) → AllFrom m ss → b.place + down < m + up → AllBehind l b (lift_all up down ss)
  are_behind [] m up down b f h = tt
  are_behind (None ∷ ss) m up down b f h = are_behind ss m up down b f h
  are_behind (Some a ∷ ss) m up down b f h = let g = f.0 in ((omega (arith, g, h), λ e. absurd (omega (arith, g, h, e))), are_behind ss m up down b f.1 h)

  leads_any : (d : Does) (f : Bool) → f ≡ true → Leads Inserts d f
  leads_any Inserts f h = h
  leads_any Erases f h = tt
  leads_any Updates f h = tt

  pub are_led : (ss : List (Option Op)) (m up down : ℕ) (b : Op) → AllFrom m ss → b.place + down ≤ m + up → b.does ≡ Inserts → AllLater true l b.stamp (lift_all up down ss) → AllBehind l b (lift_all up down ss)
  are_led [] m up down b f h e s = tt
  are_led (None ∷ ss) m up down b f h e s = are_led ss m up down b f h e s
  are_led (Some a ∷ ss) m up down b f h e s =
      let g = f.0 in
      ((omega (arith, g, h), λ _. subst (λ d. Leads d a.does (l a.stamp b.stamp)) (sym e) (leads_any a.does (l a.stamp b.stamp) s.0)), are_led ss m up down b f.1 h e s.1)

  front_of : (t : Bool) (a b : Op) → a.place + width t a.does ≤ b.place → (t ≡ true → b.does ≡ Inserts → l a.stamp b.stamp ≡ false) → InFront (not (l a.stamp b.stamp)) a b
  front_of t a b h f = (omega (arith, h), λ e. at_once t a.does b.does (omega (arith, h, e)) f)
    where
      at_once : (t : Bool) (d e : Does) → width t d ≡ 0 → (t ≡ true → e ≡ Inserts → l a.stamp b.stamp ≡ false) → Leads d e (not (l a.stamp b.stamp))
      at_once true Inserts Inserts w f = ap not (f refl refl)
      at_once t Inserts Erases w f = tt
      at_once t Inserts Updates w f = tt
      at_once false Inserts Inserts w f = absurd (omega (arith, w))
      at_once t Erases e w f = absurd (omega (arith, w))
      at_once t Updates e w f = absurd (omega (arith, w))

  pub are_before : (t : Bool) (ss : List (Option Op)) (b : Op) → AllPast t b.place ss → (t ≡ true → b.does ≡ Inserts → AllLater false l b.stamp ss) → AllBefore l b ss
  are_before t [] b h f = tt
  are_before t (None ∷ ss) b h f = are_before t ss b h f
  are_before t (Some a ∷ ss) b h f = (front_of t a b h.0 (λ u e. (f u e).0), are_before t ss (record b { place = longer a.does b.place }) h.1 (λ u e. (f u e).1))

-- ---- how far a place is pushed by those before it
count_push : (d : Does) (p i e l : ℕ) → (d ≡ Erases → 0 < p) → l + e ≡ longer d p + i → l + (e + is_erasure d) ≡ p + (i + is_insertion d)
count_push Inserts p i e l h k = omega (arith, k)
count_push Erases p i e l h k = let lt = h refl in omega (arith, lt, k)
count_push Updates p i e l h k = omega (arith, k)

pub pushed_far : (l : Stamp → Stamp → Bool) (ss : List (Option Op)) (up down : ℕ) (b : Op) → AllBefore l b (lift_all up down ss) → length_at_end b.place (lift_all up down ss) + erasures ss ≡ b.place + insertions ss
pushed_far l [] up down b h = refl
pushed_far l (None ∷ ss) up down b h = pushed_far l ss up down b h
pushed_far l (Some a ∷ ss) up down b h =
    count_push a.does b.place (insertions ss) (erasures ss) (length_at_end (longer a.does b.place) (lift_all up down ss)) (erases_before a.does h.0) (pushed_far l ss up down (record b { place = longer a.does b.place }) h.1)
  where
    erases_before : (d : Does) → (a.place + up - down ≤ b.place) × ((a.place + up - down ≡ b.place) → Leads d b.does (not (l a.stamp b.stamp))) → d ≡ Erases → 0 < b.place
    erases_before Inserts h e = cc
    erases_before Updates h e = cc
    erases_before Erases h e = let k = h.0 in ⊎_elim (λ lt. omega (arith, lt)) (λ le. absurd (h.1 (omega (arith, k, le)))) (cases_lt (a.place + up - down) b.place)

pub counts_few : (ss : List (Option Op)) → (insertions ss ≤ length ss) × (erasures ss ≤ length ss)
counts_few [] = (omega arith, omega arith)
counts_few (None ∷ ss) = let h = counts_few ss in let i = h.0 in let e = h.1 in (omega (arith, i), omega (arith, e))
counts_few (Some a ∷ ss) = let h = counts_few ss in (one (is_insertion a.does) (insertions ss) (length ss) (few_insertions a.does) h.0, one (is_erasure a.does) (erasures ss) (length ss) (few_erasures a.does) h.1)
  where
    few_insertions : (d : Does) → is_insertion d ≤ 1
    few_insertions Inserts = omega arith
    few_insertions Erases = omega arith
    few_insertions Updates = omega arith

    few_erasures : (d : Does) → is_erasure d ≤ 1
    few_erasures Inserts = omega arith
    few_erasures Erases = omega arith
    few_erasures Updates = omega arith

    one : (k i n : ℕ) → k ≤ 1 → i ≤ n → i + k ≤ suc n
    one k i n f h = omega (arith, f, h)

pub lift_append : (ss ts : List (Option Op)) (up down : ℕ) → lift_all up down (ss ++ ts) ≡ lift_all up down ss ++ lift_all up down ts
lift_append [] ts up down = refl
lift_append (s ∷ ss) ts up down = ap (λ r. lift up down s ∷ r) (lift_append ss ts up down)

pub lift_drop : (ss : List (Option Op)) (i up down : ℕ) → lift_all up down (drop i ss) ≡ drop i (lift_all up down ss)
lift_drop [] zero up down = refl
lift_drop [] (suc i) up down = refl
lift_drop (s ∷ ss) zero up down = refl
lift_drop (s ∷ ss) (suc i) up down = lift_drop ss i up down

pub placed_drop : (ss : List (Option Op)) (i : ℕ) → Placed ss → Placed (drop i ss)
placed_drop [] zero h = tt
placed_drop [] (suc i) h = tt
placed_drop (s ∷ ss) zero h = h
placed_drop (None ∷ ss) (suc i) h = placed_drop ss i h
placed_drop (Some a ∷ ss) (suc i) h = placed_drop ss i h.1

-- what is lifted up to a place, and the rest
pub lift_turn : (xs zs : List (Option Op)) (whole : List (Option Op)) (i up down : ℕ) (d : Option Op) → i < length xs → whole ≡ take i xs ++ lift_all up down (drop i xs) → take (i + 1) zs ≡ take i xs ++ lift_all up down (take 1 (drop i xs))
    → whole ≡ take (i + 1) zs ++ lift_all up down (drop (i + 1) xs)
lift_turn xs zs whole i up down d lt e front =
    e
    ∙ ap (λ r. take i xs ++ lift_all up down r) (drop_more xs i d lt)
    ∙ sym (append_assoc (take i xs) (lift up down (get_or xs i d) ∷ []) (lift_all up down (drop (i + 1) xs)))
    ∙ ap (λ r. (take i xs ++ lift_all up down (take 1 r)) ++ lift_all up down (drop (i + 1) xs)) (sym (drop_more xs i d lt))
    ∙ ap (λ r. r ++ lift_all up down (drop (i + 1) xs)) (sym front)

-- an op that is lifted has a place
pub lifted_placed : (xs : List (Option Op)) (i up down : ℕ) (d : Option Op) (a : Op) → i < length xs → Some a ≡ get_or xs i d → Placed (lift_all up down xs) → a.place + up - down < top
lifted_placed xs i up down d a lt e h =
    let k : Placed (lift_all up down (drop i xs)) = subst Placed (sym (lift_drop xs i up down)) (placed_drop (lift_all up down xs) i h) in
    let g : Placed (lift_all up down (Some a ∷ drop (i + 1) xs)) = subst (λ r. Placed (lift_all up down r)) (drop_more xs i d lt ∙ ap (λ y. y ∷ drop (i + 1) xs) (sym e)) k in
    g.0

pub slot_lifted : (xs : List (Option Op)) (i up down : ℕ) (d : Option Op) → i < length xs → slot_at i (lift_all up down xs) ≡ lift up down (get_or xs i d)
slot_lifted [] i up down d lt = absurd (omega (arith, lt))
slot_lifted (s ∷ xs) zero up down d lt = refl
slot_lifted (s ∷ xs) (suc i) up down d lt = slot_lifted xs i up down d (omega (arith, lt))
