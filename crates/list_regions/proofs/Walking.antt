-- A walk over regions, and over the slots of one.
use Rattle.std.proofs.Common.{◌≡◌, ℕ, suc, ◌+◌, ◌-◌, ◌<◌, ◌≤◌, cond, List, length, drop, Option, Some, None, sym, ap, ◌∙◌, subst, arith}
use Rattle.std.specs.Prelude.{slice_get, IfSome, ◌==◌, nat_lt}
use Rattle.std.proofs.lemmas.Bool.{eq-eqb, ne_eqb, lt-ltb, le-ltb}
use Rattle.sync_base.specs.Rules.{top}
use Rattle.list_lane.specs.Lanes.{length_at_end, length_before, slot_at, Fits}
use Rattle.list_lane.specs.declared.op.Op.{Op}
use Rattle.list_lane.proofs.Rooms.{slot_fits, within_most}
use Rattle.list_lane.proofs.Joins.{before_most}
use Rattle.list_regions.specs.Regions.{RegionOf, befores, moved_on, either, find, length_to, look, lengths_to}
use Rattle.list_regions.specs.Kept.{Walked}
use Rattle.list_regions.specs.Merges.{Slots}
use Rattle.list_regions.proofs.Found.{rest_at}
use Rattle.list_regions.proofs.Views.{whole_slots}
use Rattle.list_regions.proofs.Popping.{whole_numbers}
use Rattle.list_regions.proofs.Slots.{moved_twice, whole_slot, whole_before}
use Rattle.list_regions.proofs.Turned.{slot_rest, number_rest, before_more, before_all, none_left}

-- ---- in a region
pub find_turn : (n m i : ℕ) (ns : List ℕ) (ss : List (Option Op)) → slice_get ns i ≡ Some m → i < length ss → find n (drop i ns) (drop i ss) ≡ cond (m == n) (slot_at i ss) (find n (drop (i + 1) ns) (drop (i + 1) ss))
find_turn n m i ns ss g lt = (λ j. find n (number_rest ns i m g j) (slot_rest ss i lt j))

pub find_here : (n m i : ℕ) (ns : List ℕ) (ss : List (Option Op)) → slice_get ns i ≡ Some m → i < length ss → m ≡ n → find n (drop i ns) (drop i ss) ≡ slot_at i ss
find_here n m i ns ss g lt e = find_turn n m i ns ss g lt ∙ ap (λ t. cond t (slot_at i ss) (find n (drop (i + 1) ns) (drop (i + 1) ss))) (eq-eqb m n e)

pub find_on : (n m i : ℕ) (ns : List ℕ) (ss : List (Option Op)) → slice_get ns i ≡ Some m → i < length ss → (m ≡ n → ⊥) → find n (drop i ns) (drop i ss) ≡ find n (drop (i + 1) ns) (drop (i + 1) ss)
find_on n m i ns ss g lt e = find_turn n m i ns ss g lt ∙ ap (λ t. cond t (slot_at i ss) (find n (drop (i + 1) ns) (drop (i + 1) ss))) (ne_eqb m n e)

pub find_none : (n i : ℕ) (ns : List ℕ) (ss : List (Option Op)) → length ns ≤ i → find n (drop i ns) (drop i ss) ≡ None
find_none n i ns ss h = ap (λ r. find n r (drop i ss)) (none_left ns i h)

to_turn : (n m i x : ℕ) (ns : List ℕ) (ss : List (Option Op)) → slice_get ns i ≡ Some m → i < length ss → length_to n (length_before i x ss) (drop i ns) (drop i ss) ≡ cond (nat_lt m n) (length_to n (length_before (i + 1) x ss) (drop (i + 1) ns) (drop (i + 1) ss)) (length_before i x ss)
to_turn n m i x ns ss g lt =
    (λ j. length_to n (length_before i x ss) (number_rest ns i m g j) (slot_rest ss i lt j))
    ∙ ap (λ y. cond (nat_lt m n) (length_to n y (drop (i + 1) ns) (drop (i + 1) ss)) (length_before i x ss)) (sym (before_more ss i x lt))

pub to_here : (n m i x : ℕ) (ns : List ℕ) (ss : List (Option Op)) → slice_get ns i ≡ Some m → i < length ss → n ≤ m → length_to n (length_before i x ss) (drop i ns) (drop i ss) ≡ length_before i x ss
to_here n m i x ns ss g lt e = to_turn n m i x ns ss g lt ∙ ap (λ t. cond t (length_to n (length_before (i + 1) x ss) (drop (i + 1) ns) (drop (i + 1) ss)) (length_before i x ss)) (le-ltb m n e)

pub to_on : (n m i x : ℕ) (ns : List ℕ) (ss : List (Option Op)) → slice_get ns i ≡ Some m → i < length ss → m < n → length_to n (length_before i x ss) (drop i ns) (drop i ss) ≡ length_to n (length_before (i + 1) x ss) (drop (i + 1) ns) (drop (i + 1) ss)
to_on n m i x ns ss g lt e = to_turn n m i x ns ss g lt ∙ ap (λ t. cond t (length_to n (length_before (i + 1) x ss) (drop (i + 1) ns) (drop (i + 1) ss)) (length_before i x ss)) (lt-ltb m n e)

pub to_end : (n i x : ℕ) (ns : List ℕ) (ss : List (Option Op)) → length ns ≤ i → length ss ≤ i → length_to n (length_before i x ss) (drop i ns) (drop i ss) ≡ length_at_end x ss
to_end n i x ns ss h k = ap (λ r. length_to n (length_before i x ss) r (drop i ss)) (none_left ns i h) ∙ before_all ss i x k

-- ---- from region to region
pub walk_here : (whole : Option Op) (n i passed : ℕ) (qs : List RegionOf) (q : RegionOf) (op : Op) → whole ≡ moved_on passed (look n (drop i qs)) → slice_get qs i ≡ Some q → Some op ≡ find n q.numbers q.lane.slots → whole ≡ Some (record op { place = op.place + (passed + q.gap) })
walk_here whole n i passed qs q op e g f =
    let k : op.place + q.gap + passed ≡ op.place + (passed + q.gap) = omega arith in
    e ∙ ap (λ r. moved_on passed (look n r)) (rest_at qs i q g) ∙ ap (λ o. moved_on passed (either (moved_on q.gap o) (moved_on (q.gap + length_to n q.lane.first q.numbers q.lane.slots) (look n (drop (suc i) qs))))) (sym f) ∙ ap (λ m. Some (record op { place = m })) k

pub walk_on : (whole : Option Op) (n i passed : ℕ) (qs : List RegionOf) (q : RegionOf) → whole ≡ moved_on passed (look n (drop i qs)) → slice_get qs i ≡ Some q → None ≡ find n q.numbers q.lane.slots → (m : ℕ) → m ≡ passed + (q.gap + length_to n q.lane.first q.numbers q.lane.slots) → whole ≡ moved_on m (look n (drop (i + 1) qs))
walk_on whole n i passed qs q e g f m is =
    let y = q.gap + length_to n q.lane.first q.numbers q.lane.slots in
    let k : suc i ≡ i + 1 = omega arith in
    e ∙ ap (λ r. moved_on passed (look n r)) (rest_at qs i q g) ∙ ap (λ o. moved_on passed (either (moved_on q.gap o) (moved_on y (look n (drop (suc i) qs))))) (sym f)
    ∙ moved_twice passed y m (look n (drop (suc i) qs)) (sym is) ∙ ap (λ j. moved_on m (look n (drop j qs))) k

pub walk_end : (whole : Option Op) (n i passed : ℕ) (qs : List RegionOf) → whole ≡ moved_on passed (look n (drop i qs)) → length qs ≤ i → whole ≡ None
walk_end whole n i passed qs e h = e ∙ ap (λ r. moved_on passed (look n r)) (none_left qs i h)

pub sum_on : (n i passed : ℕ) (qs : List RegionOf) (q : RegionOf) → slice_get qs i ≡ Some q → passed + lengths_to n (drop i qs) ≡ lengths_to n qs → (m : ℕ) → m ≡ passed + (q.gap + length_to n q.lane.first q.numbers q.lane.slots) → m + lengths_to n (drop (i + 1) qs) ≡ lengths_to n qs
sum_on n i passed qs q g e m is =
    let k : i + 1 ≡ suc i = omega arith in
    let same = ap (λ j. lengths_to n (drop j qs)) k in
    let rest = ap (lengths_to n) (rest_at qs i q g) in
    omega (arith, e, is, same, rest)

pub sum_here : (n i passed : ℕ) (qs : List RegionOf) (q : RegionOf) → slice_get qs i ≡ Some q → passed + lengths_to n (drop i qs) ≡ lengths_to n qs → passed + (q.gap + length_to n q.lane.first q.numbers q.lane.slots) ≤ lengths_to n qs
sum_here n i passed qs q g e = let rest = ap (lengths_to n) (rest_at qs i q g) in omega (arith, e, rest)

pub sum_end : (n i passed : ℕ) (qs : List RegionOf) → passed + lengths_to n (drop i qs) ≡ lengths_to n qs → length qs ≤ i → passed ≡ lengths_to n qs
sum_end n i passed qs e h = let rest = ap (lengths_to n) (none_left qs i h) in omega (arith, e, rest)

-- ---- nothing is too far
pub lengths_are : (qs : List RegionOf) (n : ℕ) (w : Walked qs n) → length_before w.place w.length_is w.slots ≡ lengths_to n qs + (w.length_is - befores qs)
lengths_are qs n w =
    let fits = w.fits in
    let whole : w.length_is ≡ befores qs + (w.length_is - befores qs) = omega (arith, fits) in
    ap (λ m. length_before w.place m w.slots) whole ∙ whole_before w.popped w.place n w.number_is w.whole (w.length_is - befores qs)

pub lengths_low : (qs : List RegionOf) (n : ℕ) → Walked qs n → lengths_to n qs < top
lengths_low qs n w =
    let is = lengths_are qs n w in
    let low = before_most w.slots w.place w.length_is in
    let within = w.within in
    let room = w.room in
    omega (arith, is, low, within, room)

slot_low : (z : Option Op) (m n : ℕ) → Fits m z → m ≤ n → IfSome z (λ y. y.place ≤ n)
slot_low None m n f h = tt
slot_low (Some a) m n f h = let w = within_most a.does a.place m f in omega (arith, w, h)

pub look_low : (qs : List RegionOf) (n : ℕ) → Walked qs n → IfSome (look n qs) (λ y. y.place ≤ top)
look_low qs n w =
    let low = before_most w.slots w.place w.length_is in
    let within = w.within in
    let room = w.room in
    subst (λ z. IfSome z (λ y. y.place ≤ top)) (whole_slot w.popped w.place n w.number_is w.whole)
    (slot_low (slot_at w.place w.slots) (length_before w.place w.length_is w.slots) top (slot_fits w.place w.length_is w.slots w.chains) (omega (arith, low, within, room)))

pub some_low : (z : Option Op) (op : Op) → z ≡ Some op → IfSome z (λ y. y.place ≤ top) → op.place ≤ top
some_low z op e h = subst (λ z. IfSome z (λ y. y.place ≤ top)) e h

pub walked_slots : (qs : List RegionOf) (n i : ℕ) (q : RegionOf) → Walked qs n → slice_get qs i ≡ Some q → Slots q
walked_slots qs n i q w g =
    let few = whole_slots w.whole i q g in
    let room = w.room in
    record { are = whole_numbers w.whole i q g; few = omega (arith, few, room) }
