-- What is kept of regions, as they are crossed and grow.
use Rattle.std.proofs.Common.{◌≡◌, ℕ, zero, suc, ◌+◌, ◌-◌, ◌<◌, ◌≤◌, Bool, List, [], ◌∷◌, ◌++◌, length, length-append, Option, Some, None, refl, sym, ap, ◌∙◌, subst, arith}
use Rattle.std.specs.Prelude.{max}
use Rattle.sync_data.specs.declared.entry.Stamp.{Stamp}
use Rattle.sync_base.specs.Rules.{top}
use Rattle.sync_theory.specs.Grid.{tail}
use Rattle.list_places.specs.Places.{longer, Within}
use Rattle.list_lane.specs.Lanes.{LaneOf, crossed, slot_at, length_before, first_slot, without_first, length_after, length_at_end}
use Rattle.list_places.specs.declared.places.Does.{Does}
use Rattle.list_places.specs.declared.places.Does.TheVariants.{Inserts, Erases, Updates}
use Rattle.list_lane.specs.Flat.{IsLane}
use Rattle.list_lane.specs.declared.op.Op.{Op}
use Rattle.list_lane.proofs.Rooms.{crossed_length, crossed_lane, lane_more, lane_less}
use Rattle.list_regions.specs.Regions.{RegionOf, befores, afters, empties, woven, lengths_to, Whole}
use Rattle.list_regions.specs.Kept.{reach, IsRegions, Meets, Passes, Ends, Opened, Pushed, Starts, PopsFirst, Alike, Walked}
use Rattle.list_regions.proofs.Views.{whole_is, whole_end}
use Rattle.list_lane.proofs.Joins.{before_most}
use Rattle.list_regions.proofs.Slots.{whole_before}
use Rattle.list_regions.proofs.Pushing.{whole_none_pushed}

-- all slots
abbrev pub all : ℕ → ℕ → List RegionOf → List (Option Op)
all k c qs = woven k c 0 (empties c) qs

pub meets : (k c first last : ℕ) (qs : List RegionOf) (b : Op) → IsRegions k c first last qs (all k c qs) → Within b.does b.place first → first + length (all k c qs) + 1 < top → Meets qs b
meets k c first last qs b h w room = record { popped = k; length_is = first; slots = all k c qs; whole = h.whole; within = w; room = room; fits = h.fits }

module _ (l : Stamp → Stamp → Bool) (k c first last : ℕ) (qs zs : List RegionOf) (b : Op) (z : Option Op) (h : IsRegions k c first last qs (all k c qs)) (p : Passes l qs b z zs) where
  -- the slots as crossed
  pub crossed_is : all k c zs ≡ (crossed l (all k c qs) (Some b)).slots
  crossed_is =
      let r = p.slots k (all k c qs) h.whole in
      whole_is k r.0 c (h.lane.count_is ∙ sym (crossed_length l (all k c qs) (Some b)))

  pub left_is : z ≡ (crossed l (all k c qs) (Some b)).left
  left_is = let r = p.slots k (all k c qs) h.whole in sym r.1

  pub crossed_keeps : Within b.does b.place first → first + length (all k c qs) + 1 < top → IsRegions k c (longer b.does first) (length_after z last) zs (all k c zs)
  crossed_keeps w room =
      let r = p.slots k (all k c qs) h.whole in
      subst (IsRegions k c (longer b.does first) (length_after z last) zs) (sym crossed_is) (record {
        whole = r.0;
        lane = subst (λ o. IsLane (longer b.does first) (length_after o last) c (crossed l (all k c qs) (Some b)).slots) (sym left_is) (crossed_lane l first last c (all k c qs) b h.lane w room);
        fits = p.fits first h.fits w;
        numbers = h.numbers;
      })

-- ---- a slot more
pub ends : (k c first last : ℕ) (qs : List RegionOf) (b : Op) (n : ℕ) → IsRegions k c first last qs (all k c qs) → Within b.does b.place (length_at_end first (all k c qs)) → first + length (all k c qs) + 1 < top → n ≡ k + c → Ends qs b n
ends k c first last qs b n h w room e =
    let count = h.lane.count_is in
    record { popped = k; length_is = first; slots = all k c qs; whole = h.whole; within = w; room = room; fits = h.fits; number_is = omega (arith, e, count) }

pub more_fits : (a b c d n : ℕ) → a + b ≤ c + max b d → c ≤ n → d ≤ b + (n - c) → a ≤ n
more_fits a b c d n h k m = omega (arith, h, k, m)

pub reach_low : (d : Does) (p n : ℕ) → Within d p n → reach d p ≤ n
reach_low Inserts p n h = h
reach_low Erases p n h = omega (arith, h)
reach_low Updates p n h = omega (arith, h)

module _ (k c first last : ℕ) (qs zs : List RegionOf) (b : Op) (h : IsRegions k c first last qs (all k c qs)) (w : Within b.does b.place (length_at_end first (all k c qs))) where
  still_fits : befores zs + afters qs ≤ befores qs + max (afters qs) (reach b.does b.place) → befores zs ≤ first
  still_fits f =
      let fits = h.fits in
      let whole : befores qs + (first - befores qs) ≡ first = omega (arith, fits) in
      let last = whole_end h.whole (first - befores qs) in
      let same = ap (λ n. length_at_end n (all k c qs)) whole in
      let far = reach_low b.does b.place (length_at_end first (all k c qs)) w in
      more_fits (befores zs) (afters qs) (befores qs) (reach b.does b.place) first f fits (omega (arith, last, same, far))

  -- regions that tell the same
  pub opened_is : Opened qs b zs → all k c zs ≡ all k c qs
  opened_is o = whole_is k (o.same k (all k c qs) h.whole) c h.lane.count_is

  pub opened_keeps : Opened qs b zs → IsRegions k c first last zs (all k c zs)
  opened_keeps o = subst (IsRegions k c first last zs) (sym (opened_is o)) (record { whole = o.same k (all k c qs) h.whole; lane = h.lane; fits = still_fits o.fits; numbers = h.numbers })

  -- and one slot more
  module _ (n : ℕ) (e : n ≡ k + c) (low : n < 18446744073709551614) (p : Pushed qs b n zs) where
    pub pushed_is : all k (c + 1) zs ≡ all k c qs ++ Some b ∷ []
    pushed_is =
        let count = h.lane.count_is in
        let long = length-append (all k c qs) (Some b ∷ []) in
        whole_is k (p.slots k (all k c qs) (omega (arith, count, e)) h.whole) (c + 1) (omega (arith, count, long))

    pub pushed_keeps : first + length (all k c qs) + 1 < top → IsRegions k (c + 1) first (longer b.does last) zs (all k (c + 1) zs)
    pushed_keeps room =
        let count = h.lane.count_is in
        subst (IsRegions k (c + 1) first (longer b.does last) zs) (sym pushed_is) (record {
          whole = p.slots k (all k c qs) (omega (arith, count, e)) h.whole;
          lane = lane_more first last c (all k c qs) (Some b) h.lane w room;
          fits = still_fits p.fits;
          numbers = omega (arith, e, low);
        })

-- or an empty one
module _ (k c first last : ℕ) (qs : List RegionOf) (h : IsRegions k c first last qs (all k c qs)) where
  pub empty_is : all k (c + 1) qs ≡ all k c qs ++ None ∷ []
  empty_is =
      let count = h.lane.count_is in
      let long = length-append (all k c qs) (None ∷ []) in
      whole_is k (whole_none_pushed k qs (all k c qs) h.whole) (c + 1) (omega (arith, count, long))

  pub empty_keeps : first + length (all k c qs) + 1 < top → k + c < 18446744073709551614 → IsRegions k (c + 1) first last qs (all k (c + 1) qs)
  empty_keeps room low =
      subst (IsRegions k (c + 1) first last qs) (sym empty_is) (record {
        whole = whole_none_pushed k qs (all k c qs) h.whole;
        lane = lane_more first last c (all k c qs) None h.lane tt room;
        fits = h.fits;
        numbers = omega (arith, low);
      })

-- ---- a slot less
starts_of : (k c first last : ℕ) (qs : List RegionOf) (ss : List (Option Op)) → IsRegions k c first last qs ss → 0 < c → Starts qs k
starts_of k c first last qs [] h lt = let count = h.lane.count_is in absurd (omega (arith, count, lt))
starts_of k c first last qs (s ∷ ss) h lt =
    let room = h.lane.room in
    let low = h.numbers in
    record { length_is = first; slot = s; slots = ss; whole = h.whole; room = omega (arith, room); fits = h.fits; low = omega (arith, low) }

pub starts : (k c first last : ℕ) (qs : List RegionOf) → IsRegions k c first last qs (all k c qs) → 0 < c → Starts qs k
starts k c first last qs h lt = starts_of k c first last qs (all k c qs) h lt

popped_of : (k : ℕ) (qs zs : List RegionOf) (z : Option Op) (ss : List (Option Op)) → Whole k qs ss → 0 < length ss → PopsFirst qs k z zs → Whole (suc k) zs (tail ss) × (z ≡ first_slot ss)
popped_of k qs zs z [] w lt p = absurd (omega (arith, lt))
popped_of k qs zs z (s ∷ ss) w lt p = p.slots s ss w

tail_length : (ss : List (Option Op)) → length (tail ss) ≡ length ss - 1
tail_length [] = refl
tail_length (s ∷ ss) = omega arith

longer_less : (d : Does) (m n : ℕ) → m ≤ n → longer d m ≤ longer d n
longer_less Inserts m n h = omega (arith, h)
longer_less Erases m n h = omega (arith, h)
longer_less Updates m n h = h

after_less : (z : Option Op) (m n : ℕ) → m ≤ n → length_after z m ≤ length_after z n
after_less None m n h = h
after_less (Some a) m n h = longer_less a.does m n h

module _ (k c first last : ℕ) (qs zs : List RegionOf) (z : Option Op) (h : IsRegions k c first last qs (all k c qs)) (lt : 0 < c) (p : PopsFirst qs k z zs) where
  popped_whole : Whole (suc k) zs (tail (all k c qs)) × (z ≡ first_slot (all k c qs))
  popped_whole = let count = h.lane.count_is in popped_of k qs zs z (all k c qs) h.whole (omega (arith, count, lt)) p

  pub popped_slot : z ≡ first_slot (all k c qs)
  popped_slot = popped_whole.1

  pub popped_is : all (k + 1) (c - 1) zs ≡ tail (all k c qs)
  popped_is =
      let count = h.lane.count_is in
      let long = tail_length (all k c qs) in
      let e : k + 1 ≡ suc k = omega arith in
      ap (λ n. all n (c - 1) zs) e ∙ whole_is (suc k) popped_whole.0 (c - 1) (omega (arith, count, long))

  pub popped_keeps : IsRegions (k + 1) (c - 1) (length_after z first) last zs (all (k + 1) (c - 1) zs)
  popped_keeps =
      let e : suc k ≡ k + 1 = omega arith in
      let low = h.numbers in
      let less = after_less z (befores qs) first h.fits in
      let sum = p.fits in
      subst (IsRegions (k + 1) (c - 1) (length_after z first) last zs) (sym popped_is) (record {
        whole = subst (λ n. Whole n zs (tail (all k c qs))) e popped_whole.0;
        lane = subst (λ o. IsLane (length_after o first) last (c - 1) (tail (all k c qs))) (sym popped_slot) (lane_less first last c (all k c qs) h.lane);
        fits = omega (arith, less, sum);
        numbers = omega (arith, low, lt);
      })

-- where there is none
abbrev pub lane_of : ℕ → List (Option Op) → LaneOf
lane_of n ss = record { first = n; slots = ss }

pub nothing_first : (n : ℕ) (ss : List (Option Op)) → 0 ≡ length ss → lane_of n ss ≡ without_first n ss
nothing_first n [] e = refl
nothing_first n (s ∷ ss) e = absurd (omega (arith, e))

pub nothing_slot : (ss : List (Option Op)) → 0 ≡ length ss → None ≡ first_slot ss
nothing_slot [] e = refl
nothing_slot (s ∷ ss) e = absurd (omega (arith, e))

-- ---- others that tell the same
module _ (k c first last : ℕ) (qs zs : List RegionOf) (h : IsRegions k c first last qs (all k c qs)) (a : Alike qs zs) where
  pub alike_is : all k c zs ≡ all k c qs
  alike_is = whole_is k (a.same k (all k c qs) h.whole) c h.lane.count_is

  pub alike_keeps : IsRegions k c first last zs (all k c zs)
  alike_keeps =
      let fits = h.fits in
      let same = a.befores_are in
      subst (IsRegions k c first last zs) (sym alike_is) (record { whole = a.same k (all k c qs) h.whole; lane = h.lane; fits = omega (arith, fits, same); numbers = h.numbers })

-- ---- one slot
pub walked : (k c first last : ℕ) (qs : List RegionOf) (i n : ℕ) → IsRegions k c first last qs (all k c qs) → i < c → k + i ≡ n → Walked qs n
walked k c first last qs i n h lt e =
    let count = h.lane.count_is in
    record { popped = k; place = i; length_is = first; slots = all k c qs; whole = h.whole; chains = h.lane.chains; room = h.lane.room; fits = h.fits; within = omega (arith, lt, count); number_is = e }

pub slot_past : (i : ℕ) (ss : List (Option Op)) → length ss ≤ i → None ≡ slot_at i ss
slot_past i [] h = refl
slot_past zero (s ∷ ss) h = absurd (omega (arith, h))
slot_past (suc i) (s ∷ ss) h = slot_past i ss (omega (arith, h))

pub lengths_kept : (k c first last : ℕ) (qs : List RegionOf) (i : ℕ) → IsRegions k c first last qs (all k c qs) → length_before i first (all k c qs) ≡ first - befores qs + lengths_to (k + i) qs
lengths_kept k c first last qs i h =
    let fits = h.fits in
    let t = first - befores qs in
    let whole : first ≡ befores qs + t = omega (arith, fits) in
    let turn : lengths_to (k + i) qs + t ≡ t + lengths_to (k + i) qs = omega arith in
    ap (λ m. length_before i m (all k c qs)) whole ∙ whole_before k i (k + i) refl h.whole t ∙ turn

pub lengths_few : (k c first last : ℕ) (qs : List RegionOf) (i : ℕ) → IsRegions k c first last qs (all k c qs) → i < c → length_before i first (all k c qs) < top
lengths_few k c first last qs i h lt =
    let most = before_most (all k c qs) i first in
    let room = h.lane.room in
    let count = h.lane.count_is in
    omega (arith, most, room, count, lt)
