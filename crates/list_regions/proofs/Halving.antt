-- A region becomes two: from one slot to the next.
use Rattle.std.proofs.Common.{◌≡◌, ℕ, ◌+◌, ◌-◌, ◌<◌, ◌≤◌, List, [], ◌∷◌, ◌++◌, length, drop, Option, Some, None, refl, sym, ap, ◌∙◌, subst, append_assoc, append-nil, arith}
use Rattle.std.specs.Prelude.{slice_get}
use Rattle.list_places.specs.Places.{Within}
use Rattle.list_places.specs.declared.places.Does.{Does}
use Rattle.list_places.specs.declared.places.Does.TheVariants.{Inserts, Erases, Updates}
use Rattle.list_lane.specs.Lanes.{length_after, length_at_end, length_before, slot_at, Fits}
use Rattle.list_lane.specs.Parts.{from}
use Rattle.list_lane.specs.declared.op.Op.{Op}
use Rattle.list_regions.specs.Regions.{RegionOf}
use Rattle.list_regions.specs.Kept.{at, fresh, pushed_region, reach}
use Rattle.list_regions.specs.Cuts.{Cut, finished, left_out, in_front, in_back, IsCut, Cutting}
use Rattle.list_regions.proofs.Sets.{some_there}
use Rattle.list_regions.proofs.Views.{longer_more, longer_behind}
use Rattle.list_regions.proofs.Turned.{slot_rest, number_rest, before_more, before_none, none_left, end_more}

-- ---- places
pub reach_within : (d : Does) (p n : ℕ) → reach d p ≤ n → Within d p n
reach_within Inserts p n h = h
reach_within Erases p n h = omega (arith, h)
reach_within Updates p n h = omega (arith, h)

pub within_rest : (d : Does) (p x y : ℕ) → Within d p (x + (1 + y)) → x < p → Within d (p - x - 1) y
within_rest Inserts p x y w h = omega (arith, w, h)
within_rest Erases p x y w h = omega (arith, w, h)
within_rest Updates p x y w h = omega (arith, w, h)

front_lists : {g x : ℕ} {os ms : List ℕ} {us ts : List (Option Op)} (ns ps : List ℕ) (ss vs : List (Option Op)) (n : ℕ) (s : Option Op) → Cut g x os us (ns ++ (n ∷ ps)) (ss ++ (s ∷ vs)) ms ts → Cut g x os us ((ns ++ n ∷ []) ++ ps) ((ss ++ s ∷ []) ++ vs) ms ts
front_lists {g = g} {x = x} {os = os} {ms = ms} {us = us} {ts = ts} ns ps ss vs n s c =
    subst (λ r. Cut g x os us r ((ss ++ s ∷ []) ++ vs) ms ts) (sym (append_assoc ns (n ∷ []) ps)) (subst (λ r. Cut g x os us (ns ++ (n ∷ ps)) r ms ts) (sym (append_assoc ss (s ∷ []) vs)) c)

back_lists : {g x : ℕ} {os ns : List ℕ} {us ss : List (Option Op)} (ms ps : List ℕ) (ts vs : List (Option Op)) (n : ℕ) (s : Option Op) → Cut g x os us ns ss (ms ++ (n ∷ ps)) (ts ++ (s ∷ vs)) → Cut g x os us ns ss ((ms ++ n ∷ []) ++ ps) ((ts ++ s ∷ []) ++ vs)
back_lists {g = g} {x = x} {os = os} {ns = ns} {us = us} {ss = ss} ms ps ts vs n s c =
    subst (λ r. Cut g x os us ns ss r ((ts ++ s ∷ []) ++ vs)) (sym (append_assoc ms (n ∷ []) ps)) (subst (λ r. Cut g x os us ns ss (ms ++ (n ∷ ps)) r) (sym (append_assoc ts (s ∷ []) vs)) c)

module _ (m : RegionOf) (i : ℕ) (q r : RegionOf) (h : Cutting m i q r) where
  abbrev pub front_end : ℕ
  front_end = length_at_end q.lane.first q.lane.slots

  abbrev pub back_end : ℕ
  back_end = length_at_end r.lane.first r.lane.slots

  -- what follows, with the slot at the place in front
  from_here : {ns ms : List ℕ} {ss ts : List (Option Op)} (n : ℕ) (s : Option Op) → i < length m.lane.slots → slice_get m.numbers i ≡ Some n → s ≡ slot_at i m.lane.slots → Cut 1 front_end (n ∷ drop (i + 1) m.numbers) (s ∷ drop (i + 1) m.lane.slots) ns ss ms ts
      → Cut 1 front_end (drop i m.numbers) (drop i m.lane.slots) ns ss ms ts
  from_here {ns = ns} {ms = ms} {ss = ss} {ts = ts} n s lt g is c =
      subst (λ os. Cut 1 front_end os (drop i m.lane.slots) ns ss ms ts) (sym (number_rest m.numbers i n g))
      (subst (λ us. Cut 1 front_end (n ∷ drop (i + 1) m.numbers) us ns ss ms ts) (ap (λ o. o ∷ drop (i + 1) m.lane.slots) is ∙ sym (slot_rest m.lane.slots i lt)) c)

  before_next : (s : Option Op) → i < length m.lane.slots → s ≡ slot_at i m.lane.slots → length_before (i + 1) m.lane.first m.lane.slots ≡ length_after s (front_end + (1 + back_end))
  before_next s lt is = before_more m.lane.slots i m.lane.first lt ∙ ap (λ o. length_after o (length_before i m.lane.first m.lane.slots)) (sym is) ∙ ap (length_after s) h.last

  pub slot_fits : (a : Op) → Fits (length_before i m.lane.first m.lane.slots) (Some a) → Within a.does a.place (front_end + (1 + back_end))
  slot_fits a f = subst (Within a.does a.place) h.last f

  pub none_put : i < length m.numbers → i < length m.lane.slots → None ≡ slot_at i m.lane.slots → Cutting m (i + 1) q r
  none_put ln lt is =
      let n = some_there m.numbers i ln in
      record {
        gap = h.gap;
        one = h.one;
        first = h.first;
        steps = λ ns ms ss ts w. h.steps ns ms ss ts (from_here n.0 None lt n.1 is (left_out w));
        last = before_next None lt is;
      }

  pub front_put : (n : ℕ) (a : Op) → i < length m.lane.slots → slice_get m.numbers i ≡ Some n → Some a ≡ slot_at i m.lane.slots → Within a.does a.place front_end → Cutting m (i + 1) (pushed_region n (Some a) q) r
  front_put n a lt g is w =
      let end = end_more q.lane.slots q.lane.first (Some a) in
      record {
        gap = h.gap;
        one = h.one;
        first = h.first;
        steps = λ ns ms ss ts c. front_lists q.numbers ns q.lane.slots ss n (Some a) (h.steps (n ∷ ns) ms (Some a ∷ ss) ts
            (from_here n (Some a) lt g is (in_front w (subst (λ x. Cut 1 x (drop (i + 1) m.numbers) (drop (i + 1) m.lane.slots) ns ss ms ts) end c))));
        last = before_next (Some a) lt is ∙ longer_more a.does a.place front_end (1 + back_end) w ∙ ap (λ x. x + (1 + back_end)) (sym end);
      }

  pub back_put : (n : ℕ) (a b : Op) → i < length m.lane.slots → slice_get m.numbers i ≡ Some n → Some a ≡ slot_at i m.lane.slots → a ≡ from (front_end + 1) b → Within b.does b.place back_end → Cutting m (i + 1) q (pushed_region n (Some b) r)
  back_put n a b lt g is moved w =
      let here : Some (from (front_end + 1) b) ≡ slot_at i m.lane.slots = sym (ap Some moved) ∙ is in
      let end = end_more r.lane.slots r.lane.first (Some b) in
      record {
        gap = h.gap;
        one = h.one;
        first = h.first;
        steps = λ ns ms ss ts c. back_lists r.numbers ms r.lane.slots ts n (Some b) (h.steps ns (n ∷ ms) ss (Some b ∷ ts) (from_here n (Some (from (front_end + 1) b)) lt g here (in_back c)));
        last = before_next (Some (from (front_end + 1) b)) lt here ∙ longer_behind b.does b.place front_end 1 back_end w ∙ ap (λ x. front_end + (1 + x)) (sym end);
      }

  pub cut_ends : length m.numbers ≤ i → length m.lane.slots ≤ i → IsCut m q r
  cut_ends ln lt =
      let start : Cut 1 front_end [] [] [] [] [] [] = finished in
      let rest : Cut 1 front_end (drop i m.numbers) (drop i m.lane.slots) [] [] [] [] = subst (λ os. Cut 1 front_end os (drop i m.lane.slots) [] [] [] []) (sym (none_left m.numbers i ln)) (subst (λ us. Cut 1 front_end [] us [] [] [] []) (sym (none_left m.lane.slots i lt)) start) in
      record {
        gap = h.gap;
        one = h.one;
        first = h.first;
        cut = subst (λ ns. Cut 1 q.lane.first m.numbers m.lane.slots ns q.lane.slots r.numbers r.lane.slots) (append-nil q.numbers)
            (subst (λ ss. Cut 1 q.lane.first m.numbers m.lane.slots (q.numbers ++ []) ss r.numbers r.lane.slots) (append-nil q.lane.slots)
            (subst (λ ms. Cut 1 q.lane.first m.numbers m.lane.slots (q.numbers ++ []) (q.lane.slots ++ []) ms r.lane.slots) (append-nil r.numbers)
            (subst (λ ts. Cut 1 q.lane.first m.numbers m.lane.slots (q.numbers ++ []) (q.lane.slots ++ []) (r.numbers ++ []) ts) (append-nil r.lane.slots) (h.steps [] [] [] [] rest))));
      }

pub cut_starts : (m q r : RegionOf) (p b : ℕ) → q ≡ fresh m.gap p → r ≡ fresh 1 b → m.lane.first ≡ p + (1 + b) → Cutting m 0 q r
cut_starts m q r p b e i first =
    subst (λ (o : RegionOf). Cutting m 0 o r) (sym e) (subst (λ (o : RegionOf). Cutting m 0 (fresh m.gap p) o) (sym i) (record {
      gap = refl;
      one = refl;
      first = first;
      steps = λ ns ms ss ts w. w;
      last = before_none m.lane.first m.lane.slots ∙ first;
    }))

pub moved_back : (a b : Op) (x : ℕ) → b ≡ at a (a.place - x - 1) → x < a.place → a ≡ from (x + 1) b
moved_back a b x e h =
    let k : a.place - x - 1 + (x + 1) ≡ a.place = omega (arith, h) in
    (λ j. record a { place = sym k j }) ∙ ap (from (x + 1)) (sym e)
