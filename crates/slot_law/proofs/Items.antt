-- Items and what goes through all their slots.
use Rattle.std.proofs.Common.{◌≡◌, ℕ, suc, Bool, List, [], ◌∷◌, ◌++◌, Option, Some, None, Result, Ok, Err, refl, sym, ap, ◌∙◌, subst, length}
use Rattle.std.specs.Prelude.{map}
use Rattle.sync_theory.specs.Lists.{kept, Crossing, no_left, no_right, one, beside, below}
use Rattle.sync_theory.specs.Changesets.{Changeset, is_later, cross_sets}
use Rattle.sync_theory.specs.Grid.{rebase, carry}
use Rattle.sync_theory.proofs.Cross.{cross_is}
use Rattle.slot_law.specs.Slots.{Slot, Meets, meets_in, alive, Item, set_of, slots_of, flat, fill, refilled, SameItems, with_instrs, ok_pair, turned, on_left, on_right}
use Rattle.slot_law.specs.Laws.{Rebases, Carries}
use Rattle.slot_law.proofs.Through.{Through, end, next, AllThrough, none, more, some_is, all_of, all_split}

-- there are no slots
nothing : {T I : Type 0} (meets : Meets T I) (ys : List (Option I)) {zs : List (Option I)} {ss : List (Slot T I)} → AllThrough meets [] ys ss zs → (ss ≡ []) × (alive ys ≡ alive zs)
nothing meets [] none = (refl, refl)
nothing meets (y ∷ ys) (more end r) = let p = nothing meets ys r in (p.0, ap (λ l. kept y ++ l) p.1)

module _ {I M : Type 0} (meet : I → I → Bool → Result (Option I × Option I) M) (e : Changeset I) where
  -- ---- one item, on the left
  module _ (t : Changeset I) where
    abbrev L : I → I → Result (Option I × Option I) M
    L a b = meet a b (is_later t e)

    abbrev R : I → I → Result (Option I × Option I) M
    R a b = meet a b (is_later e t)

    ok_is : (r : Result (Option I × Option I) M) (x v : Option I) → ok_pair r ≡ Some (x, v) → r ≡ Ok (x, v)
    ok_is (Ok p) x v h = ap Ok (some_is h)
    ok_is (Err m) x v h = cc

    turned_is : (r : Result (Option I × Option I) M) (x v : Option I) → turned r ≡ Some (x, v) → r ≡ Ok (v, x)
    turned_is (Ok p) x v h = ap (λ (w : Option I × Option I). Ok (w.1, w.0)) (some_is h)
    turned_is (Err m) x v h = cc

    one_left : (a y x v : Option I) → meets_in (on_left meet e) t a y ≡ Some (x, v) → Crossing L (kept a) (kept y) (kept x) (kept v)
    one_left a None x v h = subst (λ (w : Option I × Option I). Crossing L (kept a) [] (kept w.0) (kept w.1)) (some_is h) no_right
    one_left None (Some b) x v h = subst (λ (w : Option I × Option I). Crossing L [] (b ∷ []) (kept w.0) (kept w.1)) (some_is h) no_left
    one_left (Some a) (Some b) x v h = one (ok_is (meet a b (is_later t e)) x v h)

    one_right : (a y x v : Option I) → meets_in (on_right meet e) t a y ≡ Some (x, v) → Crossing R (kept y) (kept a) (kept v) (kept x)
    one_right a None x v h = subst (λ (w : Option I × Option I). Crossing R [] (kept a) (kept w.1) (kept w.0)) (some_is h) no_left
    one_right None (Some b) x v h = subst (λ (w : Option I × Option I). Crossing R (b ∷ []) [] (kept w.1) (kept w.0)) (some_is h) no_right
    one_right (Some a) (Some b) x v h = one (turned_is (meet b a (is_later e t)) x v h)

    -- the slots of one item after one instruction
    record Column (Cross : List I → List I → List I → List I → Type 0) (xs : List (Option I)) (y : Option I) (ts : List (Slot (Changeset I) I)) (z : Option I) : Type 0 where
      us : List (Option I)
      is : slots_of t us ≡ ts
      size : length xs ≡ length us
      crosses : Cross (alive xs) (kept y) (alive us) (kept z)

    column_left : (xs : List (Option I)) {y z : Option I} {ts : List (Slot (Changeset I) I)} → Through (on_left meet e) (slots_of t xs) y ts z → Column (λ as_ bs cs ds. Crossing L as_ bs cs ds) xs y ts z
    column_left [] end = record { us = []; is = refl; size = refl; crosses = no_left }
    column_left (x ∷ xs) (next {x = w} h r) =
        let p = column_left xs r in
        record { us = w ∷ p.us; is = ap (λ l. (t, w) ∷ l) p.is; size = ap suc p.size; crosses = below (one_left x _ w _ h) p.crosses }

    column_right : (xs : List (Option I)) {y z : Option I} {ts : List (Slot (Changeset I) I)} → Through (on_right meet e) (slots_of t xs) y ts z → Column (λ as_ bs cs ds. Crossing R bs as_ ds cs) xs y ts z
    column_right [] end = record { us = []; is = refl; size = refl; crosses = no_right }
    column_right (x ∷ xs) (next {x = w} h r) =
        let p = column_right xs r in
        record { us = w ∷ p.us; is = ap (λ l. (t, w) ∷ l) p.is; size = ap suc p.size; crosses = beside (one_right x _ w _ h) p.crosses }

    record Columns (Cross : List I → List I → List I → List I → Type 0) (xs ys : List (Option I)) (ts : List (Slot (Changeset I) I)) (zs : List (Option I)) : Type 0 where
      us : List (Option I)
      is : slots_of t us ≡ ts
      size : length xs ≡ length us
      crosses : Cross (alive xs) (alive ys) (alive us) (alive zs)

    columns_left : (ys xs : List (Option I)) {zs : List (Option I)} {ts : List (Slot (Changeset I) I)} → AllThrough (on_left meet e) (slots_of t xs) ys ts zs → Columns (λ as_ bs cs ds. Crossing L as_ bs cs ds) xs ys ts zs
    columns_left [] xs none = record { us = xs; is = refl; size = refl; crosses = no_right }
    columns_left (y ∷ ys) xs {ts = ts} (more {zs = ws} h r) =
        let p = column_left xs h in
        let q = columns_left ys p.us (subst (λ (l : List (Slot (Changeset I) I)). AllThrough (on_left meet e) l ys ts ws) (sym p.is) r) in
        record { us = q.us; is = q.is; size = p.size ∙ q.size; crosses = beside p.crosses q.crosses }

    columns_right : (ys xs : List (Option I)) {zs : List (Option I)} {ts : List (Slot (Changeset I) I)} → AllThrough (on_right meet e) (slots_of t xs) ys ts zs → Columns (λ as_ bs cs ds. Crossing R bs as_ ds cs) xs ys ts zs
    columns_right [] xs none = record { us = xs; is = refl; size = refl; crosses = no_left }
    columns_right (y ∷ ys) xs {ts = ts} (more {zs = ws} h r) =
        let p = column_right xs h in
        let q = columns_right ys p.us (subst (λ (l : List (Slot (Changeset I) I)). AllThrough (on_right meet e) l ys ts ws) (sym p.is) r) in
        record { us = q.us; is = q.is; size = p.size ∙ q.size; crosses = below p.crosses q.crosses }

  -- ---- all items
  record Over (Ends : List (Changeset I) → Type 0) (is : List (Item I)) (ss : List (Slot (Changeset I) I)) : Type 0 where
    items : List (Item I)
    same : SameItems is items
    slots : flat items ≡ ss
    ends : Ends (map set_of items)

  left_item : (i : Item I) (is : List (Item I)) (us ys ms zs : List (Option I)) (ps qs : List (Changeset I)) → Crossing (L i.head) (alive i.slots) (alive ys) (alive us) (alive ms) → rebase (cross_sets meet) ps (with_instrs e ms) ≡ Ok (qs, with_instrs e zs)
      → rebase (cross_sets meet) (set_of i ∷ ps) (with_instrs e ys) ≡ Ok (set_of (record { head = i.head; slots = us }) ∷ qs, with_instrs e zs)
  left_item i is us ys ms zs ps qs c h = rw (cross_is (L i.head) c, h)

  right_item : (i : Item I) (is : List (Item I)) (us ys ms zs : List (Option I)) (ps qs : List (Changeset I)) → Crossing (R i.head) (alive ys) (alive i.slots) (alive ms) (alive us) → carry (cross_sets meet) (with_instrs e ms) ps ≡ Ok (with_instrs e zs, qs)
      → carry (cross_sets meet) (with_instrs e ys) (set_of i ∷ ps) ≡ Ok (with_instrs e zs, set_of (record { head = i.head; slots = us }) ∷ qs)
  right_item i is us ys ms zs ps qs c h = rw (cross_is (R i.head) c, h)

  over_left : (is : List (Item I)) (ys zs : List (Option I)) {ss : List (Slot (Changeset I) I)} → AllThrough (on_left meet e) (flat is) ys ss zs → Over (λ qs. rebase (cross_sets meet) (map set_of is) (with_instrs e ys) ≡ Ok (qs, with_instrs e zs)) is ss
  over_left [] ys zs h =
      let p = nothing (on_left meet e) ys h in
      record { items = []; same = tt; slots = sym p.0; ends = ap (λ (l : List I). Ok ([], record e { instrs = l })) p.1 }
  over_left (i ∷ is) ys zs h =
      let p = all_split (on_left meet e) ys (slots_of i.head i.slots) h in
      let c = columns_left i.head ys i.slots p.first in
      let r = over_left is p.mid zs p.second in
      record {
        items = record { head = i.head; slots = c.us } ∷ r.items;
        same = (refl, c.size, r.same);
        slots = (λ k. c.is k ++ r.slots k) ∙ p.out;
        ends = left_item i is c.us ys p.mid zs (map set_of is) (map set_of r.items) c.crosses r.ends;
      }

  over_right : (is : List (Item I)) (ys zs : List (Option I)) {ss : List (Slot (Changeset I) I)} → AllThrough (on_right meet e) (flat is) ys ss zs → Over (λ qs. carry (cross_sets meet) (with_instrs e ys) (map set_of is) ≡ Ok (with_instrs e zs, qs)) is ss
  over_right [] ys zs h =
      let p = nothing (on_right meet e) ys h in
      record { items = []; same = tt; slots = sym p.0; ends = ap (λ (l : List I). Ok (record e { instrs = l }, [])) p.1 }
  over_right (i ∷ is) ys zs h =
      let p = all_split (on_right meet e) ys (slots_of i.head i.slots) h in
      let c = columns_right i.head ys i.slots p.first in
      let r = over_right is p.mid zs p.second in
      record {
        items = record { head = i.head; slots = c.us } ∷ r.items;
        same = (refl, c.size, r.same);
        slots = (λ k. c.is k ++ r.slots k) ∙ p.out;
        ends = right_item i is c.us ys p.mid zs (map set_of is) (map set_of r.items) c.crosses r.ends;
      }

-- ---- the items are told by their slots
fill_is : {T I : Type 0} (t : T) (xs us : List (Option I)) (rest : List (Slot T I)) → length xs ≡ length us → fill xs (slots_of t us ++ rest) ≡ (us, rest)
fill_is t [] [] rest e = refl
fill_is t [] (u ∷ us) rest e = cc
fill_is t (x ∷ xs) [] rest e = cc
fill_is t (x ∷ xs) (u ∷ us) rest e = let h = fill_is t xs us rest (one_less e) in λ k. (u ∷ (h k).0, (h k).1)
  where
    one_less : {m n : ℕ} → suc m ≡ suc n → m ≡ n
    one_less h = cc

refilled_is : {I : Type 0} (is js : List (Item I)) → SameItems is js → refilled is (flat js) ≡ js
refilled_is [] [] h = refl
refilled_is [] (j ∷ js) h = absurd h
refilled_is (i ∷ is) [] h = absurd h
refilled_is (i ∷ is) (j ∷ js) h =
    let f = fill_is j.head i.slots j.slots (flat js) h.1 in
    let r = refilled_is is js h.2 in
    (λ k. record { head = h.0 k; slots = (f k).0 } ∷ refilled is (f k).1) ∙ ap (λ l. j ∷ l) r

module _ {I M : Type 0} (meet : I → I → Bool → Result (Option I × Option I) M) where
  told : (is js : List (Item I)) (ss : List (Slot (Changeset I) I)) → SameItems is js → flat js ≡ ss → js ≡ refilled is ss
  told is js ss h e = sym (ap (refilled is) (sym e) ∙ refilled_is is js h)

  pub rebases : Rebases meet
  rebases is e ys zs ss h =
      let r = over_left meet e is ys zs (all_of (on_left meet e) ys (flat is) ss zs h) in
      let t = told is r.items ss r.same r.slots in
      subst (λ js. (rebase (cross_sets meet) (map set_of is) (with_instrs e ys) ≡ Ok (map set_of js, with_instrs e zs)) × (flat js ≡ ss) × SameItems is js) t (r.ends, r.slots, r.same)

  pub carries : Carries meet
  carries is e ys zs ss h =
      let r = over_right meet e is ys zs (all_of (on_right meet e) ys (flat is) ss zs h) in
      let t = told is r.items ss r.same r.slots in
      subst (λ js. (carry (cross_sets meet) (with_instrs e ys) (map set_of is) ≡ Ok (with_instrs e zs, map set_of js)) × (flat js ≡ ss) × SameItems is js) t (r.ends, r.slots, r.same)
