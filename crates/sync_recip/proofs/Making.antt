-- A stretch grows by the entry behind it.
use Rattle.std.specs.Prelude.{OnOk, OnErr, is_ok}
use Rattle.std.proofs.Common.{◌≡◌, ℕ, ◌+◌, ◌<◌, true, false, List, [], ◌∷◌, ◌++◌, Option, Some, None, Result, Ok, Err, sym, ap, ◌∙◌, subst, length, drop, get_or, arith}
use Rattle.std.proofs.lemmas.List.{get_or-drop, length-append, length-drop}
use Rattle.sync_data.specs.declared.entry.Entry.{Entry}
use Rattle.sync_data.specs.declared.entry.Stamp.{Stamp}
use Rattle.sync_data.specs.declared.instr.Instr.{Instr}
use Rattle.sync_base.specs.Effects.{CellPath}
use Rattle.list_places.specs.Places.{Within}
use Rattle.list_places.specs.Moves.{action_in, first_cell, kind_of, moved_first, shown}
use Rattle.list_places.specs.declared.moves.ListAction.{ListAction}
use Rattle.list_lane.specs.Lanes.{LaneOf, length_after, length_at_end}
use Rattle.list_lane.specs.Told.{action, place_in, prior_in}
use Rattle.list_lane.specs.declared.op.Op.{Op}
use Rattle.sync_recip.specs.declared.kept.Kept.{Kept}
use Rattle.sync_recip.specs.declared.stretch.Stretch.{Stretch}
use Rattle.sync_recip.specs.Stretches.{with_instrs, told_kept, overlaid, laid, lane_with, Follows, Holds, AllHold, IsSlotOf, Stands}
use Rattle.list_lane.proofs.Acting.{action_parts, kind_known, told_itself}
use Rattle.sync_recip.proofs.Laid.{from_same, laid_none}

-- ---- what an entry is in a lane
pub shown_none : (o : Option ListAction) (is : List Instr) → is ≡ [] → shown o is ≡ []
shown_none None is h = h
shown_none (Some a) is h = ap (moved_first a) h

pub none_slot : (e : Entry) (cell : Option CellPath) (n : ℕ) → e.changes.instrs ≡ [] → IsSlotOf e cell n None
none_slot e cell n h = record { told = sym h; cell_is = tt; stamp = tt; kind = tt; fits = tt }

pub op_slot : (e : Entry) (cell : Option CellPath) (n : ℕ) (a : ListAction) (t : Stamp) (b : Op) → action_in e.changes.instrs ≡ Some a → b ≡ record { does = kind_of a; place = place_in a; stamp = t }
    → t ≡ record { ms = e.changes.ms; ident = e.origin } → prior_in a ≡ n → Within b.does b.place (prior_in a) → first_cell e.changes.instrs ≡ cell → IsSlotOf e cell n (Some b)
op_slot e cell n a t b acts is stamp size within cells =
    let same : action b.does b.place n ≡ a = (λ i. action (is i).does (is i).place (sym size i)) ∙ action_parts a in
    record {
      told = ap (λ x. moved_first x e.changes.instrs) same ∙ told_itself e.changes.instrs a acts;
      cell_is = cells;
      stamp = ap (λ (x : Op). x.stamp) is ∙ stamp;
      kind = kind_known e.changes.instrs a acts ∙ ap Some (sym (ap (λ (x : Op). x.does) is));
      fits = subst (Within b.does b.place) size within;
    }

-- ---- one slot more, of an entry that it shows as it is
overlaid_more : (ss : List (Option Op)) (s : Option Op) (n : ℕ) (us : List Kept) (u : Kept) → length ss < length us → u ≡ get_or us (length ss) u → told_kept (length_at_end n ss) s u ≡ u
    → overlaid n (ss ++ s ∷ []) us ≡ overlaid n ss us
overlaid_more [] s n [] u l e h = absurd (omega (arith, l))
overlaid_more [] s n (v ∷ us) u l e h = ap (λ w. w ∷ us) (ap (told_kept n s) (sym e) ∙ h ∙ e)
overlaid_more (x ∷ ss) s n [] u l e h = absurd (omega (arith, l))
overlaid_more (x ∷ ss) s n (v ∷ us) u l e h = ap (λ t. told_kept n x v ∷ t) (overlaid_more ss s (length_after x n) us u (omega (arith, l)) e h)

holds_more : (cell : Option CellPath) (ss : List (Option Op)) (s : Option Op) (us : List Kept) (u : Kept) → length ss < length us → u ≡ get_or us (length ss) u → AllHold cell ss us → Holds cell s u → AllHold cell (ss ++ s ∷ []) us
holds_more cell [] s [] u l e h k = absurd (omega (arith, l))
holds_more cell [] s (v ∷ us) u l e h k = (subst (Holds cell s) e k, tt)
holds_more cell (x ∷ ss) s [] u l e h k = absurd h
holds_more cell (x ∷ ss) s (v ∷ us) u l e h k = (h.0, holds_more cell ss s us u (omega (arith, l)) e h.1 k)

module _ (us : List Kept) (s : Stretch) (slot : Option Op) (f : Follows us s slot) where
  more : length s.lane.slots < length (drop s.start us)
  more =
      let left = length-drop s.start us in
      let within = f.within in
      omega (arith, left, within)

  there : f.next ≡ get_or (drop s.start us) (length s.lane.slots) f.next
  there = f.at ∙ sym (get_or-drop s.start us (length s.lane.slots) f.next)

  tells : told_kept (length_at_end s.lane.first s.lane.slots) slot f.next ≡ f.next
  tells = ap (λ (is : List Instr). with_instrs is f.next) f.is_slot.told

  holds : Holds (first_cell s.sample.changes.instrs) slot f.next
  holds = record { cell_is = f.is_slot.cell_is; stamp = f.is_slot.stamp; kind = f.is_slot.kind }

  joined_shown : laid s.start (lane_with slot s.lane) us ≡ laid s.start s.lane us
  joined_shown = from_same s.start (overlaid s.lane.first (s.lane.slots ++ slot ∷ [])) (overlaid s.lane.first s.lane.slots) us (overlaid_more s.lane.slots slot s.lane.first (drop s.start us) f.next more there tells)

  joined_stands : Stands us s → Stands us (record s { lane = lane_with slot s.lane })
  joined_stands st =
      let size = length-append s.lane.slots (slot ∷ []) in
      let within = f.within in
      record { within = omega (arith, size, within); held = holds_more (first_cell s.sample.changes.instrs) s.lane.slots slot (drop s.start us) f.next more there st.held holds }

  -- where there is memory
  pub push_shown : {A E : Type 0} (r : Result A E) (a : LaneOf) → OnOk r (a ≡ lane_with slot s.lane) → OnErr r (a ≡ s.lane) → laid s.start a us ≡ laid s.start s.lane us
  push_shown (Ok x) a ok err = ap (λ (l : LaneOf). laid s.start l us) ok ∙ joined_shown
  push_shown (Err x) a ok err = ap (λ (l : LaneOf). laid s.start l us) err

  pub push_stands : {A E : Type 0} (r : Result A E) (a : LaneOf) → OnOk r (a ≡ lane_with slot s.lane) → OnErr r (a ≡ s.lane) → Stands us s → Stands us (record s { lane = a })
  push_stands (Ok x) a ok err st = subst (λ (l : LaneOf). Stands us (record s { lane = l })) (sym ok) (joined_stands st)
  push_stands (Err x) a ok err st = subst (λ (l : LaneOf). Stands us (record s { lane = l })) (sym err) st

  pub push_more : {A E : Type 0} (r : Result A E) (a : LaneOf) → OnOk r (a ≡ lane_with slot s.lane) → is_ok r ≡ true → length a.slots ≡ length s.lane.slots + 1
  push_more (Ok x) a ok told = ap (λ (l : LaneOf). length l.slots) ok ∙ length-append s.lane.slots (slot ∷ [])
  push_more (Err x) a ok told = cc

-- ---- no slot yet
pub new_shown : (us : List Kept) (i n : ℕ) (a : LaneOf) → a ≡ record { first = n; slots = [] } → laid i a us ≡ us
new_shown us i n a is = laid_none i a us (ap (λ (l : LaneOf). length l.slots) is)

pub new_stands : (us : List Kept) (s : Stretch) (n : ℕ) → s.lane ≡ record { first = n; slots = [] } → s.start < length us → Stands us s
new_stands us s n is there =
    let none : length s.lane.slots ≡ 0 = ap (λ (l : LaneOf). length l.slots) is in
    record { within = omega (arith, none, there); held = subst (λ (l : LaneOf). AllHold (first_cell s.sample.changes.instrs) l.slots (drop s.start us)) (sym is) tt }

-- ---- where there is memory, or none
pub on_ok : {A E P : Type 0} (r : Result A E) → is_ok r ≡ true → OnOk r P → P
on_ok (Ok x) told h = h
on_ok (Err x) told h = cc

pub on_err : {A E P : Type 0} (r : Result A E) → is_ok r ≡ false → OnErr r P → P
on_err (Ok x) told h = cc
on_err (Err x) told h = h
