-- A stretch grows by the changeset behind it.
use Rattle.std.specs.Prelude.{OnOk, OnErr, is_ok, is_some}
use Rattle.std.proofs.Common.{◌≡◌, ℕ, ◌+◌, ◌<◌, true, false, List, [], ◌∷◌, ◌++◌, Option, Some, None, Result, Ok, Err, refl, sym, ap, ◌∙◌, subst, length, drop, get_or, arith}
use Rattle.std.proofs.lemmas.List.{get_or-drop, length-append, length-drop}
use Rattle.sync_data.specs.declared.instr.Instr.{Instr}
use Rattle.sync_data.specs.declared.entry.Stamp.{Stamp}
use Rattle.sync_base.specs.Effects.{CellPath}
use Rattle.sync_model.specs.Clients.{Unsent}
use Rattle.list_places.specs.Moves.{action_in, first_cell, kind_of, moved_first}
use Rattle.list_places.specs.Places.{Within}
use Rattle.list_places.specs.declared.moves.ListAction.{ListAction}
use Rattle.list_lane.specs.Lanes.{LaneOf, length_after, length_at_end}
use Rattle.list_lane.specs.Told.{action, place_in, prior_in}
use Rattle.sync_rebase.specs.Stretches.{told_unsent, overlaid, laid, lane_with, shown_by, stamp_by, Follows, Holds, AllHold, IsSlotOf, Stands}
use Rattle.list_lane.specs.declared.op.Op.{Op}
use Rattle.sync_rebase.specs.declared.stretch.Stretch.{Stretch}
use Rattle.list_lane.proofs.Acting.{action_parts, kind_known, told_itself}
use Rattle.sync_rebase.proofs.Laid.{from_same, laid_none}

-- ---- what a changeset is in a lane
pub none_slot : (u : Unsent Instr) (cell : Option CellPath) (own n : ℕ) → u.current ≡ [] → IsSlotOf u cell own n None
none_slot u cell own n h = record {
  told = λ i. record { original = u.original; current = sym h i };
  holds = record { cell_is = tt; stamp = tt; kind = tt };
  fits = tt;
}

pub op_slot : (u : Unsent Instr) (cell : Option CellPath) (own n : ℕ) (a : ListAction) (t : Stamp) (b : Op) → action_in u.current ≡ Some a → b ≡ record { does = kind_of a; place = place_in a; stamp = t } → t ≡ stamp_by own u
    → prior_in a ≡ n → Within b.does b.place (prior_in a) → first_cell u.current ≡ cell → IsSlotOf u cell own n (Some b)
op_slot u cell own n a t b acts is stamp size within cells =
    let same : action b.does b.place n ≡ a = (λ i. action (is i).does (is i).place (sym size i)) ∙ action_parts a in
    record {
      told = λ i. record { original = u.original; current = (ap (λ x. moved_first x u.current) same ∙ told_itself u.current a acts) i };
      holds = record {
        cell_is = cells;
        stamp = ap (λ (x : Op). x.stamp) is ∙ stamp;
        kind = kind_known u.current a acts ∙ ap Some (sym (ap (λ (x : Op). x.does) is));
      };
      fits = subst (Within b.does b.place) size within;
    }

-- ---- one slot more, of a changeset that it shows as it is
overlaid_more : (ss : List (Option Op)) (s : Option Op) (n : ℕ) (us : List (Unsent Instr)) (u : Unsent Instr) → length ss < length us → u ≡ get_or us (length ss) u → told_unsent (length_at_end n ss) s u ≡ u
    → overlaid n (ss ++ s ∷ []) us ≡ overlaid n ss us
overlaid_more [] s n [] u l e h = absurd (omega (arith, l))
overlaid_more [] s n (v ∷ us) u l e h = ap (λ w. w ∷ us) (ap (told_unsent n s) (sym e) ∙ h ∙ e)
overlaid_more (x ∷ ss) s n [] u l e h = absurd (omega (arith, l))
overlaid_more (x ∷ ss) s n (v ∷ us) u l e h = ap (λ t. told_unsent n x v ∷ t) (overlaid_more ss s (length_after x n) us u (omega (arith, l)) e h)

holds_more : (cell : Option CellPath) (own : ℕ) (ss : List (Option Op)) (s : Option Op) (us : List (Unsent Instr)) (u : Unsent Instr) → length ss < length us → u ≡ get_or us (length ss) u → AllHold cell own ss us → Holds cell own s u → AllHold cell own (ss ++ s ∷ []) us
holds_more cell own [] s [] u l e h k = absurd (omega (arith, l))
holds_more cell own [] s (v ∷ us) u l e h k = (subst (Holds cell own s) e k, tt)
holds_more cell own (x ∷ ss) s [] u l e h k = absurd h
holds_more cell own (x ∷ ss) s (v ∷ us) u l e h k = (h.0, holds_more cell own ss s us u (omega (arith, l)) e h.1 k)

module _ (us : List (Unsent Instr)) (s : Stretch) (slot : Option Op) (f : Follows us s slot) where
  more : length s.lane.slots < length (drop s.start us)
  more =
      let left = length-drop s.start us in
      let within = f.within in
      omega (arith, left, within)

  there : f.next ≡ get_or (drop s.start us) (length s.lane.slots) f.next
  there = f.at ∙ sym (get_or-drop s.start us (length s.lane.slots) f.next)

  joined_shown : laid s.start (lane_with slot s.lane) us ≡ laid s.start s.lane us
  joined_shown = from_same s.start (overlaid s.lane.first (s.lane.slots ++ slot ∷ [])) (overlaid s.lane.first s.lane.slots) us (overlaid_more s.lane.slots slot s.lane.first (drop s.start us) f.next more there f.is_slot.told)

  joined_stands : Stands us s → Stands us (record s { lane = lane_with slot s.lane })
  joined_stands st =
      let size = length-append s.lane.slots (slot ∷ []) in
      let within = f.within in
      record { within = omega (arith, size, within); held = holds_more (first_cell s.sample.instrs) s.own s.lane.slots slot (drop s.start us) f.next more there st.held f.is_slot.holds }

  -- where there is memory
  pub push_shown : {A E : Type 0} (r : Result A E) (a : LaneOf) → OnOk r (a ≡ lane_with slot s.lane) → OnErr r (a ≡ s.lane) → laid s.start a us ≡ laid s.start s.lane us
  push_shown (Ok x) a ok err = ap (λ (l : LaneOf). laid s.start l us) ok ∙ joined_shown
  push_shown (Err x) a ok err = ap (λ (l : LaneOf). laid s.start l us) err

  pub push_stands : {A E : Type 0} (r : Result A E) (a : LaneOf) → OnOk r (a ≡ lane_with slot s.lane) → OnErr r (a ≡ s.lane) → Stands us s → Stands us (record s { lane = a })
  push_stands (Ok x) a ok err st = subst (λ (l : LaneOf). Stands us (record s { lane = l })) (sym ok) (joined_stands st)
  push_stands (Err x) a ok err st = subst (λ (l : LaneOf). Stands us (record s { lane = l })) (sym err) st

  pub push_more : {A E : Type 0} (r : Result A E) (a : LaneOf) → OnOk r (a ≡ lane_with slot s.lane) → is_ok r ≡ true → length a.slots ≡ length s.lane.slots + 1
  push_more (Ok x) a ok told = ap (λ (l : LaneOf). length l.slots) ok ∙ length-append s.lane.slots (slot ∷ [])
  push_more (Err x) a ok told = cc

-- ---- no slot yet
pub new_shown : (us : List (Unsent Instr)) (i n : ℕ) (a : LaneOf) → a ≡ record { first = n; slots = [] } → laid i a us ≡ us
new_shown us i n a is = laid_none i a us (ap (λ (l : LaneOf). length l.slots) is)

pub new_stands : (us : List (Unsent Instr)) (s : Stretch) (n : ℕ) → s.lane ≡ record { first = n; slots = [] } → s.start < length us → Stands us s
new_stands us s n is there =
    let none : length s.lane.slots ≡ 0 = ap (λ (l : LaneOf). length l.slots) is in
    record { within = omega (arith, none, there); held = subst (λ (l : LaneOf). AllHold (first_cell s.sample.instrs) s.own l.slots (drop s.start us)) (sym is) tt }

-- ---- no stretch yet
pub none_shown : (o : Option Stretch) (us : List (Unsent Instr)) → is_some o ≡ false → shown_by o us ≡ us
none_shown None us h = refl
none_shown (Some s) us h = cc

-- ---- where there is memory, or none
pub on_ok : {A E P : Type 0} (r : Result A E) → is_ok r ≡ true → OnOk r P → P
on_ok (Ok x) told h = h
on_ok (Err x) told h = cc

pub on_err : {A E P : Type 0} (r : Result A E) → is_ok r ≡ false → OnErr r P → P
on_err (Ok x) told h = cc
on_err (Err x) told h = h
