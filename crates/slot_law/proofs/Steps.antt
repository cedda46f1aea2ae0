-- An instruction of a list goes through all slots by its lane alone.
use Rattle.std.proofs.Common.{◌≡◌, ℕ, Bool, true, false, List, ◌∷◌, ◌++◌, Option, Some, None, ap, ◌∙◌}
use Rattle.sync_data.specs.declared.value.Value.{Value}
use Rattle.sync_data.specs.declared.instr.CellName.{CellName}
use Rattle.sync_data.specs.declared.instr.Instr.{Instr}
use Rattle.sync_theory.specs.Changesets.{Changeset}
use Rattle.sync_law.specs.Instrs.{meet}
use Rattle.sync_rivals.specs.Homes.{Place}
use Rattle.list_lane.specs.Ops.{lane_later}
use Rattle.list_lane.specs.Lanes.{LaneOf, crossed, length_at_end}
use Rattle.list_lane.specs.declared.op.Op.{Op}
use Rattle.slot_law.specs.Slots.{Slot, through, pick, put, on_left, on_right}
use Rattle.slot_law.specs.Lanes.{Side, told_by, told_slots, slots_after, left_behind, Goes, Barrier, barrier_at, StopsAt}
use Rattle.slot_law.specs.Steps.{finds_none, RivalsPass, Meeting, Steps, StepsTo, StepsOn}
use Rattle.slot_law.proofs.Through.{picks, both_parts, ends}
use Rattle.slot_law.proofs.Rivals.{pass_on_left, pass_on_right}
use Rattle.slot_law.proofs.Going.{goes_left, goes_right}
use Rattle.slot_law.proofs.Barriers.{stops_left, stops_right}

module _ (lane_left : Bool) (side : Side) (pass : RivalsPass side) (goes : Goes lane_left side) where
  module _ (c : CellName) (a : LaneOf) (b : Op) (w : Value) (e : Changeset Instr) (vs : List (Changeset Instr × Value)) (test : Place → Bool) (ms : List Bool) (ss : List (Slot (Changeset Instr) Instr)) (m : Meeting c a b w e vs test ms ss) where
    abbrev Incoming : Option Instr
    Incoming = told_by c w a.first (Some b)

    abbrev After : List (Slot (Changeset Instr) Instr)
    After = slots_after lane_left c a b vs

    through_lane : through (side e) (told_slots c a.first a.slots vs) Incoming ≡ Some (After, left_behind lane_left c a b w)
    through_lane = goes c a b w e vs m.chains m.room m.within m.owned m.stamp

    -- it crosses those that are marked, and these are put back
    put_back : (xs us : List (Slot (Changeset Instr) Instr)) (z : Option Instr) → pick ms ss ≡ xs → through (side e) xs Incoming ≡ Some (us, z) → through (side e) ss Incoming ≡ Some (put ms ss us, z)
    put_back xs us z is h = picks (side e) (finds_none test) ((pass e test).0) ms ss us Incoming z m.stranger ((pass e test).1 ms ss m.others) (ap (λ l. through (side e) l Incoming) is ∙ h)

    to_barrier : (stops : StopsAt side) (t : Changeset Instr) (k : Barrier) (ys : List (Slot (Changeset Instr) Instr)) (n : ℕ) (z : Option Op) → through (side e) (told_slots c a.first a.slots vs) Incoming ≡ Some (After, told_by c w n z)
        → through (side e) (told_slots c a.first a.slots vs ++ (t, Some (barrier_at k c)) ∷ ys) Incoming ≡ Some (After ++ (t, Some (barrier_at k c)) ∷ ys, None)
    to_barrier stops t k ys n None h = both_parts (side e) (told_slots c a.first a.slots vs) ((t, Some (barrier_at k c)) ∷ ys) After ((t, Some (barrier_at k c)) ∷ ys) Incoming None None h (ends (side e) ((t, Some (barrier_at k c)) ∷ ys))
    to_barrier stops t k ys n (Some z) h = stops e t c k w n z (told_slots c a.first a.slots vs) After ys Incoming h

  steps : Steps lane_left side
  steps c a b w e vs test ms ss m is = put_back c a b w e vs test ms ss m (told_slots c a.first a.slots vs) (slots_after lane_left c a b vs) (left_behind lane_left c a b w) is (through_lane c a b w e vs test ms ss m)

  steps_to : StopsAt side → StepsTo lane_left side
  steps_to stops c a b w e vs test ms ss m t k ys is =
      put_back c a b w e vs test ms ss m (told_slots c a.first a.slots vs ++ (t, Some (barrier_at k c)) ∷ ys) (slots_after lane_left c a b vs ++ (t, Some (barrier_at k c)) ∷ ys) None is
      (to_barrier c a b w e vs test ms ss m stops t k ys (length_at_end a.first a.slots) (crossed (lane_later lane_left) a.slots (Some b)).left (through_lane c a b w e vs test ms ss m))

  steps_on : StepsOn lane_left side
  steps_on c a b w e vs test ms ss m ys us z is rest =
      put_back c a b w e vs test ms ss m (told_slots c a.first a.slots vs ++ ys) (slots_after lane_left c a b vs ++ us) z is
      (both_parts (side e) (told_slots c a.first a.slots vs) ys (slots_after lane_left c a b vs) us (told_by c w a.first (Some b)) (left_behind lane_left c a b w) z (through_lane c a b w e vs test ms ss m) rest)

pub left_steps : Steps true (on_left meet)
left_steps = steps true (on_left meet) pass_on_left goes_left

pub right_steps : Steps false (on_right meet)
right_steps = steps false (on_right meet) pass_on_right goes_right

pub left_steps_to : StepsTo true (on_left meet)
left_steps_to = steps_to true (on_left meet) pass_on_left goes_left stops_left

pub right_steps_to : StepsTo false (on_right meet)
right_steps_to = steps_to false (on_right meet) pass_on_right goes_right stops_right

pub left_steps_on : StepsOn true (on_left meet)
left_steps_on = steps_on true (on_left meet) pass_on_left goes_left

pub right_steps_on : StepsOn false (on_right meet)
right_steps_on = steps_on false (on_right meet) pass_on_right goes_right
