-- A change that crosses a stretch of entries at once.
use Rattle.std.specs.Prelude.{◌≡◌, ◌<◌, ◌≤◌, ◌+◌, ℕ, false, List, Option, None, Some, Ok, IfSome, length, map, take, drop}
use Rattle.sync_data.specs.declared.instr.Instr.{Instr}
use Rattle.sync_data.specs.Payload.{Changes}
use Rattle.sync_base.specs.Rules.{top}
use Rattle.sync_theory.specs.Changesets.{Changeset, cross_sets}
use Rattle.sync_theory.specs.Grid.{carry}
use Rattle.sync_law.specs.Instrs.{meet}
use Rattle.list_places.specs.Places.{Within}
use Rattle.list_places.specs.Moves.{kind_in, kind_of, moved_changes, moved_first}
use Rattle.sync_transform.specs.Sets.{made_by}
use Rattle.list_places.specs.declared.moves.ListAction.{ListAction}
use Rattle.list_places.specs.declared.moves.Moves.{Moves}
use Rattle.list_lane.specs.Told.{action, place_in, prior_in}
use Rattle.list_lane.specs.Ops.{lane_later}
use Rattle.list_lane.specs.Lanes.{lane_after, length_at_end, Chains}
use Rattle.list_lane.specs.Laws.{CrossesRight}
use Rattle.list_lane.specs.declared.op.Op.{Op}
use Rattle.sync_recip.specs.Lists.{kept_entry}
use Rattle.list_lane.specs.Actions.{instrs_left}
use Rattle.sync_recip.specs.Passing.{passed, CanPass}
use Rattle.sync_recip.specs.Stretches.{from_place, instrs_in, with_instrs}
use Rattle.sync_recip.specs.declared.across.Across.{Across}
use Rattle.sync_recip.specs.declared.items.Passing.{Passing}
use Rattle.sync_recip.specs.declared.kept.Kept.{Kept}
use Rattle.sync_recip.specs.declared.stretch.Stretch.{Stretch}

-- entries of which those of a stretch met an action
abbrev pub put_across : Across → List (Changeset Instr) → List (Changeset Instr)
put_across a = from_place a.start (passed a.stamp a.count (Some a.action))

-- they can
abbrev pub CanCross : Across → List (Changeset Instr) → Type 0
CanCross a es = CanPass a.stamp a.count (Some a.action) (drop a.start es)

-- the lane of the stretch is what the action crosses, and can cross
pub record TakesAcross (s : Stretch) (a : Across) : Type 0 where
  pub start : s.start ≡ a.start
  pub count : length s.lane.slots ≡ a.count
  pub sizes : s.lane.first ≡ prior_in a.action
  pub room : s.lane.first + a.count + 1 < top

-- the action as an instruction of a lane
abbrev pub op_across : Across → Op
op_across a = record { does = kind_of a.action; place = place_in a.action; stamp = a.stamp }

-- what a lane leaves of it
abbrev pub left_action : ℕ → Option Op → Option ListAction
left_action n None = None
left_action n (Some b) = Some (action b.does b.place n)

pub record LeavesAction (s : Stretch) (a : Across) (left : Option ListAction) : Type 0 where
  pub op : Option Op
  pub is : left ≡ left_action (length_at_end s.lane.first s.lane.slots) op
  pub kind : IfSome left (λ b. kind_of b ≡ kind_of a.action)
  pub chains : Chains s.lane.first s.lane.slots
  pub within : Within (kind_of a.action) (place_in a.action) s.lane.first
  pub law : CrossesRight s.lane (op_across a) op (lane_after (lane_later false) s.lane (op_across a))

-- it crossed the lane of a stretch, which stands as crossed
pub record CrossedAt (a : Across) (before after : Option Stretch) : Type 0 where
  pub stretch : Stretch
  pub was : before ≡ Some stretch
  pub takes : TakesAcross stretch a
  pub chains : Chains stretch.lane.first stretch.lane.slots
  pub within : Within (kind_of a.action) (place_in a.action) (prior_in a.action)
  pub is : after ≡ Some (record stretch { lane = lane_after (lane_later false) stretch.lane (op_across a) })

-- a change and one entry, each of one instruction of one list, cross and both stay
pub record BothMove (own : ℕ) (c : Changes) (k : Kept) (m : Moves) : Type 0 where
  pub crosses : (number : ℕ) → cross_sets meet (made_by own number c) (kept_entry k) ≡ Ok (made_by own number (moved_changes m.left c), kept_entry (with_instrs (moved_first m.right (instrs_in k)) k))
  pub left : kind_in c.instrs ≡ Some (kind_of m.left)
  pub right : kind_in (instrs_in k) ≡ Some (kind_of m.right)

-- a change with what is left of its one instruction
abbrev pub changes_left : Option ListAction → Changes → Changes
changes_left o c = record { ms = c.ms; instrs = instrs_left o c.instrs }

-- a change that came as far as one place, and would meet the entry at another next, crosses these around that
pub record CrossesStretch (from place own : ℕ) (ks : List Kept) (c : Changes) (p : Passing) : Type 0 where
  pub reached : from ≤ p.across.start
  pub before : p.across.start ≤ place
  pub behind : place < p.across.start + p.across.count
  pub within : p.across.start + p.across.count ≤ length ks
  pub fits : CanCross p.across (map kept_entry ks)
  pub kind : IfSome p.left (λ a. kind_in c.instrs ≡ Some (kind_of a))
  pub crosses : (number : ℕ) → carry (cross_sets meet) (made_by own number c) (take p.across.count (drop p.across.start (map kept_entry ks)))
      ≡ Ok (made_by own number (changes_left p.left c), passed p.across.stamp p.across.count (Some p.across.action) (take p.across.count (drop p.across.start (map kept_entry ks))))
