-- An entry that crosses a stretch of unsent changesets at once.
use Rattle.std.specs.Prelude.{◌≡◌, ◌<◌, ◌≤◌, ◌+◌, ℕ, true, List, Option, None, Some, Ok, IfSome, length, map, take, drop}
use Rattle.sync_data.specs.declared.instr.Instr.{Instr}
use Rattle.sync_data.specs.Payload.{Changes}
use Rattle.sync_base.specs.Rules.{top}
use Rattle.sync_theory.specs.Changesets.{cross_sets}
use Rattle.sync_theory.specs.Grid.{rebase}
use Rattle.sync_law.specs.Instrs.{meet}
use Rattle.sync_model.specs.Clients.{Unsent, changeset_of}
use Rattle.list_places.specs.Places.{Within}
use Rattle.list_places.specs.Moves.{kind_in, kind_of, moved_changes, moved_first}
use Rattle.list_places.specs.declared.moves.Moves.{Moves}
use Rattle.sync_transform.specs.Sets.{made_by}
use Rattle.list_places.specs.declared.moves.ListAction.{ListAction}
use Rattle.list_lane.specs.Told.{action, place_in, prior_in}
use Rattle.list_lane.specs.Ops.{lane_later}
use Rattle.list_lane.specs.Lanes.{lane_after, length_at_end, Chains}
use Rattle.list_lane.specs.Laws.{CrossesLeft}
use Rattle.list_lane.specs.declared.op.Op.{Op}
use Rattle.list_lane.specs.Actions.{instrs_left}
use Rattle.sync_rebase.specs.Settling.{CanPass, passed}
use Rattle.sync_rebase.specs.declared.carried.Across.{Across}
use Rattle.sync_rebase.specs.declared.items.Passing.{Passing}
use Rattle.sync_rebase.specs.declared.stretch.Stretch.{Stretch}

-- the lane of the stretch is what the action crosses, and can cross
pub record TakesAcross (s : Stretch) (a : Across) : Type 0 where
  pub start : s.start ≡ a.start
  pub own : s.own ≡ a.own
  pub count : length s.lane.slots ≡ a.count
  pub sizes : s.lane.first ≡ prior_in a.action
  pub room : s.lane.first + a.count + 1 < top

-- the action as an instruction of a lane
abbrev pub op_across : Across → Op
op_across a = record { does = kind_of a.action; place = place_in a.action; stamp = a.stamp }

-- what a lane leaves of it
abbrev pub left_action : ℕ → Option Op → Option ListAction
left_action n None = None
left_action n (Some b) = Some (action b.does b.place n)

pub record LeavesAction (s : Stretch) (a : Across) (left : Option ListAction) : Type 0 where
  pub op : Option Op
  pub is : left ≡ left_action (length_at_end s.lane.first s.lane.slots) op
  pub kind : IfSome left (λ b. kind_of b ≡ kind_of a.action)
  pub chains : Chains s.lane.first s.lane.slots
  pub within : Within (kind_of a.action) (place_in a.action) s.lane.first
  pub law : CrossesLeft s.lane (op_across a) op (lane_after (lane_later true) s.lane (op_across a))

-- it crossed the lane of a stretch, which stands as crossed
pub record CrossedAt (a : Across) (before after : Option Stretch) : Type 0 where
  pub stretch : Stretch
  pub was : before ≡ Some stretch
  pub takes : TakesAcross stretch a
  pub chains : Chains stretch.lane.first stretch.lane.slots
  pub within : Within (kind_of a.action) (place_in a.action) (prior_in a.action)
  pub is : after ≡ Some (record stretch { lane = lane_after (lane_later true) stretch.lane (op_across a) })

-- one unsent changeset and one of another, each of one instruction of one list, cross and both stay
pub record BothMove (own : ℕ) (u : Unsent Instr) (origin : ℕ) (c : Changes) (m : Moves) : Type 0 where
  pub crosses : (n : ℕ) → cross_sets meet (changeset_of own u) (made_by origin n c) ≡ Ok (changeset_of own (record u { current = moved_first m.left u.current }), made_by origin n (moved_changes m.right c))
  pub left : kind_in u.current ≡ Some (kind_of m.left)
  pub right : kind_in c.instrs ≡ Some (kind_of m.right)

-- the changes with what is left of their one instruction
abbrev pub changes_left : Option ListAction → Changes → Changes
changes_left o c = record { ms = c.ms; instrs = instrs_left o c.instrs }

-- an entry that came as far as one place, and would meet another next, crosses these around that
pub record CrossesStretch (from place own : ℕ) (us : List (Unsent Instr)) (origin : ℕ) (c : Changes) (p : Passing) : Type 0 where
  pub reached : from ≤ p.across.start
  pub before : p.across.start ≤ place
  pub behind : place < p.across.start + p.across.count
  pub within : p.across.start + p.across.count ≤ length us
  pub fits : CanPass p.across.own p.across.stamp p.across.count (Some p.across.action) (drop p.across.start us)
  pub kind : IfSome p.left (λ a. kind_in c.instrs ≡ Some (kind_of a))
  pub crosses : (n : ℕ) → rebase (cross_sets meet) (map (changeset_of own) (take p.across.count (drop p.across.start us))) (made_by origin n c)
      ≡ Ok (map (changeset_of own) (passed p.across.own p.across.stamp p.across.count (Some p.across.action) (take p.across.count (drop p.across.start us))), made_by origin n (changes_left p.left c))
