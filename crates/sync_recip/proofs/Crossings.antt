-- A stretch of entries, and an action that crosses its lane.
use Rattle.std.proofs.Common.{◌≡◌, ℕ, zero, suc, ◌+◌, ◌<◌, ◌≤◌, Bool, false, List, [], ◌∷◌, Option, Some, None, Ok, IfSome, refl, sym, ap, ◌∙◌, subst, take, drop, map, arith}
use Rattle.std.proofs.lemmas.List.{drop-map}
use Rattle.sync_data.specs.declared.instr.Instr.{Instr}
use Rattle.sync_data.specs.declared.entry.Stamp.{Stamp}
use Rattle.sync_data.specs.Payload.{Changes}
use Rattle.sync_base.specs.Effects.{CellPath, path_of}
use Rattle.sync_theory.specs.Changesets.{cross_sets}
use Rattle.sync_theory.specs.Grid.{carry}
use Rattle.sync_law.specs.Instrs.{meet}
use Rattle.sync_theory.specs.Changesets.{Changeset}
use Rattle.sync_recip.specs.declared.kept.Kept.{Kept}
use Rattle.sync_recip.specs.Lists.{kept_entry, versions}
use Rattle.list_places.specs.Places.{Within}
use Rattle.list_places.specs.Moves.{action_in, kind_in, kind_of, first_cell, moved_first}
use Rattle.sync_transform.specs.Sets.{made_by}
use Rattle.list_places.specs.declared.moves.ListAction.{ListAction}
use Rattle.list_lane.specs.Ops.{lane_later, moved}
use Rattle.list_lane.specs.Lanes.{LaneOf, crossed, lane_after, length_at_end, Chains}
use Rattle.list_lane.specs.Told.{action, place_in, prior_in, IsTold}
use Rattle.list_lane.specs.Laws.{CrossesRight}
use Rattle.sync_recip.specs.Acrossing.{op_across, put_across, LeavesAction, TakesAcross, CrossesStretch}
use Rattle.list_lane.specs.Actions.{instrs_left}
use Rattle.sync_recip.specs.Passing.{passed, CanPass}
use Rattle.sync_recip.specs.Stretches.{from_place, overlaid, laid, Holds, AllHold, Stands}
use Rattle.sync_recip.specs.declared.across.Across.{Across}
use Rattle.sync_recip.specs.declared.items.Passing.{Passing}
use Rattle.list_lane.specs.declared.op.Op.{Op}
use Rattle.sync_recip.specs.declared.stretch.Stretch.{Stretch}
use Rattle.list_lane.proofs.Chain.{length_crossed}
use Rattle.list_lane.proofs.Acting.{action_parts, kind_action, told_itself, kind_known, in_cell, one_of}
use Rattle.sync_recip.proofs.Lanes.{lane_passes, lane_can_pass, lane_carries}
use Rattle.sync_recip.proofs.Laid.{bare_of, drop_from, laid_bare, length_laid}

-- ---- the lane still tells them
moved_holds : (cell : Option CellPath) (a : Op) (x : Option ℕ) (u : Kept) → Holds cell (Some a) u → Holds cell (moved a x) u
moved_holds cell a None u h = record { cell_is = tt; stamp = tt; kind = tt }
moved_holds cell a (Some p) u h = record { cell_is = h.cell_is; stamp = h.stamp; kind = h.kind }

holds_crossed : (cell : Option CellPath) (l : Stamp → Stamp → Bool) (ss : List (Option Op)) (b : Option Op) (us : List Kept) → AllHold cell ss us → AllHold cell (crossed l ss b).slots us
holds_crossed cell l [] b us h = tt
holds_crossed cell l (s ∷ ss) None us h = h
holds_crossed cell l (s ∷ ss) (Some b) [] h = absurd h
holds_crossed cell l (None ∷ ss) (Some b) (u ∷ us) h = (h.0, holds_crossed cell l ss (Some b) us h.1)
holds_crossed cell l (Some a ∷ ss) (Some b) (u ∷ us) h = (moved_holds cell a _ u h.0, holds_crossed cell l ss _ us h.1)

pub stands_crossed : (us : List Kept) (s : Stretch) (b : Op) → Stands us s → Stands us (record s { lane = lane_after (lane_later false) s.lane b })
stands_crossed us s b st =
    let size = length_crossed (lane_later false) s.lane.slots (Some b) in
    let within = st.within in
    record { within = omega (arith, size, within); held = holds_crossed (first_cell s.sample.changes.instrs) (lane_later false) s.lane.slots (Some b) (drop s.start us) st.held }

-- ---- the lane as crossed shows what they become
own_action : (s : Stretch) (a : Across) → TakesAcross s a → action (kind_of a.action) (place_in a.action) s.lane.first ≡ a.action
own_action s a t = ap (action (kind_of a.action) (place_in a.action)) t.sizes ∙ action_parts a.action

laid_crossed : (i : ℕ) (g f : List Kept → List Kept) (p : List (Changeset Instr) → List (Changeset Instr)) (us : List Kept) → map kept_entry (g (drop i us)) ≡ p (map kept_entry (f (drop i us)))
    → map kept_entry (from_place i g us) ≡ from_place i p (map kept_entry (from_place i f us))
laid_crossed zero g f p us h = h
laid_crossed (suc i) g f p [] h = refl
laid_crossed (suc i) g f p (u ∷ us) h = ap (λ t. kept_entry u ∷ t) (laid_crossed i g f p us h)

pub cross_shown : (us : List Kept) (s : Stretch) (a : Across) → Stands us s → TakesAcross s a → Chains s.lane.first s.lane.slots → Within (kind_of a.action) (place_in a.action) (prior_in a.action)
    → map kept_entry (laid s.start (lane_after (lane_later false) s.lane (op_across a)) us) ≡ put_across a (map kept_entry (laid s.start s.lane us))
cross_shown us s a st t chains w =
    let n : ℕ = s.lane.first in
    let ss : List (Option Op) = s.lane.slots in
    let part : List Kept = drop s.start us in
    let within : Within (kind_of a.action) (place_in a.action) n = subst (Within (kind_of a.action) (place_in a.action)) (sym t.sizes) w in
    let after : LaneOf = lane_after (lane_later false) s.lane (op_across a) in
    laid_crossed s.start (overlaid after.first after.slots) (overlaid n ss) (passed a.stamp a.count (Some a.action)) us
    (lane_passes (first_cell s.sample.changes.instrs) ss a.count n (op_across a) part (sym t.count) st.held chains within ∙ (λ i. passed a.stamp a.count (Some (own_action s a t i)) (map kept_entry (overlaid n ss part))))
    ∙ (λ i. from_place (t.start i) (passed a.stamp a.count (Some a.action)) (map kept_entry (laid s.start s.lane us)))

versions_bare : (us : List Kept) → versions (bare_of us) ≡ versions us
versions_bare [] = refl
versions_bare (u ∷ us) = ap (λ l. u.version ∷ l) (versions_bare us)

pub versions_laid : (i : ℕ) (a : LaneOf) (us : List Kept) → versions (laid i a us) ≡ versions us
versions_laid i a us = sym (versions_bare (laid i a us)) ∙ ap versions (laid_bare i a us) ∙ versions_bare us

-- ---- a change crosses it
left_kind : (left : Option ListAction) (a : ListAction) (is : List Instr) → action_in is ≡ Some a → IfSome left (λ b. kind_of b ≡ kind_of a) → IfSome left (λ b. kind_in is ≡ Some (kind_of b))
left_kind None a is h k = tt
left_kind (Some b) a is h k = kind_known is a h ∙ ap Some (sym k)

pub crosses_stretch : (from place own : ℕ) (us : List Kept) (s : Stretch) (c : Changes) (p : Passing)
    → Stands us s → TakesAcross s p.across → LeavesAction s p.across p.left
    → from ≤ p.across.start → p.across.start ≤ place → place < p.across.start + p.across.count
    → p.across.stamp ≡ record { ms = c.ms; ident = own } → action_in c.instrs ≡ Some p.across.action
    → first_cell s.sample.changes.instrs ≡ first_cell c.instrs
    → CrossesStretch from place own (laid s.start s.lane us) c p
crosses_stretch from place own us s c p st t leaves reached before behind stamp_is acts cells =
    let a : Across = p.across in
    let k : ℕ = a.count in
    let n : ℕ = s.lane.first in
    let ss : List (Option Op) = s.lane.slots in
    let op : Op = op_across a in
    let V : List Kept = laid s.start s.lane us in
    let part : List Kept = drop s.start us in
    let size = t.count in
    let inside = st.within in
    let start = t.start in
    let room = t.room in
    let known = in_cell c.instrs a.action acts in
    let cell : first_cell s.sample.changes.instrs ≡ Some (path_of known.cell) = cells ∙ known.first in
    let held : AllHold (Some (path_of known.cell)) ss part = subst (λ x. AllHold x ss part) cell st.held in
    let same = own_action s a t in
    let shown : drop a.start (map kept_entry V) ≡ map kept_entry (overlaid n ss part) =
    drop-map kept_entry a.start V ∙ ap (λ i. map kept_entry (drop i V)) (sym start) ∙ ap (map kept_entry) (drop_from s.start (overlaid n ss) us (omega (arith, inside)))
    in
    record {
      reached = reached;
      before = before;
      behind = behind;
      within = let long = length_laid s.start s.lane us in omega (arith, long, inside, size, start);
      fits = subst (CanPass a.stamp k (Some a.action)) (sym shown)
          (subst (λ x. CanPass a.stamp k (Some x) (map kept_entry (overlaid n ss part))) same
          (lane_can_pass (Some (path_of known.cell)) ss k n op part (sym size) held leaves.chains leaves.within (omega (arith, room, size))));
      kind = left_kind p.left a.action c.instrs acts leaves.kind;
      crosses = λ m.
          let e = made_by own m c in
          let told : IsTold known.cell (Some op) e = (sym stamp_is, one_of c.instrs known.cell (kind_of a.action) known.first (kind_known c.instrs a.action acts)) in
          let itself : moved_first (action op.does op.place n) c.instrs ≡ c.instrs = ap (λ x. moved_first x c.instrs) same ∙ told_itself c.instrs a.action acts in
          (λ i. carry (cross_sets meet) e (take k (shown i)))
          ∙ lane_carries known.cell s.lane k op leaves.op part e (sym size) held leaves.chains leaves.within leaves.law told itself
          ∙ (λ i. Ok (record e { instrs = instrs_left (sym leaves.is i) c.instrs }, passed a.stamp k (Some (same i)) (take k (sym shown i))));
    }

-- ---- what the lane leaves
within_there : (s : Stretch) (a : Across) (b : Op) → TakesAcross s a → b ≡ op_across a → Within b.does b.place (prior_in a.action) → Within (kind_of a.action) (place_in a.action) s.lane.first
within_there s a b t is w = subst (Within (kind_of a.action) (place_in a.action)) (sym t.sizes) (subst (λ (x : Op). Within x.does x.place (prior_in a.action)) is w)

pub leaves_some : (s : Stretch) (a : Across) (b op : Op) (left : ListAction) (last : ℕ) → TakesAcross s a → Chains s.lane.first s.lane.slots → b ≡ op_across a → Within b.does b.place (prior_in a.action)
    → last ≡ length_at_end s.lane.first s.lane.slots → left ≡ action op.does op.place last → op.does ≡ b.does → CrossesRight s.lane b (Some op) (lane_after (lane_later false) s.lane b) → LeavesAction s a (Some left)
leaves_some s a b op left last t chains is w end acts does law = record {
  op = Some op;
  is = ap Some (acts ∙ ap (action op.does op.place) end);
  kind = ap kind_of acts ∙ kind_action op.does op.place last ∙ does ∙ ap (λ (x : Op). x.does) is;
  chains = chains;
  within = within_there s a b t is w;
  law = subst (λ (x : Op). CrossesRight s.lane x (Some op) (lane_after (lane_later false) s.lane x)) is law;
}

pub leaves_none : (s : Stretch) (a : Across) (b : Op) → TakesAcross s a → Chains s.lane.first s.lane.slots → b ≡ op_across a → Within b.does b.place (prior_in a.action)
    → CrossesRight s.lane b None (lane_after (lane_later false) s.lane b) → LeavesAction s a None
leaves_none s a b t chains is w law = record {
  op = None;
  is = refl;
  kind = tt;
  chains = chains;
  within = within_there s a b t is w;
  law = subst (λ (x : Op). CrossesRight s.lane x None (lane_after (lane_later false) s.lane x)) is law;
}
