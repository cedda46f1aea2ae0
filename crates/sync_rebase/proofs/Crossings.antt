-- A stretch of unsent changesets, and an action that crosses its lane.
use Rattle.std.proofs.Common.{◌≡◌, ℕ, ◌+◌, ◌<◌, ◌≤◌, Bool, true, List, [], ◌∷◌, Option, Some, None, Ok, IfSome, refl, sym, ap, ◌∙◌, subst, take, drop, map, arith}
use Rattle.sync_data.specs.declared.instr.Instr.{Instr}
use Rattle.sync_data.specs.declared.entry.Stamp.{Stamp}
use Rattle.sync_data.specs.Payload.{Changes}
use Rattle.sync_base.specs.Effects.{CellPath, path_of}
use Rattle.sync_theory.specs.Changesets.{cross_sets}
use Rattle.sync_theory.specs.Grid.{rebase}
use Rattle.sync_law.specs.Instrs.{meet}
use Rattle.sync_model.specs.Clients.{Unsent, changeset_of}
use Rattle.list_places.specs.Places.{Within}
use Rattle.list_places.specs.Moves.{action_in, kind_in, kind_of, first_cell, moved_first}
use Rattle.sync_transform.specs.Sets.{made_by}
use Rattle.list_places.specs.declared.moves.ListAction.{ListAction}
use Rattle.list_lane.specs.Ops.{lane_later, moved}
use Rattle.list_lane.specs.Lanes.{LaneOf, crossed, lane_after, length_at_end, Chains}
use Rattle.list_lane.specs.Told.{action, place_in, prior_in, IsTold}
use Rattle.list_lane.specs.Laws.{CrossesLeft}
use Rattle.sync_rebase.specs.Acrossing.{op_across, LeavesAction, TakesAcross, CrossesStretch}
use Rattle.list_lane.specs.Actions.{instrs_left}
use Rattle.sync_rebase.specs.Settling.{passed, put_across, CanPass}
use Rattle.sync_rebase.specs.Stretches.{from_place, overlaid, laid, Holds, AllHold, Stands}
use Rattle.sync_rebase.specs.declared.carried.Across.{Across}
use Rattle.sync_rebase.specs.declared.items.Passing.{Passing}
use Rattle.list_lane.specs.declared.op.Op.{Op}
use Rattle.sync_rebase.specs.declared.stretch.Stretch.{Stretch}
use Rattle.list_lane.proofs.Chain.{length_crossed}
use Rattle.list_lane.proofs.Acting.{action_parts, kind_action, told_itself, kind_known, in_cell, one_of}
use Rattle.sync_rebase.proofs.Across.{lane_passes, lane_can_pass, lane_rebases}
use Rattle.sync_rebase.proofs.Laid.{from_twice, from_same, drop_from, length_laid}

-- ---- the lane still tells them
moved_holds : (cell : Option CellPath) (own : ℕ) (a : Op) (x : Option ℕ) (u : Unsent Instr) → Holds cell own (Some a) u → Holds cell own (moved a x) u
moved_holds cell own a None u h = record { cell_is = tt; stamp = tt; kind = tt }
moved_holds cell own a (Some p) u h = record { cell_is = h.cell_is; stamp = h.stamp; kind = h.kind }

holds_crossed : (cell : Option CellPath) (own : ℕ) (l : Stamp → Stamp → Bool) (ss : List (Option Op)) (b : Option Op) (us : List (Unsent Instr)) → AllHold cell own ss us → AllHold cell own (crossed l ss b).slots us
holds_crossed cell own l [] b us h = tt
holds_crossed cell own l (s ∷ ss) None us h = h
holds_crossed cell own l (s ∷ ss) (Some b) [] h = absurd h
holds_crossed cell own l (None ∷ ss) (Some b) (u ∷ us) h = (h.0, holds_crossed cell own l ss (Some b) us h.1)
holds_crossed cell own l (Some a ∷ ss) (Some b) (u ∷ us) h = (moved_holds cell own a _ u h.0, holds_crossed cell own l ss _ us h.1)

pub stands_crossed : (us : List (Unsent Instr)) (s : Stretch) (b : Op) → Stands us s → Stands us (record s { lane = lane_after (lane_later true) s.lane b })
stands_crossed us s b st =
    let size = length_crossed (lane_later true) s.lane.slots (Some b) in
    let within = st.within in
    record { within = omega (arith, size, within); held = holds_crossed (first_cell s.sample.instrs) s.own (lane_later true) s.lane.slots (Some b) (drop s.start us) st.held }

-- ---- the lane as crossed shows what they become
own_action : (s : Stretch) (a : Across) → TakesAcross s a → action (kind_of a.action) (place_in a.action) s.lane.first ≡ a.action
own_action s a t = ap (action (kind_of a.action) (place_in a.action)) t.sizes ∙ action_parts a.action

pub cross_shown : (us : List (Unsent Instr)) (s : Stretch) (a : Across) → Stands us s → TakesAcross s a → Chains s.lane.first s.lane.slots → Within (kind_of a.action) (place_in a.action) (prior_in a.action)
    → laid s.start (lane_after (lane_later true) s.lane (op_across a)) us ≡ put_across a (laid s.start s.lane us)
cross_shown us s a st t chains w =
    let n : ℕ = s.lane.first in
    let ss : List (Option Op) = s.lane.slots in
    let part : List (Unsent Instr) = drop s.start us in
    let within : Within (kind_of a.action) (place_in a.action) n = subst (Within (kind_of a.action) (place_in a.action)) (sym t.sizes) w in
    let after : LaneOf = lane_after (lane_later true) s.lane (op_across a) in
    from_same s.start (overlaid after.first after.slots) (λ l. passed a.own a.stamp a.count (Some a.action) (overlaid n ss l)) us
    (lane_passes (first_cell s.sample.instrs) s.own ss a.count n (op_across a) part (sym t.count) st.held chains within ∙ (λ i. passed (t.own i) a.stamp a.count (Some (own_action s a t i)) (overlaid n ss part)))
    ∙ sym (from_twice s.start (passed a.own a.stamp a.count (Some a.action)) (overlaid n ss) us)
    ∙ (λ i. from_place (t.start i) (passed a.own a.stamp a.count (Some a.action)) (laid s.start s.lane us))

-- ---- an entry crosses it
left_kind : (left : Option ListAction) (a : ListAction) (is : List Instr) → action_in is ≡ Some a → IfSome left (λ b. kind_of b ≡ kind_of a) → IfSome left (λ b. kind_in is ≡ Some (kind_of b))
left_kind None a is h k = tt
left_kind (Some b) a is h k = kind_known is a h ∙ ap Some (sym k)

pub crosses_stretch : (from place own origin : ℕ) (us : List (Unsent Instr)) (s : Stretch) (c : Changes) (p : Passing)
    → Stands us s → TakesAcross s p.across → LeavesAction s p.across p.left
    → from ≤ p.across.start → p.across.start ≤ place → place < p.across.start + p.across.count
    → p.across.own ≡ own → p.across.stamp ≡ record { ms = c.ms; ident = origin } → action_in c.instrs ≡ Some p.across.action
    → first_cell s.sample.instrs ≡ first_cell c.instrs
    → CrossesStretch from place own (laid s.start s.lane us) origin c p
crosses_stretch from place own origin us s c p st t leaves reached before behind own_is stamp_is acts cells =
    let a : Across = p.across in
    let k : ℕ = a.count in
    let n : ℕ = s.lane.first in
    let ss : List (Option Op) = s.lane.slots in
    let op : Op = op_across a in
    let V : List (Unsent Instr) = laid s.start s.lane us in
    let part : List (Unsent Instr) = drop s.start us in
    let size = t.count in
    let inside = st.within in
    let start = t.start in
    let room = t.room in
    let known = in_cell c.instrs a.action acts in
    let cell : first_cell s.sample.instrs ≡ Some (path_of known.cell) = cells ∙ known.first in
    let held : AllHold (Some (path_of known.cell)) s.own ss part = subst (λ x. AllHold x s.own ss part) cell st.held in
    let same = own_action s a t in
    let shown : drop a.start V ≡ overlaid n ss part = ap (λ i. drop i V) (sym start) ∙ drop_from s.start (overlaid n ss) us (omega (arith, inside)) in
    let last : ℕ = length_at_end n ss in
    record {
      reached = reached;
      before = before;
      behind = behind;
      within = let long = length_laid s.start s.lane us in omega (arith, long, inside, size, start);
      fits = subst (CanPass a.own a.stamp k (Some a.action)) (sym shown)
          (subst (λ x. CanPass x a.stamp k (Some a.action) (overlaid n ss part)) t.own
          (subst (λ x. CanPass s.own a.stamp k (Some x) (overlaid n ss part)) same
          (lane_can_pass (Some (path_of known.cell)) s.own ss k n op part (sym size) held leaves.chains leaves.within (omega (arith, room, size)))));
      kind = left_kind p.left a.action c.instrs acts leaves.kind;
      crosses = λ m.
          let e = made_by origin m c in
          let told : IsTold known.cell (Some op) e = (sym stamp_is, one_of c.instrs known.cell (kind_of a.action) known.first (kind_known c.instrs a.action acts)) in
          let itself : moved_first (action op.does op.place n) c.instrs ≡ c.instrs = ap (λ x. moved_first x c.instrs) same ∙ told_itself c.instrs a.action acts in
          (λ i. rebase (cross_sets meet) (map (changeset_of ((sym own_is ∙ sym t.own) i)) (take k (shown i))) e)
          ∙ lane_rebases s.own known.cell s.lane k op leaves.op part e (sym size) held leaves.chains leaves.within leaves.law told itself
          ∙ (λ i. Ok (map (changeset_of ((t.own ∙ own_is) i)) (passed (t.own i) a.stamp k (Some (same i)) (take k (sym shown i))), record e { instrs = instrs_left (sym leaves.is i) c.instrs }));
    }

-- ---- what the lane leaves
within_there : (s : Stretch) (a : Across) (b : Op) → TakesAcross s a → b ≡ op_across a → Within b.does b.place (prior_in a.action) → Within (kind_of a.action) (place_in a.action) s.lane.first
within_there s a b t is w = subst (Within (kind_of a.action) (place_in a.action)) (sym t.sizes) (subst (λ (x : Op). Within x.does x.place (prior_in a.action)) is w)

pub leaves_some : (s : Stretch) (a : Across) (b op : Op) (left : ListAction) (last : ℕ) → TakesAcross s a → Chains s.lane.first s.lane.slots → b ≡ op_across a → Within b.does b.place (prior_in a.action)
    → last ≡ length_at_end s.lane.first s.lane.slots → left ≡ action op.does op.place last → op.does ≡ b.does → CrossesLeft s.lane b (Some op) (lane_after (lane_later true) s.lane b) → LeavesAction s a (Some left)
leaves_some s a b op left last t chains is w end acts does law = record {
  op = Some op;
  is = ap Some (acts ∙ ap (action op.does op.place) end);
  kind = ap kind_of acts ∙ kind_action op.does op.place last ∙ does ∙ ap (λ (x : Op). x.does) is;
  chains = chains;
  within = within_there s a b t is w;
  law = subst (λ (x : Op). CrossesLeft s.lane x (Some op) (lane_after (lane_later true) s.lane x)) is law;
}

pub leaves_none : (s : Stretch) (a : Across) (b : Op) → TakesAcross s a → Chains s.lane.first s.lane.slots → b ≡ op_across a → Within b.does b.place (prior_in a.action)
    → CrossesLeft s.lane b None (lane_after (lane_later true) s.lane b) → LeavesAction s a None
leaves_none s a b t chains is w law = record {
  op = None;
  is = refl;
  kind = tt;
  chains = chains;
  within = within_there s a b t is w;
  law = subst (λ (x : Op). CrossesLeft s.lane x None (lane_after (lane_later true) s.lane x)) is law;
}
