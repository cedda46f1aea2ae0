use Rattle.std.proofs.Common.{Some, sym, ap, ◌∙◌}
use Rattle.list_lane.specs.Lanes.{Crossed}
use Rattle.list_lane.specs.Ops.{lane_later as later}
use Rattle.list_lane.proofs.Beside.{behind_all, before_all}
use Rattle.list_lane.proofs.burst.Burst.cross.Goals as goal

pub returns-then-is_before-clause-slots : goal.returns-then-is_before-clause-slots
returns-then-is_before-clause-slots c = ap (λ (r : Crossed). r.slots) (sym (before_all (later c.args.lane_left) c.args.self.now c.args.traveller (c.is_before.ensures c.if-is_before.true)))

pub returns-then-is_before-clause-left : goal.returns-then-is_before-clause-left
returns-then-is_before-clause-left c = ap Some c.beyond.ensures ∙ ap (λ (r : Crossed). r.left) (sym (before_all (later c.args.lane_left) c.args.self.now c.args.traveller (c.is_before.ensures c.if-is_before.true)))

pub returns-clause-slots : goal.returns-clause-slots
returns-clause-slots c = c.shift.ensures.pushed c.if-not-shift.false ∙ ap (λ (r : Crossed). r.slots) (sym (behind_all (later c.args.lane_left) c.args.self.now c.args.traveller (c.is_behind.ensures c.if-not-is_behind.false)))

pub returns-clause-left : goal.returns-clause-left
returns-clause-left c = ap (λ (r : Crossed). r.left) (sym (behind_all (later c.args.lane_left) c.args.self.now c.args.traveller (c.is_behind.ensures c.if-not-is_behind.false)))
