use Rattle.std.proofs.Common.{[], ◌∷◌, ◌++◌, ap, ◌∙◌}
use Rattle.list_lane.proofs.Bounded.{lift_none}
use Rattle.list_lane.proofs.Turns.{ok_then, err_then}
use Rattle.list_lane.proofs.burst.Burst.push_settled.Goals as goal

pub returns-clause-ok : goal.returns-clause-ok
returns-clause-ok c =
    ok_then c.push_slot-pushed.result (λ e. lift_none c.push_slot-pushed.new.slots.items ∙ e ∙ ap (λ l. l ++ c.args.slot ∷ []) (c.settle.ensures ∙ c.self.view_is)) c.push_slot-pushed.ensures.ok

pub returns-clause-err : goal.returns-clause-err
returns-clause-err c = err_then c.push_slot-pushed.result (λ e. lift_none c.push_slot-pushed.new.slots.items ∙ e ∙ c.settle.ensures ∙ c.self.view_is) c.push_slot-pushed.ensures.err
