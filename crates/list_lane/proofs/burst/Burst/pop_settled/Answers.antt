use Rattle.std.proofs.Common.{ap, ◌∙◌}
use Rattle.sync_theory.specs.Grid.{tail}
use Rattle.list_lane.proofs.Bounded.{lift_none}
use Rattle.list_lane.proofs.Turns.{tail_of}
use Rattle.list_lane.proofs.burst.Burst.pop_settled.Goals as goal

pub returns-clause-rest : goal.returns-clause-rest
returns-clause-rest c =
    lift_none c.remove-slot.new.self.items ∙ c.remove-slot.ensures.by_index.2 ∙ tail_of c.settle.new.slots.items ∙ ap tail (c.settle.ensures ∙ c.self.view_is)
