use Rattle.std.proofs.Common.{◌-◌}
use Rattle.sync_io.specs.Input.{max_input}
use Rattle.lives_node.proofs.items.answer_items.Given as goal

-- the reader has refused nothing, and each item that it reads brings it nearer to the longest input
abbrev pub invariant-items : goal.invariant-items
invariant-items g l = record { ready : g.I.ItemReader.ready l.items }

abbrev pub decreases-items : goal.decreases-items
decreases-items g l = max_input - g.I.ItemReader.count l.items
