use Rattle.std.proofs.Common.{◌≡◌, ◌++◌, List, Option, drop, map}
use Rattle.sync_model.specs.Bytes.{Name}
use Rattle.sync_model.specs.Reports.{node_line}
use Rattle.sync_model.specs.Worlds.{Node, Stop}
use Rattle.sync_exchange.specs.Profile.{the_profile}
use Rattle.sync_world.specs.Holding.{HoldsEach}
use Rattle.sync_words.specs.Reports.{clients_text}
use Rattle.sync_world.proofs.world.put_clients.Given as goal

-- what was put, and what the rest gives, is what all gives
abbrev pub invariant-loop-node : goal.invariant-loop-node
invariant-loop-node l = (stops : Name → Option Stop) (ns : List Node) → HoldsEach stops ns l.clients → l.out.items ++ clients_text (map (node_line the_profile) (drop l.node-index ns)) ≡ l.initial.out.items ++ clients_text (map (node_line the_profile) ns)
