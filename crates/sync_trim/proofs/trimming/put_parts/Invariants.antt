use Rattle.std.proofs.Common.{◌≡◌, ◌++◌, map}
use Rattle.sync_model.specs.Servers as model
use Rattle.sync_exchange.specs.Seen.{server_seen}
use Rattle.sync_trim.proofs.trimming.put_parts.Given as goal

-- the parts so far, and those that are left
abbrev pub invariant-loop-body : goal.invariant-loop-body
invariant-loop-body l = map server_seen l.records.items ++ map (λ body. model.Part body) l.body-iterator.rest.items ≡ map server_seen l.fn.records.items ++ map (λ body. model.Part body) l.fn.bodies.items
