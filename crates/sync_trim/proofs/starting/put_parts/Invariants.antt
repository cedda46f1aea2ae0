use Rattle.std.proofs.Common.{◌≡◌, ◌++◌, map}
use Rattle.sync_model.specs.Clients as model
use Rattle.sync_exchange.specs.Seen.{client_seen}
use Rattle.sync_trim.proofs.starting.put_parts.Given as goal

-- the parts so far, and those that are left
abbrev pub invariant-loop-body : goal.invariant-loop-body
invariant-loop-body l = map client_seen l.records.items ++ map (λ body. model.Part body) l.body-iterator.rest.items ≡ map client_seen l.fn.records.items ++ map (λ body. model.Part body) l.fn.bodies.items
