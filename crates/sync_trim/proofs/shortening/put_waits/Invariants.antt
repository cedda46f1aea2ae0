use Rattle.std.proofs.Common.{◌≡◌, ◌++◌, map, take}
use Rattle.sync_exchange.specs.Profile.{the_profile}
use Rattle.sync_exchange.specs.Seen.{client_seen}
use Rattle.shrink_law.specs.Short.{waits}
use Rattle.sync_trim.proofs.shortening.put_waits.Given as goal

-- those so far
abbrev pub invariant-loop-place : goal.invariant-loop-place
invariant-loop-place l = map client_seen l.records.items ≡ map client_seen l.fn.records.items ++ map (waits the_profile) (take l.place l.waiting)
