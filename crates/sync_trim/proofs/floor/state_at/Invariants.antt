use Rattle.std.proofs.Common.{◌≡◌, ◌-◌, drop}
use Rattle.sync_model.specs.Trims.{state_from}
use Rattle.sync_exchange.specs.Profile.{the_profile}
use Rattle.server_memory.specs.Kept.{parts}
use Rattle.sync_server.specs.Serving.{kept_of}
use Rattle.sync_trim.proofs.States.{state_after}
use Rattle.sync_trim.proofs.floor.state_at.Given as goal

-- what the entries that are left lead to is what all lead to
abbrev pub invariant-loop-next : goal.invariant-loop-next
invariant-loop-next g l = let kept = parts (kept_of l.server) in state_after kept.below (l.version - l.next) (drop (l.next - kept.floor) kept.entries) l.objects ≡ state_from the_profile kept l.version
