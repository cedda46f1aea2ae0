use Rattle.std.proofs.Common.{◌≡◌}
use Rattle.sync_recip.specs.Lists.{entry_of}
use Rattle.server_memory.specs.Extending.{first_extended}
use Rattle.server_memory.proofs.extending.extend_others.Given as goal

abbrev pub invariant-loop-place : goal.invariant-loop-place
invariant-loop-place l = l.idents ≡ first_extended l.place l.own l.version (entry_of l.entry) 0 l.fn.idents
