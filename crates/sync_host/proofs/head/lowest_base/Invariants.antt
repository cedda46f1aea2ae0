use Rattle.std.proofs.Common.{◌≡◌, take}
use Rattle.std.specs.Prelude.{fold, min, slice_get}
use Rattle.sync_host.specs.Heads.{base_or_none}
use Rattle.sync_host.proofs.head.lowest_base.Given as goal

-- the lowest of those so far
abbrev pub invariant-loop-change : goal.invariant-loop-change
invariant-loop-change l = l.lowest ≡ fold (λ n h. min n h.base) (base_or_none (slice_get l.changes 0)) (take l.change-index l.changes)
