use Rattle.std.proofs.Common.{◌-◌, ◌<◌, ℕ, length, get_or, ◌∙◌, ap, arith}
use Rattle.std.proofs.Math.ListN.{set}
use Rattle.std.proofs.lemmas.List.{get_or_default}
use Rattle.std.proofs.lemmas.List.Edits.{map_over_more}
use Rattle.sync_disk.proofs.memory.count_call.Goals as goal

pub loop-number-preserved : goal.loop-number-preserved
loop-number-preserved c =
    let all = c.deref_mut-number-items.result.now in
    let so_far = c.loop-number.number-items in
    let i = c.loop-number.number-index in
    let lt : i < length all = omega arith in
    ap (λ (v : ℕ). set so_far i v) c.saturating_sub.ensures ∙ map_over_more (λ (n : ℕ). n - 1) all so_far i (get_or so_far i 0) lt c.loop-number.invariant (get_or_default so_far i 0 (get_or so_far i 0) (omega arith))
