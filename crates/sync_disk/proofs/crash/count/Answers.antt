use Rattle.std.proofs.Common.{◌≡◌, ◌+◌, ◌-◌, ℕ, suc, Bool, if◌then◌else◌, sym, ◌∙◌, ap, arith}
use Rattle.sync_disk.specs.Leaving.{count_written}
use Rattle.sync_disk.proofs.crash.count.Goals as goal
use Rattle.sync_disk.proofs.crash.count.Goals.{then-any_wrote, else-any_wrote}

pub loop-k-preserved : goal.loop-k-preserved
loop-k-preserved c =
    let k = c.loop-k.k in
    let left = c.args.len - (k + 1) in
    let longer : c.args.len - k ≡ suc left = omega arith in
    elim c.if-any_wrote.branch [
      | then-any_wrote w ↦ record {
        few = omega (arith, w.written-is, c.loop-k.invariant.few);
        so_far = λ ranges is.
            let there = is k ∙ sym c.any_wrote.ensures ∙ w.if-any_wrote.true in
            let step : count_written k (c.args.len - k) ranges ≡ 1 + count_written (k + 1) left ranges =
            ap (λ (n : ℕ). count_written k n ranges) longer ∙ ap (λ (b : Bool). if b then 1 + count_written (k + 1) left ranges else count_written (k + 1) left ranges) there in
            omega (arith, step, w.written-is, c.loop-k.invariant.so_far ranges is);
      }
      | else-any_wrote w ↦ record {
        few = omega (arith, w.written-is, c.loop-k.invariant.few);
        so_far = λ ranges is.
            let there = is k ∙ sym c.any_wrote.ensures ∙ w.if-any_wrote.false in
            let step : count_written k (c.args.len - k) ranges ≡ count_written (k + 1) left ranges =
            ap (λ (n : ℕ). count_written k n ranges) longer ∙ ap (λ (b : Bool). if b then 1 + count_written (k + 1) left ranges else count_written (k + 1) left ranges) there in
            omega (arith, step, w.written-is, c.loop-k.invariant.so_far ranges is);
      }
    ]
