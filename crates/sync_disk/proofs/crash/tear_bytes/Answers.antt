use Rattle.std.proofs.Common.{◌≡◌, ◌+◌, ◌-◌, ◌++◌, ◌<◌, ℕ, List, length, take, drop, sym, ◌∙◌, ap, arith}
use Rattle.sync_disk.specs.Leaving.{tear}
use Rattle.sync_disk.proofs.Tear.{tear_kept, tear_half, tear_torn}
use Rattle.sync_disk.proofs.crash.tear_bytes.Goals as goal
use Rattle.sync_disk.proofs.crash.tear_bytes.Goals.{then-any_wrote+then-left-gt0, then-any_wrote+else-left-gt0, else-any_wrote}

-- the rest, torn from there on
left_over : (k left : ℕ) (ranges : List (ℕ × ℕ)) (a b : List ℕ) (n : ℕ) → b ≡ a → n ≡ left → take k a ++ tear k left ranges (drop k a) ≡ take k b ++ tear k n ranges (drop k b)
left_over k left ranges a b n same still = ap (λ (l : List ℕ). take k l ++ tear k left ranges (drop k l)) (sym same) ∙ ap (λ (m : ℕ). take k b ++ tear k m ranges (drop k b)) (sym still)

pub loop-k-preserved : goal.loop-k-preserved
loop-k-preserved c =
    let k = c.loop-k.k in
    let left = c.loop-k.left in
    let bytes = c.loop-k.bytes in
    let inside : k < length bytes = omega arith in
    elim c.if-any_wrote.branch [
      | then-any_wrote+then-left-gt0 w ↦ λ ranges is.
          c.loop-k.invariant ranges is ∙ tear_half k left ranges bytes inside (is k ∙ sym c.any_wrote.ensures ∙ w.if-any_wrote.true) w.if-left-gt0.true
          ∙ left_over (k + 1) (left - 1) ranges bytes c.if-any_wrote.bytes c.if-any_wrote.left w.bytes-is w.left-is
      | then-any_wrote+else-left-gt0 w ↦ λ ranges is.
          c.loop-k.invariant ranges is ∙ tear_torn k left ranges bytes inside (is k ∙ sym c.any_wrote.ensures ∙ w.if-any_wrote.true) (omega (arith, w.if-left-gt0.false))
          ∙ left_over (k + 1) left ranges _ c.if-any_wrote.bytes c.if-any_wrote.left w.bytes-is w.left-is
      | else-any_wrote w ↦ λ ranges is.
          c.loop-k.invariant ranges is ∙ tear_kept k left ranges bytes inside (is k ∙ sym c.any_wrote.ensures ∙ w.if-any_wrote.false)
          ∙ left_over (k + 1) left ranges bytes c.if-any_wrote.bytes c.if-any_wrote.left w.bytes-is w.left-is
    ]
