use Rattle.std.proofs.Common.{◌≡◌, ◌+◌, ◌∷◌, [], ◌++◌, take, sym, ◌∙◌, ap, subst, arith, length-take}
use Rattle.std.proofs.lemmas.List.{take_more}
use Rattle.sync_disk.specs.declared.kept.KeptStroke.{KeptStroke}
use Rattle.sync_disk.specs.Memory.{IsLastSync}
use Rattle.sync_disk.proofs.Replay.{last_here, last_before}
use Rattle.sync_disk.proofs.crash.synced_strokes.Goals as goal
use Rattle.sync_disk.proofs.crash.synced_strokes.Goals.{then-is_effective_sync, else-is_effective_sync}

pub loop-i-preserved : goal.loop-i-preserved
loop-i-preserved c =
    let all = c.args.strokes.now in
    let i = c.loop-i.i in
    let x = c.index-strokes-i.result in
    let more : take (i + 1) all ≡ take i all ++ x ∷ [] = take_more all i x (omega arith) ∙ ap (λ (k : KeptStroke). take i all ++ k ∷ []) (sym c.index-strokes-i.is) in
    elim c.if-is_effective_sync.branch [
      | then-is_effective_sync w ↦ record {
        within = omega (arith, w.synced-is);
        last = last_here (take i all) (take (i + 1) all) x _ more (omega (arith, w.synced-is, length-take (i + 1) all)) (sym c.is_effective_sync.ensures ∙ w.if-is_effective_sync.true);
      }
      | else-is_effective_sync w ↦ record {
        within = omega (arith, w.synced-is, c.loop-i.invariant.within);
        last = last_before (take i all) (take (i + 1) all) x _ more (omega (arith, w.synced-is, c.loop-i.invariant.within, length-take i all)) (sym c.is_effective_sync.ensures ∙ w.if-is_effective_sync.false)
            (subst (λ n. IsLastSync n (take i all)) (sym w.synced-is) c.loop-i.invariant.last);
      }
    ]
