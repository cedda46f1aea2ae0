use Rattle.std.proofs.Common.{Err, sym, ◌∙◌, subst}
use Rattle.sync_store.specs.Applying.{AppliesAll}
use Rattle.sync_store.specs.declared.refusals.AllRefusal.{AllRefusal}
use Rattle.sync_snapshot.specs.Grown.{Names}
use Rattle.sync_snapshot.proofs.Applied.{run_on, run_breaks}
use Rattle.sync_snapshot.proofs.growing.apply_parts.Goals as goal

pub returns-in-Err-Break : goal.returns-in-Err-Break
returns-in-Err-Break c =
    let broken = subst (λ (e : AllRefusal). AppliesAll (Err e) c.index-parts-place.result.instrs c.loop-place.objects c.apply_all.new.self) c.in-Err-Break.field-0-is c.in-Err-Break.ensures.applied in
    subst (Names c.bad_part.result)
    (sym (c.loop-place.invariant ∙ run_breaks c.loop-place.place c.args.parts.now c.index-parts-place.result c.loop-place.objects _ c.loop-place-test.true c.index-parts-place.is broken.0))
    c.bad_part.ensures

pub loop-place-preserved : goal.loop-place-preserved
loop-place-preserved c =
    c.loop-place.invariant ∙ run_on c.loop-place.place c.args.parts.now c.index-parts-place.result c.loop-place.objects c.apply_all.new.self c.loop-place-test.true c.index-parts-place.is c.in-Ok-apply_all.ensures.applied
