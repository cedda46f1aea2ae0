use Rattle.std.proofs.Common.{◌+◌, ◌++◌, length, drop, sym, ap, ◌∙◌, append_assoc, length-append, arith}
use Rattle.std.proofs.lemmas.List.{length-drop}
use Rattle.sync_base.specs.Effects.{path_of}
use Rattle.snapshot_law.specs.Build.{insertions}
use Rattle.sync_snapshot.specs.Lists.{edit_instrs}
use Rattle.sync_snapshot.proofs.Lists.{runs_append}
use Rattle.sync_snapshot.proofs.cells.put_elements.Goals as goal

pub loop-place-preserved : goal.loop-place-preserved
loop-place-preserved c =
    let p = path_of c.args.name.now in let vs = c.args.items.now in
    let place = c.loop-place.place in let run = c.run_from-run.result.now in let left = drop (place + length run) vs in
    let old = c.loop-place.list.items in let cut = c.run_from-run.ensures.items in
    let long = ap length cut in let both = length-append run left in let whole = length-drop place vs in let rest = length-drop (place + length run) vs in (
      ap (λ w. w ++ edit_instrs p (insertions (place + length run) left)) c.in_ok-put_run.ensures
          ∙ append_assoc old (edit_instrs p (insertions place run)) (edit_instrs p (insertions (place + length run) left))
          ∙ ap (λ w. old ++ w) (sym (ap (λ l. edit_instrs p (insertions place l)) cut ∙ runs_append p place run left)) ∙ c.loop-place.invariant.0,
      omega arith,
    )
