use Rattle.std.proofs.Common.{◌+◌, ◌++◌, [], ◌∷◌, drop, sym, ap, ◌∙◌, append_assoc}
use Rattle.sync_base.specs.Effects.{Insert, path_of}
use Rattle.snapshot_law.specs.Build.{insertions}
use Rattle.sync_snapshot.specs.Lists.{edit_instrs}
use Rattle.sync_snapshot.proofs.Lists.{next_insertion}
use Rattle.sync_snapshot.proofs.cells.put_run.Goals as goal

pub loop-i-preserved : goal.loop-i-preserved
loop-i-preserved c =
    let p = path_of c.args.name.now in let vs = c.args.run.now in let first = c.args.first in
    let i = c.loop-i.i in let v = c.index-run-i.result in let old = c.loop-i.list.items in
    let one = edit_instrs p (Insert (record { place = first + i; prior = first + i }) v ∷ []) in
    let rest = edit_instrs p (insertions (first + (i + 1)) (drop (i + 1) vs)) in
    ap (λ w. w ++ rest) (c.in_ok-put_element.ensures ∙ ap (λ w. old ++ edit_instrs p (Insert (record { place = first + i; prior = first + i }) w ∷ [])) c.value.ensures)
    ∙ append_assoc old one rest
    ∙ ap (λ w. old ++ w) (sym (next_insertion p first vs i v c.loop-i-test.true c.index-run-i.is)) ∙ c.loop-i.invariant
