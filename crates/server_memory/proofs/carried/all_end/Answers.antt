use Rattle.std.proofs.Common.{◌≡◌, ◌+◌, suc, None, map, sym, ap, ◌∙◌, arith}
use Rattle.std.proofs.lemmas.Bool.{eq-eqb}
use Rattle.sync_recip.specs.Lists.{entry_of}
use Rattle.sync_model.specs.Fronts.{is_last, last_of}
use Rattle.server_memory.proofs.Entering.{end_further, some_at}
use Rattle.server_memory.proofs.carried.all_end.Goals as goal
use Rattle.server_memory.proofs.carried.all_end.Goals.{in-None, in-Some+else-last-count}

pub loop-place-preserved : goal.loop-place-preserved
loop-place-preserved c =
    let xs = map entry_of c.args.entries.now in
    let gs = c.args.idents.now in
    let place = c.loop-place.place in
    let within = c.loop-place-test.true in
    let next : suc place ≡ place + 1 = omega arith in
    let last = ap (λ n. last_of n xs None) next ∙ sym c.last_number.ensures in
    elim c.match-last_number.branch [
      | in-None w ↦
          let one = some_at gs place within in
          c.loop-place.invariant ∙ end_further xs gs place one.0 within one.1 (ap (λ o. is_last o one.0.count) (last ∙ w.in-None.is))
      | in-Some+else-last-count w ↦
          let g = w.index-idents-place.result in
          c.loop-place.invariant ∙ end_further xs gs place g within w.index-idents-place.is (ap (λ o. is_last o g.count) (last ∙ w.in-Some.is) ∙ eq-eqb w.in-Some.last g.count (w.if-last-count.false ∙ w.count.ensures))
    ]
