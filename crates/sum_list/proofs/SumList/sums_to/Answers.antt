use Rattle.std.proofs.Common.{◌+◌, length, ap, subst, arith}
use Rattle.sum_list.specs.Blocks.{joined}
use Rattle.sum_list.specs.Places.{IsAt, Reaches}
use Rattle.sum_list.proofs.Walks.{reaches_place}
use Rattle.sum_list.proofs.SumList.sums_to.Goals as goal

pub returns-clause-place : goal.returns-clause-place
returns-clause-place g c =
    let xs = joined c.self.inside.blocks.items in let len = c.self.invariant.0 in let least = c.min-place.ensures in
    let all = ap length c.self.view_is in let value = c.as_slice.ensures.value in
    let at = subst (λ bs. IsAt g.T.Measured.before g.T.Measured.after (joined bs) c.find.result) value c.find.ensures.at in
    let reaches = subst (λ bs. Reaches (λ _. 1) (c.min-place.result + 1) (joined bs) c.find.result.place) value c.find.ensures.reaches in
    let within = at.within in let same = reaches_place g.T.Measured.before g.T.Measured.after xs c.find.result.place c.min-place.result within (omega arith) reaches in omega arith
