use Rattle.std.proofs.Common.{◌<◌, ◌∙◌, add-one, length, set, arith}
use Rattle.sync_rebase.specs.Stretches.{laid, told_unsent}
use Rattle.sync_rebase.proofs.Laid.{step_shown}
use Rattle.sync_rebase.proofs.stretch.write_first.Goals as goal

pub returns-clause-shown : goal.returns-clause-shown
returns-clause-shown c =
    let st = c.args.stretch.now in
    let us = c.args.items.now.items in
    let u = c.index_mut-unsent.result.now in
    let some = c.requires.some in
    let within = c.requires.stands.within in
    let there : st.start < length us = omega (arith, some, within) in
    (λ i. laid (add-one st.start i) (c.pop_first-slot.ensures.lane i) (set us st.start c.tell.new.self))
    ∙ step_shown st.start st.lane.first st.lane.slots us u c.tell.new.self some there c.index_mut-unsent.ensures.value (c.tell.ensures ∙ (λ i. told_unsent (c.first-length.ensures.is i) (c.pop_first-slot.ensures.slot i) u))
