use Rattle.std.proofs.Common.{◌≡◌, ◌<◌, ◌∙◌, add-one, length, set, ap, arith}
use Rattle.sync_recip.specs.Stretches.{laid, told_kept}
use Rattle.sync_recip.specs.declared.kept.Kept.{Kept}
use Rattle.sync_recip.proofs.Laid.{step_shown}
use Rattle.sync_recip.proofs.stretch.write_first.Goals as goal

pub returns-clause-shown : goal.returns-clause-shown
returns-clause-shown c =
    let st = c.args.stretch.now in
    let us = c.args.kept.now.items in
    let u = c.index_mut-one.result.now in
    let v : Kept = record { version = u.version; item = c.tell.new.self } in
    let some = c.requires.some in
    let within = c.requires.stands.within in
    let there : st.start < length us = omega (arith, some, within) in
    let told_is : v ≡ told_kept (c.first-length.result) (c.pop_first-slot.result) u = ap (λ x. record { version = u.version; item = x }) c.tell.ensures in
    (λ i. laid (add-one st.start i) (c.pop_first-slot.ensures.lane i) (set us st.start v))
    ∙ step_shown st.start st.lane.first st.lane.slots us u v some there c.index_mut-one.ensures.value (told_is ∙ (λ i. told_kept (c.first-length.ensures.is i) (c.pop_first-slot.ensures.slot i) u))
