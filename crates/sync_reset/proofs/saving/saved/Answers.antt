use Rattle.std.proofs.Common.{ap, ◌∙◌}
use Rattle.sync_model.specs.Resets.{saved}
use Rattle.sync_exchange.specs.Profile.{the_profile}
use Rattle.sync_reset.specs.Saved.{drops}
use Rattle.sync_reset.proofs.Alike.{saved_alike}
use Rattle.sync_reset.proofs.saving.saved.Goals as goal

pub returns-clause-kept : goal.returns-clause-kept
returns-clause-kept c =
    let part = c.in_ok-part.part in
    let is = c.args.changes.now.instrs in
    c.of.ensures ∙ c.in_ok-trial.ensures.0 ∙ ap (λ l. (saved the_profile part l).kept) c.instrs.ensures.listed
    ∙ (saved_alike part c.args.objects.now is c.in_ok-part.ensures.tables c.in_ok-part.ensures.objects).kept

pub returns-clause-dropped : goal.returns-clause-dropped
returns-clause-dropped c =
    let part = c.in_ok-part.part in
    let is = c.args.changes.now.instrs in
    ap drops c.of-2.ensures ∙ c.in_ok-trial.ensures.1 ∙ ap (λ l. (saved the_profile part l).dropped) c.instrs.ensures.listed
    ∙ (saved_alike part c.args.objects.now is c.in_ok-part.ensures.tables c.in_ok-part.ensures.objects).dropped
