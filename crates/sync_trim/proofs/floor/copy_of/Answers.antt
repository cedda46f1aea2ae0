use Rattle.std.proofs.Common.{◌∙◌}
use Rattle.sync_trim.proofs.States.{grown_is}
use Rattle.sync_trim.proofs.floor.copy_of.Goals as goal

pub returns-in-Ok : goal.returns-in-Ok
returns-in-Ok c = grown_is c.args.objects.now c.in-Ok.copy c.as_slice.result.now c.keeps_its_limits.ensures.state (c.as_slice.ensures.value ∙ c.in_ok-parts.ensures.parts) c.in-Ok.ensures.grown
