use Rattle.std.proofs.Common.{◌∙◌}
use Rattle.sync_recip.proofs.items.Items.leave_before.Goals as goal

pub returns : goal.returns
returns c = c.write_before.ensures.shown ∙ c.self.view_is
