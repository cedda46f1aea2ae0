use Rattle.std.proofs.Common.{◌∙◌}
use Rattle.server_memory.proofs.Needs.{any_needs}
use Rattle.server_memory.proofs.version.needs_second.Goals as goal

pub returns : goal.returns
returns c = c.any_needs_second.ensures ∙ any_needs c.args.instrs.now
