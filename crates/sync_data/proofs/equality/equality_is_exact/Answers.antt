use Rattle.sync_data.specs.Equality.{instr_decides, changes_decides}
use Rattle.sync_data.proofs.equality.equality_is_exact.Goals as goal

pub returns : goal.returns
returns c = record { instrs = instr_decides; changesets = changes_decides }
