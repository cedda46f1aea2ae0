use Rattle.std.specs.Int.{w64}
use Rattle.std.proofs.lemmas.Int.{wrapping_add_is}
use Rattle.sync_cells.proofs.cell.sum_of.Goals as goal

pub returns : goal.returns
returns c = wrapping_add_is w64 c.args.number c.args.amount c.ranges.number c.ranges.amount
