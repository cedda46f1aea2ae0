use Rattle.std.proofs.Common.{◌-◌, length, arith}
use Rattle.server_memory.proofs.Entries.{entries_fit}
use Rattle.server_memory.proofs.kept.Kept.front_entries.Goals as goal

pub front_passed-requires-clause-within : goal.front_passed-requires-clause-within
front_passed-requires-clause-within c =
    let g = c.in_ok-grown.grown in
    let fit = entries_fit c.args.records.now c.args.place (c.args.len - c.args.floor) (length g.entries.items) c.in_ok-grown.ensures.read.1 c.requires.within in
    omega (arith, fit, c.len-count.ensures, g.entries.ok.0)
