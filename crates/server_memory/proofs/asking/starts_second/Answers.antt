use Rattle.std.proofs.Common.{◌∙◌}
use Rattle.std.specs.Option.{option_copied}
use Rattle.server_memory.proofs.Keeps.{at_ok}
use Rattle.server_memory.proofs.Sending.{first_given}
use Rattle.server_memory.proofs.asking.starts_second.Goals as goal

pub returns-in-len1-up : goal.returns-in-len1-up
returns-in-len1-up c =
    at_ok c.is_second.result _ _ c.is_second.ensures (λ b e. e ∙ first_given (option_copied c.args.tables) c.args.entries.now c.entry.result.now c.first-item.result c.in-len1-up.len_at_least c.first-item.is c.entry.ensures)
