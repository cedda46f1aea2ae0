use Rattle.sync_host.proofs.Heads.{without_tables}
use Rattle.sync_host.proofs.head.put_tables_of.Goals as goal

pub returns-in_default : goal.returns-in_default
returns-in_default c = without_tables c.args.out.now.items c.args.message.now c.in_default.not-AskTables
