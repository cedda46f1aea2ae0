use Rattle.sync_host.proofs.Heads.{bears_none}
use Rattle.sync_host.proofs.head.put_borne_by.Goals as goal

pub returns-in_default : goal.returns-in_default
returns-in_default c = bears_none c.args.out.now.items c.args.message.now c.in_default.not-Upload c.in_default.not-Download
