use Rattle.std.proofs.Common.{refl}
use Rattle.sync_client.specs.Files.{BadPlace}
use Rattle.sync_model.specs.Clients.{no_client}
use Rattle.sync_model.specs.Files.{client_reads}
use Rattle.sync_exchange.specs.Profile.{the_profile}
use Rattle.sync_exchange.specs.Seen.{read_client}
use Rattle.sync_host.specs.Nodes.{OpensClient}
use Rattle.sync_host.specs.declared.reply.Reply.TheVariants as replies
use Rattle.sync_host.proofs.Files.{not_opened, tells_its_place, tells_of_none}
use Rattle.sync_host.proofs.node.Node.open_client.Goals as goal

pub returns-in-Ok-clause-opened : goal.returns-in-Ok-clause-opened
returns-in-Ok-clause-opened c = (_, c.put-in-Ok.ensures, refl, c.new.ensures.items, c.in-Ok.ensures.opened, c.in-Ok.ensures.begins)

pub returns-in-Ok-clause-tells : goal.returns-in-Ok-clause-tells
returns-in-Ok-clause-tells c = let o = c.in-Ok.ensures.opened in
    tells_of_none (client_reads the_profile read_client (no_client the_profile)) c.args.file.now o.file o.records replies.Done o.holds o.reads

pub returns-in-Err-clause-opened : goal.returns-in-Err-clause-opened
returns-in-Err-clause-opened c = not_opened (BadPlace c.args.file.now) (OpensClient c.args.file.now) c.in-Err.reply _ c.in-Err.ensures.refused c.put.ensures

pub returns-in-Err-clause-tells : goal.returns-in-Err-clause-tells
returns-in-Err-clause-tells c = tells_its_place (client_reads the_profile read_client (no_client the_profile)) c.args.file.now c.in-Err.reply c.in-Err.ensures.refused
