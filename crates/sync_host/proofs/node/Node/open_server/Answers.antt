use Rattle.std.proofs.Common.{List, ℕ, map, ap, ◌∙◌}
use Rattle.sync_model.specs.Fronts.{file_gives}
use Rattle.sync_exchange.specs.Profile.{the_profile}
use Rattle.sync_exchange.specs.Seen.{read_server}
use Rattle.sync_server.specs.Files.{BadPlace}
use Rattle.sync_host.specs.Nodes.{OpensServer}
use Rattle.sync_host.specs.declared.reply.Reply.TheVariants as replies
use Rattle.sync_host.proofs.Files.{not_opened, tells_its_place, tells_of_none}
use Rattle.sync_host.proofs.node.Node.open_server.Goals as goal

pub returns-in-Ok-clause-opened : goal.returns-in-Ok-clause-opened
returns-in-Ok-clause-opened c = (_, c.put-in-Ok.ensures, c.in-Ok.ensures.opened, c.in-Ok.ensures.begins)

pub returns-in-Ok-clause-tells : goal.returns-in-Ok-clause-tells
returns-in-Ok-clause-tells c = let o = c.in-Ok.ensures.opened in
    tells_of_none (λ (file : List (List ℕ)). file_gives the_profile (map read_server file)) c.args.file.now o.file _ replies.Done o.holds (ap (file_gives the_profile) o.are.reads ∙ o.server.gives)

pub returns-in-Err-clause-opened : goal.returns-in-Err-clause-opened
returns-in-Err-clause-opened c = not_opened (BadPlace c.args.file.now) (OpensServer c.args.file.now) c.in-Err.reply _ c.in-Err.ensures.refused c.put.ensures

pub returns-in-Err-clause-tells : goal.returns-in-Err-clause-tells
returns-in-Err-clause-tells c = tells_its_place (λ (file : List (List ℕ)). file_gives the_profile (map read_server file)) c.args.file.now c.in-Err.reply c.in-Err.ensures.refused
