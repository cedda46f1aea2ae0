use Rattle.std.proofs.Common.{subst, sym}
use Rattle.sync_node.specs.FileCommands.{Does}
use Rattle.sync_node.specs.declared.files.FileCommand.{FileCommand}
use Rattle.sync_node.proofs.files.run_over.Goals as goal

pub returns-in-Edit-clause-does : goal.returns-in-Edit-clause-does
returns-in-Edit-clause-does g c =
    let D = g.D.Disk in
    let ended = c.feed in
    subst (λ (command : FileCommand). Does D.content D.images D.moment D.images_since command (g.S.Source.left c.args.source.now) ended.result.status c.args.disk ended.result.disk (g.K.Sink.taken c.args.sink.now) (g.K.Sink.taken ended.new.sink)) (sym c.in-Edit.is)
    ended.ensures.answers

pub returns-in-Take-clause-does : goal.returns-in-Take-clause-does
returns-in-Take-clause-does g c =
    let D = g.D.Disk in
    let ended = c.feed-in-Take in
    subst (λ (command : FileCommand). Does D.content D.images D.moment D.images_since command (g.S.Source.left c.args.source.now) ended.result.status c.args.disk ended.result.disk (g.K.Sink.taken c.args.sink.now) (g.K.Sink.taken ended.new.sink)) (sym c.in-Take.is)
    ended.ensures.answers

pub returns-in-Recover-clause-does : goal.returns-in-Recover-clause-does
returns-in-Recover-clause-does g c =
    let D = g.D.Disk in
    let ended = c.feed-in-Recover in
    subst (λ (command : FileCommand). Does D.content D.images D.moment D.images_since command (g.S.Source.left c.args.source.now) ended.result.status c.args.disk ended.result.disk (g.K.Sink.taken c.args.sink.now) (g.K.Sink.taken ended.new.sink)) (sym c.in-Recover.is)
    ended.ensures.answers

pub returns-in-Serve-clause-does : goal.returns-in-Serve-clause-does
returns-in-Serve-clause-does g c =
    let D = g.D.Disk in
    let ended = c.feed-in-Serve in
    subst (λ (command : FileCommand). Does D.content D.images D.moment D.images_since command (g.S.Source.left c.args.source.now) ended.result.status c.args.disk ended.result.disk (g.K.Sink.taken c.args.sink.now) (g.K.Sink.taken ended.new.sink)) (sym c.in-Serve.is)
    ended.ensures.answers

pub returns-in-Send-clause-does : goal.returns-in-Send-clause-does
returns-in-Send-clause-does g c =
    let D = g.D.Disk in
    let ended = c.write_of_client in
    subst (λ (command : FileCommand). Does D.content D.images D.moment D.images_since command (g.S.Source.left c.args.source.now) ended.result.status c.args.disk ended.result.disk (g.K.Sink.taken c.args.sink.now) (g.K.Sink.taken ended.new.sink)) (sym c.in-Send.is)
    ended.ensures.tells

pub returns-in-Ask-clause-does : goal.returns-in-Ask-clause-does
returns-in-Ask-clause-does g c =
    let D = g.D.Disk in
    let ended = c.write_of_client-in-Ask in
    subst (λ (command : FileCommand). Does D.content D.images D.moment D.images_since command (g.S.Source.left c.args.source.now) ended.result.status c.args.disk ended.result.disk (g.K.Sink.taken c.args.sink.now) (g.K.Sink.taken ended.new.sink)) (sym c.in-Ask.is)
    ended.ensures.tells

pub returns-in-Retire-clause-does : goal.returns-in-Retire-clause-does
returns-in-Retire-clause-does g c =
    let D = g.D.Disk in
    let ended = c.write_of_client-in-Retire in
    subst (λ (command : FileCommand). Does D.content D.images D.moment D.images_since command (g.S.Source.left c.args.source.now) ended.result.status c.args.disk ended.result.disk (g.K.Sink.taken c.args.sink.now) (g.K.Sink.taken ended.new.sink)) (sym c.in-Retire.is)
    ended.ensures.tells

pub returns-in-Rescue-clause-does : goal.returns-in-Rescue-clause-does
returns-in-Rescue-clause-does g c =
    let D = g.D.Disk in
    let ended = c.write_of_client-in-Rescue in
    subst (λ (command : FileCommand). Does D.content D.images D.moment D.images_since command (g.S.Source.left c.args.source.now) ended.result.status c.args.disk ended.result.disk (g.K.Sink.taken c.args.sink.now) (g.K.Sink.taken ended.new.sink)) (sym c.in-Rescue.is)
    ended.ensures.tells

pub returns-in-Show-clause-does : goal.returns-in-Show-clause-does
returns-in-Show-clause-does g c =
    let D = g.D.Disk in
    let ended = c.show_node in
    subst (λ (command : FileCommand). Does D.content D.images D.moment D.images_since command (g.S.Source.left c.args.source.now) ended.result.status c.args.disk ended.result.disk (g.K.Sink.taken c.args.sink.now) (g.K.Sink.taken ended.new.sink)) (sym c.in-Show.is)
    ended.ensures.tells

pub returns-in-Trim-clause-does : goal.returns-in-Trim-clause-does
returns-in-Trim-clause-does g c =
    let D = g.D.Disk in
    let ended = c.write_of_server in
    subst (λ (command : FileCommand). Does D.content D.images D.moment D.images_since command (g.S.Source.left c.args.source.now) ended.result.status c.args.disk ended.result.disk (g.K.Sink.taken c.args.sink.now) (g.K.Sink.taken ended.new.sink)) (sym c.in-Trim.is)
    (record { tells = ended.ensures.tells; stands = ended.ensures.stands })

pub returns-in-Start-clause-does : goal.returns-in-Start-clause-does
returns-in-Start-clause-does g c =
    let D = g.D.Disk in
    let ended = c.write_of_server-in-Start in
    subst (λ (command : FileCommand). Does D.content D.images D.moment D.images_since command (g.S.Source.left c.args.source.now) ended.result.status c.args.disk ended.result.disk (g.K.Sink.taken c.args.sink.now) (g.K.Sink.taken ended.new.sink)) (sym c.in-Start.is)
    (record { tells = ended.ensures.tells; stands = ended.ensures.stands })

pub returns-in-Shrink-clause-does : goal.returns-in-Shrink-clause-does
returns-in-Shrink-clause-does g c =
    let D = g.D.Disk in
    let ended = c.write_of_client-in-Shrink in
    subst (λ (command : FileCommand). Does D.content D.images D.moment D.images_since command (g.S.Source.left c.args.source.now) ended.result.status c.args.disk ended.result.disk (g.K.Sink.taken c.args.sink.now) (g.K.Sink.taken ended.new.sink)) (sym c.in-Shrink.is)
    (record { tells = ended.ensures.tells; stands = ended.ensures.stands })
