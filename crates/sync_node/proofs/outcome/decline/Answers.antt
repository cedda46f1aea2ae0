use Rattle.sync_client.specs.Refusals.{refusal_seen}
use Rattle.sync_node.proofs.Told.{declined_some, plain_seen}
use Rattle.sync_node.proofs.outcome.decline.Goals as goal

pub returns-in_default-clause-seen : goal.returns-in_default-clause-seen
returns-in_default-clause-seen c =
    declined_some c.args.number (refusal_seen c.args.refusal) c.say.result (plain_seen c.args.refusal c.in_default.not-DiskFault c.in_default.not-NoMemory c.in_default.not-Closed) c.say.ensures.said
