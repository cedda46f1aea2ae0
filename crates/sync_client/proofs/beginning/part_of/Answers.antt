use Rattle.sync_client.proofs.Runs.{no_part}
use Rattle.sync_client.proofs.beginning.part_of.Goals as goal

pub returns-else-tag-eq-PART : goal.returns-else-tag-eq-PART
returns-else-tag-eq-PART c = no_part c.args.bytes.now c.if-tag-eq-PART.false
