use Rattle.sync_node.proofs.Telling.{took_none}
use Rattle.sync_node.proofs.text.write_text.Goals as goal

pub returns-in-Err-clause-writes : goal.returns-in-Err-clause-writes
returns-in-Err-clause-writes g c = λ text made. took_none text (g.K.Sink.taken c.args.sink.now)
