use Rattle.sync_base.specs.Lemmas.Reads.{framed}
use Rattle.sync_base.proofs.laws.frames_hold.Goals as goal

pub returns : goal.returns
returns c = framed
