use Rattle.sync_top.proofs.Shrinks.{shrinks_well}
use Rattle.sync_top.proofs.laws.shrinks_hold.Goals as goal

pub returns : goal.returns
returns c = λ bytes records file. shrinks_well bytes records file
