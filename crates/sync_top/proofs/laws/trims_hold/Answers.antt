use Rattle.sync_top.proofs.Trims.{stays_own, trims_well}
use Rattle.sync_top.proofs.laws.trims_hold.Goals as goal

pub returns : goal.returns
returns c = record {
  alike = λ records own. trims_well records own;
  own = λ records frames. stays_own records frames;
}
