use Rattle.lives_law.proofs.Saving.{heirs_beneath, all_stand}
use Rattle.lives_law.proofs.heirs_law.stored_heirs_are_heirs.Goals as goal

pub returns-clause-beneath : goal.returns-clause-beneath
returns-clause-beneath g c = λ label is old b s. heirs_beneath g.E.Exchange.profile old label is b s

pub returns-clause-stand : goal.returns-clause-stand
returns-clause-stand g c = λ label is old b s. all_stand g.E.Exchange.profile old label is b s
