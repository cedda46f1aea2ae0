use Rattle.lives_law.proofs.Converging.{files_converge}
use Rattle.lives_law.proofs.laws.files_converge.Goals as goal

pub returns : goal.returns
returns g c = λ f h fit. files_converge g.E.Exchange.profile g.E.Exchange.lawful g.E.Exchange.buildable f h fit
