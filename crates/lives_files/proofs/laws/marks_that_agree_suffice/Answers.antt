use Rattle.lives_files.proofs.Entries.{server_is}
use Rattle.lives_files.proofs.Mades.{client_is}
use Rattle.lives_files.proofs.Agreeing.{agreeing}
use Rattle.lives_files.proofs.laws.marks_that_agree_suffice.Goals as goal

pub returns : goal.returns
returns g c = λ lives old b f h st ct s k a. agreeing lives.number g.E.Exchange.profile old b f h (server_is lives.number f st) (client_is lives.number h ct) s k a
