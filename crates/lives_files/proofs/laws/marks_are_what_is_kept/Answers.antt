use Rattle.lives_files.proofs.Entries.{server_is}
use Rattle.lives_files.proofs.Mades.{client_is}
use Rattle.lives_files.proofs.laws.marks_are_what_is_kept.Goals as goal

pub returns-clause-client : goal.returns-clause-client
returns-clause-client c = λ lives g t. client_is lives.number g t

pub returns-clause-server : goal.returns-clause-server
returns-clause-server c = λ lives f t. server_is lives.number f t
