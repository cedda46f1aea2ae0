use Rattle.std.proofs.Common.{◌∙◌, ap, sym}
use Rattle.sync_model.specs.Profile.{only_by}
use Rattle.sync_model.specs.Servers.{server_of, server_objects}
use Rattle.lives_law.proofs.Arriving.{pairs_answer}
use Rattle.lives_law.proofs.Converging.{files_converge}
use Rattle.lives_files.specs.Agreeing.{server_records, client_records}
use Rattle.lives_files.proofs.Journals.{mirrors}
use Rattle.lives_files.proofs.Standing.{two_fit}
use Rattle.lives_files.proofs.laws.journals_keep_lives.Goals as goal

pub returns-clause-alike : goal.returns-clause-alike
returns-clause-alike g c = λ lives old b f h k r q s t a d ch ck same.
    let one = files_converge g.E.Exchange.profile g.E.Exchange.lawful g.E.Exchange.buildable (server_records lives.number f) (client_records lives.number h) (two_fit lives.number g.E.Exchange.profile g.E.Exchange.lawful old b r f h q s a) in
    let two = files_converge g.E.Exchange.profile g.E.Exchange.lawful g.E.Exchange.buildable (server_records lives.number f) (client_records lives.number k) (two_fit lives.number g.E.Exchange.profile g.E.Exchange.lawful old b r f k q t d) in
    one.equal ch ∙ ap (λ o. only_by g.E.Exchange.profile o (server_objects g.E.Exchange.profile (server_of g.E.Exchange.profile (server_records lives.number f)))) same ∙ sym (two.equal ck)

pub returns-clause-answers : goal.returns-clause-answers
returns-clause-answers g c = λ lives old b f h r q s a active.
    let fit = two_fit lives.number g.E.Exchange.profile g.E.Exchange.lawful old b r f h q s a in
    (fit, pairs_answer g.E.Exchange.profile g.E.Exchange.lawful g.E.Exchange.buildable (server_records lives.number f) (client_records lives.number h) fit active)

pub returns-clause-clients_tell : goal.returns-clause-clients_tell
returns-clause-clients_tell g c = λ lives old b h r a. (mirrors lives.number g.E.Exchange.profile old b r).clients_tell h a

pub returns-clause-converge : goal.returns-clause-converge
returns-clause-converge g c = λ lives old b f h r q s a. files_converge g.E.Exchange.profile g.E.Exchange.lawful g.E.Exchange.buildable (server_records lives.number f) (client_records lives.number h) (two_fit lives.number g.E.Exchange.profile g.E.Exchange.lawful old b r f h q s a)

pub returns-clause-fit : goal.returns-clause-fit
returns-clause-fit g c = λ lives old b f h r q s a. two_fit lives.number g.E.Exchange.profile g.E.Exchange.lawful old b r f h q s a

pub returns-clause-servers_tell : goal.returns-clause-servers_tell
returns-clause-servers_tell g c = λ lives old b f r a. (mirrors lives.number g.E.Exchange.profile old b r).servers_tell f a

pub returns-clause-stand : goal.returns-clause-stand
returns-clause-stand g c = λ lives old b r. let k = mirrors lives.number g.E.Exchange.profile old b r in (k.stores, k.stands, k.servers, k.clients)
