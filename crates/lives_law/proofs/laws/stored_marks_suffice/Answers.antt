use Rattle.std.proofs.Common.{◌∙◌, ap, sym}
use Rattle.sync_model.specs.Profile.{only_by}
use Rattle.sync_model.specs.Servers.{server_of, server_objects}
use Rattle.lives_law.specs.Instances.{plain, is_entry, is_made}
use Rattle.lives_law.specs.Stored.{bare}
use Rattle.lives_law.proofs.Converging.{files_converge}
use Rattle.lives_law.proofs.Passages.{lets_through}
use Rattle.lives_law.proofs.Standing.{all_know, agreeing_fit}
use Rattle.lives_law.proofs.laws.stored_marks_suffice.Goals as goal

pub returns-clause-alike : goal.returns-clause-alike
returns-clause-alike g c = λ old b f h k s a d ch ck same.
    let one = files_converge g.E.Exchange.profile g.E.Exchange.lawful g.E.Exchange.buildable (bare (plain f)) (bare (plain h)) (agreeing_fit g.E.Exchange.profile old b f h s a g.E.Exchange.lawful) in
    let two = files_converge g.E.Exchange.profile g.E.Exchange.lawful g.E.Exchange.buildable (bare (plain f)) (bare (plain k)) (agreeing_fit g.E.Exchange.profile old b f k s d g.E.Exchange.lawful) in
    one.equal ch ∙ ap (λ o. only_by g.E.Exchange.profile o (server_objects g.E.Exchange.profile (server_of g.E.Exchange.profile (bare (plain f))))) same ∙ sym (two.equal ck)

pub returns-clause-converge : goal.returns-clause-converge
returns-clause-converge g c = λ old b f h s a. files_converge g.E.Exchange.profile g.E.Exchange.lawful g.E.Exchange.buildable (bare (plain f)) (bare (plain h)) (agreeing_fit g.E.Exchange.profile old b f h s a g.E.Exchange.lawful)

pub returns-clause-downloads_pass : goal.returns-clause-downloads_pass
returns-clause-downloads_pass g c = λ f m h. lets_through is_entry f m h

pub returns-clause-fit : goal.returns-clause-fit
returns-clause-fit g c = λ old b f h s a. agreeing_fit g.E.Exchange.profile old b f h s a g.E.Exchange.lawful

pub returns-clause-roam : goal.returns-clause-roam
returns-clause-roam g c = λ old b s. let k = all_know g.E.Exchange.profile old b s in (k.beneath, k.roams, k.same)

pub returns-clause-uploads_pass : goal.returns-clause-uploads_pass
returns-clause-uploads_pass g c = λ f m h. lets_through is_made f m h
