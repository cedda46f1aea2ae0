use Rattle.lives_law.proofs.Sending.{uploads_tell, downloads_tell}
use Rattle.lives_law.proofs.laws.nodes_tell_their_files.Goals as goal

pub returns-clause-downloads : goal.returns-clause-downloads
returns-clause-downloads g c = downloads_tell g.E.Exchange.profile g.E.Exchange.lawful

pub returns-clause-uploads : goal.returns-clause-uploads
returns-clause-uploads g c = uploads_tell g.E.Exchange.profile
