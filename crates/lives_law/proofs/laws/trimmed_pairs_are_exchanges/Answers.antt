use Rattle.lives_law.proofs.Trimmed.{asks_at_floor, no_further, trimmed_alike, trimmed_hold, trims_again, uploads_at_floor, whole_is}
use Rattle.lives_law.proofs.laws.trimmed_pairs_are_exchanges.Goals as goal

pub returns-clause-alike : goal.returns-clause-alike
returns-clause-alike g c = λ f kept m e less none. trimmed_alike g.E.Exchange.profile g.E.Exchange.lawful g.E.Exchange.buildable f kept m e less none

pub returns-clause-asks : goal.returns-clause-asks
returns-clause-asks g c = λ f h kept fit less named. asks_at_floor g.E.Exchange.profile g.E.Exchange.lawful g.E.Exchange.buildable f h kept fit less named

pub returns-clause-holds : goal.returns-clause-holds
returns-clause-holds g c = λ f h kept fit active less. trimmed_hold g.E.Exchange.profile g.E.Exchange.lawful g.E.Exchange.buildable f h kept fit active less

pub returns-clause-trims : goal.returns-clause-trims
returns-clause-trims g c = λ f kept e less. trims_again g.E.Exchange.profile g.E.Exchange.lawful g.E.Exchange.buildable f kept e less

pub returns-clause-uploads : goal.returns-clause-uploads
returns-clause-uploads g c = λ f h kept fit less named active. uploads_at_floor g.E.Exchange.profile g.E.Exchange.lawful g.E.Exchange.buildable f h kept fit less named active

pub returns-clause-whole : goal.returns-clause-whole
returns-clause-whole g c = λ f. whole_is g.E.Exchange.profile g.E.Exchange.lawful g.E.Exchange.buildable f

pub returns-clause-settled : goal.returns-clause-settled
returns-clause-settled g c = λ kept d it there live. no_further g.E.Exchange.profile g.E.Exchange.lawful g.E.Exchange.buildable kept d it there live
