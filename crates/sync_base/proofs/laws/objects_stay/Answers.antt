use Rattle.sync_base.specs.Lemmas.Objects.{apart_stay, objects_stay}
use Rattle.sync_base.specs.Lemmas.Payloads.{payloads_stay}
use Rattle.sync_base.proofs.laws.objects_stay.Goals as goal

pub returns : goal.returns
returns c = record { apart = apart_stay; about = objects_stay; payload = payloads_stay }
