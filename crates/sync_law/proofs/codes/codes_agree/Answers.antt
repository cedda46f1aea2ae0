use Rattle.sync_law.specs.CodedLaw.{applies, keeps_by_code, two_sided_by_code, kinds_by_code}
use Rattle.sync_law.proofs.codes.codes_agree.Goals as goal

pub returns : goal.returns
returns c = record { acts = applies; keeps = keeps_by_code; two_sided = two_sided_by_code; kinds = kinds_by_code }
