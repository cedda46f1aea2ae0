use Rattle.lives_files.proofs.Numbering.{numbering}
use Rattle.lives_files.proofs.laws.lives_have_numbers.Goals as goal

pub returns : goal.returns
returns c = numbering
