use Rattle.std.proofs.Common.{refl}
use Rattle.sync_codec.specs.Spelling.{spelling}
use Rattle.sync_codec.specs.Lemmas.Back.{read_back}
use Rattle.sync_codec.proofs.decoding.what_is_spelled_is_read.Goals as goal

pub returns : goal.returns
returns c is valid = read_back (spelling is) is valid refl
