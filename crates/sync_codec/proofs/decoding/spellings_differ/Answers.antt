use Rattle.sync_codec.specs.Lemmas.Back.{no_prefix}
use Rattle.sync_codec.proofs.decoding.spellings_differ.Goals as goal

pub returns : goal.returns
returns c = no_prefix
