-- A message is its first byte and what follows.
use Rattle.std.proofs.Common.{◌≡◌, ◌∷◌, refl}
use Rattle.sync_messages.specs.Spelling.{fields_spelling, message_spelling, message_tag}
use Rattle.sync_messages.specs.declared.message.Message.{Message}
use Rattle.sync_messages.specs.declared.message.Message.TheVariants.{Bind, Ident, Upload, Ask, Download, Refused, Stored, Ask2, Retire, Retired, AskTables}

pub tagged : (message : Message) → message_tag message ∷ fields_spelling message ≡ message_spelling message
tagged (Bind uuid) = refl
tagged (Ident given) = refl
tagged (Upload upload) = refl
tagged (Ask ask) = refl
tagged (Download download) = refl
tagged (Refused ident number code place) = refl
tagged (Stored stored) = refl
tagged (Ask2 ask) = refl
tagged (Retire retire) = refl
tagged (Retired retired) = refl
tagged (AskTables asked) = refl
