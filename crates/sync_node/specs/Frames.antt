-- The frames of messages.
use Rattle.std.specs.Prelude.{ℕ, List, ◌++◌, if◌then◌else◌, length, map}
use Rattle.byteorder.specs.Endian.{big_bytes}
use Rattle.sync_messages.specs.Parts.{ChangeParts, SentParts}
use Rattle.sync_messages.specs.Spelling.{message_spelling}
use Rattle.sync_messages.specs.declared.message.Message.{Message as CodeMessage}
use Rattle.sync_messages.specs.declared.message.Message.TheVariants as messages
use Rattle.sync_model.specs.Messages.{Change, Sent, Message}

-- ---- the messages of the model as those of the code, one line a kind
abbrev pub change_kept : Change → ChangeParts
change_kept h = record { number = h.number; base = h.base; ms = h.ms; body = h.body }

abbrev pub sent_kept : Sent → SentParts
sent_kept e = record { origin = e.origin; number = e.number; ms = e.ms; body = e.body }

abbrev pub message_kept : Message → CodeMessage
message_kept (Message.Bind id) = messages.Bind id
message_kept (Message.Ident id ident) = messages.Ident (record { uuid = id; ident = ident })
message_kept (Message.Upload ident changes) = messages.Upload (record { ident = ident; changes = map change_kept changes })
message_kept (Message.Ask ident cursor settled) = messages.Ask (record { ident = ident; cursor = cursor; settled = settled })
message_kept (Message.Download ident from entries) = messages.Download (record { ident = ident; from = from; entries = map sent_kept entries })
message_kept (Message.Refused ident number code place) = messages.Refused ident number code place
message_kept (Message.Stored ident number) = messages.Stored (record { ident = ident; number = number })
message_kept (Message.Ask2 ident cursor settled) = messages.Ask2 (record { ident = ident; cursor = cursor; settled = settled })
message_kept (Message.Retire ident by) = messages.Retire (record { ident = ident; by = by })
message_kept (Message.Retired ident by number) = messages.Retired (record { ident = ident; by = by; number = number })
message_kept (Message.AskTables ident cursor settled second tables) = messages.AskTables (record { ask = record { ident = ident; cursor = cursor; settled = settled }; form = if second then 2 else 1; tables = tables })

-- ---- frames
-- the length of bytes, the highest of four bytes first, and then the bytes
abbrev pub framed : List ℕ → List ℕ
framed bytes = big_bytes 4 (length bytes) ++ bytes

-- the frame of a message
abbrev pub frame : Message → List ℕ
frame message = framed (message_spelling (message_kept message))
