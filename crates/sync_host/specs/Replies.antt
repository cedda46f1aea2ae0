-- Replies as bytes.
use Rattle.std.specs.Prelude.{ℕ, List, [], ◌∷◌, ◌++◌, length, take, drop}
use Rattle.std.specs.Int.{w32, w64, to_le_bytes}
use Rattle.sync_host.specs.Refusals.{declined_bytes}
use Rattle.sync_host.specs.declared.reply.Reply.{Reply}
use Rattle.sync_host.specs.declared.reply.Reply.TheVariants as replies
use Rattle.sync_host.specs.declared.reply.Standing.{Standing}

abbrev pub word : ℕ → List ℕ
word number = to_le_bytes w32 number

abbrev pub standing_bytes : Standing → List ℕ
standing_bytes s = word s.ident ++ (word s.cursor ++ (word s.last ++ word s.unsent))

-- the first byte is the status, as of the program's commands; what follows a 0 is the answer
abbrev pub reply_bytes : Reply → List ℕ
reply_bytes replies.Done = 0 ∷ []
reply_bytes (replies.Number number) = 0 ∷ word number
reply_bytes (replies.Bytes bytes) = 0 ∷ bytes.items
reply_bytes (replies.Standing standing) = 0 ∷ standing_bytes standing
reply_bytes (replies.Declined d) = 1 ∷ declined_bytes d
reply_bytes replies.BadRequest = 2 ∷ []
reply_bytes replies.Absent = 3 ∷ []
reply_bytes replies.Closed = 5 ∷ []
reply_bytes (replies.BadFile place) = 6 ∷ to_le_bytes w64 place
reply_bytes replies.NoMemory = 7 ∷ []

-- bytes over a buffer, as far as there is room
abbrev pub over : List ℕ → List ℕ → List ℕ
over bytes buffer = take (length buffer) bytes ++ drop (length bytes) buffer
