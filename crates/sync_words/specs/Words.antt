-- The words of an outcome.
use Rattle.std.specs.Prelude.{ℕ, List, [], ◌∷◌, ◌++◌, codes, decimal, length}
use Rattle.std.specs.List.{flat_map}
use Rattle.serde_json.specs.Data.{string}
use Rattle.serde_json.specs.Written.{compact_text}
use Rattle.sync_model.specs.Messages.{Message}
use Rattle.sync_model.specs.Clients.{ClientRefusal}
use Rattle.sync_model.specs.Worlds.{Words}

-- a name as a JSON string
abbrev pub name_text : List ℕ → List ℕ
name_text name = compact_text (string name)

-- a word and numbers, each after a space
abbrev pub numbers_text : List ℕ → List ℕ
numbers_text = flat_map (λ n. codes " " ++ decimal n)

abbrev pub said : List ℕ → List ℕ → List ℕ
said word numbers = word ++ numbers_text numbers

-- the line of an outcome: its number, a space and the words
abbrev pub outcome_line : ℕ → List ℕ → List ℕ
outcome_line number words = decimal number ++ codes " " ++ words ++ codes "\n"

-- ---- why a client refuses: the name of the reason and its fields in their order
abbrev pub refused : List ℕ → List ℕ → List ℕ
refused reason fields = codes "refused " ++ said reason fields

abbrev pub refusal_text : ClientRefusal → List ℕ
refusal_text ClientRefusal.NotBorn = refused (codes "NotBorn") []
refusal_text ClientRefusal.AlreadyBorn = refused (codes "AlreadyBorn") []
refusal_text ClientRefusal.NotNamed = refused (codes "NotNamed") []
refusal_text ClientRefusal.TooLarge = refused (codes "TooLarge") []
refusal_text ClientRefusal.NumbersFull = refused (codes "NumbersFull") []
refusal_text (ClientRefusal.OldForm place) = refused (codes "OldForm") (place ∷ [])
refusal_text (ClientRefusal.NotSubscribed place) = refused (codes "NotSubscribed") (place ∷ [])
refusal_text (ClientRefusal.Break place code) = refused (codes "Break") (place ∷ code ∷ [])
refusal_text ClientRefusal.NotMine = refused (codes "NotMine") []
refusal_text (ClientRefusal.IdentDiffers kept got) = refused (codes "IdentDiffers") (kept ∷ got ∷ [])
refusal_text (ClientRefusal.Gap cursor from) = refused (codes "Gap") (cursor ∷ from ∷ [])
refusal_text (ClientRefusal.BadBody version offset rule) = refused (codes "BadBody") (version ∷ offset ∷ rule ∷ [])
refusal_text (ClientRefusal.OldEntry version) = refused (codes "OldEntry") (version ∷ [])
refusal_text (ClientRefusal.Mismatch version number kind) = refused (codes "Mismatch") (version ∷ number ∷ kind ∷ [])
refusal_text (ClientRefusal.Forked number) = refused (codes "Forked") (number ∷ [])
refusal_text (ClientRefusal.NotApplicable version place code) = refused (codes "NotApplicable") (version ∷ place ∷ code ∷ [])
refusal_text (ClientRefusal.WasRefused number code) = refused (codes "WasRefused") (number ∷ code ∷ [])
refusal_text ClientRefusal.Subscribed = refused (codes "Subscribed") []
refusal_text ClientRefusal.TooLate = refused (codes "TooLate") []

-- ---- what the server replies: a Download by the number of its entries (the others are no replies)
abbrev pub reply_text : Message → List ℕ
reply_text (Message.Ident id ident) = codes " " ++ said (codes "ident") (ident ∷ [])
reply_text (Message.Stored ident number) = codes " " ++ said (codes "stored") (ident ∷ number ∷ [])
reply_text (Message.Download ident from entries) = codes " " ++ said (codes "download") (ident ∷ from ∷ length entries ∷ [])
reply_text (Message.Refused ident number code place) = codes " " ++ said (codes "refused") (ident ∷ number ∷ code ∷ place ∷ [])
reply_text (Message.Retired ident by number) = codes " " ++ said (codes "retired") (ident ∷ by ∷ number ∷ [])
reply_text (Message.Bind id) = []
reply_text (Message.Upload ident changes) = []
reply_text (Message.Ask ident cursor settled) = []
reply_text (Message.Ask2 ident cursor settled) = []
reply_text (Message.Retire ident by) = []
reply_text (Message.AskTables ident cursor settled second tables) = []

-- ---- all words
abbrev pub words_text : Words → List ℕ
words_text (Words.Joined name) = codes "client " ++ name_text name
words_text (Words.Made number) = said (codes "made") (number ∷ [])
words_text (Words.Messaged place) = said (codes "message") (place ∷ [])
words_text (Words.Took cursor) = said (codes "took") (cursor ∷ [])
words_text (Words.Replied place reply) = said (codes "reply") (place ∷ []) ++ reply_text reply
words_text Words.Opened = codes "opened"
words_text Words.Armed = codes "armed"
words_text Words.Stopped = codes "stopped"
words_text Words.Upgraded = codes "upgraded"
words_text Words.Current = codes "current"
words_text Words.SubscribedTo = codes "subscribed"
words_text (Words.Declined why) = refusal_text why
words_text Words.NameTaken = refused (codes "NameTaken") []
words_text Words.UuidTaken = refused (codes "UuidTaken") []
words_text Words.NoNode = refused (codes "NoNode") []
words_text Words.NoMessage = refused (codes "NoMessage") []
words_text Words.BadMessage = refused (codes "BadMessage") []
words_text Words.OwnIdent = refused (codes "OwnIdent") []
