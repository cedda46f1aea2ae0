-- By which rules an event of an exchange may be refused.
use Rattle.std.specs.Prelude.{◌≡◌, ◌⊎◌, ℕ, Option, None, Some}
use Rattle.sync_data.specs.declared.instr.Instr.{Instr}
use Rattle.sync_model.specs.Clients.{ClientRefusal, NotNamed, TooLarge, NumbersFull, OldForm, NotSubscribed, Break, NotMine, Mismatch, WasRefused, Subscribed, TooLate}
use Rattle.sync_model.specs.Log.{IsFair}
use Rattle.sync_model.specs.Messages.{Message, Bind, Upload, Ask, Download, Refused, Ask2, Retire, AskTables}
use Rattle.sync_model.specs.Profile.{IsNamedKind}
use Rattle.sync_model.specs.Worlds.{World, Event, Edits, Uploads, Asks, Subscribes, Delivers, Injects, Words, Declined, Replied, message_at}

-- a transaction: its size, the numbers, the form of the file, the first instruction of another table than the client's, and
-- the first that doesn't act
abbrev pub MayNotCommit : ClientRefusal → Type 0
MayNotCommit TooLarge = Unit {0}
MayNotCommit NumbersFull = Unit {0}
MayNotCommit (OldForm place) = Unit {0}
MayNotCommit (NotSubscribed place) = Unit {0}
MayNotCommit (Break place code) = Unit {0}
MayNotCommit why = ⊥

-- an upload or a question: the client has no ident yet
abbrev pub MayNotSend : ClientRefusal → Type 0
MayNotSend NotNamed = Unit {0}
MayNotSend why = ⊥

-- a list of tables: the client has one, or it is too late for one
abbrev pub MayNotSubscribe : ClientRefusal → Type 0
MayNotSubscribe Subscribed = Unit {0}
MayNotSubscribe TooLate = Unit {0}
MayNotSubscribe why = ⊥

abbrev pub IsMismatch : ClientRefusal → Type 0
IsMismatch (Mismatch version number kind) = IsNamedKind kind
IsMismatch why = ⊥

-- Why a client declines a message that was made: it is for another node; a Download also because an entry and an unsent changeset
-- mismatch, and a Refused because of what it says.
abbrev pub MayNotTake : Message → ClientRefusal → Type 0
MayNotTake (Download ident from entries) why = (why ≡ NotMine) ⊎ IsMismatch why
MayNotTake (Refused ident number code place) why = (why ≡ NotMine) ⊎ (why ≡ WasRefused number code)
MayNotTake m why = why ≡ NotMine

abbrev pub IsDeclineOf : Option Message → ClientRefusal → Type 0
IsDeclineOf None why = ⊥
IsDeclineOf (Some m) why = MayNotTake m why

-- a reply that is a refusal has such a code
abbrev pub RefusesBy : (ℕ → Type 0) → Message → Type 0
RefusesBy Code (Refused ident number code place) = Code code
RefusesBy Code reply = Unit {0}

-- a change: a mismatch of the schema, or a full history
abbrev pub IsOfChange : ℕ → Type 0
IsOfChange code = IsNamedKind code ⊎ (code ≡ 64)

-- What a server replies to a message that a client of the exchange made: a Bind is refused where the idents are full, an Upload
-- by its changes alone, an Ask of the first form where the next entry needs the second, one of the second form never, and what
-- isn't for a server because of that. A client of the exchange asks for no retirement.
abbrev pub IsNamedReply : Message → Message → Type 0
IsNamedReply (Bind u) reply = RefusesBy (λ code. code ≡ 65) reply
IsNamedReply (Upload ident changes) reply = IsFair reply × RefusesBy IsOfChange reply
IsNamedReply (Ask ident cursor settled) reply = RefusesBy (λ code. code ≡ 67) reply
IsNamedReply (Ask2 ident cursor settled) reply = RefusesBy (λ code. ⊥) reply
IsNamedReply (AskTables ident cursor settled second tables) reply = RefusesBy (λ code. code ≡ 67) reply
IsNamedReply (Retire ident by) reply = RefusesBy (λ code. ⊥) reply
IsNamedReply m reply = RefusesBy (λ code. code ≡ 66) reply

abbrev pub IsReplyTo : Option Message → Message → Type 0
IsReplyTo None reply = ⊥
IsReplyTo (Some m) reply = IsNamedReply m reply

-- the words decline and reply nothing else
abbrev pub SaysOnly : (ClientRefusal → Type 0) → (Message → Type 0) → Words → Type 0
SaysOnly May IsReply (Declined why) = May why
SaysOnly May IsReply (Replied place reply) = IsReply reply
SaysOnly May IsReply words = Unit {0}

-- What is said of an event in a world refuses by a rule of that event alone. Bytes from outside may be refused by any.
abbrev pub IsNamedOutcome : World → Event Instr → Words → Type 0
IsNamedOutcome w (Edits name ms edits) words = SaysOnly MayNotCommit (λ reply. ⊥) words
IsNamedOutcome w (Uploads name) words = SaysOnly MayNotSend (λ reply. ⊥) words
IsNamedOutcome w (Asks name) words = SaysOnly MayNotSend (λ reply. ⊥) words
IsNamedOutcome w (Subscribes name tables) words = SaysOnly MayNotSubscribe (λ reply. ⊥) words
IsNamedOutcome w (Delivers message to) words = SaysOnly (IsDeclineOf (message_at w message)) (IsReplyTo (message_at w message)) words
IsNamedOutcome w (Injects message) words = SaysOnly (λ why. ⊥) (λ reply. Unit {0}) words
IsNamedOutcome w e words = SaysOnly (λ why. ⊥) (λ reply. ⊥) words
