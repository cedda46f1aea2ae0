-- A server that gave up its history before a floor, beside a client's file that goes together with the whole one.
use Rattle.std.specs.Prelude.{◌≡◌, ◌≢◌, ◌<◌, ◌≤◌, ℕ, false, List, ◌∷◌, Some, Err}
use Rattle.sync_model.specs.Profile.{Profile}
use Rattle.sync_model.specs.Bytes.{Name}
use Rattle.sync_model.specs.Each.{Each}
use Rattle.sync_model.specs.Messages.{Change, Message, Upload, Refused}
use Rattle.sync_model.specs.Clients.{ClientRecord, Original, client_of, question, change_of}
use Rattle.sync_model.specs.Servers.{ServerRecord, Trimmed, server_of, after_all, count, serve}
use Rattle.sync_model.specs.Parts.{Given, Parts, at_ident, parts_of, merge_by, serve_by}
use Rattle.sync_model.specs.Trims.{KeptLess, is_trimmed}
use Rattle.sync_model.specs.Worlds.{at}
use Rattle.sync_model.specs.Later.{Later, LaterEvent, all_later, LaterFacts}
use Rattle.lives_law.specs.Pair.{Fit}
use Rattle.lives_law.specs.Arriving.{MayArrive, pair_with}

module _ {I S : Type 0} (p : Profile I S) where
  -- what a server keeps of this file, where it gave up the history before a floor
  abbrev pub IsTrimmed : List ServerRecord → Parts I S → Type 0
  IsTrimmed f kept = KeptLess (parts_of p (server_of p f)) kept

  -- the client's file and the whole one as a world whose server answers by what it keeps, with such messages on their way
  abbrev pub trimmed_pair : List ServerRecord → List ClientRecord → Parts I S → Name → List Message → Later I S
  trimmed_pair f g kept name ms = record { world = pair_with p f g name ms; kept = kept }

  -- all that holds of exchanges in which history is given up holds of them, and of all that events make of them
  abbrev pub TrimmedHolds : (S → Type 0) → (f : List ServerRecord) (g : List ClientRecord) → Fit p f g → Parts I S → Type 0
  TrimmedHolds Fits f g fit kept = (name : Name) (ms : List Message) → Each (MayArrive p f g fit.id) ms → (es : List (LaterEvent I)) → LaterFacts p Fits (all_later p (trimmed_pair f g kept name ms) es)

  -- it does with a message what a server with the whole file does, and keeps the same but for the history before its floor
  pub record AnswersAlike (f : List ServerRecord) (kept : Parts I S) (m : Message) : Type 0 where
    pub records : (serve_by p kept m).records ≡ (serve p (server_of p f) m).records
    pub answer : (serve_by p kept m).answer ≡ (serve p (server_of p f) m).answer
    pub after : KeptLess (parts_of p (after_all p (server_of p f) (serve p (server_of p f) m).records)) (serve_by p kept m).parts

  -- the client's question is refused by code 71 where its cursor is below the floor, and only there
  pub record AsksAtFloor (g : List ClientRecord) (kept : Parts I S) : Type 0 where
    pub below : (client_of p g).cursor < kept.floor → (serve_by p kept (question (client_of p g) (client_of p g).subset)).answer ≡ Refused (client_of p g).ident 0 71 kept.floor
    pub above : kept.floor ≤ (client_of p g).cursor → is_trimmed (serve_by p kept (question (client_of p g) (client_of p g).subset)).answer ≡ false

  -- and an Upload that begins with the first of its changes that the server doesn't have, where this was made at a version below
  -- the floor; where it wasn't, the server doesn't refuse it for its floor
  pub record UploadsAtFloor (f : List ServerRecord) (g : List ClientRecord) (kept : Parts I S) : Type 0 where
    pub below : (o : Original I) (hs : List Change) → at (client_of p g).made (count (server_of p f) (client_of p g).ident) ≡ Some o → o.base < kept.floor
        → (serve_by p kept (Upload (client_of p g).ident (change_of p o ∷ hs))).answer ≡ Refused (client_of p g).ident o.number 71 kept.floor
    pub above : (o : Original I) (it : Given I) (n : ℕ) → at (client_of p g).made (count (server_of p f) (client_of p g).ident) ≡ Some o → kept.floor ≤ o.base
        → at_ident (client_of p g).ident kept.idents ≡ Some it → merge_by p kept (client_of p g).ident it (change_of p o) ≢ Err (Trimmed n)
