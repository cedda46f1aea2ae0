-- What nodes send of their files: today's messages, with the lives of what they bear.
use Rattle.std.specs.Prelude.{◌≡◌, ℕ, Bool, true, ◌-◌, if◌then◌else◌, List, [], ◌∷◌, Option, Some, None, Ok, length, drop}
use Rattle.sync_model.specs.Bytes.{Tables}
use Rattle.sync_model.specs.Profile.{Profile}
use Rattle.sync_model.specs.Messages.{Change, Sent, Message, Upload, Ask, Ask2, AskTables, Download}
use Rattle.sync_model.specs.Clients.{ClientRecord, no_client, client_of, upload}
use Rattle.sync_model.specs.Servers.{ServerRecord, no_server, server_of, serve}
use Rattle.sync_model.specs.Files.{IsLong, client_opens, server_opens}
use Rattle.sync_model.specs.Each.{Each}
use Rattle.lives_law.specs.Lives.{Written}
use Rattle.lives_law.specs.Instances.{plain, is_entry, is_made}
use Rattle.lives_law.specs.Stored.{Passage, IsUploadOf, IsDownloadOf}

-- the lives of the records that count, in order
abbrev pub lives_of : {R : Type 0} → (R → Bool) → List (Written R) → List ℕ
lives_of counts [] = []
lives_of counts (x ∷ f) = if counts x.what then x.life ∷ lives_of counts f else lives_of counts f

-- what is told from a number on, with its life and those that follow; number 0 has a life of its own
abbrev pub passage_of : {R X : Type 0} → (R → Bool) → ℕ → List (Written R) → ℕ → List X → Passage X
passage_of counts first f from tells = record { from = from; lives = drop from (first ∷ lives_of counts f); tells = tells }

-- a question for all of the history, or for these tables
abbrev pub Asks : Option Tables → Message → Type 0
Asks o (Ask c cursor settled) = o ≡ None
Asks o (Ask2 c cursor settled) = o ≡ None
Asks o (AskTables c cursor settled second tables) = o ≡ Some tables
Asks o m = ⊥

module _ {I S : Type 0} (p : Profile I S) where
  -- what a client uploads is an Upload of its file, which has no short front: from what it took of its own on
  abbrev pub UploadsTell : Type 0
  UploadsTell = (f : List (Written ClientRecord)) (first c : ℕ) (hs : List Change) → Each IsLong (plain f) → client_opens p (no_client p) (plain f) ≡ true → (upload p (client_of p (plain f))).answer ≡ Ok (Upload c hs)
      → IsUploadOf p f (passage_of is_made first f (length (client_of p (plain f)).made - length (client_of p (plain f)).unsent) hs)

  -- what a server answers to a question is a Download of its file, for a client that asks for its own tables
  abbrev pub DownloadsTell : Type 0
  DownloadsTell = (f : List (Written ServerRecord)) (g : List ClientRecord) (m : Message) (first c from : ℕ) (es : List Sent) → server_opens p no_server (plain f) ≡ true → Asks (client_of p g).subset m → (serve p (server_of p (plain f)) m).answer ≡ Download c from es
      → IsDownloadOf p f g (passage_of is_entry first f from es)
