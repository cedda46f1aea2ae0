-- The test by marks of a client's file that began with the state of a server.
use Rattle.std.specs.Prelude.{◌≡◌, ◌⊎◌, ◌+◌, ℕ, suc, Bool, true, List, [], ◌++◌, Option, Some, length}
use Rattle.sync_theory.specs.Changesets.{Changeset}
use Rattle.sync_model.specs.Profile.{Profile, restricted}
use Rattle.sync_model.specs.Bytes.{Uuid}
use Rattle.sync_model.specs.Messages.{Sent}
use Rattle.sync_model.specs.Each.{Each}
use Rattle.sync_model.specs.Clients.{ClientRecord, no_client, client_of, start_of, tooks_of}
use Rattle.sync_model.specs.Servers.{ServerRecord, no_server, server_of, server_objects, count, sent_of}
use Rattle.sync_model.specs.Files.{client_opens, server_opens}
use Rattle.sync_model.specs.Starts.{started}
use Rattle.sync_model.specs.Worlds.{at}
use Rattle.lives_law.specs.Lives.{Written, Files, Among, Mark}
use Rattle.lives_law.specs.Readers.{Follows}
use Rattle.lives_law.specs.Instances.{plain, is_entry, is_made, log_of}
use Rattle.lives_law.specs.Uploads.{HasLine}
use Rattle.lives_law.specs.Pair.{IsWhole, ident_at}
use Rattle.lives_law.specs.Passing.{history_told}

module _ {I S : Type 0} (p : Profile I S) where
  -- a client's file that begins with the objects of a server's file, as it is or once was, whose last entry then was one of this
  -- number and life, and which didn't know the client
  pub record BeganWith (w : Files ServerRecord) (g : List ClientRecord) (id : Uuid) (number life : ℕ) : Type 0 where
    pub file : List (Written ServerRecord)
    pub kept : Among file w.kept
    pub mark : Mark is_entry file number life
    pub long : length (log_of p file) ≡ suc number
    pub unknown : ident_at p (plain file) id ≡ 0
    pub second : Bool
    pub more : List ClientRecord
    pub starts : started p id second (suc number) (server_objects p (server_of p (plain file))) ++ more ≡ g
    pub whole : Each IsWhole more

  -- a client's file that begins with what a server has before its first entry
  pub record BeganFirst (g : List ClientRecord) (id : Uuid) : Type 0 where
    pub second : Bool
    pub more : List ClientRecord
    pub starts : started p id second 0 p.empty ++ more ≡ g
    pub whole : Each IsWhole more

  -- what a client took is the history of a server's file, as it is or once was, from the version at which the client began up to
  -- an entry of this number and life
  pub record HasSince (w : Files ServerRecord) (g : List ClientRecord) (number life : ℕ) : Type 0 where
    pub has : List (Option (Changeset I))
    pub line : Follows is_entry (history_told p) w (record { number = number; life = life; has = has })
    pub took : (k : ℕ) (e : Sent) → at (tooks_of g) k ≡ Some e → (x : Changeset I) × (at has (start_of (client_of p g) + k) ≡ Some (Some x)) × (e ≡ sent_of p (restricted p (client_of p g).subset x))

  -- a server's file and a client's that began with a state, each as it is or once was, that pass the test
  pub record StartPasses (w : Files ServerRecord) (v : Files ClientRecord) (f : List (Written ServerRecord)) (g : List (Written ClientRecord)) : Type 0 where
    pub server_kept : Among f w.kept
    pub client_kept : Among g v.kept
    pub server : server_opens p no_server (plain f) ≡ true
    pub client : client_opens p (no_client p) (plain g) ≡ true
    pub id : Uuid
    pub born : (client_of p (plain g)).id ≡ Some id
    pub ident : ((client_of p (plain g)).ident ≡ 0) ⊎ ((client_of p (plain g)).ident ≡ ident_at p (plain f) id)
    -- the client began at version 0, or the last entry before the version at which it began has the same life in the server's file
    pub began : BeganFirst (plain g) id ⊎ ((number life : ℕ) × BeganWith w (plain g) id number life × Mark is_entry f number life)
    -- and it took nothing, or the entry of its last number has the same life there
    pub reads : (tooks_of (plain g) ≡ []) ⊎ ((last life2 : ℕ) × HasSince w (plain g) last life2 × Mark is_entry f last life2)
    -- the server has nothing of its ident, or the last number that it has is of the same life in the client's file
    pub is_read : (count (server_of p (plain f)) (ident_at p (plain f) id) ≡ 0) ⊎ ((life2 : ℕ) × (h : HasLine p v (server_of p (plain f)) (ident_at p (plain f) id) life2) × Mark is_made g h.number life2)
