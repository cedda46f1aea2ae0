-- A recovery run by run, each over what the old client sends from the first change on that its heir hasn't.
use Rattle.std.specs.Prelude.{◌≡◌, ◌⊎◌, ℕ, zero, suc, ◌+◌, List, [], ◌∷◌, ◌++◌, Some, Err}
use Rattle.sync_model.specs.Bytes.{Name}
use Rattle.sync_model.specs.Profile.{Profile}
use Rattle.sync_model.specs.Messages.{Message, Upload, Retired}
use Rattle.sync_model.specs.Clients.{Client, ClientRecord, ClientRefusal, Original, change_of, client_of, last, to_upload_from}
use Rattle.sync_model.specs.Servers.{ServerRecord, count, server_of}
use Rattle.sync_model.specs.Resets.{ByClient, heir, recover}
use Rattle.sync_model.specs.Recovery.{IsSaved, StopsAt, numbers_of, whole_history}
use Rattle.sync_model.specs.Worlds.{Node, World, Event, Edits, at, world_after}

-- all of these are transactions of the client of this name
pub data AllEdits {I : Type 0} (name : Name) : List (Event I) → Type 0 where
  no_edits : AllEdits name []
  an_edit : {ms : ℕ} {edits : List I} {es : List (Event I)} → AllEdits name es → AllEdits name (Edits name ms edits ∷ es)

module _ {I S : Type 0} (p : Profile I S) where
  -- the frames of a run: the server's answer, and what the old client sends above a number
  abbrev pub rescue_frames : Client I S → ℕ → ℕ → ℕ → List Message
  rescue_frames old by n after = Retired old.ident by n ∷ Upload old.ident (to_upload_from p old after) ∷ []

  -- an heir's file after a run, where so many changes of the old client are integrated
  abbrev pub after_run : Client I S → ℕ → List ClientRecord → List ClientRecord
  after_run old n rs = rs ++ (recover p (client_of p rs) (rescue_frames old (client_of p rs).ident n (n + last (client_of p rs)))).records

  -- and after so many runs
  abbrev pub after_runs : Client I S → ℕ → ℕ → List ClientRecord → List ClientRecord
  after_runs old n zero rs = rs
  after_runs old n (suc k) rs = after_runs old n k (after_run old n rs)

  -- an heir's commit refuses the next change, for a reason that the laws name
  pub record IsHeldUp (old : Client I S) (n : ℕ) (c : Client I S) : Type 0 where
    pub original : Original I
    pub there : at old.made (n + last c) ≡ Some original
    pub why : ClientRefusal
    pub refused : (heir p c c.ident n (change_of p original)).answer ≡ Err (ByClient why)
    pub stops : StopsAt p c (change_of p original) why

  -- the old client's change at a place is integrated as itself, or it is saved by its heir
  abbrev pub LivesOn : List ServerRecord → ℕ → List ClientRecord → List ClientRecord → ℕ → Type 0
  LivesOn server ident old rs k = (at (numbers_of ident (whole_history p (server_of p server))) k ≡ Some (suc k)) ⊎ ((j : ℕ) × (k ≡ count (server_of p server) ident + j) × IsSaved p old rs (count (server_of p server) ident) j)

  -- in a world a run is what a list of its client's transactions does
  pub record RunsAs (w : World) (place : ℕ) (nd : Node) (frames : List Message) : Type 0 where
    pub events : List (Event I)
    pub edits : AllEdits nd.name events
    pub after : at (world_after p w events).clients place ≡ Some (record nd { records = nd.records ++ (recover p (client_of p nd.records) frames).records })
