-- An exchange in which the server may give up history, as often as it may.
use Rattle.std.specs.Prelude.{bytes_eq, ◌≡◌, ◌⊎◌, ℕ, true, List, [], ◌∷◌, Option, Some, None, if◌then◌else◌}
use Rattle.std.specs.Option.{option_map_or}
use Rattle.sync_model.specs.Profile.{Profile}
use Rattle.sync_model.specs.Messages.{Message}
use Rattle.sync_model.specs.Servers.{ServerRecord, server_of}
use Rattle.sync_model.specs.Parts.{Parts, Served, serve_by, parts_of, after_parts, no_parts}
use Rattle.sync_model.specs.Trims.{trimmed, is_trimmed, KeptLess}
use Rattle.sync_model.specs.Worlds.{World, Event, Starts, Delivers, Injects, at, stopped, server_name, server_moved, reply_words, message_at, named_by, names_own, starts_at, happens, empty_world}
use Rattle.sync_model.specs.Files.{FilesOpen}
use Rattle.sync_model.specs.Log.{WorldFacts, IsFair}

-- an exchange with all records that its server ever wrote, and what the server's file keeps of them; the server answers
-- by what it keeps alone
pub record Later (I S : Type 0) : Type 0 where
  pub world : World
  pub kept : Parts I S

-- what may happen
pub data LaterEvent (I : Type 0) : Type 0 where
  Happens : (event : Event I) → LaterEvent I
  -- the server's file is replaced by one without the history before its next floor
  Trims : LaterEvent I

module _ {I S : Type 0} (p : Profile I S) where
  -- nothing yet
  abbrev pub first_later : Later I S
  first_later = record { world = empty_world; kept = no_parts p }

  -- the server's whole answer, or what stands where it stops
  abbrev pub later_ends : World → Parts I S → Served I S → Option (List ServerRecord) → Later I S
  later_ends w kept did None = record { world = (reply_words (server_moved w did.records) did.answer).world; kept = did.parts }
  later_ends w kept did (Some stand) = record { world = server_moved w stand; kept = after_parts p kept stand }

  -- the server gets a message
  abbrev pub later_served : World → Parts I S → Message → Later I S
  later_served w kept m = later_ends w kept (serve_by p kept m) (stopped (w.stops server_name) (serve_by p kept m).records)

  -- any bytes come to the server
  abbrev pub later_injected : Later I S → Message → Later I S
  later_injected l m = if names_own p l.world m then l else later_served (named_by l.world m) l.kept m

  -- what doesn't come to the server
  abbrev pub beside : Later I S → Event I → Later I S
  beside l e = record l { world = (happens p l.world e).world }

  -- after one event
  abbrev pub later_after : Later I S → Event I → Later I S
  later_after l (Starts name id) = record l { world = (starts_at p l.world name id l.kept.second l.kept.len l.kept.objects).world }
  later_after l (Delivers message to) = if bytes_eq to server_name then option_map_or (later_served l.world l.kept) (message_at l.world message) l else beside l (Delivers message to)
  later_after l (Injects m) = option_map_or (later_injected l) m l
  later_after l e = beside l e

  -- or after the file was replaced
  abbrev pub later : Later I S → LaterEvent I → Later I S
  later l (Happens e) = later_after l e
  later l Trims = record l { kept = trimmed p l.kept }

  -- after a list of events
  abbrev pub all_later : Later I S → List (LaterEvent I) → Later I S
  all_later l [] = l
  all_later l (e ∷ es) = all_later (later l e) es

  -- some events make it of nothing
  abbrev pub IsLater : Later I S → Type 0
  IsLater l = (es : List (LaterEvent I)) × (all_later first_later es ≡ l)

  -- what holds of each
  pub record LaterFacts (Fits : S → Type 0) (l : Later I S) : Type 0 where
    -- all facts of worlds, by the log of all records
    pub facts : WorldFacts p Fits l.world
    -- what the server keeps is what that log gives, from its floor on
    pub kept : KeptLess (parts_of p (server_of p l.world.server)) l.kept
    pub opens : FilesOpen p l.world
    -- it refuses what a client made by a named rule, or by its floor
    pub replies : (k : ℕ) (m : Message) → at l.world.messages k ≡ Some m → IsFair (serve_by p l.kept m).answer ⊎ (is_trimmed (serve_by p l.kept m).answer ≡ true)
