-- The headline: what holds of every recorded exchange.
use Rattle.std.specs.Prelude.{◌≡◌, ◌≢◌, ◌≤◌, ◌⊎◌, ℕ, zero, suc, List, ◌∷◌, ◌++◌, Some}
use Rattle.sync_data.specs.declared.instr.Instr.{Instr}
use Rattle.sync_base.specs.States.{IsState}
use Rattle.sync_io.specs.Reading.{Reading, Ends, Gives, AtEnd}
use Rattle.sync_model.specs.Bytes.{Name}
use Rattle.sync_model.specs.Clients.{client_of}
use Rattle.sync_model.specs.Log.{Stands, WorldFacts, ident_of, subset_of}
use Rattle.sync_model.specs.Profile.{only_by}
use Rattle.sync_model.specs.Progress.{AllCurrent, AnyArmed, AnyOld, AnyUnnamed, Comes, IsException, IsQuiet, all_catch_up, enough_for_all}
use Rattle.sync_model.specs.Reports.{report_by_log, report_of}
use Rattle.sync_model.specs.Servers.{server_objects, server_of}
use Rattle.sync_model.specs.Worlds.{Edits, Event, Made, Node, World, at, empty_world, happens, outcomes, world_after}
use Rattle.sync_exchange.specs.Profile.{the_profile}
use Rattle.sync_top.specs.Named.{IsNamedOutcome}

-- each transaction that was answered by its number stands at that number among those of its client
abbrev pub KeepsAcknowledged : List (Event Instr) → World → Type 0
KeepsAcknowledged events w = (before after : List (Event Instr)) (name : Name) (ms number : ℕ) (edits : List Instr)
    → events ≡ before ++ Edits name ms edits ∷ after
    → (happens the_profile (world_after the_profile empty_world before) (Edits name ms edits)).words ≡ Made number
    → Stands the_profile w name number ms edits

-- each event was refused by a named rule of that event alone, in the world after those before it
abbrev pub IsRefusedByName : List (Event Instr) → Type 0
IsRefusedByName events = (before after : List (Event Instr)) (e : Event Instr) → events ≡ before ++ e ∷ after
    → IsNamedOutcome (world_after the_profile empty_world before) e (happens the_profile (world_after the_profile empty_world before) e).words

-- once each client that the server knows has the whole history and nothing unsent, each has its tables' part of the server's
-- objects
abbrev pub AgreeWhereQuiet : World → Type 0
AgreeWhereQuiet w = IsQuiet the_profile w → (i : ℕ) (nd : Node) → at w.clients i ≡ Some nd → ident_of the_profile w nd ≢ 0
    → (client_of the_profile nd.records).objects ≡ only_by the_profile (subset_of the_profile nd) (server_objects the_profile (server_of the_profile w.server))

-- all clients get there where their messages arrive, in so many rounds, or a named exception comes on the way
abbrev pub AllCatchUp : World → Type 0
AllCatchUp w = (rounds : ℕ) → enough_for_all the_profile w ≤ rounds
    → Comes (IsException (AnyArmed the_profile w) (AnyUnnamed the_profile w) (AnyOld the_profile w)) (outcomes the_profile w (all_catch_up w rounds))
    ⊎ AllCurrent the_profile (world_after the_profile w (all_catch_up w rounds))

-- The world that these events make: its history is that of the log by the written rules, each integrated changeset once and in
-- order; each client's objects are the server's at its cursor and then its unsent changesets; refusals are the named ones; what
-- is shown of the nodes is what the log gives. Where each client in turn binds, uploads and asks from then on, and its messages
-- arrive, all catch up, or a named exception comes on the way; and then they agree.
pub record IsSynced (events : List (Event Instr)) (w : World) : Type 0 where
  pub made_by : w ≡ world_after the_profile empty_world events
  pub facts : WorldFacts the_profile IsState w
  pub reported : report_of the_profile w ≡ report_by_log the_profile w
  pub acknowledged : KeepsAcknowledged events w
  pub named : IsRefusedByName events
  pub quiet : AgreeWhereQuiet w
  pub progress : AllCatchUp w

-- the first lines, so many
abbrev pub first : ℕ → Reading → Reading
first zero reading = Ends AtEnd
first (suc count) (Ends ending) = Ends ending
first (suc count) (Gives line rest) = Gives line (first count rest)
