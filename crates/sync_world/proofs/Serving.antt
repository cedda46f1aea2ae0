-- What the server's reply makes of an exchange.
use Rattle.std.proofs.Common.{◌≡◌, suc, List, [], ◌∷◌, ◌++◌, length, Option, None, Some, Result, refl, sym, ◌∙◌, ap, subst}
use Rattle.sync_data.specs.declared.memory.NoMemory.{NoMemory}
use Rattle.sync_messages.specs.declared.message.Message.{Message as CodeMessage}
use Rattle.sync_model.specs.Each.{Each}
use Rattle.sync_model.specs.Messages.{Message}
use Rattle.sync_model.specs.Servers.{ServerRecord, ServerStep}
use Rattle.sync_model.specs.Worlds.{IsReached, Stop, Words, World, arm, named_by, says, server_ends, server_moved, server_name, stopped}
use Rattle.sync_model.proofs.Limits.{each_append, each_take}
use Rattle.sync_model.proofs.Holding.{cut_by}
use Rattle.sync_exchange.specs.Profile.{the_profile}
use Rattle.sync_exchange.specs.Seen.{message_seen}
use Rattle.sync_words.specs.declared.outcome.Outcome.{Outcome as CodeOutcome}
use Rattle.sync_world.specs.Holding.{Happens, ComesTo, Stands}
use Rattle.sync_world.specs.Messages.{AreSpelled}
use Rattle.sync_world.specs.Nodes.{FitsServer, HoldsServer, ServerReadsBack, ServerStandReads}
use Rattle.sync_world.specs.Serves.{ServeDone}
use Rattle.sync_world.specs.declared.world.World.{World as CodeWorld}
use Rattle.sync_world.proofs.Happening.{said_all}
use Rattle.sync_world.proofs.Moves.{armed_here, holds_others, new_name, not_server}

module _ (w : World) (old : CodeWorld) (h : Stands w old) (did : ServerStep) (fit : Each FitsServer did.records) where
  -- the exchange with these server's records, and these messages
  pub served : (rs : List ServerRecord) (ms : List Message) (new : CodeWorld) → new.clients ≡ old.clients → new.injected ≡ old.injected → HoldsServer (w.server ++ rs) None new.hub.stop new.hub.server → Each FitsServer rs
      → AreSpelled ms new.messages → Stands (record w { server = w.server ++ rs; messages = ms; stops = arm server_name None w.stops }) new
  served rs ms new clients injected holds fits kept = record {
    server = subst (λ s. HoldsServer (w.server ++ rs) s new.hub.stop new.hub.server) (sym (armed_here server_name None w.stops server_name refl)) holds;
    clients = subst (λ cs. Rattle.sync_world.specs.Holding.HoldsEach (arm server_name None w.stops) w.clients cs.items) (sym clients) (holds_others server_name None w.stops w.clients old.clients.items (λ i n e. not_server w.clients i n h.named e) h.clients);
    named = h.named;
    server_fits = each_append h.server_fits fits;
    clients_fit = h.clients_fit;
    messages = kept;
    injected = ap (λ ids. ids.items) injected ∙ h.injected;
    unarmed = λ name none. Rattle.sync_world.proofs.Moves.armed_other server_name None w.stops name (new_name w name none).0 ∙ h.unarmed name none;
  }

  -- it stops: what is left is read back
  pub server_stand_reads : ((v : World) → IsReached the_profile v → Each FitsServer v.server → ServerReadsBack v.server) → (stand : Option (List ServerRecord)) → stopped (w.stops server_name) did.records ≡ stand
      → IsReached the_profile (server_ends w did stand).world → ServerStandReads w.server stand
  server_stand_reads reads None is r = tt
  server_stand_reads reads (Some rs) is r =
      let cut = cut_by (w.stops server_name) did.records rs is in
      reads (server_moved w rs) r (each_append h.server_fits (subst (Each FitsServer) cut.1 (each_take cut.0 fit)))

  -- it is replied to
  pub replied : (stand : Option (List ServerRecord)) (reply : CodeMessage) (result : Result CodeOutcome NoMemory) (new : CodeWorld) → ServeDone did w.server stand (Some reply) new.hub → new.clients ≡ old.clients → new.injected ≡ old.injected
      → AreSpelled (w.messages ++ message_seen reply ∷ []) new.messages → ComesTo (Words.Replied (suc (length w.messages)) (message_seen reply)) result
      → IsReached the_profile (server_ends w did stand).world → Happens (server_ends w did stand) result new
  replied None reply result new done clients injected kept text reached =
      subst (λ a. IsReached the_profile (record (server_moved w did.records) { messages = w.messages ++ a ∷ [] }) → Happens (says (record (server_moved w did.records) { messages = w.messages ++ a ∷ [] }) (Words.Replied (suc (length w.messages)) a)) result new) (sym done.said)
      (λ r. said_all (record (server_moved w did.records) { messages = w.messages ++ message_seen reply ∷ [] }) (Words.Replied (suc (length w.messages)) (message_seen reply)) result new text
      (record { reached = r; stands = served did.records (w.messages ++ message_seen reply ∷ []) new clients injected done.server fit kept }))
      reached
  replied (Some rs) reply result new done clients injected kept text reached = absurd done.said

  -- or it stops
  pub stops : (stand : Option (List ServerRecord)) → stopped (w.stops server_name) did.records ≡ stand → (result : Result CodeOutcome NoMemory) (new : CodeWorld) → ServeDone did w.server stand None new.hub → new.clients ≡ old.clients → new.injected ≡ old.injected
      → new.messages ≡ old.messages → ComesTo Words.Stopped result → IsReached the_profile (server_ends w did stand).world → Happens (server_ends w did stand) result new
  stops None is result new done clients injected messages text reached = absurd done.said
  stops (Some rs) is result new done clients injected messages text reached =
      let cut = cut_by (w.stops server_name) did.records rs is in
      said_all (server_moved w rs) Words.Stopped result new text
      (record { reached = reached; stands = served rs w.messages new clients injected done.server (subst (Each FitsServer) cut.1 (each_take cut.0 fit)) (subst (λ ms. AreSpelled w.messages ms) (sym messages) h.messages) })

-- ---- a message from outside changes no record of the server
pub named_server : (w : World) (m : Message) → (named_by w m).server ≡ w.server
named_server w (Message.Bind u) = refl
named_server w (Message.Ident u c) = refl
named_server w (Message.Upload c hs) = refl
named_server w (Message.Ask c cursor settled) = refl
named_server w (Message.Ask2 c cursor settled) = refl
named_server w (Message.AskTables c cursor settled second tables) = refl
named_server w (Message.Download c from es) = refl
named_server w (Message.Refused c number code place) = refl
named_server w (Message.Stored c number) = refl
named_server w (Message.Retire c by) = refl
named_server w (Message.Retired c by number) = refl

-- ---- the server's disk is armed
pub hub_armed : (w : World) (old : CodeWorld) (h : Stands w old) (s : Option Stop) (new : CodeWorld) → new.clients ≡ old.clients → new.injected ≡ old.injected → new.messages ≡ old.messages → HoldsServer w.server s new.hub.stop new.hub.server
    → Stands (record w { stops = arm server_name s w.stops }) new
hub_armed w old h s new clients injected messages holds = record {
  server = subst (λ x. HoldsServer w.server x new.hub.stop new.hub.server) (sym (armed_here server_name s w.stops server_name refl)) holds;
  clients = subst (λ cs. Rattle.sync_world.specs.Holding.HoldsEach (arm server_name s w.stops) w.clients cs.items) (sym clients) (holds_others server_name s w.stops w.clients old.clients.items (λ i n e. not_server w.clients i n h.named e) h.clients);
  named = h.named;
  server_fits = h.server_fits;
  clients_fit = h.clients_fit;
  messages = subst (λ ms. AreSpelled w.messages ms) (sym messages) h.messages;
  injected = ap (λ ids. ids.items) injected ∙ h.injected;
  unarmed = λ name none. Rattle.sync_world.proofs.Moves.armed_other server_name s w.stops name (new_name w name none).0 ∙ h.unarmed name none;
}
