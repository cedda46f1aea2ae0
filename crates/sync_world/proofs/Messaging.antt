-- A client makes a message.
use Rattle.std.proofs.Common.{◌≡◌, ℕ, suc, ◌≤◌, Bool, true, false, ◌==◌, if◌then◌else◌, List, [], ◌∷◌, ◌++◌, length, Option, None, Some, IfSome, Result, Ok, Err, refl, sym, ◌∙◌, ap, subst, arith}
use Rattle.std.specs.Prelude.{IfOk, OnOk}
use Rattle.sync_data.specs.declared.memory.NoMemory.{NoMemory}
use Rattle.sync_data.specs.declared.instr.Instr.{Instr}
use Rattle.sync_base.specs.States.{State}
use Rattle.sync_messages.specs.declared.message.Message.{Message as CodeMessage}
use Rattle.sync_model.specs.Bytes.{Uuid}
use Rattle.sync_model.specs.Clients.{Client, ClientRecord, ClientRefusal, ClientStep, NotNamed, answers, ask, bind, if_born, if_named, refuse, upload}
use Rattle.sync_model.specs.Each.{Each, no_more}
use Rattle.sync_model.specs.Messages.{Message, Bind}
use Rattle.sync_model.specs.Worlds.{IsReached, Node, Stop, Words, World, at, client_ends, client_moved, message_words, messaged, stopped}
use Rattle.sync_exchange.specs.Profile.{the_profile}
use Rattle.sync_exchange.specs.Seen.{message_seen}
use Rattle.sync_client.specs.Refusals.{refusal_seen, IfSeen}
use Rattle.sync_client.specs.Sending.{Sends}
use Rattle.sync_client.specs.declared.refusal.ClientRefusal.{ClientRefusal as CodeRefusal}
use Rattle.sync_words.specs.declared.outcome.Outcome.{Outcome as CodeOutcome}
use Rattle.sync_world.specs.Holding.{Happens, ComesTo, Stands}
use Rattle.sync_world.specs.Messages.{AreSpelled}
use Rattle.sync_world.specs.Nodes.{FitsClient, HoldsClient}
use Rattle.sync_world.specs.Sending.{IsKept, SentFrom, Tells}
use Rattle.sync_world.specs.declared.node.Node.{Node as CodeNode}
use Rattle.sync_world.specs.declared.world.World.{World as CodeWorld}
use Rattle.sync_world.proofs.Happening.{Replaces, moved, said_all}
use Rattle.sync_world.proofs.Stops.{stops_behind}

-- ---- such calls append nothing
named_quiet : {A : Type 0} (c : Client Instr State) (a : A) → (if_named c (answers a)).records ≡ []
named_quiet {A} c a = on c.id (c.ident == 0)
  where
    on : (o : Option Uuid) (b : Bool) → (if_born o (λ id. if b then refuse {A = A} NotNamed else answers a)).records ≡ []
    on None b = refl
    on (Some id) true = refl
    on (Some id) false = refl

pub bind_quiet : (c : Client Instr State) → (bind c).records ≡ []
bind_quiet c = on c.id
  where
    on : (o : Option Uuid) → (if_born o (λ id. answers (Bind id))).records ≡ []
    on None = refl
    on (Some id) = refl

pub ask_quiet : (c : Client Instr State) → (ask c).records ≡ []
ask_quiet c = named_quiet c _

pub upload_quiet : (c : Client Instr State) → (upload the_profile c).records ≡ []
upload_quiet c = named_quiet c _

-- and stop nowhere
none_stops : (s : Option Stop) → IfSome s (λ s. 1 ≤ s.at) → stopped {R = ClientRecord} s [] ≡ None
none_stops None counted = refl
none_stops (Some s) counted = stops_behind s [] (omega (arith, counted))

module _ (w : World) (old : CodeWorld) (h : Stands w old) (i : ℕ) (n : Node) (here : at w.clients i ≡ Some n) (did : ClientStep Message) (quiet : did.records ≡ []) (counted : IfSome (w.stops n.name) (λ s. 1 ≤ s.at)) where
  fits : Each FitsClient did.records
  fits = subst (Each FitsClient) (sym quiet) no_more

  -- the message has its number, or the refusal is told
  pub sends : (mid new : CodeWorld) (c : CodeNode) (sent : Result CodeMessage CodeRefusal) (result : Result CodeOutcome NoMemory) → Replaces old mid i c → c.name ≡ n.name → HoldsClient n.records None c.stop c.client
      → Sends did sent → SentFrom sent mid result new → IsReached the_profile (client_ends w i n did message_words (stopped (w.stops n.name) did.records)).world
      → Happens (client_ends w i n did message_words (stopped (w.stops n.name) did.records)) result new
  unfolding fits
  sends mid new c sent result is name holds said kept reached =
      let none : stopped (w.stops n.name) did.records ≡ None = ap (stopped (w.stops n.name)) quiet ∙ none_stops (w.stops n.name) counted in
      let same : n.records ≡ n.records ++ did.records = sym (Rattle.std.proofs.Common.append-nil n.records) ∙ ap (λ rs. n.records ++ rs) (sym quiet) in
      let still : HoldsClient (n.records ++ did.records) None c.stop c.client = subst (λ rs. HoldsClient rs None c.stop c.client) same holds in
      let stands : Stands (client_moved w i n did.records) mid = moved w old h i n here did.records mid c is name still fits in
      subst (λ s. Happens (client_ends w i n did message_words s) result new) (sym none) (on sent said kept stands (subst (λ s. IsReached the_profile (client_ends w i n did message_words s).world) none reached))
    where
      v : World
      v = client_moved w i n did.records

      with_message : (m : CodeMessage) → Stands v mid → IsKept m Words.Messaged mid result new → OnOk result (Stands (record v { messages = v.messages ++ message_seen m ∷ [] }) new)
      with_message m stands kept = go result kept.kept
        where
          go : (r : Result CodeOutcome NoMemory) → ((ms : List Message) → AreSpelled ms mid.messages → OnOk r (AreSpelled (ms ++ message_seen m ∷ []) new.messages)) → OnOk r (Stands (record v { messages = v.messages ++ message_seen m ∷ [] }) new)
          go (Ok outcome) all = record {
            server = subst (λ hub. Rattle.sync_world.specs.Nodes.HoldsServer v.server (v.stops Rattle.sync_model.specs.Worlds.server_name) hub.stop hub.server) (sym kept.others.hub) stands.server;
            clients = subst (λ cs. Rattle.sync_world.specs.Holding.HoldsEach v.stops v.clients cs.items) (sym kept.others.clients) stands.clients;
            named = stands.named;
            server_fits = stands.server_fits;
            clients_fit = stands.clients_fit;
            messages = all v.messages stands.messages;
            injected = ap (λ ids. ids.items) kept.others.injected ∙ stands.injected;
            unarmed = stands.unarmed;
          }
          go (Err e) all = tt

      ok : (m : CodeMessage) (o : Result Message ClientRefusal) → o ≡ Ok (message_seen m) → Stands v mid → IsKept m Words.Messaged mid result new → IsReached the_profile (message_words v o).world → Happens (message_words v o) result new
      ok m o same stands kept r =
          subst (λ x. IsReached the_profile (message_words v x).world → Happens (message_words v x) result new) (sym same) (λ r. done result (kept.said v.messages stands.messages) (with_message m stands kept) r) r
        where
          done : (q : Result CodeOutcome NoMemory) → ComesTo (Words.Messaged (suc (length v.messages))) q → OnOk q (Stands (record v { messages = v.messages ++ message_seen m ∷ [] }) new) → IsReached the_profile (record v { messages = v.messages ++ message_seen m ∷ [] })
              → Happens (messaged v (message_seen m)) q new
          done (Ok outcome) t s r = (t, record { reached = r; stands = s })
          done (Err e) t s r = tt

      declined : (o : Option ClientRefusal) → Tells o result → IfSeen o (λ x. did.answer ≡ Err x) → Stands v new → IsReached the_profile (message_words v did.answer).world → Happens (message_words v did.answer) result new
      declined None t s stands r = none result t
        where
          none : (q : Result CodeOutcome NoMemory) → IfOk q (λ outcome. ⊥) → Happens (message_words v did.answer) q new
          none (Ok outcome) t = absurd t
          none (Err e) t = tt
      declined (Some x) t s stands r =
          subst (λ a. IsReached the_profile (message_words v a).world → Happens (message_words v a) result new) (sym s) (λ r. said_all v (Words.Declined x) result new t (record { reached = r; stands = stands })) r

      on : (sent : Result CodeMessage CodeRefusal) → Sends did sent → SentFrom sent mid result new → Stands v mid → IsReached the_profile (message_words v did.answer).world → Happens (message_words v did.answer) result new
      on (Ok m) s k stands r = ok m did.answer s stands k r
      on (Err why) s k stands r = declined (refusal_seen why) k.1 s (subst (λ x. Stands v x) (sym k.0) stands) r
