-- What events make of an exchange.
use Rattle.std.proofs.Common.{◌≡◌, ℕ, zero, suc, Bool, true, false, ◌||◌, List, [], ◌∷◌, ◌++◌, map, slice_set, Option, None, Some, Result, Ok, Err, refl, sym, ◌∙◌, ap, subst}
use Rattle.std.specs.Prelude.{IfOk, bytes_eq}
use Rattle.sync_data.specs.declared.memory.NoMemory.{NoMemory}
use Rattle.sync_data.specs.declared.instr.Instr.{Instr}
use Rattle.sync_base.specs.States.{State}
use Rattle.sync_model.specs.Bytes.{Name}
use Rattle.sync_model.specs.Clients.{Client, ClientRecord, ClientRefusal, ClientStep, client_of}
use Rattle.sync_model.specs.Each.{Each}
use Rattle.sync_model.specs.Worlds.{IsReached, Node, Outcome, Stop, Words, World, arm, at, client_called, client_calls, client_ends, client_moved, has_name, is_node, is_there, put, says, seek, server_name, stopped}
use Rattle.sync_model.proofs.Limits.{each_append, each_take}
use Rattle.sync_model.proofs.Lists.{at_put, map_put, seek_found}
use Rattle.sync_model.proofs.Holding.{cut_by}
use Rattle.sync_exchange.specs.Profile.{the_profile}
use Rattle.sync_client.specs.Refusals.{refusal_seen}
use Rattle.sync_client.specs.declared.refusal.ClientRefusal.{ClientRefusal as CodeRefusal}
use Rattle.std.specs.Option.{option_map}
use Rattle.sync_words.specs.Outcomes.{outcome_seen}
use Rattle.sync_words.specs.declared.outcome.Outcome.{Outcome as CodeOutcome}
use Rattle.sync_world.specs.Calls.{CallEnds, IsCalled, left}
use Rattle.sync_world.specs.Holding.{AreBoth, AreNames, Happens, Holds, HoldsEach, HoldsNode, ComesTo, SaysCalled, Stands}
use Rattle.sync_world.specs.Messages.{AreSpelled}
use Rattle.sync_world.specs.Nodes.{FitsClient, HoldsClient, HoldsServer, ReadsBack, StandReads}
use Rattle.sync_world.specs.declared.node.Called.{Called}
use Rattle.sync_world.specs.declared.node.Called.TheVariants as called
use Rattle.sync_world.specs.declared.node.Node.{Node as CodeNode}
use Rattle.sync_world.specs.declared.world.World.{World as CodeWorld}
use Rattle.sync_world.proofs.Moves.{armed_other, each_at, each_put, held_put, name_differs, new_name, not_server, other_way, same_nodes}

-- these words, and this world
pub said : (v : World) (x : Words) (result : Result CodeOutcome NoMemory) (new : CodeWorld) → ComesTo x result → (IfOk result (λ text. Holds v new)) → Happens (says v x) result new
said v x (Ok text) new is h = (is, h)
said v x (Err e) new is h = tt

pub said_all : (v : World) (x : Words) (result : Result CodeOutcome NoMemory) (new : CodeWorld) → ComesTo x result → Holds v new → Happens (says v x) result new
said_all v x (Ok text) new is h = (is, h)
said_all v x (Err e) new is h = tt

-- the exchange with another client in its place
pub record Replaces (old new : CodeWorld) (i : ℕ) (c : CodeNode) : Type 0 where
  pub clients : new.clients.items ≡ slice_set old.clients.items i c
  pub hub : new.hub ≡ old.hub
  pub messages : new.messages ≡ old.messages
  pub injected : new.injected ≡ old.injected

module _ (w : World) (old : CodeWorld) (h : Stands w old) (i : ℕ) (n : Node) (here : at w.clients i ≡ Some n) where
  abbrev pub with_records : List ClientRecord → Node
  with_records rs = record n { records = n.records ++ rs }

  pub records_fit : (rs : List ClientRecord) → Each FitsClient rs → Each FitsClient (n.records ++ rs)
  records_fit rs fit = each_append (each_at w.clients i n h.clients_fit here) fit

  -- another client in its place, armed so
  pub placed : (s : Option Stop) (node : Node) (new : CodeWorld) (c : CodeNode) → Replaces old new i c → node.name ≡ n.name → HoldsNode node s c → Each FitsClient node.records
      → Stands (record w { clients = put w.clients i node; stops = arm n.name s w.stops }) new
  placed s node new c is same one fit =
      let other : arm n.name s w.stops server_name ≡ w.stops server_name = armed_other n.name s w.stops server_name (other_way n.name server_name (not_server w.clients i n h.named here)) in
      record {
        server = subst (λ (x : Option Stop). HoldsServer w.server x new.hub.stop new.hub.server) (sym other) (subst (λ hub. HoldsServer w.server (w.stops server_name) hub.stop hub.server) (sym is.hub) h.server);
        clients = subst (HoldsEach (arm n.name s w.stops) (put w.clients i node)) (sym is.clients) (held_put s w.stops w.clients old.clients.items i n node c h.named here same h.clients one);
        named = subst AreNames (sym (map_put (λ x. x.name) w.clients i n node here same)) h.named;
        server_fits = h.server_fits;
        clients_fit = each_put w.clients i node h.clients_fit fit;
        messages = subst (λ ms. AreSpelled w.messages ms) (sym is.messages) h.messages;
        injected = ap (λ ids. ids.items) is.injected ∙ h.injected;
        unarmed = λ name none. unarmed_still name none;
      }
    where
      names : map (λ x. x.name) (put w.clients i node) ≡ map (λ x. x.name) w.clients
      names = map_put (λ x. x.name) w.clients i n node here same

      -- whoever isn't a node now wasn't one before, and isn't the client
      unarmed_still : (name : Name) → is_node (record w { clients = put w.clients i node; stops = arm n.name s w.stops }) name ≡ false → arm n.name s w.stops name ≡ None
      unarmed_still name none =
          let before : is_node w name ≡ false = sym (ap (λ (b : Bool). bytes_eq name server_name || b) (same_nodes name (put w.clients i node) w.clients names)) ∙ none in
          armed_other n.name s w.stops name (name_differs name w.clients i n (new_name w name before).1 here) ∙ h.unarmed name before

  pub moved : (rs : List ClientRecord) (new : CodeWorld) (c : CodeNode) → Replaces old new i c → c.name ≡ n.name → HoldsClient (n.records ++ rs) None c.stop c.client → Each FitsClient rs → Stands (client_moved w i n rs) new
  moved rs new c is name holds fit = placed None (with_records rs) new c is refl (record { name = name; client = holds }) (records_fit rs fit)

  module _ {A : Type 0} (did : ClientStep A) (words : World → Result A ClientRefusal → Outcome) where
    abbrev pub Ended : Option (List ClientRecord) → Outcome
    Ended stand = client_ends w i n did words stand

    -- what is left where the call stops is read back
    pub stand_reads : (fit : Each FitsClient did.records) → ((v : World) (j : ℕ) (m : Node) → IsReached the_profile v → at v.clients j ≡ Some m → Each FitsClient m.records → ReadsBack m.records)
        → IsReached the_profile (Ended (stopped (w.stops n.name) did.records)).world → StandReads n.records (stopped (w.stops n.name) did.records)
    stand_reads fit reads reached = on (stopped (w.stops n.name) did.records) refl reached
      where
        on : (stand : Option (List ClientRecord)) → stopped (w.stops n.name) did.records ≡ stand → IsReached the_profile (Ended stand).world → StandReads n.records stand
        on None is r = tt
        on (Some rs) is r =
            let cut = cut_by (w.stops n.name) did.records rs is in
            let fits : Each FitsClient rs = subst (Each FitsClient) cut.1 (each_take cut.0 fit) in
            reads (client_moved w i n rs) i (with_records rs) r (at_put w.clients i n (with_records rs) here) (records_fit rs fits)

    -- a call is done: its words, and the world with the client's records
    pub call_done : (say : A → Words) → ((v : World) (a : A) → words v (Ok a) ≡ says v (say a)) → ((v : World) (why : ClientRefusal) → words v (Err why) ≡ says v (Words.Declined why))
        → (answer : Called A) (outcome : CodeOutcome) (new : CodeWorld) (c : CodeNode) → Replaces old new i c → c.name ≡ n.name
        → CallEnds did n.records (stopped (w.stops n.name) did.records) answer c → SaysCalled say answer outcome → Each FitsClient did.records
        → IsReached the_profile (Ended (stopped (w.stops n.name) did.records)).world → Happens (Ended (stopped (w.stops n.name) did.records)) (Ok outcome) new
    call_done say ok err answer outcome new c is name ends text fit reached = on (stopped (w.stops n.name) did.records) refl answer ends.said ends.client text reached
      where
        answered : (o : Outcome) (x : Words) → o ≡ says (client_moved w i n did.records) x → HoldsClient (n.records ++ did.records) None c.stop c.client → outcome_seen outcome ≡ Some x → IsReached the_profile o.world → Happens o (Ok outcome) new
        answered o x same holds t r =
            subst (λ q. Happens q (Ok outcome) new) (sym same) (said_all (client_moved w i n did.records) x (Ok outcome) new t (record { reached = subst (λ q. IsReached the_profile q.world) same r; stands = moved did.records new c is name holds fit }))

        declined : (why : CodeRefusal) (x : ClientRefusal) → refusal_seen why ≡ Some x → outcome_seen outcome ≡ option_map Words.Declined (refusal_seen why) → outcome_seen outcome ≡ Some (Words.Declined x)
        declined why x seen t = t ∙ ap (option_map Words.Declined) seen

        on : (stand : Option (List ClientRecord)) → stopped (w.stops n.name) did.records ≡ stand → (answer : Called A) → IsCalled did stand answer → HoldsClient (n.records ++ left did.records stand) None c.stop c.client → SaysCalled say answer outcome
            → IsReached the_profile (Ended stand).world → Happens (Ended stand) (Ok outcome) new
        on None e (called.Answered a) s holds t r = answered (Ended None) (say a) (ap (words (client_moved w i n did.records)) s ∙ ok (client_moved w i n did.records) a) holds t r
        on None e (called.Declined why) s holds t r = answered (Ended None) (Words.Declined s.0) (ap (words (client_moved w i n did.records)) s.2 ∙ err (client_moved w i n did.records) s.0) holds (declined why s.0 s.1 t) r
        on None e called.Stopped s holds t r = absurd s
        on (Some rs) e (called.Answered a) s holds t r = absurd s
        on (Some rs) e (called.Declined why) s holds t r = absurd s
        on (Some rs) e called.Stopped s holds t r =
            let cut = cut_by (w.stops n.name) did.records rs e in
            said_all (client_moved w i n rs) Words.Stopped (Ok outcome) new t (record { reached = r; stands = moved rs new c is name holds (subst (Each FitsClient) cut.1 (each_take cut.0 fit)) })

-- ---- by a client's name
module _ {A : Type 0} (w : World) (name : Name) (call : Client Instr State → ClientStep A) (words : World → Result A ClientRefusal → Outcome) where
  pub called_none : seek (has_name name) w.clients ≡ None → (result : Result CodeOutcome NoMemory) (new : CodeWorld) → ComesTo Words.NoNode result → Holds w new → Happens (client_calls the_profile w name call words) result new
  called_none none result new t h = subst (λ o. Happens (client_called the_profile w call words o) result new) (sym none) (said_all w Words.NoNode result new t h)

  pub called_one : (i : ℕ) (n : Node) → seek (has_name name) w.clients ≡ Some (i, n) → (P : Outcome → Type 0) → P (client_calls the_profile w name call words)
      → P (client_ends w i n (call (client_of the_profile n.records)) words (stopped (w.stops n.name) (call (client_of the_profile n.records)).records))
  called_one i n one P p = subst (λ o. P (client_called the_profile w call words o)) one p

  pub one_called : (i : ℕ) (n : Node) → seek (has_name name) w.clients ≡ Some (i, n) → (P : Outcome → Type 0)
      → P (client_ends w i n (call (client_of the_profile n.records)) words (stopped (w.stops n.name) (call (client_of the_profile n.records)).records)) → P (client_calls the_profile w name call words)
  one_called i n one P p = subst (λ o. P (client_called the_profile w call words o)) (sym one) p

-- ---- a client's call
module _ {A : Type 0} (w : World) (old : CodeWorld) (h : Holds w old) (name : Name) (call : Client Instr State → ClientStep A) (words : World → Result A ClientRefusal → Outcome) (say : A → Words)
    (ok : (v : World) (a : A) → words v (Ok a) ≡ says v (say a)) (err : (v : World) (why : ClientRefusal) → words v (Err why) ≡ says v (Words.Declined why))
    (fit : (c : Client Instr State) → Each FitsClient (call c).records) (reached : IsReached the_profile (client_calls the_profile w name call words).world)
    (reads : (v : World) (j : ℕ) (m : Node) → IsReached the_profile v → at v.clients j ≡ Some m → Each FitsClient m.records → ReadsBack m.records) where
  pub call_happens : (i : ℕ) (n : Node) → seek (has_name name) w.clients ≡ Some (i, n) → (answer : Called A) (outcome : CodeOutcome) (new : CodeWorld) (c : CodeNode) → Replaces old new i c → c.name ≡ n.name
      → (StandReads n.records (stopped (w.stops n.name) (call (client_of the_profile n.records)).records) → CallEnds (call (client_of the_profile n.records)) n.records (stopped (w.stops n.name) (call (client_of the_profile n.records)).records) answer c)
      → SaysCalled say answer outcome → Happens (client_calls the_profile w name call words) (Ok outcome) new
  call_happens i n sought answer outcome new c is same ends text =
      let here : at w.clients i ≡ Some n = (seek_found (has_name name) w.clients (i, n) sought).here in
      let did : ClientStep A = call (client_of the_profile n.records) in
      let r = called_one w name call words i n sought (λ o. IsReached the_profile o.world) reached in
      let fits = fit (client_of the_profile n.records) in
      one_called w name call words i n sought (λ o. Happens o (Ok outcome) new)
      (call_done w old h.stands i n here did words say ok err answer outcome new c is same (ends (stand_reads w old h.stands i n here did words fits reads r)) text fits r)

-- ---- a client that is opened again, or armed
put_same : {A : Type 0} (xs : List A) (i : ℕ) (x : A) → at xs i ≡ Some x → put xs i x ≡ xs
put_same [] i x e = refl
put_same (y ∷ xs) zero x e = let same : y ≡ x = cc in ap (λ z. z ∷ xs) (sym same)
put_same (y ∷ xs) (suc i) x e = ap (λ zs. y ∷ zs) (put_same xs i x e)

both_put : {A B : Type 0} (R : A → B → Type 0) (as_ : List A) (bs : List B) (i : ℕ) (a : A) (b : B) → AreBoth R as_ bs → at as_ i ≡ Some a → R a b → AreBoth R as_ (slice_set bs i b)
both_put R [] bs i a b h here one = cc
both_put R (x ∷ as_) [] i a b h here one = h
both_put R (x ∷ as_) (y ∷ bs) zero a b h here one = let same : x ≡ a = cc in (subst (λ k. R k b) (sym same) one, h.1)
both_put R (x ∷ as_) (y ∷ bs) (suc i) a b h here one = (h.0, both_put R as_ bs i a b h.1 here one)

module _ (w : World) (old : CodeWorld) (h : Stands w old) (i : ℕ) (n : Node) (here : at w.clients i ≡ Some n) (new : CodeWorld) (c : CodeNode) (is : Replaces old new i c) where
  pub again : HoldsNode n (w.stops n.name) c → Stands w new
  again one = record {
    server = subst (λ hub. HoldsServer w.server (w.stops server_name) hub.stop hub.server) (sym is.hub) h.server;
    clients = subst (HoldsEach w.stops w.clients) (sym is.clients) (both_put (λ m d. HoldsNode m (w.stops m.name) d) w.clients old.clients.items i n c h.clients here one);
    named = h.named;
    server_fits = h.server_fits;
    clients_fit = h.clients_fit;
    messages = subst (λ ms. AreSpelled w.messages ms) (sym is.messages) h.messages;
    injected = ap (λ ids. ids.items) is.injected ∙ h.injected;
    unarmed = h.unarmed;
  }

  pub client_armed : (name : Name) (s : Option Stop) → name ≡ n.name → HoldsNode n s c → Stands (record w { stops = arm name s w.stops }) new
  client_armed name s same one =
      let fit = each_at w.clients i n h.clients_fit here in
      let all = placed w old h i n here s n new c is refl one fit in
      subst (λ k. Stands (record w { stops = arm k s w.stops }) new) (sym same) (subst (λ cs. Stands (record w { clients = cs; stops = arm n.name s w.stops }) new) (put_same w.clients i n here) all)

-- a client that was sought is a node
pub is_one : (w : World) (name : Name) (q : ℕ × Node) → seek (has_name name) w.clients ≡ Some q → is_node w name ≡ true
is_one w name q e = ap (λ (o : Option (ℕ × Node)). bytes_eq name server_name || is_there o) e ∙ either (bytes_eq name server_name)
  where
    either : (b : Bool) → (b || true) ≡ true
    either true = refl
    either false = refl
