-- Worlds in which the eight clients made drawn changes alone, and what each event makes of one.
use Rattle.std.proofs.Common.{◌≡◌, ◌≢◌, ℕ, zero, suc, ◌+◌, ◌≤◌, Bool, true, false, List, [], ◌∷◌, ◌++◌, Option, Some, None, Result, Ok, Err, refl, sym, ap, ap₂, ◌∙◌, subst, arith, if◌then◌else◌, ◌==◌, length, map}
use Rattle.std.specs.Prelude.{bytes_eq}
use Rattle.sync_data.specs.declared.instr.Instr.{Instr}
use Rattle.sync_base.specs.States.{State}
use Rattle.sync_theory.proofs.Logs.{length_snoc}
use Rattle.sync_theory.proofs.Server.{test_false}
use Rattle.sync_model.specs.Bytes.{Name, Uuid}
use Rattle.sync_model.specs.Clients.{Client, ClientRecord, ClientRefusal, ClientStep, NotNamed, answers, refuse, if_born, if_named, ask, client_of, commit, question, to_upload, upload, take as take_message}
use Rattle.sync_model.specs.Harmless.{IsHarmless, IsHarmlessEvent, made_by_event}
use Rattle.sync_model.specs.Messages.{Message, Upload}
use Rattle.sync_model.specs.Servers.{serve, server_of}
use Rattle.sync_model.specs.Worlds.{Event, IsReached, Node, NoNode, Outcome, World, at, client_called, client_calls, client_ends, client_moved, delivers, happens, has_name, is_node, made_words, message_at, message_words, messaged, reply_words, says, seek, server_called, server_ends, server_moved, server_name, stopped, took_words}
use Rattle.sync_model.proofs.Calling.{named_as}
use Rattle.sync_model.proofs.Lists.{at_map, at_of_map, map_put, seek_found}
use Rattle.sync_model.proofs.Reached.{reached_step}
use Rattle.sync_model.proofs.Progress.Batches.{there as found_at}
use Rattle.sync_model.proofs.Progress.Names.{delivers_names, names_apart, names_of}
use Rattle.sync_model.proofs.Progress.Valid.{reached_valid}
use Rattle.sync_exchange.specs.Lemmas.Buildable.{real_buildable}
use Rattle.sync_exchange.specs.Lemmas.Lawful.{real_lawful}
use Rattle.sync_exchange.specs.Profile.{the_profile}
use Rattle.sync_gen.specs.Clients.{name_of}
use Rattle.gen_law.specs.Generated.{after, exchanged, newest_to, world_by}
use Rattle.gen_law.specs.Plans.{IsClient, clients}
use Rattle.gen_law.proofs.Harmless.{is_drawn}

abbrev pub eight : List Name
eight = map name_of clients

-- events reached it, and its clients are the eight, which made at most so many changes, all of them drawn
pub record Good (most : ℕ) (w : World) : Type 0 where
  pub reached : IsReached the_profile w
  pub harmless : IsHarmless the_profile (λ c n is. is_drawn c n is ≡ true) most w
  pub names : names_of w.clients ≡ eight

-- what the law of harmless clients says of an event
abbrev pub Lasts : Type 0
Lasts = (most : ℕ) (w : World) → IsReached the_profile w → IsHarmless the_profile (λ c n is. is_drawn c n is ≡ true) most w
    → (e : Event Instr) → IsHarmlessEvent the_profile (λ c n is. is_drawn c n is ≡ true) w e → IsHarmless the_profile (λ c n is. is_drawn c n is ≡ true) (most + made_by_event e) (happens the_profile w e).world

pub good_less : (m n : ℕ) (w : World) → m ≤ n → Good m w → Good n w
good_less m n w le g =
    let h = g.harmless in
    let few = h.few in
    record { reached = g.reached; harmless = record { unarmed = h.unarmed; own = h.own; clients = h.clients; few = omega arith }; names = g.names }

-- ---- names stay

called_names : {A : Type 0} (w : World) (name : Name) (call : Client Instr State → ClientStep A) (words : World → Result A ClientRefusal → Outcome) → ((v : World) (a : Result A ClientRefusal) → (words v a).world.clients ≡ v.clients) → names_of (client_calls the_profile w name call words).world.clients ≡ names_of w.clients
called_names w name call words same = on (seek (has_name name) w.clients) refl
  where
    on : (o : Option (ℕ × Node)) → seek (has_name name) w.clients ≡ o → names_of (client_called the_profile w call words o).world.clients ≡ names_of w.clients
    on None is = refl
    on (Some q) is = ends (stopped (w.stops q.1.name) (call (client_of the_profile q.1.records)).records)
      where
        moved : (rs : List ClientRecord) → names_of (client_moved w q.0 q.1 rs).clients ≡ names_of w.clients
        moved rs = map_put (λ (x : Node). x.name) w.clients q.0 q.1 (record { name = q.1.name; records = q.1.records ++ rs }) (seek_found (has_name name) w.clients q is).here refl

        ends : (r : Option (List ClientRecord)) → names_of (client_ends w q.0 q.1 (call (client_of the_profile q.1.records)) words r).world.clients ≡ names_of w.clients
        ends None = ap names_of (same (client_moved w q.0 q.1 (call (client_of the_profile q.1.records)).records) (call (client_of the_profile q.1.records)).answer) ∙ moved (call (client_of the_profile q.1.records)).records
        ends (Some stand) = moved stand

message_same : (v : World) (a : Result Message ClientRefusal) → (message_words v a).world.clients ≡ v.clients
message_same v (Ok m) = refl
message_same v (Err r) = refl

made_same : (v : World) (a : Result ℕ ClientRefusal) → (made_words v a).world.clients ≡ v.clients
made_same v (Ok m) = refl
made_same v (Err r) = refl

names_stay : (w : World) (e : Event Instr) → IsHarmlessEvent the_profile (λ c n is. is_drawn c n is ≡ true) w e → names_of (happens the_profile w e).world.clients ≡ names_of w.clients
names_stay w (Event.Joins name id) h = absurd h
names_stay w (Event.Starts name id) h = absurd h
names_stay w (Event.Edits name ms edits) h = called_names w name (λ c. commit the_profile c ms edits) made_words made_same
names_stay w (Event.Binds name) h = absurd h
names_stay w (Event.Uploads name) h = called_names w name (upload the_profile) message_words message_same
names_stay w (Event.Asks name) h = called_names w name ask message_words message_same
names_stay w (Event.Upgrades name) h = absurd h
names_stay w (Event.Subscribes name tables) h = absurd h
names_stay w (Event.Delivers message to) h = on (is_node w to)
  where
    on : (b : Bool) → names_of (if b then delivers the_profile w to (message_at w message) else says w NoNode).world.clients ≡ names_of w.clients
    on true = delivers_names the_profile w to (message_at w message)
    on false = refl
names_stay w (Event.Restarts node) h = refl
names_stay w (Event.Stops node k leaves) h = absurd h
names_stay w (Event.Injects m) h = absurd h

-- ---- an event more

pub good_made : Lasts → (most : ℕ) (w : World) (e : Event Instr) → Good most w → IsHarmlessEvent the_profile (λ c n is. is_drawn c n is ≡ true) w e → Good (most + made_by_event e) (after w e)
unfolding after
good_made lasts most w e g h = record { reached = reached_step the_profile w e g.reached; harmless = lasts most w g.reached g.harmless e h; names = names_stay w e h ∙ g.names }

-- one by which no change is made
pub good_after : Lasts → (most : ℕ) (w : World) (e : Event Instr) → Good most w → IsHarmlessEvent the_profile (λ c n is. is_drawn c n is ≡ true) w e → made_by_event e ≡ 0 → Good most (after w e)
good_after lasts most w e g h none = subst (λ n. Good n (after w e)) (omega arith) (good_made lasts most w e g h)

-- ---- a client is there

pub record There (w : World) (name : Name) : Type 0 where
  pub place : ℕ
  pub node : Node
  pub here : at w.clients place ≡ Some node
  pub found : seek (has_name name) w.clients ≡ Some (place, node)
  pub apart : bytes_eq name server_name ≡ false

pub place_of_client : (c : ℕ) → IsClient c → (i : ℕ) × (at clients i ≡ Some c)
place_of_client zero is = let h = is.0 in absurd (omega arith)
place_of_client (suc zero) is = (0, refl)
place_of_client (suc (suc zero)) is = (1, refl)
place_of_client (suc (suc (suc zero))) is = (2, refl)
place_of_client (suc (suc (suc (suc zero)))) is = (3, refl)
place_of_client (suc (suc (suc (suc (suc zero))))) is = (4, refl)
place_of_client (suc (suc (suc (suc (suc (suc zero)))))) is = (5, refl)
place_of_client (suc (suc (suc (suc (suc (suc (suc zero))))))) is = (6, refl)
place_of_client (suc (suc (suc (suc (suc (suc (suc (suc zero)))))))) is = (7, refl)
place_of_client (suc (suc (suc (suc (suc (suc (suc (suc (suc c))))))))) is = let h = is.1 in absurd (omega arith)

pub there : (most : ℕ) (w : World) → Good most w → (c : ℕ) → IsClient c → There w (name_of c)
there most w g c is =
    let k = place_of_client c is in
    let e : at (names_of w.clients) k.0 ≡ Some (name_of c) = ap (λ l. at l k.0) g.names ∙ at_map name_of clients k.0 c k.1 in
    let x = at_of_map (λ (nd : Node). nd.name) w.clients k.0 (name_of c) e in
    let a = names_apart the_profile w g.reached k.0 x.0 x.1 in
    record { place = k.0; node = x.0; here = x.1; found = ap (λ n. seek (has_name n) w.clients) (sym x.2) ∙ a.0; apart = ap (λ n. bytes_eq n server_name) (sym x.2) ∙ a.1 }

-- ---- how many messages there are

if_no : {A : Type 0} (b : Bool) (x y : A) → b ≡ false → (if b then x else y) ≡ y
if_no true x y e = cc
if_no false x y e = refl

pub named_call : {A : Type 0} (c : Client Instr State) (id : Uuid) (did : ClientStep A) → c.id ≡ Some id → c.ident ≢ 0 → if_named c did ≡ did
named_call c id did born ne = ap (λ o. if_born o (λ id. if c.ident == 0 then refuse NotNamed else did)) born ∙ if_no (c.ident == 0) (refuse NotNamed) did (test_false c.ident 0 ne)

sends : (w : World) (name : Name) (place : ℕ) (nd : Node) → seek (has_name name) w.clients ≡ Some (place, nd) → w.stops nd.name ≡ None → (call : Client Instr State → ClientStep Message) (m : Message) → call (client_of the_profile nd.records) ≡ answers m
    → length (client_calls the_profile w name call message_words).world.messages ≡ suc (length w.messages)
sends w name place nd found unarmed call m is = ap (λ (o : Outcome). length o.world.messages) to ∙ length_snoc w.messages m
  where
    to : client_calls the_profile w name call message_words ≡ messaged (client_moved w place nd []) m
    to = ap (client_called the_profile w call message_words) found
        ∙ ap (λ d. client_ends w place nd d message_words (stopped (w.stops nd.name) d.records)) is
        ∙ ap (λ o. client_ends w place nd (answers m) message_words (stopped {R = ClientRecord} o [])) unarmed

-- a client of the eight sends what it is asked to
sent : (most : ℕ) (w : World) → Good most w → (name : Name) → There w name → (call : Client Instr State → ClientStep Message) (made : Client Instr State → Message) → ((c : Client Instr State) → call c ≡ if_named c (answers (made c)))
    → length (client_calls the_profile w name call message_words).world.messages ≡ suc (length w.messages)
sent most w g name t call made is =
    let v = reached_valid the_profile real_lawful real_buildable w g.reached in
    let named = (g.harmless.clients t.place t.node t.here).named in
    let x = named_as the_profile real_lawful (server_of the_profile w.server) w.injected w.clients v.holds.n v.holds.sim t.place t.node t.here named in
    let c = client_of the_profile t.node.records in
    sends w name t.place t.node t.found (g.harmless.unarmed t.node.name) call (made c) (is c ∙ named_call c x.id (answers (made c)) x.born named)

pub uploads_once : (most : ℕ) (w : World) → Good most w → (name : Name) → There w name → length (after w (Event.Uploads name)).messages ≡ suc (length w.messages)
unfolding after
uploads_once most w g name t = sent most w g name t (upload the_profile) (λ c. Upload c.ident (to_upload the_profile c)) (λ c. refl)

pub asks_once : (most : ℕ) (w : World) → Good most w → (name : Name) → There w name → length (after w (Event.Asks name)).messages ≡ suc (length w.messages)
unfolding after
asks_once most w g name t = sent most w g name t ask (λ c. question c c.subset) (λ c. refl)

-- the server answers a message that was made
serves_once : (most : ℕ) (w : World) → Good most w → (k : ℕ) (m : Message) → message_at w k ≡ Some m → length (after w (Event.Delivers k server_name)).messages ≡ suc (length w.messages)
unfolding after
serves_once most w g k m made = ap (λ (o : Outcome). length o.world.messages) to ∙ length_snoc w.messages (serve the_profile (server_of the_profile w.server) m).answer
  where
    to : happens the_profile w (Event.Delivers k server_name) ≡ reply_words (server_moved w (serve the_profile (server_of the_profile w.server) m).records) (serve the_profile (server_of the_profile w.server) m).answer
    to = ap (delivers the_profile w server_name) made
        ∙ ap (λ o. server_ends w (serve the_profile (server_of the_profile w.server) m) (stopped o (serve the_profile (server_of the_profile w.server) m).records)) (g.harmless.unarmed server_name)

-- what a client takes is no message
takes_none : (w : World) (k : ℕ) (name : Name) → bytes_eq name server_name ≡ false → length (after w (Event.Delivers k name)).messages ≡ length w.messages
unfolding after
takes_none w k name apart = node_is (is_node w name)
  where
    took_same : (v : World) (a : Result ℕ ClientRefusal) → (took_words v a).world.messages ≡ v.messages
    took_same v (Ok n) = refl
    took_same v (Err r) = refl

    called : (m : Message) (o : Option (ℕ × Node)) → (client_called the_profile w (λ c. take_message the_profile c m) took_words o).world.messages ≡ w.messages
    called m None = refl
    called m (Some q) = ends (stopped (w.stops q.1.name) (take_message the_profile (client_of the_profile q.1.records) m).records)
      where
        ends : (r : Option (List ClientRecord)) → (client_ends w q.0 q.1 (take_message the_profile (client_of the_profile q.1.records) m) took_words r).world.messages ≡ w.messages
        ends None = took_same (client_moved w q.0 q.1 (take_message the_profile (client_of the_profile q.1.records) m).records) (take_message the_profile (client_of the_profile q.1.records) m).answer
        ends (Some stand) = refl

    message_is : (o : Option Message) → length (delivers the_profile w name o).world.messages ≡ length w.messages
    message_is None = refl
    message_is (Some m) = ap (λ (o : Outcome). length o.world.messages) (if_no (bytes_eq name server_name) (server_called the_profile w m) (client_calls the_profile w name (λ c. take_message the_profile c m) took_words) apart) ∙ ap length (called m (seek (has_name name) w.clients))

    node_is : (b : Bool) → length (if b then delivers the_profile w name (message_at w k) else says w NoNode).world.messages ≡ length w.messages
    node_is true = message_is (message_at w k)
    node_is false = refl

-- ---- a client exchanges messages with the server

pub record Exchanged (most : ℕ) (w : World) (name : Name) (sending : Event Instr) : Type 0 where
  pub events : exchanged name sending w ≡ sending ∷ Event.Delivers (suc (length w.messages)) server_name ∷ Event.Delivers (suc (suc (length w.messages))) name ∷ []
  pub good : Good most (world_by w (exchanged name sending w))
  pub messages : length (world_by w (exchanged name sending w)).messages ≡ suc (suc (length w.messages))

newest : (w : World) (n : ℕ) → length w.messages ≡ suc n → (m : Message) × (message_at w (length w.messages) ≡ Some m)
newest w n e = let h = found_at w.messages n (omega arith) in (h.0, ap (message_at w) e ∙ h.1)

pub exchange : Lasts → (most : ℕ) (w : World) → Good most w → (name : Name) → bytes_eq name server_name ≡ false → (sending : Event Instr) → IsHarmlessEvent the_profile (λ c n is. is_drawn c n is ≡ true) w sending → made_by_event sending ≡ 0
    → length (after w sending).messages ≡ suc (length w.messages) → Exchanged most w name sending
exchange lasts most w g name apart sending harmless none one =
    record { events = ap₂ (λ m n. sending ∷ Event.Delivers m server_name ∷ Event.Delivers n name ∷ []) one two; good = good3; messages = takes_none w2 (length w2.messages) name apart ∙ two }
  where
    w1 : World
    w1 = after w sending

    good1 : Good most (after w sending)
    good1 = good_after lasts most w sending g harmless none

    w2 : World
    w2 = after (after w sending) (newest_to server_name (after w sending))

    good2 : Good most (after (after w sending) (newest_to server_name (after w sending)))
    good2 = good_after lasts most (after w sending) (newest_to server_name (after w sending)) good1 tt refl

    two : length (after (after w sending) (newest_to server_name (after w sending))).messages ≡ suc (suc (length w.messages))
    two = let m = newest (after w sending) (length w.messages) one in serves_once most (after w sending) good1 (length (after w sending).messages) m.0 m.1 ∙ ap suc one

    good3 : Good most (after (after (after w sending) (newest_to server_name (after w sending))) (newest_to name (after (after w sending) (newest_to server_name (after w sending)))))
    good3 = good_after lasts most (after (after w sending) (newest_to server_name (after w sending))) (newest_to name (after (after w sending) (newest_to server_name (after w sending)))) good2 tt refl
