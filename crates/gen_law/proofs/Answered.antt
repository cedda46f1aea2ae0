-- A client of such a world sends something, the server answers and the client takes the answer: nothing of it is refused.
use Rattle.std.proofs.Common.{◌≡◌, ◌≢◌, ℕ, Bool, true, false, List, [], ◌∷◌, ◌++◌, Some, Result, Ok, Err, refl, sym, ap, ◌∙◌, subst, arith, append-nil, ◌-◌, ◌||◌, length, map}
use Rattle.std.specs.Prelude.{bytes_eq}
use Rattle.sync_data.specs.declared.instr.Instr.{Instr}
use Rattle.sync_base.specs.States.{State}
use Rattle.sync_theory.proofs.Logs.{length_snoc}
use Rattle.sync_model.specs.Bytes.{Name}
use Rattle.sync_model.specs.Clients.{Client, ClientRecord, ClientRefusal, ClientStep, answers, ask, if_named, client_of, question, to_upload, upload, take as take_message}
use Rattle.sync_model.specs.Harmless.{IsHarmlessEvent, made_by_event}
use Rattle.sync_model.specs.Messages.{Message, Download, Upload}
use Rattle.sync_model.specs.Progress.{load}
use Rattle.sync_model.specs.Servers.{Server, after_all, entries_from, is_refusal, sent_of, no_server, serve, server_of}
use Rattle.sync_model.specs.Worlds.{Event, Node, Outcome, World, at, client_called, client_calls, client_ends, client_moved, delivers, happens, has_name, is_node, is_there, message_at, message_words, messaged, reply_words, says, seek, server_called, server_ends, server_moved, server_name, stopped, took_words, NoNode}
use Rattle.sync_model.proofs.Calling.{NamedAs, named_as}
use Rattle.sync_model.proofs.Holding.{server_append}
use Rattle.sync_model.proofs.Lists.{at_new, at_put, seek_found}
use Rattle.sync_model.proofs.Own.{if_false, if_true}
use Rattle.sync_model.proofs.Progress.Catching.{seek_put}
use Rattle.sync_model.proofs.Progress.Valid.{Valid, reached_valid}
use Rattle.sync_exchange.specs.Lemmas.Buildable.{real_buildable}
use Rattle.sync_exchange.specs.Lemmas.Lawful.{real_lawful}
use Rattle.sync_exchange.specs.Profile.{the_profile}
use Rattle.gen_law.specs.Generated.{after, answered, exchanged, newest_to, told, world_by}
use Rattle.gen_law.specs.Refusals.{is_refused}
use Rattle.gen_law.proofs.Eight.{Good, Lasts, There, good_after, named_call}
use Rattle.gen_law.proofs.Harmless.{drawn_harmless, is_drawn}
use Rattle.gen_law.proofs.Unrefused as un

-- ---- events that nobody refuses

abbrev pub Taken : World → Event Instr → Type 0
Taken w e = is_refused (told w e) ≡ false

abbrev pub AllTaken : World → List (Event Instr) → Type 0
AllTaken w [] = Unit {0}
AllTaken w (e ∷ es) = Taken w e × AllTaken (after w e) es

pub taken_by : (w : World) (e : Event Instr) (o : Outcome) → happens the_profile w e ≡ o → is_refused o.words ≡ false → Taken w e
unfolding told
taken_by w e o is fine = ap (λ (z : Outcome). is_refused z.words) is ∙ fine

pub after_by : (w : World) (e : Event Instr) (o : Outcome) → happens the_profile w e ≡ o → after w e ≡ o.world
unfolding after
after_by w e o is = ap (λ (z : Outcome). z.world) is

-- what holds of every world that is reached
pub valid : (w : World) → Good 100001 w → Valid the_profile w
valid w g = reached_valid the_profile real_lawful real_buildable w g.reached

-- ---- three events

-- a client's node after a call that appends nothing
abbrev pub called : Node → Node
called nd = record nd { records = nd.records ++ [] }

same : (nd : Node) → client_of the_profile (called nd).records ≡ client_of the_profile nd.records
same nd = ap (client_of the_profile) (append-nil nd.records)

-- such a client refuses nothing, and nothing of it is refused
refuses_none : (v : World) → Good 100001 v → (i : ℕ) (nd : Node) → at v.clients i ≡ Some (called nd) → un.RefusesNone the_profile v (client_of the_profile nd.records)
refuses_none v g i nd here =
    subst (un.RefusesNone the_profile v) (same nd)
    (un.refuses_none the_profile (λ c n is. is_drawn c n is ≡ true) 100001 851 drawn_harmless real_lawful real_buildable (omega arith) v (valid v g) g.harmless i (called nd) here)

module _ (lasts : Lasts) (w : World) (g : Good 100001 w) (name : Name) (t : There w name) (e : Event Instr) (harmless : IsHarmlessEvent the_profile (λ c n is. is_drawn c n is ≡ true) w e) (none : made_by_event e ≡ 0)
    (m : Message) (is : happens the_profile w e ≡ messaged (client_moved w t.place t.node []) m)
  where
    abbrev w1 : World
    w1 = (messaged (client_moved w t.place t.node []) m).world

    good1 : Good 100001 w1
    good1 = subst (Good 100001) (after_by w e (messaged (client_moved w t.place t.node []) m) is) (good_after lasts 100001 w e g harmless none)

    here1 : at w1.clients t.place ≡ Some (called t.node)
    here1 = at_put w.clients t.place t.node (called t.node) t.here

    pub there1 : at w1.messages (length w.messages) ≡ Some m
    there1 = at_new w.messages m

    newest1 : message_at w1 (length w1.messages) ≡ Some m
    newest1 = ap (message_at w1) (length_snoc w.messages m) ∙ there1

    -- ---- the server answers

    abbrev reply : Message
    reply = (serve the_profile (server_of the_profile w.server) m).answer

    abbrev o2 : Outcome
    o2 = reply_words (server_moved w1 (serve the_profile (server_of the_profile w.server) m).records) reply

    serves : happens the_profile w1 (newest_to server_name w1) ≡ o2
    serves = ap (delivers the_profile w1 server_name) newest1
        ∙ ap (λ o. server_ends w1 (serve the_profile (server_of the_profile w.server) m) (stopped o (serve the_profile (server_of the_profile w.server) m).records)) (good1.harmless.unarmed server_name)

    good2 : Good 100001 o2.world
    good2 = subst (Good 100001) (after_by w1 (newest_to server_name w1) o2 serves) (good_after lasts 100001 w1 (newest_to server_name w1) good1 tt refl)

    pub there2 : at o2.world.messages (length w1.messages) ≡ Some reply
    there2 = at_new w1.messages reply

    newest2 : message_at o2.world (length o2.world.messages) ≡ Some reply
    newest2 = ap (message_at o2.world) (length_snoc w1.messages reply) ∙ there2

    pub server2 : server_of the_profile o2.world.server ≡ after_all the_profile (server_of the_profile w.server) (serve the_profile (server_of the_profile w.server) m).records
    server2 = server_append the_profile no_server w.server (serve the_profile (server_of the_profile w.server) m).records

    -- ---- the client takes the answer

    found2 : seek (has_name name) o2.world.clients ≡ Some (t.place, called t.node)
    found2 = seek_put (has_name name) w.clients t.place t.node (called t.node) t.found (seek_found (has_name name) w.clients (t.place, t.node) t.found).passes

    node_there : is_node o2.world name ≡ true
    node_there = on (bytes_eq name server_name) (is_there (seek (has_name name) o2.world.clients)) (ap is_there found2)
      where
        on : (a b : Bool) → b ≡ true → (a || b) ≡ true
        on true b e = refl
        on false b e = e

    abbrev did : ClientStep ℕ
    did = take_message the_profile (client_of the_profile t.node.records) reply

    takes : happens the_profile o2.world (newest_to name o2.world) ≡ took_words (client_moved o2.world t.place (called t.node) did.records) did.answer
    takes =
        if_true (is_node o2.world name) (delivers the_profile o2.world name (message_at o2.world (length o2.world.messages))) (says o2.world NoNode) node_there
        ∙ ap (delivers the_profile o2.world name) newest2
        ∙ if_false (bytes_eq name server_name) (server_called the_profile o2.world reply) (client_calls the_profile o2.world name (λ c. take_message the_profile c reply) took_words) t.apart
        ∙ ap (client_called the_profile o2.world (λ c. take_message the_profile c reply) took_words) found2
        ∙ ap (λ c. client_ends o2.world t.place (called t.node) (take_message the_profile c reply) took_words (stopped (o2.world.stops t.node.name) (take_message the_profile c reply).records)) (same t.node)
        ∙ ap (λ o. client_ends o2.world t.place (called t.node) did took_words (stopped o did.records)) (good2.harmless.unarmed t.node.name)

    took_fine : (v : World) (a : Result ℕ ClientRefusal) → ((why : ClientRefusal) → a ≡ Err why → ⊥) → is_refused (took_words v a).words ≡ false
    took_fine v (Ok n) f = refl
    took_fine v (Err why) f = absurd (f why refl)

    -- ---- together

    pub none1 : un.RefusesNone the_profile w1 (client_of the_profile t.node.records)
    none1 = refuses_none w1 good1 t.place t.node here1

    pub none2 : un.RefusesNone the_profile o2.world (client_of the_profile t.node.records)
    none2 = refuses_none o2.world good2 t.place t.node here1

    pub all_taken : is_refusal reply ≡ false → ((why : ClientRefusal) → did.answer ≡ Err why → ⊥) → AllTaken w (exchanged name e w)
    all_taken fine takes_it = (taken_by w e (messaged (client_moved w t.place t.node []) m) is refl, subst (λ v. AllTaken v (answered name v)) (sym (after_by w e (messaged (client_moved w t.place t.node []) m) is)) two)
      where
        three : AllTaken o2.world (newest_to name o2.world ∷ [])
        three = (taken_by o2.world (newest_to name o2.world) (took_words (client_moved o2.world t.place (called t.node) did.records) did.answer) takes (took_fine (client_moved o2.world t.place (called t.node) did.records) did.answer takes_it), tt)

        two : AllTaken w1 (answered name w1)
        two = (taken_by w1 (newest_to server_name w1) o2 serves fine, subst (λ v. AllTaken v (newest_to name v ∷ [])) (sym (after_by w1 (newest_to server_name w1) o2 serves)) three)

    took_server : (v : World) (a : Result ℕ ClientRefusal) → (took_words v a).world.server ≡ v.server
    took_server v (Ok n) = refl
    took_server v (Err why) = refl

    -- what the server has then
    pub server3 : (world_by w (exchanged name e w)).server ≡ w.server ++ (serve the_profile (server_of the_profile w.server) m).records
    server3 =
        ap (λ v. (world_by v (answered name v)).server) (after_by w e (messaged (client_moved w t.place t.node []) m) is)
        ∙ ap (λ v. (after v (newest_to name v)).server) (after_by w1 (newest_to server_name w1) o2 serves)
        ∙ ap (λ (v : World). v.server) (after_by o2.world (newest_to name o2.world) (took_words (client_moved o2.world t.place (called t.node) did.records) did.answer) takes)
        ∙ took_server (client_moved o2.world t.place (called t.node) did.records) did.answer

-- ---- an upload and a question

no_error : {A : Type 0} (a : A) (why : ClientRefusal) → Ok a ≡ Err why → ⊥
no_error a why e = cc

module _ (lasts : Lasts) (w : World) (g : Good 100001 w) (name : Name) (t : There w name) where
  abbrev st : Client Instr State
  st = client_of the_profile t.node.records

  -- it makes a message
  sends : (call : Client Instr State → ClientStep Message) (m : Message) → call st ≡ if_named st (answers m) → client_calls the_profile w name call message_words ≡ messaged (client_moved w t.place t.node []) m
  sends call m is =
      ap (client_called the_profile w call message_words) t.found
      ∙ ap (λ d. client_ends w t.place t.node d message_words (stopped (w.stops t.node.name) d.records)) (is ∙ named_call st x.id (answers m) x.born named)
      ∙ ap (λ o. client_ends w t.place t.node (answers m) message_words (stopped {R = ClientRecord} o [])) (g.harmless.unarmed t.node.name)
    where
      named : (client_of the_profile t.node.records).ident ≢ 0
      named = (g.harmless.clients t.place t.node t.here).named

      x : NamedAs the_profile real_lawful (server_of the_profile w.server) w.injected (valid w g).holds.n (client_of the_profile t.node.records)
      x = named_as the_profile real_lawful (server_of the_profile w.server) w.injected w.clients (valid w g).holds.n (valid w g).holds.sim t.place t.node t.here named

  pub upload_is : happens the_profile w (Event.Uploads name) ≡ messaged (client_moved w t.place t.node []) (Upload st.ident (to_upload the_profile st))
  upload_is = sends (upload the_profile) (Upload st.ident (to_upload the_profile st)) refl

  pub uploads_taken : AllTaken w (exchanged name (Event.Uploads name) w)
  uploads_taken =
      let m = Upload st.ident (to_upload the_profile st) in
      let a = (none1 lasts w g name t (Event.Uploads name) tt refl m upload_is).stores (length w.messages) (to_upload the_profile st) (there1 lasts w g name t (Event.Uploads name) tt refl m upload_is) in
      all_taken lasts w g name t (Event.Uploads name) tt refl m upload_is
      (ap is_refusal a.1)
      (λ why e. no_error st.cursor why (sym (ap (λ (d : ClientStep ℕ). d.answer) (ap (take_message the_profile st) a.1 ∙ (none2 lasts w g name t (Event.Uploads name) tt refl m upload_is).hears a.0)) ∙ e))

  ask_is : happens the_profile w (Event.Asks name) ≡ messaged (client_moved w t.place t.node []) (question st st.subset)
  ask_is = sends ask (question st st.subset) refl

  pub asks_taken : AllTaken w (exchanged name (Event.Asks name) w)
  asks_taken =
      let m = question st st.subset in
      let s = server_of the_profile w.server in
      let a = (none1 lasts w g name t (Event.Asks name) tt refl m ask_is).tells in
      let log : (server_of the_profile (o2 lasts w g name t (Event.Asks name) tt refl m ask_is).world.server).log ≡ s.log = ap (λ (z : Server Instr). z.log) (server2 lasts w g name t (Event.Asks name) tt refl m ask_is) ∙ a.log in
      let told = a.answer ∙ ap (λ l. Download st.ident st.cursor (load the_profile (map (sent_of the_profile) (entries_from the_profile l (length l - st.cursor) st.cursor)))) (sym log) in
      let first : World = w1 lasts w g name t (Event.Asks name) tt refl m ask_is in
      all_taken lasts w g name t (Event.Asks name) tt refl m ask_is
      (ap is_refusal a.answer)
      (λ why e. (none2 lasts w g name t (Event.Asks name) tt refl m ask_is).takes (length first.messages) (there2 lasts w g name t (Event.Asks name) tt refl m ask_is ∙ ap (λ z. Some z) told) why (sym (ap (λ z. (take_message the_profile st z).answer) told) ∙ e))
