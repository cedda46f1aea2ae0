-- Single events of a client that catches up, from any world in which it stands for one state and the server for another.
use Rattle.std.proofs.Common.{◌≡◌, ◌≢◌, ◌⊎◌, inl, inr, ⊎_elim, ℕ, suc, ◌≤◌, Bool, true, false, ◌||◌, List, [], ◌∷◌, ◌++◌, Option, Some, None, Result, Ok, Err, refl, sym, ap, ◌∙◌, subst, subst₂, arith, if◌then◌else◌, ◌==◌, length, length-append, map, take}
use Rattle.std.specs.Prelude.{bytes_eq}
use Rattle.sync_theory.specs.Logs.{of_origin}
use Rattle.sync_theory.proofs.Server.{test_false}
use Rattle.sync_model.specs.Bytes.{Name, Uuid}
use Rattle.sync_model.specs.Profile.{Profile, Lawful, is_small}
use Rattle.sync_model.specs.Snapshots.{Buildable}
use Rattle.sync_model.specs.Messages.{Message, Upload}
use Rattle.sync_model.specs.Clients.{Client, ClientRecord, ClientRefusal, ClientStep, Original, Unsent, answers, if_born, if_named, refuse, NotNamed, client_of, after_records, take as take_message}
use Rattle.sync_model.specs.Servers.{Server, ServerRecord, ServerStep, no_server, server_of, after_all, place_of, count, is_given, serve, serve_changes}
use Rattle.sync_model.specs.Worlds.{Node, World, Event, Delivers, Outcome, Words, says, Stop, Stopped, Replied, Took, Declined, at, put, seek, further, is_there, stopped, has_name, server_name, messaged, message_words, took_words, reply_words, client_moved, client_ends, client_called, client_calls, server_moved, server_ends, server_called, is_node, delivers, message_at, happens, world_after, outcomes}
use Rattle.sync_model.specs.Log.{MayDecline}
use Rattle.sync_model.specs.Progress.{Comes, comes_now, comes_later}
use Rattle.sync_model.specs.Each.{Each, and_each}
use Rattle.sync_model.proofs.Lists.{seek_found, at_put_other, map_put, at_new, at_map, length_map}
use Rattle.sync_model.proofs.Own.{after_append}
use Rattle.sync_model.proofs.Sim.{as_log}
use Rattle.sync_model.proofs.Calling.{NamedAs, named_as, mine}
use Rattle.sync_model.proofs.Fair.{given_so, own_answers, IsUploadFair}
use Rattle.sync_model.proofs.Serving.{numbered_at}
use Rattle.sync_model.proofs.Small.{client_lists}
use Rattle.sync_model.proofs.Holding.{Holds, server_append}
use Rattle.sync_model.proofs.Progress.Valid.{Valid, valid_step, valid_facts}

pub seek_put : {A : Type 0} (test : A → Bool) (xs : List A) (i : ℕ) (x y : A) → seek test xs ≡ Some (i, x) → test y ≡ true → seek test (put xs i y) ≡ Some (i, y)
seek_put test [] i x y e t = cc
seek_put {A} test (z ∷ xs) i x y e t = go (test z) refl e (λ j f. seek_put test xs j x y f t)
  where
    pair : (a b : ℕ × A) → Some a ≡ Some b → a ≡ b
    pair a b f = cc

    tested : (b : Bool) (v : Option (ℕ × A)) → b ≡ true → (if b then Some (0, y) else v) ≡ Some (0, y)
    tested true v f = refl
    tested false v f = cc

    passed : (b : Bool) (v : Option (ℕ × A)) (j : ℕ) → b ≡ false → v ≡ Some (j, y) → (if b then Some (0, z) else further v) ≡ Some (suc j, y)
    passed true v j f g = cc
    passed false v j f g = ap further g

    rest : ((j : ℕ) → seek test xs ≡ Some (j, x) → seek test (put xs j y) ≡ Some (j, y)) → test z ≡ false → (v : Option (ℕ × A)) → seek test xs ≡ v → further v ≡ Some (i, x) → seek test (put (z ∷ xs) i y) ≡ Some (i, y)
    rest rec f None v_is g = cc
    rest rec f (Some v) v_is g =
        let both = pair (suc v.0, v.1) (i, x) g in
        let i_is : suc v.0 ≡ i = ap (λ a. a.0) both in
        let x_is : v.1 ≡ x = ap (λ a. a.1) both in
        let h = rec v.0 (v_is ∙ ap (λ a. Some (v.0, a)) x_is) in
        subst (λ j. seek test (put (z ∷ xs) j y) ≡ Some (j, y)) i_is (passed (test z) (seek test (put xs v.0 y)) v.0 f h)

    go : (b : Bool) → test z ≡ b → (if b then Some (0, z) else further (seek test xs)) ≡ Some (i, x) → ((j : ℕ) → seek test xs ≡ Some (j, x) → seek test (put xs j y) ≡ Some (j, y)) → seek test (put (z ∷ xs) i y) ≡ Some (i, y)
    go true f g rec = let i_is : 0 ≡ i = ap (λ a. a.0) (pair (0, z) (i, x) g) in subst (λ j. seek test (put (z ∷ xs) j y) ≡ Some (j, y)) i_is (tested (test y) (further (seek test xs)) t)
    go false f g rec = rest rec f (seek test xs) refl g

at_mid : {A : Type 0} (xs ys : List A) (y : A) → at (xs ++ y ∷ ys) (length xs) ≡ Some y
at_mid [] ys y = refl
at_mid (x ∷ xs) ys y = at_mid xs ys y

pub first_of_each : {A : Type 0} {P : A → Type 0} {x : A} {xs : List A} → Each P (x ∷ xs) → P x
first_of_each (and_each h r) = h

stop_armed : {R : Type 0} (o : Option Stop) (rs stand : List R) → stopped o rs ≡ Some stand → o ≢ None
stop_armed None rs stand e = cc
stop_armed (Some s) rs stand e = λ f. cc

module _ {I S : Type 0} (p : Profile I S) where
  abbrev pub Goes : (Words → Type 0) → World → List (Event I) → (World → Type 0) → Type 0
  Goes q w es r = Comes q (outcomes p w es) ⊎ r (world_after p w es)

  pub goes_on : (q : Words → Type 0) (w : World) (e : Event I) (es : List (Event I)) (r : World → Type 0) (o : Outcome) → happens p w e ≡ o → q o.words ⊎ Goes q o.world es r → Goes q w (e ∷ es) r
  goes_on q w e es r o is (inl x) = inl (comes_now (subst (λ z. q z.words) (sym is) x))
  goes_on q w e es r o is (inr (inl c)) = inl (comes_later (subst (λ z. Comes q (outcomes p z.world es)) (sym is) c))
  goes_on q w e es r o is (inr (inr h)) = inr (subst (λ z. r (world_after p z.world es)) (sym is) h)

  module _ {Fits Bounded Old : S → Type 0} (law : Lawful p Fits) (built : Buildable p Fits Bounded Old) (q : Words → Type 0) (armed : Type 0) (stop : armed → q Stopped) (w0 : World) (name : Name) (place : ℕ) (nd0 : Node) (not_server : bytes_eq name server_name ≡ false) (arms : w0.stops nd0.name ≢ None → armed) (arms_server : w0.stops server_name ≢ None → armed) where
    -- a world since w0 in which the client stands for st and the server for s, and so many messages were made
    pub record Here (v : World) (s : Server I) (st : Client I S) (n : ℕ) : Type 0 where
      pub reached : Valid p v
      pub node : Node
      pub found : seek (has_name name) v.clients ≡ Some (place, node)
      pub name_is : node.name ≡ nd0.name
      pub stops : (x : Name) → w0.stops x ≡ None → v.stops x ≡ None
      pub others : (j : ℕ) → j ≢ place → at v.clients j ≡ at w0.clients j
      pub names : map (λ x. x.name) v.clients ≡ map (λ x. x.name) w0.clients
      pub client : client_of p node.records ≡ st
      pub server : server_of p v.server ≡ s
      pub messages : length v.messages ≡ n

    -- ---- a client's call

    arm_none : (b : Bool) (o : Option Stop) → o ≡ None → (if b then None else o) ≡ None
    arm_none true o e = refl
    arm_none false o e = e

    moved_here : {v : World} {s : Server I} {st : Client I S} {n : ℕ} (h : Here v s st n) (rs : List ClientRecord) (msgs : List Message) (m : ℕ) → length msgs ≡ m → Valid p (record (client_moved v place h.node rs) { messages = msgs }) → Here (record (client_moved v place h.node rs) { messages = msgs }) s (after_records p st rs) m
    moved_here {v} h rs msgs m count reached =
        let nd2 : Node = record { name = h.node.name; records = h.node.records ++ rs } in
        record {
          reached = reached;
          node = record { name = h.node.name; records = h.node.records ++ rs };
          found = seek_put (has_name name) v.clients place h.node (record { name = h.node.name; records = h.node.records ++ rs }) h.found (seek_found (has_name name) v.clients (place, h.node) h.found).passes;
          name_is = h.name_is;
          stops = λ x e. arm_none (bytes_eq x h.node.name) (v.stops x) (h.stops x e);
          others = λ j ne. at_put_other v.clients place j (record { name = h.node.name; records = h.node.records ++ rs }) ne ∙ h.others j ne;
          names = map_put (λ (x : Node). x.name) v.clients place h.node (record { name = h.node.name; records = h.node.records ++ rs }) (seek_found (has_name name) v.clients (place, h.node) h.found).here refl ∙ h.names;
          client = after_append p _ h.node.records rs ∙ ap (λ c. after_records p c rs) h.client;
          server = h.server;
          messages = count;
        }

    stop_of_client : {v : World} {s : Server I} {st : Client I S} {n : ℕ} (h : Here v s st n) → v.stops h.node.name ≢ None → armed
    stop_of_client {v} h ne = arms (λ z. ne (h.stops h.node.name (ap w0.stops h.name_is ∙ z)))

    stop_of_server : {v : World} {s : Server I} {st : Client I S} {n : ℕ} (h : Here v s st n) → v.stops server_name ≢ None → armed
    stop_of_server {v} h ne = arms_server (λ z. ne (h.stops server_name z))

    called_is : {A : Type 0} {v : World} {s : Server I} {st : Client I S} {n : ℕ} (h : Here v s st n) (call : Client I S → ClientStep A) (did : ClientStep A) → call st ≡ did → (words : World → Result A ClientRefusal → Outcome)
        → client_calls p v name call words ≡ client_ends v place h.node did words (stopped (v.stops h.node.name) did.records)
    called_is {v = v} h call did is words = ap (client_called p v call words) h.found ∙ ap (λ d. client_ends v place h.node d words (stopped (v.stops h.node.name) d.records)) (ap call h.client ∙ is)

    -- it sends a message
    pub messages : {v : World} {s : Server I} {st : Client I S} {n : ℕ} (h : Here v s st n) (e : Event I) (call : Client I S → ClientStep Message) → happens p v e ≡ client_calls p v name call message_words → (m : Message) → call st ≡ answers m
        → (es : List (Event I)) (r : World → Type 0) → ((v2 : World) → Here v2 s st (suc n) → message_at v2 (suc n) ≡ Some m → Goes q v2 es r) → Goes q v (e ∷ es) r
    messages {v} {s} {st} {n} h e call event m is es r then_ = on (stopped (v.stops h.node.name) []) refl
      where
        ends : happens p v e ≡ client_ends v place h.node (answers m) message_words (stopped (v.stops h.node.name) [])
        ends = event ∙ called_is h call (answers m) is message_words

        on : (o : Option (List ClientRecord)) → stopped (v.stops h.node.name) [] ≡ o → Goes q v (e ∷ es) r
        on (Some stand) o_is = goes_on q v e es r (says (client_moved v place h.node stand) Stopped) (ends ∙ ap (client_ends v place h.node (answers m) message_words) o_is) (inl (stop (stop_of_client h (stop_armed (v.stops h.node.name) [] stand o_is))))
        on None o_is =
            let to : happens p v e ≡ messaged (client_moved v place h.node []) m = ends ∙ ap (client_ends v place h.node (answers m) message_words) o_is in
            let reached : Valid p (messaged (client_moved v place h.node []) m).world = subst (λ o. Valid p o.world) to (valid_step p law built v e h.reached) in
            goes_on q v e es r (messaged (client_moved v place h.node []) m) to
            (inr (then_ (messaged (client_moved v place h.node []) m).world
            (moved_here h [] (v.messages ++ m ∷ []) (suc n) (Rattle.sync_theory.proofs.Logs.length_snoc v.messages m ∙ ap suc h.messages) reached)
            (ap (at (v.messages ++ m ∷ [])) (sym h.messages) ∙ at_new v.messages m)))

    node_there : {v : World} {s : Server I} {st : Client I S} {n : ℕ} (h : Here v s st n) → is_node v name ≡ true
    node_there {v} h = on (bytes_eq name server_name) (is_there (seek (has_name name) v.clients)) (ap is_there h.found)
      where
        on : (a b : Bool) → b ≡ true → (a || b) ≡ true
        on true b e = refl
        on false b e = e

    if_yes : {A : Type 0} (b : Bool) (x y : A) → b ≡ true → (if b then x else y) ≡ x
    if_yes true x y e = refl
    if_yes false x y e = cc

    if_no : {A : Type 0} (b : Bool) (x y : A) → b ≡ false → (if b then x else y) ≡ y
    if_no true x y e = cc
    if_no false x y e = refl

    -- it takes one
    pub takes : {v : World} {s : Server I} {st : Client I S} {n : ℕ} (h : Here v s st n) (k : ℕ) (m : Message) → message_at v k ≡ Some m → (did : ClientStep ℕ) → take_message p st m ≡ did
        → (es : List (Event I)) (r : World → Type 0) → ((why : ClientRefusal) → did.answer ≡ Err why → q (Declined why))
        → ((j : ℕ) (v2 : World) → did.answer ≡ Ok j → Here v2 s (after_records p st did.records) n → Goes q v2 es r) → Goes q v (Delivers k name ∷ es) r
    takes {v} {s} {st} {n} h k m there did is es r refused then_ = on (stopped (v.stops h.node.name) did.records) refl
      where
        e : Event I
        e = Delivers k name

        ends : happens p v (Delivers k name) ≡ client_ends v place h.node did took_words (stopped (v.stops h.node.name) did.records)
        ends = if_yes (is_node v name) (delivers p v name (message_at v k)) _ (node_there h) ∙ ap (delivers p v name) there
            ∙ if_no (bytes_eq name server_name) (server_called p v m) (client_calls p v name (λ c. take_message p c m) took_words) not_server
            ∙ called_is h (λ c. take_message p c m) did is took_words

        on : (o : Option (List ClientRecord)) → stopped (v.stops h.node.name) did.records ≡ o → Goes q v (Delivers k name ∷ es) r
        on (Some stand) o_is = goes_on q v (Delivers k name) es r (says (client_moved v place h.node stand) Stopped) (ends ∙ ap (client_ends v place h.node did took_words) o_is) (inl (stop (stop_of_client h (stop_armed (v.stops h.node.name) did.records stand o_is))))
        on None o_is = answered did.answer refl
          where
            answered : (a : Result ℕ ClientRefusal) → did.answer ≡ a → Goes q v (Delivers k name ∷ es) r
            answered (Err why) a_is =
                goes_on q v (Delivers k name) es r (says (client_moved v place h.node did.records) (Declined why)) (ends ∙ ap (client_ends v place h.node did took_words) o_is ∙ ap (took_words (client_moved v place h.node did.records)) a_is) (inl (refused why a_is))
            answered (Ok j) a_is =
                let to : happens p v (Delivers k name) ≡ says (client_moved v place h.node did.records) (Took j) = ends ∙ ap (client_ends v place h.node did took_words) o_is ∙ ap (took_words (client_moved v place h.node did.records)) a_is in
                let reached : Valid p (client_moved v place h.node did.records) = subst (λ o. Valid p o.world) to (valid_step p law built v (Delivers k name) h.reached) in
                goes_on q v (Delivers k name) es r (says (client_moved v place h.node did.records) (Took j)) to
                (inr (then_ j (client_moved v place h.node did.records) a_is (moved_here h did.records v.messages n h.messages reached)))

    -- ---- the server

    pub serves : {v : World} {s : Server I} {st : Client I S} {n : ℕ} (h : Here v s st n) (k : ℕ) (m : Message) → message_at v k ≡ Some m → (did : ServerStep) → serve p s m ≡ did
        → (es : List (Event I)) (r : World → Type 0)
        → ((v2 : World) → Here v2 (after_all p s did.records) st (suc n) → message_at v2 (suc n) ≡ Some did.answer → ((spot : ℕ) → q (Replied spot did.answer)) ⊎ Goes q v2 es r) → Goes q v (Delivers k server_name ∷ es) r
    serves {v} {s} {st} {n} h k m there did is es r then_ = on (stopped (v.stops server_name) did.records) refl
      where
        ends : happens p v (Delivers k server_name) ≡ server_ends v did (stopped (v.stops server_name) did.records)
        ends = ap (delivers p v server_name) there ∙ ap (λ d. server_ends v d (stopped (v.stops server_name) d.records)) (ap (λ x. serve p x m) h.server ∙ is)

        on : (o : Option (List ServerRecord)) → stopped (v.stops server_name) did.records ≡ o → Goes q v (Delivers k server_name ∷ es) r
        on (Some stand) o_is = goes_on q v (Delivers k server_name) es r (says (server_moved v stand) Stopped) (ends ∙ ap (server_ends v did) o_is) (inl (stop (stop_of_server h (stop_armed (v.stops server_name) did.records stand o_is))))
        on None o_is =
            let to : happens p v (Delivers k server_name) ≡ reply_words (server_moved v did.records) did.answer = ends ∙ ap (server_ends v did) o_is in
            let reached : Valid p (reply_words (server_moved v did.records) did.answer).world = subst (λ o. Valid p o.world) to (valid_step p law built v (Delivers k server_name) h.reached) in
            let here : Here (reply_words (server_moved v did.records) did.answer).world (after_all p s did.records) st (suc n) = record {
              reached = reached;
              node = h.node;
              found = h.found;
              name_is = h.name_is;
              stops = λ x e. arm_none (bytes_eq x server_name) (v.stops x) (h.stops x e);
              others = h.others;
              names = h.names;
              client = h.client;
              server = server_append p no_server v.server did.records ∙ ap (λ x. after_all p x did.records) h.server;
              messages = Rattle.sync_theory.proofs.Logs.length_snoc v.messages did.answer ∙ ap suc h.messages;
            } in
            goes_on q v (Delivers k server_name) es r (reply_words (server_moved v did.records) did.answer) to
            (⊎_elim (λ x. inl (x (suc (length v.messages)))) (λ g. inr g) (then_ (reply_words (server_moved v did.records) did.answer).world here (ap (at (v.messages ++ did.answer ∷ [])) (sym h.messages) ∙ at_new v.messages did.answer)))

    -- ---- what holds there

    pub holds : {v : World} {s : Server I} {st : Client I S} {n : ℕ} → Here v s st n → Holds p v
    holds h = h.reached.holds

    pub at_node : {v : World} {s : Server I} {st : Client I S} {n : ℕ} (h : Here v s st n) → at v.clients place ≡ Some h.node
    at_node {v} h = (seek_found (has_name name) v.clients (place, h.node) h.found).here

    -- it declines what it may
    pub declined : {v : World} {s : Server I} {st : Client I S} {n : ℕ} (h : Here v s st n) (k : ℕ) (m : Message) → message_at v (suc k) ≡ Some m → (why : ClientRefusal) → (take_message p st m).answer ≡ Err why → MayDecline why
    declined {v} h k m there why e = (valid_facts p law built v h.reached).declines k m there place h.node (at_node h) why (ap (λ c. (take_message p c m).answer) h.client ∙ e)

    -- and the server refuses of an upload what it may
    pub upload_refused : {v : World} {s : Server I} {st : Client I S} {n : ℕ} (h : Here v s st n) (k c : ℕ) (hs : List Rattle.sync_model.specs.Messages.Change) → message_at v (suc k) ≡ Some (Upload c hs) → IsUploadFair (serve_changes p s c hs).answer
    upload_refused {v} h k c hs there =
        let i = holds h in
        let t = i.tells k (Upload c hs) there in
        subst (λ x. IsUploadFair (serve_changes p x c hs).answer) h.server (own_answers p law v.clients v.injected hs (server_of p v.server) i.n i.sim c t.1.from t.0.given t.0.there t.0.own t.1.known t.1.changes)

    -- a client that is named, against the server
    pub record Facts (s : Server I) (st : Client I S) : Type 0 where
      pub id : Uuid
      pub born : st.id ≡ Some id
      pub placed : place_of id s.ids ≡ st.ident
      pub given : is_given s st.ident ≡ true
      pub within : st.cursor ≤ length s.log
      pub owned : count s st.ident ≤ length st.made
      pub sent : List (Original I)
      pub split : st.made ≡ sent ++ map (λ u. u.original) st.unsent
      pub sent_count : length sent ≡ length (of_origin st.ident (take st.cursor s.log))
      pub numbers : (u : Unsent I) (us : List (Unsent I)) → st.unsent ≡ u ∷ us → u.original.number ≡ suc (length sent)
      pub small : (u : Unsent I) (us : List (Unsent I)) → st.unsent ≡ u ∷ us → is_small p u.original.instrs ≡ true

    pub facts : {v : World} {s : Server I} {st : Client I S} {n : ℕ} (h : Here v s st n) → st.ident ≢ 0 → Facts s st
    facts {v} h named = subst₂ Facts h.server h.client at_world
      where
        c : Client I S
        c = client_of p h.node.records

        i : Holds p v
        i = holds h

        ne : (client_of p h.node.records).ident ≢ 0
        ne = λ z. named (sym (ap (λ x. x.ident) h.client) ∙ z)

        w : NamedAs p law (server_of p v.server) v.injected i.n (client_of p h.node.records)
        w = named_as p law (server_of p v.server) v.injected v.clients i.n i.sim place h.node (at_node h) ne

        at_world : Facts (server_of p v.server) (client_of p h.node.records)
        at_world =
            let g = w.given in
            let log_is = i.sim.log_is in
            let a = i.sim.ahead (client_of p h.node.records).ident in
            let owned_is = ap length (sym g.mades ∙ a.1) ∙ length-append (of_origin (client_of p h.node.records).ident i.n.log) a.0 in
            let made_is = length_map (as_log (client_of p h.node.records).ident) (client_of p h.node.records).made in
            let counted = ap (λ l. length (of_origin (client_of p h.node.records).ident l)) log_is in
            record {
              id = w.id;
              born = w.born;
              placed = w.place;
              given = given_so p law v.clients v.injected (server_of p v.server) i.n i.sim (client_of p h.node.records).ident (mine p law (server_of p v.server) v.injected v.clients i.n i.sim place h.node (at_node h) w ne);
              within = subst (λ l. (client_of p h.node.records).cursor ≤ length l) log_is g.reach;
              owned = omega arith;
              sent = g.sent;
              split = g.split;
              sent_count = g.sent_count ∙ ap (λ l. length (of_origin (client_of p h.node.records).ident (take (client_of p h.node.records).cursor l))) log_is;
              numbers = λ u us e.
                  let there : at (i.n.mades (client_of p h.node.records).ident) (length g.sent) ≡ Some (as_log (client_of p h.node.records).ident u.original) = ap (λ l. at l (length g.sent)) (g.mades ∙ ap (map (as_log (client_of p h.node.records).ident)) (g.split ∙ ap (λ l. g.sent ++ map (λ z. z.original) l) e)) ∙ at_map (as_log (client_of p h.node.records).ident) (g.sent ++ u.original ∷ map (λ z. z.original) us) (length g.sent) u.original (at_mid g.sent (map (λ z. z.original) us) u.original) in
                  let f = (numbered_at (length g.sent) (as_log (client_of p h.node.records).ident u.original) (i.sim.numbered (client_of p h.node.records).ident) there).0 in
                  omega arith;
              small = λ u us e. (first_of_each (subst (λ l. Each (λ z. (is_small p z.original.instrs ≡ true) × (is_small p z.current ≡ true)) l) e (client_lists p law h.node.records).unsent)).0;
            }

    -- a call of a named client
    pub named_calls : {A : Type 0} (st : Client I S) (did : ClientStep A) (id : Uuid) → st.id ≡ Some id → st.ident ≢ 0 → if_named st did ≡ did
    named_calls st did id born ne = ap (λ o. if_born o (λ i. if st.ident == 0 then refuse NotNamed else did)) born ∙ if_no (st.ident == 0) (refuse NotNamed) did (test_false st.ident 0 ne)
