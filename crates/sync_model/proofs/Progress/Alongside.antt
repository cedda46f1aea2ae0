-- A server that gave up history does for clients above its floor what one with the whole history does.
use Rattle.std.proofs.Common.{append-nil, ◌≡◌, ◌≢◌, ◌⊎◌, inl, inr, ⊎_elim, ℕ, zero, suc, ◌<◌, ◌≤◌, Bool, true, false, ◌||◌, List, [], ◌∷◌, ◌++◌, Option, Some, None, Result, Ok, Err, refl, sym, ap, ap₂, ◌∙◌, subst, arith, if◌then◌else◌, ◌==◌}
use Rattle.std.specs.Prelude.{bytes_eq}
use Rattle.std.specs.Option.{option_map_or}
use Rattle.sync_theory.proofs.World.{same_or_not}
use Rattle.sync_model.specs.Bytes.{Name, Uuid}
use Rattle.sync_model.proofs.Bytes.{bytes_same}
use Rattle.sync_model.specs.Profile.{Profile, Lawful}
use Rattle.sync_model.specs.Snapshots.{Buildable}
use Rattle.sync_model.specs.Messages.{Message, Upload}
use Rattle.sync_model.specs.Clients.{Client, ClientRecord, ClientRefusal, ClientStep, answers, refuse, if_born, if_named, NotNamed, client_of, bind, upload, to_upload, ask, question, take as take_message}
use Rattle.sync_model.specs.Servers.{ServerRecord, server_of, serve}
use Rattle.sync_model.specs.Parts.{Served, served_of, serve_by}
use Rattle.sync_model.specs.Trims.{is_trimmed}
use Rattle.sync_model.specs.Later.{Later, later_ends, later_served, beside, later_after}
use Rattle.sync_model.specs.Worlds.{Node, World, Event, Binds, Uploads, Asks, Delivers, Outcome, Words, says, Replied, Stopped, NoNode, NoMessage, at, put, seek, is_there, stopped, has_name, server_name, arm, message_words, took_words, reply_words, client_moved, client_ends, client_called, client_calls, server_moved, server_ends, server_called, is_node, delivers, message_at, happens, world_after, outcomes}
use Rattle.sync_model.specs.Progress.{Comes, comes_now, comes_later, IsBelowFloor, answered_words, delivered_words, later_words, later_outcomes, after_events}
use Rattle.sync_model.specs.Each.{Each, no_more}
use Rattle.sync_model.proofs.Alike.{IsLow, served_same, served_high, parts_floor}
use Rattle.sync_model.proofs.Written.{serve_writes}
use Rattle.sync_model.proofs.Parts.{serve_is}
use Rattle.sync_model.proofs.Lists.{seek_found, at_put, at_put_other, at_snoc}
use Rattle.sync_model.proofs.Own.{after_append}
use Rattle.sync_model.proofs.Holding.{cut_by}
use Rattle.sync_model.proofs.Later.{Held, full, opened_of, event_held}
use Rattle.sync_model.proofs.Progress.Late.{each_take}
use Rattle.sync_model.proofs.Progress.Above.{Above, IsCall, called_above, takes_called, IsReply, reply_high, serve_replies, uploads_high, asks_high}

yes : {A : Type 0} (b : Bool) (x y : A) → b ≡ true → (if b then x else y) ≡ x
yes true x y e = refl
yes false x y e = cc

no : {A : Type 0} (b : Bool) (x y : A) → b ≡ false → (if b then x else y) ≡ y
no true x y e = cc
no false x y e = refl

some_same : {A : Type 0} (x y : A) → Some x ≡ Some y → x ≡ y
some_same x y e = cc

-- ---- what an event of a client or a delivery changes

-- clients append what calls append, no more nodes are armed, and messages are new only so
pub record Moves (new : Message → Type 0) (w v : World) : Type 0 where
  pub clients : (i : ℕ) (end : Node) → at v.clients i ≡ Some end → (nd : Node) × (at w.clients i ≡ Some nd) × (rs : List ClientRecord) × Each IsCall rs × (end ≡ record nd { records = nd.records ++ rs })
  pub stops : v.stops server_name ≢ None → w.stops server_name ≢ None
  pub messages : (k : ℕ) (m : Message) → at v.messages k ≡ Some m → (at w.messages k ≡ Some m) ⊎ new m

unmoved : (nd : Node) → nd ≡ record nd { records = nd.records ++ [] }
unmoved nd = ap (λ l. record nd { records = l }) (sym (append-nil nd.records))

pub moves_same : (new : Message → Type 0) (w : World) → Moves new w w
moves_same new w = record { clients = λ i end h. (end, h, [], no_more, unmoved end); stops = λ ne. ne; messages = λ k m h. inl h }

moves_client : (new : Message → Type 0) (w : World) (q : ℕ × Node) (rs : List ClientRecord) → at w.clients q.0 ≡ Some q.1 → Each IsCall rs → Moves new w (client_moved w q.0 q.1 rs)
moves_client new w q rs here told = record {
  clients = λ i end h. ⊎_elim
      (λ is.
      let now = at_put w.clients q.0 q.1 (record { name = q.1.name; records = q.1.records ++ rs }) here in
      let h2 : at (put w.clients q.0 (record { name = q.1.name; records = q.1.records ++ rs })) q.0 ≡ Some end = ap (at (put w.clients q.0 (record { name = q.1.name; records = q.1.records ++ rs }))) (sym is) ∙ h in
      (q.1, ap (at w.clients) is ∙ here, rs, told, some_same end (record { name = q.1.name; records = q.1.records ++ rs }) (sym h2 ∙ now)))
      (λ ne. (end, sym (at_put_other w.clients q.0 i (record { name = q.1.name; records = q.1.records ++ rs }) ne) ∙ h, [], no_more, unmoved end))
      (same_or_not i q.0);
  stops = disarmed (bytes_eq server_name q.1.name);
  messages = λ k m h. inl h;
}
  where
    disarmed : (b : Bool) → (if b then None else w.stops server_name) ≢ None → w.stops server_name ≢ None
    disarmed true ne = absurd (ne refl)
    disarmed false ne = ne

moves_message : (new : Message → Type 0) (w v : World) (m : Message) → Moves new w v → new m → Moves new w (record v { messages = v.messages ++ m ∷ [] })
moves_message new w v m a is = record {
  clients = a.clients;
  stops = a.stops;
  messages = λ k x h. ⊎_elim (λ old. a.messages k x old) (λ it. inr (subst new it.1 is)) (at_snoc v.messages m k x h);
}

module _ {I S : Type 0} (p : Profile I S) where
  -- the client of this name answered so
  abbrev pub SentBy : World → Name → (Client I S → ClientStep Message) → Message → Type 0
  SentBy w name call m = (i : ℕ) × (nd : Node) × (at w.clients i ≡ Some nd) × (bytes_eq name nd.name ≡ true) × ((call (client_of p nd.records)).answer ≡ Ok m)

  pub sends : (w : World) (name : Name) (call : Client I S → ClientStep Message) → ((st : Client I S) → Each IsCall (call st).records) → Moves (SentBy w name call) w (client_calls p w name call message_words).world
  sends w name call told = on (seek (has_name name) w.clients) refl
    where
      on : (o : Option (ℕ × Node)) → seek (has_name name) w.clients ≡ o → Moves (SentBy w name call) w (client_called p w call message_words o).world
      on None is = moves_same (SentBy w name call) w
      on (Some q) is = ends (stopped (w.stops q.1.name) (call (client_of p q.1.records)).records) refl
        where
          found : (at w.clients q.0 ≡ Some q.1) × (bytes_eq name q.1.name ≡ true)
          found = let f = seek_found (has_name name) w.clients q is in (f.here, f.passes)

          said : (v : World) → Moves (SentBy w name call) w v → (a : Result Message ClientRefusal) → (call (client_of p q.1.records)).answer ≡ a → Moves (SentBy w name call) w (message_words v a).world
          said v moves (Ok m) a_is = moves_message (SentBy w name call) w v m moves (q.0, q.1, found.0, found.1, a_is)
          said v moves (Err r) a_is = moves

          ends : (r : Option (List ClientRecord)) → stopped (w.stops q.1.name) (call (client_of p q.1.records)).records ≡ r → Moves (SentBy w name call) w (client_ends w q.0 q.1 (call (client_of p q.1.records)) message_words r).world
          ends None r_is = said (client_moved w q.0 q.1 (call (client_of p q.1.records)).records) (moves_client (SentBy w name call) w q (call (client_of p q.1.records)).records found.0 (told (client_of p q.1.records))) (call (client_of p q.1.records)).answer refl
          ends (Some stand) r_is =
              let c = cut_by (w.stops q.1.name) (call (client_of p q.1.records)).records stand r_is in
              moves_client (SentBy w name call) w q stand found.0 (subst (Each IsCall) c.1 (each_take c.0 (told (client_of p q.1.records))))

  -- a call whose words add nothing to the world
  pub quietly : {A : Type 0} (w : World) (name : Name) (call : Client I S → ClientStep A) (words : World → Result A ClientRefusal → Outcome) → ((v : World) (a : Result A ClientRefusal) → (words v a).world ≡ v) → ((st : Client I S) → Each IsCall (call st).records) → Moves (λ x. ⊥) w (client_calls p w name call words).world
  quietly w name call words same called = on (seek (has_name name) w.clients) refl
    where
      on : (o : Option (ℕ × Node)) → seek (has_name name) w.clients ≡ o → Moves (λ x. ⊥) w (client_called p w call words o).world
      on None is = moves_same (λ x. ⊥) w
      on (Some q) is = ends (stopped (w.stops q.1.name) (call (client_of p q.1.records)).records) refl
        where
          here : at w.clients q.0 ≡ Some q.1
          here = (seek_found (has_name name) w.clients q is).here

          ends : (r : Option (List ClientRecord)) → stopped (w.stops q.1.name) (call (client_of p q.1.records)).records ≡ r → Moves (λ x. ⊥) w (client_ends w q.0 q.1 (call (client_of p q.1.records)) words r).world
          ends None r_is = subst (Moves (λ x. ⊥) w) (sym (same (client_moved w q.0 q.1 (call (client_of p q.1.records)).records) (call (client_of p q.1.records)).answer)) (moves_client (λ x. ⊥) w q (call (client_of p q.1.records)).records here (called (client_of p q.1.records)))
          ends (Some stand) r_is =
              let c = cut_by (w.stops q.1.name) (call (client_of p q.1.records)).records stand r_is in
              moves_client (λ x. ⊥) w q stand here (subst (Each IsCall) c.1 (each_take c.0 (called (client_of p q.1.records))))

  pub hears : (w : World) (name : Name) (m : Message) → Moves (λ x. ⊥) w (client_calls p w name (λ c. take_message p c m) took_words).world
  hears w name m = quietly w name (λ c. take_message p c m) took_words said (λ c. takes_called p c m)
    where
      said : (v : World) (a : Result ℕ ClientRefusal) → (took_words v a).world ≡ v
      said v (Ok n) = refl
      said v (Err r) = refl

  pub hears_one : (w : World) (k : ℕ) (to : Name) → bytes_eq to server_name ≡ false → Moves (λ x. ⊥) w (happens p w (Delivers k to)).world
  hears_one w k to off = go (is_node w to) (message_at w k)
    where
      some : (b : Bool) (m : Message) → b ≡ false → Moves (λ x. ⊥) w (if b then server_called p w m else client_calls p w to (λ c. take_message p c m) took_words).world
      some true m e = cc
      some false m e = hears w to m

      go : (a : Bool) (o : Option Message) → Moves (λ x. ⊥) w (if a then delivers p w to o else says w NoNode).world
      go true None = moves_same (λ x. ⊥) w
      go true (Some m) = some (bytes_eq to server_name) m off
      go false o = moves_same (λ x. ⊥) w

  -- what comes to the server
  abbrev brought : World → Option Message → Outcome
  brought w None = says w NoMessage
  brought w (Some m) = server_called p w m

  brought_is : (w : World) (k : ℕ) (to : Name) → bytes_eq to server_name ≡ true → (o : Option Message) → message_at w k ≡ o → happens p w (Delivers k to) ≡ brought w o
  brought_is w k to is o o_is =
      yes (is_node w to) (delivers p w to (message_at w k)) (says w NoNode) (either (bytes_eq to server_name) (is_there (seek (has_name to) w.clients)) is) ∙ ap (delivers p w to) o_is ∙ on o
    where
      either : (a b : Bool) → a ≡ true → (a || b) ≡ true
      either true b e = refl
      either false b e = cc

      on : (o : Option Message) → delivers p w to o ≡ brought w o
      on None = refl
      on (Some m) = yes (bytes_eq to server_name) (server_called p w m) (client_calls p w to (λ c. take_message p c m) took_words) is

  -- ---- calls that append nothing

  pub bind_told : (st : Client I S) → Each IsCall (bind st).records
  bind_told st = on st.id
    where
      on : (o : Option Uuid) → Each IsCall (if_born o (λ id. answers (Rattle.sync_model.specs.Messages.Bind id))).records
      on None = no_more
      on (Some id) = no_more

  pub named_told : (st : Client I S) (m : Message) → Each IsCall (if_named st (answers m)).records
  named_told st m = on st.id (st.ident == 0)
    where
      on : (o : Option Uuid) (b : Bool) → Each IsCall (if_born o (λ id. if b then refuse NotNamed else answers m)).records
      on None b = no_more
      on (Some id) true = no_more
      on (Some id) false = no_more

  pub named_says : (st : Client I S) (m x : Message) → (if_named st (answers m)).answer ≡ Ok x → m ≡ x
  named_says st m x h = on st.id (st.ident == 0) h
    where
      on : (o : Option Uuid) (b : Bool) → (if_born o (λ id. if b then refuse NotNamed else answers m)).answer ≡ Ok x → m ≡ x
      on None b e = cc
      on (Some id) true e = cc
      on (Some id) false e = cc

  bind_says : (st : Client I S) (floor : ℕ) (x : Message) → (bind st).answer ≡ Ok x → IsLow floor x → ⊥
  bind_says st floor x h = on st.id h
    where
      on : (o : Option Uuid) → (if_born o (λ id. answers (Rattle.sync_model.specs.Messages.Bind id))).answer ≡ Ok x → IsLow floor x → ⊥
      on None e = cc
      on (Some id) e = let same : Rattle.sync_model.specs.Messages.Bind id ≡ x = cc in subst (λ m. IsLow floor m → ⊥) same (λ l. l)

  -- ---- one event

  module _ {Fits Bounded Old : S → Type 0} (law : Lawful p Fits) (built : Buildable p Fits Bounded Old) (q : Words → Type 0) (armed below : Type 0) (stop : armed → q Stopped) (of : Name → Type 0) (floor first : ℕ) where
    -- an event of a client that takes part, or the delivery of a message made since
    abbrev pub TakesPart : Event I → Type 0
    TakesPart (Binds name) = Unit {0}
    TakesPart (Uploads name) = of name
    TakesPart (Asks name) = of name
    TakesPart (Delivers k to) = first < k
    TakesPart e = ⊥

    -- those who take part are above the floor, and so is what they sent
    pub record Along (l : Later I S) : Type 0 where
      pub held : Held p l
      pub at_floor : l.kept.floor ≡ floor
      pub arms : l.world.stops server_name ≢ None → armed
      pub above : (i : ℕ) (nd : Node) → at l.world.clients i ≡ Some nd → of nd.name → Above p floor (client_of p nd.records) ⊎ below
      pub high : (k : ℕ) (m : Message) → first ≤ k → at l.world.messages k ≡ Some m → (IsLow floor m → ⊥) ⊎ below

    onward : (l l2 : Later I S) (new : Message → Type 0) → Along l → Held p l2 → l2.kept.floor ≡ floor → Moves new l.world l2.world → ((m : Message) → new m → (IsLow floor m → ⊥) ⊎ below) → Along l2
    onward l l2 new a held at_floor moves fine = record {
      held = held;
      at_floor = at_floor;
      arms = λ ne. a.arms (moves.stops ne);
      above = λ i end h part.
          let x = moves.clients i end h in
          let named : of x.0.name = subst (λ (z : Node). of z.name) x.4 part in
          ⊎_elim
          (λ up. inl (subst (λ (z : Node). Above p floor (client_of p z.records)) (sym x.4) (subst (Above p floor) (sym (after_append p _ x.0.records x.2)) (called_above p floor x.2 (client_of p x.0.records) x.3 up))))
          (λ b. inr b)
          (a.above i x.0 x.1 named);
      high = λ k m le h. ⊎_elim (λ old. a.high k m le old) (λ n. fine m n) (moves.messages k m h);
    }

    -- the exception comes, or all is as with the whole history
    abbrev pub Follows : Later I S → Event I → Type 0
    Follows l e = (q (later_words p l e) ⊎ IsBelowFloor below (later_words p l e)) ⊎ ((later_words p l e ≡ (happens p l.world e).words) × ((later_after p l e).world ≡ (happens p l.world e).world) × Along (later_after p l e))

    -- who sent it takes part
    sender : (l : Later I S) → Along l → (name : Name) → of name → (i : ℕ) (nd : Node) → at l.world.clients i ≡ Some nd → bytes_eq name nd.name ≡ true → Above p floor (client_of p nd.records) ⊎ below
    sender l a name part i nd h is = a.above i nd h (subst of (bytes_same name nd.name is) part)

    to_server : (l : Later I S) → Along l → (k : ℕ) (to : Name) → first < k → bytes_eq to server_name ≡ true → (o : Option Message) → message_at l.world k ≡ o → Follows l (Delivers k to)
    to_server l a k to lt is None o_is =
        let words : later_words p l (Delivers k to) ≡ NoMessage = yes (bytes_eq to server_name) (delivered_words p l (message_at l.world k)) _ is ∙ ap (delivered_words p l) o_is in
        let same : later_after p l (Delivers k to) ≡ l = yes (bytes_eq to server_name) (option_map_or (later_served p l.world l.kept) (message_at l.world k) l) (beside p l (Delivers k to)) is ∙ ap (λ o. option_map_or (later_served p l.world l.kept) o l) o_is in
        let plain = brought_is l.world k to is None o_is in
        inr (words ∙ sym (ap (λ o. o.words) plain), ap (λ z. z.world) same ∙ sym (ap (λ o. o.world) plain), subst Along (sym same) a)
    to_server l a k to lt is (Some m) o_is = on (stopped (l.world.stops server_name) (serve_by p l.kept m).records) refl
      where
        did : Served I S
        did = serve_by p l.kept m

        by_parts : later_after p l (Delivers k to) ≡ later_served p l.world l.kept m
        by_parts = yes (bytes_eq to server_name) (option_map_or (later_served p l.world l.kept) (message_at l.world k) l) (beside p l (Delivers k to)) is ∙ ap (λ o. option_map_or (later_served p l.world l.kept) o l) o_is

        words : later_words p l (Delivers k to) ≡ answered_words l.world (serve_by p l.kept m) (stopped (l.world.stops server_name) (serve_by p l.kept m).records)
        words = yes (bytes_eq to server_name) (delivered_words p l (message_at l.world k)) _ is ∙ ap (delivered_words p l) o_is

        armed_here : (o : Option Rattle.sync_model.specs.Worlds.Stop) (rs stand : List ServerRecord) → stopped o rs ≡ Some stand → o ≢ None
        armed_here None rs stand e = cc
        armed_here (Some s) rs stand e = λ f. cc

        whole : serve_by p (full p l.world) m ≡ served_of p (server_of p l.world.server) (serve p (server_of p l.world.server) m)
        whole = serve_is p law (server_of p l.world.server) (opened_of p law built l.world a.held.opens) m

        same : (serve_by p l.kept m).records ≡ (serve_by p (full p l.world) m).records → (serve_by p l.kept m).answer ≡ (serve_by p (full p l.world) m).answer → stopped (l.world.stops server_name) (serve_by p l.kept m).records ≡ None → Follows l (Delivers k to)
        same records answer none =
            let rs : (serve_by p l.kept m).records ≡ (serve p (server_of p l.world.server) m).records = records ∙ ap (λ z. z.records) whole in
            let said : (serve_by p l.kept m).answer ≡ (serve p (server_of p l.world.server) m).answer = answer ∙ ap (λ z. z.answer) whole in
            let plain : happens p l.world (Delivers k to) ≡ reply_words (server_moved l.world (serve_by p l.kept m).records) (serve_by p l.kept m).answer =
            brought_is l.world k to is (Some m) o_is
            ∙ ap (server_ends l.world (serve p (server_of p l.world.server) m)) (ap (stopped (l.world.stops server_name)) (sym rs) ∙ none)
            ∙ ap₂ (λ x y. reply_words (server_moved l.world x) y) (sym rs) (sym said) in
            let after : later_after p l (Delivers k to) ≡ record { world = (reply_words (server_moved l.world (serve_by p l.kept m).records) (serve_by p l.kept m).answer).world; kept = (serve_by p l.kept m).parts } = by_parts ∙ ap (later_ends p l.world l.kept (serve_by p l.kept m)) none in
            let writes = serve_writes p l.kept m in
            let at_floor : (serve_by p l.kept m).parts.floor ≡ floor = ap (λ z. z.floor) (sym writes.gives) ∙ parts_floor p (serve_by p l.kept m).records l.kept ∙ a.at_floor in
            let moves : Moves IsReply l.world (reply_words (server_moved l.world (serve_by p l.kept m).records) (serve_by p l.kept m).answer).world = record {
              clients = λ i end h. (end, h, [], no_more, unmoved end);
              stops = λ ne. absurd (ne refl);
              messages = λ j x h. ⊎_elim (λ old. inl old) (λ it. inr (subst IsReply (sym said ∙ it.1) (serve_replies p (server_of p l.world.server) m))) (at_snoc l.world.messages (serve_by p l.kept m).answer j x h);
            } in
            inr (
              words ∙ ap (answered_words l.world (serve_by p l.kept m)) none ∙ sym (ap (λ o. o.words) plain),
              ap (λ z. z.world) after ∙ sym (ap (λ o. o.world) plain),
              onward l (later_after p l (Delivers k to)) IsReply a (event_held p law built l a.held (Delivers k to)) (ap (λ z. z.kept.floor) after ∙ at_floor) (subst (λ z. Moves IsReply l.world z.world) (sym after) moves) (λ x r. inl (reply_high floor x r)),
            )

        sent : (k : ℕ) → first < k → message_at l.world k ≡ Some m → (IsLow floor m → ⊥) ⊎ below
        sent zero gt e = absurd (omega arith)
        sent (suc j) gt e = a.high j m (omega arith) e

        on : (o : Option (List ServerRecord)) → stopped (l.world.stops server_name) (serve_by p l.kept m).records ≡ o → Follows l (Delivers k to)
        on (Some stand) none = inl (inl (subst q (sym (words ∙ ap (answered_words l.world (serve_by p l.kept m)) none)) (stop (a.arms (armed_here (l.world.stops server_name) (serve_by p l.kept m).records stand none)))))
        on None none = ⊎_elim
            (λ h. let e = served_high p (full p l.world) l.kept a.held.less m (λ low. h (subst (λ f. IsLow f m) a.at_floor low)) in same e.0 e.1 none)
            (λ b. trimmed_or (is_trimmed (serve_by p l.kept m).answer) refl b)
            (sent k lt o_is)
          where
            trimmed_or : (t : Bool) → is_trimmed (serve_by p l.kept m).answer ≡ t → below → Follows l (Delivers k to)
            trimmed_or true t_is b = inl (inr (subst (IsBelowFloor below) (sym (words ∙ ap (answered_words l.world (serve_by p l.kept m)) none)) (t_is, b)))
            trimmed_or false t_is b = let e = served_same p (full p l.world) l.kept a.held.less m t_is in same e.0 e.1 none

    pub follows : (l : Later I S) → Along l → (e : Event I) → TakesPart e → Follows l e
    follows l a (Binds name) part =
        inr (refl, refl, onward l (beside p l (Binds name)) (SentBy l.world name bind) a (event_held p law built l a.held (Binds name)) a.at_floor (sends l.world name bind bind_told) (λ m s. inl (bind_says (client_of p s.1.records) floor m s.4)))
    follows l a (Uploads name) part =
        inr (
          refl,
          refl,
          onward l (beside p l (Uploads name)) (SentBy l.world name (upload p)) a (event_held p law built l a.held (Uploads name)) a.at_floor (sends l.world name (upload p) (λ st. named_told st (Upload st.ident (to_upload p st))))
              (λ m s. ⊎_elim
              (λ up. inl (subst (λ x. IsLow floor x → ⊥) (named_says (client_of p s.1.records) (Upload (client_of p s.1.records).ident (to_upload p (client_of p s.1.records))) m s.4) (uploads_high p floor (client_of p s.1.records) up)))
              (λ b. inr b)
              (sender l a name part s.0 s.1 s.2 s.3)),
        )
    follows l a (Asks name) part =
        inr (
          refl,
          refl,
          onward l (beside p l (Asks name)) (SentBy l.world name ask) a (event_held p law built l a.held (Asks name)) a.at_floor (sends l.world name ask (λ st. named_told st (question st st.subset)))
              (λ m s. ⊎_elim
              (λ up. inl (subst (λ x. IsLow floor x → ⊥) (named_says (client_of p s.1.records) (question (client_of p s.1.records) (client_of p s.1.records).subset) m s.4) (asks_high p floor (client_of p s.1.records) (client_of p s.1.records).subset up)))
              (λ b. inr b)
              (sender l a name part s.0 s.1 s.2 s.3)),
        )
    follows l a (Delivers k to) lt = on (bytes_eq to server_name) refl
      where
        on : (b : Bool) → bytes_eq to server_name ≡ b → Follows l (Delivers k to)
        on true is = to_server l a k to lt is (message_at l.world k) refl
        on false is =
            let words : later_words p l (Delivers k to) ≡ (happens p l.world (Delivers k to)).words = no (bytes_eq to server_name) (delivered_words p l (message_at l.world k)) _ is in
            let after : later_after p l (Delivers k to) ≡ beside p l (Delivers k to) = no (bytes_eq to server_name) (option_map_or (later_served p l.world l.kept) (message_at l.world k) l) (beside p l (Delivers k to)) is in
            inr (words, ap (λ z. z.world) after, onward l (later_after p l (Delivers k to)) (λ x. ⊥) a (event_held p law built l a.held (Delivers k to)) (ap (λ z. z.kept.floor) after ∙ a.at_floor) (subst (λ z. Moves (λ x. ⊥) l.world z.world) (sym after) (hears_one l.world k to is)) (λ m s. absurd s))
    follows l a e part = absurd part

    -- ---- several

    pub data AllPart : List (Event I) → Type 0 where
      no_part : AllPart []
      a_part : {e : Event I} {es : List (Event I)} → TakesPart e → AllPart es → AllPart (e ∷ es)

    abbrev pub Bad : Words → Type 0
    Bad words = q words ⊎ IsBelowFloor below words

    pub alongside : (es : List (Event I)) (l : Later I S) → Along l → AllPart es
        → Comes Bad (later_outcomes p l es) ⊎ ((later_outcomes p l es ≡ outcomes p l.world es) × ((after_events p l es).world ≡ world_after p l.world es))
    alongside [] l a part = inr (refl, refl)
    alongside (e ∷ es) l a (a_part h part) = ⊎_elim
        (λ bad. inl (comes_now bad))
        (λ f. ⊎_elim
        (λ c. inl (comes_later c))
        (λ r. inr (ap₂ (λ x xs. x ∷ xs) f.0 (r.0 ∙ ap (λ v. outcomes p v es) f.1), r.1 ∙ ap (λ v. world_after p v es) f.1))
        (alongside es (later_after p l e) f.2 part))
        (follows l a e h)
