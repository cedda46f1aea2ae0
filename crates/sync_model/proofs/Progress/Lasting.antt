-- A world whose clients make harmless changes stays one, whatever they send, get or open anew.
use Rattle.std.proofs.Common.{◌≡◌, ◌≢◌, ⊎_elim, ℕ, zero, suc, ◌+◌, ◌-◌, ◌≤◌, Bool, true, false, not, List, [], ◌∷◌, ◌++◌, Option, Some, None, Result, Ok, Err, refl, sym, ap, ◌∙◌, subst, arith, if◌then◌else◌, ◌==◌, length, drop, nat_lt, ◌&&◌}
use Rattle.std.specs.Prelude.{bytes_eq}
use Rattle.sync_theory.proofs.Logs.{length_snoc}
use Rattle.sync_theory.proofs.Server.{test_false}
use Rattle.sync_theory.proofs.World.{same_or_not}
use Rattle.sync_model.specs.Bytes.{Name, Uuid}
use Rattle.sync_model.specs.Profile.{Profile, Lawful, apply_all, is_small, needs, first_need, all_admitted, first_outside}
use Rattle.sync_model.specs.Snapshots.{Buildable}
use Rattle.sync_model.specs.Messages.{Message, Bind, Ident, Upload, Ask, Download, Refused, Stored, Ask2, Retire, Retired, AskTables}
use Rattle.sync_model.specs.Clients.{Client, ClientRecord, Made, ClientRefusal, ClientStep, TooLarge, NumbersFull, OldForm, NotSubscribed, NotMine, IdentDiffers, WasRefused, Gap, answers, appends, refuse, if_born, if_named, take_ident, take_entries, take_born, take as take_message, commit_applied, commit_born, commit, upload, to_upload, ask, question, ok_list, client_of, after_record, after_records}
use Rattle.sync_model.specs.Servers.{Server, ServerStep, Settled, IdentsFull, NoSuchIdent, AheadOfHistory, SelfRetire, RetiredBy, server_of, after_all, place_of, is_given, heir_of, replies, refuses, retire_for, marks_new, marking, serve, serve_changes, if_there, entries_from, download, download_first, download_tables}
use Rattle.sync_model.specs.Worlds.{Node, World, Event, Edits, Uploads, Asks, Delivers, Restarts, Outcome, NoNode, NoMessage, says, Words, at, put, seek, stopped, has_name, ident_is, server_name, message_words, made_words, took_words, client_moved, client_ends, client_called, client_calls, server_called, server_ends, server_moved, reply_words, is_node, delivers, message_at, happens, is_own}
use Rattle.sync_model.specs.Each.{Each, no_more, and_each}
use Rattle.sync_model.specs.Harmless.{IsHarmless, IsHarmlessClient, IsHarmlessEvent, made_by_event}
use Rattle.sync_model.specs.Progress.{made_by_all}
use Rattle.sync_model.proofs.Limits.{each_append}
use Rattle.sync_model.proofs.Lists.{class, seek_found, seek_map, map_put, at_put, at_put_other}
use Rattle.sync_model.proofs.Own.{after_append}
use Rattle.sync_model.proofs.Sim.{uuids, uuid_of}
use Rattle.sync_model.proofs.Holding.{Holds, server_append}
use Rattle.sync_model.proofs.Calling.{named_as}
use Rattle.sync_model.proofs.Progress.Serves.{SameClient, has_served, has_taken}
use Rattle.sync_model.proofs.Progress.Valid.{Valid}

some_same : {A : Type 0} (x y : A) → Some x ≡ Some y → x ≡ y
some_same x y e = cc

module _ {I S : Type 0} (p : Profile I S) (of : ℕ → ℕ → List I → Type 0) where
  -- ---- what a call leaves of a client

  record Keeps (c d : Client I S) (n : ℕ) : Type 0 where
    id : d.id ≡ c.id
    ident : d.ident ≡ c.ident
    subset : d.subset ≡ c.subset
    made : Each (λ o. of c.ident 0 o.instrs) c.made → Each (λ o. of c.ident 0 o.instrs) d.made
    few : length d.made ≤ length c.made + n

  keeps_none : (c : Client I S) (n : ℕ) → Keeps c c n
  keeps_none c n = record { id = refl; ident = refl; subset = refl; made = λ f. f; few = omega arith }

  keeps_same : (c d : Client I S) → SameClient p c d → Keeps c d 0
  keeps_same c d s = let l = ap length s.made in record { id = s.id; ident = s.ident; subset = s.subset; made = λ f. subst (Each (λ o. of c.ident 0 o.instrs)) (sym s.made) f; few = omega arith }

  named_keeps : (c : Client I S) (m : Message) → Keeps c (after_records p c (if_named c (answers m)).records) 0
  named_keeps c m = on c.id (c.ident == 0)
    where
      on : (o : Option Uuid) (b : Bool) → Keeps c (after_records p c (if_born o (λ id. if b then refuse Rattle.sync_model.specs.Clients.NotNamed else answers m)).records) 0
      on None b = keeps_none c 0
      on (Some id) true = keeps_none c 0
      on (Some id) false = keeps_none c 0

  module _ {Fits : S → Type 0} (law : Lawful p Fits) where
    commit_keeps : (c : Client I S) (ms : ℕ) (edits : List I) → of c.ident 0 edits → Keeps c (after_records p c (commit p c ms edits).records) 1
    commit_keeps c ms edits good = born_ c.id
      where
        made_ : is_small p edits ≡ true → Keeps c (after_record p c (Made (suc (length c.made)) ms (p.spell edits))) 1
        made_ small =
            let l = length_snoc c.made (record { base = c.cursor; number = suc (length c.made); ms = ms; instrs = ok_list (p.unspell (p.spell edits)) }) in
            record { id = refl; ident = refl; subset = refl; made = λ f. each_append f (and_each (subst (λ r. of c.ident 0 (ok_list r)) (sym (law.spelled edits small)) good) no_more); few = omega arith }

        applied_ : is_small p edits ≡ true → (r : Result S (ℕ × ℕ)) → Keeps c (after_records p c (commit_applied (suc (length c.made)) (Made (suc (length c.made)) ms (p.spell edits)) r).records) 1
        applied_ small (Ok s) = made_ small
        applied_ small (Err b) = keeps_none c 1

        tests : (a b d e : Bool) → is_small p edits ≡ a → Keeps c (after_records p c (if not a then refuse TooLarge else (if b then refuse NumbersFull else (if d then refuse (OldForm (first_need p edits)) else (if not e then refuse (NotSubscribed (first_outside p c.subset edits)) else commit_applied (suc (length c.made)) (Made (suc (length c.made)) ms (p.spell edits)) (apply_all p edits c.objects))))).records) 1
        tests false b d e a_is = keeps_none c 1
        tests true true d e a_is = keeps_none c 1
        tests true false true e a_is = keeps_none c 1
        tests true false false false a_is = keeps_none c 1
        tests true false false true a_is = applied_ a_is (apply_all p edits c.objects)

        born_ : (o : Option Uuid) → Keeps c (after_records p c (if_born o (λ id. commit_born p c ms edits)).records) 1
        born_ None = keeps_none c 1
        born_ (Some id) = tests (is_small p edits) (length c.made == p.full) (needs p edits && not c.second) (all_admitted p c.subset edits) refl

  take_keeps : (c : Client I S) → c.ident ≢ 0 → (m : Message) → Keeps c (after_records p c (take_message p c m).records) 0
  take_keeps c ne m = born_ c.id
    where
      either : (b : Bool) (x y : ClientStep ℕ) → Keeps c (after_records p c x.records) 0 → Keeps c (after_records p c y.records) 0 → Keeps c (after_records p c (if b then x else y).records) 0
      either true x y f g = f
      either false x y f g = g

      ident_ : (n : ℕ) → Keeps c (after_records p c (take_ident c n).records) 0
      ident_ n = subst (λ b. Keeps c (after_records p c (if b then appends (Rattle.sync_model.specs.Clients.Named n) c.cursor else (if c.ident == n then answers c.cursor else refuse (IdentDiffers c.ident n))).records) 0) (sym (test_false c.ident 0 ne)) (either (c.ident == n) (answers c.cursor) (refuse (IdentDiffers c.ident n)) (keeps_none c 0) (keeps_none c 0))

      on : (m : Message) (id : Uuid) → Keeps c (after_records p c (take_born p c m id).records) 0
      on (Bind u) id = keeps_none c 0
      on (Upload d changes) id = keeps_none c 0
      on (Ask d cursor settled) id = keeps_none c 0
      on (Ask2 d cursor settled) id = keeps_none c 0
      on (Retire d by) id = keeps_none c 0
      on (Retired d by number) id = keeps_none c 0
      on (AskTables d cursor settled second tables) id = keeps_none c 0
      on (Ident u d) id = either (bytes_eq u id) (take_ident c d) (refuse NotMine) (ident_ d) (keeps_none c 0)
      on (Stored d number) id = either (d == c.ident) (answers c.cursor) (refuse NotMine) (keeps_none c 0) (keeps_none c 0)
      on (Refused d number code place) id = either (d == c.ident) (refuse (WasRefused number code)) (refuse NotMine) (keeps_none c 0) (keeps_none c 0)
      on (Download d from entries) id =
          either (d == c.ident) (if nat_lt c.cursor from then refuse (Gap c.cursor from) else take_entries p c (drop (c.cursor - from) entries)) (refuse NotMine)
          (either (nat_lt c.cursor from) (refuse (Gap c.cursor from)) (take_entries p c (drop (c.cursor - from) entries)) (keeps_none c 0) (keeps_same c (after_records p c (take_entries p c (drop (c.cursor - from) entries)).records) (has_taken p (drop (c.cursor - from) entries) c).same))
          (keeps_none c 0)

      born_ : (o : Option Uuid) → Keeps c (after_records p c (if_born o (take_born p c m)).records) 0
      born_ None = keeps_none c 0
      born_ (Some id) = on m id

  -- ---- the server gives no ident more

  marks_ids : (s : Server I) (c mark cursor settled : ℕ) (m : Message) → (after_all p s (marking c mark cursor settled m).records).ids ≡ s.ids
  marks_ids s c mark cursor settled m = on (marks_new mark cursor settled m)
    where
      on : (t : Bool) → (after_all p s (if t then Settled c settled ∷ [] else [])).ids ≡ s.ids
      on true = refl
      on false = refl

  serve_ids : (s : Server I) (m : Message) → ((u : Uuid) → m ≡ Bind u → place_of u s.ids ≢ 0) → (after_all p s (serve p s m).records).ids ≡ s.ids
  serve_ids s m known = on m known
    where
      same_if : (b : Bool) (x y : ServerStep) → (after_all p s x.records).ids ≡ s.ids → (after_all p s y.records).ids ≡ s.ids → (after_all p s (if b then x else y).records).ids ≡ s.ids
      same_if true x y f g = f
      same_if false x y f g = g

      there_ : (c cursor settled : ℕ) (go : List (Rattle.sync_theory.specs.Changesets.Changeset I) → ServerStep) → (after_all p s (if_there p s c cursor settled go).records).ids ≡ s.ids
      there_ c cursor settled go =
          same_if (not (is_given s c)) (refuses c 0 (NoSuchIdent (length s.ids))) _ refl
          (same_if (nat_lt (length s.log) cursor) (refuses c 0 (AheadOfHistory (length s.log))) (marking c (s.marks c) cursor settled (go (entries_from p s.log (length s.log - cursor) cursor)).answer) refl (marks_ids s c (s.marks c) cursor settled (go (entries_from p s.log (length s.log - cursor) cursor)).answer))

      retires : (c by : ℕ) (o : Option ℕ) → (after_all p s (retire_for s c by o).records).ids ≡ s.ids
      retires c by None = refl
      retires c by (Some other) = same_if (other == by) (replies (Retired c by (Rattle.sync_model.specs.Servers.count s c))) (refuses by 0 (RetiredBy other)) refl refl

      on : (m : Message) → ((u : Uuid) → m ≡ Bind u → place_of u s.ids ≢ 0) → (after_all p s (serve p s m).records).ids ≡ s.ids
      on (Bind u) known = subst (λ b. (after_all p s (if not b then replies (Ident u (place_of u s.ids)) else (if length s.ids == p.full then refuses 0 0 (IdentsFull (length s.ids)) else record { records = Rattle.sync_model.specs.Servers.Client u ∷ []; answer = Ident u (suc (length s.ids)) })).records).ids ≡ s.ids) (sym (test_false (place_of u s.ids) 0 (known u refl))) refl
      on (Upload c hs) known = same_if (is_given s c) (serve_changes p s c hs) (refuses c 0 (NoSuchIdent (length s.ids))) (has_served p hs s c).ids refl
      on (Ask c cursor settled) known = there_ c cursor settled (download_first p c cursor)
      on (Ask2 c cursor settled) known = there_ c cursor settled (download p c cursor)
      on (AskTables c cursor settled second tables) known = there_ c cursor settled (download_tables p second tables c cursor)
      on (Retire c by) known = same_if (not (is_given s c && is_given s by)) (refuses by 0 (NoSuchIdent (length s.ids))) _ refl (same_if (c == by) (refuses by 0 (SelfRetire c)) (retire_for s c by (heir_of c s.retired)) refl (retires c by (heir_of c s.retired)))
      on (Ident u c) known = refl
      on (Download c from es) known = refl
      on (Stored c number) known = refl
      on (Refused c number code place) known = refl
      on (Retired c by number) known = refl

  -- ---- a world

  put_made : (cls : List Node) (i : ℕ) (nd nd2 : Node) (n : ℕ) → at cls i ≡ Some nd → length (client_of p nd2.records).made ≤ length (client_of p nd.records).made + n → made_by_all p (put cls i nd2) ≤ made_by_all p cls + n
  put_made [] i nd nd2 n e le = cc
  put_made (x ∷ cls) zero nd nd2 n e le = let same : x ≡ nd = cc in let m = ap (λ (y : Node). length (client_of p y.records).made) same in omega arith
  put_made (x ∷ cls) (suc i) nd nd2 n e le = let h = put_made cls i nd nd2 n e le in omega arith

  own_is : (w : World) (c : ℕ) → is_own p w c ≡ class (server_of p w.server).ids (uuids p w.clients) c
  own_is w c = sym (seek_map (uuid_of p) (ident_is (server_of p w.server).ids c) w.clients)

  none_armed : (b : Bool) (o : Option Rattle.sync_model.specs.Worlds.Stop) → o ≡ None → (if b then None else o) ≡ None
  none_armed true o e = refl
  none_armed false o e = e

  -- another list of messages changes nothing of it
  with_messages : {n : ℕ} (w : World) (ms : List Message) → IsHarmless p of n w → IsHarmless p of n (record w { messages = ms })
  with_messages w ms h = record { unarmed = h.unarmed; own = h.own; clients = h.clients; few = h.few }

  moved : (most n : ℕ) (w : World) (h : IsHarmless p of most w) (i : ℕ) (nd : Node) (rs : List ClientRecord) → at w.clients i ≡ Some nd → Keeps (client_of p nd.records) (after_records p (client_of p nd.records) rs) n → IsHarmless p of (most + n) (client_moved w i nd rs)
  moved most n w h i nd rs here keeps =
      let nd2 : Node = record { name = nd.name; records = nd.records ++ rs } in
      let client : client_of p (nd.records ++ rs) ≡ after_records p (client_of p nd.records) rs = after_append p _ nd.records rs in
      let id : uuid_of p (record { name = nd.name; records = nd.records ++ rs }) ≡ uuid_of p nd = ap (λ (c : Client I S). c.id) client ∙ keeps.id in
      let long = ap (λ (c : Client I S). length c.made) client in
      let few_ = keeps.few in
      let all = put_made w.clients i nd (record { name = nd.name; records = nd.records ++ rs }) n here (omega arith) in
      let some_ = h.few in
      record {
        unarmed = λ x. none_armed (bytes_eq x nd.name) (w.stops x) (h.unarmed x);
        own = λ c ne le. own_is (client_moved w i nd rs) c ∙ ap (λ us. class (server_of p w.server).ids us c) (map_put (uuid_of p) w.clients i nd (record { name = nd.name; records = nd.records ++ rs }) here id) ∙ sym (own_is w c) ∙ h.own c ne le;
        clients = λ j x there. ⊎_elim
            (λ is.
            let it : nd2 ≡ x = some_same (record { name = nd.name; records = nd.records ++ rs }) x (sym (at_put w.clients i nd (record { name = nd.name; records = nd.records ++ rs }) here) ∙ ap (at (put w.clients i (record { name = nd.name; records = nd.records ++ rs }))) (sym is) ∙ there) in
            let f = h.clients i nd here in
            subst (IsHarmlessClient p of) it (record {
              named = λ z. f.named (sym keeps.ident ∙ sym (ap (λ (c : Client I S). c.ident) client) ∙ z);
              tables = ap (λ (c : Client I S). c.subset) client ∙ keeps.subset ∙ f.tables;
              made = subst (λ (c : Client I S). Each (λ o. of c.ident 0 o.instrs) c.made) (sym client) (subst (λ k. Each (λ o. of k 0 o.instrs) (after_records p (client_of p nd.records) rs).made) (sym keeps.ident) (keeps.made f.made));
            }))
            (λ ne. h.clients j x (sym (at_put_other w.clients i j (record { name = nd.name; records = nd.records ++ rs }) ne) ∙ there))
            (same_or_not j i);
        few = omega arith;
      }

  stopped_none : {R : Type 0} (o : Option Rattle.sync_model.specs.Worlds.Stop) (rs : List R) → o ≡ None → stopped o rs ≡ None
  stopped_none None rs e = refl
  stopped_none (Some s) rs e = cc

  more_room : (most n : ℕ) (w : World) → IsHarmless p of most w → IsHarmless p of (most + n) w
  more_room most n w h = let f = h.few in record { unarmed = h.unarmed; own = h.own; clients = h.clients; few = omega arith }

  -- a client's call
  calls : {A : Type 0} (most n : ℕ) (w : World) (h : IsHarmless p of most w) (name : Name) (call : Client I S → ClientStep A) (words : World → Result A ClientRefusal → Outcome)
      → ((v : World) (a : Result A ClientRefusal) → IsHarmless p of (most + n) v → IsHarmless p of (most + n) (words v a).world)
      → ((i : ℕ) (nd : Node) → at w.clients i ≡ Some nd → has_name name nd ≡ true → Keeps (client_of p nd.records) (after_records p (client_of p nd.records) (call (client_of p nd.records)).records) n)
      → IsHarmless p of (most + n) (client_calls p w name call words).world
  calls most n w h name call words said keeps = on (seek (has_name name) w.clients) refl
    where
      on : (o : Option (ℕ × Node)) → seek (has_name name) w.clients ≡ o → IsHarmless p of (most + n) (client_called p w call words o).world
      on None is = more_room most n w h
      on (Some q) is =
          let f = seek_found (has_name name) w.clients q is in
          subst (λ o. IsHarmless p of (most + n) (client_ends w q.0 q.1 (call (client_of p q.1.records)) words o).world) (sym (stopped_none (w.stops q.1.name) (call (client_of p q.1.records)).records (h.unarmed q.1.name)))
          (said (client_moved w q.0 q.1 (call (client_of p q.1.records)).records) (call (client_of p q.1.records)).answer (moved most n w h q.0 q.1 (call (client_of p q.1.records)).records f.here (keeps q.0 q.1 f.here f.passes)))

  module _ {Fits Bounded Old : S → Type 0} (law : Lawful p Fits) (built : Buildable p Fits Bounded Old) where
    -- a message comes to the server
    comes : (most : ℕ) (w : World) → Valid p w → (h : IsHarmless p of most w) → (k : ℕ) (m : Message) → at w.messages k ≡ Some m → IsHarmless p of most (server_called p w m).world
    comes most w reached h k m there =
        subst (λ o. IsHarmless p of most (server_ends w (serve p (server_of p w.server) m) o).world) (sym (stopped_none (w.stops server_name) (serve p (server_of p w.server) m).records (h.unarmed server_name)))
        (record {
          unarmed = λ x. none_armed (bytes_eq x server_name) (w.stops x) (h.unarmed x);
          own = λ c ne le. own_is (server_moved w (serve p (server_of p w.server) m).records) c ∙ ap (λ l. class l (uuids p w.clients) c) same ∙ sym (own_is w c) ∙ h.own c ne (subst (λ l. c ≤ length l) same le);
          clients = h.clients;
          few = h.few;
        })
      where
        i : Holds p w
        i = reached.holds

        known : (u : Uuid) → m ≡ Bind u → place_of u (server_of p w.server).ids ≢ 0
        known u is =
            let t = subst (Rattle.sync_model.proofs.Sim.Tells p i.n (server_of p w.server).ids w.clients) is (i.tells k m there) in
            let nd = Rattle.sync_model.proofs.Lists.at_of_map (uuid_of p) w.clients t.0 (Some u) t.1 in
            let x = named_as p law (server_of p w.server) w.injected w.clients i.n i.sim t.0 nd.0 nd.1 (h.clients t.0 nd.0 nd.1).named in
            let same_id : x.id ≡ u = some_same x.id u (sym x.born ∙ nd.2) in
            λ z. (h.clients t.0 nd.0 nd.1).named (sym x.place ∙ ap (λ y. place_of y (server_of p w.server).ids) same_id ∙ z)

        same : (server_of p (w.server ++ (serve p (server_of p w.server) m).records)).ids ≡ (server_of p w.server).ids
        same = ap (λ (x : Server I). x.ids) (server_append p _ w.server (serve p (server_of p w.server) m).records) ∙ serve_ids (server_of p w.server) m known

    pub event_harmless : (most : ℕ) (w : World) → Valid p w → IsHarmless p of most w → (e : Event I) → IsHarmlessEvent p of w e → IsHarmless p of (most + made_by_event e) (happens p w e).world
    event_harmless most w reached h (Edits name ms edits) good = calls most 1 w h name (λ c. commit p c ms edits) made_words (λ v a f. said v a f) (λ i nd here passes. commit_keeps law (client_of p nd.records) ms edits (good i nd here passes))
      where
        said : (v : World) (a : Result ℕ ClientRefusal) → IsHarmless p of (most + 1) v → IsHarmless p of (most + 1) (made_words v a).world
        said v (Ok n) f = f
        said v (Err r) f = f
    event_harmless most w reached h (Uploads name) good = calls most 0 w h name (upload p) message_words (λ v a f. said v a f) (λ i nd here passes. named_keeps (client_of p nd.records) (Upload (client_of p nd.records).ident (to_upload p (client_of p nd.records))))
      where
        said : (v : World) (a : Result Message ClientRefusal) → IsHarmless p of (most + 0) v → IsHarmless p of (most + 0) (message_words v a).world
        said v (Ok m) f = with_messages v (v.messages ++ m ∷ []) f
        said v (Err r) f = f
    event_harmless most w reached h (Asks name) good = calls most 0 w h name ask message_words (λ v a f. said v a f) (λ i nd here passes. named_keeps (client_of p nd.records) (question (client_of p nd.records) (client_of p nd.records).subset))
      where
        said : (v : World) (a : Result Message ClientRefusal) → IsHarmless p of (most + 0) v → IsHarmless p of (most + 0) (message_words v a).world
        said v (Ok m) f = with_messages v (v.messages ++ m ∷ []) f
        said v (Err r) f = f
    event_harmless most w reached h (Restarts node) good = on (is_node w node)
      where
        on : (b : Bool) → IsHarmless p of (most + 0) (says w (if b then Rattle.sync_model.specs.Worlds.Opened else NoNode)).world
        on b = more_room most 0 w h
    event_harmless most w reached h (Delivers k to) good = on (is_node w to) (message_at w k) refl
      where
        said : (v : World) (a : Result ℕ ClientRefusal) → IsHarmless p of (most + 0) v → IsHarmless p of (most + 0) (took_words v a).world
        said v (Ok n) f = f
        said v (Err r) f = f

        found : (k : ℕ) (m : Message) → message_at w k ≡ Some m → (j : ℕ) × (at w.messages j ≡ Some m)
        found zero m e = cc
        found (suc j) m e = (j, e)

        whom : (b : Bool) (m : Message) → message_at w k ≡ Some m → IsHarmless p of (most + 0) (if b then server_called p w m else client_calls p w to (λ c. take_message p c m) took_words).world
        whom true m there = let f = found k m there in more_room most 0 (server_called p w m).world (comes most w reached h f.0 m f.1)
        whom false m there = calls most 0 w h to (λ c. take_message p c m) took_words (λ v a f. said v a f) (λ i nd here passes. take_keeps (client_of p nd.records) (h.clients i nd here).named m)

        on : (a : Bool) (o : Option Message) → message_at w k ≡ o → IsHarmless p of (most + 0) (if a then delivers p w to o else says w NoNode).world
        on true None is = more_room most 0 w h
        on true (Some m) is = whom (bytes_eq to server_name) m is
        on false o is = more_room most 0 w h
    event_harmless most w reached h (Rattle.sync_model.specs.Worlds.Joins name id) good = elim good [ ]
    event_harmless most w reached h (Rattle.sync_model.specs.Worlds.Starts name id) good = elim good [ ]
    event_harmless most w reached h (Rattle.sync_model.specs.Worlds.Binds client) good = elim good [ ]
    event_harmless most w reached h (Rattle.sync_model.specs.Worlds.Upgrades client) good = elim good [ ]
    event_harmless most w reached h (Rattle.sync_model.specs.Worlds.Subscribes client tables) good = elim good [ ]
    event_harmless most w reached h (Rattle.sync_model.specs.Worlds.Stops node k leaves) good = elim good [ ]
    event_harmless most w reached h (Rattle.sync_model.specs.Worlds.Injects message) good = elim good [ ]
