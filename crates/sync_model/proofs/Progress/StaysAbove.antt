-- A client that the server knows and that stands above the floor stays above it.
use Rattle.std.proofs.Common.{◌≡◌, ◌≢◌, ◌⊎◌, inl, inr, ⊎_elim, ℕ, zero, suc, ◌<◌, ◌≤◌, Bool, true, false, ◌&&◌, ◌||◌, not, List, [], ◌∷◌, ◌++◌, Option, Some, None, Result, Ok, Err, refl, sym, ap, ap₂, ◌∙◌, subst, arith, if◌then◌else◌, ◌==◌, length, map, take}
use Rattle.std.specs.Prelude.{⊤, bytes_eq, min, max}
use Rattle.std.specs.Option.{option_map_or}
use Rattle.sync_theory.proofs.Server.{test_true, test_false}
use Rattle.sync_theory.proofs.World.{same_or_not}
use Rattle.sync_model.specs.Bytes.{Name, Uuid, Tables}
use Rattle.sync_model.proofs.Bytes.{bytes_true}
use Rattle.sync_model.specs.Profile.{Profile, Lawful, is_small, needs, first_need, all_admitted, first_outside, apply_all}
use Rattle.sync_model.specs.Snapshots.{Buildable}
use Rattle.sync_model.specs.Messages.{Message, Bind, Ident, Upload, Ask, Download, Refused, Stored, Ask2, Retire, Retired, AskTables}
use Rattle.sync_model.specs.Clients.{Client, ClientRecord, ClientRefusal, Born, Made, Form, Subset, Unsent, NotNamed, TooLarge, NumbersFull, OldForm, NotSubscribed, TooLate, answers, appends, refuse, if_born, if_named, subscribed_once, is_late, settled_from, question, client_of, commit, commit_born, commit_applied, upgrade, subscribe, bind, upload, to_upload, ask}
use Rattle.sync_model.specs.Servers.{Server, ServerRecord, no_server, server_of, place_of, serve, server_objects, is_retired}
use Rattle.sync_model.specs.Parts.{Given, Parts, at_ident, given_of, served_of, serve_by}
use Rattle.sync_model.specs.Trims.{KeptLess, SameGiven, is_trimmed, is_live, least_settled, next_floor}
use Rattle.sync_model.specs.Starts.{started}
use Rattle.sync_model.specs.Worlds.{Node, World, Event, Joins, Starts, Edits, Binds, Uploads, Asks, Upgrades, Subscribes, Delivers, Restarts, Stops, Injects, says, NameTaken, UuidTaken, Joined, NoNode, Armed, at, seek, is_there, stopped, has_id, id_is, ident_is, is_own, arm, server_name, message_words, made_words, upgrade_words, subscribe_words, is_node, message_at, named_by, names_own, starts_at, happens}
use Rattle.sync_model.specs.Files.{FilesOpen}
use Rattle.sync_model.specs.Log.{ident_by, ident_of}
use Rattle.sync_model.specs.Later.{Later, LaterEvent, Happens, Trims, first_later, later_ends, later_served, beside, later_after, later, all_later, IsLater}
use Rattle.sync_model.specs.Progress.{IsAbove}
use Rattle.sync_model.specs.Each.{Each, no_more, and_each}
use Rattle.sync_model.proofs.Lists.{at_snoc, at_below, at_map, at_of_map, seek_there, place_old, place_one, place_within}
use Rattle.sync_model.proofs.Sim.{uuid_of}
use Rattle.sync_model.proofs.Calling.{named_as}
use Rattle.sync_model.proofs.Own.{after_append}
use Rattle.sync_model.proofs.Acknowledged.{events_grow}
use Rattle.sync_model.proofs.Alike.{SameSome, same_ident, served_same, parts_floor}
use Rattle.sync_model.proofs.Trims.{serve_begins}
use Rattle.sync_model.proofs.Written.{serve_writes}
use Rattle.sync_model.proofs.Parts.{at_given, serve_is}
use Rattle.sync_model.proofs.Starting.{started_is, objects_fit, objects_bounded}
use Rattle.sync_model.proofs.Facts.{world_facts}
use Rattle.sync_model.proofs.Holding.{Holds, cut_by, server_append, not_named}
use Rattle.sync_model.proofs.Later.{Held, full, opened_of, event_held, later_held, first_held, calls_leave, messages_leave, made_leave, took_leave, upgrade_leave, subscribe_leave, starts_leave, joins_leave, delivers_leave, stops_leave}
use Rattle.sync_model.proofs.Progress.Growing.{server_onto}
use Rattle.sync_model.proofs.Progress.Late.{each_take}
use Rattle.sync_model.proofs.Progress.Above.{Above, IsCall, called_above, IsReply, serve_replies}
use Rattle.sync_model.proofs.Progress.Alongside.{Moves, moves_same, SentBy, sends, quietly, hears_one, bind_told, named_told, named_says}
use Rattle.sync_model.proofs.Progress.Asked.{AskOf, Answers, Asked, serve_answers, server_asked, called_id}
use Rattle.sync_model.proofs.Progress.LaterLaws.{above_at}

neither : (a b : Bool) → (a || b) ≡ false → (a ≡ false) × (b ≡ false)
neither true b e = cc
neither false b e = (refl, e)

some_same : {A : Type 0} (x y : A) → Some x ≡ Some y → x ≡ y
some_same x y e = cc

trimmed_reply : (m : Message) → is_trimmed m ≡ true → IsReply m
trimmed_reply (Refused c number code place) e = tt
trimmed_reply (Bind u) e = cc
trimmed_reply (Ident u c) e = tt
trimmed_reply (Upload c hs) e = cc
trimmed_reply (Ask c cursor settled) e = cc
trimmed_reply (Ask2 c cursor settled) e = cc
trimmed_reply (Download c from es) e = tt
trimmed_reply (Stored c number) e = tt
trimmed_reply (Retire c by) e = cc
trimmed_reply (Retired c by number) e = tt
trimmed_reply (AskTables c cursor settled second tables) e = cc

-- the least over live idents
least_at : {I : Type 0} (floor len : ℕ) (gs : List (Given I)) (j : ℕ) (g : Given I) → at gs j ≡ Some g → is_live g ≡ true → least_settled floor len gs ≤ max g.mark floor
least_at floor len [] j g h live = cc
least_at floor len (x ∷ gs) zero g h live =
    let same : x ≡ g = some_same x g h in
    on (is_live x) (ap is_live same ∙ live) (ap (λ y. y.mark) same)
  where
    on : (b : Bool) → b ≡ true → x.mark ≡ g.mark → (if b then min (max x.mark floor) (least_settled floor len gs) else least_settled floor len gs) ≤ max g.mark floor
    on true e same = omega arith
    on false e same = cc
least_at floor len (x ∷ gs) (suc j) g h live = on (is_live x) (least_at floor len gs j g h live)
  where
    on : (b : Bool) → least_settled floor len gs ≤ max g.mark floor → (if b then min (max x.mark floor) (least_settled floor len gs) else least_settled floor len gs) ≤ max g.mark floor
    on true le = omega arith
    on false le = le

least_by : {I : Type 0} (floor len c : ℕ) (gs : List (Given I)) (g : Given I) → at_ident c gs ≡ Some g → is_live g ≡ true → least_settled floor len gs ≤ max g.mark floor
least_by floor len zero gs g h live = cc
least_by floor len (suc j) gs g h live = least_at floor len gs j g h live

same_some : {I : Type 0} (f : ℕ) (a : Given I) (o q : Option (Given I)) → o ≡ Some a → SameSome f o q → (g : Given I) × (q ≡ Some g) × SameGiven f a g
unfolding SameSome
same_some f a None q e s = cc
same_some f a (Some x) None e s = absurd s
same_some f a (Some x) (Some g) e s = (g, refl, subst (λ y. SameGiven f y g) (some_same x a e) s)

module _ {I S : Type 0} (p : Profile I S) where
  -- ---- what calls append

  commit_called : (st : Client I S) (ms : ℕ) (edits : List I) → Each IsCall (commit p st ms edits).records
  commit_called st ms edits = on st.id
    where
      applied : (r : Result S (ℕ × ℕ)) → Each IsCall (commit_applied (suc (length st.made)) (Made (suc (length st.made)) ms (p.spell edits)) r).records
      applied (Ok s) = and_each tt no_more
      applied (Err b) = no_more

      tests : (a b d e : Bool) → Each IsCall (if a then refuse TooLarge else (if b then refuse NumbersFull else (if d then refuse (OldForm (first_need p edits)) else (if e then refuse (NotSubscribed (first_outside p st.subset edits)) else commit_applied (suc (length st.made)) (Made (suc (length st.made)) ms (p.spell edits)) (apply_all p edits st.objects))))).records
      tests true b d e = no_more
      tests false true d e = no_more
      tests false false true e = no_more
      tests false false false true = no_more
      tests false false false false = applied (apply_all p edits st.objects)

      on : (o : Option Uuid) → Each IsCall (if_born o (λ id. commit_born p st ms edits)).records
      on None = no_more
      on (Some id) = tests (not (is_small p edits)) (length st.made == p.full) (needs p edits && not st.second) (not (all_admitted p st.subset edits))

  upgrade_called : (st : Client I S) → Each IsCall (upgrade st).records
  upgrade_called st = on st.id st.second
    where
      on : (o : Option Uuid) (b : Bool) → Each IsCall (if_born o (λ id. if b then answers false else appends Form true)).records
      on None b = no_more
      on (Some id) true = no_more
      on (Some id) false = and_each tt no_more

  subscribe_called : (st : Client I S) (tables : Tables) → Each IsCall (subscribe st tables).records
  subscribe_called st tables = on st.id st.subset (is_late st)
    where
      on : (o : Option Uuid) (t : Option Tables) (b : Bool) → Each IsCall (if_born o (λ id. subscribed_once t (if b then refuse TooLate else appends {A = ⊤} (Subset tables) tt))).records
      on None t b = no_more
      on (Some id) (Some u) b = no_more
      on (Some id) None true = no_more
      on (Some id) None false = and_each tt no_more

  named_nonzero : (st : Client I S) (m x : Message) → (if_named st (answers m)).answer ≡ Ok x → st.ident ≢ 0
  named_nonzero st m x h z = on st.id (st.ident == 0) (test_true st.ident 0 z) h
    where
      on : (o : Option Uuid) (b : Bool) → b ≡ true → (if_born o (λ id. if b then refuse NotNamed else answers m)).answer ≡ Ok x → ⊥
      on None b t e = cc
      on (Some id) true t e = cc
      on (Some id) false t e = cc

  question_asks : (st : Client I S) (o : Option Tables) (d n : ℕ) → AskOf (question st o) d n → (st.ident ≡ d) × (settled_from st.cursor st.unsent ≡ n)
  question_asks st None d n a = on st.second a
    where
      on : (b : Bool) → AskOf (if b then Ask2 st.ident st.cursor (settled_from st.cursor st.unsent) else Ask st.ident st.cursor (settled_from st.cursor st.unsent)) d n → (st.ident ≡ d) × (settled_from st.cursor st.unsent ≡ n)
      on true k = k
      on false k = k
  question_asks st (Some t) d n a = a

  -- ---- what happens beside the server

  -- a message says of no client that it settled more than it did
  abbrev Fair : World → Message → Type 0
  Fair w m = (i : ℕ) (nd : Node) (n : ℕ) → at w.clients i ≡ Some nd → ident_of p w nd ≢ 0 → AskOf m (ident_of p w nd) n → Above p n (client_of p nd.records)

  record Beside (w v : World) : Type 0 where
    server : v.server ≡ w.server
    there : (i : ℕ) (nd : Node) → at w.clients i ≡ Some nd → (end : Node) × (at v.clients i ≡ Some end)
    clients : (i : ℕ) (end : Node) → at v.clients i ≡ Some end → ((nd : Node) × (at w.clients i ≡ Some nd) × (rs : List ClientRecord) × Each IsCall rs × (end ≡ record nd { records = nd.records ++ rs })) ⊎ ((length w.clients ≤ i) × (ident_of p w end ≡ 0))
    messages : (k : ℕ) (m : Message) → at v.messages k ≡ Some m → (at w.messages k ≡ Some m) ⊎ Fair w m

  by_moves : {w v : World} (new : Message → Type 0) → Moves new w v → v.server ≡ w.server → ((i : ℕ) (nd : Node) → at w.clients i ≡ Some nd → (end : Node) × (at v.clients i ≡ Some end)) → ((m : Message) → new m → Fair w m) → Beside w v
  by_moves new moves server there fair = record { server = server; there = there; clients = λ i end h. inl (moves.clients i end h); messages = λ k m h. ⊎_elim (λ old. inl old) (λ n. inr (fair m n)) (moves.messages k m h) }

  unchanged : (w : World) → Beside w w
  unchanged w = by_moves (λ x. ⊥) (moves_same (λ x. ⊥) w) refl (λ i nd h. (nd, h)) (λ m n. absurd n)

  still_ident : {w v : World} (b : Beside w v) (nd end : Node) (rs : List ClientRecord) → Each IsCall rs → end ≡ record nd { records = nd.records ++ rs } → ident_of p v end ≡ ident_of p w nd
  still_ident {w} {v} b nd end rs called is =
      ap₂ (λ s (x : Node). ident_by (server_of p s).ids (client_of p x.records).id) b.server is
      ∙ ap (λ (c : Client I S). ident_by (server_of p w.server).ids c.id) (after_append p _ nd.records rs) ∙ ap (ident_by (server_of p w.server).ids) (called_id p rs (client_of p nd.records) called)

  still_above : (n : ℕ) (nd end : Node) (rs : List ClientRecord) → Each IsCall rs → end ≡ record nd { records = nd.records ++ rs } → Above p n (client_of p nd.records) → Above p n (client_of p end.records)
  still_above n nd end rs called is up = subst (λ (x : Node). Above p n (client_of p x.records)) (sym is) (subst (Above p n) (sym (after_append p _ nd.records rs)) (called_above p n rs (client_of p nd.records) called up))

  beside_asked : {w v : World} → Beside w v → Asked p w → Asked p v
  beside_asked {w} {v} b a = record {
    marks = λ i end h named. ⊎_elim
        (λ x.
        let same = still_ident b x.0 end x.2 x.3 x.4 in
        subst (λ n. Above p n (client_of p end.records)) (ap₂ (λ s c. (server_of p s).marks c) (sym b.server) (sym same)) (still_above ((server_of p w.server).marks (ident_of p w x.0)) x.0 end x.2 x.3 x.4 (a.marks i x.0 x.1 (λ z. named (same ∙ z)))))
        (λ new. absurd (named (ap (λ s. ident_by (server_of p s).ids (client_of p end.records).id) b.server ∙ new.1)))
        (b.clients i end h);
    asked = λ i end h named k m n there ask. ⊎_elim
        (λ x.
        let same = still_ident b x.0 end x.2 x.3 x.4 in
        let was = subst (λ c. AskOf m c n) same ask in
        still_above n x.0 end x.2 x.3 x.4 (⊎_elim (λ old. a.asked i x.0 x.1 (λ z. named (same ∙ z)) k m n old was) (λ fair. fair i x.0 n x.1 (λ z. named (same ∙ z)) was) (b.messages k m there)))
        (λ new. absurd (named (ap (λ s. ident_by (server_of p s).ids (client_of p end.records).id) b.server ∙ new.1)))
        (b.clients i end h);
  }

  -- ---- the server answers

  record Past (w : World) (floor : ℕ) (l2 : Later I S) : Type 0 where
    clients : l2.world.clients ≡ w.clients
    named : (nd : Node) → ident_of p w nd ≢ 0 → ident_of p l2.world nd ≢ 0
    at_floor : l2.kept.floor ≡ floor
    asked : Asked p l2.world

  named_past : (w : World) (floor : ℕ) (l2 : Later I S) (m : Message) → Past (named_by w m) floor l2 → Past w floor l2
  named_past w floor l2 (Bind u) x = record { clients = x.clients; named = x.named; at_floor = x.at_floor; asked = x.asked }
  named_past w floor l2 (Ident u c) x = x
  named_past w floor l2 (Upload c hs) x = x
  named_past w floor l2 (Ask c cursor settled) x = x
  named_past w floor l2 (Ask2 c cursor settled) x = x
  named_past w floor l2 (AskTables c cursor settled second tables) x = x
  named_past w floor l2 (Download c from es) x = x
  named_past w floor l2 (Refused c number code place) x = x
  named_past w floor l2 (Stored c number) x = x
  named_past w floor l2 (Retire c by) x = x
  named_past w floor l2 (Retired c by number) x = x

  asked_named : (w : World) (m : Message) → Asked p w → Asked p (named_by w m)
  asked_named w (Bind u) a = record { marks = a.marks; asked = a.asked }
  asked_named w (Ident u c) a = a
  asked_named w (Upload c hs) a = a
  asked_named w (Ask c cursor settled) a = a
  asked_named w (Ask2 c cursor settled) a = a
  asked_named w (AskTables c cursor settled second tables) a = a
  asked_named w (Download c from es) a = a
  asked_named w (Refused c number code place) a = a
  asked_named w (Stored c number) a = a
  asked_named w (Retire c by) a = a
  asked_named w (Retired c by number) a = a

  fair_named : (w : World) (m : Message) → Fair w m → Fair (named_by w m) m
  fair_named w (Bind u) f = λ i nd n here ne ask. absurd ask
  fair_named w (Ident u c) f = f
  fair_named w (Upload c hs) f = f
  fair_named w (Ask c cursor settled) f = f
  fair_named w (Ask2 c cursor settled) f = f
  fair_named w (AskTables c cursor settled second tables) f = f
  fair_named w (Download c from es) f = f
  fair_named w (Refused c number code place) f = f
  fair_named w (Stored c number) f = f
  fair_named w (Retire c by) f = f
  fair_named w (Retired c by number) f = f

  -- what is injected names no own ident
  owned : (w : World) (h : Holds p w) (i : ℕ) (nd : Node) → at w.clients i ≡ Some nd → ident_of p w nd ≢ 0 → is_own p w (ident_of p w nd) ≡ true
  owned w h i nd here ne =
      let k = h.sim.clients i nd here in
      seek_there (λ (x : Node). ident_is (server_of p w.server).ids (ident_of p w nd) (client_of p x.records).id) w.clients i nd here
      (subst (λ o. ident_is (server_of p w.server).ids (ident_of p w nd) o ≡ true) (sym k.born)
      (both (ident_of p w nd == place_of k.id (server_of p w.server).ids) (ident_of p w nd == 0) (test_true (ident_of p w nd) (place_of k.id (server_of p w.server).ids) (ap (ident_by (server_of p w.server).ids) k.born)) (test_false (ident_of p w nd) 0 ne)))
    where
      both : (a b : Bool) → a ≡ true → b ≡ false → (a && not b) ≡ true
      both true true e f = cc
      both true false e f = refl
      both false b e f = cc

  injected_fair : (w : World) (h : Holds p w) (m : Message) → names_own p w m ≡ false → Fair w m
  injected_fair w h m f i nd n here ne ask = clash (own m f ask) (owned w h i nd here ne)
    where
      clash : {b : Bool} → b ≡ false → b ≡ true → Above p n (client_of p nd.records)
      clash e g = cc

      own : (m : Message) → names_own p w m ≡ false → AskOf m (ident_of p w nd) n → is_own p w (ident_of p w nd) ≡ false
      own (Ask c cursor settled) f a = ap (is_own p w) (sym a.0) ∙ f
      own (Ask2 c cursor settled) f a = ap (is_own p w) (sym a.0) ∙ f
      own (AskTables c cursor settled second tables) f a = ap (is_own p w) (sym a.0) ∙ f
      own (Bind u) f a = absurd a
      own (Ident u c) f a = absurd a
      own (Upload c hs) f a = absurd a
      own (Download c from es) f a = absurd a
      own (Refused c number code place) f a = absurd a
      own (Stored c number) f a = absurd a
      own (Retire c by) f a = absurd a
      own (Retired c by number) f a = absurd a

  module _ {Fits Bounded Old : S → Type 0} (law : Lawful p Fits) (built : Buildable p Fits Bounded Old) where
    served_past : (w : World) (kept : Parts I S) (h : Holds p w) (f : FilesOpen p w) (less : KeptLess (full p w) kept) → Asked p w → (m : Message) → Fair w m → Past w kept.floor (later_served p w kept m)
    served_past w kept h f less a m fair = on (stopped (w.stops server_name) (serve_by p kept m).records) refl
      where
        whole : serve_by p (full p w) m ≡ served_of p (server_of p w.server) (serve p (server_of p w.server) m)
        whole = serve_is p law (server_of p w.server) (opened_of p law built w f) m

        begins : (j : ℕ) × ((serve_by p kept m).records ≡ take j (serve p (server_of p w.server) m).records)
        begins = let b = serve_begins p (full p w) kept less m in (b.0, b.1 ∙ ap (λ z. take b.0 z.records) whole)

        answers : Each (Answers m) (serve_by p kept m).records
        answers = subst (Each (Answers m)) (sym begins.1) (each_take begins.0 (serve_answers p (server_of p w.server) m))

        reply : IsReply (serve_by p kept m).answer
        reply = go (is_trimmed (serve_by p kept m).answer) refl
          where
            go : (b : Bool) → is_trimmed (serve_by p kept m).answer ≡ b → IsReply (serve_by p kept m).answer
            go true is = trimmed_reply (serve_by p kept m).answer is
            go false is = subst IsReply (sym ((served_same p (full p w) kept less m is).1 ∙ ap (λ z. z.answer) whole)) (serve_replies p (server_of p w.server) m)

        still_named : (rs : List ServerRecord) (nd : Node) → ident_of p w nd ≢ 0 → ident_by (server_of p (w.server ++ rs)).ids (client_of p nd.records).id ≢ 0
        still_named rs nd ne z = go (client_of p nd.records).id refl
          where
            go : (o : Option Uuid) → (client_of p nd.records).id ≡ o → ⊥
            go None e = ne (ap (ident_by (server_of p w.server).ids) e)
            go (Some u) e =
                let t = server_onto p rs (server_of p w.server) in
                let was : ident_of p w nd ≡ place_of u (server_of p w.server).ids = ap (ident_by (server_of p w.server).ids) e in
                ne (was
                ∙ sym (place_old u (server_of p w.server).ids t.ids (λ y. ne (was ∙ y)))
                ∙ ap (place_of u) (sym (ap (λ (x : Server I). x.ids) (server_append p no_server w.server rs) ∙ t.ids_are))
                ∙ sym (ap (ident_by (server_of p (w.server ++ rs)).ids) e)
                ∙ z)

        writes : Rattle.sync_model.proofs.Written.Writes p kept (serve_by p kept m).records (serve_by p kept m).parts
        writes = serve_writes p kept m

        on : (o : Option (List ServerRecord)) → stopped (w.stops server_name) (serve_by p kept m).records ≡ o → Past w kept.floor (later_ends p w kept (serve_by p kept m) o)
        on None is = record {
          clients = refl;
          named = λ nd ne. still_named (serve_by p kept m).records nd ne;
          at_floor = ap (λ (z : Parts I S). z.floor) (sym writes.gives) ∙ parts_floor p (serve_by p kept m).records kept;
          asked = server_asked p w h (opened_of p law built w f) a m fair (serve_by p kept m).records answers (w.messages ++ (serve_by p kept m).answer ∷ [])
              (λ k x there. ⊎_elim (λ old. inl old) (λ new. inr (subst IsReply new.1 reply)) (at_snoc w.messages (serve_by p kept m).answer k x there));
        }
        on (Some stand) is =
            let c = cut_by (w.stops server_name) (serve_by p kept m).records stand is in
            record {
              clients = refl;
              named = λ nd ne. still_named stand nd ne;
              at_floor = parts_floor p stand kept;
              asked = server_asked p w h (opened_of p law built w f) a m fair stand (subst (Each (Answers m)) c.1 (each_take c.0 answers)) w.messages (λ k x there. inl there);
            }

    -- ---- each event

    -- a question of a client says what it settled
    sent_fair : (w : World) (h : Holds p w) (name : Name) (m : Message) → SentBy p w name ask m → Fair w m
    sent_fair w h name m s i nd n here ne asks =
        let x = s.1 in
        let said : question (client_of p s.1.records) (client_of p s.1.records).subset ≡ m = named_says p (client_of p s.1.records) (question (client_of p s.1.records) (client_of p s.1.records).subset) m s.4 in
        let q = question_asks (client_of p s.1.records) (client_of p s.1.records).subset (ident_of p w nd) n (subst (λ y. AskOf y (ident_of p w nd) n) (sym said) asks) in
        let named = named_nonzero (client_of p s.1.records) (question (client_of p s.1.records) (client_of p s.1.records).subset) m s.4 in
        let a = named_as p law (server_of p w.server) w.injected w.clients h.n h.sim s.0 s.1 s.2 named in
        let k = h.sim.clients i nd here in
        let was : ident_of p w nd ≡ place_of k.id (server_of p w.server).ids = ap (ident_by (server_of p w.server).ids) k.born in
        let same : k.id ≡ a.id = place_one k.id a.id (server_of p w.server).ids (λ z. ne (was ∙ z)) (sym was ∙ sym q.0 ∙ sym a.place) in
        let one : i ≡ s.0 = h.sim.distinct i s.0 a.id (at_map (uuid_of p) w.clients i nd here ∙ ap (λ o. Some o) (k.born ∙ ap (λ u. Some u) same)) (at_map (uuid_of p) w.clients s.0 s.1 s.2 ∙ ap (λ o. Some o) a.born) in
        let it : nd ≡ s.1 = some_same nd s.1 (sym here ∙ ap (at w.clients) one ∙ s.2) in
        let le : n ≤ settled_from (client_of p nd.records).cursor (client_of p nd.records).unsent = at_most (sym q.1 ∙ ap (λ (y : Node). settled_from (client_of p y.records).cursor (client_of p y.records).unsent) (sym it)) in
        above_at p law built w h n i nd here le
      where
        at_most : {a b : ℕ} → a ≡ b → a ≤ b
        at_most {a} {b} e = omega (arith, e)

    grown : (w : World) (e : Event I) (i : ℕ) (nd : Node) → at w.clients i ≡ Some nd → (end : Node) × (at (happens p w e).world.clients i ≡ Some end)
    grown w e i nd here = let g = events_grow p (e ∷ []) w i nd here in (g.0, g.1)

    -- a new client's uuid isn't known
    new_beside : (w : World) (h : Holds p w) (name : Name) (id : Uuid) (records : List ClientRecord) → (client_of p records).id ≡ Some id
        → Beside w (if is_node w name then says w NameTaken else (if is_there (seek (has_id p id) w.clients) || is_there (seek (λ u. bytes_eq id u) w.injected) then says w UuidTaken else says (record w { clients = w.clients ++ record { name = name; records = records } ∷ [] }) (Joined name))).world
    new_beside w h name id records born = go (is_node w name) (is_there (seek (has_id p id) w.clients) || is_there (seek (λ u. bytes_eq id u) w.injected)) refl
      where
        clash : {b : Bool} → b ≡ true → b ≡ false → ⊥
        clash e f = cc

        unknown : (is_there (seek (has_id p id) w.clients) || is_there (seek (λ u. bytes_eq id u) w.injected)) ≡ false → place_of id (server_of p w.server).ids ≡ 0
        unknown f = ⊎_elim (λ z. z)
            (λ ne. absurd (⊎_elim
            (λ there.
            let nd = at_of_map (uuid_of p) w.clients there.0 (Some id) there.1 in
            clash (seek_there (has_id p id) w.clients there.0 nd.0 nd.1 (ap (id_is id) nd.2 ∙ bytes_true id id refl)) (neither (is_there (seek (has_id p id) w.clients)) (is_there (seek (λ u. bytes_eq id u) w.injected)) f).0)
            (λ injected. injected (not_named id w.injected (neither (is_there (seek (has_id p id) w.clients)) (is_there (seek (λ u. bytes_eq id u) w.injected)) f).1))
            (h.sim.known id ne)))
            (same_or_not (place_of id (server_of p w.server).ids) 0)

        go : (a b : Bool) → (is_there (seek (has_id p id) w.clients) || is_there (seek (λ u. bytes_eq id u) w.injected)) ≡ b → Beside w (if a then says w NameTaken else (if b then says w UuidTaken else says (record w { clients = w.clients ++ record { name = name; records = records } ∷ [] }) (Joined name))).world
        go true b b_is = unchanged w
        go false true b_is = unchanged w
        go false false b_is = record {
          server = refl;
          there = λ i nd here. (nd, Rattle.sync_model.proofs.Lists.at_snoc_old w.clients (record { name = name; records = records } ∷ []) i nd here);
          clients = λ i end here. ⊎_elim
              (λ old. inl (end, old, [], no_more, ap (λ l. record end { records = l }) (sym (Rattle.std.proofs.Common.append-nil end.records))))
              (λ new. inr (length_le new.0, ap (λ (x : Node). ident_of p w x) (sym new.1) ∙ ap (ident_by (server_of p w.server).ids) born ∙ unknown b_is))
              (at_snoc w.clients (record { name = name; records = records }) i end here);
          messages = λ k m there. inl there;
        }
          where
            length_le : {a b : ℕ} → a ≡ b → b ≤ a
            length_le {a} {b} e = omega (arith, e)

    started_beside : (w : World) (h : Holds p w) (name : Name) (id : Uuid) → Beside w (starts_at p w name id (server_of p w.server).second (length (server_of p w.server).log) (server_objects p (server_of p w.server))).world
    started_beside w h name id = new_beside w h name id (started p id (server_of p w.server).second (length (server_of p w.server).log) (server_objects p (server_of p w.server)))
        (ap (λ (c : Client I S). c.id) (started_is p law built id (server_of p w.server).second (length (server_of p w.server).log) (server_objects p (server_of p w.server)) (objects_fit p law built (server_of p w.server) w.clients w.injected h.n h.sim) (objects_bounded p law built (server_of p w.server) w.clients w.injected h.n h.sim)))

    -- what an event comes to
    abbrev Comes_ : Later I S → Later I S → Type 0
    Comes_ l l2 = (Beside l.world l2.world × (l2.kept ≡ l.kept)) ⊎ Past l.world l.kept.floor l2

    said_same : (v : World) (a : Result ℕ ClientRefusal) → (made_words v a).world ≡ v
    said_same v (Ok n) = refl
    said_same v (Err r) = refl

    upgraded_same : (v : World) (a : Result Bool ClientRefusal) → (upgrade_words v a).world ≡ v
    upgraded_same v (Ok b) = refl
    upgraded_same v (Err r) = refl

    subscribed_same : (v : World) (a : Result ⊤ ClientRefusal) → (subscribe_words v a).world ≡ v
    subscribed_same v (Ok b) = refl
    subscribed_same v (Err r) = refl

    no_ask : (w : World) (m x : Message) → m ≡ x → ((d n : ℕ) → AskOf m d n → ⊥) → Fair w x
    no_ask w m x e none i nd n here ne a = absurd (none (ident_of p w nd) n (subst (λ y. AskOf y (ident_of p w nd) n) (sym e) a))

    event_comes : (l : Later I S) → Held p l → Asked p l.world → (e : Event I) → Comes_ l (later_after p l e)
    event_comes l h a (Joins name id) = inl (new_beside l.world h.holds name id (Born id ∷ []) refl, refl)
    event_comes l h a (Starts name id) =
        let k = h.less in
        let e : starts_at p l.world name id l.kept.second l.kept.len l.kept.objects ≡ starts_at p l.world name id (full p l.world).second (full p l.world).len (full p l.world).objects = λ i. starts_at p l.world name id (k.second i) (k.len i) (k.objects i) in
        inl (subst (λ o. Beside l.world o.world) (sym e) (started_beside l.world h.holds name id), refl)
    event_comes l h a (Edits name ms edits) = inl (by_moves (λ x. ⊥) (quietly p l.world name (λ c. commit p c ms edits) made_words said_same (λ c. commit_called c ms edits)) (calls_leave p l.world name (λ c. commit p c ms edits) made_words (made_leave p)) (grown l.world (Edits name ms edits)) (λ m n. absurd n), refl)
    event_comes l h a (Binds name) = inl (by_moves (SentBy p l.world name bind) (sends p l.world name bind (bind_told p)) (calls_leave p l.world name bind message_words (messages_leave p)) (grown l.world (Binds name)) (λ m s. bound_fair m s), refl)
      where
        bound_fair : (m : Message) → SentBy p l.world name bind m → Fair l.world m
        bound_fair m s = on (client_of p s.1.records).id s.4
          where
            on : (o : Option Uuid) → (if_born o (λ id. answers (Bind id))).answer ≡ Ok m → Fair l.world m
            on None e = cc
            on (Some id) e = let same : Bind id ≡ m = cc in no_ask l.world (Bind id) m same (λ d n k. k)
    event_comes l h a (Uploads name) = inl (
      by_moves (SentBy p l.world name (upload p)) (sends p l.world name (upload p) (λ st. named_told p st (Upload st.ident (to_upload p st)))) (calls_leave p l.world name (upload p) message_words (messages_leave p)) (grown l.world (Uploads name))
          (λ m s. no_ask l.world (Upload (client_of p s.1.records).ident (to_upload p (client_of p s.1.records))) m (named_says p (client_of p s.1.records) (Upload (client_of p s.1.records).ident (to_upload p (client_of p s.1.records))) m s.4) (λ d n k. k)),
      refl,
    )
    event_comes l h a (Asks name) = inl (by_moves (SentBy p l.world name ask) (sends p l.world name ask (λ st. named_told p st (question st st.subset))) (calls_leave p l.world name ask message_words (messages_leave p)) (grown l.world (Asks name)) (λ m s. sent_fair l.world h.holds name m s), refl)
    event_comes l h a (Upgrades name) = inl (by_moves (λ x. ⊥) (quietly p l.world name upgrade upgrade_words upgraded_same upgrade_called) (calls_leave p l.world name upgrade upgrade_words (upgrade_leave p)) (grown l.world (Upgrades name)) (λ m n. absurd n), refl)
    event_comes l h a (Subscribes name tables) = inl (by_moves (λ x. ⊥) (quietly p l.world name (λ c. subscribe c tables) subscribe_words subscribed_same (λ c. subscribe_called c tables)) (calls_leave p l.world name (λ c. subscribe c tables) subscribe_words (subscribe_leave p)) (grown l.world (Subscribes name tables)) (λ m n. absurd n), refl)
    event_comes l h a (Delivers k to) = on (bytes_eq to server_name) refl k
      where
        fair : (k : ℕ) (m : Message) → at l.world.messages k ≡ Some m → Fair l.world m
        fair k m there i nd n here ne asks = a.asked i nd here ne k m n there asks

        some : (o : Option Message) → ((m : Message) → o ≡ Some m → Fair l.world m) → Comes_ l (option_map_or (later_served p l.world l.kept) o l)
        some None f = inl (unchanged l.world, refl)
        some (Some m) f = inr (served_past l.world l.kept h.holds h.opens h.less a m (f m refl))

        none_some : {m : Message} → None ≡ Some m → ⊥
        none_some e = cc

        on : (b : Bool) → bytes_eq to server_name ≡ b → (k : ℕ) → Comes_ l (if b then option_map_or (later_served p l.world l.kept) (message_at l.world k) l else beside p l (Delivers k to))
        on true is zero = some None (λ m e. absurd (none_some e))
        on true is (suc j) = some (at l.world.messages j) (λ m e. fair j m e)
        on false is k = inl (by_moves (λ x. ⊥) (hears_one p l.world k to is) (delivers_leave p l.world to k is) (grown l.world (Delivers k to)) (λ m n. absurd n), refl)
    event_comes l h a (Restarts node) = inl (unchanged l.world, refl)
    event_comes l h a (Stops node k leaves) = inl (on (is_node l.world node), refl)
      where
        on : (b : Bool) → Beside l.world (if b then says (record l.world { stops = arm node (Some (record { at = k; leaves = leaves })) l.world.stops }) Armed else says l.world NoNode).world
        on true = record { server = refl; there = λ i nd here. (nd, here); clients = (unchanged l.world).clients; messages = λ k m there. inl there }
        on false = unchanged l.world
    event_comes l h a (Injects None) = inl (unchanged l.world, refl)
    event_comes l h a (Injects (Some m)) = on (names_own p l.world m) refl
      where
        on : (b : Bool) → names_own p l.world m ≡ b → Comes_ l (if b then l else later_served p (named_by l.world m) l.kept m)
        on true is = inl (unchanged l.world, refl)
        on false is = inr (named_past l.world l.kept.floor (later_served p (named_by l.world m) l.kept m) m (by_message m is))
          where
            by_message : (m : Message) → names_own p l.world m ≡ false → Past (named_by l.world m) l.kept.floor (later_served p (named_by l.world m) l.kept m)
            by_message m is =
                let c = Rattle.sync_model.proofs.Holding.injected_comes p law built l.world h.holds m is in
                served_past (named_by l.world m) l.kept c.0 (Rattle.sync_model.proofs.Later.named_open p law built l.world m h.opens) (less_named m) (asked_named l.world m a) m (fair_named l.world m (injected_fair l.world h.holds m is))
              where
                less_named : (m : Message) → KeptLess (full p (named_by l.world m)) l.kept
                less_named (Bind u) = h.less
                less_named (Ident u c) = h.less
                less_named (Upload c hs) = h.less
                less_named (Ask c cursor settled) = h.less
                less_named (Ask2 c cursor settled) = h.less
                less_named (AskTables c cursor settled second tables) = h.less
                less_named (Download c from es) = h.less
                less_named (Refused c number code place) = h.less
                less_named (Stored c number) = h.less
                less_named (Retire c by) = h.less
                less_named (Retired c by number) = h.less

    -- ---- above the floor for good

    record Up (l : Later I S) (i : ℕ) : Type 0 where
      node : Node
      here : at l.world.clients i ≡ Some node
      named : ident_of p l.world node ≢ 0
      above : Above p l.kept.floor (client_of p node.records)

    up_comes : (l l2 : Later I S) (i : ℕ) → Comes_ l l2 → Up l i → Up l2 i
    up_comes l l2 i (inr x) u = record {
      node = u.node;
      here = ap (λ c. at c i) x.clients ∙ u.here;
      named = x.named u.node u.named;
      above = subst (λ n. Above p n (client_of p u.node.records)) (sym x.at_floor) u.above;
    }
    up_comes l l2 i (inl x) u =
        let t = x.0.there i u.node u.here in
        ⊎_elim
        (λ c.
        let same : c.0 ≡ u.node = some_same c.0 u.node (sym c.1 ∙ u.here) in
        let ident = still_ident x.0 c.0 t.0 c.2 c.3 c.4 in
        record {
          node = t.0;
          here = t.1;
          named = λ z. u.named (ap (ident_of p l.world) (sym same) ∙ sym ident ∙ z);
          above = subst (λ n. Above p n (client_of p t.0.records)) (ap (λ (k : Parts I S). k.floor) (sym x.1)) (still_above l.kept.floor c.0 t.0 c.2 c.3 c.4 (subst (λ (y : Node). Above p l.kept.floor (client_of p y.records)) (sym same) u.above));
        })
        (λ new. let lt = at_below l.world.clients i u.node u.here in let le = new.0 in absurd (omega arith))
        (x.0.clients i t.0 t.1)

    asked_comes : (l l2 : Later I S) → Comes_ l l2 → Asked p l.world → Asked p l2.world
    asked_comes l l2 (inr x) a = x.asked
    asked_comes l l2 (inl x) a = beside_asked x.0 a

    -- the next floor is at most what a live ident settled, or the floor
    floor_within : (l : Later I S) → Held p l → (i : ℕ) (nd : Node) → at l.world.clients i ≡ Some nd → ident_of p l.world nd ≢ 0 → next_floor l.kept ≤ max ((server_of p l.world.server).marks (ident_of p l.world nd)) l.kept.floor
    floor_within l h i nd here ne =
        let k = h.holds.sim.clients i nd here in
        let was : ident_of p l.world nd ≡ place_of k.id (server_of p l.world.server).ids = ap (ident_by (server_of p l.world.server).ids) k.born in
        let within : ident_of p l.world nd ≤ length (server_of p l.world.server).ids = subst (λ x. x ≤ length (server_of p l.world.server).ids) (sym was) (place_within k.id (server_of p l.world.server).ids) in
        let g = at_given p (server_of p l.world.server) (ident_of p l.world nd) ne within in
        let kept = same_some l.kept.floor (given_of p (server_of p l.world.server) (ident_of p l.world nd) g.0) (at_ident (ident_of p l.world nd) (full p l.world).idents) (at_ident (ident_of p l.world nd) l.kept.idents) g.1 (same_ident l.kept.floor h.less.idents (ident_of p l.world nd)) in
        let active = (world_facts p law l.world h.holds).active (ident_of p l.world nd) (owned l.world h.holds i nd here ne) in
        let live : is_live kept.0 ≡ true = ap (λ o. not (is_retired o)) (kept.2.heir ∙ active) in
        let le = least_by l.kept.floor l.kept.len (ident_of p l.world nd) l.kept.idents kept.0 kept.1 live in
        subst (λ m. next_floor l.kept ≤ max m l.kept.floor) kept.2.mark le

    up_later : (l : Later I S) (e : LaterEvent I) → Held p l → Asked p l.world → (i : ℕ) → Up l i → Up (later p l e) i
    up_later l (Happens e) h a i u = up_comes l (later_after p l e) i (event_comes l h a e) u
    up_later l Trims h a i u =
        let le = floor_within l h i u.node u.here u.named in
        record { node = u.node; here = u.here; named = u.named; above = both (next_floor l.kept) ((server_of p l.world.server).marks (ident_of p l.world u.node)) l.kept.floor (client_of p u.node.records) le (a.marks i u.node u.here u.named) u.above }
      where
        each_both : (n x y : ℕ) → n ≤ max x y → (us : List (Unsent I)) → Each (λ (v : Unsent I). x ≤ v.original.base) us → Each (λ (v : Unsent I). y ≤ v.original.base) us → Each (λ (v : Unsent I). n ≤ v.original.base) us
        each_both n x y le [] e f = no_more
        each_both n x y le (v ∷ us) (and_each g e) (and_each k f) = and_each (omega arith) (each_both n x y le us e f)

        both : (n x y : ℕ) (c : Client I S) → n ≤ max x y → Above p x c → Above p y c → Above p n c
        both n x y c le e f = let g = e.cursor in let k = f.cursor in record { cursor = omega arith; bases = each_both n x y le c.unsent e.bases f.bases }

    asked_later : (l : Later I S) (e : LaterEvent I) → Held p l → Asked p l.world → Asked p (later p l e).world
    asked_later l (Happens e) h a = asked_comes l (later_after p l e) (event_comes l h a e) a
    asked_later l Trims h a = a

    up_all : (es : List (LaterEvent I)) (l : Later I S) → Held p l → Asked p l.world → (i : ℕ) → Up l i → Up (all_later p l es) i
    up_all [] l h a i u = u
    up_all (e ∷ es) l h a i u = up_all es (later p l e) (later_held p law built l h e) (asked_later l e h a) i (up_later l e h a i u)

    asked_all : (es : List (LaterEvent I)) (l : Later I S) → Held p l → Asked p l.world → Asked p (all_later p l es).world
    asked_all [] l h a = a
    asked_all (e ∷ es) l h a = asked_all es (later p l e) (later_held p law built l h e) (asked_later l e h a)

    first_asked : Asked p (first_later p).world
    first_asked = record { marks = λ i nd here. absurd (nothing i nd here); asked = λ i nd here. absurd (nothing i nd here) }
      where
        nothing : (i : ℕ) (nd : Node) → at [] i ≡ Some nd → ⊥
        nothing i nd h = cc

    pub stays_above : (l : Later I S) → IsLater p l → (i : ℕ) (nd : Node) → at l.world.clients i ≡ Some nd → ident_of p l.world nd ≢ 0 → IsAbove p l nd → (es : List (LaterEvent I)) (end : Node) → at (all_later p l es).world.clients i ≡ Some end → IsAbove p (all_later p l es) end
    stays_above l r i nd here ne up es end there =
        let h = subst (Held p) r.1 (Rattle.sync_model.proofs.Later.all_held p law built r.0 (first_later p) (first_held p law built)) in
        let a = subst (λ (v : Later I S). Asked p v.world) r.1 (asked_all r.0 (first_later p) (first_held p law built) first_asked) in
        let u = up_all es l h a i (record { node = nd; here = here; named = ne; above = above_at p law built l.world h.holds l.kept.floor i nd here up }) in
        let same : u.node ≡ end = some_same u.node end (sym u.here ∙ there) in
        subst (IsAbove p (all_later p l es)) same (settled_high (all_later p l es).kept.floor (client_of p u.node.records) u.above)
      where
        settled_high : (n : ℕ) (c : Client I S) → Above p n c → n ≤ settled_from c.cursor c.unsent
        settled_high n c a = on c.unsent a.cursor a.bases
          where
            on : (us : List (Unsent I)) → n ≤ c.cursor → Each (λ (u : Unsent I). n ≤ u.original.base) us → n ≤ settled_from c.cursor us
            on [] le e = le
            on (u ∷ us) le (and_each g e) = g
