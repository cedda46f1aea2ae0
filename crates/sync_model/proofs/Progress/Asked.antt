-- What a server keeps as settled of an ident, and what its client's questions say, is no more than what the client settled.
use Rattle.std.proofs.Common.{◌≡◌, ◌≢◌, ◌⊎◌, inl, inr, ⊎_elim, ℕ, zero, suc, ◌-◌, ◌<◌, ◌≤◌, Bool, true, false, ◌&&◌, not, List, [], ◌∷◌, ◌++◌, Option, Some, None, Result, Ok, Err, refl, sym, ap, ◌∙◌, subst, arith, if◌then◌else◌, ◌==◌, length, nat_le}
use Rattle.std.specs.Prelude.{bytes_eq, nat_lt}
use Rattle.sync_theory.specs.Changesets.{Changeset}
use Rattle.sync_theory.specs.World.{put_at}
use Rattle.sync_theory.proofs.World.{put_same, put_other, same_or_not}
use Rattle.sync_model.specs.Bytes.{Uuid}
use Rattle.sync_model.specs.Profile.{Profile, needs}
use Rattle.sync_model.specs.Messages.{Change, Message, Bind, Ident, Upload, Ask, Download, Refused, Stored, Ask2, Retire, Retired, AskTables}
use Rattle.sync_model.specs.Clients.{Client, ClientRecord, Born, Named, Made, Took, Form, Subset, Unsent, ok_list, client_of, after_record, after_records, Resumed, Waits}
use Rattle.sync_model.specs.Servers.{Server, ServerRecord, Entry, Settled, ServerRefusal, ServerStep, NoSuchIdent, IdentsFull, AheadOfHistory, SelfRetire, RetiredBy, no_server, server_of, after_server, after_all, place_of, count, is_given, heir_of, merge, merged, marking, marks_new, serve, serve_changes, serve_retire, retire_for, download, download_first, download_tables, if_there, entries_from, refuses, replies}
use Rattle.sync_model.specs.Worlds.{Node, World, at, server_moved}
use Rattle.sync_model.specs.Log.{ident_by, ident_of}
use Rattle.sync_model.specs.Each.{Each, no_more, and_each}
use Rattle.sync_model.proofs.Lists.{place_old}
use Rattle.sync_model.proofs.Sim.{Tells}
use Rattle.sync_model.proofs.Serving.{merging}
use Rattle.sync_model.proofs.Alone.{Opened}
use Rattle.sync_model.proofs.Holding.{Holds, server_append}
use Rattle.sync_model.proofs.Progress.Serves.{takes_same}
use Rattle.sync_model.proofs.Progress.Growing.{server_onto}
use Rattle.sync_model.proofs.Progress.Above.{Above, IsCall, IsReply}

-- ---- questions

-- it asks for an ident, and says what that settled
abbrev pub AskOf : Message → ℕ → ℕ → Type 0
AskOf (Ask c cursor settled) d n = (c ≡ d) × (settled ≡ n)
AskOf (Ask2 c cursor settled) d n = (c ≡ d) × (settled ≡ n)
AskOf (AskTables c cursor settled second tables) d n = (c ≡ d) × (settled ≡ n)
AskOf m d n = ⊥

pub reply_asks : (m : Message) (d n : ℕ) → IsReply m → AskOf m d n → ⊥
reply_asks (Bind u) d n r a = r
reply_asks (Ident u c) d n r a = a
reply_asks (Upload c hs) d n r a = r
reply_asks (Ask c cursor settled) d n r a = r
reply_asks (Ask2 c cursor settled) d n r a = r
reply_asks (AskTables c cursor settled second tables) d n r a = r
reply_asks (Download c from es) d n r a = a
reply_asks (Refused c number code place) d n r a = a
reply_asks (Stored c number) d n r a = a
reply_asks (Retire c by) d n r a = r
reply_asks (Retired c by number) d n r a = a

-- it asks for its ident
abbrev IsBind : Message → Type 0
IsBind (Bind u) = Unit {0}
IsBind m = ⊥

-- what a record of the answer to a message is
abbrev pub Answers : Message → ServerRecord → Type 0
Answers m (Settled c n) = AskOf m c n
Answers m (ServerRecord.Client id) = IsBind m
Answers m (Entry origin number base ms body) = Unit {0}
Answers m ServerRecord.Form = Unit {0}
Answers m (ServerRecord.Retired c by) = Unit {0}
Answers m (ServerRecord.Part body) = Unit {0}
Answers m (ServerRecord.Floor version) = Unit {0}
Answers m (ServerRecord.Count c number base settled) = Unit {0}
Answers m (ServerRecord.Carried origin number base ms body) = Unit {0}
Answers m (ServerRecord.Past c version ms body) = Unit {0}

asks_bind : (m : Message) (d n : ℕ) → AskOf m d n → IsBind m → ⊥
asks_bind (Bind u) d n a b = a
asks_bind (Ident u c) d n a b = a
asks_bind (Upload c hs) d n a b = a
asks_bind (Ask c cursor settled) d n a b = b
asks_bind (Ask2 c cursor settled) d n a b = b
asks_bind (AskTables c cursor settled second tables) d n a b = b
asks_bind (Download c from es) d n a b = a
asks_bind (Refused c number code place) d n a b = a
asks_bind (Stored c number) d n a b = a
asks_bind (Retire c by) d n a b = a
asks_bind (Retired c by number) d n a b = a

-- a uuid that comes later gets a later ident
place_behind : (u : Uuid) (vs ws : List Uuid) → place_of u vs ≡ 0 → place_of u (vs ++ ws) ≢ 0 → length vs < place_of u (vs ++ ws)
place_behind u [] ws z ne = omega (arith, ne)
place_behind u (v ∷ vs) ws z ne = go (bytes_eq u v) (place_of u vs) refl z (place_of u (vs ++ ws)) refl ne (place_behind u vs ws)
  where
    go : (b : Bool) (k : ℕ) → place_of u vs ≡ k → (if b then 1 else Rattle.sync_model.specs.Servers.one_on k) ≡ 0 → (j : ℕ) → place_of u (vs ++ ws) ≡ j → (if b then 1 else Rattle.sync_model.specs.Servers.one_on j) ≢ 0 → (place_of u vs ≡ 0 → place_of u (vs ++ ws) ≢ 0 → length vs < place_of u (vs ++ ws)) → suc (length vs) < (if b then 1 else Rattle.sync_model.specs.Servers.one_on j)
    go true k k_is z j j_is n rec = absurd (omega arith)
    go false (suc k) k_is z j j_is n rec = absurd (omega arith)
    go false zero k_is z zero j_is n rec = absurd (n refl)
    go false zero k_is z (suc j) j_is n rec = let lt = rec k_is (λ e. absurd (omega arith)) in omega arith

module _ {I S : Type 0} (p : Profile I S) where
  -- ---- what a server appends

  upload_answers : (m : Message) (hs : List Change) (s : Server I) (c : ℕ) → Each (Answers m) (serve_changes p s c hs).records
  upload_answers m [] s c = no_more
  upload_answers m (h ∷ hs) s c = go (nat_le h.number (count s c)) (merge p s c h) refl (upload_answers m hs)
    where
      both : (xs ys : List ServerRecord) → Each (Answers m) xs → Each (Answers m) ys → Each (Answers m) (xs ++ ys)
      both xs ys e f = Rattle.sync_model.proofs.Limits.each_append e f

      new_ones : (b : Bool) → Each (Answers m) ((if b then ServerRecord.Form ∷ [] else []) ++ Entry c h.number h.base h.ms h.body ∷ [])
      new_ones true = and_each tt (and_each tt no_more)
      new_ones false = and_each tt no_more

      go : (b : Bool) (r : Result (List ServerRecord) ServerRefusal) → merge p s c h ≡ r → ((t : Server I) (d : ℕ) → Each (Answers m) (serve_changes p t d hs).records) → Each (Answers m) (if b then serve_changes p s c hs else merged c h.number r (λ new. serve_changes p (after_all p s new) c hs)).records
      go true r is rec = rec s c
      go false (Ok new) is rec =
          let g = merging p s c h new is in
          both new (serve_changes p (after_all p s new) c hs).records (subst (Each (Answers m)) (sym g.new_is) (new_ones (needs p g.instrs && not s.second))) (rec (after_all p s new) c)
      go false (Err why) is rec = no_more

  ask_answers : (m : Message) (s : Server I) (c k settled : ℕ) (f : List (Changeset I) → ServerStep) → AskOf m c settled → Each (Answers m) (if_there p s c k settled f).records
  ask_answers m s c k settled f is = go (is_given s c) (nat_lt (length s.log) k)
    where
      marked : (b : Bool) → Each (Answers m) (if b then Settled c settled ∷ [] else [])
      marked true = and_each is no_more
      marked false = no_more

      go : (a b : Bool) → Each (Answers m) (if not a then refuses c 0 (NoSuchIdent (length s.ids)) else (if b then refuses c 0 (AheadOfHistory (length s.log)) else marking c (s.marks c) k settled (f (entries_from p s.log (length s.log - k) k)).answer)).records
      go false b = no_more
      go true true = no_more
      go true false = marked (marks_new (s.marks c) k settled (f (entries_from p s.log (length s.log - k) k)).answer)

  pub serve_answers : (s : Server I) (m : Message) → Each (Answers m) (serve p s m).records
  serve_answers s (Bind u) = go (place_of u s.ids == 0) (length s.ids == p.full)
    where
      go : (a b : Bool) → Each (Answers (Bind u)) (if not a then replies (Ident u (place_of u s.ids)) else (if b then refuses 0 0 (IdentsFull (length s.ids)) else record { records = ServerRecord.Client u ∷ []; answer = Ident u (suc (length s.ids)) })).records
      go false b = no_more
      go true true = no_more
      go true false = and_each tt no_more
  serve_answers s (Upload c hs) = go (is_given s c)
    where
      go : (a : Bool) → Each (Answers (Upload c hs)) (if a then serve_changes p s c hs else refuses c 0 (NoSuchIdent (length s.ids))).records
      go true = upload_answers (Upload c hs) hs s c
      go false = no_more
  serve_answers s (Ask c k t) = ask_answers (Ask c k t) s c k t (download_first p c k) (refl, refl)
  serve_answers s (Ask2 c k t) = ask_answers (Ask2 c k t) s c k t (download p c k) (refl, refl)
  serve_answers s (AskTables c k t second tables) = ask_answers (AskTables c k t second tables) s c k t (download_tables p second tables c k) (refl, refl)
  serve_answers s (Retire c by) = go (is_given s c && is_given s by) (c == by) (heir_of c s.retired)
    where
      for_whom : (o : Option ℕ) → Each (Answers (Retire c by)) (retire_for s c by o).records
      for_whom None = and_each tt no_more
      for_whom (Some other) = same (other == by)
        where
          same : (b : Bool) → Each (Answers (Retire c by)) (if b then replies (Message.Retired c by (count s c)) else refuses by 0 (RetiredBy other)).records
          same true = no_more
          same false = no_more

      go : (a b : Bool) (o : Option ℕ) → Each (Answers (Retire c by)) (if not a then refuses by 0 (NoSuchIdent (length s.ids)) else (if b then refuses by 0 (SelfRetire c) else retire_for s c by o)).records
      go false b o = no_more
      go true true o = no_more
      go true false o = for_whom o
  serve_answers s (Ident u c) = no_more
  serve_answers s (Download c k es) = no_more
  serve_answers s (Stored c k) = no_more
  serve_answers s (Refused c k a b) = no_more
  serve_answers s (Retired c by k) = no_more

  -- a settled number is as before, or the question says it
  marks_after : (m : Message) (d : ℕ) (rs : List ServerRecord) (s : Server I) → Each (Answers m) rs → ((after_all p s rs).marks d ≡ s.marks d) ⊎ ((n : ℕ) × AskOf m d n × ((after_all p s rs).marks d ≡ n))
  marks_after m d [] s e = inl refl
  marks_after m d (Settled c n ∷ rs) s (and_each h e) = ⊎_elim
      (λ same. ⊎_elim
      (λ is. inr (n, subst (λ x. AskOf m x n) (sym is) h, same ∙ ap (put_at c n s.marks) is ∙ put_same c n s.marks))
      (λ ne. inl (same ∙ put_other c n s.marks d ne))
      (same_or_not d c))
      (λ new. inr new)
      (marks_after m d rs (after_server p s (Settled c n)) e)
  marks_after m d (ServerRecord.Client id ∷ rs) s (and_each h e) = marks_after m d rs (after_server p s (ServerRecord.Client id)) e
  marks_after m d (Entry origin number base ms body ∷ rs) s (and_each h e) = marks_after m d rs (after_server p s (Entry origin number base ms body)) e
  marks_after m d (ServerRecord.Form ∷ rs) s (and_each h e) = marks_after m d rs (after_server p s ServerRecord.Form) e
  marks_after m d (ServerRecord.Retired c by ∷ rs) s (and_each h e) = marks_after m d rs (after_server p s (ServerRecord.Retired c by)) e
  marks_after m d (ServerRecord.Part body ∷ rs) s (and_each h e) = marks_after m d rs s e
  marks_after m d (ServerRecord.Floor version ∷ rs) s (and_each h e) = marks_after m d rs s e
  marks_after m d (ServerRecord.Count c number base settled ∷ rs) s (and_each h e) = marks_after m d rs s e
  marks_after m d (ServerRecord.Carried origin number base ms body ∷ rs) s (and_each h e) = marks_after m d rs s e
  marks_after m d (ServerRecord.Past c version ms body ∷ rs) s (and_each h e) = marks_after m d rs s e

  -- a question gives no ident
  ids_after_ask : (m : Message) (d n : ℕ) → AskOf m d n → (rs : List ServerRecord) (s : Server I) → Each (Answers m) rs → (after_all p s rs).ids ≡ s.ids
  ids_after_ask m d n a [] s e = refl
  ids_after_ask m d n a (Settled c k ∷ rs) s (and_each h e) = ids_after_ask m d n a rs (after_server p s (Settled c k)) e
  ids_after_ask m d n a (ServerRecord.Client id ∷ rs) s (and_each h e) = absurd (asks_bind m d n a h)
  ids_after_ask m d n a (Entry origin number base ms body ∷ rs) s (and_each h e) = ids_after_ask m d n a rs (after_server p s (Entry origin number base ms body)) e
  ids_after_ask m d n a (ServerRecord.Form ∷ rs) s (and_each h e) = ids_after_ask m d n a rs (after_server p s ServerRecord.Form) e
  ids_after_ask m d n a (ServerRecord.Retired c by ∷ rs) s (and_each h e) = ids_after_ask m d n a rs (after_server p s (ServerRecord.Retired c by)) e
  ids_after_ask m d n a (ServerRecord.Part body ∷ rs) s (and_each h e) = ids_after_ask m d n a rs s e
  ids_after_ask m d n a (ServerRecord.Floor version ∷ rs) s (and_each h e) = ids_after_ask m d n a rs s e
  ids_after_ask m d n a (ServerRecord.Count c number base settled ∷ rs) s (and_each h e) = ids_after_ask m d n a rs s e
  ids_after_ask m d n a (ServerRecord.Carried origin number base ms body ∷ rs) s (and_each h e) = ids_after_ask m d n a rs s e
  ids_after_ask m d n a (ServerRecord.Past c version ms body ∷ rs) s (and_each h e) = ids_after_ask m d n a rs s e

  -- ---- what holds of a world

  -- it is known of no client that it settled more than it did
  pub record Asked (w : World) : Type 0 where
    pub marks : (i : ℕ) (nd : Node) → at w.clients i ≡ Some nd → ident_of p w nd ≢ 0 → Above p ((server_of p w.server).marks (ident_of p w nd)) (client_of p nd.records)
    pub asked : (i : ℕ) (nd : Node) → at w.clients i ≡ Some nd → ident_of p w nd ≢ 0 → (k : ℕ) (m : Message) (n : ℕ) → at w.messages k ≡ Some m → AskOf m (ident_of p w nd) n → Above p n (client_of p nd.records)

  above_none : (c : Client I S) → Above p 0 c
  above_none c = record { cursor = omega arith; bases = each_zero c.unsent }
    where
      each_zero : (us : List (Unsent I)) → Each (λ (u : Unsent I). 0 ≤ u.original.base) us
      each_zero [] = no_more
      each_zero (u ∷ us) = and_each (omega arith) (each_zero us)

  -- what is told of a message of the exchange
  asks_given : (w : World) (h : Holds p w) (m : Message) → Tells p h.n (server_of p w.server).ids w.clients m → (d n : ℕ) → AskOf m d n → d ≤ length (server_of p w.server).ids
  asks_given w h (Ask c cursor settled) t d n a = subst (λ x. x ≤ length (server_of p w.server).ids) a.0 t.0.there
  asks_given w h (Ask2 c cursor settled) t d n a = subst (λ x. x ≤ length (server_of p w.server).ids) a.0 t.0.there
  asks_given w h (AskTables c cursor settled second tables) t d n a = subst (λ x. x ≤ length (server_of p w.server).ids) a.0 t.0.there
  asks_given w h (Bind u) t d n a = absurd a
  asks_given w h (Ident u c) t d n a = absurd a
  asks_given w h (Upload c hs) t d n a = absurd a
  asks_given w h (Download c from es) t d n a = absurd a
  asks_given w h (Refused c number code place) t d n a = absurd a
  asks_given w h (Stored c number) t d n a = absurd a
  asks_given w h (Retire c by) t d n a = absurd a
  asks_given w h (Retired c by number) t d n a = absurd a

  -- ---- the server answers

  pub server_asked : (w : World) (h : Holds p w) → Opened p (server_of p w.server) → Asked w → (m : Message)
      → ((i : ℕ) (nd : Node) (n : ℕ) → at w.clients i ≡ Some nd → ident_of p w nd ≢ 0 → AskOf m (ident_of p w nd) n → Above p n (client_of p nd.records))
      → (rs : List ServerRecord) → Each (Answers m) rs → (msgs : List Message) → ((k : ℕ) (x : Message) → at msgs k ≡ Some x → (at w.messages k ≡ Some x) ⊎ IsReply x) → Asked (record (server_moved w rs) { messages = msgs })
  server_asked w h opened a m known rs answers msgs fine = record {
    marks = λ i nd here named. marked i nd here (h.sim.clients i nd here).id (h.sim.clients i nd here).born named;
    asked = λ i nd here named k x n there ask. questioned i nd here (h.sim.clients i nd here).id (h.sim.clients i nd here).born named k x n there ask;
  }
    where
      s : Server I
      s = server_of p w.server

      t : Server I
      t = server_of p (w.server ++ rs)

      t_is : server_of p (w.server ++ rs) ≡ after_all p (server_of p w.server) rs
      t_is = server_append p no_server w.server rs

      more : Rattle.sync_model.proofs.Progress.Growing.ServerOnto p (server_of p w.server) (after_all p (server_of p w.server) rs)
      more = server_onto p rs (server_of p w.server)

      ids_are : (server_of p (w.server ++ rs)).ids ≡ (server_of p w.server).ids ++ more.ids
      ids_are = ap (λ (x : Server I). x.ids) t_is ∙ more.ids_are

      was : (nd : Node) (id : Uuid) → (client_of p nd.records).id ≡ Some id → ident_of p w nd ≡ place_of id (server_of p w.server).ids
      was nd id born = ap (ident_by (server_of p w.server).ids) born

      now : (nd : Node) (id : Uuid) → (client_of p nd.records).id ≡ Some id → ident_by (server_of p (w.server ++ rs)).ids (client_of p nd.records).id ≡ place_of id ((server_of p w.server).ids ++ more.ids)
      now nd id born = ap (ident_by (server_of p (w.server ++ rs)).ids) born ∙ ap (place_of id) ids_are

      -- a client keeps its ident, or gets a new one
      old_or_new : (nd : Node) (id : Uuid) → (client_of p nd.records).id ≡ Some id → ident_by (server_of p (w.server ++ rs)).ids (client_of p nd.records).id ≢ 0
          → ((ident_of p w nd ≢ 0) × (ident_by (server_of p (w.server ++ rs)).ids (client_of p nd.records).id ≡ ident_of p w nd))
          ⊎ ((place_of id (server_of p w.server).ids ≡ 0) × (length (server_of p w.server).ids < ident_by (server_of p (w.server ++ rs)).ids (client_of p nd.records).id))
      old_or_new nd id born named = ⊎_elim
          (λ z. inr (z, let e = now nd id born in let lt = place_behind id (server_of p w.server).ids more.ids z (λ y. named (now nd id born ∙ y)) in omega arith))
          (λ ne. inl ((λ z. ne (sym (was nd id born) ∙ z)), now nd id born ∙ place_old id (server_of p w.server).ids more.ids ne ∙ sym (was nd id born)))
          (same_or_not (place_of id (server_of p w.server).ids) 0)

      marks_are : (d : ℕ) → ((server_of p (w.server ++ rs)).marks d ≡ (server_of p w.server).marks d) ⊎ ((n : ℕ) × AskOf m d n × ((server_of p (w.server ++ rs)).marks d ≡ n))
      marks_are d = subst (λ (x : Server I). (x.marks d ≡ (server_of p w.server).marks d) ⊎ ((n : ℕ) × AskOf m d n × (x.marks d ≡ n))) (sym t_is) (marks_after m d rs (server_of p w.server) answers)

      marked : (i : ℕ) (nd : Node) → at w.clients i ≡ Some nd → (id : Uuid) → (client_of p nd.records).id ≡ Some id → ident_by (server_of p (w.server ++ rs)).ids (client_of p nd.records).id ≢ 0
          → Above p ((server_of p (w.server ++ rs)).marks (ident_by (server_of p (w.server ++ rs)).ids (client_of p nd.records).id)) (client_of p nd.records)
      marked i nd here id born named = ⊎_elim
          (λ old. subst (λ c. Above p ((server_of p (w.server ++ rs)).marks c) (client_of p nd.records)) (sym old.1) (⊎_elim
          (λ same. subst (λ n. Above p n (client_of p nd.records)) (sym same) (a.marks i nd here old.0))
          (λ new. subst (λ n. Above p n (client_of p nd.records)) (sym new.2) (known i nd new.0 here old.0 new.1))
          (marks_are (ident_of p w nd))))
          (λ fresh. ⊎_elim
          (λ same. subst (λ n. Above p n (client_of p nd.records)) (sym (same ∙ opened.blank_marks (ident_by (server_of p (w.server ++ rs)).ids (client_of p nd.records).id) (inr fresh.1))) (above_none (client_of p nd.records)))
          (λ new. absurd (named (ap (ident_by (server_of p (w.server ++ rs)).ids) born ∙ ap (place_of id) (ap (λ (x : Server I). x.ids) t_is ∙ ids_after_ask m _ new.0 new.1 rs (server_of p w.server) answers) ∙ fresh.0)))
          (marks_are (ident_by (server_of p (w.server ++ rs)).ids (client_of p nd.records).id)))
          (old_or_new nd id born named)

      questioned : (i : ℕ) (nd : Node) → at w.clients i ≡ Some nd → (id : Uuid) → (client_of p nd.records).id ≡ Some id → ident_by (server_of p (w.server ++ rs)).ids (client_of p nd.records).id ≢ 0
          → (k : ℕ) (x : Message) (n : ℕ) → at msgs k ≡ Some x → AskOf x (ident_by (server_of p (w.server ++ rs)).ids (client_of p nd.records).id) n → Above p n (client_of p nd.records)
      questioned i nd here id born named k x n there ask = ⊎_elim
          (λ sent. ⊎_elim
          (λ old. a.asked i nd here old.0 k x n sent (subst (λ c. AskOf x c n) old.1 ask))
          (λ fresh. let le = asks_given w h x (h.tells k x sent) (ident_by (server_of p (w.server ++ rs)).ids (client_of p nd.records).id) n ask in let lt = fresh.1 in absurd (omega arith))
          (old_or_new nd id born named))
          (λ reply. absurd (reply_asks x (ident_by (server_of p (w.server ++ rs)).ids (client_of p nd.records).id) n reply ask))
          (fine k x there)

  -- ---- anything else happens

  pub called_id : (rs : List ClientRecord) (c : Client I S) → Each IsCall rs → (after_records p c rs).id ≡ c.id
  called_id [] c e = refl
  called_id (Named ident ∷ rs) c (and_each h e) = called_id rs (after_record p c (Named ident)) e
  called_id (Made number ms body ∷ rs) c (and_each h e) = called_id rs (after_record p c (Made number ms body)) e
  called_id (Took origin number ms body ∷ rs) c (and_each h e) = called_id rs (after_record p c (Took origin number ms body)) e ∙ (takes_same p c (record { origin = origin; number = number; ms = ms; instrs = ok_list (p.unspell body) })).0.id
  called_id (Form ∷ rs) c (and_each h e) = called_id rs (after_record p c Form) e
  called_id (Subset tables ∷ rs) c (and_each h e) = called_id rs (after_record p c (Subset tables)) e
  called_id (Born id ∷ rs) c (and_each h e) = absurd h
  called_id (ClientRecord.Part body ∷ rs) c (and_each h e) = absurd h
  called_id (ClientRecord.Floor version ∷ rs) c (and_each h e) = absurd h
  called_id (Resumed number waiting ∷ rs) c (and_each h e) = absurd h
  called_id (Waits number base ms body current ∷ rs) c (and_each h e) = absurd h
