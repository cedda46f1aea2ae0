-- Where all clients are current, repeats and late deliveries change nothing.
use Rattle.std.proofs.Common.{◌≡◌, ◌≢◌, ⊎_elim, ℕ, zero, suc, ◌+◌, ◌<◌, ◌≤◌, Bool, true, false, ◌&&◌, not, List, [], ◌∷◌, ◌++◌, Option, Some, None, Result, Ok, Err, refl, sym, ap, ap₂, ◌∙◌, subst, arith, if◌then◌else◌, ◌==◌, length, length-append, map, take, drop, nat_le, ◌-◌}
use Rattle.std.specs.Prelude.{bytes_eq, nat_lt}
use Rattle.std.proofs.lemmas.Bool.{le-leb}
use Rattle.sync_theory.specs.Changesets.{Changeset}
use Rattle.sync_theory.specs.Logs.{of_origin}
use Rattle.sync_theory.proofs.World.{same_or_not}
use Rattle.sync_model.specs.Bytes.{Name, Uuid}
use Rattle.sync_model.specs.Profile.{Profile, Lawful}
use Rattle.sync_model.specs.Snapshots.{Buildable}
use Rattle.sync_model.specs.Messages.{Change, Sent, Message, Bind, Ident, Upload, Ask, Download, Refused, Stored, Ask2, Retire, Retired, AskTables}
use Rattle.sync_model.specs.Clients.{Client, ClientRecord, Born, Named, Made, Took, Form, ClientRefusal, ClientStep, NotMine, WasRefused, IdentDiffers, Gap, Unsent, answers, appends, refuse, if_born, ok_list, client_of, after_record, after_records, entry_refusal, take_one, took, take_entries, take_ident, take_born, take as take_message, Subset, Resumed, Waits}
use Rattle.sync_model.specs.Servers.{Server, ServerRecord, Entry, ServerStep, IdentsFull, NoSuchIdent, AheadOfHistory, server_of, after_server, after_all, place_of, count, is_given, serve, serve_changes, merge, merged, download, download_first, if_there, entries_from, refuses, replies, no_server, Settled, marking, marks_new, heir_of, retire_for, SelfRetire, RetiredBy, download_tables}
use Rattle.sync_model.specs.Each.{Each, no_more, and_each}
use Rattle.sync_model.specs.Worlds.{Node, World, Delivers, says, NoNode, at, put, seek, has_name, stopped, server_name, took_words, client_moved, client_ends, client_called, client_calls, server_ends, server_called, is_node, delivers, message_at, happens, world_after}
use Rattle.sync_model.specs.Log.{as_log, ident_of, log, NamedFacts}
use Rattle.sync_model.specs.Progress.{IsCurrent, AllCurrent}
use Rattle.sync_model.proofs.Lists.{at_put, at_put_other, at_below, at_there, at_of_map, seek_found, own_class, own_not_zero, length_map, take_all}
use Rattle.sync_model.proofs.Own.{after_append}
use Rattle.sync_model.proofs.Sim.{uuid_of, uuids, Uploaded, no_changes, a_change, Tells}
use Rattle.sync_model.proofs.Serving.{numbered_at}
use Rattle.sync_model.proofs.Holding.{Holds, server_append, cut_by}
use Rattle.sync_model.proofs.Progress.Valid.{Valid, valid_step}
use Rattle.sync_model.proofs.Progress.Serves.{takes_same}
use Rattle.sync_model.proofs.Progress.Names.{names_of, delivers_names}
use Rattle.sync_model.proofs.Progress.Growing.{node_later}
use Rattle.sync_model.proofs.Progress.Staying.{named, stays_current, all_dropped}

pub each_take : {A : Type 0} {P : A → Type 0} (n : ℕ) {xs : List A} → Each P xs → Each P (take n xs)
each_take zero e = no_more
each_take (suc n) no_more = no_more
each_take (suc n) (and_each h e) = and_each h (each_take n e)

-- records that add nothing to the history
abbrev NoEntry : ServerRecord → Type 0
NoEntry (ServerRecord.Client id) = Unit {0}
NoEntry (Entry origin number base ms body) = ⊥
NoEntry ServerRecord.Form = Unit {0}
NoEntry (ServerRecord.Retired c by) = Unit {0}
NoEntry (ServerRecord.Settled c k) = Unit {0}
NoEntry (ServerRecord.Part body) = Unit {0}
NoEntry (ServerRecord.Floor version) = Unit {0}
NoEntry (ServerRecord.Count c number base settled) = Unit {0}
NoEntry (ServerRecord.Carried origin number base ms body) = Unit {0}
NoEntry (ServerRecord.Past c version ms body) = Unit {0}

-- what a client appends where it takes a message
abbrev pub IsTold : ClientRecord → Type 0
IsTold (Born id) = ⊥
IsTold (Named ident) = Unit {0}
IsTold (Made number ms body) = ⊥
IsTold (Took origin number ms body) = Unit {0}
IsTold Form = ⊥
IsTold (Subset tables) = ⊥
IsTold (ClientRecord.Part body) = ⊥
IsTold (ClientRecord.Floor version) = ⊥
IsTold (Resumed number waiting) = ⊥
IsTold (Waits number base ms body current) = ⊥

at_suc : {A : Type 0} (xs : List A) (i : ℕ) (x : A) → at xs i ≡ Some x → i < length xs
at_suc xs i x h = at_below xs i x h

module _ {I S : Type 0} (p : Profile I S) where
  log_same : (rs : List ServerRecord) (s : Server I) → Each NoEntry rs → (after_all p s rs).log ≡ s.log
  log_same [] s e = refl
  log_same (ServerRecord.Client id ∷ rs) s (and_each h e) = log_same rs (after_server p s (ServerRecord.Client id)) e
  log_same (Entry origin number base ms body ∷ rs) s (and_each h e) = absurd h
  log_same (ServerRecord.Form ∷ rs) s (and_each h e) = log_same rs (after_server p s ServerRecord.Form) e
  log_same (ServerRecord.Retired c by ∷ rs) s (and_each h e) = log_same rs (after_server p s (ServerRecord.Retired c by)) e
  log_same (ServerRecord.Settled c k ∷ rs) s (and_each h e) = log_same rs (after_server p s (ServerRecord.Settled c k)) e
  log_same (ServerRecord.Part body ∷ rs) s (and_each h e) = log_same rs s e
  log_same (ServerRecord.Floor version ∷ rs) s (and_each h e) = log_same rs s e
  log_same (ServerRecord.Count c number base settled ∷ rs) s (and_each h e) = log_same rs s e
  log_same (ServerRecord.Carried origin number base ms body ∷ rs) s (and_each h e) = log_same rs s e
  log_same (ServerRecord.Past c version ms body ∷ rs) s (and_each h e) = log_same rs s e

  made_same : (rs : List ClientRecord) (c : Client I S) → Each IsTold rs → (after_records p c rs).made ≡ c.made
  made_same [] c e = refl
  made_same (Born id ∷ rs) c (and_each h e) = absurd h
  made_same (Named ident ∷ rs) c (and_each h e) = made_same rs (after_record p c (Named ident)) e
  made_same (Made number ms body ∷ rs) c (and_each h e) = absurd h
  made_same (Took origin number ms body ∷ rs) c (and_each h e) = made_same rs (after_record p c (Took origin number ms body)) e ∙ (takes_same p c (record { origin = origin; number = number; ms = ms; instrs = ok_list (p.unspell body) })).0.made
  made_same (Form ∷ rs) c (and_each h e) = absurd h
  made_same (Subset tables ∷ rs) c (and_each h e) = absurd h
  made_same (ClientRecord.Part body ∷ rs) c (and_each h e) = absurd h
  made_same (ClientRecord.Floor version ∷ rs) c (and_each h e) = absurd h
  made_same (Resumed number waiting ∷ rs) c (and_each h e) = absurd h
  made_same (Waits number base ms body current ∷ rs) c (and_each h e) = absurd h

  tooks : (es : List Sent) (c : Client I S) → Each IsTold (take_entries p c es).records
  tooks [] c = no_more
  tooks (e ∷ es) c = go (entry_refusal p c e) (tooks es (after_record p c (took e)))
    where
      go : (r : Option ClientRefusal) → Each IsTold (take_entries p (after_record p c (took e)) es).records → Each IsTold (take_one r (took e) (take_entries p (after_record p c (took e)) es)).records
      go (Some why) rec = no_more
      go None rec = and_each tt rec

  pub takes_told : (c : Client I S) (m : Message) → Each IsTold (take_message p c m).records
  takes_told c m = at_id c.id
    where
      choose : {A : Type 0} (b : Bool) (x y : ClientStep A) → Each IsTold x.records → Each IsTold y.records → Each IsTold (if b then x else y).records
      choose true x y e f = e
      choose false x y e f = f

      on : (m : Message) (id : Uuid) → Each IsTold (take_born p c m id).records
      on (Bind u) id = no_more
      on (Upload d hs) id = no_more
      on (Ask d k s) id = no_more
      on (Ask2 d k s) id = no_more
      on (Retire d by) id = no_more
      on (Retired d by k) id = no_more
      on (AskTables d k s second tables) id = no_more
      on (Ident u d) id = choose (bytes_eq u id) (take_ident c d) (refuse NotMine) (choose (c.ident == 0) (appends (Named d) c.cursor) (if c.ident == d then answers c.cursor else refuse (IdentDiffers c.ident d)) (and_each tt no_more) (choose (c.ident == d) (answers c.cursor) (refuse (IdentDiffers c.ident d)) no_more no_more)) no_more
      on (Stored d number) id = choose (d == c.ident) (answers c.cursor) (refuse NotMine) no_more no_more
      on (Refused d number code place) id = choose {A = ℕ} (d == c.ident) (refuse (WasRefused number code)) (refuse NotMine) no_more no_more
      on (Download d from es) id = choose (d == c.ident) (if nat_lt c.cursor from then refuse (Gap c.cursor from) else take_entries p c (drop (Rattle.std.proofs.Common.◌-◌ c.cursor from) es)) (refuse NotMine) (choose (nat_lt c.cursor from) (refuse (Gap c.cursor from)) (take_entries p c (drop (Rattle.std.proofs.Common.◌-◌ c.cursor from) es)) no_more (tooks (drop (Rattle.std.proofs.Common.◌-◌ c.cursor from) es) c)) no_more

      at_id : (o : Option Uuid) → Each IsTold (if_born o (take_born p c m)).records
      at_id None = no_more
      at_id (Some id) = on m id

  -- what a server appends where no change is new
  abbrev Repeats : Server I → Message → Type 0
  Repeats s (Upload c hs) = Each (λ h. h.number ≤ count s c) hs
  Repeats s m = Unit {0}

  repeated : (hs : List Change) (s : Server I) (c : ℕ) → Each (λ h. h.number ≤ count s c) hs → Each NoEntry (serve_changes p s c hs).records
  repeated [] s c e = no_more
  repeated (h ∷ hs) s c (and_each le e) = go (nat_le h.number (count s c)) (le-leb h.number (count s c) le) (repeated hs s c e)
    where
      go : (b : Bool) → b ≡ true → Each NoEntry (serve_changes p s c hs).records → Each NoEntry (if b then serve_changes p s c hs else merged c h.number (merge p s c h) (λ new. serve_changes p (after_all p s new) c hs)).records
      go true is rec = rec
      go false is rec = cc

  -- an Ask may mark what its client settled
  asked : (s : Server I) (c k settled : ℕ) (f : List (Changeset I) → ServerStep) → Each NoEntry (if_there p s c k settled f).records
  asked s c k settled f = go (is_given s c) (nat_lt (length s.log) k)
    where
      marked : (b : Bool) → Each NoEntry (if b then Settled c settled ∷ [] else [])
      marked true = and_each tt no_more
      marked false = no_more

      go : (a b : Bool) → Each NoEntry (if not a then refuses c 0 (NoSuchIdent (length s.ids)) else (if b then refuses c 0 (AheadOfHistory (length s.log)) else marking c (s.marks c) k settled (f (entries_from p s.log (length s.log - k) k)).answer)).records
      go false b = no_more
      go true true = no_more
      go true false = marked (marks_new (s.marks c) k settled (f (entries_from p s.log (length s.log - k) k)).answer)

  serves_none : (s : Server I) (m : Message) → Repeats s m → Each NoEntry (serve p s m).records
  serves_none s (Bind u) e = go (place_of u s.ids == 0) (length s.ids == p.full)
    where
      go : (a b : Bool) → Each NoEntry (if not a then replies (Ident u (place_of u s.ids)) else (if b then refuses 0 0 (IdentsFull (length s.ids)) else record { records = ServerRecord.Client u ∷ []; answer = Ident u (suc (length s.ids)) })).records
      go false b = no_more
      go true true = no_more
      go true false = and_each tt no_more
  serves_none s (Upload c hs) e = go (is_given s c)
    where
      go : (a : Bool) → Each NoEntry (if a then serve_changes p s c hs else refuses c 0 (NoSuchIdent (length s.ids))).records
      go true = repeated hs s c e
      go false = no_more
  serves_none s (Ask c k t) e = asked s c k t (download_first p c k)
  serves_none s (Ask2 c k t) e = asked s c k t (download p c k)
  serves_none s (AskTables c k t second tables) e = asked s c k t (download_tables p second tables c k)
  serves_none s (Retire c by) e = retires (is_given s c && is_given s by) (c == by) (heir_of c s.retired)
    where
      for_whom : (o : Option ℕ) → Each NoEntry (retire_for s c by o).records
      for_whom None = and_each tt no_more
      for_whom (Some other) = go (other == by)
        where
          go : (b : Bool) → Each NoEntry (if b then replies (Message.Retired c by (count s c)) else refuses by 0 (RetiredBy other)).records
          go true = no_more
          go false = no_more

      retires : (a b : Bool) (o : Option ℕ) → Each NoEntry (if not a then refuses by 0 (NoSuchIdent (length s.ids)) else (if b then refuses by 0 (SelfRetire c) else retire_for s c by o)).records
      retires false b o = no_more
      retires true true o = no_more
      retires true false o = for_whom o
  serves_none s (Ident u c) e = no_more
  serves_none s (Download c k es) e = no_more
  serves_none s (Stored c k) e = no_more
  serves_none s (Refused c k a b) e = no_more
  serves_none s (Retired c by k) e = no_more

  -- ---- a delivery

  -- nothing is added to the history or to what anybody made
  pub record Still (w v : World) : Type 0 where
    pub log_is : log p v ≡ log p w
    pub made : (i : ℕ) (nd end : Node) → at w.clients i ≡ Some nd → at v.clients i ≡ Some end → (client_of p end.records).made ≡ (client_of p nd.records).made

  same_world : (w : World) → Still w w
  same_world w = record { log_is = refl; made = λ i nd end h g. let one : nd ≡ end = cc in ap (λ (x : Node). (client_of p x.records).made) (sym one) }

  moved_still : (w : World) (q : ℕ × Node) (rs : List ClientRecord) → at w.clients q.0 ≡ Some q.1 → Each IsTold rs → (i : ℕ) (nd end : Node) → at w.clients i ≡ Some nd → at (client_moved w q.0 q.1 rs).clients i ≡ Some end → (client_of p end.records).made ≡ (client_of p nd.records).made
  moved_still w q rs here none i nd end h g = ⊎_elim
      (λ is.
      let now = at_put w.clients q.0 q.1 (record { name = q.1.name; records = q.1.records ++ rs }) here in
      let g2 : at (put w.clients q.0 (record { name = q.1.name; records = q.1.records ++ rs })) q.0 ≡ Some end = ap (at (put w.clients q.0 (record { name = q.1.name; records = q.1.records ++ rs }))) (sym is) ∙ g in
      let h2 : at w.clients q.0 ≡ Some nd = ap (at w.clients) (sym is) ∙ h in
      let old : q.1 ≡ nd = cc in
      let new = same (record { name = q.1.name; records = q.1.records ++ rs }) end (sym now ∙ g2) in
      ap (λ (x : Node). (client_of p x.records).made) (sym new) ∙ ap (λ (c : Client I S). c.made) (after_append p _ q.1.records rs) ∙ made_same rs (client_of p q.1.records) none ∙ ap (λ (x : Node). (client_of p x.records).made) old)
      (λ ne.
      let g2 = sym (at_put_other w.clients q.0 i (record { name = q.1.name; records = q.1.records ++ rs }) ne) ∙ g in
      let one = same nd end (sym h ∙ g2) in
      ap (λ (x : Node). (client_of p x.records).made) (sym one))
      (same_or_not i q.0)
    where
      same : (a b : Node) → Some a ≡ Some b → a ≡ b
      same a b e = cc

  took_still : (w : World) (to : Name) (m : Message) → Still w (client_calls p w to (λ c. take_message p c m) took_words).world
  took_still w to m = on (seek (has_name to) w.clients) refl
    where
      on : (o : Option (ℕ × Node)) → seek (has_name to) w.clients ≡ o → Still w (client_called p w (λ c. take_message p c m) took_words o).world
      on None is = same_world w
      on (Some q) is = ends (stopped (w.stops q.1.name) (take_message p (client_of p q.1.records) m).records) refl
        where
          here : at w.clients q.0 ≡ Some q.1
          here = (seek_found (has_name to) w.clients q is).here

          told : (a : Result ℕ ClientRefusal) (v : World) → Still w v → Still w (took_words v a).world
          told (Ok n) v s = s
          told (Err r) v s = s

          ends : (r : Option (List ClientRecord)) → stopped (w.stops q.1.name) (take_message p (client_of p q.1.records) m).records ≡ r → Still w (client_ends w q.0 q.1 (take_message p (client_of p q.1.records) m) took_words r).world
          ends None r_is = told (take_message p (client_of p q.1.records) m).answer (client_moved w q.0 q.1 (take_message p (client_of p q.1.records) m).records) (record { log_is = refl; made = moved_still w q (take_message p (client_of p q.1.records) m).records here (takes_told (client_of p q.1.records) m) })
          ends (Some stand) r_is =
              let c = cut_by (w.stops q.1.name) (take_message p (client_of p q.1.records) m).records stand r_is in
              record { log_is = refl; made = moved_still w q stand here (subst (Each IsTold) c.1 (each_take c.0 (takes_told (client_of p q.1.records) m))) }

  served_still : (w : World) (m : Message) → Repeats (server_of p w.server) m → Still w (server_called p w m).world
  served_still w m e = ends (stopped (w.stops server_name) (serve p (server_of p w.server) m).records) refl
    where
      none : Each NoEntry (serve p (server_of p w.server) m).records
      none = serves_none (server_of p w.server) m e

      ends : (r : Option (List ServerRecord)) → stopped (w.stops server_name) (serve p (server_of p w.server) m).records ≡ r → Still w (server_ends w (serve p (server_of p w.server) m) r).world
      ends None r_is = record { log_is = ap (λ (s : Server I). s.log) (server_append p no_server w.server (serve p (server_of p w.server) m).records) ∙ log_same (serve p (server_of p w.server) m).records (server_of p w.server) none; made = (same_world w).made }
      ends (Some stand) r_is =
          let c = cut_by (w.stops server_name) (serve p (server_of p w.server) m).records stand r_is in
          record { log_is = ap (λ (s : Server I). s.log) (server_append p no_server w.server stand) ∙ log_same stand (server_of p w.server) (subst (Each NoEntry) c.1 (each_take c.0 none)); made = (same_world w).made }

  module _ {Fits Bounded Old : S → Type 0} (law : Lawful p Fits) (built : Buildable p Fits Bounded Old) (w : World) (r : Valid p w) (all : AllCurrent p w) where
    hs_ : Holds p w
    hs_ = r.holds

    -- all that was uploaded is integrated
    whole : (c : ℕ) → Rattle.sync_model.proofs.Lists.class (server_of p w.server).ids (uuids p w.clients) c ≡ true → length (hs_.n.mades c) ≤ count (server_of p w.server) c
    whole c mine =
        let o = own_class (server_of p w.server).ids (uuids p w.clients) c mine in
        let nd = at_of_map (uuid_of p) w.clients o.0 (Some o.1) o.2 in
        let k = hs_.sim.clients o.0 nd.0 nd.1 in
        let is : c ≡ ident_of p w nd.0 = o.3 ∙ sym (ap (Rattle.sync_model.specs.Log.ident_by (server_of p w.server).ids) nd.2) in
        let cur = all o.0 nd.0 nd.1 in
        let f = named p law built w r o.0 nd.0 nd.1 cur.0 in
        let le = all_dropped (length (of_origin (ident_of p w nd.0) (take (client_of p nd.0.records).cursor (log p w)))) (client_of p nd.0.records).made (sym f.rebased ∙ ap (map (λ (u : Unsent I). u.original)) cur.1.unsent) in
        let counted : length (of_origin (ident_of p w nd.0) (take (client_of p nd.0.records).cursor (log p w))) ≡ count (server_of p w.server) c =
        ap₂ (λ d j. length (of_origin d (take j (log p w)))) (sym is) cur.1.cursor ∙ ap (λ x. length (of_origin c x)) (take_all (log p w)) in
        let placed : place_of k.id (server_of p w.server).ids ≡ c = ap (Rattle.sync_model.specs.Log.ident_by (server_of p w.server).ids) (sym k.born) ∙ sym is in
        ⊎_elim
        (λ fresh. absurd (own_not_zero (server_of p w.server).ids (uuids p w.clients) c mine (sym placed ∙ fresh.0)))
        (λ g.
        let m : length (hs_.n.mades c) ≡ length (client_of p nd.0.records).made = ap (λ d. length (hs_.n.mades d)) (sym placed) ∙ ap length g.1.mades ∙ length_map (as_log (place_of k.id (server_of p w.server).ids)) (client_of p nd.0.records).made in
        omega arith)
        k.is

    below : (c k : ℕ) (hs : List Change) → length (hs_.n.mades c) ≤ count (server_of p w.server) c → Uploaded p (hs_.n.mades c) k hs → Each (λ h. h.number ≤ count (server_of p w.server) c) hs
    below c k [] le no_changes = no_more
    below c k (h ∷ hs) le (a_change m here is up) =
        let number = ap (λ (x : Change). x.number) is in
        let n = (numbered_at k m (hs_.sim.numbered c) here).0 in
        let lt = at_below (hs_.n.mades c) k m here in
        and_each (omega arith) (below c (suc k) hs le up)

    repeats : (m : Message) → Tells p hs_.n (server_of p w.server).ids w.clients m → Repeats (server_of p w.server) m
    repeats (Upload c hs) t = below c t.1.from hs (whole c t.0.own) t.1.changes
    repeats (Bind u) t = tt
    repeats (Ident u c) t = tt
    repeats (Ask c k s) t = tt
    repeats (Ask2 c k s) t = tt
    repeats (Download c k es) t = tt
    repeats (Refused c k a b) t = tt
    repeats (Stored c k) t = tt
    repeats (Retire c by) t = tt
    repeats (Retired c by k) t = tt
    repeats (AskTables c k s second tables) t = tt

    pub delivered_still : (k : ℕ) (to : Name) → Still w (happens p w (Delivers k to)).world
    delivered_still k to = go (is_node w to) (message_at w k) refl
      where
        told : (k : ℕ) (m : Message) → message_at w k ≡ Some m → Tells p hs_.n (server_of p w.server).ids w.clients m
        told zero m e = cc
        told (suc k) m e = hs_.tells k m e

        comes : (b : Bool) (m : Message) → message_at w k ≡ Some m → Still w (if b then server_called p w m else client_calls p w to (λ c. take_message p c m) took_words).world
        comes true m e = served_still w m (repeats m (told k m e))
        comes false m e = took_still w to m

        go : (b : Bool) (o : Option Message) → message_at w k ≡ o → Still w (if b then delivers p w to o else says w NoNode).world
        go true None e = same_world w
        go true (Some m) e = comes (bytes_eq to server_name) m e
        go false o e = same_world w

    delivered_names : (k : ℕ) (to : Name) → names_of (happens p w (Delivers k to)).world.clients ≡ names_of w.clients
    delivered_names k to = go (is_node w to)
      where
        go : (b : Bool) → names_of (if b then delivers p w to (message_at w k) else says w NoNode).world.clients ≡ names_of w.clients
        go true = delivers_names p w to (message_at w k)
        go false = refl

    pub delivered_current : (k : ℕ) (to : Name) → AllCurrent p (happens p w (Delivers k to)).world
    delivered_current k to i end g =
        let names = ap length (delivered_names k to) in
        let a = length_map (λ (x : Node). x.name) (happens p w (Delivers k to)).world.clients in
        let b = length_map (λ (x : Node). x.name) w.clients in
        let lt = at_below (happens p w (Delivers k to)).world.clients i end g in
        let old = at_there w.clients i (omega arith) in
        let cur = all i old.0 old.1 in
        let l = node_later p law built (Delivers k to ∷ []) w r i old.0 old.1 in
        let here = l.here in
        let one : l.node ≡ end = same l.node end (sym here ∙ g) in
        let s = delivered_still k to in
        let now = stays_current p law built w r (Delivers k to ∷ []) i old.0 old.1 cur.0 cur.1 (ap length s.log_is) (ap length (s.made i old.0 l.node old.1 here)) in
        let is = Rattle.sync_model.proofs.Progress.Growing.ident_later p law built (Delivers k to ∷ []) w r i old.0 old.1 cur.0 in
        (λ z. cur.0 (sym is ∙ ap (ident_of p (happens p w (Delivers k to)).world) one ∙ z), subst (IsCurrent p (happens p w (Delivers k to)).world) one now)
      where
        same : (a b : Node) → Some a ≡ Some b → a ≡ b
        same a b e = cc

  pub late : {Fits Bounded Old : S → Type 0} → Lawful p Fits → Buildable p Fits Bounded Old → (ds : List (ℕ × Name)) (w : World) → Valid p w → AllCurrent p w
      → AllCurrent p (world_after p w (map (λ d. Delivers d.0 d.1) ds)) × (log p (world_after p w (map (λ d. Delivers d.0 d.1) ds)) ≡ log p w)
  late law built [] w r all = (all, refl)
  late law built (d ∷ ds) w r all =
      let rest = late law built ds (happens p w (Delivers d.0 d.1)).world (valid_step p law built w (Delivers d.0 d.1) r) (delivered_current law built w r all d.0 d.1) in
      (rest.0, rest.1 ∙ (delivered_still law built w r all d.0 d.1).log_is)
