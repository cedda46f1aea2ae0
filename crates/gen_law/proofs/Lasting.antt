-- The first changes stand first in the history, and clients have taken them: both last.
use Rattle.std.proofs.Common.{◌≡◌, ◌≢◌, ◌⊎◌, inr, ⊎_elim, ℕ, zero, suc, ◌+◌, ◌<◌, ◌≤◌, true, false, List, [], ◌∷◌, ◌++◌, Some, None, refl, sym, ap, ◌∙◌, arith, length}
use Rattle.std.specs.Prelude.{bytes_eq}
use Rattle.sync_data.specs.declared.instr.Instr.{Instr}
use Rattle.sync_base.specs.States.{State}
use Rattle.sync_theory.specs.Changesets.{Changeset}
use Rattle.sync_theory.specs.Logs.{Entry as LogEntry}
use Rattle.sync_model.specs.Bytes.{Name}
use Rattle.sync_model.specs.Clients.{Client, client_of}
use Rattle.sync_model.specs.Log.{ident_by, ident_of, log}
use Rattle.sync_model.specs.Messages.{Message}
use Rattle.sync_model.specs.Progress.{Comes, comes_now, comes_later, IsException, asks_at}
use Rattle.sync_model.specs.Servers.{server_of}
use Rattle.sync_model.specs.Worlds.{Event, Node, Words, World, at, has_name, outcomes, seek, server_name, world_after}
use Rattle.sync_model.proofs.Bytes.{bytes_same}
use Rattle.sync_model.proofs.Calling.{NamedAs, named_as}
use Rattle.sync_model.proofs.Lists.{seek_found}
use Rattle.sync_model.proofs.Progress.Catching.{Here}
use Rattle.sync_model.proofs.Progress.Growing.{node_later, server_later}
use Rattle.sync_model.proofs.Progress.Names.{names_apart}
use Rattle.sync_model.proofs.Progress.Rounds.{downloaded}
use Rattle.sync_model.proofs.Progress.Valid.{valid_facts}
use Rattle.sync_base.specs.States.{no_state}
use Rattle.sync_exchange.specs.Lemmas.Buildable.{real_buildable}
use Rattle.sync_exchange.specs.Lemmas.Lawful.{real_lawful}
use Rattle.sync_exchange.specs.Lemmas.Roomy.{real_roomy}
use Rattle.sync_exchange.specs.Profile.{the_profile}
use Rattle.sync_theory.specs.Lists.{ok_state}
use Rattle.sync_model.proofs.Stamps.{apply_is}
use Rattle.sync_gen.specs.Clients.{first_edits_of, name_of}
use Rattle.gen_law.specs.Generated.{after, told}
use Rattle.gen_law.specs.Plans.{IsClient}
use Rattle.gen_law.specs.Refusals.{is_refused}
use Rattle.gen_law.proofs.Answered.{AllTaken, valid}
use Rattle.gen_law.proofs.Eight.{Good, There, there}
use Rattle.gen_law.proofs.Founding.{first_acts, s7, tabled_first}
use Rattle.gen_law.proofs.Histories.{first_entry, tabled_there}
use Rattle.gen_law.proofs.Tables.{Tabled}

some_same : {A : Type 0} (x y : A) → Some x ≡ Some y → x ≡ y
some_same x y e = cc

-- ---- the history begins with the first changes

abbrev pub Begins : World → Type 0
Begins w = (rest : List (LogEntry (Changeset Instr))) × (log the_profile w ≡ first_entry ∷ rest)

pub begins_after : (w : World) → Good 100001 w → (es : List (Event Instr)) → Begins w → Begins (world_after the_profile w es)
begins_after w g es b = let o = server_later the_profile real_lawful real_buildable es w (valid w g) in (b.0 ++ o.log, o.log_is ∙ ap (λ l. l ++ o.log) b.1)

-- ---- a client took them

abbrev pub Far : World → Name → Type 0
Far w name = (t : There w name) → 1 ≤ (client_of the_profile t.node.records).cursor

-- the client of a name stands where it is sought
pub found_so : (w : World) → Good 100001 w → (name : Name) (t : There w name) (i : ℕ) (nd : Node) → at w.clients i ≡ Some nd → has_name name nd ≡ true → t.node ≡ nd
found_so w g name t i nd here named =
    let is : name ≡ nd.name = bytes_same name nd.name named in
    let a = names_apart the_profile w g.reached i nd here in
    ap (λ q. q.1) (some_same (t.place, t.node) (i, nd) (sym t.found ∙ ap (λ n. seek (has_name n) w.clients) is ∙ a.0))

pub far_after : (w : World) → Good 100001 w → (es : List (Event Instr)) → Good 100001 (world_after the_profile w es) → (c : ℕ) → IsClient c → Far w (name_of c) → Far (world_after the_profile w es) (name_of c)
far_after w g es g2 c is far t2 =
    let t = there 100001 w g c is in
    let l = node_later the_profile real_lawful real_buildable es w (valid w g) t.place t.node t.here in
    let passes = (seek_found (has_name (name_of c)) w.clients (t.place, t.node) t.found).passes in
    let same = found_so (world_after the_profile w es) g2 (name_of c) t2 t.place l.node l.here (ap (bytes_eq (name_of c)) l.name ∙ passes) in
    let cursor = l.client.cursor in
    let first = far t in
    let moved = ap (λ (x : Node). (client_of the_profile x.records).cursor) same in
    omega arith

-- ---- such a client has the table

pub tabled_client : (w : World) (g : Good 100001 w) → Begins w → (name : Name) (t : There w name) → Far w name → Tabled (client_of the_profile t.node.records).objects
tabled_client w g b name t far =
    tabled_there s7 (apply_is the_profile first_edits_of no_state ∙ ap ok_state first_acts) tabled_first w (valid_facts the_profile real_lawful real_buildable w (valid w g)) b.0 b.1 t.place t.node t.here
    (λ z. named (sym ident_is ∙ z)) (g.harmless.clients t.place t.node t.here).tables (far t)
  where
    named : (client_of the_profile t.node.records).ident ≢ 0
    named = (g.harmless.clients t.place t.node t.here).named

    x : NamedAs the_profile real_lawful (server_of the_profile w.server) w.injected (valid w g).holds.n (client_of the_profile t.node.records)
    x = named_as the_profile real_lawful (server_of the_profile w.server) w.injected w.clients (valid w g).holds.n (valid w g).holds.sim t.place t.node t.here named

    ident_is : ident_of the_profile w t.node ≡ (client_of the_profile t.node.records).ident
    ident_is = ap (ident_by (server_of the_profile w.server).ids) x.born ∙ x.place

-- ---- where nothing is refused, no exception comes

abbrev Exception : Words → Type 0
Exception = IsException ⊥ ⊥ (Unit {0})

unrefused : (x : Words) → is_refused x ≡ false → Exception x → ⊥
unrefused (Words.Joined name) e h = h
unrefused (Words.Made number) e h = h
unrefused (Words.Messaged place) e h = h
unrefused (Words.Took cursor) e h = h
unrefused (Words.Replied place (Message.Refused ident number code spot)) e h = cc
unrefused (Words.Replied place (Message.Bind id)) e h = h
unrefused (Words.Replied place (Message.Ident id ident)) e h = h
unrefused (Words.Replied place (Message.Upload ident changes)) e h = h
unrefused (Words.Replied place (Message.Ask ident cursor settled)) e h = h
unrefused (Words.Replied place (Message.Download ident from entries)) e h = h
unrefused (Words.Replied place (Message.Stored ident number)) e h = h
unrefused (Words.Replied place (Message.Ask2 ident cursor settled)) e h = h
unrefused (Words.Replied place (Message.Retire ident by)) e h = h
unrefused (Words.Replied place (Message.Retired ident by number)) e h = h
unrefused (Words.Replied place (Message.AskTables ident cursor settled second tables)) e h = h
unrefused Words.Opened e h = h
unrefused Words.Armed e h = h
unrefused Words.Stopped e h = h
unrefused Words.Upgraded e h = h
unrefused Words.Current e h = h
unrefused Words.SubscribedTo e h = h
unrefused (Words.Declined why) e h = cc
unrefused Words.NameTaken e h = cc
unrefused Words.UuidTaken e h = cc
unrefused Words.NoNode e h = cc
unrefused Words.NoMessage e h = cc
unrefused Words.BadMessage e h = cc
unrefused Words.OwnIdent e h = cc

none_comes : (es : List (Event Instr)) (w : World) → AllTaken w es → Comes Exception (outcomes the_profile w es) → ⊥
unfolding after told
none_comes [] w f c = elim c [ ]
none_comes (e ∷ es) w f (comes_now h) = unrefused (told w e) f.0 h
none_comes (e ∷ es) w f (comes_later c) = none_comes es (after w e) f.1 c

-- ---- a client that asks has taken them

pub pulled : (w : World) (g : Good 100001 w) (name : Name) (t : There w name) → Begins w → AllTaken w (asks_at name (length w.messages)) → Far (world_after the_profile w (asks_at name (length w.messages))) name
pulled w g name t b taken t2 = ⊎_elim (λ c. absurd (none_comes (asks_at name (length w.messages)) w taken c)) (λ r. at_end r.0 r.1 r.2) went
  where
    Took : World → Type 0
    Took v = (nd : Node) × (seek (has_name name) v.clients ≡ Some (t.place, nd)) × (1 ≤ (client_of the_profile nd.records).cursor)

    named : (client_of the_profile t.node.records).ident ≢ 0
    named = (g.harmless.clients t.place t.node t.here).named

    some : 0 < length (server_of the_profile w.server).log
    some = let l = ap length b.1 in omega arith

    arms : w.stops t.node.name ≢ None → ⊥
    arms ne = ne (g.harmless.unarmed t.node.name)

    arms_server : w.stops server_name ≢ None → ⊥
    arms_server ne = ne (g.harmless.unarmed server_name)

    start : Here the_profile real_lawful real_buildable (IsException ⊥ ⊥ (Unit {0})) ⊥ (λ a. a) w name t.place t.node t.apart arms arms_server w (server_of the_profile w.server) (client_of the_profile t.node.records) (length w.messages)
    start = record { reached = valid w g; node = t.node; found = t.found; name_is = refl; stops = λ x e. e; others = λ j ne. refl; names = refl; client = refl; server = refl; messages = refl }

    went : Comes (IsException ⊥ ⊥ (Unit {0})) (outcomes the_profile w (asks_at name (length w.messages))) ⊎ Took (world_after the_profile w (asks_at name (length w.messages)))
    went =
        downloaded the_profile real_lawful real_buildable ⊥ ⊥ (Unit {0}) w name t.place t.node t.apart arms arms_server real_roomy start named (λ e. tt) [] Took
        (λ v2 s2 st2 e h marks same cursor bears.
        inr (h.node, h.found, further (client_of the_profile t.node.records).cursor e st2.cursor (client_of the_profile h.node.records).cursor cursor (ap (λ (c : Client Instr State). c.cursor) h.client) (λ z. bears (let s = some in omega arith))))
      where
        further : (k e l m : ℕ) → l ≡ k + e → m ≡ l → (k ≡ 0 → 1 ≤ e) → 1 ≤ m
        further zero e l m l_is m_is f = let h = f refl in omega arith
        further (suc k) e l m l_is m_is f = omega arith

    at_end : (nd : Node) → seek (has_name name) (world_after the_profile w (asks_at name (length w.messages))).clients ≡ Some (t.place, nd) → 1 ≤ (client_of the_profile nd.records).cursor → 1 ≤ (client_of the_profile t2.node.records).cursor
    at_end nd found far = let same : t2.node ≡ nd = ap (λ (q : ℕ × Node). q.1) (some_same (t2.place, t2.node) (t.place, nd) (sym t2.found ∙ found)) in let cursor = ap (λ (x : Node). (client_of the_profile x.records).cursor) same in omega arith
