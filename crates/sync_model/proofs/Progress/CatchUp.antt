-- From every world that events reach a client catches up, or a named exception comes.
use Rattle.std.proofs.Common.{append-nil, ◌≡◌, ◌≢◌, ◌⊎◌, inl, inr, ⊎_elim, ℕ, zero, suc, ◌+◌, ◌-◌, ◌<◌, ◌≤◌, Bool, true, false, List, [], ◌∷◌, ◌++◌, Option, Some, None, refl, sym, ap, ap₂, ◌∙◌, subst, arith, length, length-append, map}
use Rattle.std.specs.Prelude.{bytes_eq}
use Rattle.sync_theory.specs.Logs.{of_origin}
use Rattle.sync_theory.proofs.World.{same_or_not}
use Rattle.sync_model.specs.Bytes.{Name, Uuid}
use Rattle.sync_model.specs.Profile.{Profile, Lawful}
use Rattle.sync_model.specs.Snapshots.{Buildable}
use Rattle.sync_model.specs.Clients.{Client, Unsent, client_of}
use Rattle.sync_model.specs.Servers.{Server, server_of, place_of, count}
use Rattle.sync_model.specs.Worlds.{Node, World, Event, seek, has_name, server_name, outcomes, world_after}
use Rattle.sync_model.specs.Log.{ident_by, ident_of}
use Rattle.sync_model.specs.Progress.{Comes, IsException, IsArmed, IsRoomy, HasCaughtUp, enough, rounds, after_rounds, binds_at, catches_up}
use Rattle.sync_model.proofs.Lists.{place_old}
use Rattle.sync_model.proofs.Progress.Serves.{SameClient}
use Rattle.sync_model.proofs.Progress.Catching.{Goes, Here, holds, at_node, Facts, facts}
use Rattle.sync_model.proofs.Progress.Rounds.{Within, Onward, Bound, bound, caught}
use Rattle.sync_model.proofs.Progress.Valid.{Valid}

-- nothing is left to do
pub record Done {I S : Type 0} (s : Server I) (st : Client I S) : Type 0 where
  pub named : st.ident ≢ 0
  pub cursor : st.cursor ≡ length s.log
  pub unsent : st.unsent ≡ []
  pub all : count s st.ident ≡ length st.made

module _ {I S : Type 0} (p : Profile I S) {Fits Bounded Old : S → Type 0} (law : Lawful p Fits) (built : Buildable p Fits Bounded Old) (roomy : IsRoomy p) where
  module _ (armed unnamed old : Type 0) (w0 : World) (name : Name) (place : ℕ) (nd0 : Node) (not_server : bytes_eq name server_name ≡ false) (arms : w0.stops nd0.name ≢ None → armed) (arms_server : w0.stops server_name ≢ None → armed) where
    abbrev At : World → Server I → Client I S → ℕ → Type 0
    At v s st n = Here p law built (IsException armed unnamed old) armed (λ a. a) w0 name place nd0 not_server arms arms_server v s st n

    abbrev Leads : World → List (Event I) → (World → Type 0) → Type 0
    Leads v es r = Goes p (IsException armed unnamed old) v es r

    abbrev Left : Server I → Client I S → ℕ → Type 0
    Left s st k = Within p law built armed unnamed old w0 name place nd0 not_server arms arms_server roomy s st k

    none_of : {A B : Type 0} (f : A → B) (xs : List A) → length (map f xs) ≡ 0 → xs ≡ []
    none_of f [] e = refl
    none_of f (x ∷ xs) e = absurd (omega arith)

    pub done : {v : World} {s : Server I} {st : Client I S} {n : ℕ} → At v s st n → st.ident ≢ 0 → Left s st 0 → Done s st
    done {v} {s} {st} h ne left =
        let f = facts p law built (IsException armed unnamed old) armed (λ a. a) w0 name place nd0 not_server arms arms_server h ne in
        let within = f.within in
        let owned = f.owned in
        let at_end : st.cursor ≡ length s.log = omega arith in
        let all : count s st.ident ≡ length st.made = omega arith in
        let sent_is : length f.sent ≡ count s st.ident = f.sent_count ∙ ap (λ k. length (of_origin st.ident (Rattle.std.proofs.Common.take k s.log))) at_end ∙ ap (λ l. length (of_origin st.ident l)) (Rattle.sync_model.proofs.Lists.take_all s.log) in
        let l = ap length f.split ∙ length-append f.sent (map (λ u. u.original) st.unsent) in
        record { named = ne; cursor = at_end; unsent = none_of (λ (u : Unsent I). u.original) st.unsent (omega arith); all = all }

    -- a client's ident, as the server has it
    pub ident_is : {v : World} {s : Server I} {st : Client I S} {n : ℕ} (h : At v s st n) → ident_of p v h.node ≡ ident_by s.ids st.id
    ident_is {v} h = ap₂ (λ (x : Server I) (c : Client I S). ident_by x.ids c.id) h.server h.client

    pub ident_named : {v : World} {s : Server I} {st : Client I S} {n : ℕ} (h : At v s st n) → st.ident ≢ 0 → ident_of p v h.node ≡ st.ident
    ident_named {v} {s} {st} h ne = let f = facts p law built (IsException armed unnamed old) armed (λ a. a) w0 name place nd0 not_server arms arms_server h ne in ident_is h ∙ ap (ident_by s.ids) f.born ∙ f.placed

    pub has_caught_up : {v : World} {s : Server I} {st : Client I S} {n : ℕ} (h : At v s st n) → Done s st → HasCaughtUp p v name
    has_caught_up {v} {s} {st} h d = record {
      place = place;
      node = h.node;
      found = h.found;
      named = λ z. d.named (sym (ident_named h d.named) ∙ z);
      current = record {
        cursor = ap (λ c. c.cursor) h.client ∙ d.cursor ∙ ap (λ (x : Server I). length x.log) (sym h.server);
        unsent = ap (λ c. c.unsent) h.client ∙ d.unsent;
      };
    }

    -- every client has its uuid
    pub born_of : {v : World} {s : Server I} {st : Client I S} {n : ℕ} (h : At v s st n) → (id : Uuid) × (st.id ≡ Some id)
    born_of {v} {s} {st} h =
        let i = holds p law built (IsException armed unnamed old) armed (λ a. a) w0 name place nd0 not_server arms arms_server h in
        let w = i.sim.clients place h.node (at_node p law built (IsException armed unnamed old) armed (λ a. a) w0 name place nd0 not_server arms arms_server h) in
        (w.id, ap (λ c. c.id) (sym h.client) ∙ w.born)

    -- ident 0 has no entries
    pub no_zero : {v : World} {s : Server I} {st : Client I S} {n : ℕ} (h : At v s st n) → count s 0 ≡ 0
    no_zero {v} {s} h =
        let i = holds p law built (IsException armed unnamed old) armed (λ a. a) w0 name place nd0 not_server arms arms_server h in
        let a = i.sim.ahead 0 in
        let b = ap length (sym a.1 ∙ i.sim.blank_mades 0 (inl refl)) in
        let l = length-append (of_origin 0 i.n.log) a.0 in
        let c = ap (λ x. length (of_origin 0 x)) (i.sim.log_is ∙ ap (λ (x : Server I). x.log) h.server) in
        omega arith

    -- what is integrated of it isn't less once it is bound
    pub still_count : {v : World} {s s2 : Server I} {st st2 : Client I S} {n m : ℕ} (h : At v s st n) {v2 : World} (h2 : At v2 s2 st2 m) (id : Uuid) → st.id ≡ Some id → Bound p law built armed unnamed old w0 name place nd0 not_server arms arms_server roomy s s2 st st2 id → count s (place_of id s.ids) ≤ count s2 st2.ident
    still_count {v} {s} {s2} {st} {st2} h h2 id born b = on (same_or_not (place_of id s.ids) 0) (facts p law built (IsException armed unnamed old) armed (λ a. a) w0 name place nd0 not_server arms arms_server h2 b.named)
      where
        on : (place_of id s.ids ≡ 0) ⊎ (place_of id s.ids ≢ 0) → Facts p law built (IsException armed unnamed old) armed (λ a. a) w0 name place nd0 not_server arms arms_server s2 st2 → count s (place_of id s.ids) ≤ count s2 st2.ident
        on (inl z) f = let e = ap (count s) z ∙ no_zero h in omega arith
        on (inr nz) f =
            let ids_are : s2.ids ≡ s.ids = b.ids ∙ ap (λ l. s.ids ++ l) (b.none_more nz) ∙ append-nil s.ids in
            let id_is : f.id ≡ id = some f.id id (sym f.born ∙ b.same_id ∙ born) in
            let placed : st2.ident ≡ place_of id s.ids = sym f.placed ∙ ap₂ place_of id_is ids_are in
            let e : count s2 st2.ident ≡ count s (place_of id s.ids) = ap₂ (λ l c. length (of_origin c l)) b.log placed in
            omega arith
          where
            some : (x y : Uuid) → Some x ≡ Some y → x ≡ y
            some x y e = cc

    -- what a client that is bound has left to do
    still_left : {v : World} {s s2 : Server I} {st st2 : Client I S} {n m : ℕ} (h : At v s st n) {v2 : World} (h2 : At v2 s2 st2 m) (id : Uuid) → st.id ≡ Some id → Bound p law built armed unnamed old w0 name place nd0 not_server arms arms_server roomy s s2 st st2 id → (k : ℕ)
        → length s.log + length st.made ≤ st.cursor + count s (place_of id s.ids) + k → Left s2 st2 k
    still_left {v} {s} {s2} {st} {st2} h h2 id born b k left =
        let f = facts p law built (IsException armed unnamed old) armed (λ a. a) w0 name place nd0 not_server arms arms_server h2 b.named in
        let made_is = ap length b.made in
        let log_is = ap length b.log in
        let cursor_is = b.cursor in
        on (same_or_not (place_of id s.ids) 0) f made_is log_is cursor_is
      where
        on : (place_of id s.ids ≡ 0) ⊎ (place_of id s.ids ≢ 0) → Facts p law built (IsException armed unnamed old) armed (λ a. a) w0 name place nd0 not_server arms arms_server s2 st2 → length st2.made ≡ length st.made → length s2.log ≡ length s.log → st2.cursor ≡ st.cursor → Left s2 st2 k
        on (inl z) f made_is log_is cursor_is = let e = ap (count s) z ∙ no_zero h in omega arith
        on (inr nz) f made_is log_is cursor_is =
            let ids_are : s2.ids ≡ s.ids = b.ids ∙ ap (λ l. s.ids ++ l) (b.none_more nz) ∙ append-nil s.ids in
            let id_is : f.id ≡ id = some f.id id (sym f.born ∙ b.same_id ∙ born) in
            let placed : st2.ident ≡ place_of id s.ids = sym f.placed ∙ ap₂ place_of id_is ids_are in
            let e : count s2 st2.ident ≡ count s (place_of id s.ids) = ap₂ (λ l c. length (of_origin c l)) b.log placed in
            omega arith
          where
            some : (x y : Uuid) → Some x ≡ Some y → x ≡ y
            some x y e = cc

    pub start_at : Valid p w0 → seek (has_name name) w0.clients ≡ Some (place, nd0) → (n : ℕ) → length w0.messages ≡ n → At w0 (server_of p w0.server) (client_of p nd0.records) n
    start_at reached found n n_is = record { reached = reached; node = nd0; found = found; name_is = refl; stops = λ x e. e; others = λ j ne. refl; names = refl; client = refl; server = refl; messages = n_is }

    -- a client that is bound, and then does so many rounds
    pub catching : {v : World} {s : Server I} {st : Client I S} {n : ℕ} (h : At v s st n) (id : Uuid) → st.id ≡ Some id → (place_of id s.ids ≡ 0 → unnamed) → (st.second ≡ false → old) → (k : ℕ)
        → length s.log + length st.made ≤ st.cursor + count s (place_of id s.ids) + k → (rest : List (Event I)) (r : World → Type 0)
        → ((v2 : World) (s1 s2 : Server I) (st1 st2 : Client I S) → At v2 s2 st2 (after_rounds (suc (suc n)) k) → Bound p law built armed unnamed old w0 name place nd0 not_server arms arms_server roomy s s1 st st1 id → SameClient p st1 st2 → Onward p law built armed unnamed old w0 name place nd0 not_server arms arms_server roomy s1 s2 st1.ident → Done s2 st2 → Leads v2 rest r)
        → Leads v (binds_at name n ++ (rounds name (suc (suc n)) k ++ rest)) r
    catching {v} {s} {st} {n} h id born new_is old_is k left rest r then_ =
        bound p law built armed unnamed old w0 name place nd0 not_server arms arms_server roomy h id born new_is (rounds name (suc (suc n)) k ++ rest) r (λ v1 s1 st1 h1 b.
        caught p law built armed unnamed old w0 name place nd0 not_server arms arms_server roomy k h1 b.named (λ z. old_is (sym b.second ∙ z)) (still_left h h1 id born b k left) rest r (λ v2 s2 st2 h2 same on none.
        then_ v2 s1 s2 st1 st2 h2 b same on (done h2 (λ z. b.named (sym same.ident ∙ z)) none)))

  module _ (w : World) (reached : Valid p w) (name : Name) (not_server : bytes_eq name server_name ≡ false) (place : ℕ) (nd : Node) (found : seek (has_name name) w.clients ≡ Some (place, nd)) where
    start : Here p law built (IsException (IsArmed p w nd) (ident_of p w nd ≡ 0) ((client_of p nd.records).second ≡ false)) (IsArmed p w nd) (λ a. a) w name place nd not_server (λ h. inl h) (λ h. inr h) w (server_of p w.server) (client_of p nd.records) (length w.messages)
    start = record { reached = reached; node = nd; found = found; name_is = refl; stops = λ x e. e; others = λ j ne. refl; names = refl; client = refl; server = refl; messages = refl }

    pub one_catches_up : (k : ℕ) → enough p w nd ≤ k → Comes (IsException (IsArmed p w nd) (ident_of p w nd ≡ 0) ((client_of p nd.records).second ≡ false)) (outcomes p w (catches_up name (length w.messages) k)) ⊎ HasCaughtUp p (world_after p w (catches_up name (length w.messages) k)) name
    one_catches_up k le =
        let b = born_of (IsArmed p w nd) (ident_of p w nd ≡ 0) ((client_of p nd.records).second ≡ false) w name place nd not_server (λ h. inl h) (λ h. inr h) start in
        let id_is : ident_of p w nd ≡ place_of b.0 (server_of p w.server).ids = ap (ident_by (server_of p w.server).ids) b.1 in
        let c_is = ap (count (server_of p w.server)) id_is in
        subst (λ l. Goes p (IsException (IsArmed p w nd) (ident_of p w nd ≡ 0) ((client_of p nd.records).second ≡ false)) w l (λ v. HasCaughtUp p v name)) (ap (λ l. binds_at name (length w.messages) ++ l) (append-nil (rounds name (suc (suc (length w.messages))) k)))
        (catching (IsArmed p w nd) (ident_of p w nd ≡ 0) ((client_of p nd.records).second ≡ false) w name place nd not_server (λ h. inl h) (λ h. inr h) start b.0 b.1 (λ z. id_is ∙ z) (λ z. z) k (omega arith) [] (λ v. HasCaughtUp p v name)
        (λ v2 s1 s2 st1 st2 h2 bd same on d. inr (has_caught_up (IsArmed p w nd) (ident_of p w nd ≡ 0) ((client_of p nd.records).second ≡ false) w name place nd not_server (λ h. inl h) (λ h. inr h) h2 d)))
