-- A round among other events: what it brings, or an exception comes.
use Rattle.std.proofs.Common.{◌≡◌, ◌≢◌, ◌⊎◌, inl, inr, ⊎_elim, ℕ, ◌+◌, ◌-◌, ◌≤◌, Bool, true, false, List, [], ◌∷◌, Some, refl, sym, ◌∙◌, subst, arith, length, map}
use Rattle.sync_model.specs.Bytes.{Name}
use Rattle.sync_model.specs.Profile.{Profile, Lawful, restricted}
use Rattle.sync_model.specs.Snapshots.{Buildable}
use Rattle.sync_model.specs.Messages.{Change, Sent, Upload, Download}
use Rattle.sync_model.specs.Clients.{client_of, to_upload, question}
use Rattle.sync_model.specs.Servers.{server_of, count, entries_from}
use Rattle.sync_model.specs.Worlds.{Node, World, Uploads, Asks, Delivers, Words, at, server_name, message_at, happens}
use Rattle.sync_model.specs.Each.{Each, no_more, and_each}
use Rattle.sync_model.specs.Log.{log}
use Rattle.sync_model.specs.Progress.{Comes, comes_now, comes_later, IsException}
use Rattle.sync_model.proofs.Progress.Valid.{Valid, valid_step}
use Rattle.sync_model.proofs.Progress.Growing.{count_longer}
use Rattle.progress_law.specs.Among.{Beside, next, at_upload, at_store, at_ask, at_answer, at_take, after_round, own_words}
use Rattle.progress_law.proofs.Growing.{stays_there}
use Rattle.progress_law.proofs.Since.{Since, since, one_node}
use Rattle.progress_law.proofs.Events.{Told, uploads, asks, stores, answers_it, takes_it}

-- five events, each of which may be an exception
in_order : (q : Words → Type 0) {x1 x2 x3 x4 x5 : Words} {A B C D E R : Type 0} → q x1 ⊎ A → (A → q x2 ⊎ B) → q x3 ⊎ C → (C → q x4 ⊎ D) → (D → q x5 ⊎ E) → (B → E → R) → Comes q (x1 ∷ x2 ∷ x3 ∷ x4 ∷ x5 ∷ []) ⊎ R
in_order q first second third fourth fifth all =
    ⊎_elim (λ x. inl (comes_now x)) (λ a.
    ⊎_elim (λ x. inl (comes_later (comes_now x))) (λ b.
    ⊎_elim (λ x. inl (comes_later (comes_later (comes_now x)))) (λ c.
    ⊎_elim (λ x. inl (comes_later (comes_later (comes_later (comes_now x))))) (λ d.
    ⊎_elim (λ x. inl (comes_later (comes_later (comes_later (comes_later (comes_now x)))))) (λ e. inr (all b e))
    (fifth d)) (fourth c)) third) (second a)) first

module _ {I S : Type 0} (p : Profile I S) where
  -- a round was gone through: who it was before each of its events and after them, and what it brought
  pub record Went (name : Name) (w : World) (b : Beside I) (i : ℕ) (nd : Node) : Type 0 where
    pub up : Since p w (at_upload p name w b) i nd
    pub store : Since p (at_upload p name w b) (at_store p name w b) i up.node
    pub ask : Since p (at_store p name w b) (at_ask p name w b) i store.node
    pub answer : Since p (at_ask p name w b) (at_answer p name w b) i ask.node
    pub take : Since p (at_answer p name w b) (at_take p name w b) i answer.node
    pub end : Since p (at_take p name w b) (after_round p name w b) i take.node
    pub named : (client_of p up.node.records).ident ≢ 0
    pub stored : Each (λ x. x.number ≤ count (server_of p (at_ask p name w b).server) (client_of p up.node.records).ident) (to_upload p (client_of p up.node.records))
    pub entries : List Sent
    pub told : Told p (client_of p ask.node.records).second entries (map (restricted p (client_of p ask.node.records).subset) (entries_from p (log p (at_answer p name w b)) (length (log p (at_answer p name w b)) - (client_of p ask.node.records).cursor) (client_of p ask.node.records).cursor))
    pub cursor : (client_of p ask.node.records).cursor + length entries ≤ (client_of p end.node.records).cursor

  pub more_each : {s t : ℕ} (hs : List Change) → s ≤ t → Each (λ x. x.number ≤ s) hs → Each (λ x. x.number ≤ t) hs
  more_each [] le g = no_more
  more_each (x ∷ hs) le (and_each a g) = and_each (omega arith) (more_each hs le g)

  module _ {Fits Bounded Old : S → Type 0} (law : Lawful p Fits) (built : Buildable p Fits Bounded Old) (U O : Type 0) where
    module _ (w : World) (r : Valid p w) (name : Name) (i : ℕ) (nd : Node) (h : at w.clients i ≡ Some nd) (is : nd.name ≡ name) (b : Beside I) where
      s1 : Since p w (at_upload p name w b) i nd
      s1 = since p law built b.uploads w r i nd h

      s2 : Since p (at_upload p name w b) (at_store p name w b) i s1.node
      s2 = since p law built (Uploads name ∷ b.stores) (at_upload p name w b) s1.reached i s1.node s1.here

      s3 : Since p (at_store p name w b) (at_ask p name w b) i s2.node
      s3 = since p law built (Delivers (next p (at_upload p name w b)) server_name ∷ b.asks) (at_store p name w b) s2.reached i s2.node s2.here

      s4 : Since p (at_ask p name w b) (at_answer p name w b) i s3.node
      s4 = since p law built (Asks name ∷ b.answers) (at_ask p name w b) s3.reached i s3.node s3.here

      s5 : Since p (at_answer p name w b) (at_take p name w b) i s4.node
      s5 = since p law built (Delivers (next p (at_ask p name w b)) server_name ∷ b.takes) (at_answer p name w b) s4.reached i s4.node s4.here

      s6 : Since p (at_take p name w b) (after_round p name w b) i s5.node
      s6 = since p law built (Delivers (next p (at_answer p name w b)) name ∷ []) (at_take p name w b) s5.reached i s5.node s5.here

      module _ (ne : (client_of p nd.records).ident ≢ 0) where
        name1 : s1.node.name ≡ name
        name1 = s1.name ∙ is

        name3 : s3.node.name ≡ name
        name3 = s3.name ∙ s2.name ∙ name1

        name4 : s4.node.name ≡ name
        name4 = s4.name ∙ name3

        ne1 : (client_of p s1.node.records).ident ≢ 0
        ne1 = λ z. ne (sym (s1.ident ne) ∙ z)

        ne2 : (client_of p s2.node.records).ident ≢ 0
        ne2 = λ z. ne1 (sym (s2.ident ne1) ∙ z)

        ne3 : (client_of p s3.node.records).ident ≢ 0
        ne3 = λ z. ne2 (sym (s3.ident ne2) ∙ z)

        ne4 : (client_of p s4.node.records).ident ≢ 0
        ne4 = λ z. ne3 (sym (s4.ident ne3) ∙ z)

        ident5 : (client_of p s5.node.records).ident ≡ (client_of p s3.node.records).ident
        ident5 = s5.ident ne4 ∙ s4.ident ne3

        ne5 : (client_of p s5.node.records).ident ≢ 0
        ne5 = λ z. ne3 (sym ident5 ∙ z)

        far : (client_of p s3.node.records).cursor ≤ (client_of p s5.node.records).cursor
        far =
            let a = s4.client.cursor in
            let c = s5.client.cursor in
            omega arith

        old3 : ((client_of p nd.records).second ≡ false → O) → (client_of p s3.node.records).second ≡ false → O
        old3 old e = on (client_of p nd.records).second refl
          where
            clash : {c : Bool} → c ≡ false → c ≡ true → ⊥
            clash e f = cc

            on : (c : Bool) → (client_of p nd.records).second ≡ c → O
            on true f = absurd (clash e (s3.client.second (s2.client.second (s1.client.second f))))
            on false f = old f

        -- the world when the server got the upload
        abbrev after_store : World
        after_store = (happens p (at_store p name w b) (Delivers (next p (at_upload p name w b)) server_name)).world

        counts_on : (c : ℕ) → count (server_of p after_store.server) c ≤ count (server_of p (at_ask p name w b).server) c
        counts_on c =
            count_longer p law built b.asks after_store (valid_step p law built (at_store p name w b) (Delivers (next p (at_upload p name w b)) server_name) s2.reached) c

        -- what each event leads to
        abbrev Uploaded : Type 0
        Uploaded = message_at (happens p (at_upload p name w b) (Uploads name)).world (next p (at_upload p name w b)) ≡ Some (Upload (client_of p s1.node.records).ident (to_upload p (client_of p s1.node.records)))

        abbrev Kept : Type 0
        Kept = Each (λ x. x.number ≤ count (server_of p (happens p (at_store p name w b) (Delivers (next p (at_upload p name w b)) server_name)).world.server) (client_of p s1.node.records).ident) (to_upload p (client_of p s1.node.records))

        abbrev Asked : Type 0
        Asked = message_at (happens p (at_ask p name w b) (Asks name)).world (next p (at_ask p name w b)) ≡ Some (question (client_of p s3.node.records) (client_of p s3.node.records).subset)

        abbrev ToldOf : List Sent → Type 0
        ToldOf es = Told p (client_of p s3.node.records).second es (map (restricted p (client_of p s3.node.records).subset) (entries_from p (log p (at_answer p name w b)) (length (log p (at_answer p name w b)) - (client_of p s3.node.records).cursor) (client_of p s3.node.records).cursor))

        abbrev Answered : Type 0
        Answered = (es : List Sent) × (message_at (happens p (at_answer p name w b) (Delivers (next p (at_ask p name w b)) server_name)).world (next p (at_answer p name w b)) ≡ Some (Download (client_of p s3.node.records).ident (client_of p s3.node.records).cursor es)) × ToldOf es

        abbrev Taken : Type 0
        Taken = (es : List Sent) × ToldOf es × ((client_of p s3.node.records).cursor + length es ≤ (client_of p s6.node.records).cursor)

        first : IsException (Unit {0}) U O (happens p (at_upload p name w b) (Uploads name)).words ⊎ Uploaded
        first = uploads p law built U O (at_upload p name w b) s1.reached name i s1.node s1.here name1 ne1

        second : Uploaded → IsException (Unit {0}) U O (happens p (at_store p name w b) (Delivers (next p (at_upload p name w b)) server_name)).words ⊎ Kept
        second m =
            let there : message_at (at_store p name w b) (next p (at_upload p name w b)) ≡ Some (Upload (client_of p s1.node.records).ident (to_upload p (client_of p s1.node.records))) =
            stays_there p b.stores (happens p (at_upload p name w b) (Uploads name)).world (next p (at_upload p name w b)) (Upload (client_of p s1.node.records).ident (to_upload p (client_of p s1.node.records))) m in
            stores p law built U O (at_store p name w b) s2.reached name i s2.node s2.here (s2.name ∙ name1) (client_of p s1.node.records).ident ne1 (s2.ident ne1) (length (at_upload p name w b).messages) (to_upload p (client_of p s1.node.records)) there

        third : IsException (Unit {0}) U O (happens p (at_ask p name w b) (Asks name)).words ⊎ Asked
        third = asks p law built U O (at_ask p name w b) s3.reached name i s3.node s3.here name3 ne3

        fourth : ((client_of p nd.records).second ≡ false → O) → Asked → IsException (Unit {0}) U O (happens p (at_answer p name w b) (Delivers (next p (at_ask p name w b)) server_name)).words ⊎ Answered
        fourth old m =
            let there : message_at (at_answer p name w b) (next p (at_ask p name w b)) ≡ Some (question (client_of p s3.node.records) (client_of p s3.node.records).subset) =
            stays_there p b.answers (happens p (at_ask p name w b) (Asks name)).world (next p (at_ask p name w b)) (question (client_of p s3.node.records) (client_of p s3.node.records).subset) m in
            answers_it p law built U O (at_answer p name w b) s4.reached name i s4.node s4.here name4 (client_of p s3.node.records) ne3 (s4.ident ne3) s4.client.cursor (old3 old) (next p (at_ask p name w b)) there

        fifth : Answered → IsException (Unit {0}) U O (happens p (at_take p name w b) (Delivers (next p (at_answer p name w b)) name)).words ⊎ Taken
        fifth d =
            let there : message_at (at_take p name w b) (next p (at_answer p name w b)) ≡ Some (Download (client_of p s3.node.records).ident (client_of p s3.node.records).cursor d.0) =
            stays_there p b.takes (happens p (at_answer p name w b) (Delivers (next p (at_ask p name w b)) server_name)).world (next p (at_answer p name w b)) (Download (client_of p s3.node.records).ident (client_of p s3.node.records).cursor d.0) d.1 in
            ⊎_elim (λ q. inl q) (λ t. inr (d.0, d.2, subst (λ (x : Node). (client_of p s3.node.records).cursor + length d.0 ≤ (client_of p x.records).cursor) (one_node t.0 s6.node (sym t.1 ∙ s6.here)) t.2))
            (takes_it p law built U O (at_take p name w b) s5.reached name i s5.node s5.here (s5.name ∙ name4) ne5 (client_of p s3.node.records).cursor far d.0 (length (at_answer p name w b).messages)
            (subst (λ c. message_at (at_take p name w b) (next p (at_answer p name w b)) ≡ Some (Download c (client_of p s3.node.records).cursor d.0)) (sym ident5) there))

        brought : Kept → Taken → Went name w b i nd
        brought kept t = record {
          up = s1;
          store = s2;
          ask = s3;
          answer = s4;
          take = s5;
          end = s6;
          named = ne1;
          stored = more_each (to_upload p (client_of p s1.node.records)) (counts_on (client_of p s1.node.records).ident) kept;
          entries = t.0;
          told = t.1;
          cursor = t.2;
        }

        pub round : ((client_of p nd.records).second ≡ false → O) → Comes (IsException (Unit {0}) U O) (own_words p name w b) ⊎ Went name w b i nd
        round old = in_order (IsException (Unit {0}) U O) first second third (fourth old) fifth brought
