-- A client asks for its ident among other events.
use Rattle.std.proofs.Common.{◌≡◌, ◌≢◌, ◌⊎◌, inl, inr, ⊎_elim, ℕ, List, [], ◌∷◌, Some, sym, ap, ◌∙◌, subst, length}
use Rattle.sync_model.specs.Bytes.{Name, Uuid}
use Rattle.sync_model.specs.Profile.{Profile, Lawful}
use Rattle.sync_model.specs.Snapshots.{Buildable}
use Rattle.sync_model.specs.Messages.{Bind, Ident}
use Rattle.sync_model.specs.Clients.{client_of}
use Rattle.sync_model.specs.Servers.{server_of, place_of}
use Rattle.sync_model.specs.Worlds.{Node, World, Event, Binds, Delivers, Words, at, server_name, message_at, happens}
use Rattle.sync_model.specs.Log.{ident_by, ident_of}
use Rattle.sync_theory.proofs.World.{same_or_not}
use Rattle.sync_model.specs.Progress.{Comes, comes_now, comes_later, IsException}
use Rattle.sync_model.proofs.Holding.{Holds}
use Rattle.sync_model.proofs.Progress.Valid.{Valid}
use Rattle.progress_law.specs.Among.{next, at_bind, at_give, at_named, after_bind, bind_words}
use Rattle.progress_law.proofs.Growing.{stays_there}
use Rattle.progress_law.proofs.Since.{Since, since, one_node}
use Rattle.progress_law.proofs.Events.{binds, gives, is_named}

in_order : (q : Words → Type 0) {x1 x2 x3 : Words} {A B R : Type 0} → q x1 ⊎ A → (A → q x2 ⊎ B) → (B → q x3 ⊎ R) → Comes q (x1 ∷ x2 ∷ x3 ∷ []) ⊎ R
in_order q first second third =
    ⊎_elim (λ x. inl (comes_now x)) (λ a.
    ⊎_elim (λ x. inl (comes_later (comes_now x))) (λ b.
    ⊎_elim (λ x. inl (comes_later (comes_later (comes_now x)))) (λ e. inr e)
    (third b)) (second a)) first

module _ {I S : Type 0} (p : Profile I S) {Fits Bounded Old : S → Type 0} (law : Lawful p Fits) (built : Buildable p Fits Bounded Old) where
  module _ (w : World) (r : Valid p w) (name : Name) (i : ℕ) (nd : Node) (h : at w.clients i ≡ Some nd) (is : nd.name ≡ name) (before between after : List (Event I)) where
    abbrev U : Type 0
    U = ident_of p w nd ≡ 0

    s1 : Since p w (at_bind p name w before) i nd
    s1 = since p law built before w r i nd h

    s2 : Since p (at_bind p name w before) (at_give p name w before between) i s1.node
    s2 = since p law built (Binds name ∷ between) (at_bind p name w before) s1.reached i s1.node s1.here

    s3 : Since p (at_give p name w before between) (at_named p name w before between after) i s2.node
    s3 = since p law built (Delivers (next p (at_bind p name w before)) server_name ∷ after) (at_give p name w before between) s2.reached i s2.node s2.here

    born : (id : Uuid) × ((client_of p nd.records).id ≡ Some id)
    born =
        let hs : Holds p w = r.holds in
        let k = hs.sim.clients i nd h in
        (k.id, k.born)

    new : place_of born.0 (server_of p (at_give p name w before between).server).ids ≡ 0 → ident_of p w nd ≡ 0
    new z = ⊎_elim
        (λ e. e)
        (λ ne.
        let one = s1.ident_is ne in
        let two = s2.ident_is (λ y. ne (sym one ∙ y)) in
        let now : ident_of p (at_give p name w before between) s2.node ≡ 0 = ap (ident_by (server_of p (at_give p name w before between).server).ids) (s2.client.id born.0 (s1.client.id born.0 born.1)) ∙ z in
        absurd (ne (sym one ∙ sym two ∙ now)))
        (same_or_not (ident_of p w nd) 0)

    abbrev Sent_ : Type 0
    Sent_ = message_at (happens p (at_bind p name w before) (Binds name)).world (next p (at_bind p name w before)) ≡ Some (Bind born.0)

    abbrev Given_ : Type 0
    Given_ = (c : ℕ) × (c ≢ 0) × (message_at (happens p (at_give p name w before between) (Delivers (next p (at_bind p name w before)) server_name)).world (next p (at_give p name w before between)) ≡ Some (Ident born.0 c))

    abbrev Named_ : Type 0
    Named_ = (end : Node) × (at (after_bind p name w before between after).clients i ≡ Some end) × ((client_of p end.records).ident ≢ 0)

    first : IsException (Unit {0}) U ⊥ (happens p (at_bind p name w before) (Binds name)).words ⊎ Sent_
    first = binds p law built U ⊥ (at_bind p name w before) s1.reached name i s1.node s1.here (s1.name ∙ is) born.0 (s1.client.id born.0 born.1)

    second : Sent_ → IsException (Unit {0}) U ⊥ (happens p (at_give p name w before between) (Delivers (next p (at_bind p name w before)) server_name)).words ⊎ Given_
    second m =
        let there : message_at (at_give p name w before between) (next p (at_bind p name w before)) ≡ Some (Bind born.0) = stays_there p between (happens p (at_bind p name w before) (Binds name)).world (next p (at_bind p name w before)) (Bind born.0) m in
        gives p law built U ⊥ (at_give p name w before between) s2.reached name i s2.node s2.here (s2.name ∙ s1.name ∙ is) born.0 new (next p (at_bind p name w before)) there

    third : Given_ → IsException (Unit {0}) U ⊥ (happens p (at_named p name w before between after) (Delivers (next p (at_give p name w before between)) name)).words ⊎ Named_
    third g =
        let there : message_at (at_named p name w before between after) (next p (at_give p name w before between)) ≡ Some (Ident born.0 g.0) = stays_there p after (happens p (at_give p name w before between) (Delivers (next p (at_bind p name w before)) server_name)).world (next p (at_give p name w before between)) (Ident born.0 g.0) g.2 in
        is_named p law built U ⊥ (at_named p name w before between after) s3.reached name i s3.node s3.here (s3.name ∙ s2.name ∙ s1.name ∙ is) born.0 (s3.client.id born.0 (s2.client.id born.0 (s1.client.id born.0 born.1))) g.0 g.1 (length (at_give p name w before between).messages) there

    pub named_among : Comes (IsException (Unit {0}) U ⊥) (bind_words p name w before between after) ⊎ ((end : Node) → at (after_bind p name w before between after).clients i ≡ Some end → (client_of p end.records).ident ≢ 0)
    named_among = ⊎_elim
        (λ q. inl q)
        (λ t. inr (λ end here. subst (λ (x : Node). (client_of p x.records).ident ≢ 0) (one_node t.0 end (sym t.1 ∙ here)) t.2))
        (in_order (IsException (Unit {0}) U ⊥) first second third)
