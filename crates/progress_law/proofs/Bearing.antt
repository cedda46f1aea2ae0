-- Rounds among other events, by what messages bear: after so many the client and the server have what each had of the other.
use Rattle.std.proofs.Common.{◌≡◌, ◌≢◌, ◌⊎◌, inl, inr, ⊎_elim, ℕ, zero, suc, ◌+◌, ◌-◌, ◌<◌, ◌≤◌, true, false, List, [], ◌∷◌, ◌++◌, Some, refl, sym, ap, ap₂, ◌∙◌, subst, arith, length, length-append, drop, map, take}
use Rattle.sync_theory.specs.Changesets.{Changeset}
use Rattle.sync_theory.specs.Logs.{Entry as LogEntry, of_origin}
use Rattle.sync_model.specs.Bytes.{Name}
use Rattle.sync_model.specs.Profile.{Profile, Lawful, restricted, fitting}
use Rattle.sync_model.specs.Snapshots.{Buildable}
use Rattle.sync_model.specs.Messages.{Change, Sent}
use Rattle.sync_model.specs.Clients.{Unsent, client_of, change_of, to_upload}
use Rattle.sync_model.specs.Servers.{entries_from, sent_of}
use Rattle.sync_model.specs.Worlds.{Node, World, at}
use Rattle.sync_model.specs.Log.{log}
use Rattle.sync_model.specs.Progress.{IsException, lacks, load}
use Rattle.sync_model.proofs.Lists.{length_map, take_all}
use Rattle.sync_model.proofs.Progress.Batches.{own_before, fitting_few}
use Rattle.sync_model.proofs.Progress.Valid.{Valid}
use Rattle.progress_law.specs.Among.{Beside, at_upload, at_ask, at_answer, after_round, after_all_rounds, rounds_among, HasBoth, GetsAmong, among_exception, among_now, among_later, AreCarried, change_size, entry_size, to_send}
use Rattle.progress_law.proofs.Since.{Since, since, since_then, one_node}
use Rattle.progress_law.proofs.Events.{entries_at, known}
use Rattle.progress_law.proofs.Round.{Went, round}
use Rattle.progress_law.proofs.Gains.{up_ident, ask_ident, end_ident, end_name, within_ask, cursor_ends, ne_of}
use Rattle.progress_law.proofs.Brings.{acknowledged, acknowledged_at, far_stored, told, lacks_many, has_both}
use Rattle.progress_law.proofs.Greedy.{front_or_full, drop_drop, one_message, nothing_left, end_carried}
use Rattle.progress_law.proofs.Whole.{rounds_are}

drop_in : {A : Type 0} (k : ℕ) (xs ys : List A) → k ≤ length xs → drop k (xs ++ ys) ≡ drop k xs ++ ys
drop_in zero xs ys le = refl
drop_in (suc k) [] ys le = absurd (omega arith)
drop_in (suc k) (x ∷ xs) ys le = drop_in k xs ys (omega arith)

length_drop : {A : Type 0} (n : ℕ) (xs : List A) → length (drop n xs) ≡ length xs - n
length_drop zero xs = omega arith
length_drop (suc n) [] = omega arith
length_drop (suc n) (x ∷ xs) = let h = length_drop n xs in omega arith

take_in : {A : Type 0} (k : ℕ) (xs ys : List A) → k ≤ length xs → take k (xs ++ ys) ≡ take k xs
take_in zero xs ys le = refl
take_in (suc k) [] ys le = absurd (omega arith)
take_in (suc k) (x ∷ xs) ys le = ap (λ l. x ∷ l) (take_in k xs ys (omega arith))

take_take : {A : Type 0} (j k : ℕ) (xs : List A) → j ≤ k → take j (take k xs) ≡ take j xs
take_take zero k xs le = refl
take_take (suc j) zero xs le = absurd (omega arith)
take_take (suc j) (suc k) [] le = refl
take_take (suc j) (suc k) (x ∷ xs) le = ap (λ l. x ∷ l) (take_take j k xs (omega arith))

map_append : {A B : Type 0} (f : A → B) (xs ys : List A) → map f (xs ++ ys) ≡ map f xs ++ map f ys
map_append f [] ys = refl
map_append f (x ∷ xs) ys = ap (λ l. f x ∷ l) (map_append f xs ys)

map_drop : {A B : Type 0} (f : A → B) (k : ℕ) (xs : List A) → map f (drop k xs) ≡ drop k (map f xs)
map_drop f zero xs = refl
map_drop f (suc k) [] = refl
map_drop f (suc k) (x ∷ xs) = map_drop f k xs

map_map : {A B C : Type 0} (f : A → B) (g : B → C) (xs : List A) → map g (map f xs) ≡ map (λ x. g (f x)) xs
map_map f g [] = refl
map_map f g (x ∷ xs) = ap (λ l. g (f x) ∷ l) (map_map f g xs)

-- of a longer beginning of a longer log at least as many are of one origin
own_more : {X : Type 0} (c j k : ℕ) (xs ys : List (LogEntry X)) → j ≤ k → j ≤ length xs → length (of_origin c (take j xs)) ≤ length (of_origin c (take k (xs ++ ys)))
own_more c j k xs ys le within =
    let a = own_before c j (take k (xs ++ ys)) in
    let b = ap (λ l. length (of_origin c l)) (take_take j k (xs ++ ys) le ∙ take_in j xs ys within) in
    omega arith

module _ {I S : Type 0} (p : Profile I S) {Fits Bounded Old : S → Type 0} (law : Lawful p Fits) (built : Buildable p Fits Bounded Old) where
  -- a client in the world after rounds
  pub since_rounds : (name : Name) (bs : List (Beside I)) (w : World) → Valid p w → (i : ℕ) (nd : Node) → at w.clients i ≡ Some nd → Since p w (after_all_rounds p name w bs) i nd
  since_rounds name bs w r i nd h = subst (λ v. Since p w v i nd) (rounds_are p name bs w) (since p law built (rounds_among p name w bs) w r i nd h)

  -- as a client gets them
  abbrev gets : Node → Changeset I → Sent
  gets nd x = sent_of p (restricted p (client_of p nd.records).subset x)

  abbrev history : World → List (Changeset I)
  history v = entries_from p (log p v) (length (log p v)) 0

  lacks_is : (v : World) → Valid p v → (nd : Node) → (client_of p nd.records).cursor ≤ length (log p v) → lacks p v nd ≡ map (gets nd) (drop (client_of p nd.records).cursor (history v))
  lacks_is v r nd le = ap (map (gets nd)) (entries_at p law built v r (client_of p nd.records).cursor le).rest

  -- what a client lacks later, where it got further
  lacks_further : (v : World) → Valid p v → (a b : Node) → (client_of p b.records).subset ≡ (client_of p a.records).subset → (client_of p a.records).cursor ≤ (client_of p b.records).cursor → (client_of p b.records).cursor ≤ length (log p v)
      → lacks p v b ≡ drop ((client_of p b.records).cursor - (client_of p a.records).cursor) (lacks p v a)
  lacks_further v r a b same le within =
      let sum : (client_of p a.records).cursor + ((client_of p b.records).cursor - (client_of p a.records).cursor) ≡ (client_of p b.records).cursor = omega arith in
      lacks_is v r b within
      ∙ ap (λ o. map (λ x. sent_of p (restricted p o x)) (drop (client_of p b.records).cursor (history v))) same
      ∙ ap (λ k. map (gets a) (drop k (history v))) (sym sum)
      ∙ ap (map (gets a)) (sym (drop_drop (client_of p a.records).cursor ((client_of p b.records).cursor - (client_of p a.records).cursor) (history v)))
      ∙ map_drop (gets a) ((client_of p b.records).cursor - (client_of p a.records).cursor) (drop (client_of p a.records).cursor (history v))
      ∙ ap (drop ((client_of p b.records).cursor - (client_of p a.records).cursor)) (sym (lacks_is v r a (omega arith)))

  -- and what it lacks of a longer history
  lacks_longer : (v w : World) → Valid p v → Valid p w → (nd : Node) → (client_of p nd.records).cursor ≤ length (log p v) → length (log p v) ≤ length (log p w) → (more : List (Changeset I)) → history w ≡ history v ++ more → (rest : List Sent) × (lacks p w nd ≡ lacks p v nd ++ rest)
  lacks_longer v w r s nd le longer more is =
      let many = (entries_at p law built v r (client_of p nd.records).cursor le).all_many in (
        map (gets nd) more,
        lacks_is w s nd (omega arith)
            ∙ ap (λ l. map (gets nd) (drop (client_of p nd.records).cursor l)) is
            ∙ ap (map (gets nd)) (drop_in (client_of p nd.records).cursor (history v) more (omega arith))
            ∙ map_append (gets nd) (drop (client_of p nd.records).cursor (history v)) more
            ∙ ap (λ l. l ++ map (gets nd) more) (sym (lacks_is v r nd le)),
      )

  -- what a client has to send later, where more was acknowledged
  send_further : (a b end : Node) → acknowledged p law built a ≤ acknowledged p law built b → to_send p b end ≡ drop (acknowledged p law built b - acknowledged p law built a) (to_send p a end)
  send_further a b end le =
      let sum : acknowledged p law built a + (acknowledged p law built b - acknowledged p law built a) ≡ acknowledged p law built b = omega arith in
      ap (λ k. map (change_of p) (drop k (client_of p end.records).made)) (sym sum)
      ∙ ap (map (change_of p)) (sym (drop_drop (acknowledged p law built a) (acknowledged p law built b - acknowledged p law built a) (client_of p end.records).made))
      ∙ map_drop (change_of p) (acknowledged p law built b - acknowledged p law built a) (drop (acknowledged p law built a) (client_of p end.records).made)

  -- more is acknowledged later
  acknowledged_more : (v w : World) → Valid p v → (i : ℕ) (nd : Node) → at v.clients i ≡ Some nd → (client_of p nd.records).ident ≢ 0 → (x : Since p v w i nd) → (client_of p nd.records).cursor ≤ length (log p v) → acknowledged p law built nd ≤ acknowledged p law built x.node
  acknowledged_more v w r i nd h ne x within =
      let a = (acknowledged_at p law built v r i nd h ne).counted in
      let b = (acknowledged_at p law built w x.reached i x.node x.here (λ z. ne (sym (x.ident ne) ∙ z))).counted ∙ ap₂ (λ c l. length (of_origin c (take (client_of p x.node.records).cursor l))) (x.ident ne) x.log_is in
      let m = own_more (client_of p nd.records).ident (client_of p nd.records).cursor (client_of p x.node.records).cursor (log p v) x.more x.client.cursor within in
      omega arith

  within_at : (v : World) (r : Valid p v) (i : ℕ) (nd : Node) → at v.clients i ≡ Some nd → (client_of p nd.records).ident ≢ 0 → (client_of p nd.records).cursor ≤ length (log p v)
  within_at v r i nd h ne = (known p law built (Unit {0}) (Unit {0}) v r nd.name i nd h refl ne).within

  longer : (v w : World) (i : ℕ) (nd : Node) (x : Since p v w i nd) → length (log p v) ≤ length (log p w)
  longer v w i nd x = let e = ap length x.log_is ∙ length-append (log p v) x.more in omega arith

  module _ (name : Name) (bs : List (Beside I)) (w : World) (r : Valid p w) (i : ℕ) (nd : Node) (h : at w.clients i ≡ Some nd) (is : nd.name ≡ name) (ne : (client_of p nd.records).ident ≢ 0) (b : Beside I) (x : Went p name w b i nd) (second : (client_of p nd.records).second ≡ true) where
    abbrev last : World
    last = after_all_rounds p name (after_round p name w b) bs

    abbrev after : Since p (after_round p name w b) (after_all_rounds p name (after_round p name w b) bs) i x.end.node
    after = since_rounds name bs (after_round p name w b) x.end.reached i x.end.node x.end.here

    to_ask : Since p w (at_ask p name w b) i nd
    to_ask = since_then p x.up (since_then p x.store x.ask)

    answer_to_last : Since p (at_answer p name w b) (after_all_rounds p name (after_round p name w b) bs) i x.answer.node
    answer_to_last = since_then p x.take (since_then p x.end after)

    ask_ne : (client_of p x.ask.node.records).ident ≢ 0
    ask_ne = ne_of p law built name w r i nd h is ne b x x.ask.node (ask_ident p law built name w r i nd h is ne b x)

    end_ne : (client_of p x.end.node.records).ident ≢ 0
    end_ne = ne_of p law built name w r i nd h is ne b x x.end.node (end_ident p law built name w r i nd h is ne b x)

    ask_in : (client_of p x.ask.node.records).cursor ≤ length (log p (at_answer p name w b))
    ask_in = within_ask p law built name w r i nd h is ne b x

    ask_in_last : (client_of p x.ask.node.records).cursor ≤ length (log p (after_all_rounds p name (after_round p name w b) bs))
    ask_in_last =
        let a = ask_in in
        let l = longer (at_answer p name w b) (after_all_rounds p name (after_round p name w b) bs) i x.answer.node answer_to_last in
        omega arith

    end_in_last : (client_of p x.end.node.records).cursor ≤ length (log p (after_all_rounds p name (after_round p name w b) bs))
    end_in_last =
        let a = within_at (after_round p name w b) x.end.reached i x.end.node x.end.here end_ne in
        let l = longer (after_round p name w b) (after_all_rounds p name (after_round p name w b) bs) i x.end.node after in
        omega arith

    nd_to_end : Since p w (after_round p name w b) i nd
    nd_to_end = since_then p x.up (since_then p x.store (since_then p x.ask (since_then p x.answer (since_then p x.take x.end))))

    end_subset : (client_of p x.end.node.records).subset ≡ (client_of p nd.records).subset
    end_subset = subst (λ (y : Node). (client_of p y.records).subset ≡ (client_of p nd.records).subset) (one_node nd_to_end.node x.end.node (sym nd_to_end.here ∙ x.end.here)) (nd_to_end.subset_is ne)

    end_cursor : (client_of p nd.records).cursor ≤ (client_of p x.end.node.records).cursor
    end_cursor = subst (λ (y : Node). (client_of p nd.records).cursor ≤ (client_of p y.records).cursor) (one_node nd_to_end.node x.end.node (sym nd_to_end.here ∙ x.end.here)) nd_to_end.client.cursor

    ask_subset : (client_of p x.ask.node.records).subset ≡ (client_of p nd.records).subset
    ask_subset = subst (λ (y : Node). (client_of p y.records).subset ≡ (client_of p nd.records).subset) (one_node to_ask.node x.ask.node (sym to_ask.here ∙ x.ask.here)) (to_ask.subset_is ne)

    ask_cursor : (client_of p nd.records).cursor ≤ (client_of p x.ask.node.records).cursor
    ask_cursor = subst (λ (y : Node). (client_of p nd.records).cursor ≤ (client_of p y.records).cursor) (one_node to_ask.node x.ask.node (sym to_ask.here ∙ x.ask.here)) to_ask.client.cursor

    -- ---- what is left to take

    lacks_last : (rest : List Sent) × (lacks p (after_all_rounds p name (after_round p name w b) bs) x.ask.node ≡ lacks p (at_answer p name w b) x.ask.node ++ rest)
    lacks_last =
        lacks_longer (at_answer p name w b) (after_all_rounds p name (after_round p name w b) bs) x.answer.reached after.reached x.ask.node ask_in
        (longer (at_answer p name w b) (after_all_rounds p name (after_round p name w b) bs) i x.answer.node answer_to_last) answer_to_last.entries_more answer_to_last.entries_are

    still_lacks : (k : ℕ) → AreCarried p entry_size k (lacks p (after_all_rounds p name (after_round p name w b) bs) nd) → AreCarried p entry_size k (lacks p (after_all_rounds p name (after_round p name w b) bs) x.end.node)
    still_lacks k c =
        subst (AreCarried p entry_size k) (sym (lacks_further (after_all_rounds p name (after_round p name w b) bs) after.reached nd x.end.node end_subset end_cursor end_in_last))
        (end_carried p entry_size k ((client_of p x.end.node.records).cursor - (client_of p nd.records).cursor) (lacks p (after_all_rounds p name (after_round p name w b) bs) nd) c)

    asks_for : (k : ℕ) → AreCarried p entry_size k (lacks p (after_all_rounds p name (after_round p name w b) bs) nd) → AreCarried p entry_size k (lacks p (after_all_rounds p name (after_round p name w b) bs) x.ask.node)
    asks_for k c =
        subst (AreCarried p entry_size k) (sym (lacks_further (after_all_rounds p name (after_round p name w b) bs) after.reached nd x.ask.node ask_subset ask_cursor ask_in_last))
        (end_carried p entry_size k ((client_of p x.ask.node.records).cursor - (client_of p nd.records).cursor) (lacks p (after_all_rounds p name (after_round p name w b) bs) nd) c)

    -- a message bore all, or one message less is enough from now on
    abbrev Down : ℕ → Type 0
    Down down = (length (load p (lacks p (at_answer p name w b) x.ask.node)) ≡ length (lacks p (at_answer p name w b) x.ask.node)) ⊎ ((d : ℕ) × (down ≡ suc d) × AreCarried p entry_size (suc d) (lacks p (after_all_rounds p name (after_round p name w b) bs) x.end.node))

    down_case : (down : ℕ) → AreCarried p entry_size (suc down) (lacks p (after_all_rounds p name (after_round p name w b) bs) nd) → Down down
    down_case down c = ⊎_elim
        (λ all. inl all)
        (λ full. by_number down full (one_message p entry_size down (lacks p (after_all_rounds p name (after_round p name w b) bs) x.ask.node) (asks_for (suc down) c)))
        (front_or_full entry_size p.most p.room (lacks p (at_answer p name w b) x.ask.node) lacks_last.0)
      where
        by_number : (down : ℕ) → length (load p (lacks p (at_answer p name w b) x.ask.node)) ≡ length (fitting entry_size p.most p.room (lacks p (at_answer p name w b) x.ask.node ++ lacks_last.0))
            → AreCarried p entry_size down (drop (length (fitting entry_size p.most p.room (lacks p (after_all_rounds p name (after_round p name w b) bs) x.ask.node))) (lacks p (after_all_rounds p name (after_round p name w b) bs) x.ask.node)) → Down down
        by_number zero full rest =
            let none = ap length (nothing_left p entry_size (drop (length (fitting entry_size p.most p.room (lacks p (after_all_rounds p name (after_round p name w b) bs) x.ask.node))) (lacks p (after_all_rounds p name (after_round p name w b) bs) x.ask.node)) rest) in
            let far = length_drop (length (fitting entry_size p.most p.room (lacks p (after_all_rounds p name (after_round p name w b) bs) x.ask.node))) (lacks p (after_all_rounds p name (after_round p name w b) bs) x.ask.node) in
            let is_ = ap (λ l. length (fitting entry_size p.most p.room l)) lacks_last.1 in
            let long = ap length lacks_last.1 ∙ length-append (lacks p (at_answer p name w b) x.ask.node) lacks_last.0 in
            let few = fitting_few entry_size p.most p.room (lacks p (at_answer p name w b) x.ask.node) in
            inl (omega arith)
        by_number (suc d) full rest =
            let is_ = ap (λ l. length (fitting entry_size p.most p.room l)) lacks_last.1 in
            let t = told p law built name w r i nd h is ne b x second in
            let le = cursor_ends p law built name w r i nd h is ne b x in
            let sum : length (fitting entry_size p.most p.room (lacks p (after_all_rounds p name (after_round p name w b) bs) x.ask.node)) + ((client_of p x.end.node.records).cursor - (client_of p x.ask.node.records).cursor - length (fitting entry_size p.most p.room (lacks p (after_all_rounds p name (after_round p name w b) bs) x.ask.node))) ≡ (client_of p x.end.node.records).cursor - (client_of p x.ask.node.records).cursor = omega arith in
            inr (
              d,
              refl,
              subst (AreCarried p entry_size (suc d))
                  (drop_drop (length (fitting entry_size p.most p.room (lacks p (after_all_rounds p name (after_round p name w b) bs) x.ask.node))) ((client_of p x.end.node.records).cursor - (client_of p x.ask.node.records).cursor - length (fitting entry_size p.most p.room (lacks p (after_all_rounds p name (after_round p name w b) bs) x.ask.node))) (lacks p (after_all_rounds p name (after_round p name w b) bs) x.ask.node)
                  ∙ ap (λ k. drop k (lacks p (after_all_rounds p name (after_round p name w b) bs) x.ask.node)) sum
                  ∙ sym (lacks_further (after_all_rounds p name (after_round p name w b) bs) after.reached x.ask.node x.end.node (end_subset ∙ sym ask_subset) le end_in_last))
                  (end_carried p entry_size (suc d) ((client_of p x.end.node.records).cursor - (client_of p x.ask.node.records).cursor - length (fitting entry_size p.most p.room (lacks p (after_all_rounds p name (after_round p name w b) bs) x.ask.node))) (drop (length (fitting entry_size p.most p.room (lacks p (after_all_rounds p name (after_round p name w b) bs) x.ask.node))) (lacks p (after_all_rounds p name (after_round p name w b) bs) x.ask.node)) rest),
            )

    -- ---- what is left to send

    up_to_last : Since p (at_upload p name w b) (after_all_rounds p name (after_round p name w b) bs) i x.up.node
    up_to_last = since_then p x.store (since_then p x.ask (since_then p x.answer (since_then p x.take (since_then p x.end after))))

    abbrev sends : List Change
    sends = map (λ (u : Unsent I). change_of p u.original) (client_of p x.up.node.records).unsent

    send_last : (rest : List Change) × (to_send p x.up.node after.node ≡ sends ++ rest)
    send_last =
        let a = acknowledged_at p law built (at_upload p name w b) x.up.reached i x.up.node x.up.here x.named in
        let all = a.all in
        let same : up_to_last.node ≡ after.node = one_node up_to_last.node after.node (sym up_to_last.here ∙ after.here) in
        let made : (client_of p after.node.records).made ≡ (client_of p x.up.node.records).made ++ up_to_last.made_more = ap (λ (y : Node). (client_of p y.records).made) (sym same) ∙ up_to_last.made_is in (
          map (change_of p) up_to_last.made_more,
          ap (λ l. map (change_of p) (drop (acknowledged p law built x.up.node) l)) made
              ∙ ap (map (change_of p)) (drop_in (acknowledged p law built x.up.node) (client_of p x.up.node.records).made up_to_last.made_more (omega arith) ∙ ap (λ l. l ++ up_to_last.made_more) a.rest)
              ∙ map_append (change_of p) (map (λ (u : Unsent I). u.original) (client_of p x.up.node.records).unsent) up_to_last.made_more
              ∙ ap (λ l. l ++ map (change_of p) up_to_last.made_more) (map_map (λ (u : Unsent I). u.original) (change_of p) (client_of p x.up.node.records).unsent),
        )

    more_to_end : acknowledged p law built nd ≤ acknowledged p law built x.end.node
    more_to_end = subst (λ (y : Node). acknowledged p law built nd ≤ acknowledged p law built y) (one_node nd_to_end.node x.end.node (sym nd_to_end.here ∙ x.end.here)) (acknowledged_more w (after_round p name w b) r i nd h ne nd_to_end (within_at w r i nd h ne))

    more_to_up : acknowledged p law built nd ≤ acknowledged p law built x.up.node
    more_to_up = acknowledged_more w (at_upload p name w b) r i nd h ne x.up (within_at w r i nd h ne)

    still_sends : (k : ℕ) → AreCarried p change_size k (to_send p nd after.node) → AreCarried p change_size k (to_send p x.end.node after.node)
    still_sends k c = subst (AreCarried p change_size k) (sym (send_further nd x.end.node after.node more_to_end)) (end_carried p change_size k (acknowledged p law built x.end.node - acknowledged p law built nd) (to_send p nd after.node) c)

    uploads_them : (k : ℕ) → AreCarried p change_size k (to_send p nd after.node) → AreCarried p change_size k (to_send p x.up.node after.node)
    uploads_them k c = subst (AreCarried p change_size k) (sym (send_further nd x.up.node after.node more_to_up)) (end_carried p change_size k (acknowledged p law built x.up.node - acknowledged p law built nd) (to_send p nd after.node) c)

    -- an upload bore all, or one less is enough once what it bore is acknowledged
    abbrev Up : ℕ → Type 0
    Up up = (length (to_upload p (client_of p x.up.node.records)) ≡ length (client_of p x.up.node.records).unsent) ⊎ ((u : ℕ) × (up ≡ suc u) × AreCarried p change_size (suc u) (drop (length (to_upload p (client_of p x.up.node.records))) (to_send p x.up.node after.node)))

    up_case : (up : ℕ) → AreCarried p change_size (suc up) (to_send p nd after.node) → Up up
    up_case up c = ⊎_elim
        (λ all. inl (all ∙ length_map (λ (u : Unsent I). change_of p u.original) (client_of p x.up.node.records).unsent))
        (λ full.
        let is_ : length (to_upload p (client_of p x.up.node.records)) ≡ length (fitting change_size p.most p.room (to_send p x.up.node after.node)) = full ∙ ap (λ l. length (fitting change_size p.most p.room l)) (sym send_last.1) in
        by_number up (subst (λ n. AreCarried p change_size up (drop n (to_send p x.up.node after.node))) (sym is_) (one_message p change_size up (to_send p x.up.node after.node) (uploads_them (suc up) c))))
        (front_or_full change_size p.most p.room sends send_last.0)
      where
        by_number : (up : ℕ) → AreCarried p change_size up (drop (length (to_upload p (client_of p x.up.node.records))) (to_send p x.up.node after.node)) → Up up
        by_number zero rest =
            let none = ap length (nothing_left p change_size (drop (length (to_upload p (client_of p x.up.node.records))) (to_send p x.up.node after.node)) rest) in
            let far = length_drop (length (to_upload p (client_of p x.up.node.records))) (to_send p x.up.node after.node) in
            let long = ap length send_last.1 ∙ length-append sends send_last.0 in
            let many = length_map (λ (u : Unsent I). change_of p u.original) (client_of p x.up.node.records).unsent in
            let few = fitting_few change_size p.most p.room sends in
            inl (omega arith)
        by_number (suc u) rest = inr (u, refl, rest)

    -- where the client has the history of the answer, what the upload bore is acknowledged
    taken_back : length (log p (at_answer p name w b)) ≤ (client_of p x.end.node.records).cursor → acknowledged p law built x.up.node + length (to_upload p (client_of p x.up.node.records)) ≤ acknowledged p law built x.end.node
    taken_back le =
        let far = far_stored p law built name w r i nd h is ne b x second in
        let a4 = x.answer.counts (client_of p x.up.node.records).ident in
        let since_answer = since_then p x.take x.end in
        let a = (acknowledged_at p law built (after_round p name w b) x.end.reached i x.end.node x.end.here end_ne).counted in
        let same : (client_of p x.end.node.records).ident ≡ (client_of p x.up.node.records).ident = end_ident p law built name w r i nd h is ne b x ∙ sym (up_ident p law built name w r i nd h is ne b x) in
        let now = ap₂ (λ c l. length (of_origin c (take (client_of p x.end.node.records).cursor l))) same since_answer.log_is in
        let m = own_more (client_of p x.up.node.records).ident (length (log p (at_answer p name w b))) (client_of p x.end.node.records).cursor (log p (at_answer p name w b)) since_answer.more le (omega arith) in
        let whole = ap (λ l. length (of_origin (client_of p x.up.node.records).ident l)) (take_all (log p (at_answer p name w b))) in
        omega arith

    acknowledged_now : (k : ℕ) → acknowledged p law built x.up.node + length (to_upload p (client_of p x.up.node.records)) ≤ acknowledged p law built x.end.node → AreCarried p change_size k (drop (length (to_upload p (client_of p x.up.node.records))) (to_send p x.up.node after.node)) → AreCarried p change_size k (to_send p x.end.node after.node)
    acknowledged_now k le c =
        let sum : length (to_upload p (client_of p x.up.node.records)) + (acknowledged p law built x.end.node - acknowledged p law built x.up.node - length (to_upload p (client_of p x.up.node.records))) ≡ acknowledged p law built x.end.node - acknowledged p law built x.up.node = omega arith in
        subst (AreCarried p change_size k)
        (drop_drop (length (to_upload p (client_of p x.up.node.records))) (acknowledged p law built x.end.node - acknowledged p law built x.up.node - length (to_upload p (client_of p x.up.node.records))) (to_send p x.up.node after.node)
        ∙ ap (λ n. drop n (to_send p x.up.node after.node)) sum
        ∙ sym (send_further x.up.node x.end.node after.node (omega arith)))
        (end_carried p change_size k (acknowledged p law built x.end.node - acknowledged p law built x.up.node - length (to_upload p (client_of p x.up.node.records))) (drop (length (to_upload p (client_of p x.up.node.records))) (to_send p x.up.node after.node)) c)

    -- ---- a round

    abbrev Rest : ℕ → ℕ → Type 0
    Rest up down = AreCarried p change_size (suc up) (to_send p x.end.node after.node) × AreCarried p entry_size (suc down) (lacks p (after_all_rounds p name (after_round p name w b) bs) x.end.node)

    -- it is done, or less is left
    pub less_left : (up down : ℕ) → AreCarried p change_size (suc up) (to_send p nd after.node) → AreCarried p entry_size (suc down) (lacks p (after_all_rounds p name (after_round p name w b) bs) nd)
        → HasBoth p name w b i ⊎ ((u : ℕ) × (d : ℕ) × (u + d < up + down) × Rest u d)
    less_left up down sent_ lacked = ⊎_elim
        (λ all. ⊎_elim (λ each. inl (both each all)) (λ u. inr (u.0, down, fewer_up u.0 u.1, (acknowledged_now (suc u.0) (taken_back (reaches all)) u.2, still_lacks (suc down) lacked))) (up_case up sent_))
        (λ d. inr (up, d.0, fewer_down d.0 d.1, (still_sends (suc up) sent_, d.2)))
        (down_case down lacked)
      where
        fewer_up : (u : ℕ) → up ≡ suc u → u + down < up + down
        fewer_up u e = omega arith

        fewer_down : (d : ℕ) → down ≡ suc d → up + d < up + down
        fewer_down d e = omega arith

        reaches : length (load p (lacks p (at_answer p name w b) x.ask.node)) ≡ length (lacks p (at_answer p name w b) x.ask.node) → length (log p (at_answer p name w b)) ≤ (client_of p x.end.node.records).cursor
        reaches all =
            let t = told p law built name w r i nd h is ne b x second in
            let m = lacks_many p law built name w r i nd h is ne b x second in
            let a = ask_in in
            omega arith

        both : length (to_upload p (client_of p x.up.node.records)) ≡ length (client_of p x.up.node.records).unsent → length (load p (lacks p (at_answer p name w b) x.ask.node)) ≡ length (lacks p (at_answer p name w b) x.ask.node) → HasBoth p name w b i
        both each all = has_both p law built name w r i nd h is ne b x second (record {
          up = λ y there. subst (λ (z : Node). length (to_upload p (client_of p z.records)) ≡ length (client_of p z.records).unsent) (one_node x.up.node y (sym x.up.here ∙ there)) each;
          down = λ y there. subst (λ (z : Node). length (load p (lacks p (at_answer p name w b) z)) ≡ length (lacks p (at_answer p name w b) z)) (one_node x.ask.node y (sym x.ask.here ∙ there)) all;
        })

  pub bears : (name : Name) (bs : List (Beside I)) (w : World) → Valid p w → (i : ℕ) (nd : Node) → at w.clients i ≡ Some nd → nd.name ≡ name → (client_of p nd.records).ident ≢ 0 → (client_of p nd.records).second ≡ true → (up down : ℕ)
      → ((end : Node) → at (after_all_rounds p name w bs).clients i ≡ Some end → AreCarried p change_size (suc up) (to_send p nd end)) → AreCarried p entry_size (suc down) (lacks p (after_all_rounds p name w bs) nd) → up + down < length bs
      → GetsAmong p (IsException (Unit {0}) ⊥ ⊥) (λ v c. HasBoth p name v c i) name w bs
  bears name [] w r i nd h is ne second up down sent_ lacked lt = absurd (omega arith)
  bears name (b ∷ bs) w r i nd h is ne second up down sent_ lacked lt = ⊎_elim
      (λ q. among_exception q)
      (λ x. ⊎_elim
      (λ done. among_now done)
      (λ l.
      let less = l.2 in
      let here_ = (since_rounds name bs (after_round p name w b) x.end.reached i x.end.node x.end.here) in
      among_later (bears name bs (after_round p name w b) x.end.reached i x.end.node x.end.here (end_name p law built name w r i nd h is ne b x) (λ z. ne (sym (end_ident p law built name w r i nd h is ne b x) ∙ z)) (x.end.client.second (x.take.client.second (x.answer.client.second (x.ask.client.second (x.store.client.second (x.up.client.second second)))))) l.0 l.1
      (λ end there. subst (λ (z : Node). AreCarried p change_size (suc l.0) (to_send p x.end.node z)) (one_node here_.node end (sym here_.here ∙ there)) l.3.0) l.3.1 (omega arith)))
      (less_left name bs w r i nd h is ne b x second up down (sent_ (since_rounds name bs (after_round p name w b) x.end.reached i x.end.node x.end.here).node (since_rounds name bs (after_round p name w b) x.end.reached i x.end.node x.end.here).here) lacked))
      (round p law built ⊥ ⊥ w r name i nd h is b ne (λ e. never second e))
    where
      never : {c : Rattle.std.proofs.Common.Bool} → c ≡ true → c ≡ false → ⊥
      never e f = cc
