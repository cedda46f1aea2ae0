-- Where nobody else adds to the history, a client is current after its rounds, once it and the server had all of each other.
use Rattle.std.proofs.Common.{◌≡◌, ◌≢◌, ◌⊎◌, inl, inr, ⊎_elim, ℕ, suc, ◌+◌, ◌≤◌, Bool, true, false, List, [], ◌∷◌, ◌++◌, Some, refl, sym, ap, ◌∙◌, subst, arith, if◌then◌else◌, ◌==◌, length, length-append, take}
use Rattle.sync_theory.specs.Logs.{Entry as LogEntry, of_origin}
use Rattle.sync_theory.proofs.Logs.{origin_append}
use Rattle.sync_model.specs.Bytes.{Name}
use Rattle.sync_model.specs.Profile.{Profile, Lawful}
use Rattle.sync_model.specs.Snapshots.{Buildable}
use Rattle.sync_model.specs.Clients.{client_of}
use Rattle.sync_model.specs.Servers.{server_of, count}
use Rattle.sync_model.specs.Worlds.{Node, World, Words, Uploads, Asks, Delivers, at, seek, has_name, server_name}
use Rattle.sync_model.specs.Log.{log}
use Rattle.sync_model.specs.Progress.{HasCaughtUp}
use Rattle.sync_model.proofs.Lists.{take_all}
use Rattle.sync_model.proofs.Progress.Valid.{Valid}
use Rattle.progress_law.specs.Among.{Beside, next, at_upload, at_store, at_ask, at_answer, at_take, after_round, after_all_rounds, HasBoth, GetsAmong, among_exception, among_now, among_later, HinderedAmong, IsAlone}
use Rattle.progress_law.proofs.Since.{Since, since, since_then, one_node}
use Rattle.progress_law.proofs.Events.{known}
use Rattle.progress_law.proofs.Gains.{ident_known}
use Rattle.progress_law.proofs.Brings.{acknowledged_at}
use Rattle.progress_law.proofs.Bearing.{since_rounds}

few_of : {X : Type 0} (c : ℕ) (xs : List (LogEntry X)) → length (of_origin c xs) ≤ length xs
few_of c [] = omega arith
few_of {X} c (x ∷ xs) = on (c == x.origin) (few_of c xs)
  where
    on : (b : Bool) → length (of_origin c xs) ≤ length xs → length ((if b then record { base = x.base; change = x.change } ∷ [] else []) ++ of_origin c xs) ≤ suc (length xs)
    on true le = omega arith
    on false le = omega arith

none_of : {A : Type 0} (xs : List A) → length xs ≡ 0 → xs ≡ []
none_of [] e = refl
none_of (x ∷ xs) e = absurd (omega arith)

module _ {I S : Type 0} (p : Profile I S) {Fits Bounded Old : S → Type 0} (law : Lawful p Fits) (built : Buildable p Fits Bounded Old) where
  -- entries of others never get fewer
  others_on : (v w : World) (i : ℕ) (nd : Node) (x : Since p v w i nd) (c : ℕ) → length (log p v) + count (server_of p w.server) c ≤ length (log p w) + count (server_of p v.server) c
  others_on v w i nd x c =
      let l = ap length x.log_is ∙ length-append (log p v) x.more in
      let o = ap (λ z. length (of_origin c z)) x.log_is ∙ ap length (origin_append c (log p v) x.more) ∙ length-append (of_origin c (log p v)) (of_origin c x.more) in
      let f = few_of c x.more in
      omega arith

  module _ (name : Name) (w : World) (r : Valid p w) (i : ℕ) (nd : Node) (h : at w.clients i ≡ Some nd) (is : nd.name ≡ name) (ne : (client_of p nd.records).ident ≢ 0) (b : Beside I) (bs : List (Beside I)) where
    up : Since p w (at_upload p name w b) i nd
    up = since p law built b.uploads w r i nd h

    store : Since p (at_upload p name w b) (at_store p name w b) i up.node
    store = since p law built (Uploads name ∷ b.stores) (at_upload p name w b) up.reached i up.node up.here

    ask : Since p (at_store p name w b) (at_ask p name w b) i store.node
    ask = since p law built (Delivers (next p (at_upload p name w b)) server_name ∷ b.asks) (at_store p name w b) store.reached i store.node store.here

    answer : Since p (at_ask p name w b) (at_answer p name w b) i ask.node
    answer = since p law built (Asks name ∷ b.answers) (at_ask p name w b) ask.reached i ask.node ask.here

    take_ : Since p (at_answer p name w b) (at_take p name w b) i answer.node
    take_ = since p law built (Delivers (next p (at_ask p name w b)) server_name ∷ b.takes) (at_answer p name w b) answer.reached i answer.node answer.here

    end : Since p (at_take p name w b) (after_round p name w b) i take_.node
    end = since p law built (Delivers (next p (at_answer p name w b)) name ∷ []) (at_take p name w b) take_.reached i take_.node take_.here

    last : Since p (after_round p name w b) (after_all_rounds p name (after_round p name w b) bs) i end.node
    last = since_rounds p law built name bs (after_round p name w b) end.reached i end.node end.here

    to_answer : Since p w (at_answer p name w b) i nd
    to_answer = since_then p up (since_then p store (since_then p ask answer))

    whole : Since p w (after_all_rounds p name (after_round p name w b) bs) i nd
    whole = since_then p up (since_then p store (since_then p ask (since_then p answer (since_then p take_ (since_then p end last)))))

    pub had_both : HasBoth p name w b i → ((y : Node) → at (after_all_rounds p name (after_round p name w b) bs).clients i ≡ Some y → IsAlone p w (after_all_rounds p name (after_round p name w b) bs) nd y) → HasCaughtUp p (after_all_rounds p name (after_round p name w b) bs) name
    had_both both alone = record {
      place = i;
      node = whole.node;
      found = subst (λ n. seek (has_name n) (after_all_rounds p name (after_round p name w b) bs).clients ≡ Some (i, whole.node)) (whole.name ∙ is) (whole.reached.apart i whole.node whole.here).0;
      named = λ z. whole_ne (sym (ident_known p law built (after_all_rounds p name (after_round p name w b) bs) whole.reached i whole.node whole.here whole_ne) ∙ z);
      current = record { cursor = at_end; unsent = all_sent };
    }
      where
        whole_ne : (client_of p whole.node.records).ident ≢ 0
        whole_ne = λ z. ne (sym (whole.ident ne) ∙ z)

        within : (client_of p whole.node.records).cursor ≤ length (log p (after_all_rounds p name (after_round p name w b) bs))
        within = (known p law built (Unit {0}) (Unit {0}) (after_all_rounds p name (after_round p name w b) bs) whole.reached whole.node.name i whole.node whole.here refl whole_ne).within

        same_last : last.node ≡ whole.node
        same_last = one_node last.node whole.node (sym last.here ∙ whole.here)

        cursor_far : length (log p (at_answer p name w b)) ≤ (client_of p whole.node.records).cursor
        cursor_far =
            let a = both.history end.node end.here in
            let c = last.client.cursor in
            let e = ap (λ (y : Node). (client_of p y.records).cursor) same_last in
            omega arith

        -- the server had all its changes when it answered
        counted : length (client_of p nd.records).made ≤ count (server_of p (at_answer p name w b).server) (client_of p nd.records).ident
        counted =
            let a = both.changes up.node up.here in
            let m = up.client.made in
            let e = ap (count (server_of p (at_answer p name w b).server)) (up.ident ne) in
            omega arith

        owned : count (server_of p (after_all_rounds p name (after_round p name w b) bs).server) (client_of p nd.records).ident ≤ length (client_of p whole.node.records).made
        owned = subst (λ c. count (server_of p (after_all_rounds p name (after_round p name w b) bs).server) c ≤ length (client_of p whole.node.records).made) (whole.ident ne)
            (known p law built (Unit {0}) (Unit {0}) (after_all_rounds p name (after_round p name w b) bs) whole.reached whole.node.name i whole.node whole.here refl whole_ne).owned

        at_end : (client_of p whole.node.records).cursor ≡ length (log p (after_all_rounds p name (after_round p name w b) bs))
        at_end =
            let a = alone whole.node whole.here in
            let history = a.history in
            let made = a.made in
            let o = others_on w (at_answer p name w b) i nd to_answer (client_of p nd.records).ident in
            let far = cursor_far in
            let all = counted in
            let own = owned in
            let le = within in
            omega arith

        all_sent : (client_of p whole.node.records).unsent ≡ []
        all_sent =
            let a = acknowledged_at p law built (after_all_rounds p name (after_round p name w b) bs) whole.reached i whole.node whole.here whole_ne in
            let all = a.all in
            let made = (alone whole.node whole.here).made in
            let k = a.counted ∙ ap (λ n. length (of_origin (client_of p whole.node.records).ident (take n (log p (after_all_rounds p name (after_round p name w b) bs))))) at_end
            ∙ ap (λ l. length (of_origin (client_of p whole.node.records).ident l)) (take_all (log p (after_all_rounds p name (after_round p name w b) bs))) ∙ ap (count (server_of p (after_all_rounds p name (after_round p name w b) bs).server)) (whole.ident ne) in
            let c = counted in
            let t = whole_counts in
            none_of (client_of p whole.node.records).unsent (omega arith)
          where
            whole_counts : count (server_of p (at_answer p name w b).server) (client_of p nd.records).ident ≤ count (server_of p (after_all_rounds p name (after_round p name w b) bs).server) (client_of p nd.records).ident
            whole_counts =
                let a = take_.counts (client_of p nd.records).ident in
                let e = end.counts (client_of p nd.records).ident in
                let l = last.counts (client_of p nd.records).ident in
                omega arith

  pub alone_current : (q : Words → Type 0) (name : Name) (i : ℕ) (bs : List (Beside I)) (w : World) → Valid p w → (nd : Node) → at w.clients i ≡ Some nd → nd.name ≡ name → (client_of p nd.records).ident ≢ 0
      → ((y : Node) → at (after_all_rounds p name w bs).clients i ≡ Some y → IsAlone p w (after_all_rounds p name w bs) nd y) → GetsAmong p q (λ v b. HasBoth p name v b i) name w bs → HinderedAmong p q name w bs ⊎ HasCaughtUp p (after_all_rounds p name w bs) name
  alone_current q name i [] w r nd h is ne alone g = elim g [ ]
  alone_current q name i (b ∷ bs) w r nd h is ne alone (among_exception c) = inl (among_exception c)
  alone_current q name i (b ∷ bs) w r nd h is ne alone (among_now both) = inr (had_both name w r i nd h is ne b bs both alone)
  alone_current q name i (b ∷ bs) w r nd h is ne alone (among_later g) =
      let x = since_rounds p law built name (b ∷ []) w r i nd h in
      ⊎_elim (λ c. inl (among_later c)) (λ done. inr done)
      (alone_current q name i bs (after_round p name w b) x.reached x.node x.here (x.name ∙ is) (λ z. ne (sym (x.ident ne) ∙ z))
      (λ y there.
      let a = alone y there in
      let history = a.history in
      let made = a.made in
      let more = x.client.made in
      let o = others_on w (after_round p name w b) i nd x (client_of p nd.records).ident in
      let last_ = ap (count (server_of p (after_all_rounds p name (after_round p name w b) bs).server)) (x.ident ne) in
      let here_ = ap (count (server_of p (after_round p name w b).server)) (x.ident ne) in
      record { history = omega arith; made = omega arith })
      g)
