-- What a round among other events gains: the client or the server gets further, or the client was current.
use Rattle.std.proofs.Common.{◌≡◌, ◌≢◌, ◌⊎◌, inl, inr, ⊎_elim, ℕ, suc, ◌+◌, ◌-◌, ◌<◌, ◌≤◌, false, List, [], ◌∷◌, ◌++◌, Some, refl, sym, ap, ap₂, ◌∙◌, subst, arith, length, length-append, append-nil, append_assoc, map, take}
use Rattle.sync_theory.specs.Logs.{of_origin}
use Rattle.sync_theory.proofs.World.{le_or_lt}
use Rattle.sync_model.specs.Bytes.{Name}
use Rattle.sync_model.specs.Profile.{Profile, Lawful, restricted, fitting}
use Rattle.sync_model.specs.Snapshots.{Buildable}
use Rattle.sync_model.specs.Messages.{Change}
use Rattle.sync_model.specs.Clients.{Unsent, client_of, change_of, to_upload}
use Rattle.sync_model.specs.Servers.{server_of, count, entries_from}
use Rattle.sync_model.specs.Worlds.{Node, World, at, seek, has_name}
use Rattle.sync_model.specs.Each.{Each}
use Rattle.sync_model.specs.Log.{ident_by, ident_of, log}
use Rattle.sync_model.specs.Progress.{IsException, IsRoomy}
use Rattle.sync_model.proofs.Lists.{length_map, take_all}
use Rattle.sync_model.proofs.Progress.Catching.{first_of_each}
use Rattle.sync_model.proofs.Progress.Serves.{fits_some}
use Rattle.sync_model.proofs.Progress.Valid.{Valid}
use Rattle.progress_law.specs.Among.{Beside, at_upload, at_answer, after_round, reach, WasCurrent, after_all_rounds, GetsAmong, among_exception, among_now, among_later}
use Rattle.progress_law.proofs.Events.{known, entries_at}
use Rattle.progress_law.proofs.Round.{Went, more_each, round}

lt_or_le : (a b : ℕ) → (a < b) ⊎ (b ≤ a)
lt_or_le a b = ⊎_elim (λ le. inr le) (λ gt. inl gt) (le_or_lt b a)

none_of : {A : Type 0} (xs : List A) → length xs ≡ 0 → xs ≡ []
none_of [] e = refl
none_of (x ∷ xs) e = absurd (omega arith)

module _ {I S : Type 0} (p : Profile I S) {Fits Bounded Old : S → Type 0} (law : Lawful p Fits) (built : Buildable p Fits Bounded Old) where
  -- the server knows a client that has its ident by it
  pub ident_known : (v : World) → Valid p v → (i : ℕ) (nd : Node) → at v.clients i ≡ Some nd → (client_of p nd.records).ident ≢ 0 → ident_of p v nd ≡ (client_of p nd.records).ident
  ident_known v r i nd h ne =
      let f = known p law built (Unit {0}) (Unit {0}) v r nd.name i nd h refl ne in
      ap (ident_by (server_of p v.server).ids) f.born ∙ f.placed

  -- how far a client may be
  pub within_named : (v : World) (r : Valid p v) (i : ℕ) (nd : Node) (h : at v.clients i ≡ Some nd) → (client_of p nd.records).ident ≢ 0 → reach p v nd ≤ length (log p v) + length (client_of p nd.records).made
  within_named v r i nd h ne =
      let f = known p law built (Unit {0}) (Unit {0}) v r nd.name i nd h refl ne in
      let within = f.within in
      let owned = f.owned in
      let is = ap (count (server_of p v.server)) (ident_known v r i nd h ne) in
      omega arith

  module _ (name : Name) (w : World) (r : Valid p w) (i : ℕ) (nd : Node) (h : at w.clients i ≡ Some nd) (is : nd.name ≡ name) (ne : (client_of p nd.records).ident ≢ 0) (b : Beside I) (x : Went p name w b i nd) where
    abbrev c : ℕ
    c = (client_of p nd.records).ident

    pub up_ident : (client_of p x.up.node.records).ident ≡ (client_of p nd.records).ident
    up_ident = x.up.ident ne

    pub ne_of : (y : Node) → (client_of p y.records).ident ≡ (client_of p nd.records).ident → (client_of p y.records).ident ≢ 0
    ne_of y e z = ne (sym e ∙ z)

    store_ident : (client_of p x.store.node.records).ident ≡ (client_of p nd.records).ident
    store_ident = x.store.ident (ne_of x.up.node up_ident) ∙ up_ident

    pub ask_ident : (client_of p x.ask.node.records).ident ≡ (client_of p nd.records).ident
    ask_ident = x.ask.ident (ne_of x.store.node store_ident) ∙ store_ident

    pub answer_ident : (client_of p x.answer.node.records).ident ≡ (client_of p nd.records).ident
    answer_ident = x.answer.ident (ne_of x.ask.node ask_ident) ∙ ask_ident

    take_ident : (client_of p x.take.node.records).ident ≡ (client_of p nd.records).ident
    take_ident = x.take.ident (ne_of x.answer.node answer_ident) ∙ answer_ident

    pub end_ident : (client_of p x.end.node.records).ident ≡ (client_of p nd.records).ident
    end_ident = x.end.ident (ne_of x.take.node take_ident) ∙ take_ident

    pub end_name : x.end.node.name ≡ name
    end_name = x.end.name ∙ x.take.name ∙ x.answer.name ∙ x.ask.name ∙ x.store.name ∙ x.up.name ∙ is

    -- the history while the client asked
    pub log_since : log p (at_answer p name w b) ≡ log p (at_upload p name w b) ++ (x.store.more ++ (x.ask.more ++ x.answer.more))
    log_since =
        x.answer.log_is ∙ ap (λ l. l ++ x.answer.more) (x.ask.log_is ∙ ap (λ l. l ++ x.ask.more) x.store.log_is)
        ∙ ap (λ l. l ++ x.answer.more) (append_assoc (log p (at_upload p name w b)) x.store.more x.ask.more)
        ∙ append_assoc (log p (at_upload p name w b)) (x.store.more ++ x.ask.more) x.answer.more
        ∙ ap (λ l. log p (at_upload p name w b) ++ l) (append_assoc x.store.more x.ask.more x.answer.more)

    -- ---- numbers

    reach_start : reach p w nd ≡ (client_of p nd.records).cursor + count (server_of p w.server) c
    reach_start = ap (λ k. (client_of p nd.records).cursor + count (server_of p w.server) k) (ident_known w r i nd h ne)

    reach_end : reach p (after_round p name w b) x.end.node ≡ (client_of p x.end.node.records).cursor + count (server_of p (after_round p name w b).server) c
    reach_end = ap (λ k. (client_of p x.end.node.records).cursor + count (server_of p (after_round p name w b).server) k) (ident_known (after_round p name w b) x.end.reached i x.end.node x.end.here (ne_of x.end.node end_ident) ∙ end_ident)

    count_up : count (server_of p w.server) c ≤ count (server_of p (at_upload p name w b).server) c
    count_up = x.up.counts c

    count_after : count (server_of p (at_upload p name w b).server) c ≤ count (server_of p (after_round p name w b).server) c
    count_after =
        let a2 = x.store.counts c in
        let a3 = x.ask.counts c in
        let a4 = x.answer.counts c in
        let a5 = x.take.counts c in
        let a6 = x.end.counts c in
        omega arith

    pub stored_end : Each (λ y. y.number ≤ count (server_of p (after_round p name w b).server) (client_of p x.up.node.records).ident) (to_upload p (client_of p x.up.node.records))
    stored_end =
        let a4 = x.answer.counts (client_of p x.up.node.records).ident in
        let a5 = x.take.counts (client_of p x.up.node.records).ident in
        let a6 = x.end.counts (client_of p x.up.node.records).ident in
        more_each p (to_upload p (client_of p x.up.node.records)) (omega arith) x.stored

    pub cursor_asks : (client_of p x.up.node.records).cursor ≤ (client_of p x.ask.node.records).cursor
    cursor_asks =
        let a2 = x.store.client.cursor in
        let a3 = x.ask.client.cursor in
        omega arith

    pub cursor_ends : (client_of p x.ask.node.records).cursor ≤ (client_of p x.end.node.records).cursor
    cursor_ends =
        let a4 = x.answer.client.cursor in
        let a5 = x.take.client.cursor in
        let a6 = x.end.client.cursor in
        omega arith

    pub within_ask : (client_of p x.ask.node.records).cursor ≤ length (log p (at_answer p name w b))
    within_ask =
        let f = known p law built (Unit {0}) (Unit {0}) (at_answer p name w b) x.answer.reached x.answer.node.name i x.answer.node x.answer.here refl (ne_of x.answer.node answer_ident) in
        let a = f.within in
        let a4 = x.answer.client.cursor in
        omega arith

    -- how many entries the client lacked as it asked
    pub lacked_many : length (map (restricted p (client_of p x.ask.node.records).subset) (entries_from p (log p (at_answer p name w b)) (length (log p (at_answer p name w b)) - (client_of p x.ask.node.records).cursor) (client_of p x.ask.node.records).cursor)) ≡ length (log p (at_answer p name w b)) - (client_of p x.ask.node.records).cursor
    lacked_many =
        length_map (restricted p (client_of p x.ask.node.records).subset) (entries_from p (log p (at_answer p name w b)) (length (log p (at_answer p name w b)) - (client_of p x.ask.node.records).cursor) (client_of p x.ask.node.records).cursor)
        ∙ (entries_at p law built (at_answer p name w b) x.answer.reached (client_of p x.ask.node.records).cursor within_ask).many

    module _ (roomy : IsRoomy p) where
      rises : (client_of p x.up.node.records).cursor < (client_of p x.end.node.records).cursor → reach p w nd < reach p (after_round p name w b) x.end.node
      rises lt =
          let a = reach_start in
          let e = reach_end in
          let u = x.up.client.cursor in
          let k = count_up in
          let l = count_after in
          omega arith

      stores_more : count (server_of p (at_upload p name w b).server) c < count (server_of p (after_round p name w b).server) c → reach p w nd < reach p (after_round p name w b) x.end.node
      stores_more lt =
          let a = reach_start in
          let e = reach_end in
          let u = x.up.client.cursor in
          let k = count_up in
          let ask = cursor_asks in
          let end = cursor_ends in
          omega arith

      -- where the client got no entry, it had all
      had_all : (client_of p x.end.node.records).cursor ≤ (client_of p x.up.node.records).cursor → length (log p (at_answer p name w b)) ≤ (client_of p x.up.node.records).cursor
      had_all le =
          let ask = cursor_asks in
          let told = x.cursor in
          ⊎_elim
          (λ lt.
          let some = x.told.bears roomy (subst (λ n. 1 ≤ n) (sym lacked_many) (omega arith)) in
          absurd (omega arith))
          (λ ge. omega arith)
          (lt_or_le (client_of p x.ask.node.records).cursor (length (log p (at_answer p name w b))))

      pub gains : (reach p w nd < reach p (after_round p name w b) x.end.node) ⊎ WasCurrent p name w b
      gains = ⊎_elim (λ lt. inl (rises lt)) (λ le. stood (had_all le)) (lt_or_le (client_of p x.up.node.records).cursor (client_of p x.end.node.records).cursor)
        where
          f : Rattle.sync_model.proofs.Progress.Catching.Facts p law built (IsException (Unit {0}) (Unit {0}) (Unit {0})) (Unit {0}) (λ a. a) (at_upload p name w b) x.up.node.name i x.up.node (Rattle.progress_law.proofs.Events.off p law built (Unit {0}) (Unit {0}) (at_upload p name w b) x.up.reached x.up.node.name i x.up.node x.up.here refl) (λ z. tt) (λ z. tt) (server_of p (at_upload p name w b).server) (client_of p x.up.node.records)
          f = known p law built (Unit {0}) (Unit {0}) (at_upload p name w b) x.up.reached x.up.node.name i x.up.node x.up.here refl x.named

          stood : length (log p (at_answer p name w b)) ≤ (client_of p x.up.node.records).cursor → (reach p w nd < reach p (after_round p name w b) x.end.node) ⊎ WasCurrent p name w b
          stood le = on (client_of p x.up.node.records).unsent refl
            where
              long : length (log p (at_answer p name w b)) ≡ length (log p (at_upload p name w b)) + length (x.store.more ++ (x.ask.more ++ x.answer.more))
              long = ap length log_since ∙ length-append (log p (at_upload p name w b)) (x.store.more ++ (x.ask.more ++ x.answer.more))

              within : (client_of p x.up.node.records).cursor ≤ length (log p (at_upload p name w b))
              within = f.within

              at_end : (client_of p x.up.node.records).cursor ≡ length (log p (at_upload p name w b))
              at_end =
                  let l = long in
                  let k = within in
                  omega arith

              nothing : x.store.more ++ (x.ask.more ++ x.answer.more) ≡ []
              nothing =
                  let l = long in
                  let k = within in
                  none_of (x.store.more ++ (x.ask.more ++ x.answer.more)) (omega arith)

              same : log p (at_answer p name w b) ≡ log p (at_upload p name w b)
              same = log_since ∙ ap (λ l. log p (at_upload p name w b) ++ l) nothing ∙ append-nil (log p (at_upload p name w b))

              sent_is : length f.sent ≡ count (server_of p (at_upload p name w b).server) c
              sent_is =
                  f.sent_count ∙ ap (λ k. length (of_origin (client_of p x.up.node.records).ident (take k (log p (at_upload p name w b))))) at_end
                  ∙ ap (λ l. length (of_origin (client_of p x.up.node.records).ident l)) (take_all (log p (at_upload p name w b)))
                  ∙ ap (λ k. length (of_origin k (log p (at_upload p name w b)))) up_ident

              on : (us : List (Unsent I)) → (client_of p x.up.node.records).unsent ≡ us → (reach p w nd < reach p (after_round p name w b) x.end.node) ⊎ WasCurrent p name w b
              on [] none =
                  let a = x.up.reached.apart i x.up.node x.up.here in
                  inr (record {
                    current = record {
                      place = i;
                      node = x.up.node;
                      found = subst (λ n. seek (has_name n) (at_upload p name w b).clients ≡ Some (i, x.up.node)) (x.up.name ∙ is) a.0;
                      named = λ z. x.named (sym (ident_known (at_upload p name w b) x.up.reached i x.up.node x.up.here x.named) ∙ z);
                      current = record { cursor = at_end; unsent = none };
                    };
                    since = same;
                  })
              on (u ∷ us) us_is =
                  let some = fits_some (λ (z : Change). length z.body) p.most p.room (change_of p u.original) (map (λ (y : Unsent I). change_of p y.original) us) roomy.some (roomy.fits u.original.instrs (f.small u us us_is)) in
                  let first : to_upload p (client_of p x.up.node.records) ≡ change_of p u.original ∷ some.0 = ap (λ l. fitting (λ (z : Change). length z.body) p.most p.room (map (λ (y : Unsent I). change_of p y.original) l)) us_is ∙ some.1 in
                  let le = first_of_each (subst (Each (λ y. y.number ≤ count (server_of p (after_round p name w b).server) (client_of p x.up.node.records).ident)) first stored_end) in
                  let number = f.numbers u us us_is in
                  let k = sent_is in
                  let c_is = ap (count (server_of p (after_round p name w b).server)) up_ident in
                  inl (stores_more (omega arith))

  -- ---- rounds

  pub gets_among : (O : Type 0) → IsRoomy p → (name : Name) (bs : List (Beside I)) (w : World) → Valid p w → (i : ℕ) (nd : Node) → at w.clients i ≡ Some nd → nd.name ≡ name → (client_of p nd.records).ident ≢ 0 → ((client_of p nd.records).second ≡ false → O)
      → ((end : Node) → at (after_all_rounds p name w bs).clients i ≡ Some end → length (log p (after_all_rounds p name w bs)) + length (client_of p end.records).made < reach p w nd + length bs) → GetsAmong p (IsException (Unit {0}) ⊥ O) (WasCurrent p name) name w bs
  gets_among O roomy name [] w r i nd h is ne old more = let a = more nd h in let k = within_named w r i nd h ne in absurd (omega arith)
  gets_among O roomy name (b ∷ bs) w r i nd h is ne old more = ⊎_elim
      (λ q. among_exception q)
      (λ x. ⊎_elim
      (λ lt. among_later (gets_among O roomy name bs (after_round p name w b) x.end.reached i x.end.node x.end.here (end_name name w r i nd h is ne b x) (λ z. ne (sym (end_ident name w r i nd h is ne b x) ∙ z)) (still x) (λ end there. let m = more end there in omega arith)))
      (λ was. among_now was)
      (gains name w r i nd h is ne b x roomy))
      (round p law built ⊥ O w r name i nd h is b ne old)
    where
      still : (x : Went p name w b i nd) → (client_of p x.end.node.records).second ≡ false → O
      still x e = ⊎_elim (λ t. absurd (clash e (x.end.client.second (x.take.client.second (x.answer.client.second (x.ask.client.second (x.store.client.second (x.up.client.second t)))))))) (λ f. old f) (which (client_of p nd.records).second)
        where
          clash : {k : Rattle.std.proofs.Common.Bool} → k ≡ false → k ≡ Rattle.std.proofs.Common.true → ⊥
          clash e f = cc

          which : (k : Rattle.std.proofs.Common.Bool) → (k ≡ Rattle.std.proofs.Common.true) ⊎ (k ≡ false)
          which Rattle.std.proofs.Common.true = inl refl
          which false = inr refl
