-- What a round among other events brings: what the upload bore is stored, and what the reply bore is taken.
use Rattle.std.proofs.Common.{◌≡◌, ◌≢◌, ℕ, zero, suc, ◌+◌, ◌-◌, ◌<◌, ◌≤◌, true, List, [], ◌∷◌, ◌++◌, Option, Some, refl, sym, ap, ◌∙◌, subst, arith, length, length-append, drop, map, take}
use Rattle.sync_theory.specs.Changesets.{Changeset}
use Rattle.sync_theory.specs.Logs.{of_origin}
use Rattle.sync_model.specs.Bytes.{Name, Tables}
use Rattle.sync_model.specs.Profile.{Profile, Lawful, restricted}
use Rattle.sync_model.specs.Snapshots.{Buildable}
use Rattle.sync_model.specs.Messages.{Change}
use Rattle.sync_model.specs.Clients.{Unsent, client_of, change_of, to_upload}
use Rattle.sync_model.specs.Servers.{server_of, count, entries_from, sent_of}
use Rattle.sync_model.specs.Worlds.{Node, World, at}
use Rattle.sync_model.specs.Each.{Each}
use Rattle.sync_model.specs.Log.{log}
use Rattle.sync_model.specs.Progress.{lacks, load}
use Rattle.sync_model.proofs.Sim.{as_log}
use Rattle.sync_model.proofs.Calling.{named_as}
use Rattle.sync_model.proofs.Serving.{numbered_at}
use Rattle.sync_model.proofs.Limits.{each_at}
use Rattle.sync_model.proofs.Lists.{at_map, length_map}
use Rattle.sync_model.proofs.Holding.{Holds}
use Rattle.sync_model.proofs.Progress.Batches.{at_behind, own_before, there}
use Rattle.sync_model.proofs.Progress.Valid.{Valid}
use Rattle.progress_law.specs.Among.{Beside, at_upload, at_ask, at_answer, Brings, BearsAll, HasBoth}
use Rattle.progress_law.proofs.Since.{one_node}
use Rattle.progress_law.proofs.Events.{known}
use Rattle.progress_law.proofs.Round.{Went}
use Rattle.progress_law.proofs.Gains.{lacked_many, stored_end}
use Rattle.progress_law.proofs.Greedy.{fit_at}

module _ {I S : Type 0} (p : Profile I S) {Fits Bounded Old : S → Type 0} (law : Lawful p Fits) (built : Buildable p Fits Bounded Old) where
  twice : (o : Option Tables) (xs : List (Changeset I)) → map (sent_of p) (map (restricted p o) xs) ≡ map (λ x. sent_of p (restricted p o x)) xs
  twice o [] = refl
  twice o (x ∷ xs) = ap (λ l. sent_of p (restricted p o x) ∷ l) (twice o xs)

  -- the numbers of what is unsent
  number_at : (v : World) (r : Valid p v) (i : ℕ) (nd : Node) (h : at v.clients i ≡ Some nd) (ne : (client_of p nd.records).ident ≢ 0) (j : ℕ) (x : Unsent I) → at (client_of p nd.records).unsent j ≡ Some x → x.original.number ≡ suc (length (known p law built (Unit {0}) (Unit {0}) v r nd.name i nd h refl ne).sent + j)
  number_at v r i nd h ne j x here =
      let f = known p law built (Unit {0}) (Unit {0}) v r nd.name i nd h refl ne in
      let hs : Holds p v = r.holds in
      let g = (named_as p law (server_of p v.server) v.injected v.clients hs.n hs.sim i nd h ne).given in
      let spot : at (f.sent ++ map (λ (u : Unsent I). u.original) (client_of p nd.records).unsent) (length f.sent + j) ≡ Some x.original = at_behind f.sent (map (λ (u : Unsent I). u.original) (client_of p nd.records).unsent) j ∙ at_map (λ (u : Unsent I). u.original) (client_of p nd.records).unsent j x here in
      let there_is : at (hs.n.mades (client_of p nd.records).ident) (length f.sent + j) ≡ Some (as_log (client_of p nd.records).ident x.original) = ap (λ l. at l (length f.sent + j)) (g.mades ∙ ap (map (as_log (client_of p nd.records).ident)) f.split) ∙ at_map (as_log (client_of p nd.records).ident) (f.sent ++ map (λ (u : Unsent I). u.original) (client_of p nd.records).unsent) (length f.sent + j) x.original spot in
      let k = (numbered_at (length f.sent + j) (as_log (client_of p nd.records).ident x.original) (hs.sim.numbered (client_of p nd.records).ident) there_is).0 in
      omega arith

  -- how many changes a client made that aren't unsent
  abbrev pub acknowledged : Node → ℕ
  acknowledged nd = length (client_of p nd.records).made - length (client_of p nd.records).unsent

  pub record Acknowledged (v : World) (nd : Node) : Type 0 where
    pub all : length (client_of p nd.records).made ≡ acknowledged nd + length (client_of p nd.records).unsent
    pub counted : acknowledged nd ≡ length (of_origin (client_of p nd.records).ident (take (client_of p nd.records).cursor (log p v)))
    pub rest : drop (acknowledged nd) (client_of p nd.records).made ≡ map (λ (u : Unsent I). u.original) (client_of p nd.records).unsent

  drop_front : {A : Type 0} (xs ys : List A) → drop (length xs) (xs ++ ys) ≡ ys
  drop_front [] ys = refl
  drop_front (x ∷ xs) ys = drop_front xs ys

  pub acknowledged_at : (v : World) (r : Valid p v) (i : ℕ) (nd : Node) (h : at v.clients i ≡ Some nd) → (client_of p nd.records).ident ≢ 0 → Acknowledged v nd
  acknowledged_at v r i nd h ne =
      let f = known p law built (Unit {0}) (Unit {0}) v r nd.name i nd h refl ne in
      let split = ap length f.split ∙ length-append f.sent (map (λ (u : Unsent I). u.original) (client_of p nd.records).unsent) ∙ ap (λ k. length f.sent + k) (length_map (λ (u : Unsent I). u.original) (client_of p nd.records).unsent) in
      let is : acknowledged nd ≡ length f.sent = omega arith in
      record { all = omega arith; counted = is ∙ f.sent_count; rest = ap (λ k. drop k (client_of p nd.records).made) is ∙ ap (drop (length f.sent)) f.split ∙ drop_front f.sent (map (λ (u : Unsent I). u.original) (client_of p nd.records).unsent) }

  -- where the server has each change that an upload bears
  pub stored_far : (v : World) (r : Valid p v) (i : ℕ) (nd : Node) (h : at v.clients i ≡ Some nd) (ne : (client_of p nd.records).ident ≢ 0) (n : ℕ) → count (server_of p v.server) (client_of p nd.records).ident ≤ n
      → Each (λ x. x.number ≤ n) (to_upload p (client_of p nd.records)) → acknowledged nd + length (to_upload p (client_of p nd.records)) ≤ n
  stored_far v r i nd h ne n le each = on (length (to_upload p (client_of p nd.records))) refl
    where
      sent_is : acknowledged nd ≡ length (known p law built (Unit {0}) (Unit {0}) v r nd.name i nd h refl ne).sent
      sent_is = (acknowledged_at v r i nd h ne).counted ∙ sym (known p law built (Unit {0}) (Unit {0}) v r nd.name i nd h refl ne).sent_count

      sent_in : acknowledged nd ≤ n
      sent_in =
          let c = (acknowledged_at v r i nd h ne).counted in
          let b = own_before (client_of p nd.records).ident (client_of p nd.records).cursor (log p v) in
          omega arith

      on : (k : ℕ) → length (to_upload p (client_of p nd.records)) ≡ k → acknowledged nd + length (to_upload p (client_of p nd.records)) ≤ n
      on zero e = let a = sent_in in omega arith
      on (suc j) e =
          let x = there (to_upload p (client_of p nd.records)) j (omega arith) in
          let whole = fit_at (λ (z : Change). length z.body) p.most p.room (map (λ (u : Unsent I). change_of p u.original) (client_of p nd.records).unsent) j x.0 x.1 in
          let u = there (client_of p nd.records).unsent j (unmapped whole) in
          let spot = at_map (λ (u : Unsent I). change_of p u.original) (client_of p nd.records).unsent j u.0 u.1 in
          let number_is : x.0.number ≡ u.0.original.number = ap (λ (z : Change). z.number) (some_same x.0 (change_of p u.0.original) (sym whole ∙ spot)) in
          let a = each_at (to_upload p (client_of p nd.records)) j x.0 each x.1 in
          let k = number_at v r i nd h ne j u.0 u.1 in
          let s = sent_is in
          omega arith
        where
          some_same : (a b : Change) → Some a ≡ Some b → a ≡ b
          some_same a b e = cc

          in_it : {A B : Type 0} (f : A → B) (xs : List A) (j : ℕ) (y : B) → at (map f xs) j ≡ Some y → j < length xs
          in_it f [] j y e = cc
          in_it f (x ∷ xs) zero y e = omega arith
          in_it f (x ∷ xs) (suc j) y e = let h = in_it f xs j y e in omega arith

          unmapped : {x : Change} → at (map (λ (u : Unsent I). change_of p u.original) (client_of p nd.records).unsent) j ≡ Some x → j < length (client_of p nd.records).unsent
          unmapped {x} e = in_it (λ (u : Unsent I). change_of p u.original) (client_of p nd.records).unsent j x e

  module _ (name : Name) (w : World) (r : Valid p w) (i : ℕ) (nd : Node) (h : at w.clients i ≡ Some nd) (is : nd.name ≡ name) (ne : (client_of p nd.records).ident ≢ 0) (b : Beside I) (x : Went p name w b i nd) (second : (client_of p nd.records).second ≡ true) where
    second_asks : (client_of p x.ask.node.records).second ≡ true
    second_asks = x.ask.client.second (x.store.client.second (x.up.client.second second))

    pub bears_load : x.entries ≡ load p (lacks p (at_answer p name w b) x.ask.node)
    bears_load = x.told.loads second_asks ∙ ap (load p) (twice (client_of p x.ask.node.records).subset (entries_from p (log p (at_answer p name w b)) (length (log p (at_answer p name w b)) - (client_of p x.ask.node.records).cursor) (client_of p x.ask.node.records).cursor))

    pub told : (client_of p x.ask.node.records).cursor + length (load p (lacks p (at_answer p name w b) x.ask.node)) ≤ (client_of p x.end.node.records).cursor
    told = subst (λ es. (client_of p x.ask.node.records).cursor + length es ≤ (client_of p x.end.node.records).cursor) bears_load x.cursor

    pub brings : Brings p name w b i
    brings = record { sender = x.up.node; sends = x.up.here; asker = x.ask.node; asks = x.ask.here; taker = x.end.node; takes = x.end.here; stored = stored_end p law built name w r i nd h is ne b x; told = told }

    pub lacks_many : length (lacks p (at_answer p name w b) x.ask.node) ≡ length (log p (at_answer p name w b)) - (client_of p x.ask.node.records).cursor
    lacks_many =
        length_map (λ y. sent_of p (restricted p (client_of p x.ask.node.records).subset y)) (entries_from p (log p (at_answer p name w b)) (length (log p (at_answer p name w b)) - (client_of p x.ask.node.records).cursor) (client_of p x.ask.node.records).cursor)
        ∙ sym (length_map (restricted p (client_of p x.ask.node.records).subset) (entries_from p (log p (at_answer p name w b)) (length (log p (at_answer p name w b)) - (client_of p x.ask.node.records).cursor) (client_of p x.ask.node.records).cursor))
        ∙ lacked_many p law built name w r i nd h is ne b x

    all_told : BearsAll p name w b i → length (log p (at_answer p name w b)) ≤ (client_of p x.end.node.records).cursor
    all_told all =
        let d = all.down x.ask.node x.ask.here in
        let m = lacks_many in
        let t = told in
        omega arith

    count_on : count (server_of p (at_upload p name w b).server) (client_of p x.up.node.records).ident ≤ count (server_of p (at_ask p name w b).server) (client_of p x.up.node.records).ident
    count_on =
        let a2 = x.store.counts (client_of p x.up.node.records).ident in
        let a3 = x.ask.counts (client_of p x.up.node.records).ident in
        omega arith

    -- the server has the changes that were acknowledged, and those that the upload bore
    pub far_stored : acknowledged x.up.node + length (to_upload p (client_of p x.up.node.records)) ≤ count (server_of p (at_ask p name w b).server) (client_of p x.up.node.records).ident
    far_stored = stored_far (at_upload p name w b) x.up.reached i x.up.node x.up.here x.named (count (server_of p (at_ask p name w b).server) (client_of p x.up.node.records).ident) count_on x.stored

    all_stored : BearsAll p name w b i → length (client_of p x.up.node.records).made ≤ count (server_of p (at_answer p name w b).server) (client_of p x.up.node.records).ident
    all_stored all =
        let u = all.up x.up.node x.up.here in
        let a = (acknowledged_at (at_upload p name w b) x.up.reached i x.up.node x.up.here x.named).all in
        let far = far_stored in
        let a4 = x.answer.counts (client_of p x.up.node.records).ident in
        omega arith

    pub has_both : BearsAll p name w b i → HasBoth p name w b i
    has_both all = record {
      history = λ end there_is. subst (λ (z : Node). length (log p (at_answer p name w b)) ≤ (client_of p z.records).cursor) (one_node x.end.node end (sym x.end.here ∙ there_is)) (all_told all);
      changes = λ y there_is. subst (λ (z : Node). length (client_of p z.records).made ≤ count (server_of p (at_answer p name w b).server) (client_of p z.records).ident) (one_node x.up.node y (sym x.up.here ∙ there_is)) (all_stored all);
    }
