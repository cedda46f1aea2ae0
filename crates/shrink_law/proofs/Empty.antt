-- A question that is answered by no entries tells that a client has the whole history.
use Rattle.std.proofs.Common.{◌≡◌, ◌≢◌, ℕ, zero, suc, ◌+◌, ◌-◌, ◌≤◌, Bool, true, false, not, List, [], ◌∷◌, ◌++◌, refl, sym, ap, ap₂, ◌∙◌, arith, append_assoc, append-nil, if◌then◌else◌, length, map, nat_lt}
use Rattle.std.proofs.lemmas.Bool.{ltb-false}
use Rattle.sync_theory.specs.Lists.{kept}
use Rattle.sync_theory.specs.Logs.{Entry as LogEntry}
use Rattle.sync_theory.specs.Changesets.{Changeset}
use Rattle.sync_model.specs.Profile.{Profile, Lawful, restricted, fitting}
use Rattle.sync_model.specs.Messages.{Sent, Ask2, Download}
use Rattle.sync_model.specs.Each.{Each, and_each}
use Rattle.sync_model.specs.Clients.{ClientRecord, no_client, client_of, tooks_of}
use Rattle.sync_model.specs.Files.{IsLong, client_opens, server_opens}
use Rattle.sync_model.specs.Progress.{IsRoomy}
use Rattle.sync_model.specs.Recovery.{whole_history}
use Rattle.sync_model.specs.Servers.{Server, ServerRecord, NoSuchIdent, AheadOfHistory, no_server, server_of, history_of, entries_from, sent_of, download, is_given, marking, refuses, serve}
use Rattle.sync_model.proofs.Progress.Serves.{fits_some}
use Rattle.sync_model.proofs.Small.{SmallSets, entries_small, server_lists}
use Rattle.shrink_law.specs.Current.{HasTold}
use Rattle.shrink_law.proofs.Current.{has_told}

module _ {I S : Type 0} (p : Profile I S) where
  from_append : (log : List (LogEntry (Changeset I))) (a b k : ℕ) → entries_from p log (a + b) k ≡ entries_from p log a k ++ entries_from p log b (k + a)
  from_append log zero b k = let e : 0 + b ≡ b = omega arith in let f : k ≡ k + 0 = omega arith in ap₂ (entries_from p log) e f
  from_append log (suc a) b k =
      let e : suc a + b ≡ suc (a + b) = omega arith in
      let f : suc k + a ≡ k + suc a = omega arith in
      ap (λ n. entries_from p log n k) e
      ∙ ap (λ l. kept (history_of p log k) ++ l) (from_append log a b (suc k))
      ∙ sym (append_assoc (kept (history_of p log k)) (entries_from p log a (suc k)) (entries_from p log b (suc k + a)))
      ∙ ap (λ j. (kept (history_of p log k) ++ entries_from p log a (suc k)) ++ entries_from p log b j) f

  module _ {Fits : S → Type 0} (law : Lawful p Fits) (roomy : IsRoomy p) where
    nothing_fits : (xs : List (Changeset I)) → SmallSets p xs → fitting (λ e. length e.body) p.most p.room (map (sent_of p) xs) ≡ [] → xs ≡ []
    nothing_fits [] h e = refl
    nothing_fits (x ∷ xs) (and_each h f) e =
        let r = fits_some (λ (e : Sent). length e.body) p.most p.room (sent_of p x) (map (sent_of p) xs) roomy.some (roomy.fits x.instrs h) in
        absurd (some r.0 (sym r.1 ∙ e))
      where
        some : (rest : List Sent) → sent_of p x ∷ rest ≡ [] → ⊥
        some rest g = cc

    -- the answer has no entries, so that there are none
    none_left : (s : Server I) (c cursor settled : ℕ) → SmallSets p (entries_from p s.log (length s.log - cursor) cursor) → (serve p s (Ask2 c cursor settled)).answer ≡ Download c cursor [] → (entries_from p s.log (length s.log - cursor) cursor ≡ []) × (cursor ≤ length s.log)
    none_left s c cursor settled small e = on (is_given s c) (nat_lt (length s.log) cursor) refl e
      where
        xs : List (Changeset I)
        xs = entries_from p s.log (length s.log - cursor) cursor

        same : {as_ bs : List Sent} → Download c cursor as_ ≡ Download c cursor bs → as_ ≡ bs
        same f = cc

        on : (a b : Bool) → nat_lt (length s.log) cursor ≡ b → (if not a then refuses c 0 (NoSuchIdent (length s.ids)) else if b then refuses c 0 (AheadOfHistory (length s.log)) else marking c (s.marks c) cursor settled (download p c cursor (entries_from p s.log (length s.log - cursor) cursor)).answer).answer ≡ Download c cursor []
            → (entries_from p s.log (length s.log - cursor) cursor ≡ []) × (cursor ≤ length s.log)
        on false b z f = cc
        on true true z f = cc
        on true false z f = (nothing_fits (entries_from p s.log (length s.log - cursor) cursor) small (same f), let l = ltb-false (length s.log) cursor z in omega (arith, l))

    -- a client that took the history up to its cursor, and whose question is answered so, lost nothing
    pub empty_tells : (rs : List ClientRecord) (ss : List ServerRecord) → Each IsLong rs → client_opens p (no_client p) rs ≡ true → server_opens p no_server ss ≡ true → (client_of p rs).ident ≢ 0
        → tooks_of rs ≡ map (λ x. sent_of p (restricted p (client_of p rs).subset x)) (entries_from p (server_of p ss).log (client_of p rs).cursor 0)
        → (settled : ℕ) → (serve p (server_of p ss) (Ask2 (client_of p rs).ident (client_of p rs).cursor settled)).answer ≡ Download (client_of p rs).ident (client_of p rs).cursor []
        → HasTold p rs (server_of p ss)
    empty_tells rs ss longs open_ serves named took settled e =
        let c = client_of p rs in
        let s = server_of p ss in
        let m = length s.log - c.cursor in
        let small = entries_small p law s.log (server_lists p law ss).originals m c.cursor in
        let none = none_left s c.ident c.cursor settled small e in
        let high = none.1 in
        let long : length s.log ≡ c.cursor + m = omega (arith, high) in
        let zero_is : 0 + c.cursor ≡ c.cursor = omega arith in
        let whole : whole_history p s ≡ entries_from p s.log c.cursor 0 =
        ap (λ n. entries_from p s.log n 0) long ∙ from_append s.log c.cursor m 0
        ∙ ap (λ j. entries_from p s.log c.cursor 0 ++ entries_from p s.log m j) zero_is
        ∙ ap (λ l. entries_from p s.log c.cursor 0 ++ l) none.0 ∙ append-nil (entries_from p s.log c.cursor 0) in
        has_told p law rs ss longs open_ serves (record { named = named; took = took ∙ ap (map (λ x. sent_of p (restricted p c.subset x))) (sym whole) })
