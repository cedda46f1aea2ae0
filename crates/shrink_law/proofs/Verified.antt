-- Of a client of an exchange as many transactions are verified as the server has of it.
use Rattle.std.proofs.Common.{◌≡◌, ◌≢◌, ℕ, zero, suc, ◌+◌, ◌-◌, Bool, true, false, ◌&&◌, List, [], ◌∷◌, ◌++◌, Some, None, refl, sym, ap, ap₂, ◌∙◌, subst, arith, append_assoc, if◌then◌else◌, ◌==◌, length, map, drop, take, ⊎_elim}
use Rattle.sync_theory.specs.Changesets.{Changeset}
use Rattle.sync_theory.specs.Logs.{Made as LogMade, Entry as LogEntry, of_origin}
use Rattle.sync_theory.proofs.Logs.{origin_append}
use Rattle.sync_theory.proofs.Server.{test_true, test_false}
use Rattle.sync_theory.proofs.World.{same_or_not}
use Rattle.sync_model.specs.Profile.{Profile, Lawful}
use Rattle.sync_model.specs.Snapshots.{Buildable}
use Rattle.sync_model.specs.Clients.{Original, Unsent, client_of}
use Rattle.sync_model.specs.Servers.{server_of, count, sent_of, entries_from}
use Rattle.sync_model.specs.Worlds.{Node, World, at, IsReached}
use Rattle.sync_model.specs.Log.{as_log, SameStamp}
use Rattle.sync_model.proofs.Calling.{named_as}
use Rattle.sync_model.proofs.Holding.{Holds, all_hold}
use Rattle.sync_model.proofs.Keeping.{entries_listed}
use Rattle.sync_model.proofs.Lists.{listed}
use Rattle.sync_model.proofs.Own.{good_of}
use Rattle.shrink_law.specs.Current.{own_stamps, stamps_of, stamp_of}
use Rattle.shrink_law.specs.Forked.{matched, verified}
use Rattle.shrink_law.proofs.Shrinking.{len_append, len_map}

-- ---- lists

take_drop : {A : Type 0} (k : ℕ) (xs : List A) → take k xs ++ drop k xs ≡ xs
take_drop zero xs = refl
take_drop (suc k) [] = refl
take_drop (suc k) (x ∷ xs) = ap (λ l. x ∷ l) (take_drop k xs)

len_drop : {A : Type 0} (k : ℕ) (xs : List A) → length (drop k xs) ≡ length xs - k
len_drop zero xs = omega arith
len_drop (suc k) [] = omega arith
len_drop (suc k) (x ∷ xs) = let r = len_drop k xs in omega arith

at_behind : {A : Type 0} (k : ℕ) (xs : List A) (j : ℕ) → at xs (k + j) ≡ at (drop k xs) j
at_behind zero xs j = let e : 0 + j ≡ j = omega arith in ap (at xs) e
at_behind (suc k) [] j = none (suc k + j)
  where
    none : {A : Type 0} (n : ℕ) → at {A = A} [] n ≡ None
    none n = refl
at_behind (suc k) (x ∷ xs) j = let e : suc k + j ≡ suc (k + j) = omega arith in ap (at (x ∷ xs)) e ∙ at_behind k xs j

drop_front : {A : Type 0} (xs ys : List A) → drop (length xs) (xs ++ ys) ≡ ys
drop_front [] ys = refl
drop_front (x ∷ xs) ys = drop_front xs ys

cancel : {A : Type 0} (xs ys us vs : List A) → length xs ≡ length ys → xs ++ us ≡ ys ++ vs → us ≡ vs
cancel xs ys us vs e f = sym (drop_front xs us) ∙ ap (drop (length xs)) f ∙ ap (λ k. drop k (ys ++ vs)) e ∙ drop_front ys vs

map_append : {A B : Type 0} (f : A → B) (xs ys : List A) → map f (xs ++ ys) ≡ map f xs ++ map f ys
map_append f [] ys = refl
map_append f (x ∷ xs) ys = ap (λ l. f x ∷ l) (map_append f xs ys)

turned : (a b : ℕ) → (a == b) ≡ (b == a)
turned a b = ⊎_elim (λ is. test_true a b is ∙ sym (test_true b a (sym is))) (λ ne. test_false a b ne ∙ sym (test_false b a (λ is. ne (sym is)))) (same_or_not a b)

-- ---- stamps

-- of an original in the log
abbrev logged : {I : Type 0} → LogMade (Changeset I) → ℕ × ℕ
logged m = (m.change.number, m.change.ms)

listed_stamps : {I : Type 0} (c : ℕ) (f : ℕ → Changeset I) (k : ℕ) (log : List (LogEntry (Changeset I))) → ((j : ℕ) (e : LogEntry (Changeset I)) → at log j ≡ Some e → SameStamp e.change (f (k + j)) × (e.change.origin ≡ e.origin)) → stamps_of c (listed f (length log) k) ≡ map logged (of_origin c log)
listed_stamps c f k [] h = refl
listed_stamps {I} c f k (e ∷ log) h =
    let t = h 0 e refl in
    let here : k + 0 ≡ k = omega arith in
    let origin : (f k).origin ≡ e.origin = ap (λ j. (f j).origin) (sym here) ∙ t.0.origin ∙ t.1 in
    let number : (f k).number ≡ e.change.number = ap (λ j. (f j).number) (sym here) ∙ t.0.number in
    let ms : (f k).ms ≡ e.change.ms = ap (λ j. (f j).ms) (sym here) ∙ t.0.ms in
    first ((f k).origin == c) (c == e.origin) (ap (λ o. o == c) origin ∙ turned e.origin c) (λ i. (number i, ms i))
    (listed_stamps c f (suc k) log (λ j x i. let next : k + suc j ≡ suc k + j = omega arith in subst (λ n. SameStamp x.change (f n) × (x.change.origin ≡ x.origin)) next (h (suc j) x i)))
  where
    first : (a b : Bool) → a ≡ b → ◌≡◌ {A = ℕ × ℕ} ((f k).number, (f k).ms) (e.change.number, e.change.ms) → stamps_of c (listed f (length log) (suc k)) ≡ map logged (of_origin c log)
        → (if a then ((f k).number, (f k).ms) ∷ stamps_of c (listed f (length log) (suc k)) else stamps_of c (listed f (length log) (suc k))) ≡ map logged ((if b then record { base = e.base; change = e.change } ∷ [] else []) ++ of_origin c log)
    first true true z q r = ap₂ (λ x l. x ∷ l) q r
    first true false z q r = cc
    first false true z q r = cc
    first false false z q r = r

logged_unsent : {I : Type 0} (c : ℕ) (us : List (Unsent I)) → map (λ u. stamp_of u.original) us ≡ map logged (map (as_log c) (map (λ u. u.original) us))
logged_unsent c [] = refl
logged_unsent c (u ∷ us) = ap (λ l. stamp_of u.original ∷ l) (logged_unsent c us)

all_matched : {I : Type 0} (qs : List (ℕ × ℕ)) (us : List (Unsent I)) (more : List (ℕ × ℕ)) → map (λ u. stamp_of u.original) us ≡ qs ++ more → matched qs us ≡ length qs
all_matched [] us more e = refl
all_matched (q ∷ qs) [] more e = cc
all_matched (q ∷ qs) (u ∷ us) more e =
    let head : stamp_of u.original ≡ q = cc in
    let tail : map (λ u. stamp_of u.original) us ≡ qs ++ more = cc in
    let number : (q.0 == u.original.number) ≡ true = test_true q.0 u.original.number (ap (λ z. z.0) (sym head)) in
    let ms : (q.1 == u.original.ms) ≡ true = test_true q.1 u.original.ms (ap (λ z. z.1) (sym head)) in
    let rest = all_matched qs us more tail in
    (λ i. if number i && ms i then suc (matched qs us) else 0) ∙ ap (λ n. suc n) rest

module _ {I S : Type 0} (p : Profile I S) where
  sent_stamps : (c : ℕ) (xs : List (Changeset I)) → own_stamps c (map (sent_of p) xs) ≡ stamps_of c xs
  sent_stamps c [] = refl
  sent_stamps c (x ∷ xs) = on (x.origin == c) (sent_stamps c xs)
    where
      on : (b : Bool) → own_stamps c (map (sent_of p) xs) ≡ stamps_of c xs → (if b then (x.number, x.ms) ∷ own_stamps c (map (sent_of p) xs) else own_stamps c (map (sent_of p) xs)) ≡ (if b then (x.number, x.ms) ∷ stamps_of c xs else stamps_of c xs)
      on true e = ap (λ l. (x.number, x.ms) ∷ l) e
      on false e = e

  module _ {Fits Bounded Old : S → Type 0} (law : Lawful p Fits) (built : Buildable p Fits Bounded Old) where
    held_verified : (w : World) → Holds p w → (i : ℕ) (nd : Node) → at w.clients i ≡ Some nd → (client_of p nd.records).ident ≢ 0
        → verified (client_of p nd.records) (map (sent_of p) (entries_from p (server_of p w.server).log (length (server_of p w.server).log - (client_of p nd.records).cursor) (client_of p nd.records).cursor)) ≡ count (server_of p w.server) (client_of p nd.records).ident
    held_verified w h i nd here ne =
        let s = server_of p w.server in
        let n = h.n in
        let sim = h.sim in
        let c = client_of p nd.records in
        let d = c.ident in
        let k = c.cursor in
        let g = (named_as p law s w.injected w.clients n sim i nd here ne).given in
        let us : List (Original I) = map (λ u. u.original) c.unsent in
        let reach = g.reach in
        let rest = sim.ahead d in
        let front : List (LogMade (Changeset I)) = of_origin d (take k n.log) in
        let behind : List (LogMade (Changeset I)) = of_origin d (drop k n.log) in
        let split : of_origin d n.log ≡ front ++ behind = ap (of_origin d) (sym (take_drop k n.log)) ∙ origin_append d (take k n.log) (drop k n.log) in
        let ahead : map (as_log d) g.sent ++ map (as_log d) us ≡ front ++ (behind ++ rest.0) =
        sym (ap (map (as_log d)) g.split ∙ map_append (as_log d) g.sent us) ∙ sym g.mades ∙ rest.1 ∙ ap (λ l. l ++ rest.0) split ∙ append_assoc front behind rest.0 in
        let made : map (as_log d) us ≡ behind ++ rest.0 = cancel (map (as_log d) g.sent) front (map (as_log d) us) (behind ++ rest.0) (len_map (as_log d) g.sent ∙ g.sent_count) ahead in
        let unsent : map (λ u. stamp_of u.original) c.unsent ≡ map logged behind ++ map logged rest.0 = logged_unsent d c.unsent ∙ ap (map logged) made ∙ map_append logged behind rest.0 in
        let good = (good_of p law s w.clients w.injected n sim).log in
        let long : length (drop k n.log) ≡ length n.log - k = len_drop k n.log in
        let entries : entries_from p n.log (length n.log - k) k ≡ listed n.entries (length (drop k n.log)) k =
        entries_listed p n.log n.entries (length n.log - k) k (λ j a b. good.whole j (omega (arith, a, b, reach))) ∙ ap (λ m. listed n.entries m k) (sym long) in
        let stamps : own_stamps d (map (sent_of p) (entries_from p n.log (length n.log - k) k)) ≡ map logged behind =
        sent_stamps d (entries_from p n.log (length n.log - k) k) ∙ ap (stamps_of d) entries
        ∙ listed_stamps d n.entries k (drop k n.log) (λ j x e. sim.stamps (k + j) x (at_behind k n.log j ∙ e)) in
        let all : matched (own_stamps d (map (sent_of p) (entries_from p n.log (length n.log - k) k))) c.unsent ≡ length behind =
        ap (λ l. matched l c.unsent) stamps ∙ all_matched (map logged behind) c.unsent (map logged rest.0) unsent ∙ len_map logged behind in
        let a : length c.made ≡ length g.sent + length us = ap length g.split ∙ len_append g.sent us in
        let b : length us ≡ length c.unsent = len_map (λ (u : Unsent I). u.original) c.unsent in
        let f : length g.sent ≡ length front = g.sent_count in
        let t : length (of_origin d n.log) ≡ length front + length behind = ap length split ∙ len_append front behind in
        let done : verified c (map (sent_of p) (entries_from p n.log (length n.log - k) k)) ≡ length (of_origin d n.log) = omega (arith, a, b, f, t, all) in
        subst (λ l. verified c (map (sent_of p) (entries_from p l (length l - k) k)) ≡ length (of_origin d l)) sim.log_is done

    pub reached_verified : (w : World) → IsReached p w → (i : ℕ) (nd : Node) → at w.clients i ≡ Some nd → (client_of p nd.records).ident ≢ 0
        → verified (client_of p nd.records) (map (sent_of p) (entries_from p (server_of p w.server).log (length (server_of p w.server).log - (client_of p nd.records).cursor) (client_of p nd.records).cursor)) ≡ count (server_of p w.server) (client_of p nd.records).ident
    reached_verified w r = held_verified w (subst (Holds p) r.1 (all_hold p law built r.0))
