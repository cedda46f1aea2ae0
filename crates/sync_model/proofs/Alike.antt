-- A server that gave up its history before a floor answers as before, up to the first message that it refuses by 71.
use Rattle.std.proofs.Common.{◌≡◌, ◌≢◌, ◌⊎◌, inl, inr, ⊎_elim, ℕ, zero, suc, ◌+◌, ◌-◌, ◌<◌, ◌≤◌, Bool, true, false, ◌&&◌, ◌||◌, not, List, [], ◌∷◌, ◌++◌, Option, Some, None, Result, Ok, Err, refl, sym, ap, ap₂, ◌∙◌, subst, subst₂, arith, if◌then◌else◌, ◌==◌, length, drop, take, map, nat_le, nat_lt, length-append, min, max, le_refl}
use Rattle.std.specs.List.{list_any}
use Rattle.std.proofs.lemmas.Bool.Decides.{nat_tests}
use Rattle.std.proofs.lemmas.Bool.{ltb-false, ltb-true}
use Rattle.sync_theory.specs.Grid.{carry, tail}
use Rattle.sync_theory.specs.Changesets.{Changeset}
use Rattle.sync_theory.specs.Reciprocals.{from_base, settle, put_first}
use Rattle.sync_theory.proofs.World.{put_unless, put_if}
use Rattle.sync_model.specs.Bytes.{Uuid}
use Rattle.sync_model.specs.Profile.{Profile, Stuck, apply_all, cross_changesets, needs}
use Rattle.sync_model.specs.Messages.{Change, Message, Bind, Ident, Upload, Ask, Download, Refused, Stored, Ask2, Retire, Retired, AskTables}
use Rattle.sync_model.specs.Servers.{ServerRecord, Client, Entry, Form, Settled, is_retired, ServerRefusal, IdentRetired, SelfRetire, RetiredBy, NumberGap, BaseBack, AheadOfHistory, HistoryFull, NoSuchIdent, IdentsFull, NotForServer, Trimmed, ServerStep, code_of, refuses, replies, place_of, entry_of, download, download_first, download_tables, marks_new}
use Rattle.sync_model.specs.Worlds.{at}
use Rattle.sync_model.specs.Parts.{Given, Parts, Served, Merged, at_ident, as_before, with_versions, settled, longer_list, extended, idents_retired, given_up, retired_for, retire_as, retire_by, idents_after, integrated, merged_by, bound, marked, marking_by, ask_by, merge_applied_by, merge_carried_by, merge_read_by, merge_by, upload_by, serve_by, after_change, after_entry, after_part, after_parts}
use Rattle.sync_model.specs.Trims.{pairs_from, replies_by, kept_after, is_trimmed, SameGiven, SameIdents, no_idents, an_ident, KeptLess}

-- a number isn't below a smaller one
pub not_below : (n m : ℕ) → m ≤ n → nat_lt n m ≡ false
not_below n m h = on (nat_lt n m) refl
  where
    on : (t : Bool) → nat_lt n m ≡ t → nat_lt n m ≡ false
    on false is = is
    on true is = absurd (grind (arith, nat_tests))

-- ---- pairs from a version on

pub pairs_twice : {X : Type 0} (b v : ℕ) (qs : List (ℕ × X)) → b ≤ v → pairs_from v (pairs_from b qs) ≡ pairs_from v qs
pairs_twice b v [] h = refl
pairs_twice {X} b v (q ∷ qs) h = on (pairs_twice b v qs h) (nat_lt q.0 b) refl (nat_lt q.0 v) refl
  where
    on : pairs_from v (pairs_from b qs) ≡ pairs_from v qs → (x : Bool) → nat_lt q.0 b ≡ x → (y : Bool) → nat_lt q.0 v ≡ y → pairs_from v (if x then pairs_from b qs else q ∷ pairs_from b qs) ≡ (if y then pairs_from v qs else q ∷ pairs_from v qs)
    on ih true x_is true y_is = ih
    on ih true x_is false y_is = absurd (grind (arith, nat_tests))
    on ih false x_is true y_is = put_if (nat_lt q.0 v) (pairs_from v (pairs_from b qs)) (q ∷ pairs_from v (pairs_from b qs)) y_is ∙ ih
    on ih false x_is false y_is = put_unless (nat_lt q.0 v) (pairs_from v (pairs_from b qs)) (q ∷ pairs_from v (pairs_from b qs)) y_is ∙ ap (λ l. q ∷ l) ih

pub pairs_append : {X : Type 0} (v : ℕ) (qs ts : List (ℕ × X)) → pairs_from v (qs ++ ts) ≡ pairs_from v qs ++ pairs_from v ts
pairs_append v [] ts = refl
pairs_append v (q ∷ qs) ts = on (pairs_append v qs ts) (nat_lt q.0 v)
  where
    on : pairs_from v (qs ++ ts) ≡ pairs_from v qs ++ pairs_from v ts → (x : Bool) → (if x then pairs_from v (qs ++ ts) else q ∷ pairs_from v (qs ++ ts)) ≡ (if x then pairs_from v qs else q ∷ pairs_from v qs) ++ pairs_from v ts
    on ih true = ih
    on ih false = ap (λ l. q ∷ l) ih

-- what lies before the base isn't settled, and what is settled keeps its version
pub pairs_settle : {X : Type 0} (b : ℕ) (qs : List (ℕ × X)) (es : List X) → pairs_from b (settle b qs es) ≡ settle b (pairs_from b qs) es
pairs_settle b [] es = refl
pairs_settle {X} b (q ∷ qs) es = on (λ fs. pairs_settle b qs fs) (nat_lt q.0 b) refl
  where
    same : (es : List X) → (put_first q es).0 ≡ q.0
    same [] = refl
    same (e ∷ es) = refl

    on : ((fs : List X) → pairs_from b (settle b qs fs) ≡ settle b (pairs_from b qs) fs) → (x : Bool) → nat_lt q.0 b ≡ x → pairs_from b (if x then q ∷ settle b qs es else put_first q es ∷ settle b qs (tail es)) ≡ settle b (if x then pairs_from b qs else q ∷ pairs_from b qs) es
    on ih true is = put_if (nat_lt q.0 b) (pairs_from b (settle b qs es)) (q ∷ pairs_from b (settle b qs es)) is ∙ ih es
    on ih false is =
        put_unless (nat_lt (put_first q es).0 b) (pairs_from b (settle b qs (tail es))) (put_first q es ∷ pairs_from b (settle b qs (tail es))) (ap (λ k. nat_lt k b) (same es) ∙ is)
        ∙ ap (λ l. put_first q es ∷ l) (ih (tail es))
        ∙ sym (put_unless (nat_lt q.0 b) (q ∷ settle b (pairs_from b qs) es) (put_first q es ∷ settle b (pairs_from b qs) (tail es)) is)

pub base_of_pairs : {X : Type 0} (b : ℕ) (qs : List (ℕ × X)) → from_base b qs ≡ from_base b (pairs_from b qs)
base_of_pairs b [] = refl
base_of_pairs b (q ∷ qs) = on (base_of_pairs b qs) (nat_lt q.0 b) refl
  where
    on : from_base b qs ≡ from_base b (pairs_from b qs) → (x : Bool) → nat_lt q.0 b ≡ x → (if x then from_base b qs else q.1 ∷ from_base b qs) ≡ from_base b (if x then pairs_from b qs else q ∷ pairs_from b qs)
    on ih true is = ih
    on ih false is = ap (λ l. q.1 ∷ l) ih ∙ sym (put_unless (nat_lt q.0 b) (from_base b (pairs_from b qs)) (q.1 ∷ from_base b (pairs_from b qs)) is)

pub pairs_versions : {X : Type 0} (v d k : ℕ) (xs : List X) → k + d ≤ v → pairs_from v (with_versions (k + d) (drop d xs)) ≡ pairs_from v (with_versions k xs)
pairs_versions v zero k xs h = let e : k + 0 ≡ k = omega arith in ap (λ j. pairs_from v (with_versions j xs)) e
pairs_versions v (suc d) k [] h = refl
pairs_versions v (suc d) k (x ∷ xs) h =
    let e : k + suc d ≡ suc k + d = omega arith in
    ap (λ j. pairs_from v (with_versions j (drop d xs))) e
    ∙ pairs_versions v d (suc k) xs (omega arith)
    ∙ sym (put_if (nat_lt k v) (pairs_from v (with_versions (suc k) xs)) ((k, x) ∷ pairs_from v (with_versions (suc k) xs)) (below (nat_lt k v) refl))
  where
    below : (b : Bool) → nat_lt k v ≡ b → nat_lt k v ≡ true
    below true is = is
    below false is = absurd (grind (arith, nat_tests))

pub drop_snoc : {X : Type 0} (d : ℕ) (xs : List X) (x : X) → d ≤ length xs → drop d (xs ++ x ∷ []) ≡ drop d xs ++ x ∷ []
drop_snoc zero xs x h = refl
drop_snoc (suc d) [] x h = absurd (omega arith)
drop_snoc (suc d) (y ∷ xs) x h = drop_snoc d xs x (omega arith)

pub drop_drop : {X : Type 0} (d j : ℕ) (xs : List X) → drop j (drop d xs) ≡ drop (d + j) xs
drop_drop zero j xs = let e : j ≡ 0 + j = omega arith in ap (λ k. drop k xs) e
drop_drop {X} (suc d) j [] = none j ∙ sym (none (suc d + j))
  where
    none : (n : ℕ) → ◌≡◌ {A = List X} (drop n []) []
    none zero = refl
    none (suc n) = refl
drop_drop (suc d) j (x ∷ xs) = let e : suc (d + j) ≡ suc d + j = omega arith in drop_drop d j xs ∙ ap (λ k. drop k (x ∷ xs)) e

-- ---- idents

-- both are there, or none
unfoldable pub SameSome : {I : Type 0} → ℕ → Option (Given I) → Option (Given I) → Type 0
SameSome f None None = Unit {0}
SameSome f None (Some b) = ⊥
SameSome f (Some a) None = ⊥
SameSome f (Some a) (Some b) = SameGiven f a b

pub same_at : {I : Type 0} (f : ℕ) {as_ bs : List (Given I)} → SameIdents f as_ bs → (j : ℕ) → SameSome f (at as_ j) (at bs j)
unfolding SameSome
same_at f no_idents j = tt
same_at f (an_ident s r) zero = s
same_at f (an_ident s r) (suc j) = same_at f r j

pub same_ident : {I : Type 0} (f : ℕ) {as_ bs : List (Given I)} → SameIdents f as_ bs → (c : ℕ) → SameSome f (at_ident c as_) (at_ident c bs)
unfolding SameSome
same_ident f s zero = tt
same_ident f s (suc j) = same_at f s j

pub same_length : {I : Type 0} (f : ℕ) {as_ bs : List (Given I)} → SameIdents f as_ bs → length bs ≡ length as_
same_length f no_idents = refl
same_length f (an_ident s r) = ap suc (same_length f r)

pub same_uuids : {I : Type 0} (f : ℕ) {as_ bs : List (Given I)} → SameIdents f as_ bs → map (λ g. g.uuid) bs ≡ map (λ g. g.uuid) as_
same_uuids f no_idents = refl
same_uuids f (an_ident s r) = ap₂ (λ x l. x ∷ l) s.uuid (same_uuids f r)

pub same_snoc : {I : Type 0} (f : ℕ) {as_ bs : List (Given I)} (a b : Given I) → SameIdents f as_ bs → SameGiven f a b → SameIdents f (as_ ++ a ∷ []) (bs ++ b ∷ [])
same_snoc f a b no_idents s = an_ident s no_idents
same_snoc f a b (an_ident h r) s = an_ident h (same_snoc f a b r s)

pub same_marked : {I : Type 0} (f c n k : ℕ) {as_ bs : List (Given I)} → SameIdents f as_ bs → SameIdents f (marked c n k as_) (marked c n k bs)
same_marked f c n k no_idents = no_idents
same_marked f c n k (an_ident {a = a} {b = b} s r) = an_ident (on (k == c)) (same_marked f c n (suc k) r)
  where
    on : (t : Bool) → SameGiven f (if t then record a { mark = n } else a) (if t then record b { mark = n } else b)
    on true = record { uuid = s.uuid; count = s.count; last = s.last; heir = s.heir; mark = refl; pairs = s.pairs }
    on false = s

pub same_retired : {I : Type 0} (f c by k : ℕ) {as_ bs : List (Given I)} → SameIdents f as_ bs → SameIdents f (idents_retired c by k as_) (idents_retired c by k bs)
same_retired f c by k no_idents = no_idents
same_retired f c by k (an_ident {a = a} {b = b} s r) = an_ident (on (k == c)) (same_retired f c by (suc k) r)
  where
    on : (t : Bool) → SameGiven f (if t then given_up by a else a) (if t then given_up by b else b)
    on true = record { uuid = s.uuid; count = s.count; last = s.last; heir = refl; mark = s.mark; pairs = λ v e g. refl }
    on false = s

-- after a change of ident c at a base from the floor on
same_settled : {I : Type 0} (f base : ℕ) (es : List (Changeset I)) (a b : Given I) → SameGiven f a b → f ≤ base → a.last ≤ base → SameGiven f (settled base es a) (settled base es b)
same_settled f base es a b s h l = record {
  uuid = s.uuid;
  count = ap suc s.count;
  last = refl;
  heir = s.heir;
  mark = s.mark;
  pairs = λ v e g. sym (pairs_twice base v (settle base b.reciprocal es) g) ∙ ap (pairs_from v) (pairs_settle base b.reciprocal es ∙ ap (λ r. settle base r es) (s.pairs base h l) ∙ sym (pairs_settle base a.reciprocal es)) ∙ pairs_twice base v (settle base a.reciprocal es) g;
}

same_extended : {I : Type 0} (f version : ℕ) (x : Changeset I) (a b : Given I) → SameGiven f a b → SameGiven f (extended version x a) (extended version x b)
same_extended f version x a b s = record {
  uuid = s.uuid;
  count = s.count;
  last = s.last;
  heir = s.heir;
  mark = s.mark;
  pairs = λ v e g. ap (λ o. pairs_from v (longer_list o b.reciprocal (version, x))) s.heir ∙ on a.heir v (s.pairs v e g);
}
  where
    on : (o : Option ℕ) (v : ℕ) → pairs_from v b.reciprocal ≡ pairs_from v a.reciprocal → pairs_from v (longer_list o b.reciprocal (version, x)) ≡ pairs_from v (longer_list o a.reciprocal (version, x))
    on None v h = pairs_append v b.reciprocal ((version, x) ∷ []) ∙ ap (λ l. l ++ pairs_from v ((version, x) ∷ [])) h ∙ sym (pairs_append v a.reciprocal ((version, x) ∷ []))
    on (Some by) v h = h

pub same_after : {I : Type 0} (f c base : ℕ) (es : List (Changeset I)) (version : ℕ) (x : Changeset I) (k : ℕ) {as_ bs : List (Given I)} → SameIdents f as_ bs → f ≤ base → ((j : ℕ) (g : Given I) → at as_ j ≡ Some g → k + j ≡ c → g.last ≤ base) → SameIdents f (idents_after c base es version x k as_) (idents_after c base es version x k bs)
same_after f c base es version x k no_idents h l = no_idents
same_after f c base es version x k (an_ident {a = a} {b = b} s r) h l =
    an_ident (on (k == c) refl) (same_after f c base es version x (suc k) r h (λ j g e is. l (suc j) g e (omega arith)))
  where
    on : (t : Bool) → (k == c) ≡ t → SameGiven f (if t then settled base es a else extended version x a) (if t then settled base es b else extended version x b)
    on true is = let e = Rattle.std.proofs.Common.eqb-true k c is in same_settled f base es a b s h (l 0 a refl (omega arith))
    on false is = same_extended f version x a b s

-- some change has its base below a floor, and so does a message, or it asks from below
abbrev pub LowChange : ℕ → List Change → Type 0
LowChange floor [] = ⊥
LowChange floor (h ∷ hs) = (h.base < floor) ⊎ LowChange floor hs

abbrev pub IsLow : ℕ → Message → Type 0
IsLow floor (Upload c hs) = LowChange floor hs
IsLow floor (Ask c cursor n) = cursor < floor
IsLow floor (Ask2 c cursor n) = cursor < floor
IsLow floor (AskTables c cursor n second tables) = cursor < floor
IsLow floor m = ⊥

module _ {I S : Type 0} (p : Profile I S) where
  -- the records of a change, or a refusal: the same, unless the second refuses by 71 what is below
  unfoldable pub SameMerge : Type 0 → Result (Merged I S) ServerRefusal → Result (Merged I S) ServerRefusal → Type 0
  SameMerge low (Ok m) (Ok n) = (n.records ≡ m.records) × KeptLess m.parts n.parts
  SameMerge low (Ok m) (Err w) = (code_of w ≡ 71) × low
  SameMerge low (Err v) (Ok n) = ⊥
  SameMerge low (Err v) (Err w) = (w ≡ v) ⊎ ((code_of w ≡ 71) × low)

  refused_71 : {low : Type 0} (x : Result (Merged I S) ServerRefusal) (w : ServerRefusal) → code_of w ≡ 71 → low → SameMerge low x (Err w)
  unfolding SameMerge
  refused_71 (Ok m) w e l = (e, l)
  refused_71 (Err v) w e l = inr (e, l)

  if_same : (low : Type 0) (t : Bool) (w : ServerRefusal) (x y : Result (Merged I S) ServerRefusal) → (t ≡ false → SameMerge low x y) → SameMerge low (if t then Err w else x) (if t then Err w else y)
  unfolding SameMerge
  if_same low true w x y h = inl refl
  if_same low false w x y h = h refl

  -- a change leaves the floor where it is
  pub FloorOf : ℕ → Result (Merged I S) ServerRefusal → Type 0
  FloorOf f (Ok m) = m.parts.floor ≡ f
  FloorOf f (Err w) = Unit {0}

  merge_floor : (b : Parts I S) (c : ℕ) (g : Given I) (h : Change) → FloorOf b.floor (merge_by p b c g h)
  unfolding FloorOf
  merge_floor b c g h = tests (is_retired g.heir) (nat_lt (suc g.count) h.number) (nat_lt h.base g.last) (nat_lt b.len h.base) (nat_lt h.base b.floor) (b.len == p.full) (p.unspell h.body)
    where
      applied : (is : List I) (x : Changeset I) (es : List (Changeset I)) (o : Result S (ℕ × ℕ)) → FloorOf b.floor (merge_applied_by p b c h is x es o)
      applied is x es (Ok t) = refl
      applied is x es (Err e) = tt

      carried : (is : List I) (o : Result (Changeset I × List (Changeset I)) Stuck) → FloorOf b.floor (merge_carried_by p b c h is o)
      carried is (Ok q) = applied is q.0 q.1 (apply_all p q.0.instrs b.objects)
      carried is (Err m) = tt

      read : (o : Result (List I) (ℕ × ℕ)) → FloorOf b.floor (merge_read_by p b c g h o)
      read (Ok is) = carried is (carry (cross_changesets p) (entry_of c h is).change (from_base h.base g.reciprocal))
      read (Err f) = tt

      tests : (x y z t u v : Bool) (o : Result (List I) (ℕ × ℕ)) → FloorOf b.floor (if x then Err (IdentRetired g.count) else (if y then Err (NumberGap (suc g.count)) else (if z then Err (BaseBack g.last) else (if t then Err (AheadOfHistory b.len) else (if u then Err (Trimmed b.floor) else (if v then Err (HistoryFull b.len) else merge_read_by p b c g h o))))))
      tests true y z t u v o = tt
      tests false true z t u v o = tt
      tests false false true t u v o = tt
      tests false false false true u v o = tt
      tests false false false false true v o = tt
      tests false false false false false true o = tt
      tests false false false false false false o = read o

  pub change_floor : (b : Parts I S) (r : Result (Merged I S) ServerRefusal) → FloorOf b.floor r → (after_change b r).floor ≡ b.floor
  unfolding FloorOf
  change_floor b (Ok m) f = f
  change_floor b (Err w) f = refl

  -- records that a server appends leave it there
  pub part_floor : (b : Parts I S) (r : ServerRecord) → (after_part p b r).floor ≡ b.floor
  part_floor b (Client u) = refl
  part_floor b (Entry c number base ms body) = on (at_ident c b.idents)
    where
      on : (o : Option (Given I)) → (after_entry p b c (record { number = number; base = base; ms = ms; body = body }) o).floor ≡ b.floor
      on None = refl
      on (Some g) = change_floor b (merge_by p b c g (record { number = number; base = base; ms = ms; body = body })) (merge_floor b c g (record { number = number; base = base; ms = ms; body = body }))
  part_floor b Form = refl
  part_floor b (ServerRecord.Retired c by) = refl
  part_floor b (Settled c n) = refl
  part_floor b (ServerRecord.Part body) = refl
  part_floor b (ServerRecord.Floor version) = refl
  part_floor b (ServerRecord.Count c number base n) = refl
  part_floor b (ServerRecord.Carried origin number base ms body) = refl
  part_floor b (ServerRecord.Past c version ms body) = refl

  pub parts_floor : (rs : List ServerRecord) (b : Parts I S) → (after_parts p b rs).floor ≡ b.floor
  parts_floor [] b = refl
  parts_floor (r ∷ rs) b = parts_floor rs (after_part p b r) ∙ part_floor b r

  -- ---- one change

  module _ (a : Parts I S) (fb : ℕ) (below : S) (bases : List ℕ) (ids : List (Given I)) where
    abbrev b : Parts I S
    b = record { floor = fb; below = below; len = a.len; entries = drop (fb - a.floor) a.entries; bases = bases; objects = a.objects; second = a.second; idents = ids; retired = a.retired }

    module _ (k : KeptLess a b) where
      less_integrated : (c base : ℕ) (form : Bool) (x : Changeset I) (es : List (Changeset I)) (t : S) → fb ≤ base → ((g : Given I) → at_ident c a.idents ≡ Some g → g.last ≤ base) → KeptLess (integrated a c base form x es t) (integrated b c base form x es t)
      less_integrated c base form x es t h l =
          let w = k.within in
          let u = k.based in
          let le = length-append a.entries (x ∷ []) in
          let lb = length-append a.bases (base ∷ []) in
          record {
            floor = k.floor;
            within = omega arith;
            len = refl;
            entries = sym (drop_snoc (fb - a.floor) a.entries x w);
            bases = ap (λ z. z ++ base ∷ []) k.bases ∙ sym (drop_snoc (fb - a.floor) a.bases base u);
            based = omega arith;
            objects = refl;
            second = refl;
            idents = same_after fb c base es a.len x 1 k.idents h (λ j g e is. let one : c ≡ suc j = omega arith in l g (ap (λ d. at_ident d a.idents) one ∙ e));
            retired = refl;
          }

      module _ (c : ℕ) (ga : Given I) (r : List (ℕ × Changeset I)) (pairs : (v : ℕ) → fb ≤ v → ga.last ≤ v → pairs_from v r ≡ pairs_from v ga.reciprocal) (h : Change) (here : at_ident c a.idents ≡ Some ga) where
        abbrev gb : Given I
        gb = record ga { reciprocal = r }

        applied : (is : List I) (x : Changeset I) (es : List (Changeset I)) (o : Result S (ℕ × ℕ)) → fb ≤ h.base → ga.last ≤ h.base → SameMerge (h.base < fb) (merge_applied_by p a c h is x es o) (merge_applied_by p b c h is x es o)
        unfolding SameMerge
        applied is x es (Ok t) f l = (refl, less_integrated c h.base (needs p is) x es t f (λ g e. let same : ga ≡ g = cc (here, e) in subst (λ z. z.last ≤ h.base) same l))
        applied is x es (Err e) f l = inl refl

        carried : (is : List I) (o : Result (Changeset I × List (Changeset I)) Stuck) → fb ≤ h.base → ga.last ≤ h.base → SameMerge (h.base < fb) (merge_carried_by p a c h is o) (merge_carried_by p b c h is o)
        unfolding SameMerge
        carried is (Ok q) f l = applied is q.0 q.1 (apply_all p q.0.instrs a.objects) f l
        carried is (Err m) f l = inl refl

        read : (o : Result (List I) (ℕ × ℕ)) → fb ≤ h.base → ga.last ≤ h.base → SameMerge (h.base < fb) (merge_read_by p a c ga h o) (merge_read_by p b c gb h o)
        unfolding SameMerge
        read (Err e) f l = inl refl
        read (Ok is) f l =
            let same : from_base h.base r ≡ from_base h.base ga.reciprocal = base_of_pairs h.base r ∙ ap (from_base h.base) (pairs h.base f l) ∙ sym (base_of_pairs h.base ga.reciprocal) in
            subst (λ es. SameMerge (h.base < fb) (merge_read_by p a c ga h (Ok is)) (merge_carried_by p b c h is (carry (cross_changesets p) (entry_of c h is).change es))) (sym same) (carried is (carry (cross_changesets p) (entry_of c h is).change (from_base h.base ga.reciprocal)) f l)

        merge_same : SameMerge (h.base < fb) (merge_by p a c ga h) (merge_by p b c gb h)
        merge_same =
            if_same (h.base < fb) (is_retired ga.heir) _ _ _ (λ e0. if_same (h.base < fb) (nat_lt (suc ga.count) h.number) _ _ _ (λ e1. if_same (h.base < fb) (nat_lt h.base ga.last) _ _ _ (λ e2. if_same (h.base < fb) (nat_lt a.len h.base) _ _ _ (λ e3. floors (nat_lt h.base fb) refl (ltb-false h.base ga.last e2)))))
          where
            rest : Parts I S → Given I → Result (Merged I S) ServerRefusal
            rest z g = if z.len == p.full then Err (HistoryFull z.len) else merge_read_by p z c g h (p.unspell h.body)

            floors : (y : Bool) → nat_lt h.base fb ≡ y → ga.last ≤ h.base → SameMerge (h.base < fb) (if nat_lt h.base a.floor then Err (Trimmed a.floor) else (if a.len == p.full then Err (HistoryFull a.len) else merge_read_by p a c ga h (p.unspell h.body))) (if y then Err (Trimmed fb) else (if a.len == p.full then Err (HistoryFull a.len) else merge_read_by p b c gb h (p.unspell h.body)))
            floors true is l = refused_71 (if nat_lt h.base a.floor then Err (Trimmed a.floor) else (if a.len == p.full then Err (HistoryFull a.len) else merge_read_by p a c ga h (p.unspell h.body))) (Trimmed fb) refl (ltb-true h.base fb is)
            floors false is l =
                let f : fb ≤ h.base = ltb-false h.base fb is in
                let g = k.floor in
                subst (λ z. SameMerge (h.base < fb) z (if a.len == p.full then Err (HistoryFull a.len) else merge_read_by p b c gb h (p.unspell h.body)))
                (sym (put_unless (nat_lt h.base a.floor) (Err (Trimmed a.floor)) (if a.len == p.full then Err (HistoryFull a.len) else merge_read_by p a c ga h (p.unspell h.body)) (not_below h.base a.floor (omega arith))))
                (if_same (h.base < fb) (a.len == p.full) (HistoryFull a.len) _ _ (λ e. read (p.unspell h.body) f l))

  -- ---- one message

  -- the same answer and records, unless the second refuses by 71 what is below
  unfoldable pub SameServed : Type 0 → Served I S → Served I S → Type 0
  SameServed low x y = ((is_trimmed y.answer ≡ true) × low) ⊎ ((y.records ≡ x.records) × (y.answer ≡ x.answer) × KeptLess x.parts y.parts)

  as_less : (a b : Parts I S) → KeptLess a b → b ≡ record { floor = b.floor; below = b.below; len = a.len; entries = drop (b.floor - a.floor) a.entries; bases = b.bases; objects = a.objects; second = a.second; idents = b.idents; retired = a.retired }
  as_less a b k = λ i. record { floor = b.floor; below = b.below; len = k.len i; entries = k.entries i; bases = b.bases; objects = k.objects i; second = k.second i; idents = b.idents; retired = k.retired i }

  as_given : {f : ℕ} (a b : Given I) → SameGiven f a b → b ≡ record a { reciprocal = b.reciprocal }
  as_given a b s = λ i. record { uuid = s.uuid i; count = s.count i; last = s.last i; heir = s.heir i; mark = s.mark i; reciprocal = b.reciprocal }

  pub merges_same : (a b : Parts I S) → KeptLess a b → (c : ℕ) (ga gb : Given I) → SameGiven b.floor ga gb → (h : Change) → at_ident c a.idents ≡ Some ga → SameMerge (h.base < b.floor) (merge_by p a c ga h) (merge_by p b c gb h)
  merges_same a b k c ga gb s h here =
      subst (λ z. SameMerge (h.base < b.floor) (merge_by p a c ga h) (merge_by p b c z h)) (sym (as_given ga gb s))
      (subst (λ z. SameMerge (h.base < b.floor) (merge_by p a c ga h) (merge_by p z c (record ga { reciprocal = gb.reciprocal }) h)) (sym (as_less a b k))
      (merge_same a b.floor b.below b.bases b.idents (subst (λ z. KeptLess a z) (as_less a b k) k) c ga gb.reciprocal s.pairs h here))

  -- the second one refuses the same way
  same_refused : (low : Type 0) (a b : Parts I S) → KeptLess a b → (did : ServerStep) → SameServed low (as_before a did) (as_before b did)
  unfolding SameServed
  same_refused low a b k did = inr (refl, refl, k)

  upload_same : (hs : List Change) (a b : Parts I S) → KeptLess a b → (c : ℕ) (oa ob : Option (Given I)) → SameSome b.floor oa ob → oa ≡ at_ident c a.idents → SameServed (LowChange b.floor hs) (upload_by p a c oa hs) (upload_by p b c ob hs)
  unfolding SameServed SameMerge SameSome FloorOf
  upload_same hs a b k c None None s here = same_none hs
    where
      same_none : (hs : List Change) → SameServed (LowChange b.floor hs) (upload_by p a c None hs) (upload_by p b c None hs)
      same_none [] = subst (λ n. SameServed (LowChange b.floor []) (as_before a (refuses c 0 (NoSuchIdent (length a.idents)))) (as_before b (refuses c 0 (NoSuchIdent n)))) (sym (same_length b.floor k.idents)) (same_refused (LowChange b.floor []) a b k (refuses c 0 (NoSuchIdent (length a.idents))))
      same_none (h ∷ hs) = subst (λ n. SameServed (LowChange b.floor (h ∷ hs)) (as_before a (refuses c 0 (NoSuchIdent (length a.idents)))) (as_before b (refuses c 0 (NoSuchIdent n)))) (sym (same_length b.floor k.idents)) (same_refused (LowChange b.floor (h ∷ hs)) a b k (refuses c 0 (NoSuchIdent (length a.idents))))
  upload_same hs a b k c None (Some x) s here = absurd s
  upload_same hs a b k c (Some x) None s here = absurd s
  upload_same [] a b k c (Some ga) (Some gb) s here = subst (λ n. SameServed (LowChange b.floor []) (as_before a (replies (Stored c ga.count))) (as_before b (replies (Stored c n)))) (sym s.count) (same_refused (LowChange b.floor []) a b k (replies (Stored c ga.count)))
  upload_same (h ∷ hs) a b k c (Some ga) (Some gb) s here =
      subst (λ n. SameServed (LowChange b.floor (h ∷ hs)) (upload_by p a c (Some ga) (h ∷ hs)) (if nat_le h.number n then upload_by p b c (Some gb) hs else merged_by b c h.number (merge_by p b c gb h) (λ after. upload_by p after c (at_ident c after.idents) hs))) (sym s.count)
      (go (nat_le h.number ga.count) (upload_same hs a b k c (Some ga) (Some gb) s here) (merge_by p a c ga h) (merge_by p b c gb h) (merges_same a b k c ga gb s h (sym here)) (merge_floor b c gb h) (λ x y l. upload_same hs x y l c (at_ident c x.idents) (at_ident c y.idents) (same_ident y.floor l.idents c) refl))
    where
      go : (t : Bool) → SameServed (LowChange b.floor hs) (upload_by p a c (Some ga) hs) (upload_by p b c (Some gb) hs) → (x y : Result (Merged I S) ServerRefusal) → SameMerge (h.base < b.floor) x y → FloorOf b.floor y → ((x y : Parts I S) → KeptLess x y → SameServed (LowChange y.floor hs) (upload_by p x c (at_ident c x.idents) hs) (upload_by p y c (at_ident c y.idents) hs))
          → SameServed (LowChange b.floor (h ∷ hs)) (if t then upload_by p a c (Some ga) hs else merged_by a c h.number x (λ after. upload_by p after c (at_ident c after.idents) hs)) (if t then upload_by p b c (Some gb) hs else merged_by b c h.number y (λ after. upload_by p after c (at_ident c after.idents) hs))
      go true skip x y m f rec = ⊎_elim (λ t. inl (t.0, inr t.1)) (λ r. inr r) skip
      go false skip (Err v) (Err w) (inl e) f rec = subst (λ z. SameServed (LowChange b.floor (h ∷ hs)) (as_before a (refuses c h.number v)) (as_before b (refuses c h.number z))) (sym e) (same_refused (LowChange b.floor (h ∷ hs)) a b k (refuses c h.number v))
      go false skip (Err v) (Err w) (inr e) f rec = inl (ap (λ n. n == 71) e.0, inl e.1)
      go false skip (Err v) (Ok n) m f rec = absurd m
      go false skip (Ok m) (Err w) e f rec = inl (ap (λ n. n == 71) e.0, inl e.1)
      go false skip (Ok m) (Ok n) q f rec = ⊎_elim (λ t. inl (t.0, inr (subst (λ j. LowChange j hs) f t.1))) (λ r. inr (ap₂ (λ u v. u ++ v) q.0 r.0, r.1, r.2)) (rec m.parts n.parts q.1)

  pub less_marked : (a b : Parts I S) → KeptLess a b → (c n : ℕ) → KeptLess (record a { idents = marked c n 1 a.idents }) (record b { idents = marked c n 1 b.idents })
  less_marked a b k c n = record { floor = k.floor; within = k.within; len = k.len; entries = k.entries; bases = k.bases; based = k.based; objects = k.objects; second = k.second; idents = same_marked b.floor c n 1 k.idents; retired = k.retired }

  pub less_retired : (a b : Parts I S) → KeptLess a b → (c by : ℕ) → KeptLess (retired_for a c by) (retired_for b c by)
  less_retired a b k c by = record { floor = k.floor; within = k.within; len = k.len; entries = k.entries; bases = k.bases; based = k.based; objects = k.objects; second = k.second; idents = same_retired b.floor c by 1 k.idents; retired = ap (λ l. l ++ (c, by) ∷ []) k.retired }

  marking_same : (a b : Parts I S) → KeptLess a b → (c mark cursor n : ℕ) (m : Message) (low : Type 0) → SameServed low (marking_by a c mark cursor n m) (marking_by b c mark cursor n m)
  unfolding SameServed
  marking_same a b k c mark cursor n m low = inr (refl, refl, on (marks_new mark cursor n m))
    where
      on : (t : Bool) → KeptLess (if t then record a { idents = marked c n 1 a.idents } else a) (if t then record b { idents = marked c n 1 b.idents } else b)
      on true = less_marked a b k c n
      on false = k

  ask_same : (a b : Parts I S) → KeptLess a b → (c cursor n : ℕ) (oa ob : Option (Given I)) → SameSome b.floor oa ob → (go : List (Changeset I) → ServerStep) → SameServed (cursor < b.floor) (ask_by a c cursor n oa go) (ask_by b c cursor n ob go)
  unfolding SameSome SameServed
  ask_same a b k c cursor n None None s go = subst (λ j. SameServed (cursor < b.floor) (as_before a (refuses c 0 (NoSuchIdent (length a.idents)))) (as_before b (refuses c 0 (NoSuchIdent j)))) (sym (same_length b.floor k.idents)) (same_refused (cursor < b.floor) a b k (refuses c 0 (NoSuchIdent (length a.idents))))
  ask_same a b k c cursor n None (Some x) s go = absurd s
  ask_same a b k c cursor n (Some x) None s go = absurd s
  ask_same a b k c cursor n (Some ga) (Some gb) s go =
      subst₂ (λ l m. SameServed (cursor < b.floor) (ask_by a c cursor n (Some ga) go) (if nat_lt l cursor then as_before b (refuses c 0 (AheadOfHistory l)) else (if nat_lt cursor b.floor then as_before b (refuses c 0 (Trimmed b.floor)) else marking_by b c m cursor n (go (drop (cursor - b.floor) b.entries)).answer))) (sym k.len) (sym s.mark)
      (ahead (nat_lt a.len cursor))
    where
      floors : (t : Bool) → nat_lt cursor b.floor ≡ t → SameServed (cursor < b.floor) (if nat_lt cursor a.floor then as_before a (refuses c 0 (Trimmed a.floor)) else marking_by a c ga.mark cursor n (go (drop (cursor - a.floor) a.entries)).answer) (if t then as_before b (refuses c 0 (Trimmed b.floor)) else marking_by b c ga.mark cursor n (go (drop (cursor - b.floor) b.entries)).answer)
      floors true is = inl (refl, ltb-true cursor b.floor is)
      floors false is =
          let f : b.floor ≤ cursor = ltb-false cursor b.floor is in
          let g = k.floor in
          let e : (b.floor - a.floor) + (cursor - b.floor) ≡ cursor - a.floor = omega arith in
          let same : drop (cursor - b.floor) b.entries ≡ drop (cursor - a.floor) a.entries = ap (drop (cursor - b.floor)) k.entries ∙ drop_drop (b.floor - a.floor) (cursor - b.floor) a.entries ∙ ap (λ j. drop j a.entries) e in
          subst₂ (λ x l. SameServed (cursor < b.floor) x (marking_by b c ga.mark cursor n (go l).answer))
          (sym (put_unless (nat_lt cursor a.floor) (as_before a (refuses c 0 (Trimmed a.floor))) (marking_by a c ga.mark cursor n (go (drop (cursor - a.floor) a.entries)).answer) (not_below cursor a.floor (omega arith)))) (sym same)
          (marking_same a b k c ga.mark cursor n (go (drop (cursor - a.floor) a.entries)).answer (cursor < b.floor))

      ahead : (t : Bool) → SameServed (cursor < b.floor) (if t then as_before a (refuses c 0 (AheadOfHistory a.len)) else (if nat_lt cursor a.floor then as_before a (refuses c 0 (Trimmed a.floor)) else marking_by a c ga.mark cursor n (go (drop (cursor - a.floor) a.entries)).answer)) (if t then as_before b (refuses c 0 (AheadOfHistory a.len)) else (if nat_lt cursor b.floor then as_before b (refuses c 0 (Trimmed b.floor)) else marking_by b c ga.mark cursor n (go (drop (cursor - b.floor) b.entries)).answer))
      ahead true = same_refused (cursor < b.floor) a b k (refuses c 0 (AheadOfHistory a.len))
      ahead false = floors (nat_lt cursor b.floor) refl

  pub less_bound : (a b : Parts I S) → KeptLess a b → (u : Uuid) → KeptLess (bound a u) (bound b u)
  less_bound a b k u = record {
    floor = k.floor;
    within = k.within;
    len = k.len;
    entries = k.entries;
    bases = k.bases;
    based = k.based;
    objects = k.objects;
    second = k.second;
    idents = same_snoc b.floor _ _ k.idents (record {
      uuid = refl;
      count = refl;
      last = refl;
      heir = refl;
      mark = refl;
      pairs = λ v f g.
          let l = k.floor in
          let e : a.floor + (b.floor - a.floor) ≡ b.floor = omega arith in
          ap (λ xs. pairs_from v (with_versions b.floor xs)) k.entries
          ∙ ap (λ j. pairs_from v (with_versions j (drop (b.floor - a.floor) a.entries))) (sym e)
          ∙ pairs_versions v (b.floor - a.floor) a.floor a.entries (omega arith);
    });
    retired = k.retired;
  }

  pub bind_same : (a b : Parts I S) → KeptLess a b → (u : Uuid) → SameServed ⊥ (serve_by p a (Bind u)) (serve_by p b (Bind u))
  unfolding SameServed
  bind_same a b k u =
      subst₂ (λ l n. SameServed ⊥ (serve_by p a (Bind u)) (if not (place_of u l == 0) then as_before b (replies (Ident u (place_of u l))) else (if n == p.full then as_before b (refuses 0 0 (IdentsFull n)) else record { records = Client u ∷ []; answer = Ident u (suc n); parts = bound b u })))
      (sym (same_uuids b.floor k.idents)) (sym (same_length b.floor k.idents))
      (on (place_of u (map (λ g. g.uuid) a.idents) == 0) (length a.idents == p.full))
    where
      on : (s t : Bool) → SameServed ⊥ (if not s then as_before a (replies (Ident u (place_of u (map (λ g. g.uuid) a.idents)))) else (if t then as_before a (refuses 0 0 (IdentsFull (length a.idents))) else record { records = Client u ∷ []; answer = Ident u (suc (length a.idents)); parts = bound a u })) (if not s then as_before b (replies (Ident u (place_of u (map (λ g. g.uuid) a.idents)))) else (if t then as_before b (refuses 0 0 (IdentsFull (length a.idents))) else record { records = Client u ∷ []; answer = Ident u (suc (length a.idents)); parts = bound b u }))
      on false t = same_refused ⊥ a b k (replies (Ident u (place_of u (map (λ g. g.uuid) a.idents))))
      on true true = same_refused ⊥ a b k (refuses 0 0 (IdentsFull (length a.idents)))
      on true false = inr (refl, refl, less_bound a b k u)

  pub retire_same : (a b : Parts I S) → KeptLess a b → (c by : ℕ) (oa ob : Option (Given I)) → SameSome b.floor oa ob → (qa qb : Option (Given I)) → SameSome b.floor qa qb → SameServed ⊥ (retire_by a c by oa qa) (retire_by b c by ob qb)
  unfolding SameServed SameSome
  retire_same a b k c by None (Some x) s qa qb t = absurd s
  retire_same a b k c by (Some x) None s qa qb t = absurd s
  retire_same a b k c by None None s qa qb t = subst (λ n. SameServed ⊥ (as_before a (refuses by 0 (NoSuchIdent (length a.idents)))) (as_before b (refuses by 0 (NoSuchIdent n)))) (sym (same_length b.floor k.idents)) (same_refused ⊥ a b k (refuses by 0 (NoSuchIdent (length a.idents))))
  retire_same a b k c by (Some ga) (Some hb) s None (Some x) t = absurd t
  retire_same a b k c by (Some ga) (Some hb) s (Some x) None t = absurd t
  retire_same a b k c by (Some ga) (Some hb) s None None t = subst (λ n. SameServed ⊥ (as_before a (refuses by 0 (NoSuchIdent (length a.idents)))) (as_before b (refuses by 0 (NoSuchIdent n)))) (sym (same_length b.floor k.idents)) (same_refused ⊥ a b k (refuses by 0 (NoSuchIdent (length a.idents))))
  retire_same a b k c by (Some ga) (Some hb) s (Some x) (Some y) t = subst₂ (λ n o. SameServed ⊥ (retire_by a c by (Some ga) (Some x)) (if c == by then as_before b (refuses by 0 (SelfRetire c)) else retire_as b c by n o)) (sym s.count) (sym s.heir) (on (c == by) ga.heir)
    where
      on : (e : Bool) (o : Option ℕ) → SameServed ⊥ (if e then as_before a (refuses by 0 (SelfRetire c)) else retire_as a c by ga.count o) (if e then as_before b (refuses by 0 (SelfRetire c)) else retire_as b c by ga.count o)
      on true o = same_refused ⊥ a b k (refuses by 0 (SelfRetire c))
      on false None = inr (refl, refl, less_retired a b k c by)
      on false (Some other) = same_refused ⊥ a b k (if other == by then replies (Message.Retired c by ga.count) else refuses by 0 (RetiredBy other))

  pub serve_same : (a b : Parts I S) → KeptLess a b → (m : Message) → SameServed (IsLow b.floor m) (serve_by p a m) (serve_by p b m)
  unfolding SameServed
  serve_same a b k (Bind u) = bind_same a b k u
  serve_same a b k (Upload c hs) = upload_same hs a b k c (at_ident c a.idents) (at_ident c b.idents) (same_ident b.floor k.idents c) refl
  serve_same a b k (Ask c cursor n) = ask_same a b k c cursor n (at_ident c a.idents) (at_ident c b.idents) (same_ident b.floor k.idents c) (download_first p c cursor)
  serve_same a b k (Ask2 c cursor n) = ask_same a b k c cursor n (at_ident c a.idents) (at_ident c b.idents) (same_ident b.floor k.idents c) (download p c cursor)
  serve_same a b k (AskTables c cursor n second tables) = ask_same a b k c cursor n (at_ident c a.idents) (at_ident c b.idents) (same_ident b.floor k.idents c) (download_tables p second tables c cursor)
  serve_same a b k (Retire c by) = retire_same a b k c by (at_ident c a.idents) (at_ident c b.idents) (same_ident b.floor k.idents c) (at_ident by a.idents) (at_ident by b.idents) (same_ident b.floor k.idents by)
  serve_same a b k (Retired c by number) = same_refused ⊥ a b k (refuses c 0 NotForServer)
  serve_same a b k (Ident u c) = same_refused ⊥ a b k (refuses c 0 NotForServer)
  serve_same a b k (Download c from es) = same_refused ⊥ a b k (refuses c 0 NotForServer)
  serve_same a b k (Stored c number) = same_refused ⊥ a b k (refuses c 0 NotForServer)
  serve_same a b k (Refused c number code place) = same_refused ⊥ a b k (refuses c 0 NotForServer)

  -- a message that the second doesn't refuse by 71
  pub served_same : (a b : Parts I S) → KeptLess a b → (m : Message) → is_trimmed (serve_by p b m).answer ≡ false → ((serve_by p b m).records ≡ (serve_by p a m).records) × ((serve_by p b m).answer ≡ (serve_by p a m).answer) × KeptLess (serve_by p a m).parts (serve_by p b m).parts
  unfolding SameServed
  served_same a b k m e = ⊎_elim (λ t. absurd (both t.0 e)) (λ r. r) (serve_same a b k m)
    where
      both : {t : Bool} → t ≡ true → t ≡ false → ⊥
      both f g = cc

  -- nor one that is nowhere below
  pub served_high : (a b : Parts I S) → KeptLess a b → (m : Message) → (IsLow b.floor m → ⊥) → ((serve_by p b m).records ≡ (serve_by p a m).records) × ((serve_by p b m).answer ≡ (serve_by p a m).answer) × KeptLess (serve_by p a m).parts (serve_by p b m).parts
  unfolding SameServed
  served_high a b k m high = ⊎_elim (λ t. absurd (high t.1)) (λ r. r) (serve_same a b k m)

  -- ---- a list of messages

  pub all_same : (ms : List Message) (a b : Parts I S) → KeptLess a b → list_any is_trimmed (replies_by p b ms) ≡ false → (replies_by p b ms ≡ replies_by p a ms) × KeptLess (kept_after p a ms) (kept_after p b ms)
  all_same [] a b k e = (refl, k)
  all_same (m ∷ ms) a b k e =
      let none = neither (is_trimmed (serve_by p b m).answer) (list_any is_trimmed (replies_by p (serve_by p b m).parts ms)) e in
      let one = served_same a b k m none.0 in
      let rest = all_same ms (serve_by p a m).parts (serve_by p b m).parts one.2 none.1 in
      (ap₂ (λ x l. x ∷ l) one.1 rest.0, rest.1)
    where
      neither : (x y : Bool) → (x || y) ≡ false → (x ≡ false) × (y ≡ false)
      neither true y f = cc
      neither false y f = (refl, f)
