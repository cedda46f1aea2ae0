-- What crossed the entries at the front of a trimmed file.
use Rattle.std.proofs.Common.{◌≡◌, ◌≢◌, ℕ, zero, suc, max, not, ◌+◌, ◌-◌, ◌<◌, ◌≤◌, Bool, true, false, List, [], ◌∷◌, ◌++◌, length, map, take, drop, get_or, All, Option, Some, None, Result, Ok, Err, refl, sym, ap, ◌∙◌, subst, arith, append_assoc}
use denote.Bor.{Bor}
use Rattle.std.specs.Option.{is_some, option_map}
use Rattle.std.specs.Prelude.{bytes_eq, nat_lt, IfOk, IfSome}
use Rattle.std.specs.List.Sorted.{IsPartitionedBy}
use Rattle.std.proofs.lemmas.Bool.{ltb-true}
use Rattle.std.proofs.lemmas.List.{drop_all, drop_more, length-map, map-append}
use Rattle.std.proofs.lemmas.List.Elements.{All-nil, All-cons, All-head, All-tail, All-push}
use Rattle.sync_data.specs.declared.entry.Entry.{Entry}
use Rattle.sync_data.specs.declared.instr.Instr.{Instr}
use Rattle.sync_data.specs.declared.memory.NoMemory.{NoMemory}
use Rattle.sync_recip.specs.Lists.{entry_of}
use Rattle.sync_theory.specs.Changesets.{Changeset}
use Rattle.sync_exchange.specs.Profile.{fits_changeset, the_profile, unspell}
use Rattle.sync_codec.specs.Spelling.{spelling}
use Rattle.sync_model.specs.Files.{readable}
use Rattle.sync_model.specs.Fronts.{Crossed, Passed as ModelPassed, instrs_at, pairs_of, rises, with_pairs}
use Rattle.sync_model.specs.Parts.{Given, at_ident, list_kept}
use Rattle.sync_model.specs.Trims.{pairs_from}
use Rattle.sync_model.specs.Worlds.{at}
use Rattle.server_memory.specs.Crossing.{ArePassed, Crosses, IsFound, IsOf, IsSorted, is_before, passed_seen}
use Rattle.server_memory.specs.History.{AreGiven, IsEntry, IsHistory, IsReciprocal, kept_as}
use Rattle.server_memory.specs.declared.passed.Passed.{Passed}
use Rattle.server_memory.proofs.CrossedPairs.{all_pairs, from_keeps, kept_keeps, length_pairs, pair_at, pair_early, pair_next, pair_own}
use Rattle.server_memory.proofs.Keeps.{all_to}
use Rattle.server_memory.proofs.NextRecords.{can, told_as}
use Rattle.server_memory.proofs.Sorted.{another, before_it, parted, rises_last, sorted_drop, sorted_more, the_one}
use Rattle.server_memory.proofs.Walking.{map_drops}

-- ---- looking for one
below_all : (c v : ℕ) (ps : List Passed) (n : ℕ) → ((k : ℕ) (d : Passed) → k < n → k < length ps → is_before c v (passed_seen (get_or ps k d)) ≡ true) → All (λ q. is_before c v q ≡ true) (take n (map passed_seen ps))
below_all c v [] zero h = All-nil (λ q. is_before c v q ≡ true)
below_all c v [] (suc n) h = All-nil (λ q. is_before c v q ≡ true)
below_all c v (p ∷ ps) zero h = All-nil (λ q. is_before c v q ≡ true)
below_all c v (p ∷ ps) (suc n) h =
    All-cons (λ q. is_before c v q ≡ true) (passed_seen p) (take n (map passed_seen ps)) (h 0 p (omega arith) (omega arith)) (below_all c v ps n (λ k d a b. h (suc k) d (omega (arith, a)) (omega (arith, b))))

module _ (ps : List Passed) (c v n : ℕ) (sorted : IsSorted (map passed_seen ps)) (below : (k : ℕ) (d : Passed) → k < n → k < length ps → is_before c v (passed_seen (get_or ps k d)) ≡ true) where
  rest : (is : List Instr) → instrs_at c v (map passed_seen ps) is ≡ instrs_at c v (map passed_seen (drop n ps)) is
  rest is = before_it (map passed_seen ps) n c v is (below_all c v ps n below) ∙ ap (λ l. instrs_at c v l is) (sym (map_drops passed_seen n ps))

  pub nothing_left : length ps ≤ n → (is : List Instr) → instrs_at c v (map passed_seen ps) is ≡ is
  nothing_left h is = rest is ∙ ap (λ l. instrs_at c v (map passed_seen l) is) (drop_all n ps h)

  module _ (p : Passed) (within : n < length ps) (here : p ≡ get_or ps n p) where
    opened : drop n ps ≡ p ∷ drop (n + 1) ps
    opened = drop_more ps n p within ∙ ap (λ q. q ∷ drop (n + 1) ps) (sym here)

    pub found_it : p.ident ≡ c → p.version ≡ v → IsFound c v ps p
    found_it e f =
        record {
          place = n;
          within = within;
          is = here;
          version_is = f;
          list = λ is. rest is ∙ ap (λ l. instrs_at c v (map passed_seen l) is) opened ∙ the_one (passed_seen p) (map passed_seen (drop (n + 1) ps)) c v is e f;
        }

    pub other_one : is_before c v (passed_seen p) ≡ false → ((p.ident ≡ c) × (p.version ≡ v) → ⊥) → (is : List Instr) → instrs_at c v (map passed_seen ps) is ≡ is
    other_one e ne is =
        let dropped = subst IsSorted (sym (map_drops passed_seen n ps)) (sorted_drop (map passed_seen ps) n sorted) in
        rest is ∙ ap (λ l. instrs_at c v (map passed_seen l) is) opened
        ∙ another (passed_seen p) (map passed_seen (drop (n + 1) ps)) c v is (subst (λ l. IsSorted (map passed_seen l)) opened dropped) e ne

seen_at : (ps : List Passed) (i : ℕ) (d : Passed) → get_or (map passed_seen ps) i (passed_seen d) ≡ passed_seen (get_or ps i d)
seen_at [] zero d = refl
seen_at [] (suc i) d = refl
seen_at (p ∷ ps) zero d = refl
seen_at (p ∷ ps) (suc i) d = seen_at ps i d

-- what is asked of a search for it
pub parted_passed : (ps : List Passed) (c v : ℕ) → IsSorted (map passed_seen ps) → IsPartitionedBy (λ p. is_before c v (passed_seen p)) ps
parted_passed ps c v s i j d le lt e =
    let size = length-map ps passed_seen in
    subst (λ q. is_before c v q ≡ true) (seen_at ps i d) (parted (map passed_seen ps) c v s i j (passed_seen d) le (omega (arith, lt, size)) (subst (λ q. is_before c v q ≡ true) (sym (seen_at ps j d)) e))

-- the last one decides
pub rises_as : (ps : List Passed) (c v : ℕ) (p : Passed) → length ps ≢ 0 → p ≡ get_or ps (length ps - 1) p → rises (map passed_seen ps) c v ≡ is_before c v (passed_seen p)
rises_as ps c v p ne here =
    let size = length-map ps passed_seen in
    let less : length (map passed_seen ps) - 1 ≡ length ps - 1 = omega (arith, size) in
    rises_last (map passed_seen ps) c v (passed_seen p) (λ e. ne (sym size ∙ e)) (ap passed_seen here ∙ sym (seen_at ps (length ps - 1) p) ∙ ap (λ n. get_or (map passed_seen ps) n (passed_seen p)) (sym less))

-- ---- one more of them
pub told : (second : Bool) (floor : ℕ) (gs : List (Given Instr)) (xs : List (Changeset Instr)) (e : Crossed) (g : Given Instr) (x : Changeset Instr) (given : at_ident e.ident gs ≡ Some g) (is : at xs (e.version - floor) ≡ Some x) (above : floor ≤ e.version)
    → can the_profile second gs floor xs e g given x is above ≡ true → not (bytes_eq e.body (spelling x.instrs)) ≡ true
    → (y : Entry) → readable the_profile second (unspell e.body) ≡ Some y.changes.instrs → entry_of y ≡ record x { instrs = y.changes.instrs } → fits_changeset y.changes.instrs ≡ true → Crosses second floor gs xs e (Some y)
told second floor gs xs e g x given is above yes_ other y read same small =
    (told_as the_profile second gs floor xs e g given x is above yes_ other ∙ read, record { above = above; entry = x; is = is; same = same; small = small })

at_map : (es : List Entry) (n : ℕ) (e : Entry) → n < length es → e ≡ get_or es n e → at (map entry_of es) n ≡ Some (entry_of e)
at_map [] n e h is = absurd (omega (arith, h))
at_map (x ∷ es) zero e h is = ap (λ y. Some (entry_of y)) (sym is)
at_map (x ∷ es) (suc n) e h is = at_map es n e (omega (arith, h)) is

pub found_at : (es : List Entry) (n : ℕ) (r : Option (Bor Entry)) (s : Bor Entry) (e : Entry) → r ≡ Some s → e ≡ s.now → is_some r ≡ nat_lt n (length es) → IfSome r (λ x. x.now ≡ get_or es n x.now) → at (map entry_of es) n ≡ Some (entry_of e)
found_at es n r s e is same there item =
    let lt : nat_lt n (length es) ≡ true = sym (subst (λ (o : Option (Bor Entry)). is_some o ≡ nat_lt n (length es)) is there) in
    let here : s.now ≡ get_or es n s.now = subst (λ (o : Option (Bor Entry)). IfSome o (λ x. x.now ≡ get_or es n x.now)) is item in
    at_map es n s.now (ltb-true n (length es) lt) here ∙ ap (λ y. Some (entry_of y)) (sym same)

-- what the bytes of a record tell
module _ (second : Bool) (floor : ℕ) (gs : List (Given Instr)) (xs : List (Changeset Instr)) (e : Crossed) (g : Given Instr) (given : at_ident e.ident gs ≡ Some g) (old : Entry) (is : at xs (e.version - floor) ≡ Some (entry_of old)) (above : floor ≤ e.version) where
  pub crosses_as : can the_profile second gs floor xs e g given (entry_of old) is above ≡ true → not (bytes_eq e.body (spelling old.changes.instrs)) ≡ true → (r : Result (Option Entry) NoMemory)
      → IfOk r (λ found. option_map (λ (y : Entry). y.changes.instrs) found ≡ readable the_profile second (unspell e.body)) → IfOk r (λ found. IfSome found (λ (y : Entry). entry_of y ≡ record (entry_of old) { instrs = y.changes.instrs })) → IfOk r (λ found. IfSome found (λ (y : Entry). fits_changeset y.changes.instrs ≡ true))
      → IfOk r (λ found. Crosses second floor gs xs e found)
  crosses_as yes_ other (Err why) listed same small = tt
  crosses_as yes_ other (Ok None) listed same small = told_as the_profile second gs floor xs e g given (entry_of old) is above yes_ other ∙ sym listed
  crosses_as yes_ other (Ok (Some y)) listed same small = told second floor gs xs e g (entry_of old) given is above yes_ other y (sym listed) same small

pub sorted_next : (ps now : List Passed) (p : Passed) → now ≡ ps ++ p ∷ [] → IsSorted (map passed_seen ps) → rises (map passed_seen ps) p.ident p.version ≡ true → IsSorted (map passed_seen now)
sorted_next ps now p is s h = subst IsSorted (sym (ap (map passed_seen) is ∙ map-append passed_seen ps (p ∷ []))) (sorted_more (map passed_seen ps) (passed_seen p) s h)

pub each_next : (floor : ℕ) (xs : List (Changeset Instr)) (ps now : List Passed) (p : Passed) → now ≡ ps ++ p ∷ [] → ArePassed floor xs ps → IsOf floor xs p.version p.entry → ArePassed floor xs now
each_next floor xs ps now p is a h = subst (ArePassed floor xs) (sym is) (All-push (λ (q : Passed). IsOf floor xs q.version q.entry) ps p a h)

-- ---- the pairs of an ident
same_one : {A : Type 0} {x y : A} → Some x ≡ Some y → x ≡ y
same_one e = cc

abbrev version_with : ℕ → Changeset Instr → ℕ × Changeset Instr
version_with v x = (v, x)

module _ (floor first c : ℕ) (es : List Entry) (ps : List Passed) where
  abbrev qs : List (ModelPassed Instr)
  qs = map passed_seen ps

  abbrev pub all_of : List (ℕ × Changeset Instr)
  all_of = pairs_from first (pairs_of c floor (map entry_of es) qs)

  -- these were made of the entries before a place
  pub record PairsSoFar (place : ℕ) (made : List (ℕ × Changeset Instr)) : Type 0 where
    pub so_far : made ++ pairs_from first (pairs_of c (floor + place) (map entry_of (drop place es)) qs) ≡ all_of
    pub below : All (λ pair. pair.0 < floor + place) made

  later_below : (place : ℕ) (made : List (ℕ × Changeset Instr)) → All (λ pair. pair.0 < floor + place) made → All (λ pair. pair.0 < floor + (place + 1)) made
  later_below place made a = all_to (λ pair. pair.0 < floor + place) (λ pair. pair.0 < floor + (place + 1)) made (λ pair h. omega (arith, h)) a

  module _ (place : ℕ) (made : List (ℕ × Changeset Instr)) (s : PairsSoFar place made) where
    module _ (e : Entry) (within : place < length es) (here : e ≡ get_or es place e) where
      opened_entries : drop place es ≡ e ∷ drop (place + 1) es
      opened_entries = drop_more es place e within ∙ ap (λ y. y ∷ drop (place + 1) es) (sym here)

      count : suc (floor + place) ≡ floor + (place + 1)
      count = omega arith

      abbrev after : List (ℕ × Changeset Instr)
      after = pairs_from first (pairs_of c (floor + (place + 1)) (map entry_of (drop (place + 1) es)) qs)

      over : pairs_from first (pairs_of c (floor + place) (entry_of e ∷ map entry_of (drop (place + 1) es)) qs) ≡ pairs_from first (pairs_of c (suc (floor + place)) (map entry_of (drop (place + 1) es)) qs) → PairsSoFar (place + 1) made
      over f =
          record {
            so_far = sym (ap (λ l. made ++ pairs_from first (pairs_of c (floor + place) (map entry_of l) qs)) opened_entries ∙ ap (λ l. made ++ l) (f ∙ ap (λ n. pairs_from first (pairs_of c n (map entry_of (drop (place + 1) es)) qs)) count)) ∙ s.so_far;
            below = later_below place made s.below;
          }

      pub pairs_own : e.origin ≡ c → PairsSoFar (place + 1) made
      pairs_own f = over (pair_own c (floor + place) first (entry_of e) (map entry_of (drop (place + 1) es)) qs f)

      pub pairs_early : floor + place < first → PairsSoFar (place + 1) made
      pairs_early h = over (pair_early c (floor + place) first (entry_of e) (map entry_of (drop (place + 1) es)) qs h)

      pub pairs_next : (y : Entry) (now : List (ℕ × Changeset Instr)) → e.origin ≢ c → first ≤ floor + place → entry_of y ≡ record (entry_of e) { instrs = instrs_at c (floor + place) qs e.changes.instrs } → now ≡ made ++ (floor + place, entry_of y) ∷ [] → PairsSoFar (place + 1) now
      pairs_next y now ne h same is =
          let pair : pair_at c (floor + place) qs (entry_of e) ≡ version_with (floor + place) (entry_of y) = ap (version_with (floor + place)) (sym same) in
          let split : pairs_from first (pairs_of c (floor + place) (map entry_of (drop place es)) qs) ≡ (floor + place, entry_of y) ∷ after =
          ap (λ l. pairs_from first (pairs_of c (floor + place) (map entry_of l) qs)) opened_entries
          ∙ pair_next c (floor + place) first (entry_of e) (map entry_of (drop (place + 1) es)) qs ne h
          ∙ (λ i. pair i ∷ pairs_from first (pairs_of c (count i) (map entry_of (drop (place + 1) es)) qs))
          in
          subst (PairsSoFar (place + 1)) (sym is) (record {
            so_far = append_assoc made ((floor + place, entry_of y) ∷ []) after ∙ ap (λ l. made ++ l) (sym split) ∙ s.so_far;
            below = All-push (λ pair. pair.0 < floor + (place + 1)) made (floor + place, entry_of y) (later_below place made s.below) (omega arith);
          })

      pub as_told : ArePassed floor (map entry_of es) ps → (p : Passed) → IsFound c (floor + place) ps p → entry_of p.entry ≡ record (entry_of e) { instrs = instrs_at c (floor + place) qs e.changes.instrs }
      as_told each p f =
          let of_ : IsOf floor (map entry_of es) p.version p.entry = subst (λ (q : Passed). IsOf floor (map entry_of es) q.version q.entry) (sym f.is) (each f.place p f.within) in
          let here_ : p.version - floor ≡ place = omega (arith, f.version_is) in
          let one : of_.entry ≡ entry_of e = same_one (sym of_.is ∙ ap (at (map entry_of es)) here_ ∙ at_map es place e within here) in
          of_.same ∙ (λ i. record (one i) { instrs = sym (f.list e.changes.instrs) i })

      pub as_before_it : ((is : List Instr) → instrs_at c (floor + place) qs is ≡ is) → entry_of e ≡ record (entry_of e) { instrs = instrs_at c (floor + place) qs e.changes.instrs }
      as_before_it f = λ i. record (entry_of e) { instrs = sym (f e.changes.instrs) i }

-- ---- the pairs of each ident
module _ (floor : ℕ) (xs : List (Changeset Instr)) (qs : List (ModelPassed Instr)) (gs : List (Given Instr)) (place : ℕ) (g : Given Instr) (within : place < length gs) (here : g ≡ get_or gs place g) where
  abbrev crossed_by : ℕ → List (ℕ × Changeset Instr)
  crossed_by c = list_kept g.heir (pairs_from (max floor g.last) (pairs_of c floor xs qs))

  abbrev behind : List (Given Instr)
  behind = drop (place + 1) gs

  pub given_next : (made now : List (Given Instr)) (pairs : List (ℕ × Changeset Instr)) → pairs ≡ crossed_by (place + 1) → now ≡ made ++ record g { reciprocal = pairs } ∷ []
      → now ++ with_pairs (suc (place + 1)) floor xs qs behind ≡ made ++ with_pairs (suc place) floor xs qs (drop place gs)
  given_next made now pairs told is =
      let more : place + 1 ≡ suc place = omega arith in
      let opened : drop place gs ≡ g ∷ behind = drop_more gs place g within ∙ ap (λ h. h ∷ behind) (sym here) in
      let same : pairs ≡ crossed_by (suc place) = told ∙ ap crossed_by more in
      let first : record g { reciprocal = pairs } ∷ with_pairs (suc (place + 1)) floor xs qs behind ≡ with_pairs (suc place) floor xs qs (g ∷ behind) = (λ i. record g { reciprocal = same i } ∷ with_pairs (suc (more i)) floor xs qs behind) in
      ap (λ l. l ++ with_pairs (suc (place + 1)) floor xs qs behind) is
      ∙ append_assoc made (record g { reciprocal = pairs } ∷ []) (with_pairs (suc (place + 1)) floor xs qs behind)
      ∙ ap (λ l. made ++ l) (first ∙ ap (with_pairs (suc place) floor xs qs) (sym opened))

-- ---- the whole
small_passed : (floor : ℕ) (xs : List (Changeset Instr)) (ps : List Passed) → ArePassed floor xs ps → All (λ q. fits_changeset q.instrs ≡ true) (map passed_seen ps)
small_passed floor xs [] a = All-nil (λ q. fits_changeset q.instrs ≡ true)
small_passed floor xs (p ∷ ps) a =
    All-cons (λ q. fits_changeset q.instrs ≡ true) (passed_seen p) (map passed_seen ps) (All-head (λ (q : Passed). IsOf floor xs q.version q.entry) p ps a).small (small_passed floor xs ps (All-tail (λ (q : Passed). IsOf floor xs q.version q.entry) p ps a))

given_pairs : (floor c : ℕ) (xs : List (Changeset Instr)) (qs : List (ModelPassed Instr)) (gs : List (Given Instr)) → All (λ x. fits_changeset x.instrs ≡ true) xs → All (λ q. fits_changeset q.instrs ≡ true) qs → AreGiven (floor + length xs) c (with_pairs c floor xs qs gs)
given_pairs floor c xs passed [] a b = tt
given_pairs floor c xs passed (g ∷ gs) a b = (
  kept_keeps (IsReciprocal (floor + length xs) c) g.heir (pairs_from (max floor g.last) (pairs_of c floor xs passed))
      (from_keeps (IsReciprocal (floor + length xs) c) (max floor g.last) (pairs_of c floor xs passed)
      (all_pairs (IsReciprocal (floor + length xs) c) fits_changeset c floor xs passed (λ k x h ne small. record { before = h; entry = record { other = ne; small = small } }) a b)),
  given_pairs floor (suc c) xs passed gs a b,
)

pub is_kept : (floor : ℕ) (xs : List (Changeset Instr)) (bases : List ℕ) (second : Bool) (gs : List (Given Instr)) (ds : List (ℕ × ℕ)) (ps : List Passed) → floor + length xs ≤ 4294967295 → length gs ≤ 4294967295 → All (IsEntry (length gs)) xs → length bases ≡ length xs → ArePassed floor xs ps
    → IsHistory (kept_as floor xs bases second (with_pairs 1 floor xs (map passed_seen ps) gs) ds)
is_kept floor xs bases second gs ds ps short few each based told =
    let size = length_pairs 1 floor xs (map passed_seen ps) gs in
    record {
      short = short;
      based = based;
      few = omega (arith, size, few);
      entries = subst (λ n. All (IsEntry n) xs) (sym size) each;
      idents = given_pairs floor 1 xs (map passed_seen ps) gs (all_to (IsEntry (length gs)) (λ x. fits_changeset x.instrs ≡ true) xs (λ x e. e.small) each) (small_passed floor xs ps told);
    }
