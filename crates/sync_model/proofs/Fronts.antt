-- What opening makes of a server's file: of one with its whole history, and of the records of each kind in front of a trimmed one.
use Rattle.std.proofs.Common.{◌≡◌, ◌≢◌, ◌⊎◌, inl, inr, ⊎_elim, ℕ, zero, suc, ◌+◌, ◌-◌, ◌<◌, ◌≤◌, Bool, true, false, ◌&&◌, ◌||◌, not, List, [], ◌∷◌, ◌++◌, Option, Some, None, Result, Ok, Err, refl, sym, ap, ap₂, ◌∙◌, subst, arith, append_assoc, append-nil, if◌then◌else◌, ◌==◌, length, drop, take, map, nat_le, nat_lt, max, sum_by, le_refl}
use Rattle.std.proofs.lemmas.Bool.{ltb-false, le-leb}
use Rattle.std.specs.Prelude.{bytes_eq}
use Rattle.std.proofs.lemmas.List.Sums.{sum_by-cons, sum_by-append}
use Rattle.sync_theory.specs.Changesets.{Changeset}
use Rattle.sync_theory.proofs.Server.{test_true, test_false}
use Rattle.sync_theory.proofs.World.{put_if, put_unless}
use Rattle.sync_model.specs.Profile.{Profile, is_small}
use Rattle.sync_model.specs.Each.{Each, no_more, and_each}
use Rattle.sync_model.specs.Clients.{ok_list}
use Rattle.sync_model.specs.Servers.{ServerRecord, Client, Entry, Form, Retired, Settled, Part, Floor, Count, Carried, Past, is_retired}
use Rattle.sync_model.specs.Parts.{Given, Parts, at_ident, list_kept, no_parts, after_part, after_parts, admits_part, parts_open}
use Rattle.sync_model.specs.Files.{readable}
use Rattle.sync_model.specs.Each.{Each, no_more, and_each}
use Rattle.sync_model.specs.Worlds.{at, is_there}
use Rattle.sync_model.specs.Trims.{pairs_from, is_live}
use Rattle.sync_model.specs.Trimmed.{count_records, entry_records, crossed_record, crossed_of}
use Rattle.sync_model.specs.Fronts.{lead_on, leading, taking, taking_all, Counted, Crossed, of_kind, part_of, uuid_is, retired_is, count_is, entry_is, crossed_is, walk_on, further_on, walk, then_at, part_step, counted_sum, count_step, all_within, with_counts, Passed, rises, is_crossed, passed_on, crossed_step, instrs_at, pairs_of, with_pairs, begins_trimmed, is_form, front_of, rest_of, file_gives}
use Rattle.sync_model.proofs.Whole.{Writable, Tracks, no_pairs, own_entry, other_entry, bare, kept_of, AllTrack, none_track, one_retired, one_tracks, AllHeirs, no_heirs, one_heir}
use Rattle.sync_model.proofs.Bytes.{bytes_same}
use Rattle.sync_theory.proofs.World.{same_or_not}
use Rattle.sync_model.proofs.Limits.{each_append, both}

-- as they are read
abbrev pub read_all : List ServerRecord → List (Option ServerRecord)
read_all rs = map (λ r. Some r) rs

pub read_more : (rs ts : List ServerRecord) → read_all (rs ++ ts) ≡ read_all rs ++ read_all ts
read_more [] ts = refl
read_more (r ∷ rs) ts = ap (λ l. Some r ∷ l) (read_more rs ts)

module _ {I S : Type 0} (p : Profile I S) where
  -- ---- records behind the front

  pub rest_opens : (rs : List ServerRecord) (kept : Parts I S) → parts_open p kept rs ≡ true → rest_of p kept (read_all rs) ≡ Ok (after_parts p kept rs)
  rest_opens [] kept e = refl
  rest_opens (r ∷ rs) kept e =
      let b = both (admits_part p kept r) (parts_open p (after_part p kept r) rs) e in
      put_if (admits_part p kept r) (further_on (rest_of p (after_part p kept r) (read_all rs))) (Err 0) b.0 ∙ ap further_on (rest_opens rs (after_part p kept r) b.1)

  -- what is read is a list of records that opens
  pub record RestRead (kept : Parts I S) (file : List (Option ServerRecord)) (after : Parts I S) : Type 0 where
    pub records : List ServerRecord
    pub read : file ≡ read_all records
    pub opens : parts_open p kept records ≡ true
    pub gives : after_parts p kept records ≡ after

  pub rest_reads : (file : List (Option ServerRecord)) (kept after : Parts I S) → rest_of p kept file ≡ Ok after → RestRead kept file after
  rest_reads [] kept after e = record { records = []; read = refl; opens = refl; gives = cc }
  rest_reads (None ∷ file) kept after e = cc
  rest_reads (Some r ∷ file) kept after e = on (admits_part p kept r) refl (rest_of p (after_part p kept r) file) refl e (λ a f. rest_reads file (after_part p kept r) a f)
    where
      on : (t : Bool) → admits_part p kept r ≡ t → (q : Result (Parts I S) ℕ) → rest_of p (after_part p kept r) file ≡ q → (if t then further_on q else Err 0) ≡ Ok after → ((a : Parts I S) → rest_of p (after_part p kept r) file ≡ Ok a → RestRead (after_part p kept r) file a) → RestRead kept (Some r ∷ file) after
      on true t_is (Ok a) q_is f rec =
          let g = rec a q_is in
          record { records = r ∷ g.records; read = ap (λ l. Some r ∷ l) g.read; opens = ap (λ t. t && parts_open p (after_part p kept r) g.records) t_is ∙ g.opens; gives = g.gives ∙ cc }
      on true t_is (Err n) q_is f rec = cc
      on false t_is q q_is f rec = cc

  -- ---- a file with its whole history

  -- none of its records is one of a front
  plain_front : (kept : Parts I S) (r : ServerRecord) (os : List (Option ServerRecord)) → admits_part p kept r ≡ true → begins_trimmed p (Some r ∷ os) ≡ false
  plain_front kept (Client id) os e = refl
  plain_front kept (Entry origin number base ms body) os e = refl
  plain_front kept Form os e = refl
  plain_front kept (Settled c n) os e = refl
  plain_front kept (Retired ident by) os e = refl
  plain_front kept (Part body) os e = cc
  plain_front kept (Floor version) os e = cc
  plain_front kept (Count c number base n) os e = cc
  plain_front kept (Carried origin number base ms body) os e = cc
  plain_front kept (Past c version ms body) os e = cc

  pub whole_front : (rs : List ServerRecord) → parts_open p (no_parts p) rs ≡ true → front_of p (read_all rs) ≡ Ok (record { parts = no_parts p; size = 0 })
  whole_front [] e = refl
  whole_front (r ∷ rs) e =
      let b = both (admits_part p (no_parts p) r) (parts_open p (after_part p (no_parts p) r) rs) e in
      put_unless (begins_trimmed p (Some r ∷ read_all rs)) _ _ (plain_front (no_parts p) r (read_all rs) b.0)
      ∙ put_unless (is_form p (Some r) && begins_trimmed p (read_all rs)) _ _ (second (is_form p (Some r)) rs (after_part p (no_parts p) r) b.1)
    where
      none : (t : Bool) → (t && false) ≡ false
      none true = refl
      none false = refl

      second : (t : Bool) (rs : List ServerRecord) (kept : Parts I S) → parts_open p kept rs ≡ true → (t && begins_trimmed p (read_all rs)) ≡ false
      second t [] kept f = none t
      second t (q ∷ qs) kept f = ap (λ b. t && b) (plain_front kept q (read_all qs) (both (admits_part p kept q) (parts_open p (after_part p kept q) qs) f).0) ∙ none t

  pub whole_file : (rs : List ServerRecord) → parts_open p (no_parts p) rs ≡ true → file_gives p (read_all rs) ≡ Ok (after_parts p (no_parts p) rs)
  whole_file rs e = ap (λ f. then_at 0 f (λ front. then_at front.size (rest_of p front.parts (drop front.size (read_all rs))) (λ kept. Ok kept))) (whole_front rs e) ∙ ap (λ q. then_at 0 q (λ kept. Ok kept)) (rest_opens rs (no_parts p) e)

-- ---- records of a kind

-- these records give these
pub data Gives {A : Type 0} (kind : ServerRecord → Option A) : List ServerRecord → List A → Type 0 where
  gives_none : Gives kind [] []
  gives_one : {r : ServerRecord} {x : A} {rs : List ServerRecord} {xs : List A} → kind r ≡ Some x → Gives kind rs xs → Gives kind (r ∷ rs) (x ∷ xs)

pub leading_is : {A : Type 0} (kind : ServerRecord → Option A) {rs : List ServerRecord} {xs : List A} (rest : List ServerRecord) → Gives kind rs xs → leading (of_kind kind) (read_all rest) ≡ [] → leading (of_kind kind) (read_all (rs ++ rest)) ≡ xs
leading_is kind rest gives_none e = e
leading_is kind rest (gives_one {r = r} {x = x} {rs = rs} h g) e = ap₂ lead_on h (leading_is kind rest g e)

drop_is : {A : Type 0} (kind : ServerRecord → Option A) {rs : List ServerRecord} {xs : List A} (rest : List ServerRecord) → Gives kind rs xs → drop (length xs) (read_all (rs ++ rest)) ≡ read_all rest
drop_is kind rest gives_none = refl
drop_is kind rest (gives_one h g) = drop_is kind rest g

pub taking_all_is : {A B : Type 0} (kind : ServerRecord → Option A) {rs : List ServerRecord} {xs : List A} (rest : List ServerRecord) (go : List A → List (Option ServerRecord) → B) → Gives kind rs xs → leading (of_kind kind) (read_all rest) ≡ [] → taking_all (of_kind kind) (read_all (rs ++ rest)) go ≡ go xs (read_all rest)
taking_all_is kind {rs} {xs} rest go g e = let l = leading_is kind rest g e in ap (λ ys. go ys (drop (length ys) (read_all (rs ++ rest)))) l ∙ ap (go xs) (drop_is kind rest g)

take_most : {A : Type 0} (n : ℕ) (xs : List A) → length xs ≤ n → take n xs ≡ xs
take_most zero [] h = refl
take_most zero (x ∷ xs) h = absurd (omega arith)
take_most (suc n) [] h = refl
take_most (suc n) (x ∷ xs) h = ap (λ l. x ∷ l) (take_most n xs (omega arith))

pub taking_is : {A B : Type 0} (kind : ServerRecord → Option A) {rs : List ServerRecord} {xs : List A} (n : ℕ) (rest : List ServerRecord) (go : List A → List (Option ServerRecord) → B) → Gives kind rs xs → leading (of_kind kind) (read_all rest) ≡ [] → length xs ≤ n → taking (of_kind kind) n (read_all (rs ++ rest)) go ≡ go xs (read_all rest)
taking_is kind {rs} {xs} n rest go g e h =
    let l : take n (leading (of_kind kind) (read_all (rs ++ rest))) ≡ xs = ap (take n) (leading_is kind rest g e) ∙ take_most n xs h in
    ap (λ ys. go ys (drop (length ys) (read_all (rs ++ rest)))) l ∙ ap (go xs) (drop_is kind rest g)

module _ {I S : Type 0} (p : Profile I S) where
  -- ---- the records of each kind

  pub parts_give : (ps : List (List I)) → Gives part_of (map (λ is. Part (p.spell is)) ps) (map (λ is. p.spell is) ps)
  parts_give [] = gives_none
  parts_give (x ∷ ps) = gives_one refl (parts_give ps)

  pub uuids_give : (gs : List (Given I)) → Gives uuid_is (map (λ g. Client g.uuid) gs) (map (λ g. g.uuid) gs)
  uuids_give [] = gives_none
  uuids_give (g ∷ gs) = gives_one refl (uuids_give gs)

  -- the counts of these idents, the first of which is c
  abbrev pub counted : ℕ → List (Given I) → List Counted
  counted c [] = []
  counted c (g ∷ gs) = record { ident = c; number = g.count; base = g.last; settled = g.mark } ∷ counted (suc c) gs

  pub counts_give : (c : ℕ) (gs : List (Given I)) → Gives count_is (count_records p c gs) (counted c gs)
  counts_give c [] = gives_none
  counts_give c (g ∷ gs) = gives_one refl (counts_give (suc c) gs)

  pub entries_give : (xs : List (Changeset I)) (bs : List ℕ) → Gives entry_is (entry_records p xs bs) (kept_of p xs bs)
  entries_give [] bs = gives_none
  entries_give (x ∷ xs) [] = gives_none
  entries_give (x ∷ xs) (b ∷ bs) = gives_one refl (entries_give xs bs)

  -- ---- each kind, one after the other

  pub walk_parts : (second : Bool) (acc ps : List (List I)) → Each (λ is. Writable p second is) ps → (law : (is : List I) → is_small p is ≡ true → p.unspell (p.spell is) ≡ Ok is) → walk (part_step p second) acc (map (λ is. p.spell is) ps) ≡ Ok (acc ++ ps)
  walk_parts second acc [] no_more law = ap (λ l. Ok l) (sym (append-nil acc))
  walk_parts second acc (x ∷ ps) (and_each h f) law =
      let one : part_step p second acc (p.spell x) ≡ Some (acc ++ x ∷ []) = ap (λ r. if is_there (readable p second r) then Some (acc ++ ok_list r ∷ []) else None) (law x h.small) ∙ ap (λ o. if is_there o then Some (acc ++ x ∷ []) else None) h.allowed in
      ap (λ o. walk_on o (λ c. further_on (walk (part_step p second) c (map (λ is. p.spell is) ps)))) one
      ∙ ap further_on (walk_parts second (acc ++ x ∷ []) ps f law) ∙ ap (λ l. Ok l) (append_assoc acc (x ∷ []) ps)

  pub counted_length : (c : ℕ) (gs : List (Given I)) → length (counted c gs) ≡ length gs
  counted_length c [] = refl
  counted_length c (g ∷ gs) = ap suc (counted_length (suc c) gs)

  pub counted_total : (c : ℕ) (gs : List (Given I)) → counted_sum (counted c gs) ≡ sum_by (λ g. g.count) gs
  counted_total c [] = refl
  counted_total c (g ∷ gs) = let h = counted_total (suc c) gs in sum_step (λ d. d.number) (record { ident = c; number = g.count; base = g.last; settled = g.mark }) (counted (suc c) gs) ∙ ap (λ n. g.count + n) h ∙ sym (sum_step (λ g. g.count) g gs)
    where
      sum_step : {X : Type 0} (f : X → ℕ) (x : X) (xs : List X) → sum_by f (x ∷ xs) ≡ f x + sum_by f xs
      sum_step f x xs = sum_by-cons f x xs

  pub walk_counts : (acc : List Counted) (c : ℕ) (gs : List (Given I)) → c ≡ suc (length acc) → counted_sum acc + sum_by (λ g. g.count) gs ≤ p.full → walk (count_step p.full) acc (counted c gs) ≡ Ok (acc ++ counted c gs)
  walk_counts acc c [] h l = ap (λ l. Ok l) (sym (append-nil acc))
  walk_counts acc c (g ∷ gs) h l =
      let s = sum_by-cons (λ g. g.count) g gs in
      let d : Counted = record { ident = c; number = g.count; base = g.last; settled = g.mark } in
      let one : count_step p.full acc (record { ident = c; number = g.count; base = g.last; settled = g.mark }) ≡ Some (acc ++ record { ident = c; number = g.count; base = g.last; settled = g.mark } ∷ []) =
      put_if ((c == suc (length acc)) && nat_le (counted_sum acc + g.count) p.full) _ _ (both (c == suc (length acc)) (nat_le (counted_sum acc + g.count) p.full) (test_true c (suc (length acc)) h) (le-leb (counted_sum acc + g.count) p.full (omega (arith, s, l)))) in
      let more = sum_by-append (λ (c : Counted). c.number) acc (record { ident = c; number = g.count; base = g.last; settled = g.mark } ∷ []) in
      let alone = sum_by-cons (λ (c : Counted). c.number) (record { ident = c; number = g.count; base = g.last; settled = g.mark }) [] in
      let len = Rattle.sync_theory.proofs.Logs.length_snoc acc (record { ident = c; number = g.count; base = g.last; settled = g.mark }) in
      ap (λ o. walk_on o (λ e. further_on (walk (count_step p.full) e (counted (suc c) gs)))) one
      ∙ ap further_on (walk_counts (acc ++ record { ident = c; number = g.count; base = g.last; settled = g.mark } ∷ []) (suc c) gs (omega (arith, h, len)) (omega (arith, s, l, more, alone)))
      ∙ ap (λ l. Ok l) (append_assoc acc (record { ident = c; number = g.count; base = g.last; settled = g.mark } ∷ []) (counted (suc c) gs))
    where
      both : (a b : Bool) → a ≡ true → b ≡ true → (a && b) ≡ true
      both true b e f = f
      both false b e f = e

  pub within_all : (top c : ℕ) {gs : List (Given I)} → Each (λ g. g.last ≤ top) gs → Each (λ g. g.mark ≤ top) gs → all_within top (counted c gs) ≡ true
  within_all top c no_more no_more = refl
  within_all top c (and_each {x = g} h hs) (and_each k ks) = both (nat_le g.last top && nat_le g.mark top) _ (both (nat_le g.last top) (nat_le g.mark top) (le-leb g.last top h) (le-leb g.mark top k)) (within_all top (suc c) hs ks)
    where
      both : (a b : Bool) → a ≡ true → b ≡ true → (a && b) ≡ true
      both true b e f = f
      both false b e f = e

  pub with_counts_is : (qs : List (ℕ × ℕ)) (c : ℕ) {gs : List (Given I)} → AllHeirs qs c gs → with_counts qs (map (λ g. g.uuid) gs) (counted c gs) ≡ map bare gs
  with_counts_is qs c no_heirs = refl
  with_counts_is qs c (one_heir {g = g} h hs) = ap₂ (λ o l. record { uuid = g.uuid; count = g.count; last = g.last; heir = o; mark = g.mark; reciprocal = [] } ∷ l) (sym h) (with_counts_is qs (suc c) hs)

  pub retired_give : (qs : List (ℕ × ℕ)) → Gives retired_is (map (λ q. Retired q.0 q.1) qs) qs
  retired_give [] = gives_none
  retired_give (q ∷ qs) = gives_one refl (retired_give qs)

-- ---- what an ident's changes crossed, in order

-- one behind another
rises_snoc : {I : Type 0} (acc : List (Passed I)) (q : Passed I) (d w : ℕ) → rises (acc ++ q ∷ []) d w ≡ nat_lt q.ident d || ((q.ident == d) && nat_lt q.version w)
rises_snoc [] q d w = refl
rises_snoc (a ∷ []) q d w = refl
rises_snoc (a ∷ b ∷ acc) q d w = rises_snoc (b ∷ acc) q d w

-- all that comes from a version of an ident on comes behind these
abbrev Low : {I : Type 0} → List (Passed I) → ℕ → ℕ → Type 0
Low acc c v = (d w : ℕ) → (c < d) ⊎ ((c ≡ d) × (v ≤ w)) → rises acc d w ≡ true

low_later : {I : Type 0} (acc : List (Passed I)) (c v w : ℕ) → Low acc c v → v ≤ w → Low acc c w
low_later acc c v w h l d u b = h d u (⊎_elim (λ x. inl x) (λ y. let e = y.1 in inr (y.0, omega arith)) b)

low_next : {I : Type 0} (acc : List (Passed I)) (c v w : ℕ) → Low acc c v → Low acc (suc c) w
low_next acc c v w h d u b = h d u (⊎_elim (λ x. inl (omega arith)) (λ y. let e = y.0 in inl (omega arith)) b)

low_snoc : {I : Type 0} (acc : List (Passed I)) (c v : ℕ) (is : List I) → Low (acc ++ record { ident = c; version = v; instrs = is } ∷ []) c (suc v)
low_snoc acc c v is d w b = rises_snoc acc (record { ident = c; version = v; instrs = is }) d w ∙ ⊎_elim (λ x. first (nat_lt c d) _ (Rattle.std.proofs.lemmas.Bool.lt-ltb c d x)) (λ y. let e = y.1 in second (nat_lt c d) (c == d) (nat_lt v w) (test_true c d y.0) (Rattle.std.proofs.lemmas.Bool.lt-ltb v w (omega arith))) b
  where
    first : (x y : Bool) → x ≡ true → (x || y) ≡ true
    first true y e = refl
    first false y e = cc

    second : (x y z : Bool) → y ≡ true → z ≡ true → (x || (y && z)) ≡ true
    second true y z e f = refl
    second false true z e f = f
    second false false z e f = cc

module _ {I S : Type 0} (p : Profile I S) (second : Bool) (floor : ℕ) (xs : List (Changeset I)) where
  -- those that were changed, as records bear them and as they are read
  abbrev changed_one : ℕ → ℕ × Changeset I → Option (Changeset I) → List Crossed
  changed_one c q None = []
  changed_one c q (Some x) = if bytes_eq (p.spell q.1.instrs) (p.spell x.instrs) then [] else record { ident = c; version = q.0; ms = q.1.ms; body = p.spell q.1.instrs } ∷ []

  abbrev pub changed : ℕ → List (ℕ × Changeset I) → List Crossed
  changed c [] = []
  changed c (q ∷ qs) = changed_one c q (at xs (q.0 - floor)) ++ changed c qs

  abbrev passed_one : ℕ → ℕ × Changeset I → Option (Changeset I) → List (Passed I)
  passed_one c q None = []
  passed_one c q (Some x) = if bytes_eq (p.spell q.1.instrs) (p.spell x.instrs) then [] else record { ident = c; version = q.0; instrs = q.1.instrs } ∷ []

  abbrev passed_of : ℕ → List (ℕ × Changeset I) → List (Passed I)
  passed_of c [] = []
  passed_of c (q ∷ qs) = passed_one c q (at xs (q.0 - floor)) ++ passed_of c qs

  abbrev pub all_changed : ℕ → List (Given I) → List Crossed
  all_changed c [] = []
  all_changed c (g ∷ gs) = changed c g.reciprocal ++ all_changed (suc c) gs

  abbrev pub all_passed : ℕ → List (Given I) → List (Passed I)
  all_passed c [] = []
  all_passed c (g ∷ gs) = passed_of c g.reciprocal ++ all_passed (suc c) gs

  pub gives_append : {A : Type 0} {kind : ServerRecord → Option A} {rs ts : List ServerRecord} {ys zs : List A} → Gives kind rs ys → Gives kind ts zs → Gives kind (rs ++ ts) (ys ++ zs)
  gives_append gives_none g = g
  gives_append (gives_one h f) g = gives_one h (gives_append f g)

  pub changed_gives : (c : ℕ) (qs : List (ℕ × Changeset I)) → Gives crossed_is (crossed_of p c floor xs qs) (changed c qs)
  changed_gives c [] = gives_none
  changed_gives c (q ∷ qs) = gives_append (one (at xs (q.0 - floor))) (changed_gives c qs)
    where
      one : (o : Option (Changeset I)) → Gives crossed_is (crossed_record p c q o) (changed_one c q o)
      one None = gives_none
      one (Some x) = on (bytes_eq (p.spell q.1.instrs) (p.spell x.instrs))
        where
          on : (b : Bool) → Gives crossed_is (if b then [] else Past c q.0 q.1.ms (p.spell q.1.instrs) ∷ []) (if b then [] else record { ident = c; version = q.0; ms = q.1.ms; body = p.spell q.1.instrs } ∷ [])
          on true = gives_none
          on false = gives_one refl gives_none

  -- ---- from a version on

  at_drop : (d : ℕ) (zs ys : List (Changeset I)) (x : Changeset I) → x ∷ ys ≡ drop d zs → (at zs d ≡ Some x) × (ys ≡ drop (suc d) zs)
  at_drop zero [] ys x e = cc
  at_drop zero (z ∷ zs) ys x e = (cc, cc)
  at_drop (suc d) [] ys x e = cc
  at_drop (suc d) (z ∷ zs) ys x e = at_drop d zs ys x e

  pub tracks_from : {c k : ℕ} {ys : List (Changeset I)} {qs : List (ℕ × Changeset I)} (m : ℕ) → Tracks p second c k ys qs → m ≤ k → pairs_from m qs ≡ qs
  tracks_from m no_pairs h = refl
  tracks_from m (own_entry o t) h = tracks_from m t (omega arith)
  tracks_from {k = k} m (other_entry {x = x} {is = is} {qs = qs} o w v t) h = put_unless (nat_lt k m) (pairs_from m qs) ((k, record x { instrs = is }) ∷ pairs_from m qs) (Rattle.sync_model.proofs.Alike.not_below k m h) ∙ ap (λ l. (k, record x { instrs = is }) ∷ l) (tracks_from m t (omega arith))

  -- ---- the records are read

  module _ (law : (is : List I) → is_small p is ≡ true → p.unspell (p.spell is) ≡ Ok is) (all : List (Given I)) where
    abbrev step : List (Passed I) → Crossed → Option (List (Passed I))
    step = crossed_step p second floor all xs

    walk_more : (acc : List (Passed I)) (d : Crossed) (next acc2 : List (Passed I)) (rest : List Crossed) → step acc d ≡ Some next → walk step next rest ≡ Ok acc2 → walk step acc (d ∷ rest) ≡ Ok acc2
    walk_more acc d next acc2 rest e f = ap (λ o. walk_on o (λ c. further_on (walk step c rest))) e ∙ ap further_on f

    walk_ident : {c k : ℕ} {ys : List (Changeset I)} {qs : List (ℕ × Changeset I)} → Tracks p second c k ys qs → ys ≡ drop (k - floor) xs → floor ≤ k → (g : Given I) → at_ident c all ≡ Some g → is_live g ≡ true → max floor g.last ≤ k → (acc acc2 : List (Passed I)) → Low acc c k → (rest : List Crossed) → ((acc3 : List (Passed I)) → acc3 ≡ acc ++ passed_of c qs → (v : ℕ) → Low acc3 c v → walk step acc3 rest ≡ Ok acc2) → walk step acc (changed c qs ++ rest) ≡ Ok acc2
    walk_ident {k = k} no_pairs e h g here live le acc acc2 low rest go = go acc (sym (append-nil acc)) k low
    walk_ident {c = c} {k = k} (own_entry {x = x} {xs = ys} o t) e h g here live le acc acc2 low rest go =
        let a = at_drop (k - floor) xs ys x e in
        let z : suc (k - floor) ≡ suc k - floor = omega arith in
        walk_ident t (a.1 ∙ ap (λ d. drop d xs) z) (omega arith) g here live (omega arith) acc acc2 (low_later acc c k (suc k) low (omega arith)) rest go
    walk_ident {c = c} {k = k} (other_entry {x = x} {is = is} {xs = ys} {qs = qs} o w v t) e h g here live le acc acc2 low rest go =
        let a = at_drop (k - floor) xs ys x e in
        let z : suc (k - floor) ≡ suc k - floor = omega arith in
        subst (λ o. ((acc3 : List (Passed I)) → acc3 ≡ acc ++ (passed_one c (k, record x { instrs = is }) o ++ passed_of c qs) → (v : ℕ) → Low acc3 c v → walk step acc3 rest ≡ Ok acc2) → walk step acc ((changed_one c (k, record x { instrs = is }) o ++ changed c qs) ++ rest) ≡ Ok acc2) (sym a.0)
        (on (bytes_eq (p.spell is) (p.spell x.instrs)) refl a.0 (λ acc3 low3 go3. walk_ident t (a.1 ∙ ap (λ d. drop d xs) z) (omega arith) g here live (omega arith) acc3 acc2 low3 rest go3)) go
      where
        one : bytes_eq (p.spell is) (p.spell x.instrs) ≡ false → at xs (k - floor) ≡ Some x → step acc (record { ident = c; version = k; ms = x.ms; body = p.spell is }) ≡ Some (acc ++ record { ident = c; version = k; instrs = is } ∷ [])
        one differs there =
            put_if (rises acc c k && (nat_le floor k && is_crossed p floor (record { ident = c; version = k; ms = x.ms; body = p.spell is }) (at_ident c all) (at xs (k - floor)))) _ _
            (all_true (rises acc c k) (nat_le floor k) _ (low c k (inr (refl, le_refl k))) (le-leb floor k h)
            (ap₂ (λ u y. is_crossed p floor (record { ident = c; version = k; ms = x.ms; body = p.spell is }) u y) here there
            ∙ both (is_live g) _ live (all_true (nat_le (max floor g.last) k) (not (x.origin == c)) _ (le-leb (max floor g.last) k le) (ap not (test_false x.origin c o)) (both (x.ms == x.ms) (not (bytes_eq (p.spell is) (p.spell x.instrs))) (test_true x.ms x.ms refl) (ap not differs)))))
            ∙ ap (passed_on acc (record { ident = c; version = k; ms = x.ms; body = p.spell is })) (ap (readable p second) (law is v.small) ∙ v.allowed)
          where
            both : (a b : Bool) → a ≡ true → b ≡ true → (a && b) ≡ true
            both true b e f = f
            both false b e f = e

            all_true : (a b d : Bool) → a ≡ true → b ≡ true → d ≡ true → (a && (b && d)) ≡ true
            all_true true true d e f g = g
            all_true true false d e f g = f
            all_true false b d e f g = e

        on : (b : Bool) → bytes_eq (p.spell is) (p.spell x.instrs) ≡ b → at xs (k - floor) ≡ Some x → ((acc3 : List (Passed I)) → Low acc3 c (suc k) → ((acc4 : List (Passed I)) → acc4 ≡ acc3 ++ passed_of c qs → (v : ℕ) → Low acc4 c v → walk step acc4 rest ≡ Ok acc2) → walk step acc3 (changed c qs ++ rest) ≡ Ok acc2)
            → ((acc3 : List (Passed I)) → acc3 ≡ acc ++ ((if b then [] else record { ident = c; version = k; instrs = is } ∷ []) ++ passed_of c qs) → (v : ℕ) → Low acc3 c v → walk step acc3 rest ≡ Ok acc2) → walk step acc (((if b then [] else record { ident = c; version = k; ms = x.ms; body = p.spell is } ∷ []) ++ changed c qs) ++ rest) ≡ Ok acc2
        on true is_ there rec go = rec acc (low_later acc c k (suc k) low (omega arith)) go
        on false is_ there rec go = walk_more acc (record { ident = c; version = k; ms = x.ms; body = p.spell is }) (acc ++ record { ident = c; version = k; instrs = is } ∷ []) acc2 (changed c qs ++ rest) (one is_ there)
            (rec (acc ++ record { ident = c; version = k; instrs = is } ∷ []) (low_snoc acc c k is) (λ acc4 e v low4. go acc4 (e ∙ append_assoc acc (record { ident = c; version = k; instrs = is } ∷ []) (passed_of c qs)) v low4))

    pub walk_all : {c : ℕ} {gs : List (Given I)} → AllTrack p second floor xs c gs → ((j : ℕ) (g : Given I) → at gs j ≡ Some g → at_ident (c + j) all ≡ Some (bare g)) → (acc : List (Passed I)) → Low acc c 0 → walk step acc (all_changed c gs) ≡ Ok (acc ++ all_passed c gs)
    walk_all none_track here acc low = ap (λ l. Ok l) (sym (append-nil acc))
    walk_all {c = c} (one_retired {g = g} {gs = gs} dead empty ts) here acc low =
        subst (λ r. walk step acc (changed c r ++ all_changed (suc c) gs) ≡ Ok (acc ++ (passed_of c r ++ all_passed (suc c) gs))) (sym empty)
        (walk_all ts (λ j h i. let y : suc c + j ≡ c + suc j = omega arith in ap (λ d. at_ident d all) y ∙ here (suc j) h i) acc (low_next acc c 0 0 low))
    walk_all {c = c} (one_tracks {g = g} {gs = gs} live t ts) here acc low =
        let z : c + 0 ≡ c = omega arith in
        walk_ident t refl (top floor g.last) (bare g) (ap (λ d. at_ident d all) (sym z) ∙ here 0 g refl) live (le_refl (max floor g.last)) acc (acc ++ (passed_of c g.reciprocal ++ all_passed (suc c) gs)) (low_later acc c 0 (max floor g.last) low (omega arith)) (all_changed (suc c) gs)
        (λ acc3 e v low3. walk_all ts (λ j h i. let y : suc c + j ≡ c + suc j = omega arith in ap (λ d. at_ident d all) y ∙ here (suc j) h i) acc3 (low_next acc3 c v 0 low3) ∙ ap (λ l. Ok l) (ap (λ l. l ++ all_passed (suc c) gs) e ∙ append_assoc acc (passed_of c g.reciprocal) (all_passed (suc c) gs)))
      where
        top : (a b : ℕ) → a ≤ max a b
        top a b = omega arith

  -- ---- and found again

  -- none is of this ident at this version
  abbrev NotAt : ℕ → ℕ → List (Passed I) → Type 0
  NotAt c k l = Each (λ (q : Passed I). q.ident ≡ c → q.version ≢ k) l

  not_here : (c k : ℕ) (q : Passed I) → (q.ident ≡ c → q.version ≢ k) → ((q.ident == c) && (q.version == k)) ≡ false
  not_here c k q h = ⊎_elim (λ e. second_false (q.ident == c) (q.version == k) (test_false q.version k (h e))) (λ ne. first_false (q.ident == c) (q.version == k) (test_false q.ident c ne)) (same_or_not q.ident c)
    where
      first_false : (a b : Bool) → a ≡ false → (a && b) ≡ false
      first_false true b e = cc
      first_false false b e = refl

      second_false : (a b : Bool) → b ≡ false → (a && b) ≡ false
      second_false true b e = e
      second_false false b e = refl

  skips : (c k : ℕ) {l : List (Passed I)} (rest : List (Passed I)) (is : List I) → NotAt c k l → instrs_at c k (l ++ rest) is ≡ instrs_at c k rest is
  skips c k rest is no_more = refl
  skips c k rest is (and_each {x = q} h f) = put_unless ((q.ident == c) && (q.version == k)) _ _ (not_here c k q h) ∙ skips c k rest is f

  none_at : (c k : ℕ) {l : List (Passed I)} (is : List I) → NotAt c k l → instrs_at c k l is ≡ is
  none_at c k is no_more = refl
  none_at c k is (and_each {x = q} h f) = put_unless ((q.ident == c) && (q.version == k)) _ _ (not_here c k q h) ∙ none_at c k is f

  weaker : {P Q : Passed I → Type 0} → ((q : Passed I) → P q → Q q) → {l : List (Passed I)} → Each P l → Each Q l
  weaker go no_more = no_more
  weaker go (and_each {x = q} h f) = and_each (go q h) (weaker go f)

  passed_idents : (c : ℕ) (qs : List (ℕ × Changeset I)) → Each (λ (q : Passed I). q.ident ≡ c) (passed_of c qs)
  passed_idents c [] = no_more
  passed_idents c (q ∷ qs) = each_append (one (at xs (q.0 - floor))) (passed_idents c qs)
    where
      one : (o : Option (Changeset I)) → Each (λ (q : Passed I). q.ident ≡ c) (passed_one c q o)
      one None = no_more
      one (Some x) = on (bytes_eq (p.spell q.1.instrs) (p.spell x.instrs))
        where
          on : (b : Bool) → Each (λ (q : Passed I). q.ident ≡ c) (if b then [] else record { ident = c; version = q.0; instrs = q.1.instrs } ∷ [])
          on true = no_more
          on false = and_each refl no_more

  all_from : (c : ℕ) (gs : List (Given I)) → Each (λ (q : Passed I). c ≤ q.ident) (all_passed c gs)
  all_from c [] = no_more
  all_from c (g ∷ gs) = each_append (weaker (λ q e. omega arith) (passed_idents c g.reciprocal)) (weaker (λ q e. omega arith) (all_from (suc c) gs))

  passed_later : {c k : ℕ} {ys : List (Changeset I)} {qs : List (ℕ × Changeset I)} → Tracks p second c k ys qs → (j : ℕ) → j < k → NotAt c j (passed_of c qs)
  passed_later no_pairs j h = no_more
  passed_later (own_entry o t) j h = passed_later t j (omega arith)
  passed_later {c = c} {k = k} (other_entry {x = x} {is = is} o w v t) j h = each_append (one (at xs (k - floor))) (passed_later t j (omega arith))
    where
      one : (o : Option (Changeset I)) → NotAt c j (passed_one c (k, record x { instrs = is }) o)
      one None = no_more
      one (Some y) = on (bytes_eq (p.spell is) (p.spell y.instrs))
        where
          on : (b : Bool) → NotAt c j (if b then [] else record { ident = c; version = k; instrs = is } ∷ [])
          on true = no_more
          on false = and_each (λ e f. omega arith) no_more

  module _ (law : (is : List I) → is_small p is ≡ true → p.unspell (p.spell is) ≡ Ok is) (P : List (Passed I)) where
    same_list : (is js : List I) → is_small p is ≡ true → is_small p js ≡ true → bytes_eq (p.spell is) (p.spell js) ≡ true → is ≡ js
    same_list is js a b e =
        let f = law is a in
        let g = law js b in
        let h = ap p.unspell (bytes_same (p.spell is) (p.spell js) e) in
        ok_is is js (sym f ∙ h ∙ g)
      where
        ok_is : (u v : List I) → ◌≡◌ {A = Result (List I) (ℕ × ℕ)} (Ok u) (Ok v) → u ≡ v
        ok_is u v q = cc

    look : {c k : ℕ} {ys : List (Changeset I)} {qs : List (ℕ × Changeset I)} → Tracks p second c k ys qs → ys ≡ drop (k - floor) xs → floor ≤ k → (pre post : List (Passed I)) → P ≡ pre ++ (passed_of c qs ++ post) → Each (λ (q : Passed I). q.ident ≡ c → q.version < k) pre → Each (λ (q : Passed I). q.ident ≢ c) post → pairs_of c k ys P ≡ qs
    look no_pairs e h pre post is b a = refl
    look {c = c} {k = k} (own_entry {x = x} {xs = ys} {qs = qs} o t) e h pre post is b a =
        let d = at_drop (k - floor) xs ys x e in
        let z : suc (k - floor) ≡ suc k - floor = omega arith in
        ap (λ l. l ++ pairs_of c (suc k) ys P) (put_if (x.origin == c) [] ((k, record x { instrs = instrs_at c k P x.instrs }) ∷ []) (test_true x.origin c o))
        ∙ look t (d.1 ∙ ap (λ j. drop j xs) z) (omega arith) pre post is (weaker (λ q f g. let l = f g in omega arith) b) a
    look {c = c} {k = k} (other_entry {x = x} {is = js} {xs = ys} {qs = qs} o w v t) e h pre post is b a =
        let d = at_drop (k - floor) xs ys x e in
        let z : suc (k - floor) ≡ suc k - floor = omega arith in
        let is2 : P ≡ pre ++ ((passed_one c (k, record x { instrs = js }) (Some x) ++ passed_of c qs) ++ post) = is ∙ ap (λ o. pre ++ ((passed_one c (k, record x { instrs = js }) o ++ passed_of c qs) ++ post)) d.0 in
        ap (λ l. l ++ pairs_of c (suc k) ys P) (put_unless (x.origin == c) [] ((k, record x { instrs = instrs_at c k P x.instrs }) ∷ []) (test_false x.origin c o))
        ∙ on (bytes_eq (p.spell js) (p.spell x.instrs)) refl is2 (λ pre2 is3 b2. look t (d.1 ∙ ap (λ j. drop j xs) z) (omega arith) pre2 post is3 b2 a)
      where
        later : NotAt c k (passed_of c qs)
        later = passed_later t k (omega arith)

        behind : NotAt c k (passed_of c qs ++ post)
        behind = each_append later (weaker (λ q ne g. absurd (ne g)) a)

        before : NotAt c k pre
        before = weaker (λ q f g i. let l = f g in omega arith) b

        still : Each (λ (q : Passed I). q.ident ≡ c → q.version < suc k) pre
        still = weaker (λ q f g. let l = f g in omega arith) b

        on : (t : Bool) → bytes_eq (p.spell js) (p.spell x.instrs) ≡ t → P ≡ pre ++ (((if t then [] else record { ident = c; version = k; instrs = js } ∷ []) ++ passed_of c qs) ++ post) → ((pre2 : List (Passed I)) → P ≡ pre2 ++ (passed_of c qs ++ post) → Each (λ (q : Passed I). q.ident ≡ c → q.version < suc k) pre2 → pairs_of c (suc k) ys P ≡ qs) → (k, record x { instrs = instrs_at c k P x.instrs }) ∷ pairs_of c (suc k) ys P ≡ (k, record x { instrs = js }) ∷ qs
        on true t_is P_is rec =
            let found : instrs_at c k P x.instrs ≡ js = ap (λ l. instrs_at c k l x.instrs) P_is ∙ skips c k (passed_of c qs ++ post) x.instrs before ∙ none_at c k x.instrs behind ∙ sym (same_list js x.instrs v.small w.small t_is) in
            ap₂ (λ i l. (k, record x { instrs = i }) ∷ l) found (rec pre P_is still)
        on false t_is P_is rec =
            let here : ((c == c) && (k == k)) ≡ true = both (c == c) (k == k) (test_true c c refl) (test_true k k refl) in
            let found : instrs_at c k P x.instrs ≡ js = ap (λ l. instrs_at c k l x.instrs) P_is ∙ skips c k ((record { ident = c; version = k; instrs = js } ∷ passed_of c qs) ++ post) x.instrs before ∙ put_if ((c == c) && (k == k)) js (instrs_at c k (passed_of c qs ++ post) x.instrs) here in
            ap₂ (λ i l. (k, record x { instrs = i }) ∷ l) found
            (rec (pre ++ record { ident = c; version = k; instrs = js } ∷ []) (P_is ∙ sym (append_assoc pre (record { ident = c; version = k; instrs = js } ∷ []) (passed_of c qs ++ post))) (each_append still (and_each (λ e. omega arith) no_more)))
          where
            both : (a b : Bool) → a ≡ true → b ≡ true → (a && b) ≡ true
            both true b e f = f
            both false b e f = e

    -- those before a version are left out
    pairs_high : (c k m : ℕ) (zs : List (Changeset I)) → m ≤ k → pairs_from m (pairs_of c k zs P) ≡ pairs_of c k zs P
    pairs_high c k m [] h = refl
    pairs_high c k m (z ∷ zs) h = on (z.origin == c) (pairs_high c (suc k) m zs (omega arith))
      where
        on : (b : Bool) → pairs_from m (pairs_of c (suc k) zs P) ≡ pairs_of c (suc k) zs P → pairs_from m ((if b then [] else (k, record z { instrs = instrs_at c k P z.instrs }) ∷ []) ++ pairs_of c (suc k) zs P) ≡ (if b then [] else (k, record z { instrs = instrs_at c k P z.instrs }) ∷ []) ++ pairs_of c (suc k) zs P
        on true r = r
        on false r = put_unless (nat_lt k m) (pairs_from m (pairs_of c (suc k) zs P)) ((k, record z { instrs = instrs_at c k P z.instrs }) ∷ pairs_from m (pairs_of c (suc k) zs P)) (Rattle.sync_model.proofs.Alike.not_below k m h) ∙ ap (λ l. (k, record z { instrs = instrs_at c k P z.instrs }) ∷ l) r

    pairs_cut : (c k d m : ℕ) (zs : List (Changeset I)) → k + d ≡ m → pairs_from m (pairs_of c k zs P) ≡ pairs_of c m (drop d zs) P
    pairs_cut c k zero m zs e = let z : k ≡ m = omega arith in pairs_high c k m zs (omega arith) ∙ ap (λ j. pairs_of c j zs P) z
    pairs_cut c k (suc d) m [] e = refl
    pairs_cut c k (suc d) m (z ∷ zs) e = on (z.origin == c) (pairs_cut c (suc k) d m zs (omega arith)) below
      where
        below : nat_lt k m ≡ true
        below = Rattle.std.proofs.lemmas.Bool.lt-ltb k m (omega arith)

        on : (b : Bool) → pairs_from m (pairs_of c (suc k) zs P) ≡ pairs_of c m (drop d zs) P → nat_lt k m ≡ true → pairs_from m ((if b then [] else (k, record z { instrs = instrs_at c k P z.instrs }) ∷ []) ++ pairs_of c (suc k) zs P) ≡ pairs_of c m (drop d zs) P
        on true r l = r
        on false r l = put_if (nat_lt k m) (pairs_from m (pairs_of c (suc k) zs P)) ((k, record z { instrs = instrs_at c k P z.instrs }) ∷ pairs_from m (pairs_of c (suc k) zs P)) l ∙ r

    -- the list of a live ident, and of a retired one
    kept_live : {X : Type 0} (o : Option ℕ) (l : List X) → not (is_retired o) ≡ true → list_kept o l ≡ l
    kept_live None l e = refl
    kept_live (Some by) l e = cc

    kept_dead : {X : Type 0} (o : Option ℕ) (l : List X) → not (is_retired o) ≡ false → list_kept o l ≡ []
    kept_dead None l e = cc
    kept_dead (Some by) l e = refl

    pub pairs_back : {c : ℕ} {gs : List (Given I)} → AllTrack p second floor xs c gs → (pre : List (Passed I)) → P ≡ pre ++ all_passed c gs → Each (λ (q : Passed I). q.ident < c) pre → with_pairs c floor xs P (map bare gs) ≡ gs
    pairs_back none_track pre is b = refl
    pairs_back {c = c} (one_retired {g = g} {gs = gs} dead empty ts) pre is b =
        ap₂ (λ r l. record g { reciprocal = r } ∷ l) (kept_dead g.heir (pairs_from (max floor g.last) (pairs_of c floor xs P)) dead ∙ sym empty)
        (pairs_back ts pre (is ∙ ap (λ r. pre ++ (passed_of c r ++ all_passed (suc c) gs)) empty) (weaker (λ q f. omega arith) b))
    pairs_back {c = c} (one_tracks {g = g} {gs = gs} live t ts) pre is b =
        let cut = pairs_cut c floor (max floor g.last - floor) (max floor g.last) xs (sum floor g.last) in
        let found = look t refl (top floor g.last) pre (all_passed (suc c) gs) is (weaker (λ q f e. absurd (omega arith)) b) (weaker (λ q f e. omega arith) (all_from (suc c) gs)) in
        ap₂ (λ r l. record g { reciprocal = r } ∷ l) (kept_live g.heir (pairs_from (max floor g.last) (pairs_of c floor xs P)) live ∙ cut ∙ found)
        (pairs_back ts (pre ++ passed_of c g.reciprocal) (is ∙ sym (append_assoc pre (passed_of c g.reciprocal) (all_passed (suc c) gs))) (each_append (weaker (λ q f. omega arith) b) (weaker (λ q e. omega arith) (passed_idents c g.reciprocal))))
      where
        top : (a b : ℕ) → a ≤ max a b
        top a b = omega arith

        sum : (a b : ℕ) → a + (max a b - a) ≡ max a b
        sum a b = omega arith
