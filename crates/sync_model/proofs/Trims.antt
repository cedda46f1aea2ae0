-- A server gives up its history before a floor: what it keeps spans the rest, and it refuses by 71 exactly what begins before.
use Rattle.std.proofs.Common.{◌≡◌, inl, inr, ℕ, zero, suc, ◌+◌, ◌-◌, ◌<◌, ◌≤◌, Bool, true, false, ◌&&◌, not, List, [], ◌∷◌, ◌++◌, Option, Some, None, Result, Ok, Err, refl, sym, ap, ap₂, ◌∙◌, subst, arith, if◌then◌else◌, ◌==◌, length, drop, take, map, nat_le, nat_lt, length-append, min, max}
use Rattle.std.proofs.lemmas.Bool.{ltb-false}
use Rattle.sync_theory.specs.Grid.{carry}
use Rattle.sync_theory.specs.Changesets.{Changeset}
use Rattle.sync_theory.specs.Reciprocals.{from_base}
use Rattle.sync_theory.proofs.World.{put_unless, put_if}
use Rattle.sync_model.specs.Bytes.{Uuid}
use Rattle.sync_model.specs.Profile.{Profile, Stuck, apply_all, cross_changesets, needs}
use Rattle.sync_model.specs.Messages.{Change, Message, Bind, Ident, Upload, Ask, Download, Refused, Stored, Ask2, Retire, Retired, AskTables}
use Rattle.sync_model.specs.Servers.{ServerRecord, Client, Entry, Form, Settled, is_retired, ServerRefusal, IdentRetired, SelfRetire, RetiredBy, NumberGap, BaseBack, AheadOfHistory, HistoryFull, IdentsFull, Trimmed, ServerStep, refuses, replies, place_of, entry_of, download, download_first, download_tables, is_refusal}
use Rattle.sync_model.specs.Each.{Each, no_more, and_each}
use Rattle.sync_model.proofs.Limits.{each_append}
use Rattle.sync_model.specs.Parts.{Given, Parts, Served, Merged, at_ident, as_before, with_versions, settled, longer_list, extended, idents_retired, given_up, retired_for, retire_as, retire_by, idents_after, integrated, after_merged, merged_by, bound, marked, marking_by, ask_by, merge_applied_by, merge_carried_by, merge_read_by, merge_by, upload_by, bind_by, serve_by, after_change, after_entry, after_part, after_parts, is_integrated, admits_entry, admits_part, parts_open}
use Rattle.sync_model.specs.Trims.{is_live, least_settled, next_floor, trimmed_given, trimmed_at, trimmed, is_trimmed, SameGiven, SameIdents, no_idents, an_ident, KeptLess, Spans, BelowFloor}
use Rattle.sync_model.proofs.Alike.{not_below, pairs_twice, drop_drop, SameSome, same_ident, SameMerge, SameServed, merges_same, serve_same, bind_same, less_bound, less_retired, less_marked}

module _ {I S : Type 0} (p : Profile I S) where
  -- ---- a server gives up the history before its next floor

  -- what the lists of a server's parts hold
  pub trimmed_less : (floor : ℕ) (a : Parts I S) → a.floor ≤ floor → floor - a.floor ≤ length a.entries → floor - a.floor ≤ length a.bases → KeptLess a (trimmed_at p floor a)
  trimmed_less floor a h w u = record { floor = h; within = w; len = refl; entries = refl; bases = refl; based = u; objects = refl; second = refl; idents = less_idents a.idents; retired = refl }
    where
      top : (v k : ℕ) → floor ≤ v → k ≤ v → max floor k ≤ v
      top v k f g = omega arith

      less_idents : (gs : List (Given I)) → SameIdents floor gs (map (trimmed_given floor) gs)
      less_idents [] = no_idents
      less_idents (g ∷ gs) = an_ident (record { uuid = refl; count = refl; last = refl; heir = refl; mark = refl; pairs = λ v f l. pairs_twice (max floor g.last) v g.reciprocal (top v g.last f l) }) (less_idents gs)

-- ---- what a server keeps spans its history

each_weak : {X : Type 0} {P Q : X → Type 0} → ((x : X) → P x → Q x) → {xs : List X} → Each P xs → Each Q xs
each_weak go no_more = no_more
each_weak go (and_each {x = x} h f) = and_each (go x h) (each_weak go f)

least_low : {I : Type 0} (floor len : ℕ) (gs : List (Given I)) → floor ≤ len → floor ≤ least_settled floor len gs
least_low floor len [] h = h
least_low floor len (g ∷ gs) h = let r = least_low floor len gs h in on (is_live g) (below (max g.mark floor) (least_settled floor len gs) (top g.mark floor) r) r
  where
    on : (t : Bool) → floor ≤ min (max g.mark floor) (least_settled floor len gs) → floor ≤ least_settled floor len gs → floor ≤ (if t then min (max g.mark floor) (least_settled floor len gs) else least_settled floor len gs)
    on true a b = a
    on false a b = b

    top : (a b : ℕ) → b ≤ max a b
    top a b = omega arith

    below : (x y : ℕ) → floor ≤ x → floor ≤ y → floor ≤ min x y
    below x y f g = omega arith

least_high : {I : Type 0} (floor len : ℕ) (gs : List (Given I)) → least_settled floor len gs ≤ len
least_high floor len [] = omega arith
least_high floor len (g ∷ gs) = let r = least_high floor len gs in on (is_live g) (under (max g.mark floor) (least_settled floor len gs) r) r
  where
    on : (t : Bool) → min (max g.mark floor) (least_settled floor len gs) ≤ len → least_settled floor len gs ≤ len → (if t then min (max g.mark floor) (least_settled floor len gs) else least_settled floor len gs) ≤ len
    on true a b = a
    on false a b = b

    under : (x y : ℕ) → y ≤ len → min x y ≤ len
    under x y h = omega arith

pub drop_length_is : {X : Type 0} (d : ℕ) (xs : List X) → length (drop d xs) ≡ length xs - d
drop_length_is zero xs = omega arith
drop_length_is (suc d) [] = omega arith
drop_length_is (suc d) (x ∷ xs) = let h = drop_length_is d xs in omega arith

each_marked : {I : Type 0} (c n top k : ℕ) {gs : List (Given I)} → n ≤ top → Each (λ g. g.mark ≤ top) gs → Each (λ g. g.mark ≤ top) (marked c n k gs)
each_marked c n top k h no_more = no_more
each_marked c n top k h (and_each {x = g} m f) = and_each (on (k == c)) (each_marked c n top (suc k) h f)
  where
    on : (t : Bool) → (if t then record g { mark = n } else g).mark ≤ top
    on true = h
    on false = m

each_retired : {I : Type 0} (c by top k : ℕ) {gs : List (Given I)} → Each (λ g. g.mark ≤ top) gs → Each (λ g. g.mark ≤ top) (idents_retired c by k gs)
each_retired c by top k no_more = no_more
each_retired c by top k (and_each {x = g} m f) = and_each (on (k == c)) (each_retired c by top (suc k) f)
  where
    on : (t : Bool) → (if t then given_up by g else g).mark ≤ top
    on true = m
    on false = m

pub each_after : {I : Type 0} (c base : ℕ) (es : List (Changeset I)) (version : ℕ) (x : Changeset I) (top k : ℕ) {gs : List (Given I)} → Each (λ g. g.mark ≤ top) gs → Each (λ g. g.mark ≤ suc top) (idents_after c base es version x k gs)
each_after c base es version x top k no_more = no_more
each_after c base es version x top k (and_each {x = g} m f) = and_each (on (k == c)) (each_after c base es version x top (suc k) f)
  where
    on : (t : Bool) → (if t then settled base es g else extended version x g).mark ≤ suc top
    on true = omega arith
    on false = omega arith

module _ {I S : Type 0} (p : Profile I S) where
  pub next_floor_fits : (a : Parts I S) → Spans a → (a.floor ≤ next_floor a) × (next_floor a ≤ a.len)
  next_floor_fits a s = let r = s.reach in (least_low a.floor a.len a.idents (omega arith), least_high a.floor a.len a.idents)

  -- trimming
  pub trims_less : (a : Parts I S) → Spans a → KeptLess a (trimmed p a)
  trims_less a s =
      let f = next_floor_fits a s in
      let f0 = f.0 in
      let f1 = f.1 in
      let r = s.reach in
      let b = s.bases in
      trimmed_less p (next_floor a) a f0 (omega arith) (omega arith)

  pub trims_span : (a : Parts I S) → Spans a → Spans (trimmed p a)
  trims_span a s =
      let f = next_floor_fits a s in
      let f0 = f.0 in
      let f1 = f.1 in
      let r = s.reach in
      let b = s.bases in
      let d = drop_length_is (next_floor a - a.floor) a.entries in
      let e = drop_length_is (next_floor a - a.floor) a.bases in
      record { reach = omega arith; bases = omega arith; marks = given_marks s.marks }
    where
      given_marks : {gs : List (Given I)} → Each (λ g. g.mark ≤ a.len) gs → Each (λ g. g.mark ≤ a.len) (map (trimmed_given (next_floor a)) gs)
      given_marks no_more = no_more
      given_marks (and_each h f) = and_each h (given_marks f)

  -- ---- and so does what it keeps after a message

  change_spans : (a : Parts I S) → Spans a → (c : ℕ) (g : Given I) (h : Change) (m : Merged I S) → merge_by p a c g h ≡ Ok m → Spans m.parts
  change_spans a s c g h m e = past (is_retired g.heir) _ _ e (λ e0. past (nat_lt (suc g.count) h.number) _ _ e0 (λ e1. past (nat_lt h.base g.last) _ _ e1 (λ e2. past (nat_lt a.len h.base) _ _ e2 (λ e3. past (nat_lt h.base a.floor) _ _ e3 (λ e4. past (a.len == p.full) _ _ e4 (λ e5. read (p.unspell h.body) e5))))))
    where
      past : (t : Bool) (w : ServerRefusal) (x : Result (Merged I S) ServerRefusal) → (if t then Err w else x) ≡ Ok m → (x ≡ Ok m → Spans m.parts) → Spans m.parts
      past true w x e go = cc
      past false w x e go = go e

      applied : (is : List I) (x : Changeset I) (es : List (Changeset I)) (o : Result S (ℕ × ℕ)) → merge_applied_by p a c h is x es o ≡ Ok m → Spans m.parts
      applied is x es (Err b) e = cc
      applied is x es (Ok t) e =
          let r = s.reach in
          let b = s.bases in
          let le = length-append a.entries (x ∷ []) in
          let lb = length-append a.bases (h.base ∷ []) in
          let new : Spans (integrated a c h.base (needs p is) x es t) = record { reach = omega arith; bases = omega arith; marks = each_after c h.base es a.len x a.len 1 s.marks } in
          let same : record { records = (if needs p is && not a.second then Form ∷ [] else []) ++ Entry c h.number h.base h.ms h.body ∷ []; parts = integrated a c h.base (needs p is) x es t } ≡ m = cc in
          subst (λ z. Spans z.parts) same new

      carried : (is : List I) (o : Result (Changeset I × List (Changeset I)) Stuck) → merge_carried_by p a c h is o ≡ Ok m → Spans m.parts
      carried is (Err b) e = cc
      carried is (Ok q) e = applied is q.0 q.1 (apply_all p q.0.instrs a.objects) e

      read : (o : Result (List I) (ℕ × ℕ)) → merge_read_by p a c g h o ≡ Ok m → Spans m.parts
      read (Err f) e = cc
      read (Ok is) e = carried is (carry (cross_changesets p) (entry_of c h is).change (from_base h.base g.reciprocal)) e

  upload_spans : (hs : List Change) (a : Parts I S) → Spans a → (c : ℕ) (o : Option (Given I)) → Spans (upload_by p a c o hs).parts
  upload_spans [] a s c None = s
  upload_spans (h ∷ hs) a s c None = s
  upload_spans [] a s c (Some g) = s
  upload_spans (h ∷ hs) a s c (Some g) = go (nat_le h.number g.count) (upload_spans hs a s c (Some g)) (merge_by p a c g h) refl (λ b t. upload_spans hs b t c (at_ident c b.idents))
    where
      go : (t : Bool) → Spans (upload_by p a c (Some g) hs).parts → (r : Result (Merged I S) ServerRefusal) → merge_by p a c g h ≡ r → ((b : Parts I S) → Spans b → Spans (upload_by p b c (at_ident c b.idents) hs).parts) → Spans (if t then upload_by p a c (Some g) hs else merged_by a c h.number r (λ after. upload_by p after c (at_ident c after.idents) hs)).parts
      go true skip r is rec = skip
      go false skip (Err w) is rec = s
      go false skip (Ok m) is rec = rec m.parts (change_spans a s c g h m is)

  pub mark_spans : (a : Parts I S) → Spans a → (c n : ℕ) → n ≤ a.len → Spans (record a { idents = marked c n 1 a.idents })
  mark_spans a s c n h = record { reach = s.reach; bases = s.bases; marks = each_marked c n a.len 1 h s.marks }

  ask_spans : (a : Parts I S) → Spans a → (c cursor n : ℕ) (o : Option (Given I)) (go : List (Changeset I) → ServerStep) → Spans (ask_by a c cursor n o go).parts
  ask_spans a s c cursor n None go = s
  ask_spans a s c cursor n (Some g) go = ahead (nat_lt a.len cursor) refl (nat_lt cursor a.floor)
    where
      marks : cursor ≤ a.len → (m : Message) → Spans (marking_by a c g.mark cursor n m).parts
      marks le m = on (nat_lt g.mark n) (nat_le n cursor) refl (not (is_refusal m))
        where
          on : (x y : Bool) → nat_le n cursor ≡ y → (z : Bool) → Spans (if x && (y && z) then record a { idents = marked c n 1 a.idents } else a)
          on true true is true = let f = Rattle.std.proofs.lemmas.Bool.leb-true n cursor is in mark_spans a s c n (omega arith)
          on true true is false = s
          on true false is z = s
          on false y is z = s

      ahead : (x : Bool) → nat_lt a.len cursor ≡ x → (y : Bool) → Spans (if x then as_before a (refuses c 0 (AheadOfHistory a.len)) else (if y then as_before a (refuses c 0 (Trimmed a.floor)) else marking_by a c g.mark cursor n (go (drop (cursor - a.floor) a.entries)).answer)).parts
      ahead true is y = s
      ahead false is true = s
      ahead false is false = marks (ltb-false a.len cursor is) (go (drop (cursor - a.floor) a.entries)).answer

  pub bound_spans : (a : Parts I S) → Spans a → (u : Uuid) → Spans (bound a u)
  bound_spans a s u = record { reach = s.reach; bases = s.bases; marks = each_append s.marks (and_each (omega arith) no_more) }

  pub retired_spans : (a : Parts I S) → Spans a → (c by : ℕ) → Spans (retired_for a c by)
  retired_spans a s c by = record { reach = s.reach; bases = s.bases; marks = each_retired c by a.len 1 s.marks }

  retire_spans : (a : Parts I S) → Spans a → (c by : ℕ) (o q : Option (Given I)) → Spans (retire_by a c by o q).parts
  retire_spans a s c by None q = s
  retire_spans a s c by (Some g) None = s
  retire_spans a s c by (Some g) (Some h) = on (c == by) g.heir
    where
      on : (e : Bool) (o : Option ℕ) → Spans (if e then as_before a (refuses by 0 (SelfRetire c)) else retire_as a c by g.count o).parts
      on true o = s
      on false None = retired_spans a s c by
      on false (Some other) = s

  pub serve_spans : (a : Parts I S) → Spans a → (m : Message) → Spans (serve_by p a m).parts
  serve_spans a s (Bind u) = on (place_of u (map (λ g. g.uuid) a.idents) == 0) (length a.idents == p.full)
    where
      on : (x y : Bool) → Spans (if not x then as_before a (replies (Ident u (place_of u (map (λ g. g.uuid) a.idents)))) else (if y then as_before a (refuses 0 0 (IdentsFull (length a.idents))) else record { records = Client u ∷ []; answer = Ident u (suc (length a.idents)); parts = bound a u })).parts
      on false y = s
      on true true = s
      on true false = bound_spans a s u
  serve_spans a s (Upload c hs) = upload_spans hs a s c (at_ident c a.idents)
  serve_spans a s (Ask c cursor n) = ask_spans a s c cursor n (at_ident c a.idents) (download_first p c cursor)
  serve_spans a s (Ask2 c cursor n) = ask_spans a s c cursor n (at_ident c a.idents) (download p c cursor)
  serve_spans a s (AskTables c cursor n second tables) = ask_spans a s c cursor n (at_ident c a.idents) (download_tables p second tables c cursor)
  serve_spans a s (Retire c by) = retire_spans a s c by (at_ident c a.idents) (at_ident by a.idents)
  serve_spans a s (Retired c by number) = s
  serve_spans a s (Ident u c) = s
  serve_spans a s (Download c from es) = s
  serve_spans a s (Stored c number) = s
  serve_spans a s (Refused c number code place) = s

  -- ---- code 71 comes exactly by the floor

  pub refused_below : (a : Parts I S) (c : ℕ) (g : Given I) (h : Change) → BelowFloor a g h → merge_by p a c g h ≡ Err (Trimmed a.floor)
  refused_below a c g h b =
      put_unless (is_retired g.heir) _ _ (not_retired (is_retired g.heir) b.live)
      ∙ put_unless (nat_lt (suc g.count) h.number) _ _ (not_below (suc g.count) h.number b.gap)
      ∙ put_unless (nat_lt h.base g.last) _ _ (not_below h.base g.last b.back)
      ∙ put_unless (nat_lt a.len h.base) _ _ (not_below a.len h.base b.ahead)
      ∙ put_if (nat_lt h.base a.floor) _ _ (Rattle.std.proofs.lemmas.Bool.lt-ltb h.base a.floor b.below)
    where
      not_retired : (t : Bool) → not t ≡ true → t ≡ false
      not_retired true e = cc
      not_retired false e = refl

  -- what a change passes before the floor
  record Passed (a : Parts I S) (g : Given I) (h : Change) : Type 0 where
    live : is_live g ≡ true
    gap : h.number ≤ suc g.count
    back : g.last ≤ h.base
    ahead : h.base ≤ a.len

  pub below_refused : (a : Parts I S) (c : ℕ) (g : Given I) (h : Change) (n : ℕ) → merge_by p a c g h ≡ Err (Trimmed n) → (n ≡ a.floor) × BelowFloor a g h
  below_refused a c g h n e =
      past (is_retired g.heir) (IdentRetired g.count) _ e (λ f. cc) (λ g0 e0.
      past (nat_lt (suc g.count) h.number) (NumberGap (suc g.count)) _ e0 (λ f. cc) (λ g1 e1.
      past (nat_lt h.base g.last) (BaseBack g.last) _ e1 (λ f. cc) (λ g2 e2.
      past (nat_lt a.len h.base) (AheadOfHistory a.len) _ e2 (λ f. cc) (λ g3 e3.
      at_floor (nat_lt h.base a.floor) refl (record { live = ap not g0; gap = ltb-false (suc g.count) h.number g1; back = ltb-false h.base g.last g2; ahead = ltb-false a.len h.base g3 }) e3))))
    where
      past : {C : Type 0} (t : Bool) (w : ServerRefusal) (x : Result (Merged I S) ServerRefusal) → (if t then Err w else x) ≡ Err (Trimmed n) → (w ≡ Trimmed n → ⊥) → (t ≡ false → x ≡ Err (Trimmed n) → C) → C
      past true w x e not_it go = absurd (not_it cc)
      past false w x e not_it go = go refl e

      carried : {C : Type 0} (is : List I) (o : Result (Changeset I × List (Changeset I)) Stuck) → merge_carried_by p a c h is o ≡ Err (Trimmed n) → C
      carried is (Err m) e = cc
      carried is (Ok q) e = applied (apply_all p q.0.instrs a.objects) e
        where
          applied : {C : Type 0} (o : Result S (ℕ × ℕ)) → merge_applied_by p a c h is q.0 q.1 o ≡ Err (Trimmed n) → C
          applied (Ok t) e = cc
          applied (Err b) e = cc

      read : {C : Type 0} (o : Result (List I) (ℕ × ℕ)) → merge_read_by p a c g h o ≡ Err (Trimmed n) → C
      read (Err f) e = cc
      read (Ok is) e = carried is (carry (cross_changesets p) (entry_of c h is).change (from_base h.base g.reciprocal)) e

      at_floor : (t : Bool) → nat_lt h.base a.floor ≡ t → Passed a g h → (if t then Err (Trimmed a.floor) else (if a.len == p.full then Err (HistoryFull a.len) else merge_read_by p a c g h (p.unspell h.body))) ≡ Err (Trimmed n) → (n ≡ a.floor) × BelowFloor a g h
      at_floor true is q e = (cc, record { live = q.live; gap = q.gap; back = q.back; ahead = q.ahead; below = Rattle.std.proofs.lemmas.Bool.ltb-true h.base a.floor is })
      at_floor false is q e = past (a.len == p.full) (HistoryFull a.len) (merge_read_by p a c g h (p.unspell h.body)) e (λ f. cc) (λ g e1. read (p.unspell h.body) e1)

pub ask_refused : {I S : Type 0} (a : Parts I S) (c cursor n : ℕ) (g : Given I) (go : List (Changeset I) → ServerStep) → cursor ≤ a.len → cursor < a.floor → ask_by a c cursor n (Some g) go ≡ as_before a (refuses c 0 (Trimmed a.floor))
ask_refused a c cursor n g go h b =
    put_unless (nat_lt a.len cursor) _ _ (not_below a.len cursor h) ∙ put_if (nat_lt cursor a.floor) _ _ (Rattle.std.proofs.lemmas.Bool.lt-ltb cursor a.floor (omega arith))

pub ask_answered : {I S : Type 0} (a : Parts I S) (c cursor n : ℕ) (g : Given I) (go : List (Changeset I) → ServerStep) → cursor ≤ a.len → a.floor ≤ cursor → ask_by a c cursor n (Some g) go ≡ marking_by a c g.mark cursor n (go (drop (cursor - a.floor) a.entries)).answer
ask_answered a c cursor n g go h b =
    put_unless (nat_lt a.len cursor) _ _ (not_below a.len cursor h) ∙ put_unless (nat_lt cursor a.floor) _ _ (not_below cursor a.floor b)

-- ---- transitive, and record by record

then_given : {I : Type 0} (f g : ℕ) (a b d : Given I) → f ≤ g → SameGiven f a b → SameGiven g b d → SameGiven g a d
then_given f g a b d le x y = record {
  uuid = y.uuid ∙ x.uuid;
  count = y.count ∙ x.count;
  last = y.last ∙ x.last;
  heir = y.heir ∙ x.heir;
  mark = y.mark ∙ x.mark;
  pairs = λ v h l. let e = x.last in y.pairs v h (omega arith) ∙ x.pairs v (omega arith) l;
}

then_idents : {I : Type 0} (f g : ℕ) {as_ bs ds : List (Given I)} → f ≤ g → SameIdents f as_ bs → SameIdents g bs ds → SameIdents g as_ ds
then_idents f g le no_idents no_idents = no_idents
then_idents f g le (an_ident {a = a} {b = b} x xs) (an_ident {b = d} y ys) = an_ident (then_given f g a b d le x y) (then_idents f g le xs ys)

pub less_then : {I S : Type 0} (a b d : Parts I S) → KeptLess a b → KeptLess b d → KeptLess a d
less_then a b d x y =
    let f = x.floor in
    let g = y.floor in
    let w = x.within in
    let u = y.within in
    let bw = x.based in
    let bu = y.based in
    let lb = ap length x.entries in
    let ld = drop_length_is (b.floor - a.floor) a.entries in
    let kb = ap length x.bases in
    let kd = drop_length_is (b.floor - a.floor) a.bases in
    let e : (b.floor - a.floor) + (d.floor - b.floor) ≡ d.floor - a.floor = omega arith in
    record {
      floor = omega arith;
      within = omega arith;
      len = y.len ∙ x.len;
      entries = y.entries ∙ ap (drop (d.floor - b.floor)) x.entries ∙ drop_drop (b.floor - a.floor) (d.floor - b.floor) a.entries ∙ ap (λ j. drop j a.entries) e;
      bases = y.bases ∙ ap (drop (d.floor - b.floor)) x.bases ∙ drop_drop (b.floor - a.floor) (d.floor - b.floor) a.bases ∙ ap (λ j. drop j a.bases) e;
      based = omega arith;
      objects = y.objects ∙ x.objects;
      second = y.second ∙ x.second;
      idents = then_idents b.floor d.floor g x.idents y.idents;
      retired = y.retired ∙ x.retired;
    }

-- what spans the longer history spans the shorter one
pub span_less : {I S : Type 0} (a b : Parts I S) → Spans a → KeptLess a b → Spans b
span_less {I} a b s k =
    let f = k.floor in
    let w = k.within in
    let bw = k.based in
    let lb = ap length k.entries in
    let ld = drop_length_is (b.floor - a.floor) a.entries in
    let kb = ap length k.bases in
    let kd = drop_length_is (b.floor - a.floor) a.bases in
    let r = s.reach in
    let q = s.bases in
    let l = k.len in
    record { reach = omega arith; bases = omega arith; marks = given_marks k.idents s.marks }
  where
    given_marks : {as_ bs : List (Given I)} → SameIdents b.floor as_ bs → Each (λ g. g.mark ≤ a.len) as_ → Each (λ g. g.mark ≤ b.len) bs
    given_marks no_idents no_more = no_more
    given_marks (an_ident x xs) (and_each h hs) = let m = x.mark in let l = k.len in and_each (omega arith) (given_marks xs hs)

module _ {I S : Type 0} (p : Profile I S) where
  take_past : {X : Type 0} (xs ys : List X) (j : ℕ) → take (length xs + j) (xs ++ ys) ≡ xs ++ take j ys
  take_past [] ys j = let e : 0 + j ≡ j = omega arith in ap (λ k. take k ys) e
  take_past (x ∷ xs) ys j = let e : suc (length xs) + j ≡ suc (length xs + j) = omega arith in ap (λ k. take k (x ∷ (xs ++ ys))) e ∙ ap (λ l. x ∷ l) (take_past xs ys j)

  -- what the second writes is a beginning of what the first does
  abbrev pub Begins : Served I S → Served I S → Type 0
  Begins x y = (j : ℕ) × (y.records ≡ take j x.records)

  upload_begins : (hs : List Change) (a b : Parts I S) → KeptLess a b → (c : ℕ) (oa ob : Option (Given I)) → SameSome b.floor oa ob → oa ≡ at_ident c a.idents → Begins (upload_by p a c oa hs) (upload_by p b c ob hs)
  unfolding SameMerge SameSome
  upload_begins hs a b k c None None s here = none hs
    where
      none : (hs : List Change) → Begins (upload_by p a c None hs) (upload_by p b c None hs)
      none [] = (0, refl)
      none (h ∷ hs) = (0, refl)
  upload_begins hs a b k c None (Some x) s here = absurd s
  upload_begins hs a b k c (Some x) None s here = absurd s
  upload_begins [] a b k c (Some ga) (Some gb) s here = (0, refl)
  upload_begins (h ∷ hs) a b k c (Some ga) (Some gb) s here =
      subst (λ n. Begins (upload_by p a c (Some ga) (h ∷ hs)) (if nat_le h.number n then upload_by p b c (Some gb) hs else merged_by b c h.number (merge_by p b c gb h) (λ after. upload_by p after c (at_ident c after.idents) hs))) (sym s.count)
      (go (nat_le h.number ga.count) (upload_begins hs a b k c (Some ga) (Some gb) s here) (merge_by p a c ga h) (merge_by p b c gb h) (merges_same p a b k c ga gb s h (sym here)) (λ x y l. upload_begins hs x y l c (at_ident c x.idents) (at_ident c y.idents) (same_ident y.floor l.idents c) refl))
    where
      go : (t : Bool) → Begins (upload_by p a c (Some ga) hs) (upload_by p b c (Some gb) hs) → (x y : Result (Merged I S) ServerRefusal) → SameMerge p (h.base < b.floor) x y → ((x y : Parts I S) → KeptLess x y → Begins (upload_by p x c (at_ident c x.idents) hs) (upload_by p y c (at_ident c y.idents) hs))
          → Begins (if t then upload_by p a c (Some ga) hs else merged_by a c h.number x (λ after. upload_by p after c (at_ident c after.idents) hs)) (if t then upload_by p b c (Some gb) hs else merged_by b c h.number y (λ after. upload_by p after c (at_ident c after.idents) hs))
      go true skip x y m rec = skip
      go false skip x (Err w) m rec = (0, refl)
      go false skip (Err v) (Ok n) m rec = absurd m
      go false skip (Ok m) (Ok n) q rec =
          let r = rec m.parts n.parts q.1 in
          (length m.records + r.0, ap₂ (λ u v. u ++ v) q.0 r.1 ∙ sym (take_past m.records (upload_by p m.parts c (at_ident c m.parts.idents) hs).records r.0))

  all_taken : {X : Type 0} (xs : List X) → xs ≡ take (length xs) xs
  all_taken [] = refl
  all_taken (x ∷ xs) = ap (λ l. x ∷ l) (all_taken xs)

  -- a message that isn't an Upload is refused by 71 without a record
  alike_begins : (low : Type 0) (a b : Parts I S) (x y : Served I S) → SameServed p low x y → (is_trimmed y.answer ≡ true → y.records ≡ []) → Begins x y
  unfolding SameServed
  alike_begins low a b x y (inl t) none = (0, none t.0)
  alike_begins low a b x y (inr s) none = (length x.records, s.0 ∙ all_taken x.records)

  ask_quiet : (b : Parts I S) (c cursor n : ℕ) (o : Option (Given I)) (go : List (Changeset I) → ServerStep) → is_trimmed (ask_by b c cursor n o go).answer ≡ true → (ask_by b c cursor n o go).records ≡ []
  ask_quiet b c cursor n None go t = refl
  ask_quiet b c cursor n (Some g) go t = on (nat_lt b.len cursor) (nat_lt cursor b.floor) t
    where
      marks : (m : Message) → is_trimmed m ≡ true → (marking_by b c g.mark cursor n m).records ≡ []
      marks (Refused d code number place) e = last (nat_lt g.mark n) (nat_le n cursor)
        where
          last : (x y : Bool) → (if x && (y && false) then Settled c n ∷ [] else []) ≡ []
          last true true = refl
          last true false = refl
          last false y = refl
      marks (Bind u) e = cc
      marks (Ident u c) e = cc
      marks (Upload c hs) e = cc
      marks (Ask c cursor settled) e = cc
      marks (Ask2 c cursor settled) e = cc
      marks (Download c from es) e = cc
      marks (Stored c number) e = cc
      marks (Retire c by) e = cc
      marks (Retired c by number) e = cc
      marks (AskTables c cursor settled second tables) e = cc

      on : (x y : Bool) → is_trimmed (if x then as_before b (refuses c 0 (AheadOfHistory b.len)) else (if y then as_before b (refuses c 0 (Trimmed b.floor)) else marking_by b c g.mark cursor n (go (drop (cursor - b.floor) b.entries)).answer)).answer ≡ true → (if x then as_before b (refuses c 0 (AheadOfHistory b.len)) else (if y then as_before b (refuses c 0 (Trimmed b.floor)) else marking_by b c g.mark cursor n (go (drop (cursor - b.floor) b.entries)).answer)).records ≡ []
      on true y e = refl
      on false true e = refl
      on false false e = marks (go (drop (cursor - b.floor) b.entries)).answer e

  pub serve_begins : (a b : Parts I S) → KeptLess a b → (m : Message) → Begins (serve_by p a m) (serve_by p b m)
  serve_begins a b k (Bind u) = alike_begins ⊥ a b (serve_by p a (Bind u)) (serve_by p b (Bind u)) (bind_same p a b k u) (bind_quiet (place_of u (map (λ g. g.uuid) b.idents) == 0) (length b.idents == p.full))
    where
      bind_quiet : (s t : Bool) → is_trimmed (if not s then as_before b (replies (Ident u (place_of u (map (λ g. g.uuid) b.idents)))) else (if t then as_before b (refuses 0 0 (IdentsFull (length b.idents))) else record { records = Client u ∷ []; answer = Ident u (suc (length b.idents)); parts = bound b u })).answer ≡ true → (if not s then as_before b (replies (Ident u (place_of u (map (λ g. g.uuid) b.idents)))) else (if t then as_before b (refuses 0 0 (IdentsFull (length b.idents))) else record { records = Client u ∷ []; answer = Ident u (suc (length b.idents)); parts = bound b u })).records ≡ []
      bind_quiet false t e = refl
      bind_quiet true true e = refl
      bind_quiet true false e = cc
  serve_begins a b k (Upload c hs) = upload_begins hs a b k c (at_ident c a.idents) (at_ident c b.idents) (same_ident b.floor k.idents c) refl
  serve_begins a b k (Ask c cursor n) = alike_begins (cursor < b.floor) a b (serve_by p a (Ask c cursor n)) (serve_by p b (Ask c cursor n)) (serve_same p a b k (Ask c cursor n)) (ask_quiet b c cursor n (at_ident c b.idents) (download_first p c cursor))
  serve_begins a b k (Ask2 c cursor n) = alike_begins (cursor < b.floor) a b (serve_by p a (Ask2 c cursor n)) (serve_by p b (Ask2 c cursor n)) (serve_same p a b k (Ask2 c cursor n)) (ask_quiet b c cursor n (at_ident c b.idents) (download p c cursor))
  serve_begins a b k (AskTables c cursor n second tables) = alike_begins (cursor < b.floor) a b (serve_by p a (AskTables c cursor n second tables)) (serve_by p b (AskTables c cursor n second tables)) (serve_same p a b k (AskTables c cursor n second tables)) (ask_quiet b c cursor n (at_ident c b.idents) (download_tables p second tables c cursor))
  serve_begins a b k (Retire c by) = alike_begins ⊥ a b (serve_by p a (Retire c by)) (serve_by p b (Retire c by)) (serve_same p a b k (Retire c by)) (quiet (at_ident c b.idents) (at_ident by b.idents))
    where
      quiet : (o q : Option (Given I)) → is_trimmed (retire_by b c by o q).answer ≡ true → (retire_by b c by o q).records ≡ []
      quiet None q e = refl
      quiet (Some g) None e = refl
      quiet (Some g) (Some h) e = on (c == by) g.heir e
        where
          on : (t : Bool) (o : Option ℕ) → is_trimmed (if t then as_before b (refuses by 0 (SelfRetire c)) else retire_as b c by g.count o).answer ≡ true → (if t then as_before b (refuses by 0 (SelfRetire c)) else retire_as b c by g.count o).records ≡ []
          on true o f = refl
          on false None f = cc
          on false (Some other) f = again (other == by)
            where
              again : (t : Bool) → (as_before b (if t then replies (Message.Retired c by g.count) else refuses by 0 (RetiredBy other))).records ≡ []
              again true = refl
              again false = refl
  serve_begins a b k (Retired c by number) = (0, refl)
  serve_begins a b k (Ident u c) = (0, refl)
  serve_begins a b k (Download c from es) = (0, refl)
  serve_begins a b k (Stored c number) = (0, refl)
  serve_begins a b k (Refused c number code place) = (0, refl)

  -- ---- record by record

  less_entry : (a b : Parts I S) → KeptLess a b → (c : ℕ) (h : Change) (oa ob : Option (Given I)) → SameSome b.floor oa ob → at_ident c a.idents ≡ oa → admits_entry p b c h ob ≡ true → KeptLess (after_entry p a c h oa) (after_entry p b c h ob)
  unfolding SameSome SameMerge
  less_entry a b k c h None None s here e = k
  less_entry a b k c h None (Some x) s here e = absurd s
  less_entry a b k c h (Some x) None s here e = absurd s
  less_entry a b k c h (Some ga) (Some gb) s here e = on (merge_by p a c ga h) (merge_by p b c gb h) (merges_same p a b k c ga gb s h here) (integrated_ (h.number == suc gb.count) (not (Rattle.sync_model.specs.Parts.is_newer p (p.unspell h.body) && not b.second)) (is_integrated (merge_by p b c gb h)) e)
    where
      integrated_ : (x y z : Bool) → (x && (y && z)) ≡ true → z ≡ true
      integrated_ true true z f = f
      integrated_ true false z f = cc
      integrated_ false y z f = cc

      on : (x y : Result (Merged I S) ServerRefusal) → SameMerge p (h.base < b.floor) x y → is_integrated y ≡ true → KeptLess (after_change a x) (after_change b y)
      on (Ok m) (Ok n) q f = q.1
      on (Err v) (Ok n) q f = absurd q
      on x (Err w) q f = cc

  pub less_record : (a b : Parts I S) → KeptLess a b → (r : ServerRecord) → admits_part p b r ≡ true → KeptLess (after_part p a r) (after_part p b r)
  less_record a b k (Client u) e = less_bound p a b k u
  less_record a b k Form e = record { floor = k.floor; within = k.within; len = k.len; entries = k.entries; bases = k.bases; based = k.based; objects = k.objects; second = refl; idents = k.idents; retired = k.retired }
  less_record a b k (ServerRecord.Retired c by) e = less_retired p a b k c by
  less_record a b k (Settled c n) e = less_marked p a b k c n
  less_record a b k (Entry c number base ms body) e = less_entry a b k c (record { number = number; base = base; ms = ms; body = body }) (at_ident c a.idents) (at_ident c b.idents) (same_ident b.floor k.idents c) refl e
  less_record a b k (ServerRecord.Part body) e = k
  less_record a b k (ServerRecord.Floor version) e = k
  less_record a b k (ServerRecord.Count c number base n) e = k
  less_record a b k (ServerRecord.Carried origin number base ms body) e = k
  less_record a b k (ServerRecord.Past c version ms body) e = k

  pub less_records : (rs : List ServerRecord) (a b : Parts I S) → KeptLess a b → parts_open p b rs ≡ true → KeptLess (after_parts p a rs) (after_parts p b rs)
  less_records [] a b k e = k
  less_records (r ∷ rs) a b k e =
      let h = both_of (admits_part p b r) (parts_open p (after_part p b r) rs) e in
      less_records rs (after_part p a r) (after_part p b r) (less_record a b k r h.0) h.1
    where
      both_of : (x y : Bool) → (x && y) ≡ true → (x ≡ true) × (y ≡ true)
      both_of true y f = (refl, f)
      both_of false y f = cc
