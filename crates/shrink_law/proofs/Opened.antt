-- Opening accepts a short file, and behind it what it accepts behind the client's whole file.
use Rattle.std.proofs.Common.{◌≡◌, ℕ, zero, suc, ◌+◌, ◌≤◌, Bool, true, false, ◌&&◌, ◌||◌, not, List, [], ◌∷◌, ◌++◌, Option, Some, None, Result, Ok, Err, refl, sym, ap, ap₂, ◌∙◌, subst, arith, append_assoc, append-nil, if◌then◌else◌, ◌==◌, length, map, eqb-true, nat_le, nat_lt}
use Rattle.std.proofs.lemmas.Bool.{le-leb}
use Rattle.sync_theory.proofs.Server.{test_true}
use Rattle.sync_model.specs.Bytes.{Uuid, Tables}
use Rattle.sync_model.specs.Profile.{Profile, Lawful, is_small, needs, all_admitted, apply_all, Stuck, cross_changesets}
use Rattle.sync_model.specs.Snapshots.{Buildable, grown}
use Rattle.sync_model.specs.Each.{Each, no_more, and_each}
use Rattle.sync_model.specs.Clients.{Client, ClientRecord, Born, Named, Made, Took, Form, Subset, Part, Floor, Resumed, Waits, blanks, waits_too, Original, Unsent, grown_or, ok_list, entry_refusal, is_late, no_client, client_of, after_record, after_records, changeset_of, crossed, takes_entry}
use Rattle.sync_model.specs.Files.{IsLong, is_fine, is_empty, is_place, is_blank, is_growing, all_came, all_behind, closes, tables_fit, readable, read_parts, part_and, part_fits, bodies_ahead, parts_grow, made_acts, client_admits, client_opens}
use Rattle.sync_model.specs.Worlds.{is_there}
use Rattle.sync_model.proofs.Settling.{length_blanks, no_front}
use Rattle.sync_model.proofs.Starting.{grown_build}
use Rattle.shrink_law.specs.Short.{Alike, has_begun, taken, id_records, form_records, tables_records, ident_records, waits, count_records, state_records, short_records}
use Rattle.shrink_law.specs.Openings.{has_parts, long_part, long_admits, long_opens}
use Rattle.shrink_law.specs.Current.{Follow, none_follows, one_follows}
use Rattle.shrink_law.proofs.Answering.{IsPlain, record_alike, refusal_alike}
use Rattle.shrink_law.proofs.Staying.{ArePlain}
use Rattle.shrink_law.proofs.Files.{Small, IsFresh}
use Rattle.shrink_law.proofs.Shrinking.{alike_refl, shrunk_alike}
use Rattle.sync_theory.specs.Changesets.{Changeset}
use Rattle.sync_theory.specs.Grid.{rebase, tail}
use Rattle.sync_theory.proofs.Logs.{length_snoc}

join : (a b : Bool) → a ≡ true → b ≡ true → (a && b) ≡ true
join true b e f = f
join false b e f = e

module _ {I S : Type 0} (p : Profile I S) where
  -- ---- files without a short front

  parts_same : (c : Client I S) → c.front ≡ None → (ahead : List (Option ClientRecord)) (o : Option (List I)) → part_fits p c ahead o ≡ long_part p c ahead o
  parts_same c f ahead None = refl
  parts_same c f ahead (Some is) = λ i. parts_grow p c.parts is (read_parts p (is_there (f i) || c.second) (bodies_ahead p ahead))

  -- of them opening accepts what it accepted before there were others
  long_same : (c : Client I S) → c.front ≡ None → (ahead : List (Option ClientRecord)) (r : ClientRecord) → IsLong r → client_admits p c ahead r ≡ long_admits p c ahead r
  long_same c f ahead (Born id) h = refl
  long_same c f ahead (Named ident) h = λ i. is_there c.id && (not (is_there (f i) || has_parts c) && ((c.ident == 0) && not (ident == 0)))
  long_same c f ahead (Made number ms body) h = λ i. is_there c.id && (not (is_there (f i) || has_parts c) && ((number == suc (length c.made)) && made_acts p c (p.unspell body)))
  long_same c f ahead (Took origin number ms body) h = refl
  long_same c f ahead Form h = λ i. is_there c.id && (not (is_there (f i) || has_parts c) && not c.second)
  long_same c f ahead (Subset tables) h = λ i. tables_fit c (not (is_empty ahead)) (f i) (is_there c.id && (not (is_there (f i) || has_parts c) && (not (is_there c.subset) && not (is_late c))))
  long_same c f ahead (Part body) h =
      (λ i. all_came (f i) (is_blank c) && (not (is_empty ahead) && part_fits p c ahead (readable p (is_there (f i) || c.second) (p.unspell body))))
      ∙ ap (λ b. is_blank c && (not (is_empty ahead) && b)) (parts_same c f ahead (readable p c.second (p.unspell body)))
  long_same c f ahead (Floor version) h = (λ i. all_came (f i) (is_blank c) && (is_fine (grown p c.parts) && closes (f i) version c.unsent)) ∙ ap (λ b. is_blank c && b) (and_true (is_fine (grown p c.parts)))
    where
      and_true : (b : Bool) → (b && true) ≡ b
      and_true true = refl
      and_true false = refl
  long_same c f ahead (Resumed number waiting) h = absurd h
  long_same c f ahead (Waits number base ms body current) h = absurd h

  long_front : (c : Client I S) → c.front ≡ None → (r : ClientRecord) → IsLong r → (after_record p c r).front ≡ None
  long_front c f (Born id) h = f
  long_front c f (Named ident) h = f
  long_front c f (Made number ms body) h = f
  long_front c f (Took origin number ms body) h = took_front (record { origin = origin; number = number; ms = ms; instrs = ok_list (p.unspell body) })
    where
      took_front : (x : Changeset I) → (takes_entry p c x).front ≡ None
      took_front x = go (x.origin == c.ident) (rebase (cross_changesets p) (map (changeset_of c.ident) c.unsent) x)
        where
          go : (b : Bool) (r : Result (List (Changeset I) × Changeset I) (ℕ × Stuck)) → (if b then record c { cursor = suc c.cursor; unsent = tail c.unsent } else crossed p c r).front ≡ None
          go true r = f
          go false (Ok q) = f
          go false (Err g) = f
  long_front c f Form h = f
  long_front c f (Subset tables) h = f
  long_front c f (Part body) h = f
  long_front c f (Floor version) h = refl
  long_front c f (Resumed number waiting) h = absurd h
  long_front c f (Waits number base ms body current) h = absurd h

  pub longs_open : (rs : List ClientRecord) (c : Client I S) → c.front ≡ None → Each IsLong rs → (client_opens p c rs ≡ long_opens p c rs) × ((after_records p c rs).front ≡ None)
  longs_open [] c f no_more = (refl, f)
  longs_open (r ∷ rs) c f (and_each h hs) =
      let rest = longs_open rs (after_record p c r) (long_front c f r h) hs in
      (ap₂ (λ x y. x && y) (long_same c f (map (λ q. Some q) rs) r h) rest.0, rest.1)

  -- ---- behind the front

  -- outside a front, and whatever is ahead, records that a call appends are accepted as in any file
  admits_alike : (c d : Client I S) → Alike c d → is_growing c ≡ false → is_growing d ≡ false → (ahead more : List (Option ClientRecord)) (r : ClientRecord) → IsPlain r → client_admits p d more r ≡ client_admits p c ahead r
  admits_alike c d a g k ahead more (Born id) h = λ i. not (is_there (a.id i))
  admits_alike c d a g k ahead more (Named ident) h = λ i. is_there (a.id i) && (not ((k ∙ sym g) i) && ((a.ident i == 0) && not (ident == 0)))
  admits_alike c d a g k ahead more (Made number ms body) h =
      let acts : made_acts p d (p.unspell body) ≡ made_acts p c (p.unspell body) = act_alike (p.unspell body) in
      λ i. is_there (a.id i) && (not ((k ∙ sym g) i) && ((number == suc (a.last i)) && acts i))
    where
      act_alike : (r : Result (List I) (ℕ × ℕ)) → made_acts p d r ≡ made_acts p c r
      act_alike (Err f) = refl
      act_alike (Ok is) = λ i. not (needs p is && not (a.second i)) && (all_admitted p (a.subset i) is && is_fine (apply_all p is (a.objects i)))
  admits_alike c d a g k ahead more (Took origin number ms body) h =
      λ i. not (a.ident i == 0) && (nat_lt (a.cursor i) p.full && (not (origin == 0) && (not (number == 0) && not (is_there (refusal_alike p c d a (record { origin = origin; number = number; ms = ms; body = body }) i)))))
  admits_alike c d a g k ahead more Form h = λ i. is_there (a.id i) && (not ((k ∙ sym g) i) && not (a.second i))
  admits_alike c d a g k ahead more (Subset tables) h =
      ap (λ o. tables_fit d (not (is_empty more)) o (is_there d.id && (not (is_growing d) && (not (is_there d.subset) && not (is_late d))))) (no_front d k)
      ∙ (λ i. is_there (a.id i) && (not ((k ∙ sym g) i) && (not (is_there (a.subset i)) && not (not (a.ident i == 0) || a.begun i))))
      ∙ sym (ap (λ o. tables_fit c (not (is_empty ahead)) o (is_there c.id && (not (is_growing c) && (not (is_there c.subset) && not (is_late c))))) (no_front c g))
  admits_alike c d a g k ahead more (Part body) h = absurd h
  admits_alike c d a g k ahead more (Floor version) h = absurd h
  admits_alike c d a g k ahead more (Resumed number waiting) h = absurd h
  admits_alike c d a g k ahead more (Waits number base ms body current) h = absurd h

  -- parts and floors alone make a client wait
  growing_stays : (c : Client I S) (r : ClientRecord) → IsPlain r → is_growing (after_record p c r) ≡ is_growing c
  growing_stays c (Born id) h = refl
  growing_stays c (Named ident) h = refl
  growing_stays c (Made number ms body) h = refl
  growing_stays c (Took origin number ms body) h = took_same (record { origin = origin; number = number; ms = ms; instrs = ok_list (p.unspell body) })
    where
      took_same : (x : Changeset I) → is_growing (takes_entry p c x) ≡ is_growing c
      took_same x = go (x.origin == c.ident) (rebase (cross_changesets p) (map (changeset_of c.ident) c.unsent) x)
        where
          on : (r : Result (List (Changeset I) × Changeset I) (ℕ × Stuck)) → is_growing (crossed p c r) ≡ is_growing c
          on (Ok q) = refl
          on (Err f) = refl

          go : (b : Bool) (r : Result (List (Changeset I) × Changeset I) (ℕ × Stuck)) → is_growing (if b then record c { cursor = suc c.cursor; unsent = tail c.unsent } else crossed p c r) ≡ is_growing c
          go true r = refl
          go false r = on r
  growing_stays c Form h = refl
  growing_stays c (Subset tables) h = refl
  growing_stays c (Part body) h = absurd h
  growing_stays c (Floor version) h = absurd h
  growing_stays c (Resumed number waiting) h = absurd h
  growing_stays c (Waits number base ms body current) h = absurd h

  pub behind_alike : (rs : List ClientRecord) → ArePlain rs → (c d : Client I S) → Alike c d → is_growing c ≡ false → is_growing d ≡ false → client_opens p d rs ≡ client_opens p c rs
  behind_alike [] no_more c d a g k = refl
  behind_alike (r ∷ rs) (and_each h f) c d a g k =
      ap₂ (λ x y. x && y)
      (admits_alike c d a g k (map (λ q. Some q) rs) (map (λ q. Some q) rs) r h)
      (behind_alike rs f (after_record p c r) (after_record p d r) (record_alike p c d a r h) (growing_stays c r h ∙ g) (growing_stays d r h ∙ k))

  -- ---- the front, from its end

  -- an ident, where there is one
  ident_opens : (k : ℕ) (d : Client I S) (rest : List ClientRecord) → is_there d.id ≡ true → is_growing d ≡ false → d.ident ≡ 0 → client_opens p (record d { ident = k }) rest ≡ true → client_opens p d (ident_records k ++ rest) ≡ true
  ident_opens k d rest born calm none h = on (k == 0) refl
    where
      on : (b : Bool) → (k == 0) ≡ b → client_opens p d ((if b then [] else Named k ∷ []) ++ rest) ≡ true
      on true e = subst (λ n. client_opens p (record d { ident = n }) rest ≡ true) (eqb-true k 0 e ∙ sym none) h
      on false e =
          join (is_there d.id && (not (is_growing d) && ((d.ident == 0) && not (k == 0)))) (client_opens p (record d { ident = k }) rest)
          (join (is_there d.id) _ born (join (not (is_growing d)) _ (ap not calm) (join (d.ident == 0) (not (k == 0)) (ap (λ n. n == 0) none) (ap not e)))) h

  module _ {Fits Bounded Old : S → Type 0} (law : Lawful p Fits) (built : Buildable p Fits Bounded Old) where
    -- the records of parts, and the cursor behind them
    abbrev parts_of : List (List I) → List ClientRecord
    parts_of ps = map (λ is. Part (p.spell is)) ps

    bodies_are : (ps : List (List I)) (version : ℕ) (rest : List ClientRecord) → bodies_ahead p (map (λ q. Some q) (parts_of ps ++ Floor version ∷ rest)) ≡ map (λ is. p.spell is) ps
    bodies_are [] version rest = refl
    bodies_are (x ∷ ps) version rest = ap (λ l. p.spell x ∷ l) (bodies_are ps version rest)

    any_form : (is : List I) → readable p true (Ok is) ≡ Some is
    any_form is = on (needs p is)
      where
        on : (b : Bool) → (if b && not true then None else Some is) ≡ Some is
        on true = refl
        on false = refl

    parts_are : {ps : List (List I)} → Each (λ is. is_small p is ≡ true) ps → read_parts p true (map (λ is. p.spell is) ps) ≡ Some ps
    parts_are no_more = refl
    parts_are (and_each {x = x} h f) = ap₂ part_and (ap (readable p true) (law.spelled x h) ∙ any_form x) (parts_are f)

    parts_open : (version : ℕ) (s : S) → Fits s → Bounded s → (ps before : List (List I)) → before ++ ps ≡ p.build s → Each (λ is. is_small p is ≡ true) ps → (d : Client I S) → all_behind version d.unsent ≡ true → (rest : List ClientRecord)
        → client_opens p (record d { parts = p.build s; floor = Some version; front = None; cursor = version; objects = s }) rest ≡ true
        → client_opens p (record d { front = Some 0; parts = before }) (parts_of ps ++ Floor version ∷ rest) ≡ true
    parts_open version s fit bounded [] before e no_more d low rest h =
        let same : before ≡ p.build s = sym (append-nil before) ∙ e in
        let grew : grown p before ≡ Ok s = ap (grown p) same ∙ grown_build p law built s fit bounded in
        join (is_fine (grown p before) && all_behind version d.unsent) (client_opens p (record d { parts = before; floor = Some version; front = None; cursor = version; objects = grown_or d.objects (grown p before) }) rest)
        (join (is_fine (grown p before)) (all_behind version d.unsent) (ap is_fine grew) low)
        (ap₂ (λ l r. client_opens p (record d { parts = l; floor = Some version; front = None; cursor = version; objects = grown_or d.objects r }) rest) same grew ∙ h)
    parts_open version s fit bounded (x ∷ ps) before e (and_each small f) d low rest h =
        let after = parts_open version s fit bounded ps (before ++ x ∷ []) (append_assoc before (x ∷ []) ps ∙ e) f d low rest h in
        let ahead = map (λ (q : ClientRecord). Some q) (parts_of ps ++ Floor version ∷ rest) in
        let whole : parts_grow p before x (Some ps) ≡ true = ap (λ r. not (is_place (length before) r)) (ap (grown p) e ∙ grown_build p law built s fit bounded) in
        let fits_ : part_fits p (record d { front = Some 0; parts = before }) ahead (readable p true (p.unspell (p.spell x))) ≡ true =
        ap (part_fits p (record d { front = Some 0; parts = before }) ahead) (ap (readable p true) (law.spelled x small) ∙ any_form x)
        ∙ ap (λ l. parts_grow p before x (read_parts p true l)) (bodies_are ps version rest) ∙ ap (parts_grow p before x) (parts_are f) ∙ whole in
        join (not (is_empty ahead) && part_fits p (record d { front = Some 0; parts = before }) ahead (readable p true (p.unspell (p.spell x)))) _
        (join (not (is_empty ahead)) _ (some_more ps) fits_)
        (ap (λ is. client_opens p (record d { front = Some 0; parts = before ++ is ∷ [] }) (parts_of ps ++ Floor version ∷ rest)) (ap ok_list (law.spelled x small)) ∙ after)
      where
        some_more : (ps : List (List I)) → not (is_empty (map (λ (q : ClientRecord). Some q) (parts_of ps ++ Floor version ∷ rest))) ≡ true
        some_more [] = refl
        some_more (y ∷ ps) = refl

    -- the unsent changesets
    waits_open : (us : List (Unsent I)) → Small p us → (d : Client I S) → Follow (length d.made) us → (rest : List ClientRecord) → is_empty rest ≡ false
        → client_opens p (record d { front = Some 0; made = d.made ++ map (λ u. u.original) us; unsent = d.unsent ++ us }) rest ≡ true
        → client_opens p (record d { front = Some (length us) }) (map (waits p) us ++ rest) ≡ true
    waits_open [] no_more d none_follows rest some h = ap₂ (λ m u. client_opens p (record d { front = Some 0; made = m; unsent = u }) rest) (sym (append-nil d.made)) (sym (append-nil d.unsent)) ∙ h
    waits_open (u ∷ us) (and_each small f) d (one_follows e g) rest some h =
        let first : p.unspell (p.spell u.original.instrs) ≡ Ok u.original.instrs = law.spelled u.original.instrs small.0 in
        let second : p.unspell (p.spell u.current) ≡ Ok u.current = law.spelled u.current small.1 in
        let longer : length (d.made ++ u.original ∷ []) ≡ suc (length d.made) = length_snoc d.made u.original in
        let after = waits_open us f (record d { made = d.made ++ u.original ∷ []; unsent = d.unsent ++ u ∷ [] }) (subst (λ k. Follow k us) (sym longer) g) rest some (ap₂ (λ m l. client_opens p (record d { front = Some 0; made = m; unsent = l }) rest) (append_assoc d.made (u.original ∷ []) (map (λ u. u.original) us)) (append_assoc d.unsent (u ∷ []) us) ∙ h) in
        join ((u.original.number == suc (length d.made)) && (not (is_empty (map (λ (q : ClientRecord). Some q) (map (waits p) us ++ rest))) && (is_fine (p.unspell (p.spell u.original.instrs)) && is_fine (p.unspell (p.spell u.current))))) _
        (join (u.original.number == suc (length d.made)) _ (ap (λ k. k == suc (length d.made)) e ∙ same_number (length d.made)) (join (not (is_empty (map (λ (q : ClientRecord). Some q) (map (waits p) us ++ rest)))) _ (some_more us) (join (is_fine (p.unspell (p.spell u.original.instrs))) _ (ap is_fine first) (ap is_fine second))))
        ((λ i. client_opens p (waits_too (record d { front = Some (suc (length us)) }) (record { original = record { base = u.original.base; number = u.original.number; ms = u.original.ms; instrs = ok_list (first i) }; current = ok_list (second i) })) (map (waits p) us ++ rest)) ∙ after)
      where
        same_number : (n : ℕ) → (suc n == suc n) ≡ true
        same_number n = test_true (suc n) (suc n) refl

        some_more : (us : List (Unsent I)) → not (is_empty (map (λ (q : ClientRecord). Some q) (map (waits p) us ++ rest))) ≡ true
        some_more [] = some_rest rest some
          where
            some_rest : (rs : List ClientRecord) → is_empty rs ≡ false → not (is_empty (map (λ (q : ClientRecord). Some q) rs)) ≡ true
            some_rest [] e = cc
            some_rest (r ∷ rs) e = refl
        some_more (v ∷ us) = refl

    -- ---- the whole file, from its end

    -- tables, where there are some
    tables_open : (n : ℕ) (o : Option Tables) (d : Client I S) (rest : List ClientRecord) → d.front ≡ Some n → d.ident ≡ 0 → d.subset ≡ None → d.unsent ≡ [] → d.parts ≡ [] → is_empty rest ≡ false → client_opens p (record d { subset = o }) rest ≡ true → client_opens p d (tables_records o ++ rest) ≡ true
    tables_open n None d rest front unnamed none bare new some h = (λ i. client_opens p (record d { subset = none i }) rest) ∙ h
    tables_open n (Some t) d rest front unnamed none bare new some h =
        join (client_admits p d (map (λ q. Some q) rest) (Subset t)) (client_opens p (record d { subset = Some t }) rest)
        (ap (λ o. tables_fit d (not (is_empty (map (λ q. Some q) rest))) o (is_there d.id && (not (is_growing d) && (not (is_there d.subset) && not (is_late d))))) front
        ∙ join (d.ident == 0) _ (ap (λ k. k == 0) unnamed) (join (not (is_there d.subset)) _ (ap (λ (o : Option Tables). not (is_there o)) none) (join (is_empty d.unsent) _ (ap is_empty bare) (join (is_empty d.parts) _ (ap is_empty new) (ahead rest some))))) h
      where
        ahead : (rs : List ClientRecord) → is_empty rs ≡ false → not (is_empty (map (λ (q : ClientRecord). Some q) rs)) ≡ true
        ahead [] e = cc
        ahead (r ∷ rs) e = refl

    form_opens : (b : Bool) (o : Option Uuid) (rest : List ClientRecord) → is_there o ≡ true → client_opens p (record (no_client p) { id = o; second = b }) rest ≡ true → client_opens p (record (no_client p) { id = o }) (form_records b ++ rest) ≡ true
    form_opens true o rest born h = join (is_there o && true) _ (join (is_there o) true born refl) h
    form_opens false o rest born h = h

    id_opens : (o : Option Uuid) (rest : List ClientRecord) → is_there o ≡ true → client_opens p (record (no_client p) { id = o }) rest ≡ true → client_opens p (no_client p) (id_records o ++ rest) ≡ true
    id_opens None rest born h = cc
    id_opens (Some u) rest born h = h

    -- what is asked of a client: opening accepted its records, and its numbers are small
    pub record Whole (c : Client I S) : Type 0 where
      pub born : is_there c.id ≡ true
      pub small : length c.made ≤ p.full
      pub keeps : length c.unsent ≤ length c.made
      pub follow : Follow (taken c) c.unsent
      pub behind : all_behind c.cursor c.unsent ≡ true
      pub fits : Fits c.objects
      pub bounded : Bounded c.objects
      pub lists : Small p c.unsent
      pub calm : is_growing c ≡ false
      pub fresh : has_begun c ≡ false → IsFresh p c

    flat : (a b c d e f g : List ClientRecord) → (a ++ (b ++ (c ++ (d ++ (e ++ f))))) ++ g ≡ a ++ (b ++ (c ++ (d ++ (e ++ (f ++ g)))))
    flat a b c d e f g =
        append_assoc a (b ++ (c ++ (d ++ (e ++ f)))) g ∙ ap (λ l. a ++ l) (append_assoc b (c ++ (d ++ (e ++ f))) g ∙ ap (λ l. b ++ l) (append_assoc c (d ++ (e ++ f)) g ∙ ap (λ l. c ++ l) (append_assoc d (e ++ f) g ∙ ap (λ l. d ++ l) (append_assoc e f g))))

    pub short_file_opens : (c : Client I S) → Whole c → (rest : List ClientRecord) → ArePlain rest → client_opens p c rest ≡ true → client_opens p (no_client p) (short_records p c ++ rest) ≡ true
    short_file_opens c w rest plain_ open_ = on (has_begun c) refl
      where
        tail_ : List ClientRecord
        tail_ = ident_records c.ident ++ rest

        files : Bool → List ClientRecord
        files t = id_records c.id ++ (form_records c.second ++ ((if t then count_records p c else []) ++ (tables_records c.subset ++ ((if t then state_records p c else []) ++ ident_records c.ident))))

        full_case : has_begun c ≡ true → client_opens p (no_client p) (id_records c.id ++ (form_records c.second ++ (count_records p c ++ (tables_records c.subset ++ (state_records p c ++ (ident_records c.ident ++ rest)))))) ≡ true
        full_case e =
            let more : List ClientRecord = ident_records c.ident ++ rest in
            let parts : List ClientRecord = parts_of (p.build c.objects) in
            let n : ℕ = length c.unsent in
            let left : Client I S = record c { parts = p.build c.objects; floor = Some c.cursor; front = None; made = blanks 1 (taken c) ++ map (λ u. u.original) c.unsent } in
            let alike : Alike c left = subst (λ b. Alike c (if b then left else c)) e (shrunk_alike p c w.keeps) in
            let calm_short : is_growing left ≡ false = floored (not (is_empty (p.build c.objects))) in
            let e1 : client_opens p left (rest) ≡ true = behind_alike rest plain_ c left alike w.calm calm_short ∙ open_ in
            let e2 : client_opens p (record left { ident = 0 }) more ≡ true = ident_opens c.ident (record left { ident = 0 }) (rest) w.born calm_short refl e1 in
            let d0 : Client I S = record (no_client p) { id = c.id; second = c.second; subset = c.subset; front = Some n; made = blanks 1 (taken c) } in
            let d : Client I S = record d0 { made = blanks 1 (taken c) ++ map (λ u. u.original) c.unsent; unsent = c.unsent } in
            let e3 : client_opens p (record d { front = Some 0 }) (parts ++ Floor c.cursor ∷ more) ≡ true = parts_open c.cursor c.objects w.fits w.bounded (p.build c.objects) [] refl (built.small c.objects w.fits w.bounded) d w.behind more e2 in
            let follow : Follow (length d0.made) c.unsent = subst (λ k. Follow k c.unsent) (sym (length_blanks I 1 (taken c))) w.follow in
            let e4 : client_opens p d0 (map (waits p) c.unsent ++ (parts ++ Floor c.cursor ∷ more)) ≡ true = waits_open c.unsent w.lists d0 follow (parts ++ Floor c.cursor ∷ more) (some_floor (p.build c.objects) more) e3 in
            let same : state_records p c ++ more ≡ map (waits p) c.unsent ++ (parts ++ Floor c.cursor ∷ more) = append_assoc (map (waits p) c.unsent) (parts ++ Floor c.cursor ∷ []) more ∙ ap (λ l. map (waits p) c.unsent ++ l) (append_assoc parts (Floor c.cursor ∷ []) more) in
            let e5 : client_opens p d0 (state_records p c ++ more) ≡ true = ap (client_opens p d0) same ∙ e4 in
            let some : is_empty (state_records p c ++ more) ≡ false = ap is_empty same ∙ some_waits c.unsent (p.build c.objects) more in
            let e6 : client_opens p (record d0 { subset = None }) (tables_records c.subset ++ (state_records p c ++ more)) ≡ true = tables_open n c.subset (record d0 { subset = None }) (state_records p c ++ more) refl refl refl refl refl some e5 in
            let few : nat_le (taken c + length c.unsent) p.full ≡ true = le-leb (taken c + length c.unsent) p.full (let a = w.keeps in let b = w.small in omega arith) in
            let ahead = map (λ (q : ClientRecord). Some q) (tables_records c.subset ++ (state_records p c ++ more)) in
            let e7 : client_opens p (record (no_client p) { id = c.id; second = c.second }) (count_records p c ++ (tables_records c.subset ++ (state_records p c ++ more))) ≡ true =
            join ((is_there c.id && true) && (true && (not (is_empty ahead) && nat_le (taken c + length c.unsent) p.full))) _
            (join (is_there c.id && true) _ (join (is_there c.id) true w.born refl) (join (not (is_empty ahead)) _ (some_tables c.subset (state_records p c ++ more) some) few))
            e6 in
            id_opens c.id (form_records c.second ++ (count_records p c ++ (tables_records c.subset ++ (state_records p c ++ more)))) w.born
            (form_opens c.second c.id (count_records p c ++ (tables_records c.subset ++ (state_records p c ++ more))) w.born e7)
          where
            floored : (b : Bool) → (b && not true) ≡ false
            floored true = refl
            floored false = refl

            some_floor : (ps : List (List I)) (more : List ClientRecord) → is_empty (parts_of ps ++ Floor c.cursor ∷ more) ≡ false
            some_floor [] more = refl
            some_floor (x ∷ ps) more = refl

            some_waits : (us : List (Unsent I)) (ps : List (List I)) (more : List ClientRecord) → is_empty (map (waits p) us ++ (parts_of ps ++ Floor c.cursor ∷ more)) ≡ false
            some_waits [] [] more = refl
            some_waits [] (x ∷ ps) more = refl
            some_waits (u ∷ us) ps more = refl

            some_tables : (o : Option Tables) (rs : List ClientRecord) → is_empty rs ≡ false → not (is_empty (map (λ (q : ClientRecord). Some q) (tables_records o ++ rs))) ≡ true
            some_tables (Some t) rs e = refl
            some_tables None [] e = cc
            some_tables None (r ∷ rs) e = refl

        fresh_case : has_begun c ≡ false → client_opens p (no_client p) (id_records c.id ++ (form_records c.second ++ (tables_records c.subset ++ (ident_records c.ident ++ rest)))) ≡ true
        fresh_case e =
            let f = w.fresh e in
            let more : List ClientRecord = ident_records c.ident ++ rest in
            let d : Client I S = record (no_client p) { id = c.id; second = c.second; subset = c.subset } in
            let same : record d { ident = c.ident } ≡ c = λ i. record c { parts = sym f.parts i; floor = sym f.floor i; front = sym f.front i; cursor = sym f.cursor i; made = sym f.made i; unsent = sym f.unsent i; objects = sym f.objects i } in
            let e1 : client_opens p c (rest) ≡ true = behind_alike rest plain_ c c (alike_refl c) w.calm w.calm ∙ open_ in
            let e2 : client_opens p d more ≡ true = ident_opens c.ident d (rest) w.born refl refl (ap (λ z. client_opens p z (rest)) same ∙ e1) in
            id_opens c.id (form_records c.second ++ (tables_records c.subset ++ more)) w.born (form_opens c.second c.id (tables_records c.subset ++ more) w.born (early c.subset more e2))
          where
            early : (o : Option Tables) (more : List ClientRecord) → client_opens p (record (no_client p) { id = c.id; second = c.second; subset = o }) more ≡ true → client_opens p (record (no_client p) { id = c.id; second = c.second }) (tables_records o ++ more) ≡ true
            early None more h = h
            early (Some t) more h = join (is_there c.id && true) _ (join (is_there c.id) true w.born refl) h

        on : (t : Bool) → has_begun c ≡ t → client_opens p (no_client p) ((id_records c.id ++ (form_records c.second ++ ((if t then count_records p c else []) ++ (tables_records c.subset ++ ((if t then state_records p c else []) ++ ident_records c.ident))))) ++ rest) ≡ true
        on true e = ap (client_opens p (no_client p)) (flat (id_records c.id) (form_records c.second) (count_records p c) (tables_records c.subset) (state_records p c) (ident_records c.ident) (rest)) ∙ full_case e
        on false e = ap (client_opens p (no_client p)) (flat (id_records c.id) (form_records c.second) [] (tables_records c.subset) [] (ident_records c.ident) (rest)) ∙ fresh_case e
