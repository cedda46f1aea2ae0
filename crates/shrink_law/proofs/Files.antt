-- A short file gives what is left of its client.
use Rattle.std.proofs.Common.{◌≡◌, ℕ, suc, ◌≤◌, Bool, true, false, ◌&&◌, ◌||◌, not, List, [], ◌∷◌, ◌++◌, Option, Some, None, Result, Ok, Err, refl, sym, ap, ap₂, ◌∙◌, arith, append_assoc, append-nil, if◌then◌else◌, ◌==◌, length, map, eqb-true}
use Rattle.sync_theory.specs.Grid.{rebase, tail}
use Rattle.sync_theory.specs.Changesets.{Changeset}
use Rattle.sync_model.specs.Bytes.{Uuid, Tables}
use Rattle.sync_model.specs.Profile.{Profile, Stuck, Lawful, cross_changesets, is_small}
use Rattle.sync_model.specs.Snapshots.{Buildable, grown}
use Rattle.sync_model.specs.Each.{Each, no_more, and_each}
use Rattle.sync_model.specs.Clients.{Client, ClientRecord, Born, Named, Made, Took, Form, Subset, Part, Floor, Resumed, Waits, blanks, one_less, waits_too, Unsent, changeset_of, has_floor, grown_or, ok_list, crossed, takes_entry, no_client, client_of, after_record, after_records}
use Rattle.sync_model.specs.Files.{client_opens, is_empty}
use Rattle.sync_model.specs.Worlds.{is_there}
use Rattle.sync_model.proofs.Settling.{calm, no_front}
use Rattle.sync_model.proofs.Starting.{grown_build, parts_read}
use Rattle.shrink_law.specs.Short.{has_begun, taken, id_records, form_records, tables_records, ident_records, shrunk, waits, count_records, state_records, short_records}
use Rattle.shrink_law.proofs.Answering.{begun_made, begun_took, suc_not}
use Rattle.shrink_law.proofs.Shrinking.{client_keeps}

-- the changesets of what is unsent are within the limits
abbrev pub Small : {I S : Type 0} → Profile I S → List (Unsent I) → Type 0
Small p us = Each (λ u. (is_small p u.original.instrs ≡ true) × (is_small p u.current ≡ true)) us

-- what is still to come behind these
abbrev pub less_by : {I : Type 0} → Option ℕ → List (Unsent I) → Option ℕ
less_by o [] = o
less_by o (u ∷ us) = less_by (one_less o) us

-- what holds of a client that didn't begin
pub record IsFresh {I S : Type 0} (p : Profile I S) (c : Client I S) : Type 0 where
  pub parts : c.parts ≡ []
  pub floor : c.floor ≡ None
  pub front : c.front ≡ None
  pub cursor : c.cursor ≡ 0
  pub made : c.made ≡ []
  pub unsent : c.unsent ≡ []
  pub objects : c.objects ≡ p.empty

module _ {I S : Type 0} (p : Profile I S) where
  -- a client that has these, and nothing else
  abbrev head_of : Option Uuid → Bool → Option Tables → Client I S
  head_of o b t = record (no_client p) { id = o; second = b; subset = t }

  head_read : (o : Option Uuid) (b : Bool) (ys : List ClientRecord) → after_records p (no_client p) (id_records o ++ (form_records b ++ ys)) ≡ after_records p (head_of o b None) ys
  head_read None true ys = refl
  head_read None false ys = refl
  head_read (Some id) true ys = refl
  head_read (Some id) false ys = refl

  tables_read : (t : Option Tables) (c : Client I S) → c.subset ≡ None → (ys : List ClientRecord) → after_records p c (tables_records t ++ ys) ≡ after_records p (record c { subset = t }) ys
  tables_read None c h ys = λ i. after_records p (record c { subset = h i }) ys
  tables_read (Some t) c h ys = refl

  ident_read : (k : ℕ) (c : Client I S) → c.ident ≡ 0 → after_records p c (ident_records k) ≡ record c { ident = k }
  ident_read k c h = on (k == 0) refl
    where
      on : (b : Bool) → (k == 0) ≡ b → after_records p c (if b then [] else Named k ∷ []) ≡ record c { ident = k }
      on true e = let same : c.ident ≡ k = h ∙ sym (eqb-true k 0 e) in λ i. record c { ident = same i }
      on false e = refl

  module _ {Fits Bounded Old : S → Type 0} (law : Lawful p Fits) (built : Buildable p Fits Bounded Old) where
    waits_read : (us : List (Unsent I)) → Small p us → (c : Client I S) (rest : List ClientRecord) → after_records p c (map (waits p) us ++ rest) ≡ after_records p (record c { front = less_by c.front us; made = c.made ++ map (λ u. u.original) us; unsent = c.unsent ++ us }) rest
    waits_read [] no_more c rest = ap₂ (λ m u. after_records p (record c { made = m; unsent = u }) rest) (sym (append-nil c.made)) (sym (append-nil c.unsent))
    waits_read (u ∷ us) (and_each h f) c rest =
        let first : ok_list (p.unspell (p.spell u.original.instrs)) ≡ u.original.instrs = ap ok_list (law.spelled u.original.instrs h.0) in
        let second : ok_list (p.unspell (p.spell u.current)) ≡ u.current = ap ok_list (law.spelled u.current h.1) in
        (λ i. after_records p (waits_too c (record { original = record { base = u.original.base; number = u.original.number; ms = u.original.ms; instrs = first i }; current = second i })) (map (waits p) us ++ rest))
        ∙ waits_read us f (waits_too c u) rest
        ∙ ap₂ (λ m l. after_records p (record c { front = less_by (one_less c.front) us; made = m; unsent = l }) rest) (append_assoc c.made (u.original ∷ []) (map (λ u. u.original) us)) (append_assoc c.unsent (u ∷ []) us)

    -- what a client's short file gives
    pub short_gives : (c : Client I S) → Fits c.objects → Bounded c.objects → Small p c.unsent → (has_begun c ≡ false → IsFresh p c) → client_of p (short_records p c) ≡ shrunk p c
    short_gives c fit bounded small fresh = on (has_begun c) refl
      where
        state_read : after_records p (head_of c.id c.second None) (count_records p c ++ (tables_records c.subset ++ (state_records p c ++ ident_records c.ident))) ≡ record c { parts = p.build c.objects; floor = Some c.cursor; front = None; made = blanks 1 (taken c) ++ map (λ u. u.original) c.unsent }
        state_read =
            let n : ℕ = length c.unsent in
            let b : Client I S = record (head_of c.id c.second None) { front = Some n; made = blanks 1 (taken c) } in
            let d : Client I S = record b { subset = c.subset } in
            let e : Client I S = record d { front = less_by (Some n) c.unsent; made = blanks 1 (taken c) ++ map (λ u. u.original) c.unsent; unsent = c.unsent } in
            let parts : List ClientRecord = map (λ is. Part (p.spell is)) (p.build c.objects) in
            let grew : grown p (p.build c.objects) ≡ Ok c.objects = grown_build p law built c.objects fit bounded in
            tables_read c.subset b refl (state_records p c ++ ident_records c.ident)
            ∙ ap (after_records p d) (append_assoc (map (waits p) c.unsent) (parts ++ Floor c.cursor ∷ []) (ident_records c.ident))
            ∙ waits_read c.unsent small d ((parts ++ Floor c.cursor ∷ []) ++ ident_records c.ident)
            ∙ ap (after_records p e) (append_assoc parts (Floor c.cursor ∷ []) (ident_records c.ident))
            ∙ parts_read p law built (p.build c.objects) (built.small c.objects fit bounded) e (Floor c.cursor ∷ ident_records c.ident)
            ∙ ap (λ r. after_records p (record e { parts = p.build c.objects; floor = Some c.cursor; front = None; cursor = c.cursor; objects = grown_or p.empty r }) (ident_records c.ident)) grew
            ∙ ident_read c.ident (record e { parts = p.build c.objects; floor = Some c.cursor; front = None; cursor = c.cursor; objects = c.objects }) refl

        on : (t : Bool) → has_begun c ≡ t → client_of p (id_records c.id ++ (form_records c.second ++ ((if t then count_records p c else []) ++ (tables_records c.subset ++ ((if t then state_records p c else []) ++ ident_records c.ident))))) ≡ (if t then record c { parts = p.build c.objects; floor = Some c.cursor; front = None; made = blanks 1 (taken c) ++ map (λ u. u.original) c.unsent } else c)
        on true e = head_read c.id c.second (count_records p c ++ (tables_records c.subset ++ (state_records p c ++ ident_records c.ident))) ∙ state_read
        on false e =
            let f = fresh e in
            head_read c.id c.second (tables_records c.subset ++ ident_records c.ident)
            ∙ tables_read c.subset (head_of c.id c.second None) refl (ident_records c.ident)
            ∙ ident_read c.ident (head_of c.id c.second c.subset) refl
            ∙ (λ i. record c { parts = sym f.parts i; floor = sym f.floor i; front = sym f.front i; cursor = sym f.cursor i; made = sym f.made i; unsent = sym f.unsent i; objects = sym f.objects i })

  -- ---- a client that didn't begin

  or_false : (a b : Bool) → (a || b) ≡ false → (a ≡ false) × (b ≡ false)
  or_false true b e = cc
  or_false false b e = (refl, e)

  never : (b : Bool) → b ≡ true → b ≡ false → ⊥
  never true e f = cc
  never false e f = cc

  or_all : (a b d : Bool) → a ≡ false → b ≡ false → d ≡ false → (a || (b || d)) ≡ false
  or_all false b d e f g = or_both b d f g
    where
      or_both : (b d : Bool) → b ≡ false → d ≡ false → (b || d) ≡ false
      or_both false d f g = g
      or_both true d f g = f
  or_all true b d e f g = e

  none_before : {A : Type 0} (xs ys : List A) → not (length (xs ++ ys) == 0) ≡ false → not (length xs == 0) ≡ false
  none_before [] ys e = refl
  none_before (x ∷ xs) ys e = absurd (never (not (length (x ∷ (xs ++ ys)) == 0)) (suc_not (length (xs ++ ys))) e)

  -- what stands in the front alone changes no objects
  abbrev Still : Client I S → Type 0
  Still c = has_begun c ≡ false → c.objects ≡ p.empty

  took_begun : (c : Client I S) (x : Changeset I) → has_begun (takes_entry p c x) ≡ true
  took_begun c x = go (x.origin == c.ident) (rebase (cross_changesets p) (map (changeset_of c.ident) c.unsent) x)
    where
      on : (r : Result (List (Changeset I) × Changeset I) (ℕ × Stuck)) → has_begun (crossed p c r) ≡ true
      on (Ok q) = begun_took p c
      on (Err f) = begun_took p c

      go : (b : Bool) (r : Result (List (Changeset I) × Changeset I) (ℕ × Stuck)) → has_begun (if b then record c { cursor = suc c.cursor; unsent = tail c.unsent } else crossed p c r) ≡ true
      go true r = begun_took p c
      go false r = on r

  one_still : (c : Client I S) (r : ClientRecord) → Still c → Still (after_record p c r)
  one_still c (Born id) h = h
  one_still c (Named ident) h = h
  one_still c (Made number ms body) h = λ e. absurd (never _ (begun_made p c (record { base = c.cursor; number = number; ms = ms; instrs = ok_list (p.unspell body) })) e)
  one_still c (Took origin number ms body) h = λ e. absurd (never _ (took_begun c (record { origin = origin; number = number; ms = ms; instrs = ok_list (p.unspell body) })) e)
  one_still c Form h = h
  one_still c (Subset tables) h = h
  one_still c (Part body) h = h
  one_still c (Floor version) h = λ e. cc
  one_still c (Resumed number waiting) h = λ e. h (none_more e)
    where
      none_more : has_begun (after_record p c (Resumed number waiting)) ≡ false → has_begun c ≡ false
      none_more e =
          let a = or_false (has_floor c.floor) (not (length (c.made ++ blanks {I = I} (suc (length c.made)) number) == 0) || not (c.cursor == 0)) e in
          let b = or_false (not (length (c.made ++ blanks {I = I} (suc (length c.made)) number) == 0)) (not (c.cursor == 0)) a.1 in
          or_all (has_floor c.floor) (not (length c.made == 0)) (not (c.cursor == 0)) a.0 (none_before c.made (blanks (suc (length c.made)) number) b.0) b.1
  one_still c (Waits number base ms body current) h = λ e. absurd (never _ (begun_made p c (record { base = base; number = number; ms = ms; instrs = ok_list (p.unspell body) })) e)

  all_still : (rs : List ClientRecord) (c : Client I S) → Still c → Still (after_records p c rs)
  all_still [] c h = h
  all_still (r ∷ rs) c h = all_still rs (after_record p c r) (one_still c r h)

  none_made : {A : Type 0} (xs : List A) → not (length xs == 0) ≡ false → xs ≡ []
  none_made [] e = refl
  none_made (x ∷ xs) e = absurd (never (not (length (x ∷ xs) == 0)) (suc_not (length xs)) e)

  no_unsent : {A B : Type 0} (us : List A) (ms : List B) → length us ≤ length ms → ms ≡ [] → us ≡ []
  no_unsent [] ms h e = refl
  no_unsent (u ∷ us) ms h e = let l : length ms ≡ 0 = ap length e in absurd (omega (arith, h, l))

  pub fresh : (rs : List ClientRecord) → client_opens p (no_client p) rs ≡ true → has_begun (client_of p rs) ≡ false → IsFresh p (client_of p rs)
  fresh rs open_ e =
      let c = client_of p rs in
      let a = or_false (has_floor c.floor) (not (length c.made == 0) || not (c.cursor == 0)) e in
      let b = or_false (not (length c.made == 0)) (not (c.cursor == 0)) a.1 in
      let floorless = no_floor c.floor a.0 in
      let none = none_made c.made b.0 in
      record {
        parts = no_parts c.parts c.floor floorless (or_false (is_there c.front) _ (calm p rs open_)).1;
        floor = floorless;
        front = no_front c (calm p rs open_);
        cursor = eqb-true c.cursor 0 (not_not (c.cursor == 0) b.1);
        made = none;
        unsent = no_unsent c.unsent c.made (client_keeps p rs) none;
        objects = all_still rs (no_client p) (λ z. refl) e;
      }
    where
      no_floor : (o : Option ℕ) → has_floor o ≡ false → o ≡ None
      no_floor None h = refl
      no_floor (Some v) h = cc

      not_not : (t : Bool) → not t ≡ false → t ≡ true
      not_not true h = refl
      not_not false h = cc

      no_parts : (ps : List (List I)) (o : Option ℕ) → o ≡ None → (not (is_empty ps) && not (is_there o)) ≡ false → ps ≡ []
      no_parts [] o h g = refl
      no_parts (x ∷ ps) None h g = cc
      no_parts (x ∷ ps) (Some v) h g = cc
