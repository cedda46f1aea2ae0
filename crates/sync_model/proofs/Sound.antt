-- What a server keeps, as opening it again wants it: the walks over its entries, form 2, and a uuid that gets an ident.
use Rattle.std.proofs.Common.{◌≡◌, ◌≢◌, ℕ, zero, suc, ◌+◌, ◌-◌, ◌<◌, ◌≤◌, Bool, true, false, ◌&&◌, not, List, [], ◌∷◌, ◌++◌, Option, Some, None, Result, Ok, Err, refl, sym, ap, ◌∙◌, subst, arith, if◌then◌else◌, ◌==◌, length, drop, map, nat_le, nat_lt, max, sum_by, le_refl}
use Rattle.std.proofs.lemmas.Bool.{ltb-false, le-leb, leb-true}
use Rattle.std.proofs.lemmas.List.Sums.{sum_by-cons, sum_by-append}
use Rattle.sync_theory.specs.Changesets.{Changeset}
use Rattle.sync_theory.proofs.Server.{test_true, test_false}
use Rattle.sync_theory.proofs.World.{put_if, put_unless}
use Rattle.sync_model.specs.Bytes.{Uuid}
use Rattle.sync_model.specs.Profile.{Profile, needs}
use Rattle.sync_model.specs.Servers.{heir_of, is_retired, place_of}
use Rattle.sync_model.specs.Parts.{Given, Parts, Merged, at_ident, with_versions, settled, longer_list, extended, given_up, idents_retired, retired_for, idents_after, integrated, bound, marked}
use Rattle.sync_model.specs.Files.{readable}
use Rattle.sync_model.specs.Each.{Each, no_more, and_each}
use Rattle.sync_model.specs.Worlds.{at}
use Rattle.sync_model.specs.Trims.{pairs_from, is_live, Spans}
use Rattle.sync_model.specs.Fronts.{Kept, further_on, walk, walk_on, uuid_step, is_among, retired_step, last_of, follows, is_last, all_end, Grows, numbers_on, entry_read, entry_step}
use Rattle.sync_model.proofs.Whole.{Writable, Tracks, no_pairs, own_entry, other_entry, bare, kept_of, AllHeirs, no_heirs, one_heir}
use Rattle.sync_model.proofs.Limits.{each_append, both}
use Rattle.sync_model.proofs.Lists.{at_map, heir_new, heir_other}
use Rattle.sync_model.proofs.Alike.{not_below}
use Rattle.sync_model.proofs.Trims.{drop_length_is}

-- ---- lists

pub join : (a b : Bool) → a ≡ true → b ≡ true → (a && b) ≡ true
join true b e f = f
join false b e f = e

pub each_weak : {X : Type 0} {P Q : X → Type 0} → ((x : X) → P x → Q x) → {xs : List X} → Each P xs → Each Q xs
each_weak go no_more = no_more
each_weak go (and_each {x = x} h f) = and_each (go x h) (each_weak go f)

pub walk_then : {A B : Type 0} (step : B → A → Option B) (b c d : B) (xs : List A) (x : A) → walk step b xs ≡ Ok c → step c x ≡ Some d → walk step b (xs ++ x ∷ []) ≡ Ok d
walk_then step b c d [] x e f = let same : b ≡ c = cc in ap (λ o. walk_on o (λ z. further_on (Ok z))) (ap (λ z. step z x) same ∙ f)
walk_then {A} {B} step b c d (y ∷ xs) x e f = on (step b y) refl e (λ z g. walk_then step z c d xs x g f)
  where
    on : (o : Option B) → step b y ≡ o → walk_on o (λ z. further_on (walk step z xs)) ≡ Ok c → ((z : B) → walk step z xs ≡ Ok c → walk step z (xs ++ x ∷ []) ≡ Ok d) → walk_on (step b y) (λ z. further_on (walk step z (xs ++ x ∷ []))) ≡ Ok d
    on None o_is g rec = cc
    on (Some z) o_is g rec = ap (λ o. walk_on o (λ z. further_on (walk step z (xs ++ x ∷ [])))) o_is ∙ ap further_on (rec z (inner (walk step z xs) g))
      where
        inner : {C : Type 0} {c : C} (r : Result C ℕ) → further_on r ≡ Ok c → r ≡ Ok c
        inner (Ok a) h = h
        inner (Err n) h = cc

-- ---- idents by their counts

-- each ident of the first is one of the second, with at least as many changes
unfoldable pub Counts : {I : Type 0} → List (Given I) → List (Given I) → Type 0
Counts {I} as_ bs = (c : ℕ) (g : Given I) → at_ident c as_ ≡ Some g → (h : Given I) × (at_ident c bs ≡ Some h) × (g.count ≤ h.count)

pub at_place : {I : Type 0} (c : ℕ) (gs : List (Given I)) (g : Given I) → at_ident c gs ≡ Some g → (c ≢ 0) × (c ≤ length gs)
at_place zero gs g e = cc
at_place (suc j) gs g e = (λ z. omega arith, within gs j e)
  where
    within : {X : Type 0} {x : X} (xs : List X) (j : ℕ) → at xs j ≡ Some x → suc j ≤ length xs
    within [] j e = cc
    within (y ∷ xs) zero e = omega arith
    within (y ∷ xs) (suc j) e = let h = within xs j e in omega arith

module _ {I S : Type 0} (p : Profile I S) where
  -- ---- the walk over entries goes on under more counts and in form 2

  pub numbers_more : (as_ bs : List (Given I)) → Counts as_ bs → (xs : List (Changeset I)) (e : Kept) → numbers_on xs e (at_ident e.origin as_) ≡ true → numbers_on xs e (at_ident e.origin bs) ≡ true
  unfolding Counts
  numbers_more as_ bs more xs e h = on (at_ident e.origin as_) refl h
    where
      on : (o : Option (Given I)) → at_ident e.origin as_ ≡ o → numbers_on xs e o ≡ true → numbers_on xs e (at_ident e.origin bs) ≡ true
      on None is f = cc
      on (Some g) is f =
          let m = more e.origin g is in
          let a = both (nat_le 1 e.number && nat_le e.number g.count) (follows (last_of e.origin xs None) e.number) f in
          let b = both (nat_le 1 e.number) (nat_le e.number g.count) a.0 in
          let n = leb-true e.number g.count b.1 in
          let k = m.2 in
          ap (numbers_on xs e) m.1 ∙ join (nat_le 1 e.number && nat_le e.number m.0.count) (follows (last_of e.origin xs None) e.number) (join (nat_le 1 e.number) (nat_le e.number m.0.count) b.0 (le-leb e.number m.0.count (omega arith))) a.1

  -- what is allowed in form 1 is allowed in form 2
  abbrev pub Rises : Bool → Bool → Type 0
  Rises a b = a ≡ true → b ≡ true

  pub readable_more : (a b : Bool) → Rises a b → (r : Result (List I) (ℕ × ℕ)) (is : List I) → readable p a r ≡ Some is → readable p b r ≡ Some is
  readable_more a b up (Err f) is e = cc
  readable_more a b up (Ok js) is e = on (needs p js) a b up e
    where
      on : (n a b : Bool) → Rises a b → (if n && not a then None else Some js) ≡ Some is → (if n && not b then None else Some js) ≡ Some is
      on false a b up e = e
      on true true true up e = e
      on true true false up e = let f = up refl in cc
      on true false b up e = cc

  pub writable_more : (a b : Bool) → Rises a b → {is : List I} → Writable p a is → Writable p b is
  writable_more a b up {is} w = record { small = w.small; allowed = readable_more a b up (Ok is) is w.allowed }

  pub step_more : (a b : Bool) → Rises a b → (as_ bs : List (Given I)) → Counts as_ bs → (st : Grows I S) (e : Kept) (z : Grows I S) → entry_step p a as_ st e ≡ Some z → entry_step p b bs st e ≡ Some z
  step_more a b up as_ bs more st e z h = on (numbers_on st.entries e (at_ident e.origin as_)) refl h
    where
      read : (o : Option (List I)) → readable p a (p.unspell e.body) ≡ o → entry_read p st e o ≡ Some z → entry_read p st e (readable p b (p.unspell e.body)) ≡ Some z
      read None is f = cc
      read (Some js) is f = ap (entry_read p st e) (readable_more a b up (p.unspell e.body) js is) ∙ f

      on : (t : Bool) → numbers_on st.entries e (at_ident e.origin as_) ≡ t → (if t then entry_read p st e (readable p a (p.unspell e.body)) else None) ≡ Some z → entry_step p b bs st e ≡ Some z
      on true is f = put_if (numbers_on st.entries e (at_ident e.origin bs)) (entry_read p st e (readable p b (p.unspell e.body))) None (numbers_more as_ bs more st.entries e is) ∙ read (readable p a (p.unspell e.body)) refl f
      on false is f = cc

  pub walk_more : (a b : Bool) → Rises a b → (as_ bs : List (Given I)) → Counts as_ bs → (es : List Kept) (st z : Grows I S) → walk (entry_step p a as_) st es ≡ Ok z → walk (entry_step p b bs) st es ≡ Ok z
  walk_more a b up as_ bs more [] st z h = h
  walk_more a b up as_ bs more (e ∷ es) st z h = on (entry_step p a as_ st e) refl h (λ y g. walk_more a b up as_ bs more es y z g)
    where
      inner : {C : Type 0} {c : C} (r : Result C ℕ) → further_on r ≡ Ok c → r ≡ Ok c
      inner (Ok a) h = h
      inner (Err n) h = cc

      on : (o : Option (Grows I S)) → entry_step p a as_ st e ≡ o → walk_on o (λ y. further_on (walk (entry_step p a as_) y es)) ≡ Ok z → ((y : Grows I S) → walk (entry_step p a as_) y es ≡ Ok z → walk (entry_step p b bs) y es ≡ Ok z) → walk_on (entry_step p b bs st e) (λ y. further_on (walk (entry_step p b bs) y es)) ≡ Ok z
      on None is g rec = cc
      on (Some y) is g rec = ap (λ o. walk_on o (λ y. further_on (walk (entry_step p b bs) y es))) (step_more a b up as_ bs more st e y is) ∙ ap further_on (rec y (inner (walk (entry_step p a as_) y es) g))

  -- ---- what an ident's changes crossed

  pub tracks_more : (a b : Bool) → Rises a b → {c k : ℕ} {xs : List (Changeset I)} {qs : List (ℕ × Changeset I)} → Tracks p a c k xs qs → Tracks p b c k xs qs
  tracks_more a b up no_pairs = no_pairs
  tracks_more a b up (own_entry o t) = own_entry o (tracks_more a b up t)
  tracks_more a b up (other_entry o w v t) = other_entry o (writable_more a b up w) (writable_more a b up v) (tracks_more a b up t)

  -- one entry more, of the ident or of another
  pub tracks_own : {second : Bool} {c k : ℕ} {xs : List (Changeset I)} {qs : List (ℕ × Changeset I)} (x : Changeset I) → Tracks p second c k xs qs → x.origin ≡ c → Tracks p second c k (xs ++ x ∷ []) qs
  tracks_own x no_pairs e = own_entry e no_pairs
  tracks_own x (own_entry o t) e = own_entry o (tracks_own x t e)
  tracks_own x (other_entry o w v t) e = other_entry o w v (tracks_own x t e)

  pub tracks_other : {second : Bool} {c k n : ℕ} {xs : List (Changeset I)} {qs : List (ℕ × Changeset I)} (x : Changeset I) → Tracks p second c k xs qs → x.origin ≢ c → Writable p second x.instrs → k + length xs ≡ n → Tracks p second c k (xs ++ x ∷ []) (qs ++ (n, x) ∷ [])
  tracks_other {second} {c} {k} {n} x no_pairs ne w e = let z : k ≡ n = omega arith in subst (λ j. Tracks p second c k (x ∷ []) ((j, x) ∷ [])) z (other_entry ne w w no_pairs)
  tracks_other x (own_entry o t) ne w e = own_entry o (tracks_other x t ne w (omega arith))
  tracks_other x (other_entry o u v t) ne w e = other_entry o u v (tracks_other x t ne w (omega arith))

  -- all entries are others'
  pub tracks_all : (second : Bool) (c k : ℕ) {xs : List (Changeset I)} → Each (λ (x : Changeset I). x.origin ≢ c) xs → Each (λ (x : Changeset I). Writable p second x.instrs) xs → Tracks p second c k xs (with_versions k xs)
  tracks_all second c k no_more no_more = no_pairs
  tracks_all second c k (and_each ne f) (and_each w g) = other_entry ne w w (tracks_all second c (suc k) f g)

  -- from a later version on
  pub tracks_cut : {second : Bool} {c : ℕ} (m d : ℕ) {k : ℕ} {xs : List (Changeset I)} {qs : List (ℕ × Changeset I)} → Tracks p second c k xs qs → k + d ≡ m → Tracks p second c m (drop d xs) (pairs_from m qs)
  tracks_cut {second} {c} m zero {k} {xs} {qs} t e = let z : k ≡ m = omega arith in subst (λ j. Tracks p second c j xs (pairs_from j qs)) z (subst (λ l. Tracks p second c k xs l) (sym (high t (le_refl k))) t)
    where
      high : {j : ℕ} {ys : List (Changeset I)} {rs : List (ℕ × Changeset I)} → Tracks p second c j ys rs → k ≤ j → pairs_from k rs ≡ rs
      high no_pairs h = refl
      high (own_entry o t) h = high t (omega arith)
      high {j = j} (other_entry {x = x} {is = is} {qs = rs} o w v t) h = put_unless (nat_lt j k) (pairs_from k rs) ((j, record x { instrs = is }) ∷ pairs_from k rs) (not_below j k h) ∙ ap (λ l. (j, record x { instrs = is }) ∷ l) (high t (omega arith))
  tracks_cut m (suc d) no_pairs e = no_pairs
  tracks_cut m (suc d) (own_entry o t) e = tracks_cut m d t (omega arith)
  tracks_cut {second} {c} m (suc d) {k} (other_entry {x = x} {is = is} {xs = xs} {qs = qs} o w v t) e = subst (λ l. Tracks p second c m (drop d xs) l) (sym (put_if (nat_lt k m) (pairs_from m qs) ((k, record x { instrs = is }) ∷ pairs_from m qs) (Rattle.std.proofs.lemmas.Bool.lt-ltb k m (omega arith)))) (tracks_cut m d t (omega arith))

  -- of an ident of which all pairs from a version on are kept
  abbrev pub Cut : Bool → ℕ → List (Changeset I) → ℕ → Given I → Type 0
  Cut second floor xs c g = Tracks p second c (max floor g.last) (drop (max floor g.last - floor) xs) (pairs_from (max floor g.last) g.reciprocal)

  -- of a retired ident none are
  pub data OneCut (second : Bool) (floor : ℕ) (xs : List (Changeset I)) (c : ℕ) (g : Given I) : Type 0 where
    live_cut : is_live g ≡ true → Cut second floor xs c g → OneCut second floor xs c g
    dead_cut : is_live g ≡ false → g.reciprocal ≡ [] → OneCut second floor xs c g

  pub the_cut : {second : Bool} {floor : ℕ} {xs : List (Changeset I)} {c : ℕ} {g : Given I} → is_live g ≡ true → OneCut second floor xs c g → Cut second floor xs c g
  the_cut live (live_cut l t) = t
  the_cut {g = g} live (dead_cut d e) = absurd (never live d)
    where
      never : {b : Bool} → b ≡ true → b ≡ false → ⊥
      never h k = cc

  pub data AllCut (second : Bool) (floor : ℕ) (xs : List (Changeset I)) : ℕ → List (Given I) → Type 0 where
    none_cut : {c : ℕ} → AllCut second floor xs c []
    one_cut : {c : ℕ} {g : Given I} {gs : List (Given I)} → OneCut second floor xs c g → AllCut second floor xs (suc c) gs → AllCut second floor xs c (g ∷ gs)

  pub record Sound (kept : Parts I S) : Type 0 where
    pub spans : Spans kept
    pub uuids : walk uuid_step [] (map (λ g. g.uuid) kept.idents) ≡ Ok (map (λ g. g.uuid) kept.idents)
    pub retired : walk (retired_step (length kept.idents)) [] kept.retired ≡ Ok kept.retired
    pub heirs : AllHeirs kept.retired 1 kept.idents
    pub sum : sum_by (λ g. g.count) kept.idents ≡ kept.len
    pub full : kept.len ≤ p.full
    pub lasts : Each (λ (g : Given I). g.last ≤ kept.len) kept.idents
    pub entries : walk (entry_step p kept.second (map bare kept.idents)) (record { objects = kept.below; entries = []; bases = [] }) (kept_of p kept.entries kept.bases) ≡ Ok (record { objects = kept.objects; entries = kept.entries; bases = kept.bases })
    pub ends : all_end 1 kept.entries (map bare kept.idents) ≡ true
    pub lists : Each (λ (x : Changeset I). Writable p kept.second x.instrs) kept.entries
    pub given : Each (λ (x : Changeset I). (x.origin ≢ 0) × (x.origin ≤ length kept.idents)) kept.entries
    pub tracks : AllCut kept.second kept.floor kept.entries 1 kept.idents

  -- ---- nothing yet

  pub sound_first : Sound (Rattle.sync_model.specs.Parts.no_parts p)
  sound_first = record {
    spans = record { reach = refl; bases = refl; marks = no_more };
    uuids = refl;
    retired = refl;
    heirs = no_heirs;
    sum = refl;
    full = omega arith;
    lasts = no_more;
    entries = refl;
    ends = refl;
    lists = no_more;
    given = no_more;
    tracks = none_cut;
  }

  -- ---- idents that differ in their settled numbers alone

  pub data SameBut : List (Given I) → List (Given I) → Type 0 where
    none_same : SameBut [] []
    one_same : {a : Given I} {n : ℕ} {as_ bs : List (Given I)} → SameBut as_ bs → SameBut (a ∷ as_) (record a { mark = n } ∷ bs)

  pub but_uuids : {as_ bs : List (Given I)} → SameBut as_ bs → map (λ g. g.uuid) bs ≡ map (λ g. g.uuid) as_
  but_uuids none_same = refl
  but_uuids (one_same {a = a} r) = ap (λ l. a.uuid ∷ l) (but_uuids r)

  pub but_sum : {as_ bs : List (Given I)} → SameBut as_ bs → sum_by (λ g. g.count) bs ≡ sum_by (λ g. g.count) as_
  but_sum none_same = refl
  but_sum (one_same {a = a} {n = n} {as_ = as_} {bs = bs} r) = sum_by-cons (λ (g : Given I). g.count) (record a { mark = n }) bs ∙ ap (λ k. a.count + k) (but_sum r) ∙ sym (sum_by-cons (λ (g : Given I). g.count) a as_)

  pub but_length : {as_ bs : List (Given I)} → SameBut as_ bs → length bs ≡ length as_
  but_length none_same = refl
  but_length (one_same r) = ap suc (but_length r)

  pub but_lasts : (top : ℕ) {as_ bs : List (Given I)} → SameBut as_ bs → Each (λ (g : Given I). g.last ≤ top) as_ → Each (λ (g : Given I). g.last ≤ top) bs
  but_lasts top none_same no_more = no_more
  but_lasts top (one_same r) (and_each h f) = and_each h (but_lasts top r f)

  pub but_at : {as_ bs : List (Given I)} → SameBut as_ bs → (j : ℕ) (g : Given I) → at (map bare as_) j ≡ Some g → (h : Given I) × (at (map bare bs) j ≡ Some h) × (g.count ≤ h.count)
  but_at none_same j g e = cc
  but_at (one_same {a = a} {n = n} r) zero g e = let same : bare a ≡ g = cc in (bare (record a { mark = n }), refl, subst (λ z. z.count ≤ a.count) same (le_refl a.count))
  but_at (one_same r) (suc j) g e = but_at r j g e

  pub but_counts : {as_ bs : List (Given I)} → SameBut as_ bs → Counts (map bare as_) (map bare bs)
  unfolding Counts
  but_counts r zero g e = cc
  but_counts r (suc j) g e = but_at r j g e

  pub but_ends : (c : ℕ) (xs : List (Changeset I)) {as_ bs : List (Given I)} → SameBut as_ bs → all_end c xs (map bare bs) ≡ all_end c xs (map bare as_)
  but_ends c xs none_same = refl
  but_ends c xs (one_same {a = a} r) = ap (λ b. is_last (last_of c xs None) a.count && b) (but_ends (suc c) xs r)

  pub but_tracks : {second : Bool} {floor : ℕ} {xs : List (Changeset I)} {as_ bs : List (Given I)} → SameBut as_ bs → {c : ℕ} → AllCut second floor xs c as_ → AllCut second floor xs c bs
  but_tracks none_same none_cut = none_cut
  but_tracks (one_same r) (one_cut (live_cut l t) ts) = one_cut (live_cut l t) (but_tracks r ts)
  but_tracks (one_same r) (one_cut (dead_cut d e) ts) = one_cut (dead_cut d e) (but_tracks r ts)

  pub but_heirs : (qs : List (ℕ × ℕ)) (c : ℕ) {as_ bs : List (Given I)} → SameBut as_ bs → AllHeirs qs c as_ → AllHeirs qs c bs
  but_heirs qs c none_same no_heirs = no_heirs
  but_heirs qs c (one_same r) (one_heir h hs) = one_heir h (but_heirs qs (suc c) r hs)

  pub marked_but : (c n k : ℕ) (gs : List (Given I)) → SameBut gs (marked c n k gs)
  marked_but c n k [] = none_same
  marked_but c n k (g ∷ gs) = on (k == c) (marked_but c n (suc k) gs)
    where
      on : (b : Bool) → SameBut gs (marked c n (suc k) gs) → SameBut (g ∷ gs) ((if b then record g { mark = n } else g) ∷ marked c n (suc k) gs)
      on true r = one_same r
      on false r = one_same {n = g.mark} r

  pub sound_marked : (kept : Parts I S) → Sound kept → (c n : ℕ) → n ≤ kept.len → Sound (record kept { idents = marked c n 1 kept.idents })
  sound_marked kept s c n le =
      let r = marked_but c n 1 kept.idents in
      record {
        spans = Rattle.sync_model.proofs.Trims.mark_spans p kept s.spans c n le;
        uuids = subst (λ us. walk uuid_step [] us ≡ Ok us) (sym (but_uuids r)) s.uuids;
        retired = ap (λ n. walk (retired_step n) [] kept.retired) (but_length r) ∙ s.retired;
        heirs = but_heirs kept.retired 1 r s.heirs;
        sum = but_sum r ∙ s.sum;
        full = s.full;
        lasts = but_lasts kept.len r s.lasts;
        entries = walk_more kept.second kept.second (λ e. e) (map bare kept.idents) (map bare (marked c n 1 kept.idents)) (but_counts r) (kept_of p kept.entries kept.bases) (record { objects = kept.below; entries = []; bases = [] }) (record { objects = kept.objects; entries = kept.entries; bases = kept.bases }) s.entries;
        ends = but_ends 1 kept.entries r ∙ s.ends;
        lists = s.lists;
        given = subst (λ k. Each (λ (x : Changeset I). (x.origin ≢ 0) × (x.origin ≤ k)) kept.entries) (sym (but_length r)) s.given;
        tracks = but_tracks r s.tracks;
      }

  -- ---- form 2

  pub all_more : (a b : Bool) → Rises a b → {floor : ℕ} {xs : List (Changeset I)} {c : ℕ} {gs : List (Given I)} → AllCut a floor xs c gs → AllCut b floor xs c gs
  all_more a b up none_cut = none_cut
  all_more a b up (one_cut (live_cut l t) ts) = one_cut (live_cut l (tracks_more a b up t)) (all_more a b up ts)
  all_more a b up (one_cut (dead_cut d e) ts) = one_cut (dead_cut d e) (all_more a b up ts)

  pub same_counts : (gs : List (Given I)) → Counts gs gs
  unfolding Counts
  same_counts gs c g e = (g, e, le_refl g.count)

  pub sound_form : (kept : Parts I S) → Sound kept → Sound (record kept { second = true })
  sound_form kept s = record {
    spans = record { reach = s.spans.reach; bases = s.spans.bases; marks = s.spans.marks };
    uuids = s.uuids;
    retired = s.retired;
    heirs = s.heirs;
    sum = s.sum;
    full = s.full;
    lasts = s.lasts;
    entries = walk_more kept.second true (λ e. refl) (map bare kept.idents) (map bare kept.idents) (same_counts (map bare kept.idents)) (kept_of p kept.entries kept.bases) (record { objects = kept.below; entries = []; bases = [] }) (record { objects = kept.objects; entries = kept.entries; bases = kept.bases }) s.entries;
    ends = s.ends;
    lists = each_weak (λ x w. writable_more kept.second true (λ e. refl) w) s.lists;
    given = s.given;
    tracks = all_more kept.second true (λ e. refl) s.tracks;
  }

  -- ---- a uuid gets the next ident

  pub more_at : (as_ bs : List (Given I)) (j : ℕ) (g : Given I) → at as_ j ≡ Some g → at (as_ ++ bs) j ≡ Some g
  more_at as_ bs j g e = Rattle.sync_model.proofs.Lists.at_snoc_old as_ bs j g e

  pub more_counts : (as_ bs : List (Given I)) → Counts as_ (as_ ++ bs)
  unfolding Counts
  more_counts as_ bs zero g e = cc
  more_counts as_ bs (suc j) g e = (g, more_at as_ bs j g e, le_refl g.count)

  pub none_last : (c : ℕ) {xs : List (Changeset I)} → Each (λ (x : Changeset I). x.origin ≢ c) xs → last_of c xs None ≡ None
  none_last c no_more = refl
  none_last c (and_each {x = x} {xs = xs} ne f) = ap (λ o. last_of c xs o) (put_unless (x.origin == c) (Some x.number) None (test_false x.origin c ne)) ∙ none_last c f

  pub ends_snoc : (c : ℕ) (xs : List (Changeset I)) (gs : List (Given I)) (g : Given I) → all_end c xs gs ≡ true → is_last (last_of (c + length gs) xs None) g.count ≡ true → all_end c xs (gs ++ g ∷ []) ≡ true
  ends_snoc c xs [] g e f = let z : c + 0 ≡ c = omega arith in join (is_last (last_of c xs None) g.count) true (ap (λ k. is_last (last_of k xs None) g.count) (sym z) ∙ f) refl
  ends_snoc c xs (h ∷ gs) g e f =
      let b = both (is_last (last_of c xs None) h.count) (all_end (suc c) xs gs) e in
      let z : c + suc (length gs) ≡ suc c + length gs = omega arith in
      join (is_last (last_of c xs None) h.count) (all_end (suc c) xs (gs ++ g ∷ [])) b.0 (ends_snoc (suc c) xs gs g b.1 (ap (λ k. is_last (last_of k xs None) g.count) (sym z) ∙ f))

  pub cut_snoc : {second : Bool} {floor : ℕ} {xs : List (Changeset I)} {c : ℕ} {gs : List (Given I)} (g : Given I) (d : ℕ) → AllCut second floor xs c gs → c + length gs ≡ d → OneCut second floor xs d g → AllCut second floor xs c (gs ++ g ∷ [])
  cut_snoc {second} {floor} {xs} {c} g d none_cut e t = let z : d ≡ c = omega arith in one_cut (subst (λ j. OneCut second floor xs j g) z t) none_cut
  cut_snoc g d (one_cut u us) e t = one_cut u (cut_snoc g d us (omega arith) t)

  -- retired idents among more idents
  pub among_more : (n m c : ℕ) → n ≤ m → is_among n c ≡ true → is_among m c ≡ true
  among_more n m c le e =
      let b = both (nat_le 1 c) (nat_le c n) e in
      let l = leb-true c n b.1 in
      join (nat_le 1 c) (nat_le c m) b.0 (le-leb c m (omega arith))

  pub retired_more : (n m : ℕ) → n ≤ m → (acc qs z : List (ℕ × ℕ)) → walk (retired_step n) acc qs ≡ Ok z → walk (retired_step m) acc qs ≡ Ok z
  retired_more n m le acc [] z e = e
  retired_more n m le acc (q ∷ qs) z e = on (is_among n q.0) refl (is_among n q.1) refl (not (q.0 == q.1) && not (is_retired (heir_of q.0 acc))) refl e (λ next f. retired_more n m le next qs z f)
    where
      inner : {C : Type 0} {c : C} (r : Result C ℕ) → further_on r ≡ Ok c → r ≡ Ok c
      inner (Ok a) h = h
      inner (Err n) h = cc

      join : (a b d : Bool) → a ≡ true → b ≡ true → d ≡ true → ((a && b) && d) ≡ true
      join true true d e f g = g
      join true false d e f g = f
      join false b d e f g = e

      on : (a : Bool) → is_among n q.0 ≡ a → (b : Bool) → is_among n q.1 ≡ b → (d : Bool) → (not (q.0 == q.1) && not (is_retired (heir_of q.0 acc))) ≡ d → walk_on (if (a && b) && d then Some (acc ++ q ∷ []) else None) (λ y. further_on (walk (retired_step n) y qs)) ≡ Ok z
          → ((next : List (ℕ × ℕ)) → walk (retired_step n) next qs ≡ Ok z → walk (retired_step m) next qs ≡ Ok z) → walk_on (retired_step m acc q) (λ y. further_on (walk (retired_step m) y qs)) ≡ Ok z
      on true a_is true b_is true d_is f rec =
          ap (λ o. walk_on o (λ y. further_on (walk (retired_step m) y qs))) (put_if ((is_among m q.0 && is_among m q.1) && (not (q.0 == q.1) && not (is_retired (heir_of q.0 acc)))) (Some (acc ++ q ∷ [])) None (join (is_among m q.0) (is_among m q.1) (not (q.0 == q.1) && not (is_retired (heir_of q.0 acc))) (among_more n m q.0 le a_is) (among_more n m q.1 le b_is) d_is))
          ∙ ap further_on (rec (acc ++ q ∷ []) (inner (walk (retired_step n) (acc ++ q ∷ []) qs) f))
      on true a_is true b_is false d_is f rec = cc
      on true a_is false b_is d d_is f rec = cc
      on false a_is b b_is d d_is f rec = cc

  pub walk_among : (n : ℕ) (acc qs z : List (ℕ × ℕ)) → walk (retired_step n) acc qs ≡ Ok z → Each (λ (q : ℕ × ℕ). is_among n q.0 ≡ true) qs
  walk_among n acc [] z e = no_more
  walk_among n acc (q ∷ qs) z e = on (is_among n q.0) refl (is_among n q.1) (not (q.0 == q.1) && not (is_retired (heir_of q.0 acc))) e (λ next f. walk_among n next qs z f)
    where
      inner : {C : Type 0} {c : C} (r : Result C ℕ) → further_on r ≡ Ok c → r ≡ Ok c
      inner (Ok a) h = h
      inner (Err n) h = cc

      on : (a : Bool) → is_among n q.0 ≡ a → (b d : Bool) → walk_on (if (a && b) && d then Some (acc ++ q ∷ []) else None) (λ y. further_on (walk (retired_step n) y qs)) ≡ Ok z → ((next : List (ℕ × ℕ)) → walk (retired_step n) next qs ≡ Ok z → Each (λ (q : ℕ × ℕ). is_among n q.0 ≡ true) qs) → Each (λ (q : ℕ × ℕ). is_among n q.0 ≡ true) (q ∷ qs)
      on true a_is true true f rec = and_each a_is (rec (acc ++ q ∷ []) (inner (walk (retired_step n) (acc ++ q ∷ []) qs) f))
      on true a_is true false f rec = cc
      on true a_is false d f rec = cc
      on false a_is b d f rec = cc

  -- an ident beyond them has no heir
  pub none_beyond : (n c : ℕ) → n < c → {qs : List (ℕ × ℕ)} → Each (λ (q : ℕ × ℕ). is_among n q.0 ≡ true) qs → heir_of c qs ≡ None
  none_beyond n c lt no_more = refl
  none_beyond n c lt (and_each {x = q} {xs = qs} h hs) = put_unless (c == q.0) (Some q.1) (heir_of c qs) (test_false c q.0 (λ e. let l = leb-true q.0 n (second (nat_le 1 q.0) (nat_le q.0 n) h) in omega arith)) ∙ none_beyond n c lt hs
    where
      second : (a b : Bool) → (a && b) ≡ true → b ≡ true
      second true b f = f
      second false b f = cc

  pub heirs_snoc : (qs : List (ℕ × ℕ)) (c : ℕ) {gs : List (Given I)} (g : Given I) → AllHeirs qs c gs → g.heir ≡ heir_of (c + length gs) qs → AllHeirs qs c (gs ++ g ∷ [])
  heirs_snoc qs c {gs = []} g no_heirs e = let z : c + 0 ≡ c = omega arith in one_heir (e ∙ ap (λ d. heir_of d qs) z) no_heirs
  heirs_snoc qs c {gs = a ∷ gs} g (one_heir h hs) e = let z : c + suc (length gs) ≡ suc c + length gs = omega arith in one_heir h (heirs_snoc qs (suc c) g hs (e ∙ ap (λ d. heir_of d qs) z))

  pub heirs_at : (qs : List (ℕ × ℕ)) (c : ℕ) {gs : List (Given I)} → AllHeirs qs c gs → (j : ℕ) (g : Given I) → at gs j ≡ Some g → g.heir ≡ heir_of (c + j) qs
  heirs_at qs c no_heirs j g e = cc
  heirs_at qs c (one_heir {g = a} h hs) zero g e = let same : a ≡ g = cc in let z : c ≡ c + 0 = omega arith in ap (λ (q : Given I). q.heir) (sym same) ∙ h ∙ ap (λ d. heir_of d qs) z
  heirs_at qs c (one_heir h hs) (suc j) g e = let z : suc c + j ≡ c + suc j = omega arith in heirs_at qs (suc c) hs j g e ∙ ap (λ d. heir_of d qs) z

  pub sound_bound : (kept : Parts I S) → Sound kept → (u : Uuid) → place_of u (map (λ g. g.uuid) kept.idents) ≡ 0 → Sound (bound kept u)
  sound_bound kept s u new =
      let n : Given I = record { uuid = u; count = 0; last = 0; heir = None; mark = 0; reciprocal = with_versions kept.floor kept.entries } in
      let total = sum_by-append (λ (g : Given I). g.count) kept.idents (record { uuid = u; count = 0; last = 0; heir = None; mark = 0; reciprocal = with_versions kept.floor kept.entries } ∷ []) in
      let one = sum_by-cons (λ (g : Given I). g.count) (record { uuid = u; count = 0; last = 0; heir = None; mark = 0; reciprocal = with_versions kept.floor kept.entries }) [] in
      let old = s.sum in
      let len = Rattle.sync_theory.proofs.Logs.length_snoc kept.idents (record { uuid = u; count = 0; last = 0; heir = None; mark = 0; reciprocal = with_versions kept.floor kept.entries }) in
      let us = Rattle.sync_model.proofs.Lists.map_snoc (λ (g : Given I). g.uuid) kept.idents (record { uuid = u; count = 0; last = 0; heir = None; mark = 0; reciprocal = with_versions kept.floor kept.entries }) in
      let bs = Rattle.sync_model.proofs.Lists.map_snoc bare kept.idents (record { uuid = u; count = 0; last = 0; heir = None; mark = 0; reciprocal = with_versions kept.floor kept.entries }) in
      record {
        spans = Rattle.sync_model.proofs.Trims.bound_spans p kept s.spans u;
        uuids = subst (λ l. walk uuid_step [] l ≡ Ok l) (sym us) (walk_then uuid_step [] (map (λ g. g.uuid) kept.idents) (map (λ g. g.uuid) kept.idents ++ u ∷ []) (map (λ g. g.uuid) kept.idents) u s.uuids (put_if (place_of u (map (λ g. g.uuid) kept.idents) == 0) _ _ (test_true (place_of u (map (λ g. g.uuid) kept.idents)) 0 new)));
        retired = retired_more (length kept.idents) (length (kept.idents ++ record { uuid = u; count = 0; last = 0; heir = None; mark = 0; reciprocal = with_versions kept.floor kept.entries } ∷ [])) (omega arith) [] kept.retired kept.retired s.retired;
        heirs = heirs_snoc kept.retired 1 _ s.heirs (sym (none_beyond (length kept.idents) (1 + length kept.idents) (omega arith) (walk_among (length kept.idents) [] kept.retired kept.retired s.retired)));
        sum = omega arith;
        full = s.full;
        lasts = each_append s.lasts (and_each (omega arith) no_more);
        entries = walk_more kept.second kept.second (λ e. e) (map bare kept.idents) (map bare (kept.idents ++ record { uuid = u; count = 0; last = 0; heir = None; mark = 0; reciprocal = with_versions kept.floor kept.entries } ∷ []))
            (subst (λ l. Counts (map bare kept.idents) l) (sym bs) (more_counts (map bare kept.idents) (record { uuid = u; count = 0; last = 0; heir = None; mark = 0; reciprocal = [] } ∷ [])))
            (kept_of p kept.entries kept.bases) (record { objects = kept.below; entries = []; bases = [] }) (record { objects = kept.objects; entries = kept.entries; bases = kept.bases }) s.entries;
        ends = subst (λ l. all_end 1 kept.entries l ≡ true) (sym bs) (ends_snoc 1 kept.entries (map bare kept.idents) (record { uuid = u; count = 0; last = 0; heir = None; mark = 0; reciprocal = [] }) s.ends
            (ap (λ o. is_last o 0) (none_last (1 + length (map bare kept.idents)) (each_weak (λ x h e. let k = h.1 in let l = Rattle.sync_model.proofs.Lists.length_map bare kept.idents in absurd (omega arith)) s.given))));
        lists = s.lists;
        given = each_weak (λ x h. let k = h.1 in (h.0, omega arith)) s.given;
        tracks = cut_snoc (record { uuid = u; count = 0; last = 0; heir = None; mark = 0; reciprocal = with_versions kept.floor kept.entries }) (suc (length kept.idents)) s.tracks (omega arith) (live_cut refl (subst (λ k. Tracks p kept.second (suc (length kept.idents)) k (drop (k - kept.floor) kept.entries) (pairs_from k (with_versions kept.floor kept.entries))) (zero_max kept.floor) (floor_cut (suc (length kept.idents)) refl)));
      }
    where
      whole_cut : (c : ℕ) → c ≡ suc (length kept.idents) → Tracks p kept.second c kept.floor kept.entries (with_versions kept.floor kept.entries)
      whole_cut c e = tracks_all kept.second c kept.floor (each_weak (λ x h f. let k = h.1 in absurd (omega arith)) s.given) s.lists

      zero_max : (n : ℕ) → n ≡ max n 0
      zero_max n = omega arith

      floor_cut : (c : ℕ) → c ≡ suc (length kept.idents) → Tracks p kept.second c kept.floor (drop (kept.floor - kept.floor) kept.entries) (pairs_from kept.floor (with_versions kept.floor kept.entries))
      floor_cut c e =
          let z : kept.floor - kept.floor ≡ 0 = omega arith in
          let t = tracks_cut kept.floor 0 (whole_cut c e) (omega arith) in
          subst (λ d. Tracks p kept.second c kept.floor (drop d kept.entries) (pairs_from kept.floor (with_versions kept.floor kept.entries))) (sym z) t
