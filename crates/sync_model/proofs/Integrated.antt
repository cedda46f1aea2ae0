-- A change that a server integrates leaves what it keeps sound.
use Rattle.std.proofs.Common.{◌≡◌, ◌≢◌, ⊎_elim, ℕ, zero, suc, ◌+◌, ◌-◌, ◌<◌, ◌≤◌, Bool, true, false, ◌&&◌, ◌||◌, not, List, [], ◌∷◌, ◌++◌, Option, Some, None, Result, Ok, Err, refl, sym, ap, ap₂, ◌∙◌, subst, subst₂, arith, if◌then◌else◌, ◌==◌, length, drop, map, nat_le, nat_lt, max, sum_by, le_refl, eqb-true, length-append}
use Rattle.std.proofs.lemmas.Bool.{ltb-false, le-leb}
use Rattle.std.proofs.lemmas.List.Sums.{sum_by-cons}
use Rattle.sync_theory.specs.Grid.{carry}
use Rattle.sync_theory.specs.Lists.{run}
use Rattle.sync_theory.specs.Changesets.{Changeset}
use Rattle.sync_theory.specs.Reciprocals.{from_base, settle}
use Rattle.sync_theory.proofs.Server.{test_true, test_false}
use Rattle.sync_theory.proofs.World.{put_if, put_unless, same_or_not}
use Rattle.sync_model.specs.Profile.{Profile, Stuck, Lawful, act_changeset, cross_changesets, is_small, needs}
use Rattle.sync_model.specs.Snapshots.{Buildable}
use Rattle.sync_model.specs.Messages.{Change}
use Rattle.sync_model.specs.Servers.{Entry, Form, ServerRefusal, is_retired, entry_of}
use Rattle.sync_model.specs.Parts.{Given, Parts, Merged, at_ident, with_versions, settled, longer_list, extended, given_up, idents_retired, retired_for, idents_after, integrated, bound, marked}
use Rattle.sync_model.specs.Files.{readable}
use Rattle.sync_model.specs.Each.{Each, no_more, and_each}
use Rattle.sync_model.specs.Worlds.{at}
use Rattle.sync_model.specs.Trims.{pairs_from, is_live, Spans}
use Rattle.sync_model.specs.Fronts.{walk, uuid_step, retired_step, last_of, follows, is_last, all_end, grows_on, numbers_on, entry_read, entry_step}
use Rattle.sync_model.proofs.Whole.{Writable, Tracks, no_pairs, own_entry, other_entry, bare, kept_of, AllHeirs, no_heirs, one_heir}
use Rattle.sync_model.proofs.Lists.{at_map, heir_new, heir_other}
use Rattle.sync_model.proofs.Alike.{not_below, pairs_twice, pairs_append, pairs_settle, drop_drop, drop_snoc}
use Rattle.sync_model.proofs.Trims.{drop_length_is}
use Rattle.sync_model.proofs.Limits.{each_append, both}
use Rattle.sync_model.proofs.Sound.{join, each_weak, walk_then, Counts, at_place, writable_more, walk_more, tracks_more, tracks_own, tracks_other, tracks_cut, Cut, OneCut, the_cut, AllCut, Sound, all_more, live_cut, dead_cut, none_cut, one_cut}

module _ {I S : Type 0} (p : Profile I S) where
  module _ {Fits Bounded Old : S → Type 0} (law : Lawful p Fits) (built : Buildable p Fits Bounded Old) where
    pub old_each : (is : List I) → needs p is ≡ false → Each (λ (i : I). p.needs_second i ≡ false) is
    old_each [] e = no_more
    old_each (i ∷ is) e = let f = neither (p.needs_second i) (needs p is) e in and_each f.0 (old_each is f.1)
      where
        neither : (a b : Bool) → (a || b) ≡ false → (a ≡ false) × (b ≡ false)
        neither true b f = cc
        neither false b f = (refl, f)

    pub old_needs : {is : List I} → Each (λ (i : I). p.needs_second i ≡ false) is → needs p is ≡ false
    old_needs no_more = refl
    old_needs (and_each {xs = is} h f) = ap (λ b. b || needs p is) h ∙ old_needs f

    pub lefts : (o : Option I) → Rattle.std.specs.Prelude.IfSome o (λ i. p.needs_second i ≡ false) → Rattle.sync_model.proofs.Olds.Left p (λ i. p.needs_second i ≡ false) o
    lefts None h = tt
    lefts (Some i) h = h

    pub meets : (later : Bool) (a b : I) → p.needs_second a ≡ false → p.needs_second b ≡ false → Rattle.std.specs.Prelude.IfOk (p.meet a b later) (λ o. Rattle.sync_model.proofs.Olds.Left p (λ i. p.needs_second i ≡ false) o.0 × Rattle.sync_model.proofs.Olds.Left p (λ i. p.needs_second i ≡ false) o.1)
    meets later a b e f = on (p.meet a b later) (built.meets_old later a b e f)
      where
        on : (r : Result (Option I × Option I) ℕ) → Rattle.std.specs.Prelude.IfOk r (λ o. Rattle.std.specs.Prelude.IfSome o.0 (λ i. p.needs_second i ≡ false) × Rattle.std.specs.Prelude.IfSome o.1 (λ i. p.needs_second i ≡ false)) → Rattle.std.specs.Prelude.IfOk r (λ o. Rattle.sync_model.proofs.Olds.Left p (λ i. p.needs_second i ≡ false) o.0 × Rattle.sync_model.proofs.Olds.Left p (λ i. p.needs_second i ≡ false) o.1)
        on (Ok o) h = (lefts o.0 h.0, lefts o.1 h.1)
        on (Err k) h = tt

    pub allowed_old : (is : List I) → readable p false (Ok is) ≡ Some is → needs p is ≡ false
    allowed_old is e = on (needs p is) e
      where
        on : (n : Bool) → (if n && not false then None else Some is) ≡ Some is → n ≡ false
        on true f = cc
        on false f = refl

    pub old_allowed : (is : List I) → needs p is ≡ false → readable p false (Ok is) ≡ Some is
    old_allowed is e = ap (λ n. if n && not false then None else Some is) e

    pub second_allowed : (is : List I) → readable p true (Ok is) ≡ Some is
    second_allowed is = on (needs p is)
      where
        on : (n : Bool) → (if n && not true then None else Some is) ≡ Some is
        on true = refl
        on false = refl

    -- what crosses can still be written
    pub writable_cross : (second : Bool) (a b x y : Changeset I) → Writable p second a.instrs → Writable p second b.instrs → cross_changesets p a b ≡ Ok (x, y) → Writable p second x.instrs × Writable p second y.instrs
    writable_cross true a b x y v w e =
        let s = Rattle.sync_model.proofs.Small.sets_small p law a b x y e in
        (record { small = s.left v.small w.small; allowed = second_allowed x.instrs }, record { small = s.right v.small w.small; allowed = second_allowed y.instrs })
    writable_cross false a b x y v w e =
        let s = Rattle.sync_model.proofs.Small.sets_small p law a b x y e in
        let k = Rattle.sync_model.proofs.Olds.sets_keep p (λ i. p.needs_second i ≡ false) meets a b x y (old_each a.instrs (allowed_old a.instrs v.allowed)) (old_each b.instrs (allowed_old b.instrs w.allowed)) e in
        (record { small = s.left v.small w.small; allowed = old_allowed x.instrs (old_needs k.0) }, record { small = s.right v.small w.small; allowed = old_allowed y.instrs (old_needs k.1) })

    -- a change is carried over the pairs, which keep their stamps
    pub carried_tracks : {second : Bool} (b : ℕ) (c : ℕ) {k : ℕ} {ys : List (Changeset I)} {qs : List (ℕ × Changeset I)} → Tracks p second c k ys qs → b ≤ k → (o x : Changeset I) (es : List (Changeset I)) → Writable p second o.instrs → carry (cross_changesets p) o (map (λ q. q.1) qs) ≡ Ok (x, es) → Writable p second x.instrs × Tracks p second c k ys (settle b qs es)
    carried_tracks {second} b c no_pairs h o x es v e = (subst (λ z. Writable p second z.instrs) (Rattle.sync_theory.proofs.Recip.ok_first (o, []) x es e) v, no_pairs)
    carried_tracks b c (own_entry own t) h o x es v e = let r = carried_tracks b c t (omega arith) o x es v e in (r.0, own_entry own r.1)
    carried_tracks {second} b c {k} (other_entry {x = z} {is = js} {xs = ys} {qs = qs} ne w u t) h o x es v e =
        let g = Rattle.sync_theory.proofs.Recip.carry_gives (cross_changesets p o (record z { instrs = js })) (λ y. carry (cross_changesets p) y (map (λ q. q.1) qs)) x es e in
        let m = writable_cross second o (record z { instrs = js }) g.y g.f v u g.was in
        let st = (Rattle.sync_model.proofs.Stamps.meet_stamps p o (record z { instrs = js }) g.y g.f g.was).1 in
        let same : g.f ≡ record z { instrs = g.f.instrs } = λ i. record { origin = st.origin i; number = st.number i; ms = st.ms i; instrs = g.f.instrs } in
        let r = carried_tracks b c t (omega arith) g.y x g.fs m.0 g.on in
        let put : settle b ((k, record z { instrs = js }) ∷ qs) (g.f ∷ g.fs) ≡ (k, record z { instrs = g.f.instrs }) ∷ settle b qs g.fs =
        put_unless (nat_lt k b) ((k, record z { instrs = js }) ∷ settle b qs (g.f ∷ g.fs)) ((k, g.f) ∷ settle b qs g.fs) (not_below k b h) ∙ ap (λ y. (k, y) ∷ settle b qs g.fs) same in
        (r.0, subst (λ l. Tracks p second c k (z ∷ ys) l) (sym (ap (settle b ((k, record z { instrs = js }) ∷ qs)) (sym g.out) ∙ put)) (other_entry ne w m.1 r.1))

    -- the pairs from a base on, as a change is carried over them
    pub base_tracks : {second : Bool} {c : ℕ} (b : ℕ) {k : ℕ} {ys : List (Changeset I)} {qs : List (ℕ × Changeset I)} → Tracks p second c k ys qs → b ≤ k → from_base b qs ≡ map (λ q. q.1) qs
    base_tracks b no_pairs h = refl
    base_tracks b (own_entry own t) h = base_tracks b t (omega arith)
    base_tracks b {k} (other_entry {x = z} {is = js} {qs = qs} ne w u t) h = put_unless (nat_lt k b) (from_base b qs) (record z { instrs = js } ∷ from_base b qs) (not_below k b h) ∙ ap (λ l. record z { instrs = js } ∷ l) (base_tracks b t (omega arith))

    -- ---- the idents after a change

    pub after_uuids : (c base : ℕ) (es : List (Changeset I)) (v : ℕ) (x : Changeset I) (k : ℕ) (gs : List (Given I)) → map (λ g. g.uuid) (idents_after c base es v x k gs) ≡ map (λ g. g.uuid) gs
    after_uuids c base es v x k [] = refl
    after_uuids c base es v x k (g ∷ gs) = ap₂ (λ u l. u ∷ l) (on (k == c)) (after_uuids c base es v x (suc k) gs)
      where
        on : (b : Bool) → (if b then settled base es g else extended v x g).uuid ≡ g.uuid
        on true = refl
        on false = refl

    pub after_heirs : (c base : ℕ) (es : List (Changeset I)) (v : ℕ) (x : Changeset I) (qs : List (ℕ × ℕ)) (k : ℕ) {gs : List (Given I)} → AllHeirs qs k gs → AllHeirs qs k (idents_after c base es v x k gs)
    after_heirs c base es v x qs k no_heirs = no_heirs
    after_heirs c base es v x qs k (one_heir {g = g} h hs) = one_heir (on (k == c) ∙ h) (after_heirs c base es v x qs (suc k) hs)
      where
        on : (b : Bool) → (if b then settled base es g else extended v x g).heir ≡ g.heir
        on true = refl
        on false = refl

    pub after_length : (c base : ℕ) (es : List (Changeset I)) (v : ℕ) (x : Changeset I) (k : ℕ) (gs : List (Given I)) → length (idents_after c base es v x k gs) ≡ length gs
    after_length c base es v x k [] = refl
    after_length c base es v x k (g ∷ gs) = ap suc (after_length c base es v x (suc k) gs)

    pub after_sum : (c base : ℕ) (es : List (Changeset I)) (v : ℕ) (x : Changeset I) (k : ℕ) (gs : List (Given I)) → (c < k → sum_by (λ g. g.count) (idents_after c base es v x k gs) ≡ sum_by (λ g. g.count) gs) × (k ≤ c → c < k + length gs → sum_by (λ g. g.count) (idents_after c base es v x k gs) ≡ suc (sum_by (λ g. g.count) gs))
    after_sum c base es v x k [] = (λ h. refl, λ h l. absurd (omega arith))
    after_sum c base es v x k (g ∷ gs) =
        let r = after_sum c base es v x (suc k) gs in
        let s = sum_by-cons (λ (g : Given I). g.count) g gs in
        let new = sum_by-cons (λ (g : Given I). g.count) (if k == c then settled base es g else extended v x g) (idents_after c base es v x (suc k) gs) in (
          λ h.
              let rest = r.0 (omega arith) in
              let one : (if k == c then settled base es g else extended v x g).count ≡ g.count = ap (λ (q : Given I). q.count) (put_unless (k == c) (settled base es g) (extended v x g) (test_false k c (λ e. omega arith))) in
              omega arith,
          λ h l. ⊎_elim
              (λ e.
              let rest = r.0 (omega arith) in
              let one : (if k == c then settled base es g else extended v x g).count ≡ suc g.count = ap (λ (q : Given I). q.count) (put_if (k == c) (settled base es g) (extended v x g) (test_true k c e)) in
              omega arith)
              (λ ne.
              let rest = r.1 (omega arith) (omega arith) in
              let one : (if k == c then settled base es g else extended v x g).count ≡ g.count = ap (λ (q : Given I). q.count) (put_unless (k == c) (settled base es g) (extended v x g) (test_false k c ne)) in
              omega arith)
              (same_or_not k c),
        )

    pub after_lasts : (c base : ℕ) (es : List (Changeset I)) (v : ℕ) (x : Changeset I) (top k : ℕ) {gs : List (Given I)} → base ≤ top → Each (λ (g : Given I). g.last ≤ top) gs → Each (λ (g : Given I). g.last ≤ suc top) (idents_after c base es v x k gs)
    after_lasts c base es v x top k h no_more = no_more
    after_lasts c base es v x top k h (and_each {x = g} m f) = and_each (on (k == c)) (after_lasts c base es v x top (suc k) h f)
      where
        on : (b : Bool) → (if b then settled base es g else extended v x g).last ≤ suc top
        on true = omega arith
        on false = omega arith

    pub after_at : (c base : ℕ) (es : List (Changeset I)) (v : ℕ) (x : Changeset I) (k : ℕ) (gs : List (Given I)) (j : ℕ) (g : Given I) → at gs j ≡ Some g → k + j ≡ c → at (idents_after c base es v x k gs) j ≡ Some (settled base es g)
    after_at c base es v x k [] j g e is = cc
    after_at c base es v x k (a ∷ gs) zero g e is = let same : a ≡ g = cc in ap (λ q. Some q) (put_if (k == c) (settled base es a) (extended v x a) (test_true k c (omega arith)) ∙ ap (settled base es) same)
    after_at c base es v x k (a ∷ gs) (suc j) g e is = after_at c base es v x (suc k) gs j g e (omega arith)

    pub after_counts_at : (c base : ℕ) (es : List (Changeset I)) (v : ℕ) (x : Changeset I) (k : ℕ) (gs : List (Given I)) (j : ℕ) (g : Given I) → at (map bare gs) j ≡ Some g → (h : Given I) × (at (map bare (idents_after c base es v x k gs)) j ≡ Some h) × (g.count ≤ h.count)
    after_counts_at c base es v x k [] j g e = cc
    after_counts_at c base es v x k (a ∷ gs) zero g e = let same : bare a ≡ g = cc in (bare (if k == c then settled base es a else extended v x a), refl, subst (λ (q : Given I). q.count ≤ (if k == c then settled base es a else extended v x a).count) same (on (k == c)))
      where
        on : (b : Bool) → a.count ≤ (if b then settled base es a else extended v x a).count
        on true = omega arith
        on false = le_refl a.count
    after_counts_at c base es v x k (a ∷ gs) (suc j) g e = after_counts_at c base es v x (suc k) gs j g e

    pub after_counts : (c base : ℕ) (es : List (Changeset I)) (v : ℕ) (x : Changeset I) (gs : List (Given I)) → Counts (map bare gs) (map bare (idents_after c base es v x 1 gs))
    unfolding Counts
    after_counts c base es v x gs zero g e = cc
    after_counts c base es v x gs (suc j) g e = after_counts_at c base es v x 1 gs j g e

    pub last_snoc : (c : ℕ) (xs : List (Changeset I)) (x : Changeset I) (o : Option ℕ) → last_of c (xs ++ x ∷ []) o ≡ (if x.origin == c then Some x.number else last_of c xs o)
    last_snoc c [] x o = refl
    last_snoc c (y ∷ xs) x o = last_snoc c xs x (if y.origin == c then Some y.number else o)

    pub after_ends : (c base : ℕ) (es : List (Changeset I)) (v : ℕ) (x : Changeset I) (xs : List (Changeset I)) → x.origin ≡ c → (k : ℕ) (gs : List (Given I)) → ((j : ℕ) (g : Given I) → at gs j ≡ Some g → k + j ≡ c → x.number ≡ suc g.count) → all_end k xs (map bare gs) ≡ true → all_end k (xs ++ x ∷ []) (map bare (idents_after c base es v x k gs)) ≡ true
    after_ends c base es v x xs own k [] number e = refl
    after_ends c base es v x xs own k (g ∷ gs) number e =
        let b = both (is_last (last_of k xs None) g.count) (all_end (suc k) xs (map bare gs)) e in
        let rest = after_ends c base es v x xs own (suc k) gs (λ j h i f. number (suc j) h i (omega arith)) b.1 in
        join (is_last (last_of k (xs ++ x ∷ []) None) (if k == c then settled base es g else extended v x g).count) (all_end (suc k) (xs ++ x ∷ []) (map bare (idents_after c base es v x (suc k) gs)))
        (ap (λ o. is_last o (if k == c then settled base es g else extended v x g).count) (last_snoc k xs x None) ∙ ⊎_elim
        (λ is. ap₂ (λ o n. is_last o n) (put_if (x.origin == k) (Some x.number) (last_of k xs None) (test_true x.origin k (own ∙ sym is))) (ap (λ (q : Given I). q.count) (put_if (k == c) (settled base es g) (extended v x g) (test_true k c is))) ∙ test_true x.number (suc g.count) (number 0 g refl (omega arith)))
        (λ ne. ap₂ (λ o n. is_last o n) (put_unless (x.origin == k) (Some x.number) (last_of k xs None) (test_false x.origin k (λ f. ne (sym f ∙ own)))) (ap (λ (q : Given I). q.count) (put_unless (k == c) (settled base es g) (extended v x g) (test_false k c ne))) ∙ b.0)
        (same_or_not k c))
        rest

    pub end_at : (k : ℕ) (xs : List (Changeset I)) (gs : List (Given I)) (j : ℕ) (g : Given I) → all_end k xs (map bare gs) ≡ true → at gs j ≡ Some g → is_last (last_of (k + j) xs None) g.count ≡ true
    end_at k xs [] j g e h = cc
    end_at k xs (a ∷ gs) zero g e h = let same : a ≡ g = cc in let z : k ≡ k + 0 = omega arith in subst (λ (q : Given I). is_last (last_of (k + 0) xs None) q.count ≡ true) same (ap (λ d. is_last (last_of d xs None) a.count) (sym z) ∙ (both (is_last (last_of k xs None) a.count) _ e).0)
    end_at k xs (a ∷ gs) (suc j) g e h = let z : suc k + j ≡ k + suc j = omega arith in ap (λ d. is_last (last_of d xs None) g.count) (sym z) ∙ end_at (suc k) xs gs j g (both (is_last (last_of k xs None) a.count) _ e).1 h

    -- an ident of another
    pub other_cut : {second : Bool} (floor len d : ℕ) (xs : List (Changeset I)) (x : Changeset I) (g : Given I) → floor + length xs ≡ len → g.last ≤ len → x.origin ≢ d → Writable p second x.instrs → Cut p second floor xs d g → Cut p second floor (xs ++ x ∷ []) d (record g { reciprocal = g.reciprocal ++ (len, x) ∷ [] })
    other_cut {second} floor len d xs x g reach last ne w t =
        let m = max floor g.last in
        let within : max floor g.last ≤ len = top floor g.last len (omega arith) last in
        let low = bottom floor g.last in
        let n = drop_length_is (max floor g.last - floor) xs in
        let cut = drop_snoc (max floor g.last - floor) xs x (omega arith) in
        let pairs = pairs_append (max floor g.last) g.reciprocal ((len, x) ∷ []) ∙ ap (λ l. pairs_from (max floor g.last) g.reciprocal ++ l) (put_unless (nat_lt len (max floor g.last)) [] ((len, x) ∷ []) (not_below len (max floor g.last) within)) in
        subst (λ l. Tracks p second d (max floor g.last) l (pairs_from (max floor g.last) (g.reciprocal ++ (len, x) ∷ []))) (sym cut)
        (subst (λ l. Tracks p second d (max floor g.last) (drop (max floor g.last - floor) xs ++ x ∷ []) l) (sym pairs) (tracks_other p x t ne w (omega arith)))
      where
        top : (a b n : ℕ) → a ≤ n → b ≤ n → max a b ≤ n
        top a b n f g = omega arith

        bottom : (a b : ℕ) → a ≤ max a b
        bottom a b = omega arith

    pub longer_cut : {second : Bool} (floor len d : ℕ) (xs : List (Changeset I)) (x : Changeset I) (g : Given I) → floor + length xs ≡ len → g.last ≤ len → x.origin ≢ d → Writable p second x.instrs → OneCut p second floor xs d g → OneCut p second floor (xs ++ x ∷ []) d (extended len x g)
    longer_cut {second} floor len d xs x g reach last ne w u = on g.heir refl u
      where
        dead_is : {o : Option ℕ} → g.heir ≡ o → not (is_retired o) ≡ false → is_live g ≡ false
        dead_is e f = ap (λ z. not (is_retired z)) e ∙ f

        on : (o : Option ℕ) → g.heir ≡ o → OneCut p second floor xs d g → OneCut p second floor (xs ++ x ∷ []) d (record g { reciprocal = longer_list o g.reciprocal (len, x) })
        on None e (live_cut l t) = live_cut l (other_cut floor len d xs x g reach last ne w t)
        on None e (dead_cut k r) = absurd (never (sym k ∙ ap (λ z. not (is_retired z)) e))
          where
            never : false ≡ true → ⊥
            never f = cc
        on (Some by) e (live_cut l t) = absurd (never (sym l ∙ ap (λ z. not (is_retired z)) e))
          where
            never : true ≡ false → ⊥
            never f = cc
        on (Some by) e (dead_cut k r) = dead_cut k r

    pub after_cut : {second : Bool} (floor len c base : ℕ) (es : List (Changeset I)) (x : Changeset I) (xs : List (Changeset I)) → floor + length xs ≡ len → x.origin ≡ c → Writable p second x.instrs → {k : ℕ} {gs : List (Given I)} → AllCut p second floor xs k gs → Each (λ (g : Given I). g.last ≤ len) gs → ((j : ℕ) (g : Given I) → at gs j ≡ Some g → k + j ≡ c → OneCut p second floor (xs ++ x ∷ []) c (settled base es g)) → AllCut p second floor (xs ++ x ∷ []) k (idents_after c base es len x k gs)
    after_cut floor len c base es x xs reach own w none_cut no_more mine = none_cut
    after_cut {second} floor len c base es x xs reach own w {k} (one_cut {g = g} t ts) (and_each h hs) mine =
        one_cut (⊎_elim
        (λ is. subst (λ q. OneCut p second floor (xs ++ x ∷ []) k q) (sym (put_if (k == c) (settled base es g) (extended len x g) (test_true k c is))) (subst (λ d. OneCut p second floor (xs ++ x ∷ []) d (settled base es g)) (sym is) (mine 0 g refl (omega arith))))
        (λ ne. subst (λ q. OneCut p second floor (xs ++ x ∷ []) k q) (sym (put_unless (k == c) (settled base es g) (extended len x g) (test_false k c ne))) (longer_cut floor len k xs x g reach h (λ f. ne (sym f ∙ own)) w t))
        (same_or_not k c))
        (after_cut floor len c base es x xs reach own w ts hs (λ j q i f. mine (suc j) q i (omega arith)))

    pub kept_snoc : (xs : List (Changeset I)) (bs : List ℕ) (x : Changeset I) (b : ℕ) → length bs ≡ length xs → kept_of p (xs ++ x ∷ []) (bs ++ b ∷ []) ≡ kept_of p xs bs ++ record { origin = x.origin; number = x.number; base = b; ms = x.ms; body = p.spell x.instrs } ∷ []
    kept_snoc [] [] x b e = refl
    kept_snoc [] (a ∷ bs) x b e = absurd (omega arith)
    kept_snoc (y ∷ xs) [] x b e = absurd (omega arith)
    kept_snoc (y ∷ xs) (a ∷ bs) x b e = ap (λ l. record { origin = y.origin; number = y.number; base = a; ms = y.ms; body = p.spell y.instrs } ∷ l) (kept_snoc xs bs x b (omega arith))

    -- all of it

    module _ (kept : Parts I S) (s : Sound p kept) (c : ℕ) (g : Given I) (here : at_ident c kept.idents ≡ Some g) (h : Change) (is : List I) (read : p.unspell h.body ≡ Ok is) (x : Changeset I) (es : List (Changeset I)) (t : S) (carries : carry (cross_changesets p) (entry_of c h is).change (from_base h.base g.reciprocal) ≡ Ok (x, es)) (acts : act_changeset p x kept.objects ≡ Some t) (back : g.last ≤ h.base) (above : kept.floor ≤ h.base) (ahead : h.base ≤ kept.len) (number : h.number ≡ suc g.count) (unfilled : kept.len ≢ p.full) (live : is_live g ≡ true) where
      abbrev second : Bool
      second = kept.second || needs p is

      up : kept.second ≡ true → (kept.second || needs p is) ≡ true
      up e = ap (λ b. b || needs p is) e

      original : Writable p second is
      original = record { small = Rattle.sync_model.proofs.Small.read_small p law h.body is read; allowed = on kept.second (needs p is) refl }
        where
          on : (a n : Bool) → needs p is ≡ n → readable p (a || n) (Ok is) ≡ Some is
          on true n e = second_allowed is
          on false true e = second_allowed is
          on false false e = old_allowed is e

      place : (c ≢ 0) × (c ≤ length kept.idents)
      place = at_place c kept.idents g here

      -- the ident is the one at its place
      only : (j : ℕ) (q : Given I) → at kept.idents j ≡ Some q → 1 + j ≡ c → q ≡ g
      only j q i e = let z : c ≡ suc j = omega arith in some_is q g (sym i ∙ sym (ap (λ d. at_ident d kept.idents) z) ∙ here)
        where
          some_is : (a b : Given I) → Some a ≡ Some b → a ≡ b
          some_is a b f = cc

      found : {d : ℕ} {gs : List (Given I)} → AllCut p kept.second kept.floor kept.entries d gs → (j : ℕ) (q : Given I) → at gs j ≡ Some q → OneCut p kept.second kept.floor kept.entries (d + j) q
      found none_cut j q e = cc
      found {d} (one_cut {g = a} u us) zero q e = let same : a ≡ q = cc in let z : d ≡ d + 0 = omega arith in subst (λ k. OneCut p kept.second kept.floor kept.entries k q) z (subst (λ r. OneCut p kept.second kept.floor kept.entries d r) same u)
      found {d} (one_cut u us) (suc j) q e = let z : suc d + j ≡ d + suc j = omega arith in subst (λ k. OneCut p kept.second kept.floor kept.entries k q) z (found us j q e)

      at_it : (d : ℕ) → at_ident d kept.idents ≡ Some g → Cut p kept.second kept.floor kept.entries d g
      at_it zero e = cc
      at_it (suc j) e = let z : 1 + j ≡ suc j = omega arith in the_cut p live (subst (λ k. OneCut p kept.second kept.floor kept.entries k g) z (found s.tracks j g e))

      low : max kept.floor g.last ≤ h.base
      low = top kept.floor g.last h.base above back
        where
          top : (a b n : ℕ) → a ≤ n → b ≤ n → max a b ≤ n
          top a b n f g = omega arith

      bottom : (a b : ℕ) → a ≤ max a b
      bottom a b = omega arith

      from_here : Tracks p second c h.base (drop (h.base - kept.floor) kept.entries) (pairs_from h.base g.reciprocal)
      from_here =
          let l = low in
          let b = bottom kept.floor g.last in
          let cut = tracks_cut p h.base (h.base - max kept.floor g.last) (tracks_more p kept.second second up (at_it c here)) (omega arith) in
          let e : (max kept.floor g.last - kept.floor) + (h.base - max kept.floor g.last) ≡ h.base - kept.floor = omega arith in
          subst (λ xs. Tracks p second c h.base xs (pairs_from h.base g.reciprocal)) (drop_drop (max kept.floor g.last - kept.floor) (h.base - max kept.floor g.last) kept.entries ∙ ap (λ d. drop d kept.entries) e)
          (subst (λ qs. Tracks p second c h.base (drop (h.base - max kept.floor g.last) (drop (max kept.floor g.last - kept.floor) kept.entries)) qs) (pairs_twice (max kept.floor g.last) h.base g.reciprocal l) cut)

      carried : Writable p second x.instrs × Tracks p second c h.base (drop (h.base - kept.floor) kept.entries) (settle h.base (pairs_from h.base g.reciprocal) es)
      carried = carried_tracks h.base c from_here (le_refl h.base) (entry_of c h is).change x es original
          (ap (carry (cross_changesets p) (entry_of c h is).change) (sym (base_tracks h.base from_here (le_refl h.base)) ∙ sym (Rattle.sync_model.proofs.Alike.base_of_pairs h.base g.reciprocal)) ∙ carries)

      stamps : Rattle.sync_model.specs.Log.SameStamp (entry_of c h is).change x
      stamps = Rattle.sync_model.proofs.Stamps.carry_stamp p (from_base h.base g.reciprocal) (entry_of c h is).change x es carries

      reach : kept.floor + length kept.entries ≡ kept.len
      reach = s.spans.reach

      mine : Cut p second kept.floor (kept.entries ++ x ∷ []) c (settled h.base es g)
      mine =
          let r = reach in
          let a = above in
          let b = ahead in
          let m : h.base ≡ max kept.floor h.base = same_max kept.floor h.base above in
          let cut = drop_snoc (h.base - kept.floor) kept.entries x (omega arith) in
          let w = tracks_own p x carried.1 stamps.origin in
          subst (λ k. Tracks p second c k (drop (k - kept.floor) (kept.entries ++ x ∷ [])) (pairs_from k (settle h.base g.reciprocal es))) m
          (subst (λ l. Tracks p second c h.base l (pairs_from h.base (settle h.base g.reciprocal es))) (sym cut)
          (subst (λ l. Tracks p second c h.base (drop (h.base - kept.floor) kept.entries ++ x ∷ []) l) (sym (pairs_settle h.base g.reciprocal es)) w))
        where
          same_max : (a b : ℕ) → a ≤ b → b ≡ max a b
          same_max a b f = omega arith

      is_number : x.number ≡ suc g.count
      is_number = stamps.number ∙ number

      last_end : is_last (last_of c kept.entries None) g.count ≡ true
      last_end = at_end c here
        where
          at_end : (d : ℕ) → at_ident d kept.idents ≡ Some g → is_last (last_of d kept.entries None) g.count ≡ true
          at_end zero e = cc
          at_end (suc j) e = let z : 1 + j ≡ suc j = omega arith in ap (λ k. is_last (last_of k kept.entries None) g.count) (sym z) ∙ end_at 1 kept.entries kept.idents j g s.ends e

      follows_last : (o : Option ℕ) → is_last o g.count ≡ true → follows o x.number ≡ true
      follows_last None e = refl
      follows_last (Some n) e = let f = eqb-true n g.count e in let k = is_number in test_true x.number (suc n) (omega arith)

      at_new : (d : ℕ) → at_ident d kept.idents ≡ Some g → d ≡ c → at_ident d (map bare (idents_after c h.base es kept.len x 1 kept.idents)) ≡ Some (bare (settled h.base es g))
      at_new zero e f = cc
      at_new (suc j) e f = Rattle.sync_model.proofs.Lists.at_map bare (idents_after c h.base es kept.len x 1 kept.idents) j (settled h.base es g) (after_at c h.base es kept.len x 1 kept.idents j g e (omega arith))

      steps_on : entry_step p second (map bare (idents_after c h.base es kept.len x 1 kept.idents)) (record { objects = kept.objects; entries = kept.entries; bases = kept.bases }) (record { origin = x.origin; number = x.number; base = h.base; ms = x.ms; body = p.spell x.instrs }) ≡ Some (record { objects = t; entries = kept.entries ++ x ∷ []; bases = kept.bases ++ h.base ∷ [] })
      steps_on =
          let k = is_number in
          put_if (numbers_on kept.entries (record { origin = x.origin; number = x.number; base = h.base; ms = x.ms; body = p.spell x.instrs }) (at_ident x.origin (map bare (idents_after c h.base es kept.len x 1 kept.idents)))) _ _
          (ap (numbers_on kept.entries (record { origin = x.origin; number = x.number; base = h.base; ms = x.ms; body = p.spell x.instrs })) (ap (λ d. at_ident d (map bare (idents_after c h.base es kept.len x 1 kept.idents))) stamps.origin ∙ at_new c here refl)
          ∙ join (nat_le 1 x.number && nat_le x.number (suc g.count)) (follows (last_of x.origin kept.entries None) x.number)
          (join (nat_le 1 x.number) (nat_le x.number (suc g.count)) (le-leb 1 x.number (omega arith)) (le-leb x.number (suc g.count) (omega arith)))
          (ap (λ d. follows (last_of d kept.entries None) x.number) stamps.origin ∙ follows_last (last_of c kept.entries None) last_end))
          ∙ ap (entry_read p (record { objects = kept.objects; entries = kept.entries; bases = kept.bases }) (record { origin = x.origin; number = x.number; base = h.base; ms = x.ms; body = p.spell x.instrs })) (ap (readable p second) (law.spelled x.instrs carried.0.small) ∙ carried.0.allowed)
          ∙ ap (grows_on (record { objects = kept.objects; entries = kept.entries; bases = kept.bases }) x h.base) acts

      pub sound_integrated : Sound p (integrated kept c h.base (needs p is) x es t)
      sound_integrated =
          let r = reach in
          let b = s.spans.bases in
          let total = s.sum in
          let f = s.full in
          let ne = unfilled in
          let q = place in
          let q0 = q.0 in
          let q1 = q.1 in
          let grown_ = (after_sum c h.base es kept.len x 1 kept.idents).1 (omega (arith, q0)) (omega arith) in
          let len = after_length c h.base es kept.len x 1 kept.idents in
          record {
            spans = new_spans;
            uuids = subst (λ us. walk uuid_step [] us ≡ Ok us) (sym (after_uuids c h.base es kept.len x 1 kept.idents)) s.uuids;
            retired = ap (λ n. walk (retired_step n) [] kept.retired) len ∙ s.retired;
            heirs = after_heirs c h.base es kept.len x kept.retired 1 s.heirs;
            sum = omega arith;
            full = omega (arith, ne, f);
            lasts = after_lasts c h.base es kept.len x kept.len 1 ahead s.lasts;
            entries = subst (λ l. walk (entry_step p second (map bare (idents_after c h.base es kept.len x 1 kept.idents))) (record { objects = kept.below; entries = []; bases = [] }) l ≡ Ok (record { objects = t; entries = kept.entries ++ x ∷ []; bases = kept.bases ++ h.base ∷ [] })) (sym (kept_snoc kept.entries kept.bases x h.base b))
                (walk_then (entry_step p second (map bare (idents_after c h.base es kept.len x 1 kept.idents))) (record { objects = kept.below; entries = []; bases = [] }) (record { objects = kept.objects; entries = kept.entries; bases = kept.bases }) (record { objects = t; entries = kept.entries ++ x ∷ []; bases = kept.bases ++ h.base ∷ [] }) (kept_of p kept.entries kept.bases) (record { origin = x.origin; number = x.number; base = h.base; ms = x.ms; body = p.spell x.instrs })
                (walk_more p kept.second second up (map bare kept.idents) (map bare (idents_after c h.base es kept.len x 1 kept.idents)) (after_counts c h.base es kept.len x kept.idents) (kept_of p kept.entries kept.bases) (record { objects = kept.below; entries = []; bases = [] }) (record { objects = kept.objects; entries = kept.entries; bases = kept.bases }) s.entries)
                steps_on);
            ends = after_ends c h.base es kept.len x kept.entries stamps.origin 1 kept.idents (λ j q e z. is_number ∙ ap (λ (y : Given I). suc y.count) (sym (only j q e z))) s.ends;
            lists = each_append (each_weak (λ y w. writable_more p kept.second second up w) s.lists) (and_each carried.0 no_more);
            given = each_append (each_weak (λ y w. (w.0, subst (λ n. y.origin ≤ n) (sym len) w.1)) s.given) (and_each (λ z. q0 (sym stamps.origin ∙ z), subst₂ (λ d n. d ≤ n) (sym stamps.origin) (sym len) q1) no_more);
            tracks = after_cut kept.floor kept.len c h.base es x kept.entries reach stamps.origin carried.0 (all_more p kept.second second up s.tracks) s.lasts (λ j q e z. subst (λ y. OneCut p second kept.floor (kept.entries ++ x ∷ []) c (settled h.base es y)) (sym (only j q e z)) (live_cut live mine));
          }
        where
          new_spans : Spans (integrated kept c h.base (needs p is) x es t)
          new_spans =
              let r = s.spans.reach in
              let b = s.spans.bases in
              let le = length-append kept.entries (x ∷ []) in
              let lb = length-append kept.bases (h.base ∷ []) in
              record { reach = omega arith; bases = omega arith; marks = Rattle.sync_model.proofs.Trims.each_after c h.base es kept.len x kept.len 1 s.spans.marks }

    -- ---- any record

    pub record Taking (kept : Parts I S) (c : ℕ) (g : Given I) (h : Change) (m : Merged I S) : Type 0 where
      pub live : is_live g ≡ true
      pub back : g.last ≤ h.base
      pub ahead : h.base ≤ kept.len
      pub above : kept.floor ≤ h.base
      pub unfilled : kept.len ≢ p.full
      pub instrs : List I
      pub read : p.unspell h.body ≡ Ok instrs
      pub entry : Changeset I
      pub others : List (Changeset I)
      pub carries : carry (cross_changesets p) (entry_of c h instrs).change (from_base h.base g.reciprocal) ≡ Ok (entry, others)
      pub state : S
      pub acts : act_changeset p entry kept.objects ≡ Some state
      pub parts_are : m.parts ≡ integrated kept c h.base (needs p instrs) entry others state

    pub taking : (kept : Parts I S) (c : ℕ) (g : Given I) (h : Change) (m : Merged I S) → Rattle.sync_model.specs.Parts.merge_by p kept c g h ≡ Ok m → Taking kept c g h m
    taking kept c g h m e =
        past (is_retired g.heir) _ _ e (λ e0 f0. past (nat_lt (suc g.count) h.number) _ _ f0 (λ e1 f1. past (nat_lt h.base g.last) _ _ f1 (λ e2 f2. past (nat_lt kept.len h.base) _ _ f2 (λ e3 f3. past (nat_lt h.base kept.floor) _ _ f3 (λ e4 f4. past (kept.len == p.full) _ _ f4 (λ e5 f5.
        body (ap not e0) (ltb-false h.base g.last e2) (ltb-false kept.len h.base e3) (ltb-false h.base kept.floor e4) (λ z. let k = test_true kept.len p.full z in cc (k, e5)) (p.unspell h.body) refl f5))))))
      where
        past : {C : Type 0} (t : Bool) (w : ServerRefusal) (y : Result (Merged I S) ServerRefusal) → (if t then Err w else y) ≡ Ok m → (t ≡ false → y ≡ Ok m → C) → C
        past true w y e go = cc
        past false w y e go = go refl e

        body : is_live g ≡ true → g.last ≤ h.base → h.base ≤ kept.len → kept.floor ≤ h.base → kept.len ≢ p.full → (o : Result (List I) (ℕ × ℕ)) → p.unspell h.body ≡ o → Rattle.sync_model.specs.Parts.merge_read_by p kept c g h o ≡ Ok m → Taking kept c g h m
        body l b a f u (Err w) is e = cc
        body l b a f u (Ok is) read e = carried_ (carry (cross_changesets p) (entry_of c h is).change (from_base h.base g.reciprocal)) refl e
          where
            applied : (x : Changeset I) (es : List (Changeset I)) → carry (cross_changesets p) (entry_of c h is).change (from_base h.base g.reciprocal) ≡ Ok (x, es) → (o : Result S (ℕ × ℕ)) → Rattle.sync_model.specs.Profile.apply_all p x.instrs kept.objects ≡ o → Rattle.sync_model.specs.Parts.merge_applied_by p kept c h is x es o ≡ Ok m → Taking kept c g h m
            applied x es cr (Err w) o_is e = cc
            applied x es cr (Ok t) o_is e = record {
              live = l;
              back = b;
              ahead = a;
              above = f;
              unfilled = u;
              instrs = is;
              read = read;
              entry = x;
              others = es;
              carries = cr;
              state = t;
              acts = Rattle.sync_model.proofs.Stamps.apply_is p x.instrs kept.objects ∙ ap Rattle.sync_theory.specs.Lists.ok_state o_is;
              parts_are = parts_of_ok (record { records = (if needs p is && not kept.second then Form ∷ [] else []) ++ Entry c h.number h.base h.ms h.body ∷ []; parts = integrated kept c h.base (needs p is) x es t }) m e;
            }
              where
                parts_of_ok : (y z : Merged I S) → ◌≡◌ {A = Result (Merged I S) ServerRefusal} (Ok y) (Ok z) → z.parts ≡ y.parts
                parts_of_ok y z q = let k : y ≡ z = cc in ap (λ w. w.parts) (sym k)

            carried_ : (o : Result (Changeset I × List (Changeset I)) Stuck) → carry (cross_changesets p) (entry_of c h is).change (from_base h.base g.reciprocal) ≡ o → Rattle.sync_model.specs.Parts.merge_carried_by p kept c h is o ≡ Ok m → Taking kept c g h m
            carried_ (Err w) o_is e = cc
            carried_ (Ok q) o_is e = applied q.0 q.1 o_is (Rattle.sync_model.specs.Profile.apply_all p q.0.instrs kept.objects) refl e
