-- Every record leaves what a server keeps sound, and its state at the floor such that it can be built.
use Rattle.std.proofs.Common.{◌≡◌, ◌≢◌, ⊎_elim, ℕ, zero, suc, ◌+◌, ◌≤◌, Bool, true, false, ◌&&◌, ◌||◌, not, List, [], ◌∷◌, ◌++◌, Option, Some, None, Result, Ok, Err, refl, sym, ap, ap₂, ◌∙◌, subst, arith, if◌then◌else◌, ◌==◌, length, map, nat_le, nat_lt, sum_by, eqb-true}
use Rattle.std.proofs.lemmas.Bool.{le-leb, leb-true}
use Rattle.std.proofs.lemmas.List.Sums.{sum_by-cons}
use Rattle.sync_theory.specs.Changesets.{Changeset}
use Rattle.sync_theory.proofs.Server.{test_true, test_false}
use Rattle.sync_theory.proofs.World.{put_if, put_unless, same_or_not}
use Rattle.sync_model.specs.Profile.{Profile, Lawful, needs}
use Rattle.sync_model.specs.Snapshots.{Buildable}
use Rattle.sync_model.specs.Messages.{Change}
use Rattle.sync_model.specs.Servers.{ServerRecord, Client, Entry, Form, Retired, Settled, ServerRefusal, heir_of, is_retired, place_of}
use Rattle.sync_model.specs.Parts.{Given, Parts, Merged, at_ident, with_versions, settled, longer_list, extended, given_up, idents_retired, retired_for, idents_after, integrated, bound, marked}
use Rattle.sync_model.specs.Each.{Each, no_more, and_each}
use Rattle.sync_model.specs.Worlds.{at}
use Rattle.sync_model.specs.Fronts.{walk, uuid_step, is_among, retired_step, last_of, is_last, all_end}
use Rattle.sync_model.proofs.Whole.{bare, kept_of, AllHeirs, no_heirs, one_heir}
use Rattle.sync_model.proofs.Lists.{heir_new, heir_other}
use Rattle.sync_model.proofs.Trims.{drop_length_is}
use Rattle.sync_model.proofs.Limits.{both}
use Rattle.sync_model.proofs.Sound.{join, walk_then, Counts, at_place, walk_more, OneCut, AllCut, Sound, sound_first, sound_marked, sound_form, heirs_at, sound_bound, dead_cut, none_cut, one_cut}
use Rattle.sync_model.proofs.Integrated.{taking, sound_integrated}

module _ {I S : Type 0} (p : Profile I S) where
  module _ {Fits Bounded Old : S → Type 0} (law : Lawful p Fits) (built : Buildable p Fits Bounded Old) where
    -- the state at the floor can be built, in the form that the file has
    pub record Based (kept : Parts I S) : Type 0 where
      pub fits : Fits kept.below
      pub bounded : Bounded kept.below
      pub old : kept.second ≡ false → Old kept.below

    pub record Kept_ (kept : Parts I S) : Type 0 where
      pub sound : Sound p kept
      pub based : Based kept

    pub entry_kept : (kept : Parts I S) → Kept_ kept → (c : ℕ) (h : Change) (o : Option (Given I)) → at_ident c kept.idents ≡ o → Rattle.sync_model.specs.Parts.admits_entry p kept c h o ≡ true → Kept_ (Rattle.sync_model.specs.Parts.after_entry p kept c h o)
    entry_kept kept k c h None here e = k
    entry_kept kept k c h (Some g) here e =
        let a = both (h.number == suc g.count) _ e in
        let b = both (not (Rattle.sync_model.specs.Parts.is_newer p (p.unspell h.body) && not kept.second)) _ a.1 in
        on (Rattle.sync_model.specs.Parts.merge_by p kept c g h) refl (eqb-true h.number (suc g.count) a.0) b.1
      where
        on : (r : Result (Merged I S) ServerRefusal) → Rattle.sync_model.specs.Parts.merge_by p kept c g h ≡ r → h.number ≡ suc g.count → Rattle.sync_model.specs.Parts.is_integrated r ≡ true → Kept_ (Rattle.sync_model.specs.Parts.after_change kept r)
        on (Err w) r_is number f = cc
        on (Ok m) r_is number f =
            let t = taking p law built kept c g h m r_is in
            subst Kept_ (sym t.parts_are) (record {
              sound = sound_integrated p law built kept k.sound c g here h t.instrs t.read t.entry t.others t.state t.carries t.acts t.back t.above t.ahead number t.unfilled t.live;
              based = record { fits = k.based.fits; bounded = k.based.bounded; old = λ z. k.based.old (first kept.second (needs p t.instrs) z) };
            })
          where
            first : (a b : Bool) → (a || b) ≡ false → a ≡ false
            first true b z = cc
            first false b z = refl

    pub mark_kept : (kept : Parts I S) → Kept_ kept → (c n : ℕ) (o : Option (Given I)) → Rattle.sync_model.specs.Parts.admits_mark p kept n o ≡ true → Kept_ (record kept { idents = marked c n 1 kept.idents })
    mark_kept kept k c n None e = cc
    mark_kept kept k c n (Some g) e = let a = both (nat_lt g.mark n) (nat_le n kept.len) e in record { sound = sound_marked p kept k.sound c n (leb-true n kept.len a.1); based = record { fits = k.based.fits; bounded = k.based.bounded; old = k.based.old } }

    -- ---- an ident is retired

    pub retired_uuids : (c by k : ℕ) (gs : List (Given I)) → map (λ g. g.uuid) (idents_retired c by k gs) ≡ map (λ g. g.uuid) gs
    retired_uuids c by k [] = refl
    retired_uuids c by k (g ∷ gs) = ap₂ (λ u l. u ∷ l) (on (k == c)) (retired_uuids c by (suc k) gs)
      where
        on : (b : Bool) → (if b then given_up by g else g).uuid ≡ g.uuid
        on true = refl
        on false = refl

    pub retired_length : (c by k : ℕ) (gs : List (Given I)) → length (idents_retired c by k gs) ≡ length gs
    retired_length c by k [] = refl
    retired_length c by k (g ∷ gs) = ap suc (retired_length c by (suc k) gs)

    pub retired_count : (by : ℕ) (g : Given I) (b : Bool) → (if b then given_up by g else g).count ≡ g.count
    retired_count by g true = refl
    retired_count by g false = refl

    pub retired_sum : (c by k : ℕ) (gs : List (Given I)) → sum_by (λ g. g.count) (idents_retired c by k gs) ≡ sum_by (λ g. g.count) gs
    retired_sum c by k [] = refl
    retired_sum c by k (g ∷ gs) = sum_by-cons (λ (g : Given I). g.count) (if k == c then given_up by g else g) (idents_retired c by (suc k) gs) ∙ ap₂ (λ m n. m + n) (retired_count by g (k == c)) (retired_sum c by (suc k) gs) ∙ sym (sum_by-cons (λ (g : Given I). g.count) g gs)

    pub retired_lasts : (c by top k : ℕ) {gs : List (Given I)} → Each (λ (g : Given I). g.last ≤ top) gs → Each (λ (g : Given I). g.last ≤ top) (idents_retired c by k gs)
    retired_lasts c by top k no_more = no_more
    retired_lasts c by top k (and_each {x = g} m f) = and_each (on (k == c)) (retired_lasts c by top (suc k) f)
      where
        on : (b : Bool) → (if b then given_up by g else g).last ≤ top
        on true = m
        on false = m

    pub retired_counts_at : (c by k : ℕ) (gs : List (Given I)) (j : ℕ) (g : Given I) → at (map bare gs) j ≡ Some g → (h : Given I) × (at (map bare (idents_retired c by k gs)) j ≡ Some h) × (g.count ≤ h.count)
    retired_counts_at c by k [] j g e = cc
    retired_counts_at c by k (a ∷ gs) zero g e = let same : bare a ≡ g = cc in (bare (if k == c then given_up by a else a), refl, subst (λ (q : Given I). q.count ≤ (if k == c then given_up by a else a).count) same (let r = retired_count by a (k == c) in omega arith))
    retired_counts_at c by k (a ∷ gs) (suc j) g e = retired_counts_at c by (suc k) gs j g e

    pub retired_counts : (c by : ℕ) (gs : List (Given I)) → Counts (map bare gs) (map bare (idents_retired c by 1 gs))
    unfolding Counts
    retired_counts c by gs zero g e = cc
    retired_counts c by gs (suc j) g e = retired_counts_at c by 1 gs j g e

    pub retired_ends : (c by d : ℕ) (xs : List (Changeset I)) (k : ℕ) (gs : List (Given I)) → all_end d xs (map bare (idents_retired c by k gs)) ≡ all_end d xs (map bare gs)
    retired_ends c by d xs k [] = refl
    retired_ends c by d xs k (g ∷ gs) = ap₂ (λ n b. is_last (last_of d xs None) n && b) (retired_count by g (k == c)) (retired_ends c by (suc d) xs (suc k) gs)

    pub retired_cuts : {second : Bool} {floor : ℕ} {xs : List (Changeset I)} (c by : ℕ) {d : ℕ} (k : ℕ) {gs : List (Given I)} → AllCut p second floor xs d gs → AllCut p second floor xs d (idents_retired c by k gs)
    retired_cuts c by k none_cut = none_cut
    retired_cuts {second} {floor} {xs} c by {d} k (one_cut {g = g} t ts) = one_cut (on (k == c)) (retired_cuts c by (suc k) ts)
      where
        on : (b : Bool) → OneCut p second floor xs d (if b then given_up by g else g)
        on true = dead_cut refl refl
        on false = t

    pub retired_heirs : (qs : List (ℕ × ℕ)) (c by : ℕ) → heir_of c qs ≡ None → (k : ℕ) {gs : List (Given I)} → AllHeirs qs k gs → AllHeirs (qs ++ (c, by) ∷ []) k (idents_retired c by k gs)
    retired_heirs qs c by none k no_heirs = no_heirs
    retired_heirs qs c by none k (one_heir {g = g} h hs) =
        one_heir (⊎_elim
        (λ is. ap (λ (q : Given I). q.heir) (put_if (k == c) (given_up by g) g (test_true k c is)) ∙ sym (heir_new c by qs none) ∙ ap (λ d. heir_of d (qs ++ (c, by) ∷ [])) (sym is))
        (λ ne. ap (λ (q : Given I). q.heir) (put_unless (k == c) (given_up by g) g (test_false k c ne)) ∙ h ∙ sym (heir_other k c by qs ne))
        (same_or_not k c))
        (retired_heirs qs c by none (suc k) hs)

    pub sound_retired : (kept : Parts I S) → Sound p kept → (c by : ℕ) (g h : Given I) → at_ident c kept.idents ≡ Some g → at_ident by kept.idents ≡ Some h → not (c == by) ≡ true → not (is_retired g.heir) ≡ true → Sound p (retired_for kept c by)
    sound_retired kept s c by g h here there other live =
        let given_ = at_place c kept.idents g here in
        let heir_given = at_place by kept.idents h there in
        let heir_is = at_it c here in
        let one : retired_step (length kept.idents) kept.retired (c, by) ≡ Some (kept.retired ++ (c, by) ∷ []) =
        put_if ((is_among (length kept.idents) c && is_among (length kept.idents) by) && (not (c == by) && not (is_retired (heir_of c kept.retired)))) _ _
        (join (is_among (length kept.idents) c && is_among (length kept.idents) by) _ (join (is_among (length kept.idents) c) (is_among (length kept.idents) by) (among c given_.0 given_.1) (among by heir_given.0 heir_given.1)) (join (not (c == by)) _ other (ap (λ o. not (is_retired o)) (sym heir_is) ∙ live))) in
        record {
          spans = Rattle.sync_model.proofs.Trims.retired_spans p kept s.spans c by;
          uuids = subst (λ us. walk uuid_step [] us ≡ Ok us) (sym (retired_uuids c by 1 kept.idents)) s.uuids;
          retired = ap (λ n. walk (retired_step n) [] (kept.retired ++ (c, by) ∷ [])) (retired_length c by 1 kept.idents) ∙ walk_then (retired_step (length kept.idents)) [] kept.retired (kept.retired ++ (c, by) ∷ []) kept.retired (c, by) s.retired one;
          heirs = retired_heirs kept.retired c by (nobody (heir_of c kept.retired) (ap (λ o. not (is_retired o)) (sym heir_is) ∙ live)) 1 s.heirs;
          sum = retired_sum c by 1 kept.idents ∙ s.sum;
          full = s.full;
          lasts = retired_lasts c by kept.len 1 s.lasts;
          entries = walk_more p kept.second kept.second (λ e. e) (map bare kept.idents) (map bare (idents_retired c by 1 kept.idents)) (retired_counts c by kept.idents) (kept_of p kept.entries kept.bases) (record { objects = kept.below; entries = []; bases = [] }) (record { objects = kept.objects; entries = kept.entries; bases = kept.bases }) s.entries;
          ends = retired_ends c by 1 kept.entries 1 kept.idents ∙ s.ends;
          lists = s.lists;
          given = subst (λ k. Each (λ (x : Changeset I). (x.origin ≢ 0) × (x.origin ≤ k)) kept.entries) (sym (retired_length c by 1 kept.idents)) s.given;
          tracks = retired_cuts c by 1 s.tracks;
        }
      where
        at_it : (d : ℕ) → at_ident d kept.idents ≡ Some g → g.heir ≡ heir_of d kept.retired
        at_it zero e = cc
        at_it (suc j) e = let z : 1 + j ≡ suc j = omega arith in heirs_at p kept.retired 1 s.heirs j g e ∙ ap (λ d. heir_of d kept.retired) z

        among : (d : ℕ) → d ≢ 0 → d ≤ length kept.idents → is_among (length kept.idents) d ≡ true
        among d ne le = join (nat_le 1 d) (nat_le d (length kept.idents)) (le-leb 1 d (positive d ne)) (le-leb d (length kept.idents) le)
          where
            positive : (m : ℕ) → m ≢ 0 → 1 ≤ m
            positive zero q = absurd (q refl)
            positive (suc m) q = omega arith

        nobody : (o : Option ℕ) → not (is_retired o) ≡ true → o ≡ None
        nobody None e = refl
        nobody (Some by) e = cc

    pub retired_kept : (kept : Parts I S) → Kept_ kept → (c by : ℕ) (o q : Option (Given I)) → at_ident c kept.idents ≡ o → at_ident by kept.idents ≡ q → Rattle.sync_model.specs.Parts.admits_retired p c by o q ≡ true → Kept_ (retired_for kept c by)
    retired_kept kept k c by None q here there e = cc
    retired_kept kept k c by (Some g) None here there e = cc
    retired_kept kept k c by (Some g) (Some h) here there e = let a = both (not (c == by)) (not (is_retired g.heir)) e in record { sound = sound_retired kept k.sound c by g h here there a.0 a.1; based = record { fits = k.based.fits; bounded = k.based.bounded; old = k.based.old } }

    pub record_kept : (kept : Parts I S) → Kept_ kept → (r : ServerRecord) → Rattle.sync_model.specs.Parts.admits_part p kept r ≡ true → Kept_ (Rattle.sync_model.specs.Parts.after_part p kept r)
    record_kept kept k (Client u) e = record {
      sound = sound_bound p kept k.sound u (eqb-true (place_of u (map (λ g. g.uuid) kept.idents)) 0 (both (place_of u (map (λ g. g.uuid) kept.idents) == 0) _ e).0);
      based = record { fits = k.based.fits; bounded = k.based.bounded; old = k.based.old };
    }
    record_kept kept k Form e = record { sound = sound_form p kept k.sound; based = record { fits = k.based.fits; bounded = k.based.bounded; old = λ z. absurd (never z) } }
      where
        never : true ≡ false → ⊥
        never z = cc
    record_kept kept k (Retired c by) e = retired_kept kept k c by (at_ident c kept.idents) (at_ident by kept.idents) refl refl e
    record_kept kept k (Settled c n) e = mark_kept kept k c n (at_ident c kept.idents) e
    record_kept kept k (Entry c number base ms body) e = entry_kept kept k c (record { number = number; base = base; ms = ms; body = body }) (at_ident c kept.idents) refl e
    record_kept kept k (ServerRecord.Part body) e = k
    record_kept kept k (ServerRecord.Floor version) e = k
    record_kept kept k (ServerRecord.Count c number base n) e = k
    record_kept kept k (ServerRecord.Carried origin number base ms body) e = k
    record_kept kept k (ServerRecord.Past c version ms body) e = k

    pub first_kept : Kept_ (Rattle.sync_model.specs.Parts.no_parts p)
    first_kept = record { sound = sound_first p; based = record { fits = law.first; bounded = built.first; old = λ z. built.first_old } }
