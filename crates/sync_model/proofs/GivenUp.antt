-- What a server keeps is always such that its trimmed file gives it back.
use Rattle.std.proofs.Common.{◌≡◌, ◌≢◌, ℕ, zero, suc, ◌+◌, ◌-◌, ◌≤◌, Bool, true, false, ◌&&◌, List, [], ◌∷◌, ◌++◌, Option, Some, None, Result, Ok, Err, refl, sym, ap, ap₂, ◌∙◌, subst, arith, append_assoc, append-nil, if◌then◌else◌, ◌==◌, length, drop, take, map, nat_le, max, sum_by, le_refl}
use Rattle.std.proofs.lemmas.Bool.{leb-true}
use Rattle.std.proofs.lemmas.List.Sums.{sum_by-cons}
use Rattle.sync_theory.specs.Lists.{run}
use Rattle.sync_theory.specs.Changesets.{Changeset}
use Rattle.sync_theory.proofs.World.{put_if}
use Rattle.sync_model.specs.Profile.{Profile, Stuck, Lawful, act_changeset, cross_changesets, is_small, needs}
use Rattle.sync_model.specs.Snapshots.{Buildable}
use Rattle.sync_model.specs.Messages.{Change}
use Rattle.sync_model.specs.Servers.{ServerRecord}
use Rattle.sync_model.specs.Parts.{Given, Parts, Merged, at_ident, with_versions, settled, longer_list, extended, given_up, idents_retired, retired_for, idents_after, integrated, bound, marked}
use Rattle.sync_model.specs.Files.{readable}
use Rattle.sync_model.specs.Each.{Each, no_more, and_each}
use Rattle.sync_model.specs.Trims.{pairs_from, is_live, trimmed_given, state_from, trimmed_at, trimmed, next_floor, Spans}
use Rattle.sync_model.specs.Trimmed.{KeptBy, keeps_nothing, keeps_record, keeps_trimmed, TrimsAlike}
use Rattle.sync_model.specs.Fronts.{Kept, further_on, walk, walk_on, uuid_step, is_among, retired_step, last_of, follows, is_last, all_end, Grows, grows_on, numbers_on, entry_read, entry_step}
use Rattle.sync_model.proofs.Whole.{Writable, Tracks, bare, kept_of, AllTrack, none_track, one_retired, one_tracks, AllHeirs, no_heirs, one_heir, Whole}
use Rattle.sync_model.proofs.Lists.{at_map, heir_new, heir_other}
use Rattle.sync_model.proofs.Alike.{not_below, pairs_twice, pairs_append, pairs_settle, drop_drop, drop_snoc}
use Rattle.sync_model.proofs.Trims.{drop_length_is}
use Rattle.sync_model.proofs.Limits.{both}
use Rattle.sync_model.proofs.Sound.{join, each_weak, tracks_cut, Cut, AllCut, live_cut, dead_cut, none_cut, one_cut}
use Rattle.sync_model.proofs.Integrated.{old_each, allowed_old}
use Rattle.sync_model.proofs.Kept.{Kept_, record_kept, first_kept}

module _ {I S : Type 0} (p : Profile I S) where
  module _ {Fits Bounded Old : S → Type 0} (law : Lawful p Fits) (built : Buildable p Fits Bounded Old) where
    -- ---- the history before a floor is given up

    -- the entries act one after the other, each with the next number of its ident
    data Goes (gs : List (Given I)) : List (Changeset I) → S → List (Changeset I) → List ℕ → S → Type 0 where
      goes_none : {acc : List (Changeset I)} {a : S} → Goes gs acc a [] [] a
      goes_one : {acc : List (Changeset I)} {a b z : S} {x : Changeset I} {n : ℕ} {xs : List (Changeset I)} {bs : List ℕ} → numbers_on acc (record { origin = x.origin; number = x.number; base = n; ms = x.ms; body = p.spell x.instrs }) (at_ident x.origin gs) ≡ true → act_changeset p x a ≡ Some b → Goes gs (acc ++ x ∷ []) b xs bs z → Goes gs acc a (x ∷ xs) (n ∷ bs) z

    walk_goes : (sec : Bool) (gs : List (Given I)) (xs : List (Changeset I)) (bs : List ℕ) (a : S) (acc : List (Changeset I)) (accb : List ℕ) (z : Grows I S) → length bs ≡ length xs → Each (λ (x : Changeset I). Writable p sec x.instrs) xs → walk (entry_step p sec gs) (record { objects = a; entries = acc; bases = accb }) (kept_of p xs bs) ≡ Ok z → Goes gs acc a xs bs z.objects
    walk_goes sec gs [] [] a acc accb z l no_more e = let same : record { objects = a; entries = acc; bases = accb } ≡ z = cc in subst (λ y. Goes gs acc a [] [] y.objects) same goes_none
    walk_goes sec gs [] (b ∷ bs) a acc accb z l w e = absurd (omega arith)
    walk_goes sec gs (x ∷ xs) [] a acc accb z l w e = absurd (omega arith)
    walk_goes sec gs (x ∷ xs) (b ∷ bs) a acc accb z l (and_each w ws) e =
        on (numbers_on acc (record { origin = x.origin; number = x.number; base = b; ms = x.ms; body = p.spell x.instrs }) (at_ident x.origin gs)) refl (act_changeset p x a) refl
        (subst (λ o. walk_on (if numbers_on acc (record { origin = x.origin; number = x.number; base = b; ms = x.ms; body = p.spell x.instrs }) (at_ident x.origin gs) then entry_read p (record { objects = a; entries = acc; bases = accb }) (record { origin = x.origin; number = x.number; base = b; ms = x.ms; body = p.spell x.instrs }) o else None) (λ y. further_on (walk (entry_step p sec gs) y (kept_of p xs bs))) ≡ Ok z) (ap (readable p sec) (law.spelled x.instrs w.small) ∙ w.allowed) e)
        (λ y f. walk_goes sec gs xs bs y (acc ++ x ∷ []) (accb ++ b ∷ []) z (omega arith) ws f)
      where
        inner : {C : Type 0} {c : C} (r : Result C ℕ) → further_on r ≡ Ok c → r ≡ Ok c
        inner (Ok a) h = h
        inner (Err n) h = cc

        on : (t : Bool) → numbers_on acc (record { origin = x.origin; number = x.number; base = b; ms = x.ms; body = p.spell x.instrs }) (at_ident x.origin gs) ≡ t → (o : Option S) → act_changeset p x a ≡ o → walk_on (if t then grows_on (record { objects = a; entries = acc; bases = accb }) x b o else None) (λ y. further_on (walk (entry_step p sec gs) y (kept_of p xs bs))) ≡ Ok z
            → ((y : S) → walk (entry_step p sec gs) (record { objects = y; entries = acc ++ x ∷ []; bases = accb ++ b ∷ [] }) (kept_of p xs bs) ≡ Ok z → Goes gs (acc ++ x ∷ []) y xs bs z.objects) → Goes gs acc a (x ∷ xs) (b ∷ bs) z.objects
        on true t_is (Some y) o_is f rec = goes_one t_is o_is (rec y (inner (walk (entry_step p sec gs) (record { objects = y; entries = acc ++ x ∷ []; bases = accb ++ b ∷ [] }) (kept_of p xs bs)) f))
        on true t_is None o_is f rec = cc
        on false t_is o o_is f rec = cc

    goes_walk : (sec : Bool) (gs : List (Given I)) {acc xs : List (Changeset I)} {bs : List ℕ} {a z : S} → Goes gs acc a xs bs z → Each (λ (x : Changeset I). Writable p sec x.instrs) xs → (accb : List ℕ) → walk (entry_step p sec gs) (record { objects = a; entries = acc; bases = accb }) (kept_of p xs bs) ≡ Ok (record { objects = z; entries = acc ++ xs; bases = accb ++ bs })
    goes_walk sec gs {acc} {a = a} goes_none no_more accb = ap₂ (λ u v. Ok (record { objects = a; entries = u; bases = v })) (sym (append-nil acc)) (sym (append-nil accb))
    goes_walk sec gs {acc} {a = a} {z = z} (goes_one {b = b} {x = x} {n = n} {xs = xs} {bs = bs} num acts r) (and_each w ws) accb =
        let one : entry_step p sec gs (record { objects = a; entries = acc; bases = accb }) (record { origin = x.origin; number = x.number; base = n; ms = x.ms; body = p.spell x.instrs }) ≡ Some (record { objects = b; entries = acc ++ x ∷ []; bases = accb ++ n ∷ [] }) =
        put_if (numbers_on acc (record { origin = x.origin; number = x.number; base = n; ms = x.ms; body = p.spell x.instrs }) (at_ident x.origin gs)) _ _ num
        ∙ ap (entry_read p (record { objects = a; entries = acc; bases = accb }) (record { origin = x.origin; number = x.number; base = n; ms = x.ms; body = p.spell x.instrs })) (ap (readable p sec) (law.spelled x.instrs w.small) ∙ w.allowed)
        ∙ ap (grows_on (record { objects = a; entries = acc; bases = accb }) x n) acts in
        ap (λ o. walk_on o (λ y. further_on (walk (entry_step p sec gs) y (kept_of p xs bs)))) one
        ∙ ap further_on (goes_walk sec gs r ws (accb ++ n ∷ []))
        ∙ ap₂ (λ u v. Ok (record { objects = z; entries = u; bases = v })) (append_assoc acc (x ∷ []) xs) (append_assoc accb (n ∷ []) bs)

    -- what came before counts no more
    last_append : (c : ℕ) (pre ys : List (Changeset I)) (o : Option ℕ) → last_of c (pre ++ ys) o ≡ last_of c ys (last_of c pre o)
    last_append c [] ys o = refl
    last_append c (y ∷ pre) ys o = last_append c pre ys (if y.origin == c then Some y.number else o)

    follows_none : (c : ℕ) (ys : List (Changeset I)) (o : Option ℕ) (n : ℕ) → follows (last_of c ys o) n ≡ true → follows (last_of c ys None) n ≡ true
    follows_none c [] o n e = refl
    follows_none c (y ∷ ys) o n e = on (y.origin == c) e (λ u f. follows_none c ys u n f)
      where
        on : (b : Bool) → follows (last_of c ys (if b then Some y.number else o)) n ≡ true → ((u : Option ℕ) → follows (last_of c ys u) n ≡ true → follows (last_of c ys None) n ≡ true) → follows (last_of c ys (if b then Some y.number else None)) n ≡ true
        on true f rec = f
        on false f rec = rec o f

    last_none : (c : ℕ) (ys : List (Changeset I)) (o : Option ℕ) (n : ℕ) → is_last (last_of c ys o) n ≡ true → is_last (last_of c ys None) n ≡ true
    last_none c [] o n e = refl
    last_none c (y ∷ ys) o n e = on (y.origin == c) e (λ u f. last_none c ys u n f)
      where
        on : (b : Bool) → is_last (last_of c ys (if b then Some y.number else o)) n ≡ true → ((u : Option ℕ) → is_last (last_of c ys u) n ≡ true → is_last (last_of c ys None) n ≡ true) → is_last (last_of c ys (if b then Some y.number else None)) n ≡ true
        on true f rec = f
        on false f rec = rec o f

    ends_drop : (d k : ℕ) (xs : List (Changeset I)) (gs : List (Given I)) → all_end k xs gs ≡ true → all_end k (drop d xs) gs ≡ true
    ends_drop d k xs [] e = refl
    ends_drop d k xs (g ∷ gs) e =
        let b = both (is_last (last_of k xs None) g.count) (all_end (suc k) xs gs) e in
        join (is_last (last_of k (drop d xs) None) g.count) (all_end (suc k) (drop d xs) gs) (last_none k (drop d xs) (last_of k (take d xs) None) g.count (ap (λ o. is_last o g.count) (sym (last_append k (take d xs) (drop d xs) None) ∙ ap (λ l. last_of k l None) (split d xs)) ∙ b.0)) (ends_drop d (suc k) xs gs b.1)
      where
        split : (d : ℕ) (xs : List (Changeset I)) → take d xs ++ drop d xs ≡ xs
        split zero xs = refl
        split (suc d) [] = refl
        split (suc d) (x ∷ xs) = ap (λ l. x ∷ l) (split d xs)

    numbers_less : (pre acc : List (Changeset I)) (e : Kept) (o : Option (Given I)) → numbers_on (pre ++ acc) e o ≡ true → numbers_on acc e o ≡ true
    numbers_less pre acc e None h = h
    numbers_less pre acc e (Some g) h =
        let b = both (nat_le 1 e.number && nat_le e.number g.count) (follows (last_of e.origin (pre ++ acc) None) e.number) h in
        join (nat_le 1 e.number && nat_le e.number g.count) (follows (last_of e.origin acc None) e.number) b.0 (follows_none e.origin acc (last_of e.origin pre None) e.number (ap (λ o. follows o e.number) (sym (last_append e.origin pre acc None)) ∙ b.1))

    goes_less : {gs : List (Given I)} (pre acc : List (Changeset I)) {all xs : List (Changeset I)} {bs : List ℕ} {a z : S} → Goes gs all a xs bs z → all ≡ pre ++ acc → Goes gs acc a xs bs z
    goes_less pre acc goes_none e = goes_none
    goes_less {gs} pre acc (goes_one {x = x} {n = n} num acts r) e =
        goes_one (numbers_less pre acc (record { origin = x.origin; number = x.number; base = n; ms = x.ms; body = p.spell x.instrs }) (at_ident x.origin gs) (ap (λ l. numbers_on l (record { origin = x.origin; number = x.number; base = n; ms = x.ms; body = p.spell x.instrs }) (at_ident x.origin gs)) (sym e) ∙ num)) acts
        (goes_less pre (acc ++ x ∷ []) r (ap (λ l. l ++ x ∷ []) e ∙ append_assoc pre acc (x ∷ [])))

    -- from a later version on
    goes_drop : {gs : List (Given I)} (d : ℕ) {acc xs : List (Changeset I)} {bs : List ℕ} {a z : S} → Goes gs acc a xs bs z → (y : S) × (run (act_changeset p) (take d xs) a ≡ Some y) × Goes gs (acc ++ take d xs) y (drop d xs) (drop d bs) z
    goes_drop {gs} zero {acc} {xs} {bs} {a} {z} g = (a, refl, subst (λ l. Goes gs l a xs bs z) (sym (append-nil acc)) g)
    goes_drop {gs} (suc d) {acc} {a = a} goes_none = (a, refl, subst (λ l. Goes gs l a [] [] a) (sym (append-nil acc)) goes_none)
    goes_drop {gs} (suc d) {acc} {z = z} (goes_one {x = x} {xs = xs} {bs = bs} num acts r) =
        let k = goes_drop d r in
        (k.0, ap (λ o. Rattle.sync_theory.specs.Lists.and_then o (run (act_changeset p) (take d xs))) acts ∙ k.1, subst (λ l. Goes gs l k.0 (drop d xs) (drop d bs) z) (append_assoc acc (x ∷ []) (take d xs)) k.2)

    sets_stay : (P : S → Type 0) (Q : I → Type 0) → ((i : I) (s t : S) → Q i → P s → Rattle.sync_model.specs.Profile.act p i s ≡ Some t → P t) → {xs : List (Changeset I)} → Each (λ (x : Changeset I). Each Q x.instrs) xs → (a z : S) → P a → run (act_changeset p) xs a ≡ Some z → P z
    sets_stay P Q keeps no_more a z h e = let same : a ≡ z = cc in subst P same h
    sets_stay P Q keeps (and_each {x = x} {xs = xs} q qs) a z h e =
        let g = Rattle.sync_theory.proofs.Agree.then_gives (act_changeset p x a) (run (act_changeset p) xs) z e in
        sets_stay P Q keeps qs g.mid z (Rattle.sync_model.proofs.Starting.run_stays p law built P Q keeps x.instrs a g.mid q h g.was) g.on

    each_taken : {X : Type 0} {P : X → Type 0} (n : ℕ) {ys : List X} → Each P ys → Each P (take n ys)
    each_taken zero f = no_more
    each_taken (suc n) no_more = no_more
    each_taken (suc n) (and_each h f) = and_each h (each_taken n f)

    each_dropped : {X : Type 0} {P : X → Type 0} (n : ℕ) {ys : List X} → Each P ys → Each P (drop n ys)
    each_dropped zero f = f
    each_dropped (suc n) no_more = no_more
    each_dropped (suc n) (and_each h f) = each_dropped n f

    light : (sec : Bool) {is : List I} → Writable p sec is → Each (λ (i : I). p.weight i ≤ p.most_weight) is
    light sec {is} w = Rattle.sync_model.proofs.Starting.light_each p law built is (leb-true (sum_by p.weight is) p.most_weight (both (nat_le (length is) p.most_instrs) (nat_le (sum_by p.weight is) p.most_weight) w.small).1)

    olds : (sec : Bool) → sec ≡ false → {is : List I} → Writable p sec is → Each (λ (i : I). p.needs_second i ≡ false) is
    olds sec e {is} w = old_each p law built is (allowed_old p law built is (ap (λ b. readable p b (Ok is)) (sym e) ∙ w.allowed))

    -- idents without what lies before a floor
    bare_trimmed : (f : ℕ) (gs : List (Given I)) → map bare (map (trimmed_given f) gs) ≡ map bare gs
    bare_trimmed f [] = refl
    bare_trimmed f (g ∷ gs) = ap (λ l. bare g ∷ l) (bare_trimmed f gs)

    uuids_trimmed : (f : ℕ) (gs : List (Given I)) → map (λ g. g.uuid) (map (trimmed_given f) gs) ≡ map (λ g. g.uuid) gs
    uuids_trimmed f [] = refl
    uuids_trimmed f (g ∷ gs) = ap (λ l. g.uuid ∷ l) (uuids_trimmed f gs)

    sum_trimmed : (f : ℕ) (gs : List (Given I)) → sum_by (λ g. g.count) (map (trimmed_given f) gs) ≡ sum_by (λ g. g.count) gs
    sum_trimmed f [] = refl
    sum_trimmed f (g ∷ gs) = sum_by-cons (λ (g : Given I). g.count) (trimmed_given f g) (map (trimmed_given f) gs) ∙ ap (λ k. g.count + k) (sum_trimmed f gs) ∙ sym (sum_by-cons (λ (g : Given I). g.count) g gs)

    lasts_trimmed : (f top : ℕ) {gs : List (Given I)} → Each (λ (g : Given I). g.last ≤ top) gs → Each (λ (g : Given I). g.last ≤ top) (map (trimmed_given f) gs)
    lasts_trimmed f top no_more = no_more
    lasts_trimmed f top (and_each h r) = and_each h (lasts_trimmed f top r)

    one_trimmed : {sec : Bool} (floor f : ℕ) (xs : List (Changeset I)) (c : ℕ) (g : Given I) → floor ≤ f → Cut p sec floor xs c g → Tracks p sec c (max f g.last) (drop (max f g.last - f) (drop (f - floor) xs)) (pairs_from (max f g.last) g.reciprocal)
    one_trimmed {sec} floor f xs c g le t =
        let a = higher floor f g.last le in
        let b = low floor g.last in
        let d = low f g.last in
        let cut = tracks_cut p (max f g.last) (max f g.last - max floor g.last) t (omega arith) in
        let e1 : (max floor g.last - floor) + (max f g.last - max floor g.last) ≡ max f g.last - floor = omega arith in
        let e2 : (f - floor) + (max f g.last - f) ≡ max f g.last - floor = omega arith in
        subst (λ l. Tracks p sec c (max f g.last) l (pairs_from (max f g.last) g.reciprocal)) (drop_drop (max floor g.last - floor) (max f g.last - max floor g.last) xs ∙ ap (λ n. drop n xs) (e1 ∙ sym e2) ∙ sym (drop_drop (f - floor) (max f g.last - f) xs))
        (subst (λ qs. Tracks p sec c (max f g.last) (drop (max f g.last - max floor g.last) (drop (max floor g.last - floor) xs)) qs) (pairs_twice (max floor g.last) (max f g.last) g.reciprocal a) cut)
      where
        higher : (a b n : ℕ) → a ≤ b → max a n ≤ max b n
        higher a b n h = omega arith

        low : (a b : ℕ) → a ≤ max a b
        low a b = omega arith

    all_trimmed : {sec : Bool} (floor f : ℕ) (xs : List (Changeset I)) → floor ≤ f → {c : ℕ} {gs : List (Given I)} → AllCut p sec floor xs c gs → AllTrack p sec f (drop (f - floor) xs) c (map (trimmed_given f) gs)
    all_trimmed floor f xs le none_cut = none_track
    all_trimmed floor f xs le {c} (one_cut {g = g} (live_cut l t) ts) = one_tracks l (one_trimmed floor f xs c g le t) (all_trimmed floor f xs le ts)
    all_trimmed floor f xs le {c} (one_cut {g = g} (dead_cut d e) ts) = one_retired d (ap (pairs_from (max f g.last)) e) (all_trimmed floor f xs le ts)

    cuts_trimmed : {sec : Bool} (floor f : ℕ) (xs : List (Changeset I)) → floor ≤ f → {c : ℕ} {gs : List (Given I)} → AllCut p sec floor xs c gs → AllCut p sec f (drop (f - floor) xs) c (map (trimmed_given f) gs)
    cuts_trimmed floor f xs le none_cut = none_cut
    cuts_trimmed {sec} floor f xs le {c} (one_cut {g = g} (dead_cut d e) ts) = one_cut (dead_cut d (ap (pairs_from (max f g.last)) e)) (cuts_trimmed floor f xs le ts)
    cuts_trimmed {sec} floor f xs le {c} (one_cut {g = g} (live_cut l t) ts) =
        one_cut (live_cut l (subst (λ qs. Tracks p sec c (max f g.last) (drop (max f g.last - f) (drop (f - floor) xs)) qs) (sym (pairs_twice (max f g.last) (max f g.last) g.reciprocal (le_refl (max f g.last)))) (one_trimmed floor f xs c g le t))) (cuts_trimmed floor f xs le ts)

    heirs_trimmed : (qs : List (ℕ × ℕ)) (f c : ℕ) {gs : List (Given I)} → AllHeirs qs c gs → AllHeirs qs c (map (trimmed_given f) gs)
    heirs_trimmed qs f c no_heirs = no_heirs
    heirs_trimmed qs f c (one_heir h hs) = one_heir h (heirs_trimmed qs f (suc c) hs)

    module _ (kept : Parts I S) (k : Kept_ p law built kept) where
      abbrev f : ℕ
      f = next_floor kept

      floors : (kept.floor ≤ next_floor kept) × (next_floor kept ≤ kept.len)
      floors = Rattle.sync_model.proofs.Trims.next_floor_fits p kept k.sound.spans

      abbrev d : ℕ
      d = next_floor kept - kept.floor

      goes : Goes (map bare kept.idents) [] kept.below kept.entries kept.bases kept.objects
      goes = walk_goes kept.second (map bare kept.idents) kept.entries kept.bases kept.below [] [] (record { objects = kept.objects; entries = kept.entries; bases = kept.bases }) k.sound.spans.bases k.sound.lists k.sound.entries

      cut_goes : (y : S) × (run (act_changeset p) (take d kept.entries) kept.below ≡ Some y) × Goes (map bare kept.idents) (take d kept.entries) y (drop d kept.entries) (drop d kept.bases) kept.objects
      cut_goes = goes_drop d goes

      state_is : state_from p kept (next_floor kept) ≡ cut_goes.0
      state_is = ap (Rattle.sync_model.specs.Clients.state_or kept.below) cut_goes.1

      walk_from : walk (entry_step p kept.second (map bare (map (trimmed_given f) kept.idents))) (record { objects = state_from p kept f; entries = []; bases = [] }) (kept_of p (drop d kept.entries) (drop d kept.bases)) ≡ Ok (record { objects = kept.objects; entries = drop d kept.entries; bases = drop d kept.bases })
      walk_from =
          let g = goes_less (take d kept.entries) [] cut_goes.2 (sym (append-nil (take d kept.entries))) in
          ap₂ (λ a gs. walk (entry_step p kept.second gs) (record { objects = a; entries = []; bases = [] }) (kept_of p (drop d kept.entries) (drop d kept.bases))) state_is (bare_trimmed f kept.idents)
          ∙ goes_walk kept.second (map bare kept.idents) g (each_dropped d k.sound.lists) []

      trimmed_spans : Spans (trimmed p kept)
      trimmed_spans = Rattle.sync_model.proofs.Trims.trims_span p kept k.sound.spans

      ends_from : all_end 1 (drop d kept.entries) (map bare (map (trimmed_given f) kept.idents)) ≡ true
      ends_from = ap (all_end 1 (drop d kept.entries)) (bare_trimmed f kept.idents) ∙ ends_drop d 1 kept.entries (map bare kept.idents) k.sound.ends

      uuids_from : walk uuid_step [] (map (λ g. g.uuid) (map (trimmed_given f) kept.idents)) ≡ Ok (map (λ g. g.uuid) (map (trimmed_given f) kept.idents))
      uuids_from = subst (λ us. walk uuid_step [] us ≡ Ok us) (sym (uuids_trimmed f kept.idents)) k.sound.uuids

      pub whole_trimmed : Whole p (trimmed p kept)
      whole_trimmed = record {
        spans = trimmed_spans;
        uuids = uuids_from;
        retired = ap (λ n. walk (retired_step n) [] kept.retired) (Rattle.sync_model.proofs.Lists.length_map (trimmed_given f) kept.idents) ∙ k.sound.retired;
        heirs = heirs_trimmed kept.retired f 1 k.sound.heirs;
        sum = sum_trimmed f kept.idents ∙ k.sound.sum;
        full = k.sound.full;
        lasts = lasts_trimmed f kept.len k.sound.lasts;
        entries = walk_from;
        ends = ends_from;
        tracks = all_trimmed kept.floor f kept.entries floors.0 k.sound.tracks;
      }

      pub trimmed_kept : Kept_ p law built (trimmed p kept)
      trimmed_kept = record {
        sound = record {
          spans = trimmed_spans;
          uuids = uuids_from;
          retired = ap (λ n. walk (retired_step n) [] kept.retired) (Rattle.sync_model.proofs.Lists.length_map (trimmed_given f) kept.idents) ∙ k.sound.retired;
          heirs = heirs_trimmed kept.retired f 1 k.sound.heirs;
          sum = sum_trimmed f kept.idents ∙ k.sound.sum;
          full = k.sound.full;
          lasts = lasts_trimmed f kept.len k.sound.lasts;
          entries = walk_from;
          ends = ends_from;
          lists = each_dropped d k.sound.lists;
          given = subst (λ n. Each (λ (x : Changeset I). (x.origin ≢ 0) × (x.origin ≤ n)) (drop d kept.entries)) (sym (Rattle.sync_model.proofs.Lists.length_map (trimmed_given f) kept.idents)) (each_dropped d k.sound.given);
          tracks = cuts_trimmed kept.floor f kept.entries floors.0 k.sound.tracks;
        };
        based = record {
          fits = subst Fits (sym state_is) (Rattle.sync_theory.proofs.Agree.run_keeps Fits (act_changeset p) (Rattle.sync_model.proofs.Stamps.sets_law p law).keeps (take d kept.entries) kept.below cut_goes.0 k.based.fits cut_goes.1);
          bounded = subst Bounded (sym state_is) (sets_stay Bounded (λ i. p.weight i ≤ p.most_weight) built.keeps (each_taken d (each_weak (λ x w. light kept.second w) k.sound.lists)) kept.below cut_goes.0 k.based.bounded cut_goes.1);
          old = λ e. subst Old (sym state_is) (sets_stay Old (λ i. p.needs_second i ≡ false) built.keeps_old (each_taken d (each_weak (λ x w. olds kept.second e w) k.sound.lists)) kept.below cut_goes.0 (k.based.old e) cut_goes.1);
        };
      }

    pub all_kept : {kept : Parts I S} → KeptBy p kept → Kept_ p law built kept
    all_kept keeps_nothing = first_kept p law built
    all_kept (keeps_record {kept = kept} r k e) = record_kept p law built kept (all_kept k) r e
    all_kept (keeps_trimmed {kept = kept} k) = trimmed_kept kept (all_kept k)

  -- ---- what it keeps by

  pub by_records : (rs : List ServerRecord) (kept : Parts I S) → KeptBy p kept → Rattle.sync_model.specs.Parts.parts_open p kept rs ≡ true → KeptBy p (Rattle.sync_model.specs.Parts.after_parts p kept rs)
  by_records [] kept k e = k
  by_records (r ∷ rs) kept k e =
      let b = both (Rattle.sync_model.specs.Parts.admits_part p kept r) _ e in
      by_records rs (Rattle.sync_model.specs.Parts.after_part p kept r) (keeps_record r k b.0) b.1

  pub by_message : (kept : Parts I S) → KeptBy p kept → (m : Rattle.sync_model.specs.Messages.Message) → KeptBy p (Rattle.sync_model.specs.Parts.serve_by p kept m).parts
  by_message kept k m =
      let w = Rattle.sync_model.proofs.Written.serve_writes p kept m in
      subst (KeptBy p) w.gives (by_records (Rattle.sync_model.specs.Parts.serve_by p kept m).records kept k w.opens)

  -- the file that replaces a server's, with what is appended since
  pub trims_back : {Fits Bounded Old : S → Type 0} → Lawful p Fits → Buildable p Fits Bounded Old → (kept : Parts I S) → KeptBy p kept → (more : List ServerRecord) → Rattle.sync_model.specs.Parts.parts_open p (trimmed p kept) more ≡ true → Rattle.sync_model.specs.Fronts.file_gives p (map (λ r. Some r) (Rattle.sync_model.specs.Trimmed.trim_records p kept ++ more)) ≡ Ok (Rattle.sync_model.specs.Parts.after_parts p (trimmed p kept) more)
  trims_back law built kept k more e =
      let a = all_kept law built k in
      let t = trimmed_kept law built kept a in
      Rattle.sync_model.proofs.Trimmed.front_back p law built (trimmed p kept) (whole_trimmed law built kept a) t.based.fits t.based.bounded t.based.old more e

  -- its replies, lengths and objects
  pub trims_alike : {Fits Bounded Old : S → Type 0} → Lawful p Fits → Buildable p Fits Bounded Old → (kept : Parts I S) → KeptBy p kept → (ms : List Rattle.sync_model.specs.Messages.Message) → Rattle.std.specs.List.list_any Rattle.sync_model.specs.Trims.is_trimmed (Rattle.sync_model.specs.Trims.replies_by p (trimmed p kept) ms) ≡ false → TrimsAlike p kept ms
  trims_alike law built kept k ms e =
      let a = all_kept law built k in
      let r = Rattle.sync_model.proofs.Alike.all_same p ms kept (trimmed p kept) (Rattle.sync_model.proofs.Trims.trims_less p kept a.sound.spans) e in
      record { file = ap (λ l. Rattle.sync_model.specs.Fronts.file_gives p (map (λ r. Some r) l)) (sym (append-nil (Rattle.sync_model.specs.Trimmed.trim_records p kept))) ∙ trims_back law built kept k [] refl; replies = r.0; lengths = r.1.len; objects = r.1.objects }
