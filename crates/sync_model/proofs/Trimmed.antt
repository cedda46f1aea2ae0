-- A file that trimming wrote is read as what the server keeps.
use Rattle.std.proofs.Common.{◌≡◌, ℕ, zero, suc, ◌+◌, ◌-◌, ◌≤◌, Bool, true, false, ◌&&◌, not, List, [], ◌∷◌, ◌++◌, Option, Some, None, Result, Ok, Err, refl, sym, ap, ap₂, ◌∙◌, subst, arith, append_assoc, if◌then◌else◌, ◌==◌, length, drop, map, nat_le, nat_lt, max, sum_by, le_refl, length-append}
use Rattle.std.proofs.lemmas.Bool.{ltb-false, le-leb}
use Rattle.sync_theory.specs.Changesets.{Changeset}
use Rattle.sync_theory.proofs.World.{put_if, put_unless}
use Rattle.sync_model.specs.Bytes.{Uuid}
use Rattle.sync_model.specs.Profile.{Profile, Lawful, is_small}
use Rattle.sync_model.specs.Snapshots.{Buildable, grown}
use Rattle.sync_model.specs.Each.{Each, no_more, and_each}
use Rattle.sync_model.specs.Servers.{ServerRecord, Client, Entry, Form, Retired, Settled, Part, Floor, Count, Carried, Past, heir_of, is_retired}
use Rattle.sync_model.specs.Parts.{Given, Parts, at_ident, no_parts, after_part, after_parts, admits_part, parts_open}
use Rattle.sync_model.specs.Files.{is_empty, readable}
use Rattle.sync_model.specs.Worlds.{at}
use Rattle.sync_model.specs.Trims.{pairs_from, is_live}
use Rattle.sync_model.specs.Trimmed.{count_records, entry_records, crossed_of, crossed_records, front_records}
use Rattle.sync_model.specs.Fronts.{leading, taking, taking_all, Counted, Kept, Crossed, of_kind, part_of, uuid_is, retired_is, count_is, entry_is, crossed_is, walk_on, further_on, walk, then_at, is_among, retired_step, counted_sum, all_within, with_counts, all_end, Grows, entry_step, with_pairs, front_crossed, front_entries, front_counts, front_retired, front_uuids, front_behind, front_parts, begins_trimmed, front_of, rest_of, file_gives}
use Rattle.sync_model.proofs.Whole.{Writable, bare, kept_of, AllTrack, none_track, one_retired, one_tracks, Whole}
use Rattle.sync_model.proofs.Starting.{grown_build, each_allowed, each_old}
use Rattle.sync_model.proofs.Limits.{both}
use Rattle.sync_model.proofs.Fronts.{read_all, rest_opens, Gives, leading_is, taking_all_is, taking_is, parts_give, uuids_give, counted, counts_give, entries_give, walk_parts, counted_length, counted_total, walk_counts, within_all, with_counts_is, retired_give, changed, all_changed, all_passed, gives_append, changed_gives, tracks_from, walk_all, pairs_back, gives_none, gives_one}

-- a record that stands only at a front
abbrev pub NotFront : ServerRecord → Type 0
NotFront (Client id) = Unit {0}
NotFront (Entry origin number base ms body) = Unit {0}
NotFront Form = Unit {0}
NotFront (Settled c n) = Unit {0}
NotFront (Retired ident by) = Unit {0}
NotFront (Part body) = ⊥
NotFront (Floor version) = ⊥
NotFront (Count c number base n) = ⊥
NotFront (Carried origin number base ms body) = ⊥
NotFront (Past c version ms body) = ⊥

gives_length : {A : Type 0} {kind : ServerRecord → Option A} {rs : List ServerRecord} {xs : List A} → Gives kind rs xs → length rs ≡ length xs
gives_length gives_none = refl
gives_length (gives_one h g) = ap suc (gives_length g)

no_counts : {rs : List ServerRecord} → Each NotFront rs → leading (of_kind count_is) (read_all rs) ≡ []
no_counts no_more = refl
no_counts (and_each {x = Client id} h f) = refl
no_counts (and_each {x = Entry origin number base ms body} h f) = refl
no_counts (and_each {x = Form} h f) = refl
no_counts (and_each {x = Settled c n} h f) = refl
no_counts (and_each {x = Retired ident by} h f) = refl
no_counts (and_each {x = Part body} h f) = absurd h
no_counts (and_each {x = Floor version} h f) = absurd h
no_counts (and_each {x = Count c number base n} h f) = absurd h
no_counts (and_each {x = Carried origin number base ms body} h f) = absurd h
no_counts (and_each {x = Past c version ms body} h f) = absurd h

no_entries_ : {rs : List ServerRecord} → Each NotFront rs → leading (of_kind entry_is) (read_all rs) ≡ []
no_entries_ no_more = refl
no_entries_ (and_each {x = Client id} h f) = refl
no_entries_ (and_each {x = Entry origin number base ms body} h f) = refl
no_entries_ (and_each {x = Form} h f) = refl
no_entries_ (and_each {x = Settled c n} h f) = refl
no_entries_ (and_each {x = Retired ident by} h f) = refl
no_entries_ (and_each {x = Part body} h f) = absurd h
no_entries_ (and_each {x = Floor version} h f) = absurd h
no_entries_ (and_each {x = Count c number base n} h f) = absurd h
no_entries_ (and_each {x = Carried origin number base ms body} h f) = absurd h
no_entries_ (and_each {x = Past c version ms body} h f) = absurd h

no_crossed : {rs : List ServerRecord} → Each NotFront rs → leading (of_kind crossed_is) (read_all rs) ≡ []
no_crossed no_more = refl
no_crossed (and_each {x = Client id} h f) = refl
no_crossed (and_each {x = Entry origin number base ms body} h f) = refl
no_crossed (and_each {x = Form} h f) = refl
no_crossed (and_each {x = Settled c n} h f) = refl
no_crossed (and_each {x = Retired ident by} h f) = refl
no_crossed (and_each {x = Part body} h f) = absurd h
no_crossed (and_each {x = Floor version} h f) = absurd h
no_crossed (and_each {x = Count c number base n} h f) = absurd h
no_crossed (and_each {x = Carried origin number base ms body} h f) = absurd h
no_crossed (and_each {x = Past c version ms body} h f) = absurd h

-- what stands behind records of another kind
crossed_counts : {rs : List ServerRecord} {xs : List Crossed} (rest : List ServerRecord) → Gives crossed_is rs xs → leading (of_kind count_is) (read_all rest) ≡ [] → leading (of_kind count_is) (read_all (rs ++ rest)) ≡ []
crossed_counts rest gives_none e = e
crossed_counts rest (gives_one {r = Past c version ms body} h g) e = refl
crossed_counts rest (gives_one {r = Client id} h g) e = cc
crossed_counts rest (gives_one {r = Entry origin number base ms body} h g) e = cc
crossed_counts rest (gives_one {r = Form} h g) e = cc
crossed_counts rest (gives_one {r = Settled c n} h g) e = cc
crossed_counts rest (gives_one {r = Retired ident by} h g) e = cc
crossed_counts rest (gives_one {r = Part body} h g) e = cc
crossed_counts rest (gives_one {r = Floor version} h g) e = cc
crossed_counts rest (gives_one {r = Count c number base n} h g) e = cc
crossed_counts rest (gives_one {r = Carried origin number base ms body} h g) e = cc

crossed_entries : {rs : List ServerRecord} {xs : List Crossed} (rest : List ServerRecord) → Gives crossed_is rs xs → leading (of_kind entry_is) (read_all rest) ≡ [] → leading (of_kind entry_is) (read_all (rs ++ rest)) ≡ []
crossed_entries rest gives_none e = e
crossed_entries rest (gives_one {r = Past c version ms body} h g) e = refl
crossed_entries rest (gives_one {r = Client id} h g) e = cc
crossed_entries rest (gives_one {r = Entry origin number base ms body} h g) e = cc
crossed_entries rest (gives_one {r = Form} h g) e = cc
crossed_entries rest (gives_one {r = Settled c n} h g) e = cc
crossed_entries rest (gives_one {r = Retired ident by} h g) e = cc
crossed_entries rest (gives_one {r = Part body} h g) e = cc
crossed_entries rest (gives_one {r = Floor version} h g) e = cc
crossed_entries rest (gives_one {r = Count c number base n} h g) e = cc
crossed_entries rest (gives_one {r = Carried origin number base ms body} h g) e = cc

entries_counts : {rs : List ServerRecord} {xs : List Kept} (rest : List ServerRecord) → Gives entry_is rs xs → leading (of_kind count_is) (read_all rest) ≡ [] → leading (of_kind count_is) (read_all (rs ++ rest)) ≡ []
entries_counts rest gives_none e = e
entries_counts rest (gives_one {r = Carried origin number base ms body} h g) e = refl
entries_counts rest (gives_one {r = Past c version ms body} h g) e = cc
entries_counts rest (gives_one {r = Client id} h g) e = cc
entries_counts rest (gives_one {r = Entry origin number base ms body} h g) e = cc
entries_counts rest (gives_one {r = Form} h g) e = cc
entries_counts rest (gives_one {r = Settled c n} h g) e = cc
entries_counts rest (gives_one {r = Retired ident by} h g) e = cc
entries_counts rest (gives_one {r = Part body} h g) e = cc
entries_counts rest (gives_one {r = Floor version} h g) e = cc
entries_counts rest (gives_one {r = Count c number base n} h g) e = cc

each_dropped : {X : Type 0} {P : X → Type 0} (n : ℕ) {xs : List X} → Each P xs → Each P (drop n xs)
each_dropped zero f = f
each_dropped (suc n) no_more = no_more
each_dropped (suc n) (and_each h f) = each_dropped n f

read_drop : (n : ℕ) (rs : List ServerRecord) → drop n (read_all rs) ≡ read_all (drop n rs)
read_drop zero rs = refl
read_drop (suc n) [] = refl
read_drop (suc n) (r ∷ rs) = read_drop n rs

drop_front : (rs ts : List ServerRecord) → drop (length rs) (read_all (rs ++ ts)) ≡ read_all ts
drop_front [] ts = refl
drop_front (r ∷ rs) ts = drop_front rs ts

at_bare : {I : Type 0} (gs : List (Given I)) (j : ℕ) (g : Given I) → at gs j ≡ Some g → at (map bare gs) j ≡ Some (bare g)
at_bare gs j g e = Rattle.sync_model.proofs.Lists.at_map bare gs j g e

module _ {I S : Type 0} (p : Profile I S) {Fits Bounded Old : S → Type 0} (law : Lawful p Fits) (built : Buildable p Fits Bounded Old) where
  later_records : (rs : List ServerRecord) (kept : Parts I S) → parts_open p kept rs ≡ true → Each NotFront rs
  later_records [] kept e = no_more
  later_records (r ∷ rs) kept e = let b = both (admits_part p kept r) (parts_open p (after_part p kept r) rs) e in and_each (one r b.0) (later_records rs (after_part p kept r) b.1)
    where
      one : (r : ServerRecord) → admits_part p kept r ≡ true → NotFront r
      one (Client id) a = tt
      one (Entry origin number base ms body) a = tt
      one Form a = tt
      one (Settled c n) a = tt
      one (Retired ident by) a = tt
      one (Part body) a = cc
      one (Floor version) a = cc
      one (Count c number base n) a = cc
      one (Carried origin number base ms body) a = cc
      one (Past c version ms body) a = cc

  crossed_give : (second : Bool) (floor : ℕ) (xs : List (Changeset I)) {c : ℕ} {gs : List (Given I)} → AllTrack p second floor xs c gs → Gives crossed_is (crossed_records p c floor xs gs) (all_changed p second floor xs c gs)
  crossed_give second floor xs none_track = gives_none
  crossed_give second floor xs {c = c} (one_retired {g = g} dead empty ts) =
      gives_append p second floor xs
      (subst (λ r. Gives crossed_is (if is_live g then crossed_of p c floor xs (pairs_from (max floor g.last) r) else []) (changed p second floor xs c r)) (sym empty) (nothing (is_live g)))
      (crossed_give second floor xs ts)
    where
      nothing : (t : Bool) → Gives crossed_is (if t then [] else []) []
      nothing true = gives_none
      nothing false = gives_none
  crossed_give second floor xs {c = c} (one_tracks {g = g} live t ts) =
      gives_append p second floor xs
      (subst (λ l. Gives crossed_is l (changed p second floor xs c g.reciprocal)) (sym (put_if (is_live g) (crossed_of p c floor xs (pairs_from (max floor g.last) g.reciprocal)) [] live))
      (subst (λ l. Gives crossed_is (crossed_of p c floor xs l) (changed p second floor xs c g.reciprocal)) (sym (tracks_from p second floor xs (max floor g.last) t (le_refl (max floor g.last)))) (changed_gives p second floor xs c g.reciprocal)))
      (crossed_give second floor xs ts)

  module _ (t : Parts I S) (w : Whole p t) (fit : Fits t.below) (bounded : Bounded t.below) (old : t.second ≡ false → Old t.below) (later : List ServerRecord) (opens : parts_open p t later ≡ true) where
    abbrev cs : List Counted
    cs = counted p 1 t.idents

    abbrev es : List Kept
    es = kept_of p t.entries t.bases

    abbrev ch : List Crossed
    ch = all_changed p t.second t.floor t.entries 1 t.idents

    abbrev X : List ServerRecord
    X = crossed_records p 1 t.floor t.entries t.idents

    abbrev E : List ServerRecord
    E = entry_records p t.entries t.bases

    abbrev N : List ServerRecord
    N = count_records p 1 t.idents

    abbrev R : List ServerRecord
    R = map (λ q. Retired q.0 q.1) t.retired

    abbrev C : List ServerRecord
    C = map (λ g. Client g.uuid) t.idents

    abbrev us : List Uuid
    us = map (λ g. g.uuid) t.idents

    abbrev st : Grows I S
    st = record { objects = t.objects; entries = t.entries; bases = t.bases }

    behind : Each NotFront later
    behind = later_records later t opens

    kept_length : (xs : List (Changeset I)) (bs : List ℕ) → length bs ≡ length xs → length (kept_of p xs bs) ≡ length xs
    kept_length [] bs e = refl
    kept_length (x ∷ xs) [] e = absurd (omega arith)
    kept_length (x ∷ xs) (b ∷ bs) e = ap suc (kept_length xs bs (omega arith))

    es_length : length es ≡ t.len - t.floor
    es_length = let l = kept_length t.entries t.bases w.spans.bases in let r = w.spans.reach in omega arith

    in_crossed : (k : ℕ) → front_crossed p t.second t.below t.floor t.len t.retired (map bare t.idents) st k ch (read_all later) ≡ Ok (record { parts = t; size = k + length ch })
    in_crossed k =
        ap (λ q. then_at k q (λ qs. Ok (record { parts = record { floor = t.floor; below = t.below; len = t.len; entries = t.entries; bases = t.bases; objects = t.objects; second = t.second; idents = with_pairs 1 t.floor t.entries qs (map bare t.idents); retired = t.retired }; size = k + length ch })))
        (walk_all p t.second t.floor t.entries law.spelled (map bare t.idents) w.tracks here [] (λ d v b. refl))
        ∙ ap (λ l. Ok (record { parts = record { floor = t.floor; below = t.below; len = t.len; entries = t.entries; bases = t.bases; objects = t.objects; second = t.second; idents = l; retired = t.retired }; size = k + length ch }))
        (pairs_back p t.second t.floor t.entries law.spelled (all_passed p t.second t.floor t.entries 1 t.idents) w.tracks [] refl no_more)
      where
        here : (j : ℕ) (g : Given I) → at t.idents j ≡ Some g → at_ident (1 + j) (map bare t.idents) ≡ Some (bare g)
        here j g e = let z : 1 + j ≡ suc j = omega arith in ap (λ d. at_ident d (map bare t.idents)) z ∙ at_bare t.idents j g e

    not_less : (a b : ℕ) → b ≤ a → nat_lt a b ≡ false
    not_less a b h = Rattle.sync_model.proofs.Alike.not_below a b h

    in_entries : (k : ℕ) → front_entries p t.second t.below t.floor t.len t.retired (map bare t.idents) k es (read_all (X ++ later)) ≡ Ok (record { parts = t; size = k + length es + length ch })
    in_entries k =
        let l = es_length in
        ap (λ q. then_at k q (λ s. if nat_lt (length es) (t.len - t.floor) then Err (k + length es - 1) else (if not (all_end 1 s.entries (map bare t.idents)) then Err (k + length es - 1) else taking_all (of_kind crossed_is) (read_all (X ++ later)) (front_crossed p t.second t.below t.floor t.len t.retired (map bare t.idents) s (k + length es))))) w.entries
        ∙ put_unless (nat_lt (length es) (t.len - t.floor)) _ _ (not_less (length es) (t.len - t.floor) (omega arith))
        ∙ put_unless (not (all_end 1 t.entries (map bare t.idents))) _ _ (ap not w.ends)
        ∙ taking_all_is crossed_is later (front_crossed p t.second t.below t.floor t.len t.retired (map bare t.idents) st (k + length es)) (crossed_give t.second t.floor t.entries w.tracks) (no_crossed behind)
        ∙ in_crossed (k + length es)

    in_counts : (k : ℕ) → front_counts p t.second t.below t.floor us t.retired k cs (read_all (E ++ (X ++ later))) ≡ Ok (record { parts = t; size = k + length cs + length es + length ch })
    in_counts k =
        let total = counted_total p 1 t.idents ∙ w.sum in
        let full = w.full in
        let cl = counted_length p 1 t.idents in
        let ul = Rattle.sync_model.proofs.Lists.length_map (λ g. g.uuid) t.idents in
        let r = w.spans.reach in
        let l = es_length in
        let whole = walk_counts p [] 1 t.idents refl (omega (arith, full, w.sum)) in
        ap (λ q. then_at k q (λ ds. if nat_lt (length cs) (length us) then Err (k + length cs - 1) else (if not (nat_le t.floor (counted_sum ds) && all_within (counted_sum ds) ds) then Err (k + length cs - 1) else taking (of_kind entry_is) (counted_sum ds - t.floor) (read_all (E ++ (X ++ later))) (front_entries p t.second t.below t.floor (counted_sum ds) t.retired (with_counts t.retired us ds) (k + length cs))))) whole
        ∙ put_unless (nat_lt (length cs) (length us)) _ _ (not_less (length cs) (length us) (omega arith))
        ∙ put_unless (not (nat_le t.floor (counted_sum cs) && all_within (counted_sum cs) cs)) _ _ (ap not (both (nat_le t.floor (counted_sum cs)) (all_within (counted_sum cs) cs) (le-leb t.floor (counted_sum cs) (omega (arith, total, r))) (subst (λ n. all_within n cs ≡ true) (sym total) (within_all p t.len 1 w.lasts w.spans.marks))))
        ∙ ap₂ (λ n gs. taking (of_kind entry_is) (n - t.floor) (read_all (E ++ (X ++ later))) (front_entries p t.second t.below t.floor n t.retired gs (k + length cs))) total (with_counts_is p t.retired 1 w.heirs)
        ∙ taking_is entry_is (t.len - t.floor) (X ++ later) (front_entries p t.second t.below t.floor t.len t.retired (map bare t.idents) (k + length cs)) (entries_give p t.entries t.bases) (crossed_entries later (crossed_give t.second t.floor t.entries w.tracks) (no_entries_ behind)) (omega arith)
        ∙ in_entries (k + length cs)
      where
        both : (a b : Bool) → a ≡ true → b ≡ true → (a && b) ≡ true
        both true b e f = f
        both false b e f = e

    behind_counts : leading (of_kind count_is) (read_all (E ++ (X ++ later))) ≡ []
    behind_counts = entries_counts (X ++ later) (entries_give p t.entries t.bases) (crossed_counts later (crossed_give t.second t.floor t.entries w.tracks) (no_counts behind))

    -- with idents
    in_retired : (k : ℕ) → is_empty t.idents ≡ false → front_retired p t.second t.below t.floor k us t.retired (read_all (N ++ (E ++ (X ++ later)))) ≡ Ok (record { parts = t; size = k + length us + length t.retired + length cs + length es + length ch })
    in_retired k some =
        put_unless (is_empty (leading (of_kind count_is) (read_all (N ++ (E ++ (X ++ later)))))) _ _ (ap is_empty (leading_is count_is (E ++ (X ++ later)) (counts_give p 1 t.idents) behind_counts) ∙ some_counts t.idents some)
        ∙ put_unless (is_empty us) _ _ (some_uuids t.idents some)
        ∙ ap (λ q. then_at k q (λ vs. then_at (k + length us) (walk (retired_step (length us)) [] t.retired) (λ ds. taking (of_kind count_is) (length us) (read_all (N ++ (E ++ (X ++ later)))) (front_counts p t.second t.below t.floor vs ds (k + length us + length t.retired))))) w.uuids
        ∙ ap (λ q. then_at (k + length us) q (λ ds. taking (of_kind count_is) (length us) (read_all (N ++ (E ++ (X ++ later)))) (front_counts p t.second t.below t.floor us ds (k + length us + length t.retired)))) (ap (λ n. walk (retired_step n) [] t.retired) (Rattle.sync_model.proofs.Lists.length_map (λ g. g.uuid) t.idents) ∙ w.retired)
        ∙ taking_is count_is (length us) (E ++ (X ++ later)) (front_counts p t.second t.below t.floor us t.retired (k + length us + length t.retired)) (counts_give p 1 t.idents) behind_counts (let a = counted_length p 1 t.idents in let b = Rattle.sync_model.proofs.Lists.length_map (λ g. g.uuid) t.idents in omega arith)
        ∙ in_counts (k + length us + length t.retired)
      where
        some_counts : (gs : List (Given I)) → is_empty gs ≡ false → is_empty (counted p 1 gs) ≡ false
        some_counts [] e = e
        some_counts (g ∷ gs) e = refl

        some_uuids : (gs : List (Given I)) → is_empty gs ≡ false → is_empty (map (λ g. g.uuid) gs) ≡ false
        some_uuids [] e = e
        some_uuids (g ∷ gs) e = refl

    in_uuids : (k : ℕ) → is_empty t.idents ≡ false → front_uuids p t.second t.below t.floor k us (read_all (R ++ (N ++ (E ++ (X ++ later))))) ≡ Ok (record { parts = t; size = k + length us + length t.retired + length cs + length es + length ch })
    in_uuids k some = taking_all_is retired_is (N ++ (E ++ (X ++ later))) (front_retired p t.second t.below t.floor k us) (retired_give p t.retired) (no_retired t.idents some (E ++ (X ++ later))) ∙ in_retired k some
      where
        no_retired : (gs : List (Given I)) → is_empty gs ≡ false → (rest : List ServerRecord) → leading (of_kind retired_is) (read_all (count_records p 1 gs ++ rest)) ≡ []
        no_retired [] e rest = cc
        no_retired (g ∷ gs) e rest = refl

    -- without idents nothing was integrated
    no_history : is_empty t.idents ≡ true → t ≡ record { floor = t.floor; below = t.below; len = t.floor; entries = []; bases = []; objects = t.below; second = t.second; idents = []; retired = [] }
    no_history none =
        let i = none_is t.idents none in
        let total = sym w.sum ∙ ap (sum_by (λ g. g.count)) i in
        let zero_len : t.len ≡ 0 = total in
        let r = w.spans.reach in
        let b = w.spans.bases in
        let x = nothing t.entries (omega arith) in
        let y = nothing t.bases (omega arith) in
        let len_is : t.len ≡ t.floor = omega arith in
        let grown_ = sym w.entries ∙ ap₂ (λ xs bs. walk (entry_step p t.second (map bare t.idents)) (record { objects = t.below; entries = []; bases = [] }) (kept_of p xs bs)) x y in
        let q = none_retired t.retired (ap (λ gs. walk (retired_step (length gs)) [] t.retired) (sym i) ∙ w.retired) in
        λ j. record { floor = t.floor; below = t.below; len = len_is j; entries = x j; bases = y j; objects = objects_are grown_ j; second = t.second; idents = i j; retired = q j }
      where
        none_is : {X : Type 0} (xs : List X) → is_empty xs ≡ true → xs ≡ []
        none_is [] e = refl
        none_is (x ∷ xs) e = cc

        none_among : (c : ℕ) → is_among 0 c ≡ false
        none_among zero = refl
        none_among (suc c) = on (nat_le (suc c) 0) refl (nat_le 1 (suc c))
          where
            on : (t : Bool) → nat_le (suc c) 0 ≡ t → (b : Bool) → (b && t) ≡ false
            on true e b = let h = Rattle.std.proofs.lemmas.Bool.leb-true (suc c) 0 e in absurd (omega arith)
            on false e true = refl
            on false e false = refl

        none_retired : (qs : List (ℕ × ℕ)) → walk (retired_step 0) [] qs ≡ Ok qs → qs ≡ []
        none_retired [] e = refl
        none_retired (q ∷ qs) e = absurd (never (sym (ap (λ b. walk_on (if (b && is_among 0 q.1) && (not (q.0 == q.1) && not (is_retired (heir_of q.0 []))) then Some ([] ++ q ∷ []) else None) (λ c. further_on (walk (retired_step 0) c qs))) (none_among q.0)) ∙ e))
          where
            never : ◌≡◌ {A = Result (List (ℕ × ℕ)) ℕ} (Err 0) (Ok (q ∷ qs)) → ⊥
            never f = cc

        nothing : {X : Type 0} (xs : List X) → length xs ≡ 0 → xs ≡ []
        nothing [] e = refl
        nothing (x ∷ xs) e = absurd (omega arith)

        objects_are : ◌≡◌ {A = Result (Grows I S) ℕ} (Ok st) (Ok (record { objects = t.below; entries = []; bases = [] })) → t.objects ≡ t.below
        objects_are e = ok_objects st (record { objects = t.below; entries = []; bases = [] }) e
          where
            ok_objects : (a b : Grows I S) → ◌≡◌ {A = Result (Grows I S) ℕ} (Ok a) (Ok b) → a.objects ≡ b.objects
            ok_objects a b q = let h : a ≡ b = cc in ap (λ z. z.objects) h

    parts_writable : Each (λ is. Writable p t.second is) (p.build t.below)
    parts_writable = both (built.small t.below fit bounded) (allowed t.second old)
      where
        both : {ps : List (List I)} → Each (λ is. is_small p is ≡ true) ps → Each (λ is. readable p t.second (Ok is) ≡ Some is) ps → Each (λ is. Writable p t.second is) ps
        both no_more no_more = no_more
        both (and_each h f) (and_each g e) = and_each (record { small = h; allowed = g }) (both f e)

        allowed : (b : Bool) → (b ≡ false → Old t.below) → Each (λ is. readable p b (Ok is) ≡ Some is) (p.build t.below)
        allowed true o = each_allowed p law built (p.build t.below)
        allowed false o = each_old p law built false (built.old t.below fit (o refl))

  -- ---- up to the floor

  begins_there : (ps : List (List I)) (floor : ℕ) (rest : List ServerRecord) → begins_trimmed p (read_all (map (λ is. Part (p.spell is)) ps ++ Floor floor ∷ rest)) ≡ true
  begins_there [] floor rest = refl
  begins_there (x ∷ ps) floor rest = refl

  abbrev Ps : S → List ServerRecord
  Ps s = map (λ is. Part (p.spell is)) (p.build s)

  abbrev forms : Bool → List ServerRecord
  forms second = if second then Form ∷ [] else []

  to_floor : (second : Bool) (s : S) (k floor : ℕ) (rest : List ServerRecord) → Fits s → Bounded s → Each (λ is. Writable p second is) (p.build s) → taking_all (of_kind part_of) (read_all (Ps s ++ Floor floor ∷ rest)) (front_parts p second k) ≡ taking_all (of_kind uuid_is) (read_all rest) (front_uuids p second s floor (suc (k + length (map (λ is. p.spell is) (p.build s)))))
  to_floor second s k floor rest fit bounded writable =
      taking_all_is part_of (Floor floor ∷ rest) (front_parts p second k) (parts_give p (p.build s)) refl
      ∙ ap (λ q. then_at k q (λ parts. then_at k (grown p parts) (λ g. front_behind p second g (k + length (map (λ is. p.spell is) (p.build s))) (read_all (Floor floor ∷ rest))))) (walk_parts p second [] (p.build s) writable law.spelled)
      ∙ ap (λ q. then_at k q (λ g. front_behind p second g (k + length (map (λ is. p.spell is) (p.build s))) (read_all (Floor floor ∷ rest)))) (grown_build p law built s fit bounded)

  -- the place of the first record behind the form
  abbrev first_place : Bool → ℕ
  first_place second = if second then 1 else 0

  front_is : (second : Bool) (s : S) (floor : ℕ) (rest : List ServerRecord) → Fits s → Bounded s → Each (λ is. Writable p second is) (p.build s) → front_of p (read_all (forms second ++ (Ps s ++ Floor floor ∷ rest))) ≡ taking_all (of_kind uuid_is) (read_all rest) (front_uuids p second s floor (suc (first_place second + length (map (λ is. p.spell is) (p.build s)))))
  front_is true s floor rest fit bounded writable =
      put_if (true && begins_trimmed p (read_all (Ps s ++ Floor floor ∷ rest))) (taking_all (of_kind part_of) (read_all (Ps s ++ Floor floor ∷ rest)) (front_parts p true 1)) (Ok (record { parts = no_parts p; size = 0 })) (begins_there (p.build s) floor rest)
      ∙ to_floor true s 1 floor rest fit bounded writable
  front_is false s floor rest fit bounded writable = on (p.build s) refl ∙ to_floor false s 0 floor rest fit bounded writable
    where
      on : (ps : List (List I)) → p.build s ≡ ps → front_of p (read_all (Ps s ++ Floor floor ∷ rest)) ≡ taking_all (of_kind part_of) (read_all (Ps s ++ Floor floor ∷ rest)) (front_parts p false 0)
      on [] e = subst (λ l. front_of p (read_all (map (λ is. Part (p.spell is)) l ++ Floor floor ∷ rest)) ≡ taking_all (of_kind part_of) (read_all (map (λ is. Part (p.spell is)) l ++ Floor floor ∷ rest)) (front_parts p false 0)) (sym e) refl
      on (x ∷ ps) e = subst (λ l. front_of p (read_all (map (λ is. Part (p.spell is)) l ++ Floor floor ∷ rest)) ≡ taking_all (of_kind part_of) (read_all (map (λ is. Part (p.spell is)) l ++ Floor floor ∷ rest)) (front_parts p false 0)) (sym e) refl

  -- what the front gives, the records behind it carry on
  finish : (front later : List ServerRecord) (t : Parts I S) (n : ℕ) → front_of p (read_all (front ++ later)) ≡ Ok (record { parts = t; size = n }) → n ≡ length front → parts_open p t later ≡ true → file_gives p (read_all (front ++ later)) ≡ Ok (after_parts p t later)
  finish front later t n e size opens =
      ap (λ f. then_at 0 f (λ q. then_at q.size (rest_of p q.parts (drop q.size (read_all (front ++ later)))) (λ kept. Ok kept))) e
      ∙ ap (λ l. then_at n (rest_of p t l) (λ kept. Ok kept)) (ap (λ k. drop k (read_all (front ++ later))) size ∙ drop_front front later)
      ∙ ap (λ q. then_at n q (λ kept. Ok kept)) (rest_opens p later t opens)

  -- a file that trimming wrote, and what a server appended since
  module _ (t : Parts I S) (w : Whole p t) (fit : Fits t.below) (bounded : Bounded t.below) (old : t.second ≡ false → Old t.below) (later : List ServerRecord) (opens : parts_open p t later ≡ true) where
    abbrev D : List ServerRecord
    D = C t w fit bounded old later opens ++ (R t w fit bounded old later opens ++ (N t w fit bounded old later opens ++ (E t w fit bounded old later opens ++ X t w fit bounded old later opens)))

    regroup : (second : Bool) (P behind : List ServerRecord) (floor : ℕ) → (forms second ++ (P ++ Floor floor ∷ behind)) ++ later ≡ forms second ++ (P ++ Floor floor ∷ (behind ++ later))
    regroup second P behind floor = append_assoc (forms second) (P ++ Floor floor ∷ behind) later ∙ ap (λ l. forms second ++ l) (append_assoc P (Floor floor ∷ behind) later)

    with_idents : is_empty t.idents ≡ false → file_gives p (read_all (front_records p t ++ later)) ≡ Ok (after_parts p t later)
    with_idents some = finish (front_records p t) later t (suc (first_place t.second + length (map (λ is. p.spell is) (p.build t.below))) + length (us t w fit bounded old later opens) + length t.retired + length (cs t w fit bounded old later opens) + length (es t w fit bounded old later opens) + length (ch t w fit bounded old later opens)) found size opens
      where
        inner : (C t w fit bounded old later opens ++ (R t w fit bounded old later opens ++ (N t w fit bounded old later opens ++ (E t w fit bounded old later opens ++ X t w fit bounded old later opens)))) ++ later ≡ C t w fit bounded old later opens ++ (R t w fit bounded old later opens ++ (N t w fit bounded old later opens ++ (E t w fit bounded old later opens ++ (X t w fit bounded old later opens ++ later))))
        inner =
            append_assoc (C t w fit bounded old later opens) (R t w fit bounded old later opens ++ (N t w fit bounded old later opens ++ (E t w fit bounded old later opens ++ X t w fit bounded old later opens))) later
            ∙ ap (λ l. C t w fit bounded old later opens ++ l) (append_assoc (R t w fit bounded old later opens) (N t w fit bounded old later opens ++ (E t w fit bounded old later opens ++ X t w fit bounded old later opens)) later
            ∙ ap (λ l. R t w fit bounded old later opens ++ l) (append_assoc (N t w fit bounded old later opens) (E t w fit bounded old later opens ++ X t w fit bounded old later opens) later
            ∙ ap (λ l. N t w fit bounded old later opens ++ l) (append_assoc (E t w fit bounded old later opens) (X t w fit bounded old later opens) later)))

        no_uuids : (qs : List (ℕ × ℕ)) (gs : List (Given I)) → is_empty gs ≡ false → (rest : List ServerRecord) → leading (of_kind uuid_is) (read_all (map (λ q. Retired q.0 q.1) qs ++ (count_records p 1 gs ++ rest))) ≡ []
        no_uuids (q ∷ qs) gs e rest = refl
        no_uuids [] [] e rest = cc
        no_uuids [] (g ∷ gs) e rest = refl

        found : front_of p (read_all (front_records p t ++ later)) ≡ Ok (record { parts = t; size = suc (first_place t.second + length (map (λ is. p.spell is) (p.build t.below))) + length (us t w fit bounded old later opens) + length t.retired + length (cs t w fit bounded old later opens) + length (es t w fit bounded old later opens) + length (ch t w fit bounded old later opens) })
        found =
            ap (λ l. front_of p (read_all l)) (regroup t.second (Ps t.below) D t.floor ∙ ap (λ l. forms t.second ++ (Ps t.below ++ Floor t.floor ∷ l)) inner)
            ∙ front_is t.second t.below t.floor (C t w fit bounded old later opens ++ (R t w fit bounded old later opens ++ (N t w fit bounded old later opens ++ (E t w fit bounded old later opens ++ (X t w fit bounded old later opens ++ later))))) fit bounded (parts_writable t w fit bounded old later opens)
            ∙ taking_all_is uuid_is (R t w fit bounded old later opens ++ (N t w fit bounded old later opens ++ (E t w fit bounded old later opens ++ (X t w fit bounded old later opens ++ later)))) (front_uuids p t.second t.below t.floor (suc (first_place t.second + length (map (λ is. p.spell is) (p.build t.below))))) (uuids_give p t.idents) (no_uuids t.retired t.idents some (E t w fit bounded old later opens ++ (X t w fit bounded old later opens ++ later)))
            ∙ in_uuids t w fit bounded old later opens (suc (first_place t.second + length (map (λ is. p.spell is) (p.build t.below)))) some

        size : suc (first_place t.second + length (map (λ is. p.spell is) (p.build t.below))) + length (us t w fit bounded old later opens) + length t.retired + length (cs t w fit bounded old later opens) + length (es t w fit bounded old later opens) + length (ch t w fit bounded old later opens) ≡ length (front_records p t)
        size =
            let a = form_length t.second in
            let b = gives_length (parts_give p (p.build t.below)) in
            let c = gives_length (uuids_give p t.idents) in
            let c2 = gives_length (retired_give p t.retired) in
            let d = gives_length (counts_give p 1 t.idents) in
            let e = gives_length (entries_give p t.entries t.bases) in
            let f = gives_length (crossed_give t.second t.floor t.entries w.tracks) in
            let l1 = length-append (forms t.second) (Ps t.below ++ Floor t.floor ∷ D) in
            let l2 = length-append (Ps t.below) (Floor t.floor ∷ D) in
            let l3 = length-append (C t w fit bounded old later opens) (R t w fit bounded old later opens ++ (N t w fit bounded old later opens ++ (E t w fit bounded old later opens ++ X t w fit bounded old later opens))) in
            let l6 = length-append (R t w fit bounded old later opens) (N t w fit bounded old later opens ++ (E t w fit bounded old later opens ++ X t w fit bounded old later opens)) in
            let l4 = length-append (N t w fit bounded old later opens) (E t w fit bounded old later opens ++ X t w fit bounded old later opens) in
            let l5 = length-append (E t w fit bounded old later opens) (X t w fit bounded old later opens) in
            omega arith
          where
            form_length : (b : Bool) → length (forms b) ≡ first_place b
            form_length true = refl
            form_length false = refl

    -- nothing was integrated yet
    alone : (floor : ℕ) → floor ≡ 0 → Each NotFront later → parts_open p (record { floor = floor; below = t.below; len = floor; entries = []; bases = []; objects = t.below; second = t.second; idents = []; retired = [] }) later ≡ true → file_gives p (read_all (front_records p (record { floor = floor; below = t.below; len = floor; entries = []; bases = []; objects = t.below; second = t.second; idents = []; retired = [] }) ++ later)) ≡ Ok (after_parts p (record { floor = floor; below = t.below; len = floor; entries = []; bases = []; objects = t.below; second = t.second; idents = []; retired = [] }) later)
    alone floor zero_floor behind_ open_ = finish (forms t.second ++ (Ps t.below ++ Floor floor ∷ [])) later (record { floor = floor; below = t.below; len = floor; entries = []; bases = []; objects = t.below; second = t.second; idents = []; retired = [] }) (suc (first_place t.second + length (map (λ is. p.spell is) (p.build t.below)))) found size open_
      where
        none : (n m : ℕ) → leading (of_kind count_is) (drop m (drop n (read_all later))) ≡ []
        none n m = ap (λ l. leading (of_kind count_is) (drop m l)) (read_drop n later) ∙ ap (leading (of_kind count_is)) (read_drop m (drop n later)) ∙ no_counts (each_dropped m (each_dropped n behind_))

        -- the uuids and retired idents in front of the later records
        first_ids : ℕ
        first_ids = length (leading (of_kind uuid_is) (read_all later))

        then_retired : ℕ
        then_retired = length (leading (of_kind retired_is) (drop first_ids (read_all later)))

        found : front_of p (read_all ((forms t.second ++ (Ps t.below ++ Floor floor ∷ [])) ++ later)) ≡ Ok (record { parts = record { floor = floor; below = t.below; len = floor; entries = []; bases = []; objects = t.below; second = t.second; idents = []; retired = [] }; size = suc (first_place t.second + length (map (λ is. p.spell is) (p.build t.below))) })
        found =
            ap (λ l. front_of p (read_all l)) (regroup t.second (Ps t.below) [] floor)
            ∙ front_is t.second t.below floor later fit bounded (parts_writable t w fit bounded old later opens)
            ∙ put_if (is_empty (leading (of_kind count_is) (drop then_retired (drop first_ids (read_all later))))) _ _ (ap is_empty (none first_ids then_retired))
            ∙ put_unless (nat_lt 0 floor) _ _ (ap (λ n. nat_lt 0 n) zero_floor)

        size : suc (first_place t.second + length (map (λ is. p.spell is) (p.build t.below))) ≡ length (forms t.second ++ (Ps t.below ++ Floor floor ∷ []))
        size =
            let b = gives_length (parts_give p (p.build t.below)) in
            let l1 = length-append (forms t.second) (Ps t.below ++ Floor floor ∷ []) in
            let l2 = length-append (Ps t.below) (Floor floor ∷ []) in
            let a = form_length t.second in
            omega arith
          where
            form_length : (b : Bool) → length (forms b) ≡ first_place b
            form_length true = refl
            form_length false = refl

    without_idents : is_empty t.idents ≡ true → file_gives p (read_all (front_records p t ++ later)) ≡ Ok (after_parts p t later)
    without_idents none =
        let e = no_history t w fit bounded old later opens none in
        let z : t.floor ≡ 0 = let s = w.sum in let r = w.spans.reach in let l = ap (λ k. k.len) e in let q = ap (λ k. sum_by (λ g. g.count) k.idents) e in omega arith in
        subst (λ k. file_gives p (read_all (front_records p k ++ later)) ≡ Ok (after_parts p k later)) (sym e)
        (alone t.floor z (behind t w fit bounded old later opens) (subst (λ k. parts_open p k later ≡ true) e opens))

    pub front_back : file_gives p (read_all (front_records p t ++ later)) ≡ Ok (after_parts p t later)
    front_back = on (is_empty t.idents) refl
      where
        on : (b : Bool) → is_empty t.idents ≡ b → file_gives p (read_all (front_records p t ++ later)) ≡ Ok (after_parts p t later)
        on true e = without_idents e
        on false e = with_idents e
