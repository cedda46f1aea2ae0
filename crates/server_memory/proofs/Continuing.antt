-- A server's file goes on with the records that a server appends.
use Rattle.std.proofs.Common.{◌≡◌, ℕ, zero, suc, ◌+◌, ◌-◌, ◌≤◌, Bool, true, false, ◌&&◌, ◌||◌, not, List, [], ◌∷◌, ◌++◌, Option, Some, None, Result, Ok, Err, refl, sym, ap, ◌∙◌, subst, arith, if◌then◌else◌, length, drop, take, nat_lt, inl, inr, ◌⊎◌}
use Rattle.sync_model.specs.Bytes.{Bytes, Uuid}
use Rattle.sync_model.specs.Profile.{Profile}
use Rattle.sync_model.specs.Snapshots.{grown}
use Rattle.sync_model.specs.Servers.{ServerRecord, Client, Entry, Form, Retired, Settled, Part, Floor, Count, Carried, Past}
use Rattle.sync_model.specs.Parts.{Given, Parts, no_parts, after_part, after_parts, admits_part, parts_open}
use Rattle.sync_model.specs.Files.{is_empty}
use Rattle.sync_model.specs.Worlds.{is_there}
use Rattle.sync_model.specs.Fronts.{lead_on, leading, taking, taking_all, Counted, Kept, Front, of_kind, part_of, floor_is, uuid_is, retired_is, count_is, entry_is, crossed_is, further_on, walk, then_at, part_step, uuid_step, retired_step, counted_sum, count_step, all_within, with_counts, all_end, entry_step, crossed_step, front_crossed, front_entries, front_counts, front_alone, front_retired, front_uuids, front_floor, front_behind, front_parts, begins_trimmed, is_form, front_of, rest_of, file_gives}
use Rattle.sync_model.proofs.Fronts.{read_all, read_more, rest_opens}

-- ---- records that stand behind a front
abbrev pub IsLater : ServerRecord → Type 0
IsLater (Part body) = ⊥
IsLater (Floor version) = ⊥
IsLater (Count c number base n) = ⊥
IsLater (Carried origin number base ms body) = ⊥
IsLater (Past c version ms body) = ⊥
IsLater (Client id) = Unit {0}
IsLater (Entry origin number base ms body) = Unit {0}
IsLater Form = Unit {0}
IsLater (Retired c by) = Unit {0}
IsLater (Settled c n) = Unit {0}

abbrev pub AreLater : List ServerRecord → Type 0
AreLater [] = Unit {0}
AreLater (r ∷ rs) = IsLater r × AreLater rs

-- a kind of which they have none
abbrev IsSilent : {A : Type 0} → (ServerRecord → Option A) → Type 0
IsSilent kind = (r : ServerRecord) → IsLater r → kind r ≡ None

silent_part : IsSilent part_of
silent_part (Part body) h = absurd h
silent_part (Floor version) h = absurd h
silent_part (Count c number base n) h = absurd h
silent_part (Carried origin number base ms body) h = absurd h
silent_part (Past c version ms body) h = absurd h
silent_part (Client id) h = refl
silent_part (Entry origin number base ms body) h = refl
silent_part Form h = refl
silent_part (Retired c by) h = refl
silent_part (Settled c n) h = refl

silent_floor : IsSilent floor_is
silent_floor (Part body) h = absurd h
silent_floor (Floor version) h = absurd h
silent_floor (Count c number base n) h = absurd h
silent_floor (Carried origin number base ms body) h = absurd h
silent_floor (Past c version ms body) h = absurd h
silent_floor (Client id) h = refl
silent_floor (Entry origin number base ms body) h = refl
silent_floor Form h = refl
silent_floor (Retired c by) h = refl
silent_floor (Settled c n) h = refl

silent_count : IsSilent count_is
silent_count (Part body) h = absurd h
silent_count (Floor version) h = absurd h
silent_count (Count c number base n) h = absurd h
silent_count (Carried origin number base ms body) h = absurd h
silent_count (Past c version ms body) h = absurd h
silent_count (Client id) h = refl
silent_count (Entry origin number base ms body) h = refl
silent_count Form h = refl
silent_count (Retired c by) h = refl
silent_count (Settled c n) h = refl

silent_entry : IsSilent entry_is
silent_entry (Part body) h = absurd h
silent_entry (Floor version) h = absurd h
silent_entry (Count c number base n) h = absurd h
silent_entry (Carried origin number base ms body) h = absurd h
silent_entry (Past c version ms body) h = absurd h
silent_entry (Client id) h = refl
silent_entry (Entry origin number base ms body) h = refl
silent_entry Form h = refl
silent_entry (Retired c by) h = refl
silent_entry (Settled c n) h = refl

silent_crossed : IsSilent crossed_is
silent_crossed (Part body) h = absurd h
silent_crossed (Floor version) h = absurd h
silent_crossed (Count c number base n) h = absurd h
silent_crossed (Carried origin number base ms body) h = absurd h
silent_crossed (Past c version ms body) h = absurd h
silent_crossed (Client id) h = refl
silent_crossed (Entry origin number base ms body) h = refl
silent_crossed Form h = refl
silent_crossed (Retired c by) h = refl
silent_crossed (Settled c n) h = refl

later_dropped : (n : ℕ) (ms : List ServerRecord) → AreLater ms → AreLater (drop n ms)
later_dropped zero ms h = h
later_dropped (suc n) [] h = tt
later_dropped (suc n) (r ∷ ms) h = later_dropped n ms h.1

read_dropped : (n : ℕ) (ms : List ServerRecord) → drop n (read_all ms) ≡ read_all (drop n ms)
read_dropped zero ms = refl
read_dropped (suc n) [] = refl
read_dropped (suc n) (r ∷ ms) = read_dropped n ms

-- ---- the records at the front of a list that is continued
drop_more : {A : Type 0} (n : ℕ) (xs ys : List A) → n ≤ length xs → drop n (xs ++ ys) ≡ drop n xs ++ ys
drop_more zero xs ys h = refl
drop_more (suc n) [] ys h = absurd (omega arith)
drop_more (suc n) (x ∷ xs) ys h = drop_more n xs ys (omega arith)

drop_long : {A : Type 0} (n : ℕ) (xs : List A) → n ≤ length xs → n + length (drop n xs) ≡ length xs
drop_long zero xs h = omega arith
drop_long (suc n) [] h = absurd (omega arith)
drop_long (suc n) (x ∷ xs) h = let e = drop_long n xs (omega arith) in omega (arith, e)

pub take_short : {A : Type 0} (n : ℕ) (xs : List A) → length (take n xs) ≤ length xs
take_short zero xs = omega arith
take_short (suc n) [] = omega arith
take_short (suc n) (x ∷ xs) = let e = take_short n xs in omega (arith, e)

module _ {A : Type 0} (kind : ServerRecord → Option A) where
  pub lead_short : (file : List (Option ServerRecord)) → length (leading (of_kind kind) file) ≤ length file
  lead_short [] = omega arith
  lead_short (o ∷ os) = on (of_kind kind o) (lead_short os)
    where
      on : (x : Option A) → length (leading (of_kind kind) os) ≤ length os → length (lead_on x (leading (of_kind kind) os)) ≤ suc (length os)
      on None h = omega arith
      on (Some x) h = omega (arith, h)

  -- of a kind of which what follows has none
  module _ (silent : IsSilent kind) where
    lead_none : (ms : List ServerRecord) → AreLater ms → leading (of_kind kind) (read_all ms) ≡ []
    lead_none [] h = refl
    lead_none (r ∷ ms) h = ap (λ o. lead_on o (leading (of_kind kind) (read_all ms))) (silent r h.0)

    lead_more : (file : List (Option ServerRecord)) (ms : List ServerRecord) → AreLater ms → leading (of_kind kind) (file ++ read_all ms) ≡ leading (of_kind kind) file
    lead_more [] ms h = lead_none ms h
    lead_more (o ∷ os) ms h = ap (lead_on (of_kind kind o)) (lead_more os ms h)

    taking_more : {B : Type 0} (n : ℕ) (file : List (Option ServerRecord)) (ms : List ServerRecord) (go : List A → List (Option ServerRecord) → B) → AreLater ms
        → taking (of_kind kind) n (file ++ read_all ms) go ≡ go (take n (leading (of_kind kind) file)) (drop (length (take n (leading (of_kind kind) file))) file ++ read_all ms)
    taking_more n file ms go h =
        let xs = take n (leading (of_kind kind) file) in
        let short = lead_short file in
        let shorter = take_short n (leading (of_kind kind) file) in
        ap (λ l. go (take n l) (drop (length (take n l)) (file ++ read_all ms))) (lead_more file ms h)
        ∙ ap (go xs) (drop_more (length xs) file (read_all ms) (omega (arith, short, shorter)))

    taking_all_more : {B : Type 0} (file : List (Option ServerRecord)) (ms : List ServerRecord) (go : List A → List (Option ServerRecord) → B) → AreLater ms
        → taking_all (of_kind kind) (file ++ read_all ms) go ≡ go (leading (of_kind kind) file) (drop (length (leading (of_kind kind) file)) file ++ read_all ms)
    taking_all_more file ms go h =
        let xs = leading (of_kind kind) file in
        ap (λ l. go l (drop (length l) (file ++ read_all ms))) (lead_more file ms h) ∙ ap (go xs) (drop_more (length xs) file (read_all ms) (lead_short file))

  -- of any kind: what leads is the same, or all that stands before is of the kind
  record Longer (file : List (Option ServerRecord)) (ms : List ServerRecord) : Type 0 where
    none : drop (length (leading (of_kind kind) file)) file ≡ []
    left : ℕ
    behind : drop (length (leading (of_kind kind) (file ++ read_all ms))) (file ++ read_all ms) ≡ read_all (drop left ms)

  same_or_longer : (file : List (Option ServerRecord)) (ms : List ServerRecord) → (leading (of_kind kind) (file ++ read_all ms) ≡ leading (of_kind kind) file) ⊎ Longer file ms
  same_or_longer [] ms = let n = length (leading (of_kind kind) (read_all ms)) in inr (record { none = refl; left = n; behind = read_dropped n ms })
  same_or_longer (o ∷ os) ms = on (of_kind kind o) refl (same_or_longer os ms)
    where
      on : (x : Option A) → of_kind kind o ≡ x → (leading (of_kind kind) (os ++ read_all ms) ≡ leading (of_kind kind) os) ⊎ Longer os ms
          → (leading (of_kind kind) (o ∷ (os ++ read_all ms)) ≡ leading (of_kind kind) (o ∷ os)) ⊎ Longer (o ∷ os) ms
      on None e s = inl (ap (λ y. lead_on y (leading (of_kind kind) (os ++ read_all ms))) e ∙ sym (ap (λ y. lead_on y (leading (of_kind kind) os)) e))
      on (Some x) e (inl s) = inl (ap (lead_on (of_kind kind o)) s)
      on (Some x) e (inr l) = inr (record {
        none = ap (λ y. drop (length (lead_on y (leading (of_kind kind) os))) (o ∷ os)) e ∙ l.none;
        left = l.left;
        behind = ap (λ y. drop (length (lead_on y (leading (of_kind kind) (os ++ read_all ms)))) (o ∷ (os ++ read_all ms))) e ∙ l.behind;
      })

-- ---- answers
pub then_ok : {A B : Type 0} (k : ℕ) (w : Result A ℕ) (go : A → Result B ℕ) (b : B) → then_at k w go ≡ Ok b → (a : A) × (w ≡ Ok a) × (go a ≡ Ok b)
then_ok k (Ok a) go b e = (a, refl, e)
then_ok k (Err n) go b e = cc

pub if_ok : {B : Type 0} (t : Bool) (n : ℕ) (r : Result B ℕ) (b : B) → (if t then Err n else r) ≡ Ok b → (t ≡ false) × (r ≡ Ok b)
if_ok true n r b e = cc
if_ok false n r b e = (refl, e)

pub got : {A : Type 0} {x y : A} → ◌≡◌ {A = Result A ℕ} (Ok x) (Ok y) → x ≡ y
got e = cc

module _ {I S : Type 0} (p : Profile I S) (ms : List ServerRecord) (later : AreLater ms) where
  -- a front that is read is read where more follows, and takes no more records than there are
  pub record GoesOn (whole : Result (Front I S) ℕ) (f : Front I S) (most : ℕ) : Type 0 where
    pub same : whole ≡ Ok f
    pub within : f.size ≤ most

  entries_on : (second : Bool) (below : S) (floor len : ℕ) (ds : List (ℕ × ℕ)) (gs : List (Given I)) (k : ℕ) (es : List Kept) (rest : List (Option ServerRecord)) (f : Front I S) → front_entries p second below floor len ds gs k es rest ≡ Ok f
      → GoesOn (front_entries p second below floor len ds gs k es (rest ++ read_all ms)) f (k + length es + length rest)
  entries_on second below floor len ds gs k es rest f e =
      let w = then_ok k (walk (entry_step p second gs) (record { objects = below; entries = []; bases = [] }) es) _ f e in
      let st = w.0 in
      let one = if_ok (nat_lt (length es) (len - floor)) (k + length es - 1) _ f w.2 in
      let two = if_ok (not (all_end 1 st.entries gs)) (k + length es - 1) _ f one.1 in
      let xs = leading (of_kind crossed_is) rest in
      let last = then_ok (k + length es) (walk (crossed_step p second floor gs st.entries) [] xs) _ f two.1 in
      let size = ap (λ (g : Front I S). g.size) (got last.2) in
      let short = lead_short crossed_is rest in
      record {
        same =
            ap (λ r. then_at k r (λ st. if nat_lt (length es) (len - floor) then Err (k + length es - 1) else if not (all_end 1 st.entries gs) then Err (k + length es - 1)
            else taking_all (of_kind crossed_is) (rest ++ read_all ms) (front_crossed p second below floor len ds gs st (k + length es)))) w.1
            ∙ ap (λ t. if t then Err (k + length es - 1) else if not (all_end 1 st.entries gs) then Err (k + length es - 1)
            else taking_all (of_kind crossed_is) (rest ++ read_all ms) (front_crossed p second below floor len ds gs st (k + length es))) one.0
            ∙ ap (λ t. if t then Err (k + length es - 1) else taking_all (of_kind crossed_is) (rest ++ read_all ms) (front_crossed p second below floor len ds gs st (k + length es))) two.0
            ∙ taking_all_more crossed_is silent_crossed rest ms (front_crossed p second below floor len ds gs st (k + length es)) later
            ∙ two.1;
        within = omega (arith, size, short);
      }

  counts_on : (second : Bool) (below : S) (floor : ℕ) (us : List Uuid) (ds : List (ℕ × ℕ)) (k : ℕ) (cs : List Counted) (rest : List (Option ServerRecord)) (f : Front I S) → front_counts p second below floor us ds k cs rest ≡ Ok f
      → GoesOn (front_counts p second below floor us ds k cs (rest ++ read_all ms)) f (k + length cs + length rest)
  counts_on second below floor us ds k cs rest f e =
      let w = then_ok k (walk (count_step p.full) [] cs) _ f e in
      let es = w.0 in
      let one = if_ok (nat_lt (length cs) (length us)) (k + length cs - 1) _ f w.2 in
      let two = if_ok (not (Rattle.std.proofs.Common.nat_le floor (counted_sum es) && all_within (counted_sum es) es)) (k + length cs - 1) _ f one.1 in
      let n = counted_sum es - floor in
      let xs = take n (leading (of_kind entry_is) rest) in
      let go = front_entries p second below floor (counted_sum es) ds (with_counts ds us es) (k + length cs) in
      let on = entries_on second below floor (counted_sum es) ds (with_counts ds us es) (k + length cs) xs (drop (length xs) rest) f two.1 in
      let short = lead_short entry_is rest in
      let shorter = take_short n (leading (of_kind entry_is) rest) in
      let long = drop_long (length xs) rest (omega (arith, short, shorter)) in
      let bound = on.within in
      record {
        same =
            ap (λ r. then_at k r (λ es. if nat_lt (length cs) (length us) then Err (k + length cs - 1) else if not (Rattle.std.proofs.Common.nat_le floor (counted_sum es) && all_within (counted_sum es) es) then Err (k + length cs - 1)
            else taking (of_kind entry_is) (counted_sum es - floor) (rest ++ read_all ms) (front_entries p second below floor (counted_sum es) ds (with_counts ds us es) (k + length cs)))) w.1
            ∙ ap (λ t. if t then Err (k + length cs - 1) else if not (Rattle.std.proofs.Common.nat_le floor (counted_sum es) && all_within (counted_sum es) es) then Err (k + length cs - 1) else taking (of_kind entry_is) n (rest ++ read_all ms) go) one.0
            ∙ ap (λ t. if t then Err (k + length cs - 1) else taking (of_kind entry_is) n (rest ++ read_all ms) go) two.0
            ∙ taking_more entry_is silent_entry n rest ms go later
            ∙ on.same;
        within = omega (arith, bound, long);
      }

  -- where no count follows
  abbrev alone : Bool → S → ℕ → ℕ → Result (Front I S) ℕ
  alone second below floor k = if nat_lt 0 floor then Err (k - 1) else Ok (front_alone p second below floor k)

  alone_is : (second : Bool) (below : S) (floor k : ℕ) (us : List Uuid) (qs : List (ℕ × ℕ)) (rest : List (Option ServerRecord)) → leading (of_kind count_is) rest ≡ [] → front_retired p second below floor k us qs rest ≡ alone second below floor k
  alone_is second below floor k us qs rest e =
      ap (λ l. if is_empty l then alone second below floor k else if is_empty us then Err k else then_at k (walk uuid_step [] us) (λ vs. then_at (k + length us) (walk (retired_step (length us)) [] qs) (λ ds. taking (of_kind count_is) (length us) rest (front_counts p second below floor vs ds (k + length us + length qs))))) e

  alone_short : (second : Bool) (below : S) (floor k : ℕ) (f : Front I S) → alone second below floor k ≡ Ok f → f.size ≤ k
  alone_short second below floor k f e =
      let one = if_ok (nat_lt 0 floor) (k - 1) (Ok (front_alone p second below floor k)) f e in
      let size = ap (λ (g : Front I S). g.size) (got one.1) in
      omega (arith, size)

  abbrev counting : Bool → S → ℕ → ℕ → List Uuid → List (ℕ × ℕ) → List (Option ServerRecord) → Result (Front I S) ℕ
  counting second below floor k us qs r = if is_empty us then Err k else then_at k (walk uuid_step [] us) (λ vs. then_at (k + length us) (walk (retired_step (length us)) [] qs) (λ ds. taking (of_kind count_is) (length us) r (front_counts p second below floor vs ds (k + length us + length qs))))

  retired_on : (second : Bool) (below : S) (floor k : ℕ) (us : List Uuid) (qs : List (ℕ × ℕ)) (rest : List (Option ServerRecord)) (f : Front I S) → front_retired p second below floor k us qs rest ≡ Ok f
      → GoesOn (front_retired p second below floor k us qs (rest ++ read_all ms)) f (k + length us + length qs + length rest)
  retired_on second below floor k us qs rest f e = on (is_empty (leading (of_kind count_is) rest)) refl e
    where
      more : is_empty (leading (of_kind count_is) (rest ++ read_all ms)) ≡ is_empty (leading (of_kind count_is) rest)
      more = ap is_empty (lead_more count_is silent_count rest ms later)

      on : (t : Bool) → is_empty (leading (of_kind count_is) rest) ≡ t → (if t then alone second below floor k else counting second below floor k us qs rest) ≡ Ok f → GoesOn (if is_empty (leading (of_kind count_is) (rest ++ read_all ms)) then alone second below floor k else counting second below floor k us qs (rest ++ read_all ms)) f (k + length us + length qs + length rest)
      on true is g =
          let small = alone_short second below floor k f g in
          record { same = ap (λ t. if t then alone second below floor k else counting second below floor k us qs (rest ++ read_all ms)) (more ∙ is) ∙ g; within = omega (arith, small) }
      on false is g =
          let some = if_ok (is_empty us) k _ f g in
          let v = then_ok k (walk uuid_step [] us) _ f some.1 in
          let d = then_ok (k + length us) (walk (retired_step (length us)) [] qs) _ f v.2 in
          let xs = take (length us) (leading (of_kind count_is) rest) in
          let go = front_counts p second below floor v.0 d.0 (k + length us + length qs) in
          let next = counts_on second below floor v.0 d.0 (k + length us + length qs) xs (drop (length xs) rest) f d.2 in
          let short = lead_short count_is rest in
          let shorter = take_short (length us) (leading (of_kind count_is) rest) in
          let long = drop_long (length xs) rest (omega (arith, short, shorter)) in
          let bound = next.within in
          record {
            same =
                ap (λ t. if t then alone second below floor k else counting second below floor k us qs (rest ++ read_all ms)) (more ∙ is)
                ∙ ap (λ t. if t then Err k else then_at k (walk uuid_step [] us) (λ vs. then_at (k + length us) (walk (retired_step (length us)) [] qs) (λ ds. taking (of_kind count_is) (length us) (rest ++ read_all ms) (front_counts p second below floor vs ds (k + length us + length qs))))) some.0
                ∙ ap (λ r. then_at k r (λ vs. then_at (k + length us) (walk (retired_step (length us)) [] qs) (λ ds. taking (of_kind count_is) (length us) (rest ++ read_all ms) (front_counts p second below floor vs ds (k + length us + length qs))))) v.1
                ∙ ap (λ r. then_at (k + length us) r (λ ds. taking (of_kind count_is) (length us) (rest ++ read_all ms) (front_counts p second below floor v.0 ds (k + length us + length qs)))) d.1
                ∙ taking_more count_is silent_count (length us) rest ms go later
                ∙ next.same;
            within = omega (arith, bound, long);
          }

  -- what stands behind the front alone has no count
  no_counts : (n : ℕ) → leading (of_kind count_is) (read_all (drop n ms)) ≡ []
  no_counts n = lead_none count_is silent_count (drop n ms) (later_dropped n ms later)

  uuids_on : (second : Bool) (below : S) (floor k : ℕ) (us : List Uuid) (rest : List (Option ServerRecord)) (f : Front I S) → front_uuids p second below floor k us rest ≡ Ok f
      → GoesOn (front_uuids p second below floor k us (rest ++ read_all ms)) f (k + length us + length rest)
  uuids_on second below floor k us rest f e = on (same_or_longer retired_is rest ms)
    where
      on : (leading (of_kind retired_is) (rest ++ read_all ms) ≡ leading (of_kind retired_is) rest) ⊎ Longer retired_is rest ms → GoesOn (front_uuids p second below floor k us (rest ++ read_all ms)) f (k + length us + length rest)
      on (inl same) =
          let qs = leading (of_kind retired_is) rest in
          let short = lead_short retired_is rest in
          let next = retired_on second below floor k us qs (drop (length qs) rest) f e in
          let long = drop_long (length qs) rest short in
          let bound = next.within in
          record {
            same = ap (λ l. front_retired p second below floor k us l (drop (length l) (rest ++ read_all ms))) same ∙ ap (front_retired p second below floor k us qs) (drop_more (length qs) rest (read_all ms) short) ∙ next.same;
            within = omega (arith, bound, long);
          }
      on (inr l) =
          let qs = leading (of_kind retired_is) rest in
          let whole = leading (of_kind retired_is) (rest ++ read_all ms) in
          let was = sym (alone_is second below floor k us qs (drop (length qs) rest) (ap (leading (of_kind count_is)) l.none)) ∙ e in
          let small = alone_short second below floor k f was in
          record {
            same = alone_is second below floor k us whole (drop (length whole) (rest ++ read_all ms)) (ap (leading (of_kind count_is)) l.behind ∙ no_counts l.left) ∙ was;
            within = omega (arith, small);
          }

  floor_on : (second : Bool) (below : S) (k : ℕ) (o : Option ℕ) (rest : List (Option ServerRecord)) (f : Front I S) → front_floor p second below k o rest ≡ Ok f
      → GoesOn (front_floor p second below k o (rest ++ read_all ms)) f (suc k + length rest)
  floor_on second below k None rest f e = cc
  floor_on second below k (Some floor) rest f e = on (same_or_longer uuid_is rest ms)
    where
      on : (leading (of_kind uuid_is) (rest ++ read_all ms) ≡ leading (of_kind uuid_is) rest) ⊎ Longer uuid_is rest ms → GoesOn (front_floor p second below k (Some floor) (rest ++ read_all ms)) f (suc k + length rest)
      on (inl same) =
          let us = leading (of_kind uuid_is) rest in
          let short = lead_short uuid_is rest in
          let next = uuids_on second below floor (suc k) us (drop (length us) rest) f e in
          let long = drop_long (length us) rest short in
          let bound = next.within in
          record {
            same = ap (λ l. front_uuids p second below floor (suc k) l (drop (length l) (rest ++ read_all ms))) same ∙ ap (front_uuids p second below floor (suc k) us) (drop_more (length us) rest (read_all ms) short) ∙ next.same;
            within = omega (arith, bound, long);
          }
      on (inr l) =
          let us = leading (of_kind uuid_is) rest in
          let whole = leading (of_kind uuid_is) (rest ++ read_all ms) in
          let left = read_all (drop l.left ms) in
          let qs = leading (of_kind retired_is) left in
          let was : alone second below floor (suc k) ≡ Ok f = sym (ap (front_uuids p second below floor (suc k) us) l.none) ∙ e in
          let small = alone_short second below floor (suc k) f was in
          let none : leading (of_kind count_is) (drop (length qs) left) ≡ [] = ap (leading (of_kind count_is)) (read_dropped (length qs) (drop l.left ms)) ∙ lead_none count_is silent_count (drop (length qs) (drop l.left ms)) (later_dropped (length qs) (drop l.left ms) (later_dropped l.left ms later)) in
          record {
            same = ap (front_uuids p second below floor (suc k) whole) l.behind ∙ alone_is second below floor (suc k) whole qs (drop (length qs) left) none ∙ was;
            within = omega (arith, small);
          }

  behind_on : (second : Bool) (below : S) (k : ℕ) (rest : List (Option ServerRecord)) (f : Front I S) → front_behind p second below k rest ≡ Ok f → GoesOn (front_behind p second below k (rest ++ read_all ms)) f (k + length rest)
  behind_on second below k [] f e = cc
  behind_on second below k (o ∷ rest) f e =
      let next = floor_on second below k (of_kind floor_is o) rest f e in
      let bound = next.within in
      record { same = next.same; within = omega (arith, bound) }

  parts_on : (second : Bool) (k : ℕ) (bodies : List Bytes) (rest : List (Option ServerRecord)) (f : Front I S) → front_parts p second k bodies rest ≡ Ok f → GoesOn (front_parts p second k bodies (rest ++ read_all ms)) f (k + length bodies + length rest)
  parts_on second k bodies rest f e =
      let w = then_ok k (walk (part_step p second) [] bodies) _ f e in
      let s = then_ok k (grown p w.0) _ f w.2 in
      let next = behind_on second s.0 (k + length bodies) rest f s.2 in
      record {
        same =
            ap (λ r. then_at k r (λ parts. then_at k (grown p parts) (λ s. front_behind p second s (k + length bodies) (rest ++ read_all ms)))) w.1
            ∙ ap (λ r. then_at k r (λ s. front_behind p second s (k + length bodies) (rest ++ read_all ms))) s.1
            ∙ next.same;
        within = next.within;
      }

  all_parts_on : (second : Bool) (k : ℕ) (rest : List (Option ServerRecord)) (f : Front I S) → taking_all (of_kind part_of) rest (front_parts p second k) ≡ Ok f → GoesOn (taking_all (of_kind part_of) (rest ++ read_all ms) (front_parts p second k)) f (k + length rest)
  all_parts_on second k rest f e =
      let xs = leading (of_kind part_of) rest in
      let next = parts_on second k xs (drop (length xs) rest) f e in
      let short = lead_short part_of rest in
      let long = drop_long (length xs) rest short in
      let bound = next.within in
      record { same = taking_all_more part_of silent_part rest ms (front_parts p second k) later ∙ next.same; within = omega (arith, bound, long) }

  -- records that follow begin no front
  not_trimmed : (rs : List ServerRecord) → AreLater rs → begins_trimmed p (read_all rs) ≡ false
  not_trimmed [] h = refl
  not_trimmed (r ∷ rs) h = ap (λ o. is_there o || is_there (floor_is r)) (silent_part r h.0) ∙ ap is_there (silent_floor r h.0)

  trimmed_same : (os : List (Option ServerRecord)) → begins_trimmed p (os ++ read_all ms) ≡ begins_trimmed p os
  trimmed_same [] = not_trimmed ms later
  trimmed_same (o ∷ os) = refl

  none_and : (t : Bool) → (t && false) ≡ false
  none_and true = refl
  none_and false = refl

  alone_front : (rs : List ServerRecord) → AreLater rs → front_of p (read_all rs) ≡ Ok (record { parts = no_parts p; size = 0 })
  alone_front [] h = refl
  alone_front (r ∷ rs) h =
      ap (λ t. if t then taking_all (of_kind part_of) (read_all (r ∷ rs)) (front_parts p false 0) else if is_form p (Some r) && begins_trimmed p (read_all rs) then taking_all (of_kind part_of) (read_all rs) (front_parts p true 1) else Ok (record { parts = no_parts p; size = 0 })) (not_trimmed (r ∷ rs) h)
      ∙ ap (λ t. if is_form p (Some r) && t then taking_all (of_kind part_of) (read_all rs) (front_parts p true 1) else Ok (record { parts = no_parts p; size = 0 })) (not_trimmed rs h.1)
      ∙ ap (λ t. if t then taking_all (of_kind part_of) (read_all rs) (front_parts p true 1) else Ok (record { parts = no_parts p; size = 0 })) (none_and (is_form p (Some r)))

  abbrev choose : Option ServerRecord → Bool → Bool → List (Option ServerRecord) → Result (Front I S) ℕ
  choose o a b l = if a then taking_all (of_kind part_of) (o ∷ l) (front_parts p false 0) else if b then taking_all (of_kind part_of) l (front_parts p true 1) else Ok (record { parts = no_parts p; size = 0 })

  pub front_on : (file : List (Option ServerRecord)) (f : Front I S) → front_of p file ≡ Ok f → GoesOn (front_of p (file ++ read_all ms)) f (length file)
  front_on [] f e = record { same = alone_front ms later ∙ e; within = let size = ap (λ (g : Front I S). g.size) (got e) in omega (arith, size) }
  front_on (o ∷ os) f e = on (begins_trimmed p (o ∷ os)) (is_form p o && begins_trimmed p os) refl e
    where
      on : (a b : Bool) → (is_form p o && begins_trimmed p os) ≡ b → choose o a b os ≡ Ok f → GoesOn (choose o a (is_form p o && begins_trimmed p (os ++ read_all ms)) (os ++ read_all ms)) f (suc (length os))
      on true b is g =
          let next = all_parts_on false 0 (o ∷ os) f g in
          let bound = next.within in
          record { same = next.same; within = omega (arith, bound) }
      on false true is g =
          let next = all_parts_on true 1 os f g in
          let bound = next.within in
          record { same = ap (λ t. choose o false t (os ++ read_all ms)) (ap (λ t. is_form p o && t) (trimmed_same os) ∙ is) ∙ next.same; within = omega (arith, bound) }
      on false false is g =
          let size = ap (λ (h : Front I S). h.size) (got g) in
          record { same = ap (λ t. choose o false t (os ++ read_all ms)) (ap (λ t. is_form p o && t) (trimmed_same os) ∙ is) ∙ g; within = omega (arith, size) }

-- ---- the whole
module _ {I S : Type 0} (p : Profile I S) where
  right_of : (a b : Bool) → (a && b) ≡ true → (a ≡ true) × (b ≡ true)
  right_of true b e = (refl, e)
  right_of false b e = cc

  is_later : (kept : Parts I S) (r : ServerRecord) → admits_part p kept r ≡ true → IsLater r
  is_later kept (Part body) e = cc
  is_later kept (Floor version) e = cc
  is_later kept (Count c number base n) e = cc
  is_later kept (Carried origin number base ms body) e = cc
  is_later kept (Past c version ms body) e = cc
  is_later kept (Client id) e = tt
  is_later kept (Entry origin number base ms body) e = tt
  is_later kept Form e = tt
  is_later kept (Retired c by) e = tt
  is_later kept (Settled c n) e = tt

  are_later : (kept : Parts I S) (ms : List ServerRecord) → parts_open p kept ms ≡ true → AreLater ms
  are_later kept [] e = tt
  are_later kept (r ∷ ms) e = let b = right_of (admits_part p kept r) (parts_open p (after_part p kept r) ms) e in (is_later kept r b.0, are_later (after_part p kept r) ms b.1)

  further_ok : {C : Type 0} (r : Result C ℕ) (c : C) → further_on r ≡ Ok c → r ≡ Ok c
  further_ok (Ok x) c e = e
  further_ok (Err n) c e = cc

  rest_on_more : (os : List (Option ServerRecord)) (kept after : Parts I S) (ms : List ServerRecord) → rest_of p kept os ≡ Ok after → parts_open p after ms ≡ true → rest_of p kept (os ++ read_all ms) ≡ Ok (after_parts p after ms)
  rest_on_more [] kept after ms e h = let same = got e in subst (λ a. rest_of p kept (read_all ms) ≡ Ok (after_parts p a ms)) same (rest_opens p ms kept (subst (λ a. parts_open p a ms ≡ true) (sym same) h))
  rest_on_more (None ∷ os) kept after ms e h = cc
  rest_on_more (Some r ∷ os) kept after ms e h = on (admits_part p kept r) e (λ f. rest_on_more os (after_part p kept r) after ms f h)
    where
      on : (t : Bool) → (if t then further_on (rest_of p (after_part p kept r) os) else Err 0) ≡ Ok after → (rest_of p (after_part p kept r) os ≡ Ok after → rest_of p (after_part p kept r) (os ++ read_all ms) ≡ Ok (after_parts p after ms))
          → (if t then further_on (rest_of p (after_part p kept r) (os ++ read_all ms)) else Err 0) ≡ Ok (after_parts p after ms)
      on true f rec = ap further_on (rec (further_ok (rest_of p (after_part p kept r) os) after f))
      on false f rec = cc

  -- what a server's file gives, with the records that the server appends
  pub file_goes_on : (records ms : List ServerRecord) (kept : Parts I S) → file_gives p (read_all records) ≡ Ok kept → parts_open p kept ms ≡ true → file_gives p (read_all (records ++ ms)) ≡ Ok (after_parts p kept ms)
  file_goes_on records ms kept e h =
      let file = read_all records in
      let later = are_later kept ms h in
      let w = then_ok 0 (front_of p file) (λ front. then_at front.size (rest_of p front.parts (drop front.size file)) (λ k. Ok k)) kept e in
      let front = w.0 in
      let r = then_ok front.size (rest_of p front.parts (drop front.size file)) (λ k. Ok k) kept w.2 in
      let opened = r.1 ∙ r.2 in
      let on = front_on p ms later file front w.1 in
      ap (file_gives p) (read_more records ms)
      ∙ ap (λ f. then_at 0 f (λ front. then_at front.size (rest_of p front.parts (drop front.size (file ++ read_all ms))) (λ k. Ok k))) on.same
      ∙ ap (λ l. then_at front.size (rest_of p front.parts l) (λ k. Ok k)) (drop_more front.size file (read_all ms) on.within)
      ∙ ap (λ q. then_at front.size q (λ k. Ok k)) (rest_on_more (drop front.size file) front.parts kept ms opened h)
