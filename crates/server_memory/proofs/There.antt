-- What is read at the front of a trimmed file are records.
use Rattle.std.proofs.Common.{◌≡◌, ℕ, zero, suc, ◌+◌, ◌-◌, ◌≤◌, Bool, true, false, not, ◌&&◌, List, [], ◌∷◌, Option, Some, None, Ok, Err, if◌then◌else◌, refl, sym, ap, subst, arith, length, map, drop, take, nat_lt, nat_le, inl, inr, ◌⊎◌}
use Rattle.sync_model.specs.Bytes.{Uuid}
use Rattle.sync_model.specs.Profile.{Profile}
use Rattle.sync_model.specs.Snapshots.{grown}
use Rattle.sync_model.specs.Servers.{ServerRecord}
use Rattle.sync_model.specs.Parts.{Given, no_parts}
use Rattle.sync_model.specs.Files.{is_empty}
use Rattle.sync_model.specs.Fronts.{lead_on, leading, taking, taking_all, Front, Grows, of_kind, part_of, floor_is, uuid_is, retired_is, count_is, entry_is, crossed_is, walk, then_at, part_step, uuid_step, retired_step, counted_sum, count_step, all_within, with_counts, all_end, entry_step, crossed_step, front_crossed, front_entries, front_counts, front_alone, front_retired, front_uuids, front_floor, front_behind, front_parts, begins_trimmed, is_form, front_of}
use Rattle.server_memory.proofs.Continuing.{got, if_ok, take_short, then_ok}

-- each is a record
abbrev pub AllThere : List (Option ServerRecord) → Type 0
AllThere [] = Unit {0}
AllThere (None ∷ os) = ⊥
AllThere (Some r ∷ os) = AllThere os

pub there_records : (os : List (Option ServerRecord)) → AllThere os → (records : List ServerRecord) × (os ≡ map (λ r. Some r) records)
there_records [] h = ([], refl)
there_records (None ∷ os) h = absurd h
there_records (Some r ∷ os) h = let rest = there_records os h in (r ∷ rest.0, ap (λ l. Some r ∷ l) rest.1)

there_both : (a b : ℕ) (os : List (Option ServerRecord)) → AllThere (take a os) → AllThere (take b (drop a os)) → AllThere (take (a + b) os)
there_both zero b os h k = let e : b ≡ 0 + b = omega arith in subst (λ n. AllThere (take n os)) e k
there_both (suc a) zero [] h k = nothing (suc a + 0)
  where
    nothing : (n : ℕ) → AllThere (take n [])
    nothing zero = tt
    nothing (suc n) = tt
there_both (suc a) (suc b) [] h k = nothing (suc a + suc b)
  where
    nothing : (n : ℕ) → AllThere (take n [])
    nothing zero = tt
    nothing (suc n) = tt
there_both (suc a) b (None ∷ os) h k = absurd h
there_both (suc a) b (Some r ∷ os) h k = let e : suc (a + b) ≡ suc a + b = omega arith in subst (λ n. AllThere (take n (Some r ∷ os))) e (there_both a b os h k)

lead_there : {A : Type 0} (kind : ServerRecord → Option A) (a : ℕ) (os : List (Option ServerRecord)) → a ≤ length (leading (of_kind kind) os) → AllThere (take a os)
lead_there kind zero os h = tt
lead_there kind (suc a) [] h = tt
lead_there kind (suc a) (None ∷ os) h = absurd (omega (arith, h))
lead_there {A = A} kind (suc a) (Some r ∷ os) h = on (kind r) h (λ k. lead_there kind a os k)
  where
    on : (x : Option A) → suc a ≤ length (lead_on x (leading (of_kind kind) os)) → (a ≤ length (leading (of_kind kind) os) → AllThere (take a os)) → AllThere (take a os)
    on None k rec = absurd (omega (arith, k))
    on (Some x) k rec = rec (omega (arith, k))

module _ {I S : Type 0} (p : Profile I S) where
  -- from a place on up to the end of the front
  record Reads (rest : List (Option ServerRecord)) (k : ℕ) (f : Front I S) : Type 0 where
    behind : k ≤ f.size
    there : AllThere (take (f.size - k) rest)

  reads_more : {A : Type 0} (kind : ServerRecord → Option A) (a k : ℕ) (rest : List (Option ServerRecord)) (f : Front I S) → a ≤ length (leading (of_kind kind) rest) → Reads (drop a rest) (k + a) f → Reads rest k f
  reads_more kind a k rest f h r =
      let behind = r.behind in
      let count : a + (f.size - (k + a)) ≡ f.size - k = omega (arith, behind) in
      record { behind = omega (arith, behind); there = subst (λ n. AllThere (take n rest)) count (there_both a (f.size - (k + a)) rest (lead_there kind a rest h) r.there) }

  reads_none : (k : ℕ) (rest : List (Option ServerRecord)) (f : Front I S) → f.size ≡ k → Reads rest k f
  reads_none k rest f e = let none : 0 ≡ f.size - k = omega (arith, e) in record { behind = omega (arith, e); there = subst (λ n. AllThere (take n rest)) none tt }

  crossed_there : (second : Bool) (below : S) (floor len : ℕ) (ds : List (ℕ × ℕ)) (gs : List (Given I)) (st : Grows I S) (k : ℕ) (rest : List (Option ServerRecord)) (f : Front I S) → taking_all (of_kind crossed_is) rest (front_crossed p second below floor len ds gs st k) ≡ Ok f → Reads rest k f
  crossed_there second below floor len ds gs st k rest f e =
      let xs = leading (of_kind crossed_is) rest in
      let last = then_ok k (walk (crossed_step p second floor gs st.entries) [] xs) _ f e in
      let size = sym (ap (λ (g : Front I S). g.size) (got last.2)) in
      reads_more crossed_is (length xs) k rest f (omega arith) (reads_none (k + length xs) (drop (length xs) rest) f size)

  entries_there : (second : Bool) (below : S) (floor len n : ℕ) (ds : List (ℕ × ℕ)) (gs : List (Given I)) (k : ℕ) (rest : List (Option ServerRecord)) (f : Front I S) → taking (of_kind entry_is) n rest (front_entries p second below floor len ds gs k) ≡ Ok f → Reads rest k f
  entries_there second below floor len n ds gs k rest f e =
      let es = take n (leading (of_kind entry_is) rest) in
      let w = then_ok k (walk (entry_step p second gs) (record { objects = below; entries = []; bases = [] }) es) _ f e in
      let one = if_ok (nat_lt (length es) (len - floor)) (k + length es - 1) _ f w.2 in
      let two = if_ok (not (all_end 1 w.0.entries gs)) (k + length es - 1) _ f one.1 in
      reads_more entry_is (length es) k rest f (take_short n (leading (of_kind entry_is) rest)) (crossed_there second below floor len ds gs w.0 (k + length es) (drop (length es) rest) f two.1)

  counts_there : (second : Bool) (below : S) (floor n : ℕ) (us : List Uuid) (ds : List (ℕ × ℕ)) (k : ℕ) (rest : List (Option ServerRecord)) (f : Front I S) → taking (of_kind count_is) n rest (front_counts p second below floor us ds k) ≡ Ok f → Reads rest k f
  counts_there second below floor n us ds k rest f e =
      let cs = take n (leading (of_kind count_is) rest) in
      let w = then_ok k (walk (count_step p.full) [] cs) _ f e in
      let one = if_ok (nat_lt (length cs) (length us)) (k + length cs - 1) _ f w.2 in
      let two = if_ok (not (nat_le floor (counted_sum w.0) && all_within (counted_sum w.0) w.0)) (k + length cs - 1) _ f one.1 in
      reads_more count_is (length cs) k rest f (take_short n (leading (of_kind count_is) rest))
      (entries_there second below floor (counted_sum w.0) (counted_sum w.0 - floor) ds (with_counts ds us w.0) (k + length cs) (drop (length cs) rest) f two.1)

  retired_there : (second : Bool) (below : S) (floor k : ℕ) (us : List Uuid) (qs : List (ℕ × ℕ)) (rest : List (Option ServerRecord)) (f : Front I S) → front_retired p second below floor k us qs rest ≡ Ok f → (f.size ≡ k) ⊎ Reads rest (k + length us + length qs) f
  retired_there second below floor k us qs rest f e = on (is_empty (leading (of_kind count_is) rest)) e
    where
      on : (t : Bool)
          → (if t then (if nat_lt 0 floor then Err (k - 1) else Ok (front_alone p second below floor k)) else if is_empty us then Err k else then_at k (walk uuid_step [] us) (λ vs. then_at (k + length us) (walk (retired_step (length us)) [] qs) (λ ds. taking (of_kind count_is) (length us) rest (front_counts p second below floor vs ds (k + length us + length qs))))) ≡ Ok f
          → (f.size ≡ k) ⊎ Reads rest (k + length us + length qs) f
      on true g = let one = if_ok (nat_lt 0 floor) (k - 1) (Ok (front_alone p second below floor k)) f g in inl (sym (ap (λ (h : Front I S). h.size) (got one.1)))
      on false g =
          let some = if_ok (is_empty us) k _ f g in
          let v = then_ok k (walk uuid_step [] us) _ f some.1 in
          let d = then_ok (k + length us) (walk (retired_step (length us)) [] qs) _ f v.2 in
          inr (counts_there second below floor (length us) v.0 d.0 (k + length us + length qs) rest f d.2)

  uuids_there : (second : Bool) (below : S) (floor k : ℕ) (us : List Uuid) (rest : List (Option ServerRecord)) (f : Front I S) → front_uuids p second below floor k us rest ≡ Ok f → (f.size ≡ k) ⊎ Reads rest (k + length us) f
  uuids_there second below floor k us rest f e =
      let qs = leading (of_kind retired_is) rest in
      on (retired_there second below floor k us qs (drop (length qs) rest) f e)
    where
      on : (f.size ≡ k) ⊎ Reads (drop (length (leading (of_kind retired_is) rest)) rest) (k + length us + length (leading (of_kind retired_is) rest)) f → (f.size ≡ k) ⊎ Reads rest (k + length us) f
      on (inl same) = inl same
      on (inr r) = inr (reads_more retired_is (length (leading (of_kind retired_is) rest)) (k + length us) rest f (omega arith) r)

  behind_there : (second : Bool) (below : S) (k : ℕ) (rest : List (Option ServerRecord)) (f : Front I S) → front_behind p second below k rest ≡ Ok f → Reads rest k f
  behind_there second below k [] f e = cc
  behind_there second below k (None ∷ rest) f e = cc
  behind_there second below k (Some r ∷ rest) f e = on (floor_is r) e
    where
      next : Reads rest (suc k) f → Reads (Some r ∷ rest) k f
      next s =
          let behind = s.behind in
          let count : suc (f.size - suc k) ≡ f.size - k = omega (arith, behind) in
          record { behind = omega (arith, behind); there = subst (λ n. AllThere (take n (Some r ∷ rest))) count s.there }

      ids : (f.size ≡ suc k) ⊎ Reads (drop (length (leading (of_kind uuid_is) rest)) rest) (suc k + length (leading (of_kind uuid_is) rest)) f → Reads (Some r ∷ rest) k f
      ids (inl same) = next (reads_none (suc k) rest f same)
      ids (inr s) = next (reads_more uuid_is (length (leading (of_kind uuid_is) rest)) (suc k) rest f (omega arith) s)

      on : (o : Option ℕ) → front_floor p second below k o rest ≡ Ok f → Reads (Some r ∷ rest) k f
      on None g = cc
      on (Some floor) g = ids (uuids_there second below floor (suc k) (leading (of_kind uuid_is) rest) (drop (length (leading (of_kind uuid_is) rest)) rest) f g)

  parts_there : (second : Bool) (k : ℕ) (rest : List (Option ServerRecord)) (f : Front I S) → taking_all (of_kind part_of) rest (front_parts p second k) ≡ Ok f → Reads rest k f
  parts_there second k rest f e =
      let xs = leading (of_kind part_of) rest in
      let w = then_ok k (walk (part_step p second) [] xs) _ f e in
      let s = then_ok k (grown p w.0) _ f w.2 in
      reads_more part_of (length xs) k rest f (omega arith) (behind_there second s.0 (k + length xs) (drop (length xs) rest) f s.2)

  -- all records of the front are there
  pub front_there : (os : List (Option ServerRecord)) (f : Front I S) → front_of p os ≡ Ok f → AllThere (take f.size os)
  front_there [] f e = let size = ap (λ (g : Front I S). g.size) (got e) in subst (λ n. AllThere (take n [])) size tt
  front_there (o ∷ os) f e = on (begins_trimmed p (o ∷ os)) (is_form p o && begins_trimmed p os) refl e
    where
      from_start : (rest : List (Option ServerRecord)) → Reads rest 0 f → AllThere (take f.size rest)
      from_start rest r = let same : f.size - 0 ≡ f.size = omega arith in subst (λ n. AllThere (take n rest)) same r.there

      form_there : (q : Option ServerRecord) (b : Bool) → (is_form p q && b) ≡ true → Reads os 1 f → AllThere (take f.size (q ∷ os))
      form_there None b h r = cc
      form_there (Some x) b h r =
          let behind = r.behind in
          let count : suc (f.size - 1) ≡ f.size = omega (arith, behind) in
          subst (λ n. AllThere (take n (Some x ∷ os))) count r.there

      on : (a b : Bool) → (is_form p o && begins_trimmed p os) ≡ b → (if a then taking_all (of_kind part_of) (o ∷ os) (front_parts p false 0) else if b then taking_all (of_kind part_of) os (front_parts p true 1) else Ok (record { parts = no_parts p; size = 0 })) ≡ Ok f → AllThere (take f.size (o ∷ os))
      on true b is g = from_start (o ∷ os) (parts_there false 0 (o ∷ os) f g)
      on false true is g = form_there o (begins_trimmed p os) is (parts_there true 1 os f g)
      on false false is g = let size = ap (λ (h : Front I S). h.size) (got g) in subst (λ n. AllThere (take n (o ∷ os))) size tt
