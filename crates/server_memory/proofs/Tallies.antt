-- The counts at the front of a trimmed file.
use Rattle.std.proofs.Common.{◌≡◌, ℕ, suc, ◌+◌, ◌-◌, ◌≤◌, ◌==◌, Bool, true, false, not, ◌&&◌, List, [], ◌∷◌, ◌++◌, Option, Some, None, Result, Ok, Err, if◌then◌else◌, sym, ap, ◌∙◌, subst, arith, length, map, drop, take, nat_le, nat_lt}
use Rattle.std.proofs.lemmas.List.{length-map, map-append}
use Rattle.std.proofs.lemmas.List.Sums.{sum_by-append}
use Rattle.std.proofs.lemmas.Bool.{le-leb, le-ltb}
use Rattle.std.specs.List.{sum_by}
use Rattle.sync_data.specs.declared.instr.Instr.{Instr}
use Rattle.sync_base.specs.States.{State}
use Rattle.sync_model.specs.Fronts.{Counted as ModelCounted, all_within, count_is, count_step, counted_sum, entry_is, front_counts, front_entries, leading, of_kind, taking, then_at, walk, with_counts}
use Rattle.sync_model.specs.Bytes.{Uuid}
use Rattle.sync_model.specs.Parts.{Given}
use Rattle.sync_exchange.specs.Profile.{the_profile}
use Rattle.sync_records.specs.declared.server.ServerRecord.{ServerRecord as CodeRecord}
use Rattle.server_memory.specs.Fronting.{Fronts, counted_seen, seen_from, uuids_of}
use Rattle.server_memory.specs.declared.kept.Kept.{Kept}
use Rattle.server_memory.specs.declared.kinds.Counted.{Counted}
use Rattle.sync_journal.specs.declared.opening.ReadRefusal.{ReadRefusal}
use Rattle.server_memory.proofs.Continuing.{lead_short, take_short}
use Rattle.server_memory.proofs.Walking.{from_later, from_length}

tested : (cs : List Counted) (c : Counted) (n sum : ℕ) → n ≡ length cs → sum ≡ counted_sum (map counted_seen cs) → ((c.ident == suc n) && nat_le (sum + c.number) 4294967295) ≡ ((c.ident == suc (length (map counted_seen cs))) && nat_le (counted_sum (map counted_seen cs) + c.number) 4294967295)
tested cs c n sum size is = (λ i. (c.ident == suc ((size ∙ sym (length-map cs counted_seen)) i)) && nat_le (is i + c.number) 4294967295)

-- the next count, or another
pub count_not : (cs : List Counted) (c : Counted) (n sum : ℕ) → n ≡ length cs → sum ≡ counted_sum (map counted_seen cs) → (b : Bool) → b ≡ ((c.ident == suc n) && nat_le (sum + c.number) 4294967295) → b ≡ false → count_step 4294967295 (map counted_seen cs) (counted_seen c) ≡ None
count_not cs c n sum size is b says fails = ap (λ t. if t then Some (map counted_seen cs ++ counted_seen c ∷ []) else None) (sym (tested cs c n sum size is) ∙ sym says ∙ fails)

pub count_more : (cs now : List Counted) (c : Counted) (n sum : ℕ) → n ≡ length cs → sum ≡ counted_sum (map counted_seen cs) → (b : Bool) → b ≡ ((c.ident == suc n) && nat_le (sum + c.number) 4294967295) → b ≡ true → now ≡ cs ++ c ∷ [] → count_step 4294967295 (map counted_seen cs) (counted_seen c) ≡ Some (map counted_seen now)
count_more cs now c n sum size is b says yes_ after =
    ap (λ t. if t then Some (map counted_seen cs ++ counted_seen c ∷ []) else None) (sym (tested cs c n sum size is) ∙ sym says ∙ yes_)
    ∙ ap (λ l. Some l) (sym (ap (map counted_seen) after ∙ map-append counted_seen cs (c ∷ [])))

pub sum_more : (cs now : List Counted) (c : Counted) → now ≡ cs ++ c ∷ [] → counted_sum (map counted_seen cs) + c.number ≡ counted_sum (map counted_seen now)
sum_more cs now c after =
    let one : sum_by (λ (d : ModelCounted). d.number) (counted_seen c ∷ []) ≡ c.number = omega arith in
    sym (ap (λ l. counted_sum (map counted_seen l)) after
    ∙ ap counted_sum (map-append counted_seen cs (c ∷ []))
    ∙ sum_by-append (λ (d : ModelCounted). d.number) (map counted_seen cs) (counted_seen c ∷ [])
    ∙ ap (λ n. counted_sum (map counted_seen cs) + n) one)

pub few_counted : (ds : List (ℕ × ℕ)) (us : List Uuid) (es : List ModelCounted) → length (with_counts {I = Instr} ds us es) ≤ length us
few_counted ds [] es = omega arith
few_counted ds (u ∷ us) [] = omega arith
few_counted ds (u ∷ us) (e ∷ es) = let r = few_counted ds us es in omega (arith, r)

-- ---- what comes behind the counts
module _ (records : List (Option CodeRecord)) (k : ℕ) (second : Bool) (below : State) (floor : ℕ) (gs : List (Given Instr)) (ds : List (ℕ × ℕ)) (cs : List Counted) where
  abbrev xs : List ModelCounted
  xs = take (length gs) (leading (of_kind count_is) (seen_from k records))

  abbrev es : List ModelCounted
  es = map counted_seen cs

  module _ (size : length cs ≡ length xs) where
    pub counts_fit : k ≤ length records → k + length cs ≤ length records
    counts_fit within =
        let long = from_length records k within in
        let short = lead_short count_is (seen_from k records) in
        let taken = take_short (length gs) (leading (of_kind count_is) (seen_from k records)) in
        omega (arith, long, short, taken, size)

    module _ (read : walk (count_step 4294967295) [] xs ≡ Ok es) (enough : length gs ≤ length cs) (len : ℕ) (len_is : len ≡ counted_sum es) (above : floor ≤ len) (within : all_within len es ≡ true) where
      pub counted_on : (place : ℕ) (made : List (Given Instr)) (r : Result (Kept × ℕ) ReadRefusal) → place ≡ k + length cs → made ≡ with_counts ds (uuids_of gs) es → Fronts r (taking (of_kind entry_is) (len - floor) (seen_from place records) (front_entries the_profile second below floor len ds made place))
          → Fronts r (taking (of_kind count_is) (length gs) (seen_from k records) (front_counts the_profile second below floor (uuids_of gs) ds k))
      counted_on place made r here made_is says =
          let us = uuids_of gs in
          let at : place ≡ k + length xs = omega (arith, here, size) in
          let rest = drop (length xs) (seen_from k records) in
          let many : nat_lt (length xs) (length us) ≡ false = le-ltb (length xs) (length us) (omega (arith, length-map gs (λ (g : Given Instr). g.uuid), enough, size)) in
          let low : nat_le floor (counted_sum es) ≡ true = le-leb floor (counted_sum es) (omega (arith, above, len_is)) in
          let inside : all_within (counted_sum es) es ≡ true = ap (λ n. all_within n es) (sym len_is) ∙ within in
          let same : taking (of_kind count_is) (length gs) (seen_from k records) (front_counts the_profile second below floor us ds k) ≡ taking (of_kind entry_is) (len - floor) (seen_from place records) (front_entries the_profile second below floor len ds made place) =
          ap (λ w. then_at k w (λ es. if nat_lt (length xs) (length us) then Err (k + length xs - 1) else if not (nat_le floor (counted_sum es) && all_within (counted_sum es) es) then Err (k + length xs - 1)
          else taking (of_kind entry_is) (counted_sum es - floor) rest (front_entries the_profile second below floor (counted_sum es) ds (with_counts ds us es) (k + length xs)))) read
          ∙ ap (λ t. if t then Err (k + length xs - 1) else if not (nat_le floor (counted_sum es) && all_within (counted_sum es) es) then Err (k + length xs - 1)
          else taking (of_kind entry_is) (counted_sum es - floor) rest (front_entries the_profile second below floor (counted_sum es) ds (with_counts ds us es) (k + length xs))) many
          ∙ (λ i. if not (low i && inside i) then Err (k + length xs - 1)
          else taking (of_kind entry_is) (counted_sum es - floor) rest (front_entries the_profile second below floor (counted_sum es) ds (with_counts ds us es) (k + length xs)))
          ∙ (λ i. taking (of_kind entry_is) (sym len_is i - floor) (from_later records k (length xs) place at i) (front_entries the_profile second below floor (sym len_is i) ds (sym made_is i) (sym at i)))
          in
          subst (Fronts r) (sym same) says
