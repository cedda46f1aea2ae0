-- A walk over the records of a kind at the front of a list, record by record.
use Rattle.std.proofs.Common.{◌≡◌, ℕ, zero, suc, ◌+◌, ◌-◌, ◌<◌, ◌≤◌, List, [], ◌∷◌, Option, Some, None, Result, Ok, Err, refl, sym, ap, ◌∙◌, subst, arith, length, take, drop, drop-cons, get_or, map, add-one, length-drop}
use Rattle.std.specs.Option.{option_map}
use Rattle.std.proofs.lemmas.List.{length-map}
use Rattle.sync_model.specs.Servers.{ServerRecord}
use Rattle.sync_model.specs.Fronts.{further_on, lead_on, leading, of_kind, walk, walk_on}
use Rattle.sync_exchange.specs.Seen.{server_seen}
use Rattle.sync_records.specs.declared.server.ServerRecord.{ServerRecord as CodeRecord}
use Rattle.server_memory.specs.Fronting.{RefusedAt, seen, seen_from}
use Rattle.server_memory.proofs.Continuing.{lead_short}

-- so many records further
abbrev pub further_by : {C : Type 0} → ℕ → Result C ℕ → Result C ℕ
further_by zero r = r
further_by (suc n) r = further_on (further_by n r)

further_more : {C : Type 0} (n : ℕ) (r : Result C ℕ) → further_by n (further_on r) ≡ further_by (suc n) r
further_more zero r = refl
further_more (suc n) r = ap further_on (further_more n r)

further_ok : {C : Type 0} (n : ℕ) (c : C) → further_by n (Ok c) ≡ Ok c
further_ok zero c = refl
further_ok (suc n) c = ap further_on (further_ok n c)

further_err : {C : Type 0} (n : ℕ) → further_by {C = C} n (Err 0) ≡ Err n
further_err zero = refl
further_err (suc n) = ap further_on (further_err n)

take_all : {A : Type 0} (m : ℕ) (xs : List A) → length xs ≤ m → take m xs ≡ xs
take_all zero [] h = refl
take_all zero (x ∷ xs) h = absurd (omega arith)
take_all (suc m) [] h = refl
take_all (suc m) (x ∷ xs) h = ap (λ l. x ∷ l) (take_all m xs (omega arith))

take_none : {A : Type 0} (m : ℕ) (xs : List A) → m ≡ 0 → take m xs ≡ []
take_none m xs e = ap (λ k. take k xs) e

-- ---- the records of the code from a place on
pub map_drops : {A B : Type 0} (f : A → B) (n : ℕ) (xs : List A) → map f (drop n xs) ≡ drop n (map f xs)
map_drops f zero xs = refl
map_drops f (suc n) [] = refl
map_drops f (suc n) (x ∷ xs) = map_drops f n xs

pub from_next : (records : List (Option CodeRecord)) (place : ℕ) (r : Option CodeRecord) → place < length records → r ≡ get_or records place r → seen_from place records ≡ option_map server_seen r ∷ seen_from (place + 1) records
from_next records place r h is =
    let here : drop place records ≡ r ∷ drop (place + 1) records = rw (add-one, drop-cons records place r) (ap (λ d. d ∷ drop (suc place) records) (sym is)) in
    sym (map_drops (option_map server_seen) place records) ∙ ap (map (option_map server_seen)) here ∙ ap (λ l. option_map server_seen r ∷ l) (map_drops (option_map server_seen) (place + 1) records)

pub from_end : (records : List (Option CodeRecord)) (place : ℕ) → length records ≤ place → seen_from place records ≡ []
from_end records place h = sym (map_drops (option_map server_seen) place records) ∙ ap (map (option_map server_seen)) (dropped place records h)
  where
    dropped : {A : Type 0} (n : ℕ) (xs : List A) → length xs ≤ n → drop n xs ≡ []
    dropped zero [] h = refl
    dropped zero (x ∷ xs) h = absurd (omega arith)
    dropped (suc n) [] h = refl
    dropped (suc n) (x ∷ xs) h = dropped n xs (omega arith)

drops_more : {A : Type 0} (a b : ℕ) (xs : List A) → drop b (drop a xs) ≡ drop (a + b) xs
drops_more zero b xs = let e : b ≡ 0 + b = omega arith in ap (λ n. drop n xs) e
drops_more (suc a) zero [] = let e : suc (a + 0) ≡ suc a + 0 = omega arith in ap (λ n. drop n []) e
drops_more (suc a) (suc b) [] = let e : suc (a + suc b) ≡ suc a + suc b = omega arith in ap (λ n. drop n []) e
drops_more (suc a) b (x ∷ xs) = let e : suc (a + b) ≡ suc a + b = omega arith in drops_more a b xs ∙ ap (λ n. drop n (x ∷ xs)) e

pub from_later : (records : List (Option CodeRecord)) (first n place : ℕ) → place ≡ first + n → drop n (seen_from first records) ≡ seen_from place records
from_later records first n place e = drops_more first n (seen records) ∙ ap (λ k. drop k (seen records)) (sym e)

-- ---- the walk
module _ {A B : Type 0} (kind : ServerRecord → Option A) (step : B → A → Option B) (m : ℕ) (all : List (Option ServerRecord)) where
  -- of at most m records so many were walked, and these are left
  pub record WalkedSoFar (left : List (Option ServerRecord)) (first now : B) (n : ℕ) : Type 0 where
    pub bound : n ≤ m
    pub size : length (take m (leading (of_kind kind) all)) ≡ n + length (take (m - n) (leading (of_kind kind) left))
    pub goes : walk step first (take m (leading (of_kind kind) all)) ≡ further_by n (walk step now (take (m - n) (leading (of_kind kind) left)))

  pub walk_begins : (b : B) → WalkedSoFar all b b 0
  walk_begins b =
      let e : m - 0 ≡ m = omega arith in
      let same = ap (λ k. length (take k (leading (of_kind kind) all))) e in
      record { bound = omega arith; size = omega (arith, same); goes = ap (λ k. walk step b (take k (leading (of_kind kind) all))) (sym e) }

  -- one record more
  taken_more : (left after : List (Option ServerRecord)) (o : Option ServerRecord) (n : ℕ) (x : A) → left ≡ o ∷ after → n < m → of_kind kind o ≡ Some x → take (m - n) (leading (of_kind kind) left) ≡ x ∷ take (m - (n + 1)) (leading (of_kind kind) after)
  taken_more left after o n x is h e =
      let count : m - n ≡ suc (m - (n + 1)) = omega (arith, h) in
      ap (λ l. take (m - n) (leading (of_kind kind) l)) is
      ∙ ap (λ y. take (m - n) (lead_on y (leading (of_kind kind) after))) e
      ∙ ap (λ k. take k (x ∷ leading (of_kind kind) after)) count

  pub walk_goes_on : (left after : List (Option ServerRecord)) (o : Option ServerRecord) (n : ℕ) (x : A) (first now next : B) → WalkedSoFar left first now n → left ≡ o ∷ after → n < m → of_kind kind o ≡ Some x → step now x ≡ Some next → WalkedSoFar after first next (n + 1)
  walk_goes_on left after o n x first now next s is h e made =
      let more = taken_more left after o n x is h e in
      let longer = ap length more in
      let size = s.size in
      let rest = take (m - (n + 1)) (leading (of_kind kind) after) in
      let count : suc n ≡ n + 1 = omega arith in
      record {
        bound = omega (arith, h);
        size = omega (arith, size, longer);
        goes = s.goes
            ∙ ap (λ l. further_by n (walk step now l)) more
            ∙ ap (λ c. further_by n (walk_on c (λ d. further_on (walk step d rest)))) made
            ∙ further_more n (walk step next rest)
            ∙ ap (λ k. further_by k (walk step next rest)) count;
      }

  pub walk_refuses : (left after : List (Option ServerRecord)) (o : Option ServerRecord) (n at place : ℕ) (x : A) (first now : B) → WalkedSoFar left first now n → left ≡ o ∷ after → n < m → of_kind kind o ≡ Some x → step now x ≡ None → place ≡ at + n → RefusedAt at place (walk step first (take m (leading (of_kind kind) all)))
  walk_refuses left after o n at place x first now s is h e none here =
      record {
        number = n;
        place_is = here;
        is = s.goes
            ∙ ap (λ l. further_by n (walk step now l)) (taken_more left after o n x is h e)
            ∙ ap (λ c. further_by n (walk_on c (λ d. further_on (walk step d (take (m - (n + 1)) (leading (of_kind kind) after)))))) none
            ∙ further_err n;
      }

  -- no more of them
  pub walk_ends : (left : List (Option ServerRecord)) (n : ℕ) (first now : B) → WalkedSoFar left first now n → take (m - n) (leading (of_kind kind) left) ≡ [] → (walk step first (take m (leading (of_kind kind) all)) ≡ Ok now) × (n ≡ length (take m (leading (of_kind kind) all)))
  walk_ends left n first now s none =
      let size = s.size in
      let short = ap length none in
      (s.goes ∙ ap (λ l. further_by n (walk step now l)) none ∙ further_ok n now, omega (arith, size, short))

  pub none_of_kind : (left after : List (Option ServerRecord)) (o : Option ServerRecord) (n : ℕ) → left ≡ o ∷ after → of_kind kind o ≡ None → take (m - n) (leading (of_kind kind) left) ≡ []
  none_of_kind left after o n is e = ap (λ l. take (m - n) (leading (of_kind kind) l)) is ∙ ap (λ y. take (m - n) (lead_on y (leading (of_kind kind) after))) e ∙ nothing (m - n)
    where
      nothing : (k : ℕ) → take {A = A} k [] ≡ []
      nothing zero = refl
      nothing (suc k) = refl

  pub none_left : (left : List (Option ServerRecord)) (n : ℕ) → left ≡ [] → take (m - n) (leading (of_kind kind) left) ≡ []
  none_left left n is = ap (λ l. take (m - n) (leading (of_kind kind) l)) is ∙ nothing (m - n)
    where
      nothing : (k : ℕ) → take {A = A} k [] ≡ []
      nothing zero = refl
      nothing (suc k) = refl

  pub none_more : (left : List (Option ServerRecord)) (n : ℕ) → n ≡ m → take (m - n) (leading (of_kind kind) left) ≡ []
  none_more left n e = let none : m - n ≡ 0 = omega (arith, e) in take_none (m - n) (leading (of_kind kind) left) none

-- all of them
pub all_of_kind : {A : Type 0} (kind : ServerRecord → Option A) (all : List (Option ServerRecord)) → take (length all) (leading (of_kind kind) all) ≡ leading (of_kind kind) all
all_of_kind kind all = take_all (length all) (leading (of_kind kind) all) (lead_short kind all)

-- ---- a loop over records of the code that walks those of a kind, at most m of them
pub from_length : (records : List (Option CodeRecord)) (first : ℕ) → first ≤ length records → first + length (seen_from first records) ≡ length records
from_length records first h =
    let mapped = length-map records (option_map server_seen) in
    let dropped = length-drop first (seen records) in
    omega (arith, mapped, dropped)

module _ {A B : Type 0} (kind : ServerRecord → Option A) (step : B → A → Option B) (m : ℕ) (records : List (Option CodeRecord)) (first : ℕ) where
  abbrev pub walked : B → Result B ℕ
  walked b = walk step b (take m (leading (of_kind kind) (seen_from first records)))

  pub record LoopSoFar (place : ℕ) (begun now : B) (n : ℕ) : Type 0 where
    pub so_far : WalkedSoFar kind step m (seen_from first records) (seen_from place records) begun now n
    pub here : place ≡ first + n

  pub loop_begins : (b : B) → LoopSoFar first b b 0
  loop_begins b = record { so_far = walk_begins kind step m (seen_from first records) b; here = omega arith }

  module _ (place : ℕ) (begun now : B) (n : ℕ) (s : LoopSoFar place begun now n) where
    pub loop_next : (r : Option CodeRecord) (x : A) (next : B) → n < m → place < length records → r ≡ get_or records place r → of_kind kind (option_map server_seen r) ≡ Some x → step now x ≡ Some next → LoopSoFar (place + 1) begun next (n + 1)
    loop_next r x next few lt is e made =
        let here = s.here in
        record {
          so_far = walk_goes_on kind step m (seen_from first records) (seen_from place records) (seen_from (place + 1) records) (option_map server_seen r) n x begun now next s.so_far (from_next records place r lt is) few e made;
          here = omega (arith, here);
        }

    pub loop_refuses : (r : Option CodeRecord) (x : A) → n < m → place < length records → r ≡ get_or records place r → of_kind kind (option_map server_seen r) ≡ Some x → step now x ≡ None → RefusedAt first place (walked begun)
    loop_refuses r x few lt is e none =
        walk_refuses kind step m (seen_from first records) (seen_from place records) (seen_from (place + 1) records) (option_map server_seen r) n first place x begun now s.so_far (from_next records place r lt is) few e none s.here

    pub loop_other : (r : Option CodeRecord) → place < length records → r ≡ get_or records place r → of_kind kind (option_map server_seen r) ≡ None → (walked begun ≡ Ok now) × (n ≡ length (take m (leading (of_kind kind) (seen_from first records))))
    loop_other r lt is e =
        walk_ends kind step m (seen_from first records) (seen_from place records) n begun now s.so_far
        (none_of_kind kind step m (seen_from first records) (seen_from place records) (seen_from (place + 1) records) (option_map server_seen r) n (from_next records place r lt is) e)

    pub loop_done : length records ≤ place → (walked begun ≡ Ok now) × (n ≡ length (take m (leading (of_kind kind) (seen_from first records))))
    loop_done h = walk_ends kind step m (seen_from first records) (seen_from place records) n begun now s.so_far (none_left kind step m (seen_from first records) (seen_from place records) n (from_end records place h))

    pub loop_full : n ≡ m → (walked begun ≡ Ok now) × (n ≡ length (take m (leading (of_kind kind) (seen_from first records))))
    loop_full e = walk_ends kind step m (seen_from first records) (seen_from place records) n begun now s.so_far (none_more kind step m (seen_from first records) (seen_from place records) n e)

-- ---- a loop that passes over the records of a kind
abbrev pub passed_over : {A : Type 0} → Unit {0} → A → Option (Unit {0})
passed_over u x = Some tt

module _ {A : Type 0} (kind : ServerRecord → Option A) (records : List (Option CodeRecord)) (first : ℕ) where
  abbrev pub PassedSoFar : ℕ → Type 0
  PassedSoFar place = LoopSoFar kind passed_over (length (seen_from first records)) records first place tt tt (place - first)

  module _ (within : first ≤ length records) where
    pub pass_begins : PassedSoFar first
    pass_begins =
        let none : 0 ≡ first - first = omega arith in
        subst (LoopSoFar kind passed_over (length (seen_from first records)) records first first tt tt) none (loop_begins kind passed_over (length (seen_from first records)) records first tt)

    whole : (place : ℕ) → first ≤ place → (walked kind passed_over (length (seen_from first records)) records first tt ≡ Ok tt) × (place - first ≡ length (take (length (seen_from first records)) (leading (of_kind kind) (seen_from first records)))) → place ≡ first + length (leading (of_kind kind) (seen_from first records))
    whole place h e =
        let size = e.1 ∙ ap length (all_of_kind kind (seen_from first records)) in
        omega (arith, size, h)

    pub pass_next : (place : ℕ) → first ≤ place → PassedSoFar place → place < length records → (r : Option CodeRecord) → r ≡ get_or records place r → (x : A) → of_kind kind (option_map server_seen r) ≡ Some x → PassedSoFar (place + 1)
    pass_next place h s lt r is x e =
        let long = from_length records first within in
        let few : place - first < length (seen_from first records) = omega (arith, long, lt, h) in
        let count : place - first + 1 ≡ place + 1 - first = omega (arith, h) in
        subst (LoopSoFar kind passed_over (length (seen_from first records)) records first (place + 1) tt tt) count
        (loop_next kind passed_over (length (seen_from first records)) records first place tt tt (place - first) s r x tt few lt is e refl)

    pub pass_other : (place : ℕ) → first ≤ place → PassedSoFar place → place < length records → (r : Option CodeRecord) → r ≡ get_or records place r → of_kind kind (option_map server_seen r) ≡ None → place ≡ first + length (leading (of_kind kind) (seen_from first records))
    pass_other place h s lt r is e = whole place h (loop_other kind passed_over (length (seen_from first records)) records first place tt tt (place - first) s r lt is e)

    pub pass_done : (place : ℕ) → first ≤ place → PassedSoFar place → length records ≤ place → place ≡ first + length (leading (of_kind kind) (seen_from first records))
    pass_done place h s le = whole place h (loop_done kind passed_over (length (seen_from first records)) records first place tt tt (place - first) s le)

-- ---- a loop that keeps what a walk makes of all records of a kind
module _ {A B : Type 0} (kind : ServerRecord → Option A) (step : B → A → Option B) (records : List (Option CodeRecord)) (first : ℕ) where
  abbrev pub KeptSoFar : ℕ → B → B → ℕ → Type 0
  KeptSoFar place begun now n = LoopSoFar kind step (length (seen_from first records)) records first place begun now n

  module _ (within : first ≤ length records) where
    pub keep_begins : (b : B) → KeptSoFar first b b 0
    keep_begins b = loop_begins kind step (length (seen_from first records)) records first b

    pub keep_next : (place : ℕ) (begun now next : B) (n : ℕ) (r : Option CodeRecord) (x : A) → KeptSoFar place begun now n → place < length records → r ≡ get_or records place r → of_kind kind (option_map server_seen r) ≡ Some x → step now x ≡ Some next → KeptSoFar (place + 1) begun next (n + 1)
    keep_next place begun now next n r x s lt is e made =
        let long = from_length records first within in
        let here = s.here in
        loop_next kind step (length (seen_from first records)) records first place begun now n s r x next (omega (arith, long, here, lt)) lt is e made

    pub keep_refuses : (place : ℕ) (begun now : B) (n : ℕ) (r : Option CodeRecord) (x : A) → KeptSoFar place begun now n → place < length records → r ≡ get_or records place r → of_kind kind (option_map server_seen r) ≡ Some x → step now x ≡ None → RefusedAt first place (walk step begun (leading (of_kind kind) (seen_from first records)))
    keep_refuses place begun now n r x s lt is e none =
        let long = from_length records first within in
        let here = s.here in
        subst (λ l. RefusedAt first place (walk step begun l)) (all_of_kind kind (seen_from first records))
        (loop_refuses kind step (length (seen_from first records)) records first place begun now n s r x (omega (arith, long, here, lt)) lt is e none)

    pub keep_whole : (begun now : B) (n : ℕ) → (walked kind step (length (seen_from first records)) records first begun ≡ Ok now) × (n ≡ length (take (length (seen_from first records)) (leading (of_kind kind) (seen_from first records)))) → (walk step begun (leading (of_kind kind) (seen_from first records)) ≡ Ok now) × (n ≡ length (leading (of_kind kind) (seen_from first records)))
    keep_whole begun now n e = subst (λ l. (walk step begun l ≡ Ok now) × (n ≡ length l)) (all_of_kind kind (seen_from first records)) e

    pub keep_other : (place : ℕ) (begun now : B) (n : ℕ) (r : Option CodeRecord) → KeptSoFar place begun now n → place < length records → r ≡ get_or records place r → of_kind kind (option_map server_seen r) ≡ None → (walk step begun (leading (of_kind kind) (seen_from first records)) ≡ Ok now) × (n ≡ length (leading (of_kind kind) (seen_from first records)))
    keep_other place begun now n r s lt is e = keep_whole begun now n (loop_other kind step (length (seen_from first records)) records first place begun now n s r lt is e)

    pub keep_done : (place : ℕ) (begun now : B) (n : ℕ) → KeptSoFar place begun now n → length records ≤ place → (walk step begun (leading (of_kind kind) (seen_from first records)) ≡ Ok now) × (n ≡ length (leading (of_kind kind) (seen_from first records)))
    keep_done place begun now n s le = keep_whole begun now n (loop_done kind step (length (seen_from first records)) records first place begun now n s le)
