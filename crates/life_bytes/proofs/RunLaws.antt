-- Runs and the lives that they have: those of lives are the fewest, and lives are those of their runs.
use Rattle.std.proofs.Common.{◌≡◌, ℕ, zero, suc, ◌+◌, ◌-◌, ◌<◌, ◌≤◌, Bool, true, false, cond, leb, List, [], ◌∷◌, ◌++◌, length, get_or, set, drop, replicate, drop-cons, Option, Some, None, refl, sym, ap, ◌∙◌, add-one, append_assoc, arith, length-append, subst, All}
use Rattle.std.specs.Prelude.{not, ◌&&◌, bytes_eq, slice_get}
use Rattle.std.specs.List.{AllByRecursion}
use Rattle.std.proofs.lemmas.Bool.{and_parts, and_from, not-true, le-leb, leb-true, leb-false}
use Rattle.std.proofs.lemmas.List.{append-nil, length-replicate, replicate-append-replicate}
use Rattle.std.proofs.lemmas.List.Elements.{All-nil, All-append, All-replicate, All-head, All-tail}
use Rattle.std.proofs.lemmas.List.Sums.{sum_by-cons}
use Rattle.std.proofs.lemmas.Slice.Eq.{bytes_eq-Decides}
use Rattle.life_bytes.specs.declared.run.Run.{Run}
use Rattle.life_bytes.specs.Runs.{IsLife, Lives, most_numbers, lives_of, run_of, in_front, runs_of, count_of, is_other, are_apart, AreLives, AreRuns, HoldsRuns, most_runs, ends_with, pushed}

same_is : (a b : List ℕ) → bytes_eq a b ≡ true → a ≡ b
same_is a b e = (bytes_eq-Decides a b).0 e

same_self : (a : List ℕ) → bytes_eq a a ≡ true
same_self a = (bytes_eq-Decides a a).1 refl

-- ---- the lives of the runs of lives

front_lives : (life : List ℕ) (run : Run) (runs : List Run) (b : Bool) → bytes_eq life run.life ≡ b
    → lives_of (cond b (run_of (run.count + 1) run.life ∷ runs) (run_of 1 life ∷ run ∷ runs)) ≡ life ∷ lives_of (run ∷ runs)
front_lives life run runs true e = rw (add-one, same_is life run.life e) refl
front_lives life run runs false e = refl

in_front_lives : (life : List ℕ) (runs : List Run) → lives_of (in_front life runs) ≡ life ∷ lives_of runs
in_front_lives life [] = refl
in_front_lives life (run ∷ runs) = front_lives life run runs (bytes_eq life run.life) refl

pub lives_again : (lives : Lives) → lives_of (runs_of lives) ≡ lives
lives_again [] = refl
lives_again (life ∷ lives) = in_front_lives life (runs_of lives) ∙ ap (λ (xs : Lives). life ∷ xs) (lives_again lives)

-- ---- the runs of the lives of runs

front_other : (life : List ℕ) (runs : List Run) → are_apart (Some life) runs ≡ true → in_front life runs ≡ run_of 1 life ∷ runs
front_other life [] e = refl
front_other life (run ∷ runs) e =
    let p = and_parts (leb 1 run.count) (not (bytes_eq life run.life) && are_apart (Some run.life) runs) e in
    let q = and_parts (not (bytes_eq life run.life)) (are_apart (Some run.life) runs) p.1 in
    ap (λ b. cond b (run_of (run.count + 1) run.life ∷ runs) (run_of 1 life ∷ run ∷ runs)) (not-true (bytes_eq life run.life) q.0)

front_same : (life : List ℕ) (n : ℕ) (runs : List Run) → in_front life (run_of n life ∷ runs) ≡ run_of (n + 1) life ∷ runs
front_same life n runs = ap (λ b. cond b (run_of (n + 1) life ∷ runs) (run_of 1 life ∷ run_of n life ∷ runs)) (same_self life)

many_again : (life : List ℕ) (n : ℕ) (lives : Lives) (runs : List Run) → 1 ≤ n → runs_of lives ≡ runs → are_apart (Some life) runs ≡ true → runs_of (replicate n life ++ lives) ≡ run_of n life ∷ runs
many_again life zero lives runs some e apart = absurd (omega arith)
many_again life (suc zero) lives runs some e apart = ap (in_front life) e ∙ front_other life runs apart
many_again life (suc (suc n)) lives runs some e apart =
    ap (in_front life) (many_again life (suc n) lives runs (omega arith) e apart)
    ∙ front_same life (suc n) runs
    ∙ ap (λ k. run_of k life ∷ runs) (add-one (suc n))

pub runs_again : (before : Option (List ℕ)) (runs : List Run) → are_apart before runs ≡ true → runs_of (lives_of runs) ≡ runs
runs_again before [] e = refl
runs_again before (run ∷ runs) e =
    let p = and_parts (leb 1 run.count) (is_other before run.life && are_apart (Some run.life) runs) e in
    let q = and_parts (is_other before run.life) (are_apart (Some run.life) runs) p.1 in
    many_again run.life run.count (lives_of runs) runs (leb-true 1 run.count p.0) (runs_again (Some run.life) runs q.1) q.1

-- ---- the runs of lives are apart

one_or_more : (n : ℕ) → leb 1 (n + 1) ≡ true
one_or_more n = le-leb 1 (n + 1) (omega arith)

front_apart : (life : List ℕ) (run : Run) (runs : List Run) (b : Bool) → bytes_eq life run.life ≡ b → are_apart None (run ∷ runs) ≡ true
    → are_apart None (cond b (run_of (run.count + 1) run.life ∷ runs) (run_of 1 life ∷ run ∷ runs)) ≡ true
front_apart life run runs true e apart =
    let p = and_parts (leb 1 run.count) (are_apart (Some run.life) runs) apart in
    and_from (leb 1 (run.count + 1)) (are_apart (Some run.life) runs) (one_or_more run.count) p.1
front_apart life run runs false e apart =
    let p = and_parts (leb 1 run.count) (are_apart (Some run.life) runs) apart in
    and_from (leb 1 run.count) (not (bytes_eq life run.life) && are_apart (Some run.life) runs) p.0 (
    and_from (not (bytes_eq life run.life)) (are_apart (Some run.life) runs) (ap not e) p.1
    )

in_front_apart : (life : List ℕ) (runs : List Run) → are_apart None runs ≡ true → are_apart None (in_front life runs) ≡ true
in_front_apart life [] apart = refl
in_front_apart life (run ∷ runs) apart = front_apart life run runs (bytes_eq life run.life) refl apart

pub runs_are_apart : (lives : Lives) → are_apart None (runs_of lives) ≡ true
runs_are_apart [] = refl
runs_are_apart (life ∷ lives) = in_front_apart life (runs_of lives) (runs_are_apart lives)

-- ---- how many numbers there are

pub count_is : (runs : List Run) → length (lives_of runs) ≡ count_of runs
count_is [] = refl
count_is (run ∷ runs) = omega (arith, length-append (replicate run.count run.life) (lives_of runs), length-replicate run.count run.life, count_is runs, sum_by-cons (λ (run : Run). run.count) run runs)

-- ---- more numbers of a life behind runs

pushed_last : (life : List ℕ) (n : ℕ) (run : Run) (b : Bool) → bytes_eq run.life life ≡ b
    → lives_of (cond b (run_of (run.count + n) run.life ∷ []) (run ∷ run_of n life ∷ [])) ≡ lives_of (run ∷ []) ++ replicate n life
pushed_last life n run true e =
    append-nil (replicate (run.count + n) run.life)
    ∙ sym (replicate-append-replicate run.count n run.life)
    ∙ ap (λ (x : List ℕ). replicate run.count run.life ++ replicate n x) (same_is run.life life e)
    ∙ ap (λ (xs : Lives). xs ++ replicate n life) (sym (append-nil (replicate run.count run.life)))
pushed_last life n run false e =
    ap (λ (xs : Lives). replicate run.count run.life ++ xs) (append-nil (replicate n life))
    ∙ ap (λ (xs : Lives). xs ++ replicate n life) (sym (append-nil (replicate run.count run.life)))

pub pushed_lives : (life : List ℕ) (n : ℕ) (runs : List Run) → lives_of (pushed life n runs) ≡ lives_of runs ++ replicate n life
pushed_lives life n [] = append-nil (replicate n life)
pushed_lives life n (run ∷ []) = pushed_last life n run (bytes_eq run.life life) refl
pushed_lives life n (run ∷ next ∷ runs) =
    ap (λ (xs : Lives). replicate run.count run.life ++ xs) (pushed_lives life n (next ∷ runs))
    ∙ sym (append_assoc (replicate run.count run.life) (lives_of (next ∷ runs)) (replicate n life))

pub pushed_count : (life : List ℕ) (n : ℕ) (runs : List Run) → count_of (pushed life n runs) ≡ count_of runs + n
pushed_count life n runs =
    omega (arith, count_is (pushed life n runs), count_is runs, ap length (pushed_lives life n runs), length-append (lives_of runs) (replicate n life), length-replicate n life)

last_apart : (before : Option (List ℕ)) (life : List ℕ) (n : ℕ) (run : Run) (b : Bool) → 1 ≤ n → bytes_eq run.life life ≡ b → are_apart before (run ∷ []) ≡ true
    → are_apart before (cond b (run_of (run.count + n) run.life ∷ []) (run ∷ run_of n life ∷ [])) ≡ true
last_apart before life n run true some e apart =
    let p = and_parts (leb 1 run.count) (is_other before run.life && true) apart in
    and_from (leb 1 (run.count + n)) (is_other before run.life && true) (le-leb 1 (run.count + n) (omega (arith, some))) p.1
last_apart before life n run false some e apart =
    let p = and_parts (leb 1 run.count) (is_other before run.life && true) apart in
    let q = and_parts (is_other before run.life) true p.1 in
    and_from (leb 1 run.count) (is_other before run.life && (leb 1 n && (not (bytes_eq run.life life) && true))) p.0 (
    and_from (is_other before run.life) (leb 1 n && (not (bytes_eq run.life life) && true)) q.0 (
    and_from (leb 1 n) (not (bytes_eq run.life life) && true) (le-leb 1 n some) (and_from (not (bytes_eq run.life life)) true (ap not e) refl)
    ))

more_apart : (before : Option (List ℕ)) (life : List ℕ) (n : ℕ) (run : Run) (runs : List Run) → 1 ≤ n → are_apart before (run ∷ runs) ≡ true → are_apart before (pushed life n (run ∷ runs)) ≡ true
more_apart before life n run [] some apart = last_apart before life n run (bytes_eq run.life life) some refl apart
more_apart before life n run (next ∷ runs) some apart =
    let p = and_parts (leb 1 run.count) (is_other before run.life && are_apart (Some run.life) (next ∷ runs)) apart in
    let q = and_parts (is_other before run.life) (are_apart (Some run.life) (next ∷ runs)) p.1 in
    and_from (leb 1 run.count) (is_other before run.life && are_apart (Some run.life) (pushed life n (next ∷ runs))) p.0 (
    and_from (is_other before run.life) (are_apart (Some run.life) (pushed life n (next ∷ runs))) q.0 (more_apart (Some run.life) life n next runs some q.1)
    )

pub pushed_apart : (life : List ℕ) (n : ℕ) (runs : List Run) → 1 ≤ n → are_apart None runs ≡ true → are_apart None (pushed life n runs) ≡ true
pushed_apart life n [] some apart = and_from (leb 1 n) true (le-leb 1 n some) refl
pushed_apart life n (run ∷ runs) some apart = more_apart None life n run runs some apart

-- how many runs there are then
last_len : (life : List ℕ) (n : ℕ) (run : Run) (b : Bool) → length (cond b (run_of (run.count + n) run.life ∷ []) (run ∷ run_of n life ∷ [])) ≡ cond b 1 2
last_len life n run true = refl
last_len life n run false = refl

pub longer_len : (life : List ℕ) (n : ℕ) (runs : List Run) → ends_with life runs ≡ true → length (pushed life n runs) ≡ length runs
longer_len life n [] same = absurd cc
longer_len life n (run ∷ []) same = last_len life n run (bytes_eq run.life life) ∙ ap (λ b. cond b 1 2) same
longer_len life n (run ∷ next ∷ runs) same = omega (arith, longer_len life n (next ∷ runs) same)

pub more_len : (life : List ℕ) (n : ℕ) (runs : List Run) → ends_with life runs ≡ false → length (pushed life n runs) ≡ length runs + 1
more_len life n [] other = refl
more_len life n (run ∷ []) other = last_len life n run (bytes_eq run.life life) ∙ ap (λ b. cond b 1 2) other
more_len life n (run ∷ next ∷ runs) other = omega (arith, more_len life n (next ∷ runs) other)

-- no run has more numbers than all
pub run_within : (runs : List Run) (k : ℕ) (x : Run) → k < length runs → x ≡ get_or runs k x → x.count ≤ count_of runs
run_within [] k x lt is = absurd (omega arith)
run_within (run ∷ runs) zero x lt is = omega (arith, ap (λ (y : Run). y.count) is, sum_by-cons (λ (y : Run). y.count) run runs)
run_within (run ∷ runs) (suc k) x lt is = omega (arith, run_within runs k x (omega arith) is, sum_by-cons (λ (y : Run). y.count) run runs)

-- whatever stands for an element behind the last
pub last_is : (life : List ℕ) (runs : List Run) (k : ℕ) (d : Run) → k + 1 ≡ length runs → ends_with life runs ≡ bytes_eq (get_or runs k d).life life
last_is life [] k d last = absurd (omega arith)
last_is life (run ∷ []) zero d last = refl
last_is life (run ∷ []) (suc k) d last = absurd (omega arith)
last_is life (run ∷ next ∷ runs) zero d last = absurd (omega arith)
last_is life (run ∷ next ∷ runs) (suc k) d last = last_is life (next ∷ runs) k d (omega arith)

pub ends_some : (life : List ℕ) (runs : List Run) → ends_with life runs ≡ true → 1 ≤ length runs
ends_some life [] e = absurd cc
ends_some life (run ∷ runs) e = omega arith

-- where the last run has this life it is longer, and else there is one more run
pub made_longer : (life : List ℕ) (n : ℕ) (runs : List Run) (k : ℕ) (x : Run) → k + 1 ≡ length runs → x ≡ get_or runs k x → ends_with life runs ≡ true → set runs k (run_of (x.count + n) life) ≡ pushed life n runs
made_longer life n [] k x last is same = absurd (omega arith)
made_longer life n (run ∷ []) zero x last is same =
    ap (λ (y : Run). run_of (y.count + n) life ∷ []) is
    ∙ ap (λ (y : List ℕ). run_of (run.count + n) y ∷ []) (sym (same_is run.life life same))
    ∙ ap (λ b. cond b (run_of (run.count + n) run.life ∷ []) (run ∷ run_of n life ∷ [])) (sym same)
made_longer life n (run ∷ []) (suc k) x last is same = absurd (omega arith)
made_longer life n (run ∷ next ∷ runs) zero x last is same = absurd (omega arith)
made_longer life n (run ∷ next ∷ runs) (suc k) x last is same =
    ap (λ (xs : List Run). run ∷ xs) (made_longer life n (next ∷ runs) k x (omega arith) is same)

pub run_pushed : (life : List ℕ) (n : ℕ) (runs : List Run) → ends_with life runs ≡ false → runs ++ run_of n life ∷ [] ≡ pushed life n runs
run_pushed life n [] other = refl
run_pushed life n (run ∷ []) other = ap (λ b. cond b (run_of (run.count + n) run.life ∷ []) (run ∷ run_of n life ∷ [])) (sym other)
run_pushed life n (run ∷ next ∷ runs) other = ap (λ (xs : List Run). run ∷ xs) (run_pushed life n (next ∷ runs) other)

-- ---- what a value of runs holds

pub are_back : (runs : List Run) → AreRuns runs → runs_of (lives_of runs) ≡ runs
are_back runs are = runs_again None runs (and_parts (are_apart None runs) (leb (count_of runs) most_numbers) are.1).0

pub are_lives : (runs : List Run) → AreRuns runs → AreLives (lives_of runs)
are_lives runs are =
    let p = and_parts (are_apart None runs) (leb (count_of runs) most_numbers) are.1 in
    record { few = rw (runs_again None runs p.0) are.0; within = rw (count_is runs) (leb-true (count_of runs) most_numbers p.1) }

pub holds_more : (runs more : List Run) (life : List ℕ) (n count : ℕ) → 1 ≤ n → more ≡ pushed life n runs → leb (length (pushed life n runs)) most_runs ≡ true → count + n ≤ most_numbers → HoldsRuns runs count → HoldsRuns more (count + n)
holds_more runs more life n count some is few room holds =
    let p = and_parts (are_apart None runs) (leb (count_of runs) most_numbers) holds.are.1 in
    let sum : count_of more ≡ count_of runs + n = ap count_of is ∙ pushed_count life n runs in
    let apart : are_apart None more ≡ true = ap (are_apart None) is ∙ pushed_apart life n runs some p.0 in
    let counted : count ≡ count_of runs = holds.counted in
    record {
      are = (
        omega (arith, ap length is, leb-true (length (pushed life n runs)) most_runs few),
        and_from (are_apart None more) (leb (count_of more) most_numbers) apart (le-leb (count_of more) most_numbers (omega (arith, sum, counted, room))),
      );
      counted = omega (arith, sum, counted);
    }

pub no_number_more : (runs : List Run) (life : List ℕ) (n : ℕ) (lives : Lives) → lives_of runs ≡ lives → most_numbers < count_of runs + n → AreLives (lives ++ replicate n life) → ⊥
no_number_more runs life n lives is over are =
    let within : length (lives ++ replicate n life) ≤ most_numbers = are.within in
    omega (arith, within, length-append lives (replicate n life), length-replicate n life, ap length is, count_is runs, over)

pub no_run_more : (runs : List Run) (life : List ℕ) (n : ℕ) (lives : Lives) → 1 ≤ n → lives_of runs ≡ lives → AreRuns runs → leb (length (pushed life n runs)) most_runs ≡ false → AreLives (lives ++ replicate n life) → ⊥
no_run_more runs life n lives some is holds full are =
    let p = and_parts (are_apart None runs) (leb (count_of runs) most_numbers) holds.1 in
    let more : lives_of (pushed life n runs) ≡ lives ++ replicate n life = pushed_lives life n runs ∙ ap (λ (xs : Lives). xs ++ replicate n life) is in
    let back : runs_of (lives ++ replicate n life) ≡ pushed life n runs = ap runs_of (sym more) ∙ runs_again None (pushed life n runs) (pushed_apart life n runs some p.0) in
    let few : length (runs_of (lives ++ replicate n life)) ≤ most_runs = are.few in
    omega (arith, few, ap length back, leb-false (length (pushed life n runs)) most_runs full)

-- ---- fewer lives can be spelled where more can

-- the runs are no more than the others, and the first is of the same life
abbrev Begins : List Run → List Run → Type 0
Begins [] ys = Unit {0}
Begins (x ∷ xs) [] = ⊥
Begins (x ∷ xs) (y ∷ ys) = (x.life ≡ y.life) × (length xs ≤ length ys)

begins_len : (xs ys : List Run) → Begins xs ys → length xs ≤ length ys
begins_len [] ys begins = omega arith
begins_len (x ∷ xs) [] begins = absurd begins
begins_len (x ∷ xs) (y ∷ ys) begins = omega (arith, begins.1)

first_begins : (life : List ℕ) (y : Run) (ys : List Run) (b : Bool) → bytes_eq life y.life ≡ b → Begins (run_of 1 life ∷ []) (cond b (run_of (y.count + 1) y.life ∷ ys) (run_of 1 life ∷ y ∷ ys))
first_begins life y ys true e = (same_is life y.life e, omega arith)
first_begins life y ys false e = (refl, omega arith)

both_begin : (life : List ℕ) (x y : Run) (xs ys : List Run) (b : Bool) → x.life ≡ y.life → length xs ≤ length ys
    → Begins (cond b (run_of (x.count + 1) x.life ∷ xs) (run_of 1 life ∷ x ∷ xs)) (cond b (run_of (y.count + 1) y.life ∷ ys) (run_of 1 life ∷ y ∷ ys))
both_begin life x y xs ys true same le = (same, le)
both_begin life x y xs ys false same le = (refl, omega (arith, le))

in_front_begins : (life : List ℕ) (xs ys : List Run) → Begins xs ys → Begins (in_front life xs) (in_front life ys)
in_front_begins life [] [] begins = (refl, omega arith)
in_front_begins life [] (y ∷ ys) begins = first_begins life y ys (bytes_eq life y.life) refl
in_front_begins life (x ∷ xs) [] begins = absurd begins
in_front_begins life (x ∷ xs) (y ∷ ys) begins =
    subst
    (λ (l : List ℕ). Begins (in_front life (x ∷ xs)) (cond (bytes_eq life l) (run_of (y.count + 1) y.life ∷ ys) (run_of 1 life ∷ y ∷ ys)))
    begins.0
    (both_begin life x y xs ys (bytes_eq life x.life) begins.0 begins.1)

runs_begin : (xs ys : Lives) → Begins (runs_of xs) (runs_of (xs ++ ys))
runs_begin [] ys = tt
runs_begin (x ∷ xs) ys = in_front_begins x (runs_of xs) (runs_of (xs ++ ys)) (runs_begin xs ys)

pub fewer_are : (xs ys : Lives) → AreLives (xs ++ ys) → AreLives xs
fewer_are xs ys are =
    let few : length (runs_of (xs ++ ys)) ≤ most_runs = are.few in
    let within : length (xs ++ ys) ≤ most_numbers = are.within in
    record {
      few = omega (arith, few, begins_len (runs_of xs) (runs_of (xs ++ ys)) (runs_begin xs ys));
      within = omega (arith, within, length-append xs ys);
    }

-- ---- the life of a number

pub get_within : (n i : ℕ) (x : List ℕ) (xs : Lives) → i < n → slice_get (replicate n x ++ xs) i ≡ Some x
get_within zero i x xs lt = absurd (omega arith)
get_within (suc n) zero x xs lt = refl
get_within (suc n) (suc i) x xs lt = get_within n i x xs (omega arith)

pub get_behind : (n i : ℕ) (x : List ℕ) (xs : Lives) → n ≤ i → slice_get (replicate n x ++ xs) i ≡ slice_get xs (i - n)
get_behind zero i x xs le = ap (slice_get xs) (omega arith)
get_behind (suc n) zero x xs le = absurd (omega arith)
get_behind (suc n) (suc i) x xs le = get_behind n i x xs (omega arith) ∙ ap (slice_get xs) (omega arith)

-- what is left begins with this run
pub left_is : (runs : List Run) (i : ℕ) (run : Run) → i < length runs → run ≡ get_or runs i run → lives_of (drop i runs) ≡ replicate run.count run.life ++ lives_of (drop (i + 1) runs)
left_is runs i run lt is =
    ap lives_of (drop-cons runs i run lt)
    ∙ ap (λ (x : Run). replicate x.count x.life ++ lives_of (drop (suc i) runs)) (sym is)
    ∙ ap (λ (k : ℕ). replicate run.count run.life ++ lives_of (drop k runs)) (sym (add-one i))

pub get_first : (runs : List Run) (i : ℕ) (run : Run) (k : ℕ) → i < length runs → run ≡ get_or runs i run → k < run.count → slice_get (lives_of (drop i runs)) k ≡ Some run.life
get_first runs i run k lt is within =
    ap (λ (xs : Lives). slice_get xs k) (left_is runs i run lt is) ∙ get_within run.count k run.life (lives_of (drop (i + 1) runs)) within

pub get_later : (runs : List Run) (i : ℕ) (run : Run) (k : ℕ) → i < length runs → run ≡ get_or runs i run → run.count ≤ k → slice_get (lives_of (drop i runs)) k ≡ slice_get (lives_of (drop (i + 1) runs)) (k - run.count)
get_later runs i run k lt is behind =
    ap (λ (xs : Lives). slice_get xs k) (left_is runs i run lt is) ∙ get_behind run.count k run.life (lives_of (drop (i + 1) runs)) behind

-- ---- each life is one

pub lives_are : (runs : List Run) → All (λ run. IsLife run.life) runs → All IsLife (lives_of runs)
lives_are [] all = All-nil IsLife
lives_are (run ∷ runs) all =
    All-append IsLife (replicate run.count run.life) (lives_of runs)
    (All-replicate IsLife run.count run.life (All-head (λ (run : Run). IsLife run.life) run runs all))
    (lives_are runs (All-tail (λ (run : Run). IsLife run.life) run runs all))

abbrev HasLife : Run → Type 0
HasLife run = IsLife run.life

front_is : (life : List ℕ) (run : Run) (runs : List Run) (b : Bool) → IsLife life → AllByRecursion HasLife (run ∷ runs)
    → AllByRecursion HasLife (cond b (run_of (run.count + 1) run.life ∷ runs) (run_of 1 life ∷ run ∷ runs))
front_is life run runs true is all = all
front_is life run runs false is all = (is, all)

in_front_are : (life : List ℕ) (runs : List Run) → IsLife life → AllByRecursion HasLife runs → AllByRecursion HasLife (in_front life runs)
in_front_are life [] is all = (is, tt)
in_front_are life (run ∷ runs) is all = front_is life run runs (bytes_eq life run.life) is all

pub runs_have_lives : (lives : Lives) → AllByRecursion IsLife lives → AllByRecursion (λ run. IsLife run.life) (runs_of lives)
runs_have_lives [] all = tt
runs_have_lives (life ∷ lives) all = in_front_are life (runs_of lives) all.0 (runs_have_lives lives all.1)
