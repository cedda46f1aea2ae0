-- What is left of an instruction is found where it was: an index of slots is one of what is left of them.
use Rattle.std.specs.List.{AllByRecursion}
use Rattle.std.specs.Prelude.{slice_range}
use Rattle.std.proofs.Common.{◌≡◌, ℕ, zero, suc, ◌+◌, ◌-◌, take, drop, Bool, true, false, ◌<◌, List, [], ◌∷◌, length, get_or, Option, Some, None, is_some, not, Result, Ok, Err, refl, sym, ap, ◌∙◌, subst, arith, inl, inr, ◌⊎◌}
use Rattle.std.proofs.Math.ListN.{set}
use Rattle.sync_data.specs.declared.instr.Instr.{Instr}
use Rattle.sync_base.specs.Rules.{meeting}
use Rattle.sync_theory.specs.Lists.{kept}
use Rattle.sync_law.specs.Instrs.{meet}
use Rattle.sync_rivals.specs.Codes.{code}
use Rattle.sync_rivals.specs.Homes.{listed, rivals}
use Rattle.sync_rivals.specs.Lists.{Indexed, Lists, StaysListed, StandsAt, StaysAt, put_list}
use Rattle.sync_rivals.specs.Marks.{Knows, is_at}
use Rattle.sync_rivals.specs.Strangers.{place_of, IsAt}
use Rattle.sync_rivals.specs.Lemmas.Homes.{homes_stay}
use Rattle.sync_rivals.proofs.Listed.{put_same_listed}
use Rattle.sync_transform.proofs.Covered.{sides}
use Rattle.slot_law.specs.Slots.{ok_pair}
use Rattle.slot_law.proofs.Through.{some_is}
use Rattle.long_sets.specs.Rows.{both_meet, lists_in, somes, IsPart}

-- nothing, or an instruction at the same place
abbrev pub StaysHome : Option Instr → Option Instr → Type 0
StaysHome None u = u ≡ None
StaysHome (Some a) u = IsAt (place_of a) u

pair_is : {A M : Type 0} (r : Result (A × A) M) (z u : A) → ok_pair r ≡ Some (z, u) → r ≡ Ok (z, u)
pair_is (Ok p) z u h = let e = some_is h in λ i. Ok ((e i).0, (e i).1)
pair_is (Err m) z u h = cc

pub both_home : (later : Bool) (y x z u : Option Instr) → both_meet later y x ≡ Some (z, u) → StaysHome y z × StaysHome x u
both_home later None None z u h = let e = some_is h in (sym (λ i. (e i).0), sym (λ i. (e i).1))
both_home later None (Some a) z u h = let e = some_is h in (sym (λ i. (e i).0), same a u (sym (λ i. (e i).1)))
  where
    same : (a : Instr) (u : Option Instr) → u ≡ Some a → IsAt (place_of a) u
    same a u e = subst (IsAt (place_of a)) (sym e) refl
both_home later (Some b) None z u h = let e = some_is h in (same b z (sym (λ i. (e i).0)), sym (λ i. (e i).1))
  where
    same : (a : Instr) (u : Option Instr) → u ≡ Some a → IsAt (place_of a) u
    same a u e = subst (IsAt (place_of a)) (sym e) refl
both_home later (Some b) (Some a) z u h =
    sides (λ l r. IsAt (place_of b) l × IsAt (place_of a) r) (meeting b a later) z u (pair_is (meet b a later) z u h) (homes_stay b a later)

pub home_listed : (x u : Option Instr) → StaysHome x u → StaysListed (kept x) (kept u)
home_listed None None h = λ s n k. tt
home_listed None (Some i) h = cc
home_listed (Some a) None h = λ s n k. tt
home_listed (Some a) (Some i) h = λ s n k. (subst (λ q. AllByRecursion (λ p. is_at s n p ≡ true) (listed q)) (sym h) k.0, tt)

pub home_known : (codes : List ℕ) (y z : Option Instr) → StaysHome y z → Knows codes (kept y) → Knows codes (kept z)
home_known codes None None h k = k
home_known codes None (Some i) h k = cc
home_known codes (Some b) None h k = λ test none. tt
home_known codes (Some b) (Some i) h k = λ test none. (subst (λ q. AllByRecursion (λ p. test (code p) ≡ false) (rivals q)) (sym h) (k test none).0, tt)

-- ---- a slot became another
pub set_lists : (xs : List (Option Instr)) (i : ℕ) (u : Option Instr) → lists_in (set xs i u) ≡ put_list i (kept u) (lists_in xs)
set_lists [] i u = refl
set_lists (x ∷ xs) zero u = refl
set_lists (x ∷ xs) (suc i) u = ap (λ l. kept x ∷ l) (set_lists xs i u)

pub stays_at : (xs : List (Option Instr)) (i : ℕ) (x u : Option Instr) → StandsAt i (kept x) (lists_in xs) → StaysListed (kept x) (kept u) → StaysAt i (kept u) (lists_in xs)
stays_at [] i x u a h = a
stays_at (y ∷ xs) zero x u a h = subst (λ l. StaysListed l (kept u)) (sym a) h
stays_at (y ∷ xs) (suc i) x u a h = stays_at xs i x u a h

pub became_listed : (idx : Indexed) (xs : List (Option Instr)) (i : ℕ) (x u : Option Instr) → StandsAt i (kept x) (lists_in xs) → StaysHome x u → Lists idx (lists_in xs) → Lists idx (lists_in (set xs i u))
became_listed idx xs i x u a h l =
    subst (Lists idx) (sym (set_lists xs i u)) (put_same_listed idx.marks idx.first idx.listed (lists_in xs) i (kept u) (stays_at xs i x u a (home_listed x u h)) l)

pub stands : (xs : List (Option Instr)) (i : ℕ) (d : Option Instr) → i < length xs → StandsAt i (kept (get_or xs i d)) (lists_in xs)
stands [] i d l = absurd (omega (arith, l))
stands (y ∷ xs) zero d l = refl
stands (y ∷ xs) (suc i) d l = stands xs i d (omega (arith, l))

-- nothing is put where nothing is
stands_set : (xs : List (Option Instr)) (i : ℕ) (u : Option Instr) → i < length xs → StandsAt i (kept u) (lists_in (set xs i u))
stands_set [] i u l = absurd (omega (arith, l))
stands_set (y ∷ xs) zero u l = refl
stands_set (y ∷ xs) (suc i) u l = stands_set xs i u (omega (arith, l))

put_same : (i : ℕ) (l : List Instr) (lists : List (List Instr)) → StandsAt i l lists → put_list i l lists ≡ lists
put_same i l [] h = refl
put_same zero l (k ∷ lists) h = ap (λ m. m ∷ lists) (sym h)
put_same (suc i) l (k ∷ lists) h = ap (λ m. k ∷ m) (put_same i l lists h)

stays_nothing : (i : ℕ) (l : List Instr) (lists : List (List Instr)) → StandsAt i l lists → StaysAt i [] lists
stays_nothing i l [] h = h
stays_nothing zero l (k ∷ lists) h = λ s n m. tt
stays_nothing (suc i) l (k ∷ lists) h = stays_nothing i l lists h

pub fell_listed : (old new : Indexed) (xs : List (Option Instr)) (i : ℕ) (u : Option Instr) (b : Bool) → i < length xs → is_some u ≡ not b → b ≡ true → Lists old (lists_in (set xs i u))
    → ((lists : List (List Instr)) → Lists old lists → StaysAt i [] lists → Lists new (put_list i [] lists)) → Lists new (lists_in (set xs i u))
fell_listed old new xs i (Some a) b l e k h f = cc
fell_listed old new xs i None b l e k h f =
    let ls = lists_in (set xs i None) in
    let at : StandsAt i [] ls = stands_set xs i None l in
    subst (Lists new) (put_same i [] ls at) (f ls h (stays_nothing i [] ls at))

pub none_kept : (y : Option Instr) (b : Bool) → is_some y ≡ not b → b ≡ true → kept y ≡ []
none_kept None b e h = refl
none_kept (Some a) b e h = cc

-- ---- an instruction at a place
pub one_there : (is : List Instr) (i : ℕ) (d : Instr) → i < length is → take 1 (drop i is) ≡ get_or is i d ∷ []
one_there [] i d l = absurd (omega (arith, l))
one_there (a ∷ is) zero d l = refl
one_there (a ∷ is) (suc i) d l = one_there is i d (omega (arith, l))

pub slice_one : (is : List Instr) (i : ℕ) (d : Instr) → i < length is → slice_range is i (i + 1) ≡ get_or is i d ∷ []
slice_one is i d l = let n : (i + 1) - i ≡ 1 = omega arith in ap (λ n. take n (drop i is)) n ∙ one_there is i d l

pub part_sizes : (xs : List (Option Instr)) (ws : List Instr) → IsPart xs ws → length xs ≡ length ws
part_sizes [] [] h = refl
part_sizes [] (w ∷ ws) h = absurd h
part_sizes (x ∷ xs) [] h = absurd h
part_sizes (x ∷ xs) (w ∷ ws) h = ap (λ n. suc n) (part_sizes xs ws h.1)

same_part : (x : Option Instr) (w : Instr) (a : Instr) → ((x ≡ None) ⊎ (x ≡ Some w)) → x ≡ Some a → a ≡ w
same_part x w a (inl e) h = cc
same_part x w a (inr e) h = cc

-- it is what was written there
pub part_at : (xs : List (Option Instr)) (ws : List Instr) (i : ℕ) (d : Option Instr) (e a : Instr) → IsPart xs ws → i < length xs → get_or xs i d ≡ Some a → a ≡ get_or ws i e
part_at [] ws i d e a h l g = absurd (omega (arith, l))
part_at (x ∷ xs) [] i d e a h l g = absurd h
part_at (x ∷ xs) (w ∷ ws) zero d e a h l g = same_part x w a h.0 g
part_at (x ∷ xs) (w ∷ ws) (suc i) d e a h l g = part_at xs ws i d e a h.1 (omega (arith, l)) g

pub one_listed : (xs : List (Option Instr)) (ws : List Instr) (i : ℕ) (d : Option Instr) → IsPart xs ws → i < length xs → StaysListed (slice_range ws i (i + 1)) (kept (get_or xs i d))
one_listed [] ws i d h l = absurd (omega (arith, l))
one_listed (x ∷ xs) [] i d h l = absurd h
one_listed (x ∷ xs) (w ∷ ws) i d h l =
    subst (λ is. StaysListed is (kept (get_or (x ∷ xs) i d))) (sym (slice_one (w ∷ ws) i w (omega (arith, l, part_sizes (x ∷ xs) (w ∷ ws) h)))) (within (get_or (x ∷ xs) i d) refl)
  where
    within : (y : Option Instr) → get_or (x ∷ xs) i d ≡ y → StaysListed (get_or (w ∷ ws) i w ∷ []) (kept y)
    within None g = λ s n k. tt
    within (Some a) g = subst (λ b. StaysListed (b ∷ []) (a ∷ [])) (part_at (x ∷ xs) (w ∷ ws) i d w a h l g) (λ s n k. k)

pub whole_part : (ws : List Instr) → IsPart (somes ws) ws
whole_part [] = tt
whole_part (w ∷ ws) = (inr refl, whole_part ws)

pub next_known : (codes : List ℕ) (ws : List Instr) (i : ℕ) (y : Option Instr) → i < length ws → ((a d : Instr) → y ≡ Some a → a ≡ get_or ws i d) → Knows codes (slice_range ws i (i + 1)) → Knows codes (kept y)
next_known codes ws i None l f h = λ test none. tt
next_known codes ws i (Some a) l f h = subst (λ (is : List Instr). Knows codes is) (slice_one ws i a l ∙ ap (λ b. b ∷ []) (sym (f a a refl))) h

pub gone : (y : Option Instr) (b : Bool) → is_some y ≡ not b → b ≡ true → y ≡ None
gone None b e h = refl
gone (Some a) b e h = cc
