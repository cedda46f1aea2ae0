-- What a lane shows of unsent changesets, place by place.
use Rattle.std.proofs.Common.{◌≡◌, ℕ, zero, suc, ◌+◌, ◌<◌, ◌≤◌, List, [], ◌∷◌, ◌++◌, Option, refl, sym, ap, ◌∙◌, subst, length, take, drop, set, get_or, map, zero-add, arith}
use Rattle.std.proofs.lemmas.List.{drop-set-lt}
use Rattle.sync_data.specs.declared.instr.Instr.{Instr}
use Rattle.sync_base.specs.Effects.{CellPath}
use Rattle.sync_model.specs.Clients.{Original, Unsent}
use Rattle.list_lane.specs.Lanes.{LaneOf, first_slot, length_after, length_before, slot_at, without_first}
use Rattle.sync_rebase.specs.Stretches.{from_place, told_unsent, overlaid, laid, Holds, AllHold}
use Rattle.list_lane.specs.declared.op.Op.{Op}

-- ---- a list from a place on
pub from_twice : {A : Type 0} (i : ℕ) (f g : List A → List A) (us : List A) → from_place i f (from_place i g us) ≡ from_place i (λ l. f (g l)) us
from_twice zero f g us = refl
from_twice (suc i) f g [] = refl
from_twice (suc i) f g (u ∷ us) = ap (λ l. u ∷ l) (from_twice i f g us)

pub from_same : {A : Type 0} (i : ℕ) (f g : List A → List A) (us : List A) → f (drop i us) ≡ g (drop i us) → from_place i f us ≡ from_place i g us
from_same zero f g us h = h
from_same (suc i) f g [] h = refl
from_same (suc i) f g (u ∷ us) h = ap (λ l. u ∷ l) (from_same i f g us h)

pub drop_from : {A : Type 0} (i : ℕ) (f : List A → List A) (us : List A) → i ≤ length us → drop i (from_place i f us) ≡ f (drop i us)
drop_from zero f us l = refl
drop_from (suc i) f [] l = absurd (omega (arith, l))
drop_from (suc i) f (u ∷ us) l = drop_from i f us (omega (arith, l))

pub take_from : {A : Type 0} (i : ℕ) (f : List A → List A) (us : List A) → take i (from_place i f us) ≡ take i us
take_from zero f us = refl
take_from (suc i) f [] = refl
take_from (suc i) f (u ∷ us) = ap (λ l. u ∷ l) (take_from i f us)

pub get_before : {A : Type 0} (i k : ℕ) (f : List A → List A) (us : List A) (d : A) → k < i → get_or (from_place i f us) k d ≡ get_or us k d
get_before zero k f us d l = absurd (omega (arith, l))
get_before (suc i) k f [] d l = refl
get_before (suc i) zero f (u ∷ us) d l = refl
get_before (suc i) (suc k) f (u ∷ us) d l = get_before i k f us d (omega (arith, l))

pub get_from : {A : Type 0} (i k place : ℕ) (f : List A → List A) (us : List A) (d : A) → place ≡ i + k → i ≤ length us → get_or (from_place i f us) place d ≡ get_or (f (drop i us)) k d
get_from zero k place f us d e l = ap (λ n. get_or (f us) n d) (e ∙ zero-add k)
get_from (suc i) k place f [] d e l = absurd (omega (arith, l))
get_from (suc i) k zero f (u ∷ us) d e l = absurd (omega (arith, e))
get_from (suc i) k (suc p) f (u ∷ us) d e l = get_from i k p f us d (omega (arith, e)) (omega (arith, l))

pub set_before : {A : Type 0} (i k : ℕ) (f : List A → List A) (us : List A) (v : A) → k < i → from_place i f (set us k v) ≡ set (from_place i f us) k v
set_before zero k f us v l = absurd (omega (arith, l))
set_before (suc i) k f [] v l = refl
set_before (suc i) zero f (u ∷ us) v l = refl
set_before (suc i) (suc k) f (u ∷ us) v l = ap (λ t. u ∷ t) (set_before i k f us v (omega (arith, l)))

-- ---- what a lane shows
pub length_overlaid : (ss : List (Option Op)) (n : ℕ) (us : List (Unsent Instr)) → length (overlaid n ss us) ≡ length us
length_overlaid [] n us = refl
length_overlaid (s ∷ ss) n [] = refl
length_overlaid (s ∷ ss) n (u ∷ us) = ap suc (length_overlaid ss (length_after s n) us)

pub length_laid : (i : ℕ) (a : LaneOf) (us : List (Unsent Instr)) → length (laid i a us) ≡ length us
length_laid zero a us = length_overlaid a.slots a.first us
length_laid (suc i) a [] = refl
length_laid (suc i) a (u ∷ us) = ap suc (length_laid i a us)

abbrev pub originals_of : List (Unsent Instr) → List (Original Instr)
originals_of us = map (λ (u : Unsent Instr). u.original) us

overlaid_originals : (ss : List (Option Op)) (n : ℕ) (us : List (Unsent Instr)) → originals_of (overlaid n ss us) ≡ originals_of us
overlaid_originals [] n us = refl
overlaid_originals (s ∷ ss) n [] = refl
overlaid_originals (s ∷ ss) n (u ∷ us) = ap (λ l. u.original ∷ l) (overlaid_originals ss (length_after s n) us)

pub laid_originals : (i : ℕ) (a : LaneOf) (us : List (Unsent Instr)) → originals_of (laid i a us) ≡ originals_of us
laid_originals zero a us = overlaid_originals a.slots a.first us
laid_originals (suc i) a [] = refl
laid_originals (suc i) a (u ∷ us) = ap (λ l. u.original ∷ l) (laid_originals i a us)

-- behind its last slot
overlaid_get : (ss : List (Option Op)) (n k : ℕ) (us : List (Unsent Instr)) (d : Unsent Instr) → length ss ≤ k → get_or (overlaid n ss us) k d ≡ get_or us k d
overlaid_get [] n k us d l = refl
overlaid_get (s ∷ ss) n k [] d l = refl
overlaid_get (s ∷ ss) n zero (u ∷ us) d l = absurd (omega (arith, l))
overlaid_get (s ∷ ss) n (suc k) (u ∷ us) d l = overlaid_get ss (length_after s n) k us d (omega (arith, l))

overlaid_set : (ss : List (Option Op)) (n k : ℕ) (us : List (Unsent Instr)) (v : Unsent Instr) → length ss ≤ k → overlaid n ss (set us k v) ≡ set (overlaid n ss us) k v
overlaid_set [] n k us v l = refl
overlaid_set (s ∷ ss) n k [] v l = refl
overlaid_set (s ∷ ss) n zero (u ∷ us) v l = absurd (omega (arith, l))
overlaid_set (s ∷ ss) n (suc k) (u ∷ us) v l = ap (λ t. told_unsent n s u ∷ t) (overlaid_set ss (length_after s n) k us v (omega (arith, l)))

pub get_behind : (i k : ℕ) (a : LaneOf) (us : List (Unsent Instr)) (d : Unsent Instr) → i + length a.slots ≤ k → get_or (laid i a us) k d ≡ get_or us k d
get_behind zero k a us d l = overlaid_get a.slots a.first k us d (omega (arith, l))
get_behind (suc i) k a [] d l = refl
get_behind (suc i) zero a (u ∷ us) d l = absurd (omega (arith, l))
get_behind (suc i) (suc k) a (u ∷ us) d l = get_behind i k a us d (omega (arith, l))

pub set_behind : (i k : ℕ) (a : LaneOf) (us : List (Unsent Instr)) (v : Unsent Instr) → i + length a.slots ≤ k → laid i a (set us k v) ≡ set (laid i a us) k v
set_behind zero k a us v l = overlaid_set a.slots a.first k us v (omega (arith, l))
set_behind (suc i) k a [] v l = refl
set_behind (suc i) zero a (u ∷ us) v l = absurd (omega (arith, l))
set_behind (suc i) (suc k) a (u ∷ us) v l = ap (λ t. u ∷ t) (set_behind i k a us v (omega (arith, l)))

-- one of its slots
overlaid_at : (ss : List (Option Op)) (n k : ℕ) (us : List (Unsent Instr)) (u d : Unsent Instr) → k < length ss → k < length us → u ≡ get_or us k u → get_or (overlaid n ss us) k d ≡ told_unsent (length_before k n ss) (slot_at k ss) u
overlaid_at [] n k us u d l m e = absurd (omega (arith, l))
overlaid_at (s ∷ ss) n k [] u d l m e = absurd (omega (arith, m))
overlaid_at (s ∷ ss) n zero (v ∷ us) u d l m e = ap (told_unsent n s) (sym e)
overlaid_at (s ∷ ss) n (suc k) (v ∷ us) u d l m e = overlaid_at ss (length_after s n) k us u d (omega (arith, l)) (omega (arith, m)) e

pub get_at : (i j k : ℕ) (a : LaneOf) (us : List (Unsent Instr)) (u d : Unsent Instr) → k ≡ i + j → j < length a.slots → k < length us → u ≡ get_or us k u → get_or (laid i a us) k d ≡ told_unsent (length_before j a.first a.slots) (slot_at j a.slots) u
get_at zero j k a us u d e l m h = ap (λ n. get_or (overlaid a.first a.slots us) n d) (e ∙ zero-add j) ∙ overlaid_at a.slots a.first j us u d l (omega (arith, m, e)) (h ∙ ap (λ n. get_or us n u) (e ∙ zero-add j))
get_at (suc i) j k a [] u d e l m h = absurd (omega (arith, m))
get_at (suc i) j zero a (v ∷ us) u d e l m h = absurd (omega (arith, e))
get_at (suc i) j (suc k) a (v ∷ us) u d e l m h = get_at i j k a us u d (omega (arith, e)) l (omega (arith, m)) h

-- ---- what it may show stays
pub holds_within : (cell : Option CellPath) (own : ℕ) (ss : List (Option Op)) (us : List (Unsent Instr)) → AllHold cell own ss us → length ss ≤ length us
holds_within cell own [] us h = omega arith
holds_within cell own (s ∷ ss) [] h = absurd h
holds_within cell own (s ∷ ss) (u ∷ us) h = let k = holds_within cell own ss us h.1 in omega (arith, k)

pub holds_push : (cell : Option CellPath) (own : ℕ) (ss : List (Option Op)) (us vs : List (Unsent Instr)) → AllHold cell own ss us → AllHold cell own ss (us ++ vs)
holds_push cell own [] us vs h = tt
holds_push cell own (s ∷ ss) [] vs h = absurd h
holds_push cell own (s ∷ ss) (u ∷ us) vs h = (h.0, holds_push cell own ss us vs h.1)

holds_set : (cell : Option CellPath) (own : ℕ) (ss : List (Option Op)) (us : List (Unsent Instr)) (k : ℕ) (v : Unsent Instr) → length ss ≤ k → AllHold cell own ss us → AllHold cell own ss (set us k v)
holds_set cell own [] us k v l h = tt
holds_set cell own (s ∷ ss) [] k v l h = absurd h
holds_set cell own (s ∷ ss) (u ∷ us) zero v l h = absurd (omega (arith, l))
holds_set cell own (s ∷ ss) (u ∷ us) (suc k) v l h = (h.0, holds_set cell own ss us k v (omega (arith, l)) h.1)

pub holds_before : (cell : Option CellPath) (own i k : ℕ) (ss : List (Option Op)) (us : List (Unsent Instr)) (v : Unsent Instr) → k < i → AllHold cell own ss (drop i us) → AllHold cell own ss (drop i (set us k v))
holds_before cell own i k ss us v l h = subst (AllHold cell own ss) (sym (drop-set-lt i us k v l)) h

pub holds_behind : (cell : Option CellPath) (own i k : ℕ) (ss : List (Option Op)) (us : List (Unsent Instr)) (v : Unsent Instr) → i + length ss ≤ k → AllHold cell own ss (drop i us) → AllHold cell own ss (drop i (set us k v))
holds_behind cell own zero k ss us v l h = holds_set cell own ss us k v (omega (arith, l)) h
holds_behind cell own (suc i) k ss [] v l h = h
holds_behind cell own (suc i) zero ss (u ∷ us) v l h = absurd (omega (arith, l))
holds_behind cell own (suc i) (suc k) ss (u ∷ us) v l h = holds_behind cell own i k ss us v (omega (arith, l)) h

overlaid_push : (cell : Option CellPath) (own : ℕ) (ss : List (Option Op)) (n : ℕ) (us vs : List (Unsent Instr)) → AllHold cell own ss us → overlaid n ss (us ++ vs) ≡ overlaid n ss us ++ vs
overlaid_push cell own [] n us vs h = refl
overlaid_push cell own (s ∷ ss) n [] vs h = absurd h
overlaid_push cell own (s ∷ ss) n (u ∷ us) vs h = ap (λ t. told_unsent n s u ∷ t) (overlaid_push cell own ss (length_after s n) us vs h.1)

-- the stretch lies in the list
pub laid_push : (cell : Option CellPath) (own i : ℕ) (a : LaneOf) (us vs : List (Unsent Instr)) → i ≤ length us → AllHold cell own a.slots (drop i us) → laid i a (us ++ vs) ≡ laid i a us ++ vs
laid_push cell own zero a us vs l h = overlaid_push cell own a.slots a.first us vs h
laid_push cell own (suc i) a [] vs l h = absurd (omega (arith, l))
laid_push cell own (suc i) a (u ∷ us) vs l h = ap (λ t. u ∷ t) (laid_push cell own i a us vs (omega (arith, l)) h)

pub drop_push : {A : Type 0} (i : ℕ) (us vs : List A) → i ≤ length us → drop i (us ++ vs) ≡ drop i us ++ vs
drop_push zero us vs l = refl
drop_push (suc i) [] vs l = absurd (omega (arith, l))
drop_push (suc i) (u ∷ us) vs l = drop_push i us vs (omega (arith, l))

-- ---- the first of a stretch is written, and it begins behind that
pub laid_step : (i n : ℕ) (s : Option Op) (ss : List (Option Op)) (us : List (Unsent Instr)) (u : Unsent Instr) → i < length us → u ≡ get_or us i u
    → laid (suc i) (record { first = length_after s n; slots = ss }) (set us i (told_unsent n s u)) ≡ laid i (record { first = n; slots = s ∷ ss }) us
laid_step i n s ss [] u l e = absurd (omega (arith, l))
laid_step zero n s ss (v ∷ us) u l e = ap (λ w. told_unsent n s w ∷ overlaid (length_after s n) ss us) e
laid_step (suc i) n s ss (v ∷ us) u l e = ap (λ t. v ∷ t) (laid_step i n s ss us u (omega (arith, l)) e)

pub drop_step : {A : Type 0} (i : ℕ) (us : List A) (u v : A) → i < length us → u ≡ get_or us i u → drop i us ≡ u ∷ drop (suc i) (set us i v)
drop_step i [] u v l e = absurd (omega (arith, l))
drop_step zero (w ∷ us) u v l e = ap (λ x. x ∷ us) (sym e)
drop_step (suc i) (w ∷ us) u v l e = drop_step i us u v (omega (arith, l)) e

pub step_holds : (cell : Option CellPath) (own i : ℕ) (ss : List (Option Op)) (us : List (Unsent Instr)) (u : Unsent Instr) → 0 < length ss → i < length us → u ≡ get_or us i u → AllHold cell own ss (drop i us) → Holds cell own (first_slot ss) u
step_holds cell own i [] us u m l e h = absurd (omega (arith, m))
step_holds cell own i (s ∷ ss) us u m l e h = (subst (AllHold cell own (s ∷ ss)) (drop_step i us u u l e) h).0

pub step_held : (cell : Option CellPath) (own i n : ℕ) (ss : List (Option Op)) (us : List (Unsent Instr)) (u v : Unsent Instr) → 0 < length ss → i < length us → u ≡ get_or us i u → AllHold cell own ss (drop i us)
    → AllHold cell own (without_first n ss).slots (drop (suc i) (set us i v))
step_held cell own i n [] us u v m l e h = absurd (omega (arith, m))
step_held cell own i n (s ∷ ss) us u v m l e h = (subst (AllHold cell own (s ∷ ss)) (drop_step i us u v l e) h).1

pub step_shown : (i n : ℕ) (ss : List (Option Op)) (us : List (Unsent Instr)) (u v : Unsent Instr) → 0 < length ss → i < length us → u ≡ get_or us i u → v ≡ told_unsent n (first_slot ss) u
    → laid (suc i) (without_first n ss) (set us i v) ≡ laid i (record { first = n; slots = ss }) us
step_shown i n [] us u v m l e h = absurd (omega (arith, m))
step_shown i n (s ∷ ss) us u v m l e h = ap (λ w. laid (suc i) (record { first = length_after s n; slots = ss }) (set us i w)) h ∙ laid_step i n s ss us u l e

pub step_fewer : (n : ℕ) (ss : List (Option Op)) → 0 < length ss → length (without_first n ss).slots + 1 ≡ length ss
step_fewer n [] m = absurd (omega (arith, m))
step_fewer n (s ∷ ss) m = omega arith

pub laid_none : (i : ℕ) (a : LaneOf) (us : List (Unsent Instr)) → length a.slots ≡ 0 → laid i a us ≡ us
laid_none i a us h = no_slots i a.first a.slots us h
  where
    no_slots : (i n : ℕ) (ss : List (Option Op)) (us : List (Unsent Instr)) → length ss ≡ 0 → laid i (record { first = n; slots = ss }) us ≡ us
    no_slots i n (s ∷ ss) us h = absurd (omega (arith, h))
    no_slots zero n [] us h = refl
    no_slots (suc i) n [] [] h = refl
    no_slots (suc i) n [] (u ∷ us) h = ap (λ t. u ∷ t) (no_slots i n [] us h)
