-- What a lane shows of entries, place by place.
use Rattle.std.proofs.Common.{◌≡◌, ℕ, zero, suc, ◌+◌, ◌<◌, ◌≤◌, List, [], ◌∷◌, ◌++◌, Option, refl, sym, ap, ◌∙◌, subst, length, take, drop, set, get_or, map, zero-add, arith}
use Rattle.std.proofs.lemmas.List.{drop-set-lt}
use Rattle.sync_base.specs.Effects.{CellPath}
use Rattle.sync_recip.specs.declared.kept.Kept.{Kept}
use Rattle.list_lane.specs.Lanes.{LaneOf, first_slot, length_after, length_before, slot_at, without_first}
use Rattle.sync_recip.specs.Stretches.{from_place, with_instrs, told_kept, overlaid, laid, Holds, AllHold}
use Rattle.list_lane.specs.declared.op.Op.{Op}

-- ---- a list from a place on
pub from_twice : {A : Type 0} (i : ℕ) (f g : List A → List A) (us : List A) → from_place i f (from_place i g us) ≡ from_place i (λ l. f (g l)) us
from_twice zero f g us = refl
from_twice (suc i) f g [] = refl
from_twice (suc i) f g (u ∷ us) = ap (λ l. u ∷ l) (from_twice i f g us)

pub from_same : {A : Type 0} (i : ℕ) (f g : List A → List A) (us : List A) → f (drop i us) ≡ g (drop i us) → from_place i f us ≡ from_place i g us
from_same zero f g us h = h
from_same (suc i) f g [] h = refl
from_same (suc i) f g (u ∷ us) h = ap (λ l. u ∷ l) (from_same i f g us h)

pub from_id : {A : Type 0} (i : ℕ) (f : List A → List A) (us : List A) → ((vs : List A) → f vs ≡ vs) → from_place i f us ≡ us
from_id zero f us h = h us
from_id (suc i) f [] h = refl
from_id (suc i) f (u ∷ us) h = ap (λ l. u ∷ l) (from_id i f us h)

pub drop_from : {A : Type 0} (i : ℕ) (f : List A → List A) (us : List A) → i ≤ length us → drop i (from_place i f us) ≡ f (drop i us)
drop_from zero f us l = refl
drop_from (suc i) f [] l = absurd (omega (arith, l))
drop_from (suc i) f (u ∷ us) l = drop_from i f us (omega (arith, l))

pub take_from : {A : Type 0} (i : ℕ) (f : List A → List A) (us : List A) → take i (from_place i f us) ≡ take i us
take_from zero f us = refl
take_from (suc i) f [] = refl
take_from (suc i) f (u ∷ us) = ap (λ l. u ∷ l) (take_from i f us)

pub get_before : {A : Type 0} (i k : ℕ) (f : List A → List A) (us : List A) (d : A) → k < i → get_or (from_place i f us) k d ≡ get_or us k d
get_before zero k f us d l = absurd (omega (arith, l))
get_before (suc i) k f [] d l = refl
get_before (suc i) zero f (u ∷ us) d l = refl
get_before (suc i) (suc k) f (u ∷ us) d l = get_before i k f us d (omega (arith, l))

pub get_from : {A : Type 0} (i k place : ℕ) (f : List A → List A) (us : List A) (d : A) → place ≡ i + k → i ≤ length us → get_or (from_place i f us) place d ≡ get_or (f (drop i us)) k d
get_from zero k place f us d e l = ap (λ n. get_or (f us) n d) (e ∙ zero-add k)
get_from (suc i) k place f [] d e l = absurd (omega (arith, l))
get_from (suc i) k zero f (u ∷ us) d e l = absurd (omega (arith, e))
get_from (suc i) k (suc p) f (u ∷ us) d e l = get_from i k p f us d (omega (arith, e)) (omega (arith, l))

pub set_before : {A : Type 0} (i k : ℕ) (f : List A → List A) (us : List A) (v : A) → k < i → from_place i f (set us k v) ≡ set (from_place i f us) k v
set_before zero k f us v l = absurd (omega (arith, l))
set_before (suc i) k f [] v l = refl
set_before (suc i) zero f (u ∷ us) v l = refl
set_before (suc i) (suc k) f (u ∷ us) v l = ap (λ t. u ∷ t) (set_before i k f us v (omega (arith, l)))

-- ---- what a lane shows
pub length_overlaid : (ss : List (Option Op)) (n : ℕ) (us : List Kept) → length (overlaid n ss us) ≡ length us
length_overlaid [] n us = refl
length_overlaid (s ∷ ss) n [] = refl
length_overlaid (s ∷ ss) n (u ∷ us) = ap suc (length_overlaid ss (length_after s n) us)

pub length_laid : (i : ℕ) (a : LaneOf) (us : List Kept) → length (laid i a us) ≡ length us
length_laid zero a us = length_overlaid a.slots a.first us
length_laid (suc i) a [] = refl
length_laid (suc i) a (u ∷ us) = ap suc (length_laid i a us)

-- an entry but for its instructions
abbrev pub bare : Kept → Kept
bare u = with_instrs [] u

abbrev pub bare_of : List Kept → List Kept
bare_of us = map bare us

overlaid_bare : (ss : List (Option Op)) (n : ℕ) (us : List Kept) → bare_of (overlaid n ss us) ≡ bare_of us
overlaid_bare [] n us = refl
overlaid_bare (s ∷ ss) n [] = refl
overlaid_bare (s ∷ ss) n (u ∷ us) = ap (λ l. bare u ∷ l) (overlaid_bare ss (length_after s n) us)

pub laid_bare : (i : ℕ) (a : LaneOf) (us : List Kept) → bare_of (laid i a us) ≡ bare_of us
laid_bare zero a us = overlaid_bare a.slots a.first us
laid_bare (suc i) a [] = refl
laid_bare (suc i) a (u ∷ us) = ap (λ l. bare u ∷ l) (laid_bare i a us)

-- behind its last slot
overlaid_get : (ss : List (Option Op)) (n k : ℕ) (us : List Kept) (d : Kept) → length ss ≤ k → get_or (overlaid n ss us) k d ≡ get_or us k d
overlaid_get [] n k us d l = refl
overlaid_get (s ∷ ss) n k [] d l = refl
overlaid_get (s ∷ ss) n zero (u ∷ us) d l = absurd (omega (arith, l))
overlaid_get (s ∷ ss) n (suc k) (u ∷ us) d l = overlaid_get ss (length_after s n) k us d (omega (arith, l))

overlaid_set : (ss : List (Option Op)) (n k : ℕ) (us : List Kept) (v : Kept) → length ss ≤ k → overlaid n ss (set us k v) ≡ set (overlaid n ss us) k v
overlaid_set [] n k us v l = refl
overlaid_set (s ∷ ss) n k [] v l = refl
overlaid_set (s ∷ ss) n zero (u ∷ us) v l = absurd (omega (arith, l))
overlaid_set (s ∷ ss) n (suc k) (u ∷ us) v l = ap (λ t. told_kept n s u ∷ t) (overlaid_set ss (length_after s n) k us v (omega (arith, l)))

pub get_behind : (i k : ℕ) (a : LaneOf) (us : List Kept) (d : Kept) → i + length a.slots ≤ k → get_or (laid i a us) k d ≡ get_or us k d
get_behind zero k a us d l = overlaid_get a.slots a.first k us d (omega (arith, l))
get_behind (suc i) k a [] d l = refl
get_behind (suc i) zero a (u ∷ us) d l = absurd (omega (arith, l))
get_behind (suc i) (suc k) a (u ∷ us) d l = get_behind i k a us d (omega (arith, l))

pub set_behind : (i k : ℕ) (a : LaneOf) (us : List Kept) (v : Kept) → i + length a.slots ≤ k → laid i a (set us k v) ≡ set (laid i a us) k v
set_behind zero k a us v l = overlaid_set a.slots a.first k us v (omega (arith, l))
set_behind (suc i) k a [] v l = refl
set_behind (suc i) zero a (u ∷ us) v l = absurd (omega (arith, l))
set_behind (suc i) (suc k) a (u ∷ us) v l = ap (λ t. u ∷ t) (set_behind i k a us v (omega (arith, l)))

-- one of its slots
overlaid_at : (ss : List (Option Op)) (n k : ℕ) (us : List Kept) (u d : Kept) → k < length ss → k < length us → u ≡ get_or us k u → get_or (overlaid n ss us) k d ≡ told_kept (length_before k n ss) (slot_at k ss) u
overlaid_at [] n k us u d l m e = absurd (omega (arith, l))
overlaid_at (s ∷ ss) n k [] u d l m e = absurd (omega (arith, m))
overlaid_at (s ∷ ss) n zero (v ∷ us) u d l m e = ap (told_kept n s) (sym e)
overlaid_at (s ∷ ss) n (suc k) (v ∷ us) u d l m e = overlaid_at ss (length_after s n) k us u d (omega (arith, l)) (omega (arith, m)) e

pub get_at : (i j k : ℕ) (a : LaneOf) (us : List Kept) (u d : Kept) → k ≡ i + j → j < length a.slots → k < length us → u ≡ get_or us k u → get_or (laid i a us) k d ≡ told_kept (length_before j a.first a.slots) (slot_at j a.slots) u
get_at zero j k a us u d e l m h = ap (λ n. get_or (overlaid a.first a.slots us) n d) (e ∙ zero-add j) ∙ overlaid_at a.slots a.first j us u d l (omega (arith, m, e)) (h ∙ ap (λ n. get_or us n u) (e ∙ zero-add j))
get_at (suc i) j k a [] u d e l m h = absurd (omega (arith, m))
get_at (suc i) j zero a (v ∷ us) u d e l m h = absurd (omega (arith, e))
get_at (suc i) j (suc k) a (v ∷ us) u d e l m h = get_at i j k a us u d (omega (arith, e)) l (omega (arith, m)) h

-- ---- what it may show stays
pub holds_within : (cell : Option CellPath) (ss : List (Option Op)) (us : List Kept) → AllHold cell ss us → length ss ≤ length us
holds_within cell [] us h = omega arith
holds_within cell (s ∷ ss) [] h = absurd h
holds_within cell (s ∷ ss) (u ∷ us) h = let k = holds_within cell ss us h.1 in omega (arith, k)

pub holds_push : (cell : Option CellPath) (ss : List (Option Op)) (us vs : List Kept) → AllHold cell ss us → AllHold cell ss (us ++ vs)
holds_push cell [] us vs h = tt
holds_push cell (s ∷ ss) [] vs h = absurd h
holds_push cell (s ∷ ss) (u ∷ us) vs h = (h.0, holds_push cell ss us vs h.1)

holds_set : (cell : Option CellPath) (ss : List (Option Op)) (us : List Kept) (k : ℕ) (v : Kept) → length ss ≤ k → AllHold cell ss us → AllHold cell ss (set us k v)
holds_set cell [] us k v l h = tt
holds_set cell (s ∷ ss) [] k v l h = absurd h
holds_set cell (s ∷ ss) (u ∷ us) zero v l h = absurd (omega (arith, l))
holds_set cell (s ∷ ss) (u ∷ us) (suc k) v l h = (h.0, holds_set cell ss us k v (omega (arith, l)) h.1)

pub holds_before : (cell : Option CellPath) (i k : ℕ) (ss : List (Option Op)) (us : List Kept) (v : Kept) → k < i → AllHold cell ss (drop i us) → AllHold cell ss (drop i (set us k v))
holds_before cell i k ss us v l h = subst (AllHold cell ss) (sym (drop-set-lt i us k v l)) h

pub holds_behind : (cell : Option CellPath) (i k : ℕ) (ss : List (Option Op)) (us : List Kept) (v : Kept) → i + length ss ≤ k → AllHold cell ss (drop i us) → AllHold cell ss (drop i (set us k v))
holds_behind cell zero k ss us v l h = holds_set cell ss us k v (omega (arith, l)) h
holds_behind cell (suc i) k ss [] v l h = h
holds_behind cell (suc i) zero ss (u ∷ us) v l h = absurd (omega (arith, l))
holds_behind cell (suc i) (suc k) ss (u ∷ us) v l h = holds_behind cell i k ss us v (omega (arith, l)) h

overlaid_push : (cell : Option CellPath) (ss : List (Option Op)) (n : ℕ) (us vs : List Kept) → AllHold cell ss us → overlaid n ss (us ++ vs) ≡ overlaid n ss us ++ vs
overlaid_push cell [] n us vs h = refl
overlaid_push cell (s ∷ ss) n [] vs h = absurd h
overlaid_push cell (s ∷ ss) n (u ∷ us) vs h = ap (λ t. told_kept n s u ∷ t) (overlaid_push cell ss (length_after s n) us vs h.1)

-- the stretch lies in the list
pub laid_push : (cell : Option CellPath) (i : ℕ) (a : LaneOf) (us vs : List Kept) → i ≤ length us → AllHold cell a.slots (drop i us) → laid i a (us ++ vs) ≡ laid i a us ++ vs
laid_push cell zero a us vs l h = overlaid_push cell a.slots a.first us vs h
laid_push cell (suc i) a [] vs l h = absurd (omega (arith, l))
laid_push cell (suc i) a (u ∷ us) vs l h = ap (λ t. u ∷ t) (laid_push cell i a us vs (omega (arith, l)) h)

pub drop_push : {A : Type 0} (i : ℕ) (us vs : List A) → i ≤ length us → drop i (us ++ vs) ≡ drop i us ++ vs
drop_push zero us vs l = refl
drop_push (suc i) [] vs l = absurd (omega (arith, l))
drop_push (suc i) (u ∷ us) vs l = drop_push i us vs (omega (arith, l))

-- ---- the first of a stretch is written, and it begins behind that
pub laid_step : (i n : ℕ) (s : Option Op) (ss : List (Option Op)) (us : List Kept) (u : Kept) → i < length us → u ≡ get_or us i u
    → laid (suc i) (record { first = length_after s n; slots = ss }) (set us i (told_kept n s u)) ≡ laid i (record { first = n; slots = s ∷ ss }) us
laid_step i n s ss [] u l e = absurd (omega (arith, l))
laid_step zero n s ss (v ∷ us) u l e = ap (λ (w : Kept). told_kept n s w ∷ overlaid (length_after s n) ss us) e
laid_step (suc i) n s ss (v ∷ us) u l e = ap (λ t. v ∷ t) (laid_step i n s ss us u (omega (arith, l)) e)

pub drop_step : {A : Type 0} (i : ℕ) (us : List A) (u v : A) → i < length us → u ≡ get_or us i u → drop i us ≡ u ∷ drop (suc i) (set us i v)
drop_step i [] u v l e = absurd (omega (arith, l))
drop_step zero (w ∷ us) u v l e = ap (λ x. x ∷ us) (sym e)
drop_step (suc i) (w ∷ us) u v l e = drop_step i us u v (omega (arith, l)) e

pub step_holds : (cell : Option CellPath) (i : ℕ) (ss : List (Option Op)) (us : List Kept) (u : Kept) → 0 < length ss → i < length us → u ≡ get_or us i u → AllHold cell ss (drop i us) → Holds cell (first_slot ss) u
step_holds cell i [] us u m l e h = absurd (omega (arith, m))
step_holds cell i (s ∷ ss) us u m l e h = (subst (AllHold cell (s ∷ ss)) (drop_step i us u u l e) h).0

pub step_held : (cell : Option CellPath) (i n : ℕ) (ss : List (Option Op)) (us : List Kept) (u v : Kept) → 0 < length ss → i < length us → u ≡ get_or us i u → AllHold cell ss (drop i us)
    → AllHold cell (without_first n ss).slots (drop (suc i) (set us i v))
step_held cell i n [] us u v m l e h = absurd (omega (arith, m))
step_held cell i n (s ∷ ss) us u v m l e h = (subst (AllHold cell (s ∷ ss)) (drop_step i us u v l e) h).1

pub step_shown : (i n : ℕ) (ss : List (Option Op)) (us : List Kept) (u v : Kept) → 0 < length ss → i < length us → u ≡ get_or us i u → v ≡ told_kept n (first_slot ss) u
    → laid (suc i) (without_first n ss) (set us i v) ≡ laid i (record { first = n; slots = ss }) us
step_shown i n [] us u v m l e h = absurd (omega (arith, m))
step_shown i n (s ∷ ss) us u v m l e h = ap (λ w. laid (suc i) (record { first = length_after s n; slots = ss }) (set us i w)) h ∙ laid_step i n s ss us u l e

pub step_fewer : (n : ℕ) (ss : List (Option Op)) → 0 < length ss → length (without_first n ss).slots + 1 ≡ length ss
step_fewer n [] m = absurd (omega (arith, m))
step_fewer n (s ∷ ss) m = omega arith

pub laid_none : (i : ℕ) (a : LaneOf) (us : List Kept) → length a.slots ≡ 0 → laid i a us ≡ us
laid_none i a us h = no_slots i a.first a.slots us h
  where
    no_slots : (i n : ℕ) (ss : List (Option Op)) (us : List Kept) → length ss ≡ 0 → laid i (record { first = n; slots = ss }) us ≡ us
    no_slots i n (s ∷ ss) us h = absurd (omega (arith, h))
    no_slots zero n [] us h = refl
    no_slots (suc i) n [] [] h = refl
    no_slots (suc i) n [] (u ∷ us) h = ap (λ t. u ∷ t) (no_slots i n [] us h)
