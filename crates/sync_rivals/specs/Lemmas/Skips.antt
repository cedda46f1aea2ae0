-- What no mark names crosses as it is, and what is left of two that crossed is listed and known as before.
use Rattle.std.specs.Prelude.{◌≡◌, ◌≤◌, ℕ, Bool, true, false, List, [], ◌∷◌, ◌++◌, Option, None, Some, Result, Ok, Err, IfOk, refl}
use Rattle.std.specs.List.{All, AllByRecursion}
use Rattle.std.proofs.Common.{sym, ap, subst}
use Rattle.std.proofs.lemmas.List.Elements.{All-weaker, recursion_from_All}
use Rattle.sync_data.specs.declared.instr.Instr.{Instr}
use Rattle.sync_base.specs.declared.answers.Mismatch.{Mismatch}
use Rattle.sync_base.specs.declared.answers.Outcome.{Outcome}
use Rattle.sync_base.specs.Rules.{meeting}
use Rattle.sync_theory.specs.Lists.{kept, cross, step_down}
use Rattle.sync_theory.specs.Changesets.{Changeset, with_lists}
use Rattle.sync_theory.proofs.Lists.{Row, gone, end, next, Rows, done, more}
use Rattle.sync_theory.proofs.Cross.{rows_of}
use Rattle.sync_theory.proofs.Only.{Untouched, untouched_row}
use Rattle.sync_theory.proofs.Recip.{ok_first, ok_second}
use Rattle.sync_law.specs.Instrs.{as_pair, meet}
use Rattle.sync_index.specs.Touched.{Apart, ApartFromAll}
use Rattle.sync_rivals.specs.Homes.{Place, listed, rivals}
use Rattle.sync_rivals.specs.Strangers.{place_of, IsAt, IsFoundBy, FindsNoRival}
use Rattle.sync_rivals.specs.Codes.{code}
use Rattle.sync_rivals.specs.Marks.{Marks, is_marked, is_at, IsListed, IsReached, Reaches, Knows, all_rivals}
use Rattle.sync_rivals.specs.Lemmas.Strangers.{strangers_stay}
use Rattle.sync_rivals.specs.Lemmas.Homes.{homes_stay}

-- ---- what is apart crosses as it is
untouched : (later : Bool) (a : Instr) (bs : List Instr) → ApartFromAll a bs → Untouched (λ a b. meet a b later) a bs
untouched later a [] h = tt
untouched later a (b ∷ bs) h = (ap as_pair (h.0 later).0, untouched later a bs h.1)

abbrev AllApart : List Instr → List Instr → Type 0
AllApart as_ bs = AllByRecursion (λ a. ApartFromAll a bs) as_

apart_cross : (later : Bool) (as_ bs : List Instr) → AllApart as_ bs → cross (λ a b. meet a b later) as_ bs ≡ Ok (as_, bs)
apart_cross later [] bs h = refl
apart_cross later (a ∷ as_) bs h = rw (untouched_row (λ a b. meet a b later) a bs (untouched later a bs h.0), apart_cross later as_ bs h.1)

-- ---- of two lists of which one finds no rival in the other
module _ (test : Place → Bool) where
  found_apart : (a : Instr) (bs : List Instr) → FindsNoRival test a → AllByRecursion (IsFoundBy test) bs → ApartFromAll a bs
  found_apart a [] f p = tt
  found_apart a (b ∷ bs) f p = (strangers_stay a b test f p.0, found_apart a bs f p.1)

  pub finders_apart : (as_ bs : List Instr) → AllByRecursion (FindsNoRival test) as_ → AllByRecursion (IsFoundBy test) bs → AllApart as_ bs
  finders_apart [] bs f p = tt
  finders_apart (a ∷ as_) bs f p = (found_apart a bs f.0 p, finders_apart as_ bs f.1 p)

  turned : (a b : Instr) → Apart a b → Apart b a
  turned a b h later = ((h later).1, (h later).0)

  seeker_apart : (b : Instr) (as_ : List Instr) → AllByRecursion (FindsNoRival test) as_ → IsFoundBy test b → ApartFromAll b as_
  seeker_apart b [] f p = tt
  seeker_apart b (a ∷ as_) f p = (turned a b (strangers_stay a b test f.0 p), seeker_apart b as_ f.1 p)

  pub found_all_apart : (as_ bs : List Instr) → AllByRecursion (FindsNoRival test) as_ → AllByRecursion (IsFoundBy test) bs → AllApart bs as_
  found_all_apart as_ [] f p = tt
  found_all_apart as_ (b ∷ bs) f p = (seeker_apart b as_ f p.0, found_all_apart as_ bs f p.1)

-- a changeset of a number that none of the codes marks, on either side
module _ (s : Marks) (n : ℕ) (codes : List ℕ) (unnamed : AllByRecursion (λ c. is_marked s c n ≡ false) codes) (as_ bs : List Instr) (there : IsListed s n as_) (known : Knows codes bs) (later : Bool) where
  pub skip_left : cross (λ a b. meet a b later) as_ bs ≡ Ok (as_, bs)
  skip_left = apart_cross later as_ bs (found_all_apart (is_at s n) bs as_ (known (λ c. is_marked s c n) unnamed) there)

  pub skip_right : cross (λ a b. meet a b later) bs as_ ≡ Ok (bs, as_)
  skip_right = apart_cross later bs as_ (finders_apart (is_at s n) bs as_ (known (λ c. is_marked s c n) unnamed) there)

-- ---- what is left has its home
sides : (h g : Place) (r : Result Outcome Mismatch) (x y : Option Instr) → as_pair r ≡ Ok (x, y) → IfOk r (λ o. IsAt h o.left × IsAt g o.right) → IsAt h x × IsAt g y
sides h g (Err m) x y e k = cc
sides h g (Ok o) x y e k = (subst (IsAt h) (ok_first (o.left, o.right) x y e) k.0, subst (IsAt g) (ok_second (o.left, o.right) x y e) k.1)

module _ (P : Place → Type 0) (later : Bool) where
  abbrev At : Instr → Type 0
  At i = P (place_of i)

  abbrev Left : Option Instr → Type 0
  Left None = Unit {0}
  Left (Some i) = At i

  left_at : (h : Place) (x : Option Instr) → IsAt h x → P h → Left x
  left_at h None e p = tt
  left_at h (Some i) e p = subst P (sym e) p

  kept_at : (x : Option Instr) (is : List Instr) → Left x → AllByRecursion At is → AllByRecursion At (kept x ++ is)
  kept_at None is p h = h
  kept_at (Some i) is p h = (p, h)

  row_left : {x z : Option Instr} {bs cs : List Instr} → Row (λ a b. meet a b later) x bs z cs → Left x → Left z
  row_left gone p = p
  row_left end p = p
  row_left (next {a = a} {b = b} {x = x} {y = y} m r) p = row_left r (left_at (place_of a) x (sides (place_of a) (place_of b) (meeting a b later) x y m (homes_stay a b later)).0 p)

  row_right : {x z : Option Instr} {bs cs : List Instr} → Row (λ a b. meet a b later) x bs z cs → AllByRecursion At bs → AllByRecursion At cs
  row_right gone h = h
  row_right end h = h
  row_right (next {a = a} {b = b} {x = x} {y = y} {cs = cs} m r) h =
      kept_at y cs (left_at (place_of b) y (sides (place_of a) (place_of b) (meeting a b later) x y m (homes_stay a b later)).1 h.0) (row_right r h.1)

  rows_left : {as_ bs cs ds : List Instr} → Rows (λ a b. meet a b later) as_ bs cs ds → AllByRecursion At as_ → AllByRecursion At cs
  rows_left done h = h
  rows_left (more {as1 = as1} {x = x} r q) h = kept_at x as1 (row_left r h.0) (rows_left q h.1)

  rows_right : {as_ bs cs ds : List Instr} → Rows (λ a b. meet a b later) as_ bs cs ds → AllByRecursion At bs → AllByRecursion At ds
  rows_right done h = h
  rows_right (more r q) h = rows_right q (row_right r h)

  pub cross_left : (as_ bs cs ds : List Instr) → cross (λ a b. meet a b later) as_ bs ≡ Ok (cs, ds) → AllByRecursion At as_ → AllByRecursion At cs
  cross_left as_ bs cs ds e h = rows_left (rows_of (λ a b. meet a b later) e) h

  pub cross_right : (as_ bs cs ds : List Instr) → cross (λ a b. meet a b later) as_ bs ≡ Ok (cs, ds) → AllByRecursion At bs → AllByRecursion At ds
  cross_right as_ bs cs ds e h = rows_right (rows_of (λ a b. meet a b later) e) h

-- ---- what a list knows of its rivals
pub known_first : (bs : List Instr) → Knows (all_rivals bs) bs
known_first [] test h = tt
known_first (b ∷ bs) test h = ((h.0, (h.1.0, (h.1.1.0, tt))), known_first bs test h.1.1.1)

pub known_right : (codes : List ℕ) (later : Bool) (as_ bs cs ds : List Instr) → cross (λ a b. meet a b later) as_ bs ≡ Ok (cs, ds) → Knows codes bs → Knows codes ds
known_right codes later as_ bs cs ds e k test h = cross_right (λ q. AllByRecursion (λ r. test (code r) ≡ false) (rivals q)) later as_ bs cs ds e (k test h)

pub known_left : (codes : List ℕ) (later : Bool) (as_ bs cs ds : List Instr) → cross (λ a b. meet a b later) as_ bs ≡ Ok (cs, ds) → Knows codes as_ → Knows codes cs
known_left codes later as_ bs cs ds e k test h = cross_left (λ q. AllByRecursion (λ r. test (code r) ≡ false) (rivals q)) later as_ bs cs ds e (k test h)

pub listed_left : (s : Marks) (n : ℕ) (later : Bool) (as_ bs cs ds : List Instr) → cross (λ a b. meet a b later) as_ bs ≡ Ok (cs, ds) → IsListed s n as_ → IsListed s n cs
listed_left s n later as_ bs cs ds e h = cross_left (λ q. AllByRecursion (λ r. is_at s n r ≡ true) (listed q)) later as_ bs cs ds e h

pub listed_right : (s : Marks) (n : ℕ) (later : Bool) (as_ bs cs ds : List Instr) → cross (λ a b. meet a b later) as_ bs ≡ Ok (cs, ds) → IsListed s n bs → IsListed s n ds
listed_right s n later as_ bs cs ds e h = cross_right (λ q. AllByRecursion (λ r. is_at s n r ≡ true) (listed q)) later as_ bs cs ds e h

-- ---- of changesets
pub lists_of : {M : Type 0} (a b : Changeset Instr) (r : Result (List Instr × List Instr) M) (q : Changeset Instr × Changeset Instr) → with_lists a b r ≡ Ok q → r ≡ Ok (q.0.instrs, q.1.instrs)
lists_of a b (Ok p) q e = ap (λ x. Ok (x.0.instrs, x.1.instrs)) (ok_is (record a { instrs = p.0 }, record b { instrs = p.1 }) q e)
  where
    ok_is : {A E : Type 0} (x y : A) → ◌≡◌ {A = Result A E} (Ok x) (Ok y) → x ≡ y
    ok_is x y e = cc
lists_of a b (Err m) q e = cc

-- ---- from what a look finds
-- a number below what was found is marked with none of the codes
pub unnamed : (s : Marks) (codes : List ℕ) (from n : ℕ) (found : Option ℕ) → All (Reaches s from found) codes → from ≤ n → (IsReached n found → ⊥) → AllByRecursion (λ c. is_marked s c n ≡ false) codes
unnamed s codes from n found h l below =
    recursion_from_All (λ c. is_marked s c n ≡ false) codes (All-weaker (Reaches s from found) (λ c. is_marked s c n ≡ false) (λ c reaches.
    elim (is_marked s c n) as (λ b. is_marked s c n ≡ b → b ≡ false) [
      | true ↦ λ there. absurd (below (reaches n l there))
      | false ↦ λ _. refl
    ] refl) codes h)

-- nothing is crossed where nothing is left
pub nothing_right : (later : Bool) (as_ : List Instr) → cross (λ a b. meet a b later) as_ [] ≡ Ok (as_, [])
nothing_right later [] = refl
nothing_right later (a ∷ as_) = ap (step_down (Some a)) (nothing_right later as_)
