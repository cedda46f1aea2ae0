-- What an index knows of a list it knows of what is left of it.
use Rattle.std.proofs.Common.{◌≡◌, Bool, true, false, List, [], ◌∷◌, ◌++◌, Option, Some, None, Result, Ok, Err, IfOk, refl, ap, ◌∙◌, subst}
use Rattle.sync_data.specs.declared.instr.Instr.{Instr}
use Rattle.sync_base.specs.declared.answers.Mismatch.{Mismatch}
use Rattle.sync_base.specs.declared.answers.Outcome.{Outcome}
use Rattle.sync_base.specs.Effects.{effect_of}
use Rattle.sync_base.specs.Objects.{object_of, IsAbout}
use Rattle.sync_base.specs.Rules.{meeting}
use Rattle.sync_base.specs.Lemmas.Objects.{objects_stay}
use Rattle.sync_theory.specs.Lists.{kept, row, cross}
use Rattle.sync_theory.proofs.Lists.{Row, gone, end, next}
use Rattle.sync_theory.proofs.Cross.{RowEnds, row_through, row_ends}
use Rattle.sync_theory.proofs.Only.{Untouched, untouched_row}
use Rattle.sync_theory.proofs.Recip.{ok_first, ok_second}
use Rattle.sync_law.specs.Instrs.{as_pair, meet}
use Rattle.sync_index.specs.Touched.{Touched, touches, may_touch, Covers, ApartFromAll}
use Rattle.sync_index.specs.Spots.{Misses}
use Rattle.sync_index.specs.Lemmas.{apart_from_all}
use Rattle.sync_transform.specs.Indexes.{IsCovered}

-- what holds of an outcome holds of its sides
pub sides : (P : Option Instr → Option Instr → Type 0) (r : Result Outcome Mismatch) (x y : Option Instr) → as_pair r ≡ Ok (x, y) → IfOk r (λ o. P o.left o.right) → P x y
sides P (Err m) x y e h = cc
sides P (Ok o) x y e h = subst (λ l. P l y) (ok_first (o.left, o.right) x y e) (subst (P o.left) (ok_second (o.left, o.right) x y e) h)

right_covered : (t : Touched) (b : Instr) (y : Option Instr) (cs : List Instr) → IsAbout (object_of (effect_of b)) y → may_touch t b ≡ true → Covers t cs → Covers t (kept y ++ cs)
right_covered t b None cs h e c = c
right_covered t b (Some i) cs h e c = (ap (touches t) h ∙ e, c)

derived : {L R M : Type 0} {meet : L → R → Result (Option L × Option R) M} {x z : Option L} {bs cs : List R} → RowEnds meet x bs (Ok (z, cs)) → Row meet x bs z cs
derived (row_through r) = r

pub row_of : {L R M : Type 0} (meet : L → R → Result (Option L × Option R) M) (x z : Option L) (bs cs : List R) → row meet x bs ≡ Ok (z, cs) → Row meet x bs z cs
row_of meet x z bs cs e = derived (subst (RowEnds meet x bs) e (row_ends meet bs x))

through_covered : (later : Bool) (t : Touched) {x z : Option Instr} {bs cs : List Instr} → Row (λ a b. meet a b later) x bs z cs → Covers t bs → Covers t cs
through_covered later t gone c = c
through_covered later t end c = c
through_covered later t (next {a = a} {b = b} {x = x} {y = y} {bs = bs} {cs = cs} m r) c =
    right_covered t b y cs (sides (λ l q. IsAbout (object_of (effect_of b)) q) (meeting a b later) x y m (right_of (meeting a b later) (objects_stay a b later))) c.0 (through_covered later t r c.1)
  where
    right_of : (s : Result Outcome Mismatch) → IfOk s (λ o. IsAbout (object_of (effect_of a)) o.left × IsAbout (object_of (effect_of b)) o.right) → IfOk s (λ o. IsAbout (object_of (effect_of b)) o.right)
    right_of (Ok o) h = h.1
    right_of (Err e) h = tt

pub row_covered : (later : Bool) (t : Option Touched) (a : Instr) (bs cs : List Instr) (z : Option Instr) → row (λ a b. meet a b later) (Some a) bs ≡ Ok (z, cs) → IsCovered t bs → IsCovered t cs
row_covered later None a bs cs z e c = tt
row_covered later (Some t) a bs cs z e c = through_covered later t (row_of (λ a b. meet a b later) (Some a) z bs cs e) c

-- what is apart from all of a list passes it
untouched : (later : Bool) (a : Instr) (bs : List Instr) → ApartFromAll a bs → Untouched (λ a b. meet a b later) a bs
untouched later a [] h = tt
untouched later a (b ∷ bs) h = (ap as_pair (h.0 later).0, untouched later a bs h.1)

pub apart_row : (later : Bool) (a : Instr) (bs : List Instr) → ApartFromAll a bs → row (λ a b. meet a b later) (Some a) bs ≡ Ok (Some a, bs)
apart_row later a bs h = untouched_row (λ a b. meet a b later) a bs (untouched later a bs h)

-- ---- lists that are apart cross as they are
-- each of a list is apart from all of another
abbrev pub AllApart : List Instr → List Instr → Type 0
AllApart [] bs = Unit {0}
AllApart (a ∷ as_) bs = ApartFromAll a bs × AllApart as_ bs

pub apart_cross : (later : Bool) (as_ bs : List Instr) → AllApart as_ bs → cross (λ a b. meet a b later) as_ bs ≡ Ok (as_, bs)
apart_cross later [] bs h = refl
apart_cross later (a ∷ as_) bs h = rw (apart_row later a bs h.0, apart_cross later as_ bs h.1)

none_apart : (bs : List Instr) → AllApart bs []
none_apart [] = tt
none_apart (b ∷ bs) = (tt, none_apart bs)

one_more : (a : Instr) (as_ bs : List Instr) → ApartFromAll a bs → AllApart bs as_ → AllApart bs (a ∷ as_)
one_more a as_ [] h g = tt
one_more a as_ (b ∷ bs) h g = ((λ later. ((h.0 later).1, (h.0 later).0), g.0), one_more a as_ bs h.1 g.1)

pub turned_apart : (as_ bs : List Instr) → AllApart as_ bs → AllApart bs as_
turned_apart [] bs h = none_apart bs
turned_apart (a ∷ as_) bs h = one_more a as_ bs h.0 (turned_apart as_ bs h.1)

-- what an index knows nothing of is apart from all that it covers
pub missed_apart : (t : Touched) (as_ bs : List Instr) → Misses t as_ → Covers t bs → AllApart as_ bs
missed_apart t [] bs m c = tt
missed_apart t (a ∷ as_) bs m c = (apart_from_all t a bs m.0 c, missed_apart t as_ bs m.1 c)

pub more_missed : (t : Touched) (as_ : List Instr) (a : Instr) → Misses t as_ → may_touch t a ≡ false → Misses t (as_ ++ a ∷ [])
more_missed t [] a m e = (e, tt)
more_missed t (b ∷ as_) a m e = (m.0, more_missed t as_ a m.1 e)
