-- An index of entries is one of what is left of them.
use Rattle.std.proofs.Common.{◌≡◌, ℕ, zero, suc, ◌<◌, Bool, not, List, [], ◌∷◌, ◌++◌, Option, Some, None, Result, Ok, Err, OnOk, OnErr, refl, sym, ap, subst, length, map, arith}
use Rattle.sync_data.specs.declared.entry.Entry.{Entry}
use Rattle.sync_data.specs.declared.entry.Stamp.{Stamp}
use Rattle.sync_data.specs.declared.instr.Instr.{Instr}
use Rattle.sync_theory.specs.Changesets.{Changeset}
use Rattle.sync_rivals.specs.Lists.{AreListed, Indexed, Lists, StaysAt, StaysListed, put_list}
use Rattle.sync_rivals.specs.Marks.{Marks, IsListed}
use Rattle.sync_rivals.proofs.Listed.{pushed}
use Rattle.list_places.specs.Moves.{action_in}
use Rattle.list_places.specs.declared.moves.ListAction.{ListAction}
use Rattle.sync_recip.specs.declared.across.Across.{Across}
use Rattle.sync_recip.specs.declared.carried.Became.{Became}
use Rattle.sync_recip.specs.declared.carried.Became.TheVariants.{Changed}
use Rattle.sync_recip.specs.declared.kept.Kept.{Kept}
use Rattle.sync_recip.specs.Lists.{kept_entry, lists_in}
use Rattle.list_lane.specs.Actions.{own_left, other_left}
use Rattle.sync_recip.specs.Passing.{change_later, passed}
use Rattle.sync_recip.specs.Acrossing.{put_across}
use Rattle.sync_recip.specs.Carrying.{with_crossed, LeftAt}
use Rattle.sync_recip.specs.Stretches.{from_place}
use Rattle.sync_recip.proofs.Listed.{left_listed}
use Rattle.sync_recip.proofs.Entries.{left_is}

-- ---- one of them
pub left_inside : (es : List (Changeset Instr)) (n : ℕ) (b : Became) → LeftAt n b (lists_in es) → n < length es
left_inside [] n b h = absurd h
left_inside (e ∷ es) zero b h = omega arith
left_inside (e ∷ es) (suc n) b h = let l = left_inside es n b h in omega (arith, l)

with_listed : (s : Marks) (m k : ℕ) (es : List (Changeset Instr)) (n : ℕ) (b : Became) → LeftAt n b (lists_in es) → AreListed s m k (lists_in es) → AreListed s m k (lists_in (with_crossed n b es))
with_listed s m zero es n b l h = tt
with_listed s m (suc k) [] n b l h = h
with_listed s m (suc k) (e ∷ es) zero b l h = (subst (IsListed s m) (sym (left_is b e)) (l.1 s m h.0), h.1)
with_listed s m (suc k) (e ∷ es) (suc n) b l h = (h.0, with_listed s (suc m) k es n b l h.1)

pub one_listed : (x : Indexed) (n : ℕ) (b : Became) (es : List (Changeset Instr)) → LeftAt n b (lists_in es) → Lists x (lists_in es) → Lists x (lists_in (with_crossed n b es))
one_listed x n b es l h = with_listed x.marks x.first x.listed es n b l h

pub lists_changed : (n : ℕ) (x : Entry) (es : List (Changeset Instr)) → lists_in (with_crossed n (Changed x) es) ≡ put_list n x.changes.instrs (lists_in es)
lists_changed n x [] = refl
lists_changed zero x (e ∷ es) = refl
lists_changed (suc n) x (e ∷ es) = ap (λ l. e.instrs ∷ l) (lists_changed n x es)

pub stays_changed : (n : ℕ) (x : Entry) (es : List (Changeset Instr)) → LeftAt n (Changed x) (lists_in es) → StaysAt n x.changes.instrs (lists_in es)
stays_changed n x [] h = absurd h
stays_changed zero x (e ∷ es) h = h.1
stays_changed (suc n) x (e ∷ es) h = stays_changed n x es h

-- ---- a stretch of them
own_listed : (l : Bool) (a : Option ListAction) (b : ListAction) (is : List Instr) → StaysListed is (own_left l a b is)
own_listed l None b is = λ m n h. h
own_listed l (Some a) b is = left_listed _ is

passed_listed : (s : Stamp) (k : ℕ) (b : Option ListAction) (es : List (Changeset Instr)) (m : Marks) (n j : ℕ) → AreListed m n j (lists_in es) → AreListed m n j (lists_in (passed s k b es))
passed_listed s k None es m n j h = h
passed_listed s zero (Some b) es m n j h = h
passed_listed s (suc k) (Some b) [] m n j h = h
passed_listed s (suc k) (Some b) (e ∷ es) m n zero h = tt
passed_listed s (suc k) (Some b) (e ∷ es) m n (suc j) h = (
  own_listed (not (change_later s e)) (action_in e.instrs) b e.instrs m n h.0,
  passed_listed s k (other_left (change_later s e) (action_in e.instrs) b) es m (suc n) j h.1,
)

from_listed : (i : ℕ) (f : List (Changeset Instr) → List (Changeset Instr)) → ((es : List (Changeset Instr)) (m : Marks) (n j : ℕ) → AreListed m n j (lists_in es) → AreListed m n j (lists_in (f es)))
    → (es : List (Changeset Instr)) (m : Marks) (n j : ℕ) → AreListed m n j (lists_in es) → AreListed m n j (lists_in (from_place i f es))
from_listed zero f g es m n j h = g es m n j h
from_listed (suc i) f g [] m n j h = h
from_listed (suc i) f g (e ∷ es) m n zero h = tt
from_listed (suc i) f g (e ∷ es) m n (suc j) h = (h.0, from_listed i f g es m (suc n) j h.1)

pub across_listed : (x : Indexed) (a : Across) (es : List (Changeset Instr)) → Lists x (lists_in es) → Lists x (lists_in (put_across a es))
across_listed x a es h = from_listed a.start (passed a.stamp a.count (Some a.action)) (passed_listed a.stamp a.count (Some a.action)) es x.marks x.first x.listed h

-- ---- one more at the end
lists_joined : (ks js : List Kept) → lists_in (map kept_entry (ks ++ js)) ≡ lists_in (map kept_entry ks) ++ lists_in (map kept_entry js)
lists_joined [] js = refl
lists_joined (k ∷ ks) js = ap (λ l. (kept_entry k).instrs ∷ l) (lists_joined ks js)

pub listed_pushed : {A E : Type 0} (r : Result A E) (x : Indexed) (ks ns : List Kept) (k : Kept) → OnOk r (ns ≡ ks ++ k ∷ []) → OnErr r (ns ≡ ks) → Lists x (lists_in (map kept_entry ks)) → Lists x (lists_in (map kept_entry ns))
listed_pushed (Ok a) x ks ns k f g h =
    subst (λ l. Lists x (lists_in (map kept_entry l))) (sym f) (subst (Lists x) (sym (lists_joined ks (k ∷ []))) (pushed x.marks x.first x.listed (lists_in (map kept_entry ks)) (kept_entry k).instrs h))
listed_pushed (Err a) x ks ns k f g h = subst (λ l. Lists x (lists_in (map kept_entry l))) (sym g) h
