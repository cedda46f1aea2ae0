-- An index of unsent changesets is one of what is left of them.
use Rattle.std.proofs.Common.{◌≡◌, ℕ, zero, suc, ◌<◌, Bool, not, List, [], ◌∷◌, Option, Some, None, refl, length, arith}
use Rattle.sync_data.specs.declared.instr.Instr.{Instr}
use Rattle.sync_data.specs.declared.entry.Stamp.{Stamp}
use Rattle.sync_theory.specs.Changesets.{later_stamp}
use Rattle.sync_theory.specs.Grid.{tail}
use Rattle.sync_model.specs.Clients.{Unsent}
use Rattle.sync_rivals.specs.Lists.{Indexed, AreListed, Lists, StaysListed}
use Rattle.sync_rivals.specs.Marks.{Marks}
use Rattle.list_places.specs.Moves.{action_in}
use Rattle.list_places.specs.declared.moves.ListAction.{ListAction}
use Rattle.list_lane.specs.Actions.{own_left, other_left}
use Rattle.sync_rebase.specs.Settling.{currents, passed, put_across}
use Rattle.sync_rebase.specs.Stretches.{from_place}
use Rattle.sync_rebase.specs.declared.carried.Across.{Across}
use Rattle.sync_rebase.proofs.Listed.{left_listed}

own_listed : (l : Bool) (a : Option ListAction) (b : ListAction) (is : List Instr) → StaysListed is (own_left l a b is)
own_listed l None b is = λ m n h. h
own_listed l (Some a) b is = left_listed _ is

passed_listed : (own : ℕ) (s : Stamp) (k : ℕ) (b : Option ListAction) (us : List (Unsent Instr)) (m : Marks) (n j : ℕ) → AreListed m n j (currents us) → AreListed m n j (currents (passed own s k b us))
passed_listed own s k None us m n j h = h
passed_listed own s zero (Some b) us m n j h = h
passed_listed own s (suc k) (Some b) [] m n j h = h
passed_listed own s (suc k) (Some b) (u ∷ us) m n zero h = tt
passed_listed own s (suc k) (Some b) (u ∷ us) m n (suc j) h = (
  own_listed (later_stamp u.original.ms own s.ms s.ident) (action_in u.current) b u.current m n h.0,
  passed_listed own s k (other_left (not (later_stamp u.original.ms own s.ms s.ident)) (action_in u.current) b) us m (suc n) j h.1,
)

from_listed : (i : ℕ) (f : List (Unsent Instr) → List (Unsent Instr)) → ((us : List (Unsent Instr)) (m : Marks) (n j : ℕ) → AreListed m n j (currents us) → AreListed m n j (currents (f us)))
    → (us : List (Unsent Instr)) (m : Marks) (n j : ℕ) → AreListed m n j (currents us) → AreListed m n j (currents (from_place i f us))
from_listed zero f g us m n j h = g us m n j h
from_listed (suc i) f g [] m n j h = h
from_listed (suc i) f g (u ∷ us) m n zero h = tt
from_listed (suc i) f g (u ∷ us) m n (suc j) h = (h.0, from_listed i f g us m (suc n) j h.1)

pub across_listed : (x : Indexed) (a : Across) (us : List (Unsent Instr)) → Lists x (currents us) → Lists x (currents (put_across a us))
across_listed x a us h = from_listed a.start (passed a.own a.stamp a.count (Some a.action)) (passed_listed a.own a.stamp a.count (Some a.action)) us x.marks x.first x.listed h

pub tail_lists : (x y : Indexed) (us : List (Unsent Instr)) → 0 < length us → ((l : List Instr) (lists : List (List Instr)) → Lists x (l ∷ lists) → Lists y lists) → Lists x (currents us) → Lists y (currents (tail us))
tail_lists x y [] l f h = absurd (omega (arith, l))
tail_lists x y (u ∷ us) l f h = f u.current (currents us) h

pub none_tail : (us : List (Unsent Instr)) → length us ≡ 0 → us ≡ tail us
none_tail [] h = refl
none_tail (u ∷ us) h = absurd (omega (arith, h))
