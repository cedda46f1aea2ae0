-- A changeset that is shown elsewhere: what is known of it stays, and two of one list cross as their instructions do.
use Rattle.std.proofs.Common.{◌≡◌, ℕ, Bool, List, [], ◌∷◌, Option, Some, None, Ok, IfSome, sym, ap, ◌∙◌}
use Rattle.std.specs.Option.{option_map}
use Rattle.sync_data.specs.declared.instr.Instr.{Instr}
use Rattle.sync_data.specs.Payload.{Changes}
use Rattle.sync_base.specs.Effects.{path_of}
use Rattle.sync_theory.specs.Lists.{cross}
use Rattle.sync_theory.specs.Changesets.{cross_sets, with_lists, later_stamp}
use Rattle.sync_law.specs.Instrs.{meet}
use Rattle.sync_index.specs.Touched.{Touched, touches, Covers}
use Rattle.sync_index.specs.Filters.{spot_of}
use Rattle.sync_index.specs.Spots.{AllAt, LieAt, Misses}
use Rattle.sync_transform.specs.Sets.{made_by}
use Rattle.list_places.specs.Moves.{acting, action_in, first_cell, moved_first, moved_changes, shown, Move}
use Rattle.list_places.specs.declared.moves.ListAction.{ListAction}
use Rattle.list_places.specs.declared.moves.Moves.{Moves}
use Rattle.list_places.proofs.Stands.{object_stays, one_cell, some_is, one, cell_there, moved_one}

pub shown_covered : (t : Touched) (o : Option ListAction) (is : List Instr) → Covers t is → Covers t (shown o is)
shown_covered t None is h = h
shown_covered t (Some a) [] h = h
shown_covered t (Some a) (i ∷ is) h = (ap (touches t) (object_stays a i) ∙ h.0, h.1)

pub shown_missed : (t : Touched) (o : Option ListAction) (is : List Instr) → Misses t is → Misses t (shown o is)
shown_missed t None is h = h
shown_missed t (Some a) [] h = h
shown_missed t (Some a) (i ∷ is) h = (ap (touches t) (object_stays a i) ∙ h.0, h.1)

all_back : (t : ℕ) (o : Option ListAction) (is : List Instr) → AllAt t (shown o is) → AllAt t is
all_back t None is h = h
all_back t (Some a) [] h = h
all_back t (Some a) (i ∷ is) h = (ap (option_map (λ o. spot_of o.1)) (sym (object_stays a i)) ∙ h.0, h.1)

pub lie_back : (t : Option ℕ) (o : Option ListAction) (is : List Instr) → LieAt t (shown o is) → LieAt t is
lie_back None o is h = tt
lie_back (Some t) o is h = all_back t o is h

-- ---- lists of one
ones_cross : (l : Bool) (a b x y : Instr) → meet a b l ≡ Ok (Some x, Some y) → cross (λ a b. meet a b l) (a ∷ []) (b ∷ []) ≡ Ok (x ∷ [], y ∷ [])
ones_cross l a b x y h = rw h

pub lists_cross : (l : Bool) (x y : ListAction) (m : Moves) (is js : List Instr) → Move x y l m → action_in is ≡ Some x → action_in js ≡ Some y → first_cell is ≡ first_cell js
    → cross (λ a b. meet a b l) is js ≡ Ok (moved_first m.left is, moved_first m.right js)
lists_cross l x y m is js move is_x is_y same =
    let f = one is x is_x in
    let g = one js y is_y in
    let paths : path_of f.cell ≡ path_of g.cell = some_is (sym (ap first_cell f.is ∙ cell_there f.cell f.value x) ∙ same ∙ ap first_cell g.is ∙ cell_there g.cell g.value y) in
    let cell = one_cell f.cell g.cell paths in
    let is_g : js ≡ acting f.cell g.value y ∷ [] = g.is ∙ ap (λ c. acting c g.value y ∷ []) (sym cell) in
    (λ i. cross (λ a b. meet a b l) (f.is i) (is_g i))
    ∙ ones_cross l (acting f.cell f.value x) (acting f.cell g.value y) (acting f.cell f.value m.left) (acting f.cell g.value m.right) (move.met f.cell f.value g.value)
    ∙ (λ i. Ok (sym (moved_one is x m.left f (sym move.left)) i, (acting (cell i) g.value m.right) ∷ []))
    ∙ (λ i. Ok (moved_first m.left is, sym (moved_one js y m.right g (sym move.right)) i))

pub some_map : {A : Type 0} {P Q : A → Type 0} → ((a : A) → P a → Q a) → (r : Option A) → IfSome r P → IfSome r Q
some_map f None h = tt
some_map f (Some a) h = f a h

-- changesets of one list instruction each
pub moves_cross : (r : Option Moves) (x y : ListAction) (own other : ℕ) (p q : Changes) (l : Bool) → l ≡ later_stamp p.ms own q.ms other → action_in p.instrs ≡ Some x → action_in q.instrs ≡ Some y → first_cell p.instrs ≡ first_cell q.instrs → IfSome r (Move x y l)
    → IfSome r (λ s. (m n : ℕ) → cross_sets meet (made_by own m p) (made_by other n q) ≡ Ok (made_by own m (moved_changes s.left p), made_by other n (moved_changes s.right q)))
moves_cross r x y own other p q l later is_x is_y same h =
    some_map (λ s move m n. ap (with_lists (made_by own m p) (made_by other n q)) ((λ i. cross (λ a b. meet a b (sym later i)) p.instrs q.instrs) ∙ lists_cross l x y s p.instrs q.instrs move is_x is_y same)) r h
