-- Which instructions stay as they are when they meet, wherever those of lists stand.
use Rattle.std.proofs.Common.{◌≡◌, Bool, true, not, List, [], ◌∷◌, ◌++◌, Option, Some, None, Result, Ok, Err, refl, sym, ap, ◌∙◌, subst}
use Rattle.std.specs.Ordering.{eq_by_cmp}
use Rattle.sync_data.specs.Spot as places
use Rattle.sync_data.specs.declared.instr.Instr.{Instr}
use Rattle.sync_data.specs.declared.instr.Instr.TheVariants as instrs
use Rattle.sync_data.specs.declared.instr.AddInteger.{AddInteger}
use Rattle.sync_data.specs.declared.instr.SetInsert.{SetInsert}
use Rattle.sync_data.specs.declared.instr.SetErase.{SetErase}
use Rattle.sync_data.specs.declared.instr.CreateObject.{CreateObject}
use Rattle.sync_base.specs.Effects.{CellPath, effect_of}
use Rattle.sync_base.specs.Merged.{path_cmp}
use Rattle.sync_base.specs.Objects.{cell_in, object_of, are_apart}
use Rattle.sync_base.specs.Rules.{meeting}
use Rattle.sync_base.specs.Lemmas.Objects.{apart_stay}
use Rattle.sync_theory.specs.Lists.{kept, met, row, rowed, cross}
use Rattle.sync_law.specs.Instrs.{as_pair, meet}
use Rattle.list_places.specs.Moves.{inserted_at, erased_at, updated_at, moved, moved_first, kind_in, kind_of, shown, IsShown}
use Rattle.list_places.specs.declared.moves.ListAction.{ListAction}
use Rattle.list_places.specs.declared.moves.ListAction.TheVariants.{Insert, Erase, Update}
use Rattle.sync_transform.proofs.Cells.{two_cells}
use Rattle.list_places.proofs.Stands.{same_elsewhere, told_written}
use Rattle.sync_transform.specs.Staying.{StayAnywhere}

-- ---- lists of one
abbrev Stay : Instr → Instr → Type 0
Stay a b = (later : Bool) → meeting a b later ≡ Ok (record { left = Some a; right = Some b })

ones_met : (l : Bool) (a b : Instr) → meet a b l ≡ Ok (Some a, Some b) → cross (λ a b. meet a b l) (a ∷ []) (b ∷ []) ≡ Ok (a ∷ [], b ∷ [])
ones_met l a b h = rw h

ones_cross : (l : Bool) (a b : Instr) → Stay a b → cross (λ a b. meet a b l) (a ∷ []) (b ∷ []) ≡ Ok (a ∷ [], b ∷ [])
ones_cross l a b h = ones_met l a b (ap as_pair (h l))

-- ---- where an instruction of a list may stand
abbrev there : Option ListAction → Instr → Instr
there None i = i
there (Some x) i = moved x i

shown_there : (x : Option ListAction) (i : Instr) → shown x (i ∷ []) ≡ there x i ∷ []
shown_there None i = refl
shown_there (Some x) i = refl

anywhere : (a b : Instr) → ((x y : Option ListAction) → Stay (there x a) (there y b)) → StayAnywhere (a ∷ []) (b ∷ [])
anywhere a b h = λ x y later.
    subst (λ (is : List Instr). cross (λ a b. meet a b later) is (shown y (b ∷ [])) ≡ Ok (is, shown y (b ∷ []))) (sym (shown_there x a))
    (subst (λ (js : List Instr). cross (λ a b. meet a b later) (there x a ∷ []) js ≡ Ok (there x a ∷ [], js)) (sym (shown_there y b))
    (ones_cross later (there x a) (there y b) (h x y)))

cell_there : (x : Option ListAction) (i : Instr) → cell_in (effect_of (there x i)) ≡ cell_in (effect_of i)
cell_there None i = refl
cell_there (Some x) i = same_elsewhere (λ i. cell_in (effect_of i)) (λ c v s t. refl) (λ c s t. refl) (λ c v s t. refl) x i

object_there : (x : Option ListAction) (i : Instr) → object_of (effect_of (there x i)) ≡ object_of (effect_of i)
object_there None i = refl
object_there (Some x) i = same_elsewhere (λ i. object_of (effect_of i)) (λ c v s t. refl) (λ c s t. refl) (λ c v s t. refl) x i

-- ---- of two cells, or of two objects
pub cells_stay : (a b : Instr) (p q : CellPath) → cell_in (effect_of a) ≡ Some p → cell_in (effect_of b) ≡ Some q → not (eq_by_cmp path_cmp p q) ≡ true → StayAnywhere (a ∷ []) (b ∷ [])
cells_stay a b p q f g n = anywhere a b (λ x y. two_cells (there x a) (there y b) p q (cell_there x a ∙ f) (cell_there y b ∙ g) n)

pub objects_stay : (a b : Instr) → are_apart (object_of (effect_of a)) (object_of (effect_of b)) ≡ true → StayAnywhere (a ∷ []) (b ∷ [])
objects_stay a b e = anywhere a b (λ x y later. apart_stay (there x a) (there y b) later ((λ i. are_apart (object_there x a i) (object_there y b i)) ∙ e))

-- ---- two of one kind, whatever they are of; neither is of a list
fixed : (a : Instr) → ((s : places.Spot) → inserted_at s a ≡ a) → ((s : places.Spot) → erased_at s a ≡ a) → ((s : places.Spot) → updated_at s a ≡ a) → (x : Option ListAction) → there x a ≡ a
fixed a f g h None = refl
fixed a f g h (Some (Insert s)) = f s
fixed a f g h (Some (Erase s)) = g s
fixed a f g h (Some (Update s)) = h s

fixed_stay : (a b : Instr) → ((x : Option ListAction) → there x a ≡ a) → ((y : Option ListAction) → there y b ≡ b) → Stay a b → StayAnywhere (a ∷ []) (b ∷ [])
fixed_stay a b f g h = anywhere a b (λ x y. subst (λ (i : Instr). Stay i (there y b)) (sym (f x)) (subst (Stay a) (sym (g y)) h))

pub additions_stay : (a b : AddInteger) → StayAnywhere (instrs.AddInteger a ∷ []) (instrs.AddInteger b ∷ [])
additions_stay a b = fixed_stay (instrs.AddInteger a) (instrs.AddInteger b) (fixed (instrs.AddInteger a) (λ s. refl) (λ s. refl) (λ s. refl)) (fixed (instrs.AddInteger b) (λ s. refl) (λ s. refl) (λ s. refl)) (λ later. refl)

pub inclusions_stay : (a b : SetInsert) → StayAnywhere (instrs.SetInsert a ∷ []) (instrs.SetInsert b ∷ [])
inclusions_stay a b = fixed_stay (instrs.SetInsert a) (instrs.SetInsert b) (fixed (instrs.SetInsert a) (λ s. refl) (λ s. refl) (λ s. refl)) (fixed (instrs.SetInsert b) (λ s. refl) (λ s. refl) (λ s. refl)) (λ later. refl)

pub exclusions_stay : (a b : SetErase) → StayAnywhere (instrs.SetErase a ∷ []) (instrs.SetErase b ∷ [])
exclusions_stay a b = fixed_stay (instrs.SetErase a) (instrs.SetErase b) (fixed (instrs.SetErase a) (λ s. refl) (λ s. refl) (λ s. refl)) (fixed (instrs.SetErase b) (λ s. refl) (λ s. refl) (λ s. refl)) (λ later. refl)

pub creations_stay : (a b : CreateObject) → StayAnywhere (instrs.CreateObject a ∷ []) (instrs.CreateObject b ∷ [])
creations_stay a b = fixed_stay (instrs.CreateObject a) (instrs.CreateObject b) (fixed (instrs.CreateObject a) (λ s. refl) (λ s. refl) (λ s. refl)) (fixed (instrs.CreateObject b) (λ s. refl) (λ s. refl) (λ s. refl)) (λ later. refl)

-- ---- lists that are shown by some action
pub shown_stay : (was old is js : List Instr) → IsShown was is → IsShown old js → StayAnywhere was old → (later : Bool) → cross (λ a b. meet a b later) is js ≡ Ok (is, js)
shown_stay was old is js f g h later =
    subst (λ (l : List Instr). cross (λ a b. meet a b later) l js ≡ Ok (l, js)) f.stands
    (subst (λ (l : List Instr). cross (λ a b. meet a b later) (shown f.action was) l ≡ Ok (shown f.action was, l)) g.stands (h f.action g.action later))

pub moved_shown : (was is : List Instr) → IsShown was is → (a : ListAction) → kind_in is ≡ Some (kind_of a) → IsShown was (moved_first a is)
moved_shown was is f a kind = record {
  action = Some a;
  stands = sym (told_written a f.action was (ap kind_in f.stands ∙ kind)) ∙ ap (moved_first a) f.stands;
}

-- ---- as they are where they stand, they meet so
one_kept : {I : Type 0} (x : Option I) (a : I) → kept x ++ [] ≡ a ∷ [] → x ≡ Some a
one_kept None a e = cc
one_kept (Some x) a e = cc

abbrev lefts : {L R M : Type 0} → Result (List L × List R) M → List L
lefts (Ok p) = p.0
lefts (Err e) = []

abbrev rights : {L R M : Type 0} → Result (List L × List R) M → List R
rights (Ok p) = p.1
rights (Err e) = []

pub one_left : {L R M : Type 0} (m : L → R → Result (Option L × Option R) M) (r : Result (Option L × Option R) M) (a : L) (b : R)
    → rowed (met r (λ x. row m x [])) (λ cs. cross m [] cs) ≡ Ok (a ∷ [], b ∷ []) → r ≡ Ok (Some a, Some b)
one_left m (Err e) a b h = cc
one_left m (Ok (None, y)) a b h = λ i. Ok (one_kept None a (ap lefts h) i, one_kept y b (ap rights h) i)
one_left m (Ok (Some x, y)) a b h = λ i. Ok (one_kept (Some x) a (ap lefts h) i, one_kept y b (ap rights h) i)

pub stay_met : (a b : Instr) (later : Bool) → StayAnywhere (a ∷ []) (b ∷ []) → meet a b later ≡ Ok (Some a, Some b)
stay_met a b later h = one_left (λ a b. meet a b later) (meet a b later) a b (h None None later)
