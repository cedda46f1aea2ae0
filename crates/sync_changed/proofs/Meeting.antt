-- What is left of an instruction may change the same place.
use Rattle.std.specs.Prelude.{◌≡◌, ℕ, ◌-◌, Bool, true, false, cond, ◌&&◌, ◌==◌, Option, None, Some, Ok, Err, IfOk, refl}
use Rattle.std.specs.Option.{option_map}
use Rattle.std.specs.Ordering.{eq_by_cmp}
use Rattle.std.proofs.Common.{sym, ◌∙◌, ap, subst}
use Rattle.sync_data.specs.Orders.{name_cmp}
use Rattle.sync_data.specs.declared.instr.CellName.{CellName}
use Rattle.sync_data.specs.declared.instr.Instr.{Instr}
use Rattle.sync_base.specs.declared.answers.Mismatch.{Mismatch}
use Rattle.sync_base.specs.Effects.{cell_name, CellPath, Edit, Effect, Set, Add, Replace, Insert, Remove, Include, Exclude, Bind, Empty, NewTable, NewColumn, Create, Erase, Change, effect_of, instr_of}
use Rattle.sync_base.specs.Footprints.{Part, TableAt, ColumnAt, ObjectAt, CellAt, changes}
use Rattle.sync_base.specs.Lemmas.Apart.{changes_there, changes_apart}
use Rattle.sync_base.specs.Lemmas.Looks.{path_exact}
use Rattle.sync_base.specs.Lemmas.Maps.{tied_is}
use Rattle.sync_base.specs.Lemmas.Whole.{effect-instr}
use Rattle.sync_base.specs.Merged.{path_cmp, same_column}
use Rattle.sync_base.specs.Rules.{Answer, rule, rule_of_edits, kept, neither, only_right, only_left, lifted, placed, outcome_of}
use Rattle.sync_base.specs.States.{object_cmp, key_rank_of}
use Rattle.sync_law.specs.Coded.{coded, meet_by_code}
use Rattle.sync_law.specs.Instrs.{as_pair}
use Rattle.sync_changed.specs.declared.place.Place.{Place}
use Rattle.sync_changed.specs.declared.place.Place.TheVariants as places
use Rattle.sync_changed.specs.Places.{covers, edit_place, place_of, told_place}

-- an instruction changes what its place covers
pub changes_covers : (d : Effect) (x : Part) → changes d x ≡ covers (place_of d) x
changes_covers (NewTable t k) (TableAt u) = refl
changes_covers (NewTable t k) (ColumnAt u c) = refl
changes_covers (NewTable t k) (ObjectAt o) = refl
changes_covers (NewTable t k) (CellAt q) = refl
changes_covers (NewColumn t c def) (TableAt u) = refl
changes_covers (NewColumn t c def) (ColumnAt u d) = refl
changes_covers (NewColumn t c def) (ObjectAt o) = refl
changes_covers (NewColumn t c def) (CellAt q) = refl
changes_covers (Create o) (TableAt u) = refl
changes_covers (Create o) (ColumnAt u c) = refl
changes_covers (Create o) (ObjectAt p) = refl
changes_covers (Create o) (CellAt q) = refl
changes_covers (Erase o) (TableAt u) = refl
changes_covers (Erase o) (ColumnAt u c) = refl
changes_covers (Erase o) (ObjectAt p) = refl
changes_covers (Erase o) (CellAt q) = refl
changes_covers (Change p e) (TableAt u) = refl
changes_covers (Change p e) (ColumnAt u c) = refl
changes_covers (Change p e) (ObjectAt o) = refl
changes_covers (Change p e) (CellAt q) = refl

-- with the elements of its lists it covers as much
elements_cover : (c : CellName) (front back : ℕ) (x : Part) → covers (places.Elements c front back) x ≡ covers (places.Cell c) x
elements_cover c front back (TableAt u) = refl
elements_cover c front back (ColumnAt u d) = refl
elements_cover c front back (ObjectAt o) = refl
elements_cover c front back (CellAt q) = refl

edit_covers : (p : CellPath) (e : Edit) (x : Part) → covers (edit_place p e) x ≡ covers (places.Cell (cell_name p)) x
edit_covers p (Replace s v) x = elements_cover (cell_name p) s.place (s.prior - s.place - 1) x
edit_covers p (Insert s v) x = elements_cover (cell_name p) s.place (s.prior - s.place) x
edit_covers p (Remove s) x = elements_cover (cell_name p) s.place (s.prior - s.place - 1) x
edit_covers p (Set v) x = refl
edit_covers p (Add n) x = refl
edit_covers p (Include v) x = refl
edit_covers p (Exclude v) x = refl
edit_covers p (Bind k v) x = refl
edit_covers p Empty x = refl

pub told_covers : (exact : Bool) (d : Effect) (x : Part) → covers (told_place exact d) x ≡ covers (place_of d) x
told_covers true (Change p e) x = edit_covers p e x
told_covers true (NewTable t k) x = refl
told_covers true (NewColumn t c def) x = refl
told_covers true (Create o) x = refl
told_covers true (Erase o) x = refl
told_covers false d x = refl

-- ---- the right side of a pair
abbrev IsAt : Place → Option Effect → Type 0
IsAt place None = Unit {0}
IsAt place (Some d) = place_of d ≡ place

record Stays (place : Place) (m : Answer Effect) : Type 0 where
  right : IfOk m (λ o. IsAt place o.right)

either : (place : Place) (b : Bool) (m n : Answer Effect) → Stays place m → Stays place n → Stays place (cond b m n)
either place true m n g h = g
either place false m n g h = h

both : (a b : Effect) → Stays (place_of b) (kept a b)
both a b = record { right = refl }

gone : (place : Place) (a : Effect) → Stays place (only_left a)
gone place a = record { right = tt }

all_gone : (place : Place) → Stays place neither
all_gone place = record { right = tt }

refused : (place : Place) (m : Mismatch) → Stays place (Err m)
refused place m = record { right = tt }

alone : (b : Effect) → Stays (place_of b) (only_right b)
alone b = record { right = refl }

lifted_stays : (p q : CellPath) (f : Edit) → p ≡ q → (m : Answer Edit) → Stays (place_of (Change q f)) (lifted p m)
lifted_stays p q f same (Err m) = refused _ m
lifted_stays p q f same (Ok o) = record { right = there o.right }
  where
    there : (e : Option Edit) → IsAt (place_of (Change q f)) (placed p e)
    there None = tt
    there (Some e) = ap (λ r. place_of (Change r f)) same

stays : (l : Bool) (a b : Effect) → Stays (place_of b) (rule l a b)
stays l (NewTable t k) (NewTable u j) =
    either _ (eq_by_cmp name_cmp t u) _ _ (either _ (key_rank_of k == key_rank_of j) _ _ (all_gone (place_of (NewTable u j))) (record { right = tt })) (both (NewTable t k) (NewTable u j))
stays l (NewColumn t c x) (NewColumn u d y) =
    either _ (eq_by_cmp name_cmp t u && eq_by_cmp name_cmp c d) _ _ (either _ (same_column x y) _ _ (all_gone (place_of (NewColumn u d y))) (record { right = tt })) (both (NewColumn t c x) (NewColumn u d y))
stays l (Create o) (Erase p) = either _ (eq_by_cmp object_cmp o p) _ _ (alone (Erase p)) (both (Create o) (Erase p))
stays l (Erase o) (Create p) = either _ (eq_by_cmp object_cmp o p) _ _ (gone (place_of (Create p)) (Erase o)) (both (Erase o) (Create p))
stays l (Erase o) (Erase p) = either _ (eq_by_cmp object_cmp o p) _ _ (all_gone (place_of (Erase p))) (both (Erase o) (Erase p))
stays l (Erase o) (Change q e) = either _ (eq_by_cmp object_cmp o q.0) _ _ (gone (place_of (Change q e)) (Erase o)) (both (Erase o) (Change q e))
stays l (Change q e) (Erase o) = either _ (eq_by_cmp object_cmp q.0 o) _ _ (alone (Erase o)) (both (Change q e) (Erase o))
stays l (Change p e) (Change q f) =
    elim (eq_by_cmp path_cmp p q) as (λ b. eq_by_cmp path_cmp p q ≡ b → Stays (place_of (Change q f)) (rule l (Change p e) (Change q f))) [
      | true ↦ λ h.
          let same : p ≡ q = tied_is path_exact p q h in
          subst (Stays (place_of (Change q f))) (sym (changes_there l p q e f h same)) (lifted_stays p q f same (rule_of_edits l e f))
      | false ↦ λ h. subst (Stays (place_of (Change q f))) (sym (changes_apart l p q e f h)) (both (Change p e) (Change q f))
    ] refl
stays l (NewTable t k) (NewColumn u d y) = both (NewTable t k) (NewColumn u d y)
stays l (NewTable t k) (Create p) = both (NewTable t k) (Create p)
stays l (NewTable t k) (Erase p) = both (NewTable t k) (Erase p)
stays l (NewTable t k) (Change q f) = both (NewTable t k) (Change q f)
stays l (NewColumn t c x) (NewTable u j) = both (NewColumn t c x) (NewTable u j)
stays l (NewColumn t c x) (Create p) = both (NewColumn t c x) (Create p)
stays l (NewColumn t c x) (Erase p) = both (NewColumn t c x) (Erase p)
stays l (NewColumn t c x) (Change q f) = both (NewColumn t c x) (Change q f)
stays l (Create o) (NewTable u j) = both (Create o) (NewTable u j)
stays l (Create o) (NewColumn u d y) = both (Create o) (NewColumn u d y)
stays l (Create o) (Create p) = both (Create o) (Create p)
stays l (Create o) (Change q f) = both (Create o) (Change q f)
stays l (Erase o) (NewTable u j) = both (Erase o) (NewTable u j)
stays l (Erase o) (NewColumn u d y) = both (Erase o) (NewColumn u d y)
stays l (Change q e) (NewTable u j) = both (Change q e) (NewTable u j)
stays l (Change q e) (NewColumn u d y) = both (Change q e) (NewColumn u d y)
stays l (Change q e) (Create p) = both (Change q e) (Create p)

-- ---- and so for a part that it leaves
abbrev pub Leaves : Part → Instr → Type 0
Leaves x i = changes (effect_of i) x ≡ false

abbrev pub LeavesIf : Part → Option Instr → Type 0
LeavesIf x None = Unit {0}
LeavesIf x (Some i) = Leaves x i

left_alone : (x : Part) (b : Effect) → changes b x ≡ false → (d : Option Effect) → IsAt (place_of b) d → LeavesIf x (option_map instr_of d)
left_alone x b h None at = tt
left_alone x b h (Some d) at = ap (λ e. changes e x) (effect-instr d) ∙ changes_covers d x ∙ ap (λ place. covers place x) at ∙ sym (changes_covers b x) ∙ h

by_code : (x : Part) (b : Effect) (m : Answer Effect) → changes b x ≡ false → IfOk m (λ o. IsAt (place_of b) o.right) → IfOk (coded (as_pair (outcome_of m))) (λ o. LeavesIf x o.1)
by_code x b (Err m) h s = tt
by_code x b (Ok o) h s = left_alone x b h o.right s

pub meets : (x : Part) (a b : Instr) (later : Bool) → Leaves x b → IfOk (meet_by_code a b later) (λ o. LeavesIf x o.1)
meets x a b later h = by_code x (effect_of b) (rule later (effect_of a) (effect_of b)) h (stays later (effect_of a) (effect_of b)).right
