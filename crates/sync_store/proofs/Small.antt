-- What a store holds stays small.
use Rattle.std.specs.Prelude.{◌≡◌, ℕ, zero, suc, ◌+◌, ◌≤◌, Bool, true, false, cond, not, ◌&&◌, ◌||◌, List, [], ◌∷◌, length, is_some, Option, None, Some, refl, slice_set}
use Rattle.std.specs.Option.{option_map, option_map_or, option_and_then, unwrap_or}
use Rattle.std.specs.Ordering.{eq_by_cmp}
use Rattle.std.specs.List.{insert, remove}
use Rattle.std.specs.FinMap as map
use Rattle.std.specs.FinSet as set
use Rattle.std.proofs.Common.{sym, ◌∙◌, ap, subst, arith, eqb-true}
use Rattle.std.proofs.lemmas.Option.{same_Some}
use Rattle.sync_data.specs.Orders.{name_cmp, value_cmp, value_cmp_total, value_cmp_exact}
use Rattle.sync_data.specs.Payload.{key_payload, value_payload}
use Rattle.sync_data.specs.declared.instr.Instr.{Instr}
use Rattle.sync_data.specs.declared.instr.Instr.TheVariants as instrs
use Rattle.sync_data.specs.declared.value.Value.{Value}
use Rattle.sync_data.specs.declared.value.Value.TheVariants as values
use Rattle.sync_data.specs.declared.column.Column.{Column}
use Rattle.sync_data.specs.declared.column.Kind.{Kind}
use Rattle.sync_data.specs.declared.column.Kind.TheVariants as kinds
use Rattle.sync_data.specs.declared.column.Shape.{Shape}
use Rattle.sync_data.specs.declared.column.Shape.TheVariants as shapes
use Rattle.sync_base.specs.After.{added, edited, default_of, default_by, zero_of, after, tables_after}
use Rattle.sync_base.specs.Checks.{act, is_prior}
use Rattle.sync_base.specs.Effects.{ObjectName, CellPath, Edit, Effect, Set, Add, Replace, Insert, Remove, Include, Exclude, Bind, Empty, NewTable, NewColumn, Create, Erase, Change, effect_of}
use Rattle.sync_base.specs.Lemmas.Cells.{touched}
use Rattle.sync_base.specs.Lemmas.Looks.{name_total, name_exact, path_exact}
use Rattle.sync_base.specs.Lemmas.Maps.{tied_is}
use Rattle.sync_base.specs.Lemmas.Places.{acted}
use Rattle.sync_base.specs.Lemmas.Steps.{Found, found, cell-after, clash}
use Rattle.sync_base.specs.Lemmas.Whole.{shaped_of}
use Rattle.sync_base.specs.Merged.{path_cmp, touch, cell_or_default}
use Rattle.sync_base.specs.States.{State, Cell, Cells, One, Many, Members, Dict, IsState, no_state, object_cmp, column_in, has, cell_at}
use Rattle.sync_store.specs.Small.{most_bytes, names_of, IsSmallValue, AreSmall, IsSmallCell, IsSmallState, IsSmallInstr}

-- ---- lists
set_all : (n : ℕ) (xs : List Value) (i : ℕ) (v : Value) → IsSmallValue n v → AreSmall n xs → AreSmall n (slice_set xs i v)
set_all n [] i v k h = tt
set_all n (x ∷ xs) zero v k h = (k, h.1)
set_all n (x ∷ xs) (suc i) v k h = (h.0, set_all n xs i v k h.1)

insert_all : (n : ℕ) (xs : List Value) (i : ℕ) (v : Value) → IsSmallValue n v → AreSmall n xs → AreSmall n (insert xs i v)
insert_all n xs zero v k h = (k, h)
insert_all n [] (suc i) v k h = (k, tt)
insert_all n (x ∷ xs) (suc i) v k h = (h.0, insert_all n xs i v k h.1)

remove_all : (n : ℕ) (xs : List Value) (i : ℕ) → AreSmall n xs → AreSmall n (remove xs i)
remove_all n [] zero h = tt
remove_all n [] (suc i) h = tt
remove_all n (x ∷ xs) zero h = h.1
remove_all n (x ∷ xs) (suc i) h = (h.0, remove_all n xs i h.1)

set_length : (xs : List Value) (i : ℕ) (v : Value) → length (slice_set xs i v) ≤ length xs
set_length [] i v = omega arith
set_length (x ∷ xs) zero v = omega arith
set_length (x ∷ xs) (suc i) v = let h = set_length xs i v in omega arith

insert_length : (xs : List Value) (i : ℕ) (v : Value) → length (insert xs i v) ≤ suc (length xs)
insert_length xs zero v = omega arith
insert_length [] (suc i) v = omega arith
insert_length (x ∷ xs) (suc i) v = let h = insert_length xs i v in omega arith

remove_length : (xs : List Value) (i : ℕ) → length (remove xs i) ≤ length xs
remove_length [] zero = omega arith
remove_length [] (suc i) = omega arith
remove_length (x ∷ xs) zero = omega arith
remove_length (x ∷ xs) (suc i) = let h = remove_length xs i in omega arith

-- ---- an edit that bears few bytes
abbrev IsSmallEdit : ℕ → Edit → Type 0
IsSmallEdit n (Set v) = IsSmallValue n v
IsSmallEdit n (Replace s v) = IsSmallValue n v
IsSmallEdit n (Insert s v) = IsSmallValue n v × (s.prior ≤ 4294967295)
IsSmallEdit n (Include v) = IsSmallValue n v
IsSmallEdit n (Bind k (Some v)) = IsSmallValue (n + length k) v
IsSmallEdit n e = Unit {0}

added_small : (n : ℕ) (m : _) (v : Value) → IsSmallValue n v → IsSmallValue n (added m v)
added_small n m (values.Int k) h = h
added_small n m values.Null h = h
added_small n m (values.Bool b) h = h
added_small n m (values.Text t) h = h
added_small n m (values.Bytes b) h = h
added_small n m (values.Time t) h = h
added_small n m (values.Uuid u) h = h
added_small n m (values.Link t k) h = h

or_else : (b c : Bool) (P : Type 0) → (b ≡ true → P) → (c ≡ true → P) → (b || c) ≡ true → P
or_else true c P g h k = g refl
or_else false c P g h k = h k

second_of : (b c : Bool) → (b && c) ≡ true → c ≡ true
second_of true c h = h
second_of false c h = cc

edited_small : (n : ℕ) (e : Edit) (x : Cell) → IsSmallEdit n e → is_prior e x ≡ true → IsSmallCell n x → IsSmallCell n (edited e x)
edited_small n (Set v) (One w) g p h = g
edited_small n (Add m) (One w) g p h = added_small n m w h
edited_small n (Replace s v) (Many xs) g p h = (let l = set_length xs s.place v in let k = h.0 in omega arith, set_all n xs s.place v g h.1)
edited_small n (Insert s v) (Many xs) g p h =
    (let l = insert_length xs s.place v in let k = eqb-true s.prior (length xs) p in let m = g.1 in omega arith, insert_all n xs s.place v g.0 h.1)
edited_small n (Remove s) (Many xs) g p h = (let l = remove_length xs s.place in let k = h.0 in omega arith, remove_all n xs s.place h.1)
edited_small n (Include v) (Members xs) g p h = λ w k.
    or_else (eq_by_cmp value_cmp w v) (set.contains xs w) (IsSmallValue n w) (λ e. subst (IsSmallValue n) (sym (tied_is value_cmp_exact w v e)) g) (h w) (sym (set.contains-insert value_cmp_total xs v w) ∙ k)
edited_small n (Exclude v) (Members xs) g p h = λ w k. h w (second_of (not (eq_by_cmp value_cmp w v)) (set.contains xs w) (sym (set.contains-remove value_cmp_total xs v w) ∙ k))
edited_small n (Bind k (Some v)) (Dict m) g p h = λ q w e.
    elim (eq_by_cmp name_cmp q k) as (λ b. eq_by_cmp name_cmp q k ≡ b → cond b (Some v) (map.get m q) ≡ Some w → IsSmallValue (n + length q) w) [
      | true ↦ λ t y. subst (λ j. IsSmallValue (n + length j) w) (sym (tied_is name_exact q k t)) (subst (IsSmallValue (n + length k)) (same_Some v w y) g)
      | false ↦ λ _ y. h q w y
    ] refl (sym (map.get-insert name_total m k v q) ∙ e)
edited_small n (Bind k None) (Dict m) g p h = λ q w e.
    elim (eq_by_cmp name_cmp q k) as (λ b. cond b None (map.get m q) ≡ Some w → IsSmallValue (n + length q) w) [ true ↦ λ y. cc | false ↦ λ y. h q w y ] (sym (map.get-remove name_total m k q) ∙ e)
edited_small n Empty (Many xs) g p h = (omega arith, tt)
edited_small n Empty (Members xs) g p h = λ v k. clash (set.contains set.empty v) k (set.contains-empty value_cmp v)
edited_small n Empty (Dict m) g p h = λ q w e. let y : None ≡ Some w = sym (map.get-empty name_cmp q) ∙ e in cc
edited_small n e x g p h = h

-- ---- the default is small
zero_small : (n : ℕ) (k : Kind) → IsSmallValue n (zero_of k)
zero_small n kinds.Int = omega arith
zero_small n kinds.Bool = omega arith
zero_small n kinds.Text = omega arith
zero_small n kinds.Bytes = omega arith
zero_small n kinds.Time = omega arith
zero_small n kinds.Uuid = omega arith
zero_small n (kinds.Link t) = omega arith

null_or_zero : (n : ℕ) (k : Kind) (b : Bool) → IsSmallValue n (cond b values.Null (zero_of k))
null_or_zero n k true = omega arith
null_or_zero n k false = zero_small n k

default_small : (n : ℕ) (shape : Shape) (col : Column) → IsSmallCell n (default_by shape col)
default_small n shapes.One col = null_or_zero n col.kind col.nullable
default_small n shapes.List col = (omega arith, tt)
default_small n shapes.Set col = λ v g. clash (set.contains set.empty v) g (set.contains-empty value_cmp v)
default_small n shapes.Dict col = λ q w e. let y : None ≡ Some w = sym (map.get-empty name_cmp q) ∙ e in cc

-- ---- an instruction
abbrev IsSmallEffect : Effect → Type 0
IsSmallEffect (Change p e) = IsSmallEdit (names_of p.0 p.1) e
IsSmallEffect d = Unit {0}

small_effect : (i : Instr) → IsSmallInstr i → IsSmallEffect (effect_of i)
small_effect (instrs.AddTable i) h = tt
small_effect (instrs.AddColumn i) h = tt
small_effect (instrs.CreateObject i) h = tt
small_effect (instrs.EraseObject i) h = tt
small_effect (instrs.Update i) h = let b = h.0 in omega arith
small_effect (instrs.AddInteger i) h = tt
small_effect (instrs.ListUpdate i) h = let b = h.0 in omega arith
small_effect (instrs.ListInsert i) h = let b = h.0 in (omega arith, h.1)
small_effect (instrs.ListErase i) h = tt
small_effect (instrs.SetInsert i) h = let b = h.0 in omega arith
small_effect (instrs.SetErase i) h = tt
small_effect (instrs.DictUpdate i) h = binding i.value h.0
  where
    binding : (v : Option Value) → length i.cell.table + key_payload i.cell.key + length i.cell.column + length i.at + elim v [ Some w ↦ value_payload w | None ↦ 0 ] ≤ most_bytes → IsSmallEdit (names_of (i.cell.table, i.cell.key) i.cell.column) (Bind i.at v)
    binding (Some w) b = omega arith
    binding None b = tt
small_effect (instrs.Clear i) h = tt

-- ---- a cell afterwards
touched_small : (s : State) (d : Effect) → Found s d → IsSmallEffect d → (o : ObjectName) (c : List ℕ) (x : Cell) → cell_at s o c ≡ Some x → IsSmallCell (names_of o c) x → IsSmallCell (names_of o c) (touched (touch d (o, c)) x)
touched_small s (Change p e) f g o c x at h =
    elim (eq_by_cmp path_cmp (o, c) p) as (λ b. eq_by_cmp path_cmp (o, c) p ≡ b → IsSmallCell (names_of o c) (touched (cond b (Some e) None) x)) [
      | true ↦ λ t.
          let same = tied_is path_exact (o, c) p t in
          let here : cell_at s p.0 p.1 ≡ Some x = ap (λ (q : CellPath). cell_at s q.0 q.1) (sym same) ∙ at in
          edited_small (names_of o c) e x (subst (λ (q : CellPath). IsSmallEdit (names_of q.0 q.1) e) (sym same) g) (sym (ap (λ y. option_map_or (is_prior e) y false) here) ∙ f.prior) h
      | false ↦ λ _. h
    ] refl
touched_small s (NewTable t k) f g o c x at h = h
touched_small s (NewColumn t k def) f g o c x at h = h
touched_small s (Create p) f g o c x at h = h
touched_small s (Erase p) f g o c x at h = h

-- a cell that wasn't there is the default: no edit touches it
absent_small : (s : State) (d : Effect) → Found s d → (o : ObjectName) (c : List ℕ) (x : Cell) → cell_at s o c ≡ None → IsSmallCell (names_of o c) x → IsSmallCell (names_of o c) (touched (touch d (o, c)) x)
absent_small s (Change p e) f o c x at h =
    elim (eq_by_cmp path_cmp (o, c) p) as (λ b. eq_by_cmp path_cmp (o, c) p ≡ b → IsSmallCell (names_of o c) (touched (cond b (Some e) None) x)) [
      | true ↦ λ t.
          let none : cell_at s p.0 p.1 ≡ None = ap (λ (q : CellPath). cell_at s q.0 q.1) (sym (tied_is path_exact (o, c) p t)) ∙ at in
          clash (option_map_or (is_prior e) (cell_at s p.0 p.1) false) f.prior (ap (λ y. option_map_or (is_prior e) y false) none)
      | false ↦ λ _. h
    ] refl
absent_small s (NewTable t k) f o c x at h = h
absent_small s (NewColumn t k def) f o c x at h = h
absent_small s (Create p) f o c x at h = h
absent_small s (Erase p) f o c x at h = h

cell_small : (s : State) (d : Effect) → Found s d → IsSmallEffect d → IsSmallState s → (o : ObjectName) (c : List ℕ) (col : Column) → IsSmallCell (names_of o c) (touched (touch d (o, c)) (cell_or_default s o c col))
cell_small s d f g ok o c col =
    elim (cell_at s o c) as (λ x. cell_at s o c ≡ x → IsSmallCell (names_of o c) (touched (touch d (o, c)) (unwrap_or x (default_of col)))) [
      | Some x ↦ λ e. touched_small s d f g o c x e (ok o c x e)
      | None ↦ λ e. absent_small s d f o c (default_of col) e (default_small (names_of o c) col.shape col)
    ] refl

cell_of_object : (s : State) (o : ObjectName) (c : List ℕ) (x : Cell) → cell_at s o c ≡ Some x → has s o ≡ true
cell_of_object s o c x h =
    elim (map.get s.objects o) as (λ y. option_and_then (λ (m : Cells). map.get m c) y ≡ Some x → is_some y ≡ true) [ None ↦ λ g. cc | Some y ↦ λ _. refl ] h

mapped_small : (n : ℕ) (f : Column → Cell) → ((k : Column) → IsSmallCell n (f k)) → (o : Option Column) (x : Cell) → option_map f o ≡ Some x → IsSmallCell n x
mapped_small n f h None x e = cc
mapped_small n f h (Some k) x e = subst (IsSmallCell n) (same_Some (f k) x e) (h k)

small_after : (s : State) → IsState s → IsSmallState s → (d : Effect) → Found s d → IsSmallEffect d → IsSmallState (after s d)
small_after s is ok d f g o c x e =
    mapped_small (names_of o c) (λ k. touched (touch d (o, c)) (cell_or_default s o c k)) (cell_small s d f g ok o c) (column_in (tables_after d s.tables) o.0 c) x
    (sym (cell-after s (shaped_of s is) d f o c (cell_of_object (after s d) o c x e)) ∙ e)

pub stays_small : (i : Instr) (s t : State) → IsState s → IsSmallInstr i → IsSmallState s → act i s ≡ Some t → IsSmallState t
stays_small i s t is h ok e =
    let a = acted (effect_of i) s t e in
    subst IsSmallState a.gives (small_after s is ok (effect_of i) (found s (effect_of i) a.acts) (small_effect i h))

pub empty_small : IsSmallState no_state
empty_small o c x e = let g : None ≡ Some x = sym (ap (option_and_then (λ (m : Cells). map.get m c)) (map.get-empty object_cmp o)) ∙ e in cc
