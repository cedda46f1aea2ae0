-- The rest of what a state keeps: keys of their kinds, sound columns, values that fit.
use Rattle.std.specs.Prelude.{◌≡◌, ℕ, zero, suc, Bool, true, false, cond, not, ◌&&◌, ◌||◌, List, [], ◌∷◌, is_some, Option, None, Some, refl, slice_set}
use Rattle.std.specs.Option.{option_map, option_and_then, unwrap_or}
use Rattle.std.specs.Ordering.{eq_by_cmp}
use Rattle.std.specs.List.{insert, remove}
use Rattle.std.specs.FinMap as map
use Rattle.std.specs.FinSet as set
use Rattle.std.proofs.Common.{sym, ◌∙◌, ap, subst}
use Rattle.std.proofs.lemmas.Option.{same_Some}
use Rattle.sync_base.specs.After.{edited, default_of, zero_of, tables_after, after}
use Rattle.sync_base.specs.Checks.{edit_fits, column_check}
use Rattle.sync_base.specs.Effects.{ObjectName, CellPath, Edit, Effect, Set, Add, Replace, Insert, Remove, Include, Exclude, Bind, Empty, NewTable, NewColumn, Create, Erase, Change}
use Rattle.sync_base.specs.Lemmas.Cells.{column-after, touched}
use Rattle.sync_base.specs.Lemmas.Edits.{added_fits}
use Rattle.sync_base.specs.Lemmas.Looks.{name_total, object_exact, path_exact, has-after}
use Rattle.sync_base.specs.Lemmas.Maps.{tied_is}
use Rattle.sync_base.specs.Lemmas.Shaped.{IsShaped}
use Rattle.sync_base.specs.Lemmas.Stays.{key_stays, fits_stays}
use Rattle.sync_base.specs.Lemmas.Steps.{Found, cell-after, table_stays, column_stays, clash, some_is}
use Rattle.sync_base.specs.Merged.{path_cmp, touch, cell_or_default}
use Rattle.sync_base.specs.States.{Each, CellFits, State, Table, Cell, Cells, One, Many, Members, Dict, object_cmp, column_in, has, cell_at, Tables, is_key_of, is_of, is_null, fits, is_sound_column, has_target, is_link}
use Rattle.sync_data.specs.Orders.{name_cmp, value_cmp, value_cmp_total, value_cmp_exact}
use Rattle.sync_data.specs.declared.value.Value.{Value}
use Rattle.sync_data.specs.declared.value.Value.TheVariants as values
use Rattle.sync_data.specs.declared.column.Column.{Column}
use Rattle.sync_data.specs.declared.column.Kind.{Kind}
use Rattle.sync_data.specs.declared.column.Kind.TheVariants as kinds
use Rattle.sync_data.specs.declared.column.Shape.{Shape}
use Rattle.sync_data.specs.declared.column.Shape.TheVariants as shapes

pub record IsSound (s : State) : Type 0 where
  pub keyed : (o : ObjectName) → has s o ≡ true → is_key_of s.tables o.0 o.1 ≡ true
  pub columns : (t c : List ℕ) (col : Column) → column_in s.tables t c ≡ Some col → (is_sound_column col ≡ true) × (has_target s.tables col.kind ≡ true)
  pub fitting : (o : ObjectName) (c : List ℕ) (x : Cell) (col : Column) → cell_at s o c ≡ Some x → column_in s.tables o.0 c ≡ Some col → CellFits s.tables col x

-- ---- lists
each_mono : (p q : Value → Bool) → ((v : Value) → p v ≡ true → q v ≡ true) → (xs : List Value) → Each p xs → Each q xs
each_mono p q g [] h = tt
each_mono p q g (x ∷ xs) h = (g x h.0, each_mono p q g xs h.1)

each_set : (p : Value → Bool) (xs : List Value) (i : ℕ) (v : Value) → p v ≡ true → Each p xs → Each p (slice_set xs i v)
each_set p [] i v k h = tt
each_set p (x ∷ xs) zero v k h = (k, h.1)
each_set p (x ∷ xs) (suc i) v k h = (h.0, each_set p xs i v k h.1)

each_insert : (p : Value → Bool) (xs : List Value) (i : ℕ) (v : Value) → p v ≡ true → Each p xs → Each p (insert xs i v)
each_insert p xs zero v k h = (k, h)
each_insert p [] (suc i) v k h = (k, tt)
each_insert p (x ∷ xs) (suc i) v k h = (h.0, each_insert p xs i v k h.1)

each_remove : (p : Value → Bool) (xs : List Value) (i : ℕ) → Each p xs → Each p (remove xs i)
each_remove p [] zero h = tt
each_remove p [] (suc i) h = tt
each_remove p (x ∷ xs) zero h = h.1
each_remove p (x ∷ xs) (suc i) h = (h.0, each_remove p xs i h.1)

-- ---- a cell that fits still fits
cell_stays_fit : (s : State) (d : Effect) → Found s d → (col : Column) (x : Cell) → CellFits s.tables col x → CellFits (tables_after d s.tables) col x
cell_stays_fit s d f col (One v) h = fits_stays s d f col v h
cell_stays_fit s d f col (Many xs) h = each_mono (fits s.tables col) (fits (tables_after d s.tables) col) (fits_stays s d f col) xs h
cell_stays_fit s d f col (Dict m) h = λ k v e. fits_stays s d f col v (h k v e)
cell_stays_fit s d f col (Members xs) h = λ v k. fits_stays s d f col v (h v k)

or_else : (b c : Bool) (P : Type 0) → (b ≡ true → P) → (c ≡ true → P) → (b || c) ≡ true → P
or_else true c P g h k = g refl
or_else false c P g h k = h k

second_of : (b c : Bool) → (b && c) ≡ true → c ≡ true
second_of true c h = h
second_of false c h = cc

edited_fits : (ts : Tables) (col : Column) (e : Edit) (x : Cell) → edit_fits ts col e ≡ true → CellFits ts col x → CellFits ts col (edited e x)
edited_fits ts col (Set v) (One w) g h = g
edited_fits ts col (Add n) (One w) g h = added_fits ts col n w h
edited_fits ts col (Replace s v) (Many xs) g h = each_set (fits ts col) xs s.place v g h
edited_fits ts col (Insert s v) (Many xs) g h = each_insert (fits ts col) xs s.place v g h
edited_fits ts col (Remove s) (Many xs) g h = each_remove (fits ts col) xs s.place h
edited_fits ts col (Include v) (Members xs) g h = λ w k.
    or_else (eq_by_cmp value_cmp w v) (set.contains xs w) (fits ts col w ≡ true) (λ e. ap (fits ts col) (tied_is value_cmp_exact w v e) ∙ g) (h w) (sym (set.contains-insert value_cmp_total xs v w) ∙ k)
edited_fits ts col (Exclude v) (Members xs) g h = λ w k. h w (second_of (not (eq_by_cmp value_cmp w v)) (set.contains xs w) (sym (set.contains-remove value_cmp_total xs v w) ∙ k))
edited_fits ts col (Bind k (Some v)) (Dict m) g h = λ q w e.
    elim (eq_by_cmp name_cmp q k) as (λ b. cond b (Some v) (map.get m q) ≡ Some w → fits ts col w ≡ true) [ true ↦ λ y. ap (fits ts col) (sym (same_Some v w y)) ∙ g | false ↦ λ y. h q w y ] (sym (map.get-insert name_total m k v q) ∙ e)
edited_fits ts col (Bind k None) (Dict m) g h = λ q w e.
    elim (eq_by_cmp name_cmp q k) as (λ b. cond b None (map.get m q) ≡ Some w → fits ts col w ≡ true) [ true ↦ λ y. cc | false ↦ λ y. h q w y ] (sym (map.get-remove name_total m k q) ∙ e)
edited_fits ts col Empty (Many xs) g h = tt
edited_fits ts col Empty (Members xs) g h = λ v k. clash (set.contains set.empty v) k (set.contains-empty value_cmp v)
edited_fits ts col Empty (Dict m) g h = λ q w e. let y : None ≡ Some w = sym (map.get-empty name_cmp q) ∙ e in cc
edited_fits ts col e x g h = h

-- ---- the default fits
zero_fits : (ts : Tables) (k : Kind) → is_link k ≡ false → (is_null (zero_of k) ≡ false) × (is_of ts k (zero_of k) ≡ true)
zero_fits ts (kinds.Link t) h = cc
zero_fits ts kinds.Int h = (refl, refl)
zero_fits ts kinds.Bool h = (refl, refl)
zero_fits ts kinds.Text h = (refl, refl)
zero_fits ts kinds.Bytes h = (refl, refl)
zero_fits ts kinds.Time h = (refl, refl)
zero_fits ts kinds.Uuid h = (refl, refl)

one_fits : (ts : Tables) (k : Kind) (n : Bool) → cond (is_link k) n true ≡ true → fits ts (record { kind = k; nullable = n; shape = shapes.One }) (cond n values.Null (zero_of k)) ≡ true
one_fits ts k true h = refl
one_fits ts k false h =
    elim (is_link k) as (λ b. is_link k ≡ b → cond b false true ≡ true → cond (is_null (zero_of k)) false (is_of ts k (zero_of k)) ≡ true) [
      | true ↦ λ _ g. cc
      | false ↦ λ e _. let z = zero_fits ts k e in ap (λ b. cond b false (is_of ts k (zero_of k))) z.0 ∙ z.1
    ] refl h

default_fits : (ts : Tables) (k : Kind) (n : Bool) (shape : Shape) → is_sound_column (record { kind = k; nullable = n; shape = shape }) ≡ true → CellFits ts (record { kind = k; nullable = n; shape = shape }) (default_of (record { kind = k; nullable = n; shape = shape }))
default_fits ts k n shapes.One h = one_fits ts k n h
default_fits ts k n shapes.List h = tt
default_fits ts k n shapes.Dict h = λ q w e. let y : None ≡ Some w = sym (map.get-empty name_cmp q) ∙ e in cc
default_fits ts k n shapes.Set h = λ v g. clash (set.contains set.empty v) g (set.contains-empty value_cmp v)

-- ---- the columns after an instruction
grown_target : (s : State) (d : Effect) (k : Kind) → has_target s.tables k ≡ true → has_target (tables_after d s.tables) k ≡ true
grown_target s d (kinds.Link t) h = table_stays s.tables d t h
grown_target s d k h = h

abbrev SoundAt : Tables → Column → Type 0
SoundAt ts col = (is_sound_column col ≡ true) × (has_target ts col.kind ≡ true)

columns-after : (s : State) → IsSound s → (d : Effect) → Found s d → (t c : List ℕ) (col : Column) → column_in (tables_after d s.tables) t c ≡ Some col → SoundAt (tables_after d s.tables) col
columns-after s so (NewTable u k) f t c col h =
    let new : Table = record { key = k; columns = map.empty } in
    let old : option_and_then (λ y. map.get y.columns c) (cond (eq_by_cmp name_cmp t u) (Some new) (map.get s.tables t)) ≡ Some col = ap (option_and_then (λ y. map.get y.columns c)) (sym (map.get-insert name_total s.tables u new t)) ∙ h in
    elim (eq_by_cmp name_cmp t u) as (λ b. option_and_then (λ y. map.get y.columns c) (cond b (Some new) (map.get s.tables t)) ≡ Some col → SoundAt (tables_after (NewTable u k) s.tables) col) [
      | true ↦ λ g. let e : None ≡ Some col = sym (map.get-empty name_cmp c) ∙ g in cc
      | false ↦ λ g. let r = so.columns t c col g in (r.0, grown_target s (NewTable u k) col.kind r.1)
    ] old
columns-after s so (NewColumn u d def) f t c col h =
    elim (eq_by_cmp name_cmp t u && eq_by_cmp name_cmp c d) as (λ b. cond b (Some def) (column_in s.tables t c) ≡ Some col → SoundAt (tables_after (NewColumn u d def) s.tables) col) [
      | true ↦ λ g. let e : def ≡ col = same_Some def col g in subst (SoundAt (tables_after (NewColumn u d def) s.tables)) e (f.sound, grown_target s (NewColumn u d def) def.kind f.target)
      | false ↦ λ g. let r = so.columns t c col g in (r.0, grown_target s (NewColumn u d def) col.kind r.1)
    ] (sym (column-after s.tables u d def t c f.there) ∙ h)
columns-after s so (Create o) f t c col h = so.columns t c col h
columns-after s so (Erase o) f t c col h = so.columns t c col h
columns-after s so (Change p e) f t c col h = so.columns t c col h

-- ---- the cells after an instruction
cell_of_object : (s : State) (o : ObjectName) (c : List ℕ) (x : Cell) → cell_at s o c ≡ Some x → has s o ≡ true
cell_of_object s o c x h =
    elim (map.get s.objects o) as (λ y. option_and_then (λ (m : Cells). map.get m c) y ≡ Some x → is_some y ≡ true) [ None ↦ λ g. cc | Some y ↦ λ _. refl ] h

raw_fits : (s : State) → IsShaped s → IsSound s → (d : Effect) → Found s d → (o : ObjectName) (c : List ℕ) (col : Column) → column_in (tables_after d s.tables) o.0 c ≡ Some col → CellFits (tables_after d s.tables) col (cell_or_default s o c col)
raw_fits s ok so d f o c col h =
    elim (cell_at s o c) as (λ x. cell_at s o c ≡ x → CellFits (tables_after d s.tables) col (unwrap_or x (default_of col))) [
      | None ↦ λ _. default_fits (tables_after d s.tables) col.kind col.nullable col.shape (columns-after s so d f o.0 c col h).0
      | Some y ↦ λ e.
          let old : (k : Column) × (column_in s.tables o.0 c ≡ Some k) = some_is (column_in s.tables o.0 c) (sym (ok.filled o c (cell_of_object s o c y e)) ∙ ap is_some e) in
          let same : old.0 ≡ col = same_Some old.0 col (sym (column_stays s d f o.0 c old.0 old.1) ∙ h) in
          cell_stays_fit s d f col y (so.fitting o c y col e (old.1 ∙ ap Some same))
    ] refl

check_at : (p : Column → Bool) (x : Option Column) (c : Column) → x ≡ Some c → column_check p x ≡ true → p c ≡ true
check_at p x c e h = sym (ap (column_check p) e) ∙ h

touched_fits : (s : State) (d : Effect) → Found s d → (o : ObjectName) (c : List ℕ) (col : Column) (x : Cell) → column_in (tables_after d s.tables) o.0 c ≡ Some col → CellFits (tables_after d s.tables) col x → CellFits (tables_after d s.tables) col (touched (touch d (o, c)) x)
touched_fits s (Change p e) f o c col x h g =
    elim (eq_by_cmp path_cmp (o, c) p) as (λ b. eq_by_cmp path_cmp (o, c) p ≡ b → CellFits s.tables col (touched (cond b (Some e) None) x)) [
      | true ↦ λ t.
          let here : column_in s.tables p.0.0 p.1 ≡ Some col = ap (λ (q : CellPath). column_in s.tables q.0.0 q.1) (sym (tied_is path_exact (o, c) p t)) ∙ h in
          edited_fits s.tables col e x (check_at (λ k. edit_fits s.tables k e) _ col here f.value) g
      | false ↦ λ _. g
    ] refl
touched_fits s (NewTable t k) f o c col x h g = g
touched_fits s (NewColumn t k def) f o c col x h g = g
touched_fits s (Create p) f o c col x h g = g
touched_fits s (Erase p) f o c col x h g = g

stood_key : (s : State) → IsSound s → (d : Effect) → Found s d → (o : ObjectName) → has (after s d) o ≡ true → is_key_of s.tables o.0 o.1 ≡ true
stood_key s so (NewTable t k) f o h = so.keyed o h
stood_key s so (NewColumn t c def) f o h = so.keyed o (sym (has-after s (NewColumn t c def) o) ∙ h)
stood_key s so (Create p) f o h =
    elim (eq_by_cmp object_cmp o p) as (λ b. eq_by_cmp object_cmp o p ≡ b → (b || has s o) ≡ true → is_key_of s.tables o.0 o.1 ≡ true) [
      | true ↦ λ e _. ap (λ (q : ObjectName). is_key_of s.tables q.0 q.1) (tied_is object_exact o p e) ∙ f.key
      | false ↦ λ _ g. so.keyed o g
    ] refl (sym (has-after s (Create p) o) ∙ h)
stood_key s so (Erase p) f o h = so.keyed o (second_of (not (eq_by_cmp object_cmp o p)) (has s o) (sym (has-after s (Erase p) o) ∙ h))
stood_key s so (Change p e) f o h = so.keyed o (sym (has-after s (Change p e) o) ∙ h)

-- a state stays sound
pub sound-after : (s : State) → IsShaped s → IsSound s → (d : Effect) → Found s d → IsSound (after s d)
sound-after s ok so d f = record {
  keyed = λ o h. key_stays s d f o.0 o.1 (stood_key s so d f o h);
  columns = columns-after s so d f;
  fitting = λ o c x col e h.
      let is : Some x ≡ Some (touched (touch d (o, c)) (cell_or_default s o c col)) = sym e ∙ cell-after s ok d f o c (cell_of_object (after s d) o c x e) ∙ ap (option_map (λ k. touched (touch d (o, c)) (cell_or_default s o c k))) h in
      subst (CellFits (tables_after d s.tables) col) (sym (same_Some x _ is)) (touched_fits s d f o c col (cell_or_default s o c col) h (raw_fits s ok so d f o c col h));
}
