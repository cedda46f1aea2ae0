-- What was done to a state and is taken back is taken back.
use Rattle.std.specs.Prelude.{◌≡◌, ℕ, Bool, true, false, not, if◌then◌else◌, List, [], ◌∷◌, Option, None, Some, is_some, refl}
use Rattle.std.specs.Option.{option_map, option_and_then}
use Rattle.std.specs.Ordering.{eq_by_cmp}
use Rattle.std.specs.FinMap as map
use Rattle.std.proofs.Common.{sym, ◌∙◌, ap}
use Rattle.sync_data.specs.declared.key.KeyKind.{KeyKind}
use Rattle.sync_data.specs.declared.column.Column.{Column}
use Rattle.sync_base.specs.declared.answers.Break.{Break}
use Rattle.sync_base.specs.declared.answers.Break.TheVariants as breaks
use Rattle.sync_base.specs.After.{tables_after, with_column, with_default, default_of}
use Rattle.sync_base.specs.Checks.{break_of, first_failed}
use Rattle.sync_base.specs.Effects.{ObjectName, NewTable, NewColumn}
use Rattle.sync_base.specs.Lemmas.Looks.{name_total, name_exact, object_total, object_exact}
use Rattle.sync_base.specs.Lemmas.Maps.{get-map_with, tied_is}
use Rattle.sync_base.specs.Maps.{map_with}
use Rattle.sync_base.specs.States.{State, Table, Tables, Cells, IsState, column_in, is_sound_column, has_target}
use Rattle.sync_data.specs.Orders.{name_cmp}
use Rattle.sync_maps.specs.Seen.{at_key, at_found, at_absent, insert_same, insert_again, insert_removed, remove_absent, remove_inserted, get-put}
use Rattle.sync_schema.specs.Steps.{tables_without_column, without_column}
use Rattle.sync_store.specs.Flat.{Objects, without_cell}

-- ---- what an instruction that acts has found
pub none_of : {X : Type 0} (x : Option X) → is_some x ≡ false → x ≡ None
none_of None e = refl
none_of (Some x) e = cc

some_of : {X : Type 0} (x : Option X) → is_some x ≡ true → (y : X) × (x ≡ Some y)
some_of None e = cc
some_of (Some y) e = (y, refl)

not_some : {X : Type 0} (x : Option X) → (if not (is_some x) then None else Some breaks.TableExists) ≡ None → x ≡ None
not_some None e = refl
not_some (Some x) e = cc

pub table_absent : (s : State) (t : List ℕ) (k : KeyKind) → break_of s (NewTable t k) ≡ None → map.get s.tables t ≡ None
table_absent s t k e = not_some (map.get s.tables t) e

first_is : (a : Bool) (b : Break) (cs : List (Bool × Break)) → first_failed ((a, b) ∷ cs) ≡ None → (a ≡ true) × (first_failed cs ≡ None)
first_is true b cs e = (refl, e)
first_is false b cs e = cc

not_false : (a : Bool) → not a ≡ true → a ≡ false
not_false true e = cc
not_false false e = refl

-- the table stands, and has no such column
pub column_absent : (s : State) (t c : List ℕ) (def : Column) → break_of s (NewColumn t c def) ≡ None → (is_some (map.get s.tables t) ≡ true) × (is_some (column_in s.tables t c) ≡ false)
column_absent s t c def e =
    let rest = (is_sound_column def, breaks.BadColumn) ∷ (has_target s.tables def.kind, breaks.NoTable) ∷ [] in
    let there = first_is (is_some (map.get s.tables t)) breaks.NoTable ((not (is_some (column_in s.tables t c)), breaks.ColumnExists) ∷ rest) e in
    let free = first_is (not (is_some (column_in s.tables t c))) breaks.ColumnExists rest there.1 in
    (there.0, not_false (is_some (column_in s.tables t c)) free.0)

-- ---- tables
pub table_back : (m : Tables) (t : List ℕ) (x : Table) → map.get m t ≡ None → map.remove (map.insert m t x) t ≡ m
table_back m t x e = remove_inserted name_total name_exact m t x ∙ remove_absent name_total name_exact m t e

put_column : (m : Tables) (t c : List ℕ) (def : Column) {table : Table} → map.get m t ≡ Some table → tables_after (NewColumn t c def) m ≡ map.insert m t (with_column c def table)
put_column m t c def e = ap (λ x. elim x [ None ↦ m | Some table ↦ map.insert m t (with_column c def table) ]) e

cut_column : (m : Tables) (t c : List ℕ) {table : Table} → map.get m t ≡ Some table → tables_without_column t c m ≡ map.insert m t (without_column c table)
cut_column m t c e = ap (λ x. elim x [ None ↦ m | Some table ↦ map.insert m t (without_column c table) ]) e

column_back : (table : Table) (c : List ℕ) (def : Column) → map.get table.columns c ≡ None → without_column c (with_column c def table) ≡ table
column_back table c def e = λ i. record { key = table.key; columns = (remove_inserted name_total name_exact table.columns c def ∙ remove_absent name_total name_exact table.columns c e) i }

pub tables_back : (m : Tables) (t c : List ℕ) (def : Column) → is_some (map.get m t) ≡ true → is_some (column_in m t c) ≡ false → tables_without_column t c (tables_after (NewColumn t c def) m) ≡ m
tables_back m t c def there free =
    let found = some_of (map.get m t) there in
    let table = found.0 in
    let absent : map.get table.columns c ≡ None = sym (ap (option_and_then (λ (x : Table). map.get x.columns c)) found.1) ∙ none_of (column_in m t c) free in
    ap (tables_without_column t c) (put_column m t c def found.1)
    ∙ cut_column (map.insert m t (with_column c def table)) t c (get-put name_total name_exact m t (with_column c def table))
    ∙ insert_again name_total name_exact m t (with_column c def table) (without_column c (with_column c def table))
    ∙ ap (map.insert m t) (column_back table c def absent) ∙ insert_same name_total name_exact m t table found.1

-- ---- objects
cells_back : (cells : Cells) (c : List ℕ) (def : Column) → map.get cells c ≡ None → map.remove (map.insert cells c (default_of def)) c ≡ cells
cells_back cells c def e = remove_inserted name_total name_exact cells c (default_of def) ∙ remove_absent name_total name_exact cells c e

free_at : (t c : List ℕ) (o : ObjectName) (x : Option Cells) (b : Bool) (def : Column) → eq_by_cmp name_cmp o.0 t ≡ b → (b ≡ true → (cells : Cells) → x ≡ Some cells → map.get cells c ≡ None)
    → option_map (without_cell t c o) (option_map (with_default t c def o) x) ≡ x
free_at t c o None b def e free = refl
free_at t c o (Some cells) true def e free = (λ i. Some (if e i then map.remove (if e i then map.insert cells c (default_of def) else cells) c else (if e i then map.insert cells c (default_of def) else cells))) ∙ ap Some (cells_back cells c def (free refl cells refl))
free_at t c o (Some cells) false def e free = λ i. Some (if e i then map.remove (if e i then map.insert cells c (default_of def) else cells) c else (if e i then map.insert cells c (default_of def) else cells))

pub objects_back : (s : State) → IsState s → (t c : List ℕ) (def : Column) → is_some (column_in s.tables t c) ≡ false → map_with (without_cell t c) (map_with (with_default t c def) s.objects) ≡ s.objects
objects_back s ok t c def free = map.same_map object_total object_exact _ _ (λ o.
    get-map_with (without_cell t c) object_exact (map_with (with_default t c def) s.objects) o
    ∙ ap (option_map (without_cell t c o)) (get-map_with (with_default t c def) object_exact s.objects o)
    ∙ free_at t c o (map.get s.objects o) (eq_by_cmp name_cmp o.0 t) def refl (λ e cells found.
    none_of (map.get cells c)
    (sym (ap (λ x. is_some (option_and_then (λ (cells : Cells). map.get cells c) x)) found) ∙ ok.filled o c (ap is_some found) ∙ ap (λ n. is_some (column_in s.tables n c)) (tied_is name_exact o.0 t e) ∙ free)))

pub created_back : (m : Objects) (o : ObjectName) (cells : Cells) → map.get m o ≡ None → map.remove (map.insert m o cells) o ≡ m
created_back m o cells e = remove_inserted object_total object_exact m o cells ∙ remove_absent object_total object_exact m o e

pub erased_back : (m : Objects) (o : ObjectName) (cells : Cells) → map.get m o ≡ Some cells → map.insert (map.remove m o) o cells ≡ m
erased_back m o cells e = insert_removed object_total object_exact m o cells ∙ insert_same object_total object_exact m o cells e

-- ---- a cell that stays as it is
same_cells : (c : List ℕ) (cells : Cells) → at_key c (λ x. x) cells ≡ cells
same_cells c cells = elim (map.get cells c) as (λ x. map.get cells c ≡ x → at_key c (λ x. x) cells ≡ cells) [
  | None ↦ λ e. at_absent c (λ x. x) cells e
  | Some x ↦ λ e. at_found c (λ x. x) cells e ∙ insert_same name_total name_exact cells c x e
] refl

pub cell_same : (m : Objects) (o : ObjectName) (c : List ℕ) → at_key o (at_key c (λ x. x)) m ≡ m
cell_same m o c = elim (map.get m o) as (λ x. map.get m o ≡ x → at_key o (at_key c (λ x. x)) m ≡ m) [
  | None ↦ λ e. at_absent o (at_key c (λ x. x)) m e
  | Some cells ↦ λ e. at_found o (at_key c (λ x. x)) m e ∙ ap (map.insert m o) (same_cells c cells) ∙ insert_same object_total object_exact m o cells e
] refl
