-- The lists that the walks make are those of the state's list.
use Rattle.std.proofs.Common.{◌≡◌, ℕ, suc, ◌+◌, ◌<◌, List, [], ◌∷◌, ◌++◌, length, get_or, map, drop, Option, None, Some, is_some, refl, sym, ap, ◌∙◌, append_assoc, arith, true, false, cond}
use Rattle.std.specs.Prelude.{flat_map}
use Rattle.std.proofs.lemmas.List.{drop_more}
use Rattle.std.specs.Option.{option_map_or}
use Rattle.std.specs.Ordering.{is_eq, eq_by_cmp}
use Rattle.std.specs.Cmp.{eq_by_cmp_equiv, tied_itself}
use Rattle.std.specs.FinMap as fin
use Rattle.std.specs.FinMap.{find, is_sorted}
use Rattle.std.specs.FinMap.Entries.{below_all}
use Rattle.sync_data.specs.Orders.{name_cmp}
use Rattle.sync_base.specs.Lemmas.Looks.{name_total}
use Rattle.sync_data.specs.declared.column.Column.{Column}
use Rattle.sync_data.specs.declared.instr.Instr.{Instr}
use Rattle.sync_data.specs.declared.value.Value.{Value}
use Rattle.sync_base.specs.After.{default_of}
use Rattle.sync_base.specs.Effects.{ObjectName, CellPath, Edit, Insert, NewTable, NewColumn, Create, Change, instr_of}
use Rattle.sync_base.specs.States.{State, Table, Tables, Cell, Cells, IsState, column_in, cell_at, has}
use Rattle.store_walks.specs.Walk.{first_of, second_of}
use Rattle.store_walks.specs.Standing.{is_true}
use Rattle.store_walks.specs.Tables.{below_found, objects_by_table}
use Rattle.snapshot_law.specs.Build.{joined, insertions, edits_of, cell_edits, cell_effects, object_effects, columns_of, new_tables, new_columns, new_objects, built_list}
use Rattle.sync_snapshot.specs.Lists.{edit_instrs, cell_instrs, cells_instrs, object_instrs, columns_instrs, schema_instrs, table_instrs}

map_append : {A B : Type 0} (f : A → B) (xs ys : List A) → map f (xs ++ ys) ≡ map f xs ++ map f ys
map_append f [] ys = refl
map_append f (x ∷ xs) ys = ap (λ l. f x ∷ l) (map_append f xs ys)

-- lists of each, one behind the other
map_joined : {A B C : Type 0} (h : B → C) (f : A → List B) (xs : List A) → map h (joined (map f xs)) ≡ flat_map (λ x. map h (f x)) xs
map_joined h f [] = refl
map_joined h f (x ∷ xs) = map_append h (f x) (joined (map f xs)) ∙ ap (λ l. map h (f x) ++ l) (map_joined h f xs)

singles : {A B C : Type 0} (h : B → C) (f : A → B) (xs : List A) → flat_map (λ x. h (f x) ∷ []) xs ≡ map h (map f xs)
singles h f [] = refl
singles h f (x ∷ xs) = ap (λ l. h (f x) ∷ l) (singles h f xs)

-- ---- edits of a cell
pub edits_append : (p : CellPath) (xs ys : List Edit) → edit_instrs p (xs ++ ys) ≡ edit_instrs p xs ++ edit_instrs p ys
edits_append p xs ys = ap (map instr_of) (map_append (λ e. Change p e) xs ys) ∙ map_append instr_of (map (λ e. Change p e) xs) (map (λ e. Change p e) ys)

insertions_append : (k : ℕ) (vs ws : List Value) → insertions k (vs ++ ws) ≡ insertions k vs ++ insertions (k + length vs) ws
insertions_append k [] ws = ap (λ n. insertions n ws) (omega arith)
insertions_append k (v ∷ vs) ws =
    ap (λ es. Insert (record { place = k; prior = k }) v ∷ es) (insertions_append (suc k) vs ws ∙ ap (λ n. insertions (suc k) vs ++ insertions n ws) (omega arith))

pub runs_append : (p : CellPath) (k : ℕ) (vs ws : List Value) → edit_instrs p (insertions k (vs ++ ws)) ≡ edit_instrs p (insertions k vs) ++ edit_instrs p (insertions (k + length vs) ws)
runs_append p k vs ws = ap (edit_instrs p) (insertions_append k vs ws) ∙ edits_append p (insertions k vs) (insertions (k + length vs) ws)

pub next_insertion : (p : CellPath) (k : ℕ) (vs : List Value) (i : ℕ) (v : Value) → i < length vs → v ≡ get_or vs i v
    → edit_instrs p (insertions (k + i) (drop i vs)) ≡ edit_instrs p (Insert (record { place = k + i; prior = k + i }) v ∷ []) ++ edit_instrs p (insertions (k + (i + 1)) (drop (i + 1) vs))
next_insertion p k vs i v low is =
    let next : suc (k + i) ≡ k + (i + 1) = omega arith in
    ap (λ l. edit_instrs p (insertions (k + i) l)) (drop_more vs i v low ∙ ap (λ w. w ∷ drop (i + 1) vs) (sym is))
    ∙ ap (λ n. edit_instrs p (Insert (record { place = k + i; prior = k + i }) v ∷ insertions n (drop (i + 1) vs))) next

pub one_on : (p : CellPath) (old rest : List Instr) (e : Edit) (es : List Edit) → (old ++ edit_instrs p (e ∷ [])) ++ edit_instrs p es ≡ old ++ edit_instrs p (e ∷ es)
one_on p old rest e es = append_assoc old (edit_instrs p (e ∷ [])) (edit_instrs p es)

-- ---- an object
pub cell_is : (s : State) (o : ObjectName) (c : List ℕ) (x : Cell) (def : Column) → cell_at s o c ≡ Some x → column_in s.tables o.0 c ≡ Some def
    → edit_instrs (o, c) (edits_of (default_of def) x) ≡ option_map_or (cell_instrs s o c) (cell_at s o c) []
cell_is s o c x def at is =
    ap (λ k. map instr_of (map (λ e. Change (o, c) e) (cell_edits k x))) (sym is)
    ∙ ap (λ y. option_map_or (cell_instrs s o c) y []) (sym at)

pub no_column : (s : State) (o : ObjectName) (c : List ℕ) (x : Option Cell) → column_in s.tables o.0 c ≡ None → option_map_or (cell_instrs s o c) x [] ≡ []
no_column s o c None e = refl
no_column s o c (Some x) e = ap (λ k. map instr_of (map (λ e. Change (o, c) e) (cell_edits k x))) e

pub object_is : (s : State) (o : ObjectName) → has s o ≡ true → instr_of (Create o) ∷ cells_instrs s o ≡ object_instrs s o
object_is s o h =
    elim (fin.get s.objects o) as (λ x. is_some x ≡ true → instr_of (Create o) ∷ flat_map (λ e. cell_instrs s o e.0 e.1) (option_map_or (λ cells. fin.entries cells) x []) ≡ option_map_or (λ cells. map instr_of (object_effects s o cells)) x []) [
      | None ↦ λ e. cc
      | Some cells ↦ λ _. ap (λ l. instr_of (Create o) ∷ l) (sym (map_joined instr_of (λ (e : List ℕ × Cell). cell_effects s o e.0 e.1) (fin.entries cells)))
    ] h

-- ---- the schema
columns_is : (t : List ℕ) (x : Table) → flat_map (λ e. instr_of (NewColumn t e.0 e.1) ∷ []) (fin.entries x.columns) ≡ map instr_of (columns_of t x)
columns_is t x = singles instr_of (λ (e : List ℕ × Column). NewColumn t e.0 e.1) (fin.entries x.columns)

pub columns_at : (ts : Tables) (t : List ℕ) → columns_instrs ts t ≡ option_map_or (λ x. map instr_of (columns_of t x)) (fin.get ts t) []
columns_at ts t =
    elim (fin.get ts t) as (λ x. flat_map (λ e. instr_of (NewColumn t e.0 e.1) ∷ []) (option_map_or (λ table. fin.entries table.columns) x []) ≡ option_map_or (λ x. map instr_of (columns_of t x)) x []) [
      | None ↦ refl
      | Some x ↦ columns_is t x
    ]

abbrev pub tables_list : State → List Instr
tables_list s = flat_map (λ e. instr_of (NewTable e.0 e.1.key) ∷ []) (fin.entries s.tables)

abbrev pub columns_list : State → List Instr
columns_list s = flat_map (λ e. map instr_of (columns_of e.0 e.1)) (fin.entries s.tables)

-- the table of each entry is the one that stands
same_each : (ts : Tables) (es : List (List ℕ × Table)) → is_sorted name_cmp es ≡ true → ((t : List ℕ) (x : Table) → find name_cmp t es ≡ Some x → fin.get ts t ≡ Some x)
    → flat_map (λ e. columns_instrs ts e.0) es ≡ flat_map (λ e. map instr_of (columns_of e.0 e.1)) es
same_each ts [] s h = refl
same_each ts (e ∷ es) s h =
    let here : fin.get ts e.0 ≡ Some e.1 = h e.0 e.1 (ap (λ r. cond (is_eq r) (Some e.1) (find name_cmp e.0 es)) (tied_itself name_total e.0)) in
    let first = columns_at ts e.0 ∙ ap (λ x. option_map_or (λ x. map instr_of (columns_of e.0 x)) x []) here in
    let rest = same_each ts es (second_of (below_all name_cmp e.0 es) _ s) (λ t x f. h t x (ap (λ b. cond b (Some e.1) (find name_cmp t es)) (later e.0 t es (first_of _ _ s) (ap is_some f)) ∙ f)) in
    λ i. first i ++ rest i
  where
    later : (k t : List ℕ) (es : List (List ℕ × Table)) → below_all name_cmp k es ≡ true → is_some (find name_cmp t es) ≡ true → eq_by_cmp name_cmp t k ≡ false
    later k t es b f = (eq_by_cmp_equiv name_total).symm t k ∙ ap is_eq (below_found k t es b f)

pub columns_each : (s : State) → flat_map (λ e. columns_instrs s.tables e.0) (fin.entries s.tables) ≡ columns_list s
columns_each s = same_each s.tables (fin.entries s.tables) (is_true _ (fin.entries_sorted s.tables)) (λ t x f. fin.get-entries s.tables t ∙ f)

pub schema_is : (s : State) → ([] ++ tables_list s) ++ columns_list s ≡ schema_instrs s
schema_is s =
    (λ i. singles instr_of (λ (e : List ℕ × Table). NewTable e.0 e.1.key) (fin.entries s.tables) i ++ sym (map_joined instr_of (λ (e : List ℕ × Table). columns_of e.0 e.1) (fin.entries s.tables)) i)
    ∙ sym (map_append instr_of (new_tables s) (new_columns s))

-- ---- all of it
pub objects_list : (s : State) → IsState s → flat_map (λ e. table_instrs s e.0) (fin.entries s.tables) ≡ map instr_of (new_objects s)
objects_list s ok =
    objects_by_table (λ e. map instr_of (object_effects s e.0 e.1)) s ok
    ∙ sym (map_joined instr_of (λ (e : ObjectName × Cells). object_effects s e.0 e.1) (fin.entries s.objects))

pub no_end : {A : Type 0} (xs : List A) → xs ++ [] ≡ xs
no_end [] = refl
no_end (x ∷ xs) = ap (λ l. x ∷ l) (no_end xs)

pub all_is : (s : State) → IsState s → schema_instrs s ++ (flat_map (λ e. table_instrs s e.0) (fin.entries s.tables) ++ []) ≡ built_list s
all_is s ok =
    ap (λ l. schema_instrs s ++ l) (no_end _ ∙ objects_list s ok)
    ∙ sym (map_append instr_of (new_tables s ++ new_columns s) (new_objects s))
    ∙ ap (map instr_of) (append_assoc (new_tables s) (new_columns s) (new_objects s))
