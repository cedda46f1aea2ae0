-- What the store's walkers go along: the tables, the columns of a table, and its objects.
use Rattle.std.proofs.Common.{◌≡◌, ℕ, Bool, true, false, cond, ◌&&◌, T, List, [], ◌∷◌, Option, None, Some, is_some, refl, sym, ap, ◌∙◌}
use Rattle.std.specs.declared.cmp.Ordering.{Ordering}
use Rattle.std.specs.declared.cmp.Ordering.TheVariants.{Less, Equal, Greater}
use Rattle.std.specs.Ordering.{is_lt, is_eq, eq_by_cmp, ordering_then}
use Rattle.std.specs.Option.{option_and_then, option_map_or}
use Rattle.std.specs.FinMap as map
use Rattle.std.specs.FinMap.{find, is_sorted}
use Rattle.std.specs.FinMap.Entries.{below_all}
use Rattle.sync_data.specs.Orders.{name_cmp, key_cmp, key_cmp_total, key_cmp_exact}
use Rattle.sync_data.specs.declared.key.Key.{Key}
use Rattle.sync_base.specs.Effects.{ObjectName}
use Rattle.sync_base.specs.States.{State, Tables, Cells, IsState, object_cmp, column_in, cell_at, has}
use Rattle.sync_base.specs.Lemmas.Looks.{name_total, name_exact}
use Rattle.sync_maps.specs.Seen.{tied}
use Rattle.sync_maps.specs.Next.{IsNext}
use Rattle.store_walks.specs.Along.{columns_in, objects_in, cells_in}
use Rattle.store_walks.specs.Walk.{from, IsAt, Step, first_of, second_of, walk_first, walk_next}

pub is_true : (b : Bool) → T b → b ≡ true
is_true true t = refl
is_true false t = absurd t

-- ---- tables
pub table_first : (ts : Tables) (next : Option (List ℕ)) → IsNext name_cmp (λ t. is_some (map.get ts t)) None next → (from name_cmp next (map.entries ts) ≡ map.entries ts) × IsAt name_cmp next (map.entries ts)
table_first ts next h = walk_first name_cmp name_total (λ t. is_some (map.get ts t)) (map.entries ts) (λ t. ap is_some (map.get-entries ts t)) next h

pub table_step : (ts : Tables) (t : List ℕ) (next : Option (List ℕ)) → IsAt name_cmp (Some t) (map.entries ts) → IsNext name_cmp (λ t. is_some (map.get ts t)) (Some t) next → Step name_cmp t next (map.entries ts)
table_step ts t next at h = walk_next name_cmp name_total (λ t. is_some (map.get ts t)) (map.entries ts) (λ t. ap is_some (map.get-entries ts t)) name_exact (is_true _ (map.entries_sorted ts)) t at next h

-- ---- columns
pub column_at : (ts : Tables) (t c : List ℕ) → column_in ts t c ≡ find name_cmp c (columns_in ts t)
column_at ts t c =
    elim (map.get ts t) as (λ x. option_and_then (λ table. map.get table.columns c) x ≡ find name_cmp c (option_map_or (λ table. map.entries table.columns) x [])) [
      | None ↦ refl
      | Some table ↦ map.get-entries table.columns c
    ]

pub columns_sorted : (ts : Tables) (t : List ℕ) → is_sorted name_cmp (columns_in ts t) ≡ true
columns_sorted ts t =
    elim (map.get ts t) as (λ x. is_sorted name_cmp (option_map_or (λ table. map.entries table.columns) x []) ≡ true) [
      | None ↦ refl
      | Some table ↦ is_true _ (map.entries_sorted table.columns)
    ]

pub column_first : (ts : Tables) (t : List ℕ) (next : Option (List ℕ)) → IsNext name_cmp (λ c. is_some (column_in ts t c)) None next → (from name_cmp next (columns_in ts t) ≡ columns_in ts t) × IsAt name_cmp next (columns_in ts t)
column_first ts t next h = walk_first name_cmp name_total (λ c. is_some (column_in ts t c)) (columns_in ts t) (λ c. ap is_some (column_at ts t c)) next h

pub column_step : (ts : Tables) (t c : List ℕ) (next : Option (List ℕ)) → IsAt name_cmp (Some c) (columns_in ts t) → IsNext name_cmp (λ c. is_some (column_in ts t c)) (Some c) next → Step name_cmp c next (columns_in ts t)
column_step ts t c next at h = walk_next name_cmp name_total (λ c. is_some (column_in ts t c)) (columns_in ts t) (λ c. ap is_some (column_at ts t c)) name_exact (columns_sorted ts t) c at next h

-- ---- cells: an object has one for each column of its table
pub cell_found : (s : State) (o : ObjectName) (c : List ℕ) → cell_at s o c ≡ find name_cmp c (cells_in s o)
cell_found s o c =
    elim (map.get s.objects o) as (λ x. option_and_then (λ cells. map.get cells c) x ≡ find name_cmp c (option_map_or (λ cells. map.entries cells) x [])) [
      | None ↦ refl
      | Some cells ↦ map.get-entries cells c
    ]

cells_sorted : (s : State) (o : ObjectName) → is_sorted name_cmp (cells_in s o) ≡ true
cells_sorted s o =
    elim (map.get s.objects o) as (λ x. is_sorted name_cmp (option_map_or (λ cells. map.entries cells) x []) ≡ true) [
      | None ↦ refl
      | Some cells ↦ is_true _ (map.entries_sorted cells)
    ]

module _ (s : State) (ok : IsState s) (o : ObjectName) (stands : has s o ≡ true) where
  filled : (c : List ℕ) → is_some (column_in s.tables o.0 c) ≡ is_some (find name_cmp c (cells_in s o))
  filled c = sym (ok.filled o c stands) ∙ ap is_some (cell_found s o c)

  pub cell_first : (next : Option (List ℕ)) → IsNext name_cmp (λ c. is_some (column_in s.tables o.0 c)) None next → (from name_cmp next (cells_in s o) ≡ cells_in s o) × IsAt name_cmp next (cells_in s o)
  cell_first next h = walk_first name_cmp name_total (λ c. is_some (column_in s.tables o.0 c)) (cells_in s o) filled next h

  pub cell_step : (c : List ℕ) (next : Option (List ℕ)) → IsAt name_cmp (Some c) (cells_in s o) → IsNext name_cmp (λ c. is_some (column_in s.tables o.0 c)) (Some c) next → Step name_cmp c next (cells_in s o)
  cell_step c next at h = walk_next name_cmp name_total (λ c. is_some (column_in s.tables o.0 c)) (cells_in s o) filled name_exact (cells_sorted s o) c at next h

-- ---- objects
both_tie : (a b : Ordering) → is_eq (ordering_then a b) ≡ (is_eq a && is_eq b)
both_tie Less b = refl
both_tie Equal b = refl
both_tie Greater b = refl

find_in : (t : List ℕ) (k : Key) (es : List (ObjectName × Cells)) → find object_cmp (t, k) es ≡ find key_cmp k (objects_in t es)
find_in t k [] = refl
find_in t k (e ∷ es) =
    ap (λ b. cond b (Some e.1) (find object_cmp (t, k) es)) (both_tie (name_cmp t e.0.0) (key_cmp k e.0.1))
    ∙ elim (eq_by_cmp name_cmp t e.0.0) as (λ b. cond (b && eq_by_cmp key_cmp k e.0.1) (Some e.1) (find object_cmp (t, k) es) ≡ find key_cmp k (cond b ((e.0.1, e.1) ∷ objects_in t es) (objects_in t es))) [
      | true ↦ ap (cond (eq_by_cmp key_cmp k e.0.1) (Some e.1)) (find_in t k es)
      | false ↦ find_in t k es
    ]

below_in : (t : List ℕ) (k : Key) (es : List (ObjectName × Cells)) → below_all object_cmp (t, k) es ≡ true → below_all key_cmp k (objects_in t es) ≡ true
below_in t k [] h = refl
below_in t k (e ∷ es) h =
    let rest = below_in t k es (second_of (is_lt (object_cmp (t, k) e.0)) _ h) in
    elim (name_cmp t e.0.0) as (λ r. is_lt (ordering_then r (key_cmp k e.0.1)) ≡ true → below_all key_cmp k (cond (is_eq r) ((e.0.1, e.1) ∷ objects_in t es) (objects_in t es)) ≡ true) [
      | Less ↦ λ _. rest
      | Equal ↦ λ l. ap (λ b. b && below_all key_cmp k (objects_in t es)) l ∙ rest
      | Greater ↦ λ _. rest
    ] (first_of _ _ h)

sorted_in : (t : List ℕ) (es : List (ObjectName × Cells)) → is_sorted object_cmp es ≡ true → is_sorted key_cmp (objects_in t es) ≡ true
sorted_in t [] h = refl
sorted_in t (e ∷ es) h =
    let rest = sorted_in t es (second_of (below_all object_cmp e.0 es) _ h) in
    elim (eq_by_cmp name_cmp t e.0.0) as (λ b. eq_by_cmp name_cmp t e.0.0 ≡ b → is_sorted key_cmp (cond b ((e.0.1, e.1) ∷ objects_in t es) (objects_in t es)) ≡ true) [
      | true ↦ λ same. ap (λ b. b && is_sorted key_cmp (objects_in t es)) (below_in t e.0.1 es (ap (λ n. below_all object_cmp (n, e.0.1) es) (tied name_exact t e.0.0 same) ∙ first_of _ _ h)) ∙ rest
      | false ↦ λ _. rest
    ] refl

pub object_found : (s : State) (t : List ℕ) (k : Key) → map.get s.objects (t, k) ≡ find key_cmp k (objects_in t (map.entries s.objects))
object_found s t k = map.get-entries s.objects (t, k) ∙ find_in t k (map.entries s.objects)

pub object_at : (s : State) (t : List ℕ) (k : Key) → has s (t, k) ≡ is_some (find key_cmp k (objects_in t (map.entries s.objects)))
object_at s t k = ap is_some (object_found s t k)

pub object_first : (s : State) (t : List ℕ) (next : Option Key) → IsNext key_cmp (λ k. has s (t, k)) None next → (from key_cmp next (objects_in t (map.entries s.objects)) ≡ objects_in t (map.entries s.objects)) × IsAt key_cmp next (objects_in t (map.entries s.objects))
object_first s t next h = walk_first key_cmp key_cmp_total (λ k. has s (t, k)) (objects_in t (map.entries s.objects)) (object_at s t) next h

pub object_step : (s : State) (t : List ℕ) (k : Key) (next : Option Key) → IsAt key_cmp (Some k) (objects_in t (map.entries s.objects)) → IsNext key_cmp (λ k. has s (t, k)) (Some k) next → Step key_cmp k next (objects_in t (map.entries s.objects))
object_step s t k next at h = walk_next key_cmp key_cmp_total (λ k. has s (t, k)) (objects_in t (map.entries s.objects)) (object_at s t) key_cmp_exact (sorted_in t (map.entries s.objects) (is_true _ (map.entries_sorted s.objects))) k at next h
