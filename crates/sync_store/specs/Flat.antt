-- The objects of all tables, table by table, as one map.
use Rattle.std.specs.Prelude.{◌≡◌, ℕ, Bool, true, false, cond, if◌then◌else◌, ◌&&◌, List, [], ◌∷◌, ◌++◌, Option, None, Some, T, refl}
use Rattle.std.specs.declared.cmp.Ordering.{Ordering}
use Rattle.std.specs.declared.cmp.Ordering.TheVariants.{Less, Equal, Greater}
use Rattle.std.specs.Option.{option_and_then, option_map, unwrap_or}
use Rattle.std.specs.Ordering.{eq_by_cmp, is_eq, is_lt, ordering_then}
use Rattle.std.specs.FinMap as map
use Rattle.std.specs.FinMap.{FinMap, find, is_sorted, entries_sorted}
use Rattle.std.specs.FinMap.Entries.{below_all}
use Rattle.std.proofs.Common.{sym, ◌∙◌, ap}
use Rattle.std.specs.Cmp.{tied_itself}
use Rattle.sync_data.specs.Orders.{name_cmp, key_cmp, key_cmp_total, key_cmp_exact}
use Rattle.sync_data.specs.declared.key.Key.{Key}
use Rattle.sync_data.specs.declared.column.Column.{Column}
use Rattle.sync_base.specs.After.{default_of}
use Rattle.sync_base.specs.Effects.{ObjectName}
use Rattle.sync_base.specs.States.{Cells, object_cmp}
use Rattle.sync_base.specs.Maps.{map_with}
use Rattle.sync_base.specs.Lemmas.Maps.{get-map_with, tied_is}
use Rattle.sync_base.specs.Lemmas.Looks.{name_total, name_exact, object_total, object_exact}
use Rattle.sync_maps.specs.Seen.{at_key, at_found, at_absent, remove_absent, insert_again, get-put}

-- the objects of one table, by key
abbrev pub Rows : Type 0
Rows = FinMap key_cmp Cells

abbrev pub Objects : Type 0
Objects = FinMap object_cmp Cells

-- each key with its table's name before it
abbrev pub under : List ℕ → List (Key × Cells) → List (ObjectName × Cells)
under t [] = []
under t (e ∷ es) = ((t, e.0), e.1) ∷ under t es

abbrev pub joined : List (List ℕ × Rows) → List (ObjectName × Cells)
joined [] = []
joined (e ∷ es) = under e.0 (map.entries e.1) ++ joined es

unfoldable pub flat : FinMap name_cmp Rows → Objects
flat m = map.from_entries (joined (map.entries m))

-- ---- what is looked up
abbrev or_else : {A : Type 0} → Option A → Option A → Option A
or_else None y = y
or_else (Some x) y = Some x

both_tie : (a b : Ordering) → is_eq (ordering_then a b) ≡ (is_eq a && is_eq b)
both_tie Less b = refl
both_tie Equal b = refl
both_tie Greater b = refl

name_then_key : (o p : ObjectName) → eq_by_cmp object_cmp o p ≡ (eq_by_cmp name_cmp o.0 p.0 && eq_by_cmp key_cmp o.1 p.1)
name_then_key o p = both_tie (name_cmp o.0 p.0) (key_cmp o.1 p.1)

stepped : {A : Type 0} (a b : Bool) (v : A) (y z : Option A) → cond (a && b) (Some v) (or_else (cond a y None) z) ≡ or_else (cond a (cond b (Some v) y) None) z
stepped true true v y z = refl
stepped true false v y z = refl
stepped false b v y z = refl

nothing_at : {A : Type 0} (a : Bool) (z : Option A) → z ≡ or_else (cond a None None) z
nothing_at true z = refl
nothing_at false z = refl

find_under : (o : ObjectName) (t : List ℕ) (es : List (Key × Cells)) (rest : List (ObjectName × Cells))
    → find object_cmp o (under t es ++ rest) ≡ or_else (cond (eq_by_cmp name_cmp o.0 t) (find key_cmp o.1 es) None) (find object_cmp o rest)
find_under o t [] rest = nothing_at (eq_by_cmp name_cmp o.0 t) (find object_cmp o rest)
find_under o t (e ∷ es) rest =
    (λ i. cond (name_then_key o (t, e.0) i) (Some e.1) (find_under o t es rest i))
    ∙ stepped (eq_by_cmp name_cmp o.0 t) (eq_by_cmp key_cmp o.1 e.0) e.1 (find key_cmp o.1 es) (find object_cmp o rest)

less_not_tied : (r : Ordering) → is_lt r ≡ true → is_eq r ≡ false
less_not_tied Less e = refl
less_not_tied Equal e = cc
less_not_tied Greater e = cc

first_of : (a b : Bool) → (a && b) ≡ true → a ≡ true
first_of true b e = refl
first_of false b e = e

second_of : (a b : Bool) → (a && b) ≡ true → b ≡ true
second_of true b e = e
second_of false b e = cc

is_true : (b : Bool) → T b → b ≡ true
is_true true t = refl
is_true false t = absurd t

-- no object of a table whose name is below all others
none_joined : (o : ObjectName) (es : List (List ℕ × Rows)) → below_all name_cmp o.0 es ≡ true → find object_cmp o (joined es) ≡ None
none_joined o [] h = refl
none_joined o (e ∷ es) h =
    find_under o e.0 (map.entries e.1) (joined es)
    ∙ (λ i. or_else (cond (less_not_tied (name_cmp o.0 e.0) (first_of _ _ h) i) (find key_cmp o.1 (map.entries e.1)) None) (none_joined o es (second_of (is_lt (name_cmp o.0 e.0)) _ h) i))

or_none : {A : Type 0} (x : Option A) → or_else x None ≡ x
or_none None = refl
or_none (Some x) = refl

find_joined : (o : ObjectName) (es : List (List ℕ × Rows)) → is_sorted name_cmp es ≡ true → find object_cmp o (joined es) ≡ option_and_then (λ r. map.get r o.1) (find name_cmp o.0 es)
find_joined o [] h = refl
find_joined o (e ∷ es) h =
    find_under o e.0 (map.entries e.1) (joined es)
    ∙ elim (eq_by_cmp name_cmp o.0 e.0) as (λ b. eq_by_cmp name_cmp o.0 e.0 ≡ b
    → or_else (cond b (find key_cmp o.1 (map.entries e.1)) None) (find object_cmp o (joined es)) ≡ option_and_then (λ r. map.get r o.1) (cond b (Some e.1) (find name_cmp o.0 es))) [
      | true ↦ λ t. ap (or_else (find key_cmp o.1 (map.entries e.1))) (none_joined o es (ap (λ n. below_all name_cmp n es) (tied_is name_exact o.0 e.0 t) ∙ first_of (below_all name_cmp e.0 es) _ h))
          ∙ or_none _ ∙ sym (map.get-entries e.1 o.1)
      | false ↦ λ _. find_joined o es (second_of (below_all name_cmp e.0 es) _ h)
    ] refl

-- an object of the whole is its table's
pub get-flat : (m : FinMap name_cmp Rows) (o : ObjectName) → map.get (flat m) o ≡ option_and_then (λ r. map.get r o.1) (map.get m o.0)
unfolding flat
get-flat m o =
    map.get-from_entries object_total (joined (map.entries m)) o ∙ find_joined o (map.entries m) (is_true _ (entries_sorted m))
    ∙ ap (option_and_then (λ r. map.get r o.1)) (sym (map.get-entries m o.0))

-- ---- one table's objects are put anew
put_there : (m : FinMap name_cmp Rows) (t : List ℕ) (r : Rows) (o : ObjectName)
    → map.get (flat (map.insert m t r)) o ≡ cond (eq_by_cmp name_cmp o.0 t) (map.get r o.1) (map.get (flat m) o)
put_there m t r o =
    get-flat (map.insert m t r) o ∙ ap (option_and_then (λ r. map.get r o.1)) (map.get-insert name_total m t r o.0)
    ∙ elim (eq_by_cmp name_cmp o.0 t) as (λ b. option_and_then (λ r. map.get r o.1) (cond b (Some r) (map.get m o.0)) ≡ cond b (map.get r o.1) (map.get (flat m) o)) [
      | true ↦ refl
      | false ↦ sym (get-flat m o)
    ]

-- the whole is what its parts say
pub flat_put : (m : FinMap name_cmp Rows) (t : List ℕ) (r : Rows) (s : Objects)
    → ((o : ObjectName) → eq_by_cmp name_cmp o.0 t ≡ true → map.get r o.1 ≡ map.get s o)
    → ((o : ObjectName) → eq_by_cmp name_cmp o.0 t ≡ false → map.get (flat m) o ≡ map.get s o)
    → flat (map.insert m t r) ≡ s
flat_put m t r s here other =
    map.same_map object_total object_exact _ _ (λ o. put_there m t r o
    ∙ elim (eq_by_cmp name_cmp o.0 t) as (λ b. eq_by_cmp name_cmp o.0 t ≡ b → cond b (map.get r o.1) (map.get (flat m) o) ≡ map.get s o) [
      | true ↦ here o
      | false ↦ other o
    ] refl)

-- ---- what a change of one table's objects is to the whole
abbrev pub rows_of : FinMap name_cmp Rows → List ℕ → Rows
rows_of m t = unwrap_or (map.get m t) map.empty

looked : (x : Option Rows) (k : Key) → map.get (unwrap_or x map.empty) k ≡ option_and_then (λ r. map.get r k) x
looked None k = map.get-empty key_cmp k
looked (Some r) k = refl

own : (m : FinMap name_cmp Rows) (t : List ℕ) (o : ObjectName) → eq_by_cmp name_cmp o.0 t ≡ true → map.get (rows_of m t) o.1 ≡ map.get (flat m) o
own m t o e = looked (map.get m t) o.1 ∙ ap (λ n. option_and_then (λ r. map.get r o.1) (map.get m n)) (sym (tied_is name_exact o.0 t e)) ∙ sym (get-flat m o)

pub same_rows : (m : FinMap name_cmp Rows) (t : List ℕ) → flat (map.insert m t (rows_of m t)) ≡ flat m
same_rows m t = flat_put m t (rows_of m t) (flat m) (own m t) (λ o e. refl)

at_name : (o : ObjectName) (t : List ℕ) (k : Key) (b : Bool) → eq_by_cmp name_cmp o.0 t ≡ b → eq_by_cmp object_cmp o (t, k) ≡ (b && eq_by_cmp key_cmp o.1 k)
at_name o t k b e = name_then_key o (t, k) ∙ ap (λ b. b && eq_by_cmp key_cmp o.1 k) e

pub flat_insert : (m : FinMap name_cmp Rows) (t : List ℕ) (k : Key) (x : Cells) → flat (map.insert m t (map.insert (rows_of m t) k x)) ≡ map.insert (flat m) (t, k) x
flat_insert m t k x = flat_put m t _ (map.insert (flat m) (t, k) x)
    (λ o e. map.get-insert key_cmp_total (rows_of m t) k x o.1 ∙ (λ i. cond (sym (at_name o t k true e) i) (Some x) (own m t o e i)) ∙ sym (map.get-insert object_total (flat m) (t, k) x o))
    (λ o e. sym (map.get-insert object_total (flat m) (t, k) x o ∙ ap (λ b. cond b (Some x) (map.get (flat m) o)) (at_name o t k false e)))

pub flat_remove : (m : FinMap name_cmp Rows) (t : List ℕ) (k : Key) → flat (map.insert m t (map.remove (rows_of m t) k)) ≡ map.remove (flat m) (t, k)
flat_remove m t k = flat_put m t _ (map.remove (flat m) (t, k))
    (λ o e. map.get-remove key_cmp_total (rows_of m t) k o.1 ∙ (λ i. cond (sym (at_name o t k true e) i) None (own m t o e i)) ∙ sym (map.get-remove object_total (flat m) (t, k) o))
    (λ o e. sym (map.get-remove object_total (flat m) (t, k) o ∙ ap (λ b. cond b None (map.get (flat m) o)) (at_name o t k false e)))

itself : (t : List ℕ) → eq_by_cmp name_cmp t t ≡ true
itself t = ap is_eq (tied_itself name_total t)

pub flat_edit : (m : FinMap name_cmp Rows) (t : List ℕ) (k : Key) (f : Cells → Cells) → flat (map.insert m t (at_key k f (rows_of m t))) ≡ at_key (t, k) f (flat m)
flat_edit m t k f =
    elim (map.get (rows_of m t) k) as (λ x. map.get (rows_of m t) k ≡ x → flat (map.insert m t (at_key k f (rows_of m t))) ≡ at_key (t, k) f (flat m)) [
      | None ↦ λ e. ap (λ r. flat (map.insert m t r)) (at_absent k f (rows_of m t) e) ∙ same_rows m t ∙ sym (at_absent (t, k) f (flat m) (sym (own m t (t, k) (itself t)) ∙ e))
      | Some x ↦ λ e. ap (λ r. flat (map.insert m t r)) (at_found k f (rows_of m t) e) ∙ flat_insert m t k (f x) ∙ sym (at_found (t, k) f (flat m) (sym (own m t (t, k) (itself t)) ∙ e))
    ] refl

-- the cells of each object of one table, changed
abbrev pub each_row : (Cells → Cells) → Rows → Rows
each_row f = map_with (λ k cells. f cells)

-- a cell more, the default one, or a cell less
abbrev pub with_cell : List ℕ → Column → Cells → Cells
with_cell c def cells = map.insert cells c (default_of def)

abbrev pub cut_cell : List ℕ → Cells → Cells
cut_cell c cells = map.remove cells c

-- the cells of one table's objects, changed
abbrev pub in_table : List ℕ → (Cells → Cells) → ObjectName → Cells → Cells
in_table t f o cells = if eq_by_cmp name_cmp o.0 t then f cells else cells

mapped_at : (t : List ℕ) (f : Cells → Cells) (o : ObjectName) (x : Option Cells) (b : Bool) → eq_by_cmp name_cmp o.0 t ≡ b → option_map (in_table t f o) x ≡ (if b then option_map f x else x)
mapped_at t f o None true e = refl
mapped_at t f o None false e = refl
mapped_at t f o (Some cells) true e = ap (λ b. Some (if b then f cells else cells)) e
mapped_at t f o (Some cells) false e = ap (λ b. Some (if b then f cells else cells)) e

pub flat_each : (m : FinMap name_cmp Rows) (t : List ℕ) (f : Cells → Cells) → flat (map.insert m t (each_row f (rows_of m t))) ≡ map_with (in_table t f) (flat m)
flat_each m t f = flat_put m t _ (map_with (in_table t f) (flat m))
    (λ o e. get-map_with (λ k cells. f cells) key_cmp_exact (rows_of m t) o.1 ∙ ap (option_map f) (own m t o e) ∙ sym (get-map_with (in_table t f) object_exact (flat m) o ∙ mapped_at t f o _ true e))
    (λ o e. sym (get-map_with (in_table t f) object_exact (flat m) o ∙ mapped_at t f o _ false e))

-- ---- where the table has no objects
no_rows : (m : FinMap name_cmp Rows) (t : List ℕ) → map.get m t ≡ None → (o : ObjectName) → eq_by_cmp name_cmp o.0 t ≡ true → map.get (flat m) o ≡ None
no_rows m t h o e = get-flat m o ∙ ap (λ n. option_and_then (λ r. map.get r o.1) (map.get m n)) (tied_is name_exact o.0 t e) ∙ ap (option_and_then (λ r. map.get r o.1)) h

pub remove_none : (m : FinMap name_cmp Rows) (t : List ℕ) (k : Key) → map.get m t ≡ None → map.remove (flat m) (t, k) ≡ flat m
remove_none m t k h = remove_absent object_total object_exact (flat m) (t, k) (no_rows m t h (t, k) (itself t))

pub each_none : (m : FinMap name_cmp Rows) (t : List ℕ) (f : Cells → Cells) → map.get m t ≡ None → map_with (in_table t f) (flat m) ≡ flat m
each_none m t f h = map.same_map object_total object_exact _ _ (λ o. get-map_with (in_table t f) object_exact (flat m) o
    ∙ elim (eq_by_cmp name_cmp o.0 t) as (λ b. eq_by_cmp name_cmp o.0 t ≡ b → option_map (in_table t f o) (map.get (flat m) o) ≡ map.get (flat m) o) [
      | true ↦ λ e. ap (option_map (in_table t f o)) (no_rows m t h o e) ∙ sym (no_rows m t h o e)
      | false ↦ λ e. mapped_at t f o _ false e
    ] refl)

-- ---- the rows of a table that has some
pub rows_found : (m : FinMap name_cmp Rows) (t : List ℕ) {r : Rows} → map.get m t ≡ Some r → rows_of m t ≡ r
rows_found m t e = ap (λ x. unwrap_or x map.empty) e

pub rows_none : (m : FinMap name_cmp Rows) (t : List ℕ) → map.get m t ≡ None → rows_of m t ≡ map.empty
rows_none m t e = ap (λ x. unwrap_or x map.empty) e

pub flat_empty : flat map.empty ≡ map.empty
flat_empty = map.same_map object_total object_exact _ _ (λ o. get-flat map.empty o ∙ ap (option_and_then (λ r. map.get r o.1)) (map.get-empty name_cmp o.0) ∙ sym (map.get-empty object_cmp o))

-- an object's cells, where its table loses a column
abbrev pub without_cell : List ℕ → List ℕ → ObjectName → Cells → Cells
without_cell t c = in_table t (cut_cell c)

pub get-flat_at : (m : FinMap name_cmp Rows) (t : List ℕ) (k : Key) {r : Rows} → map.get m t ≡ Some r → map.get (flat m) (t, k) ≡ map.get r k
get-flat_at m t k e = get-flat m (t, k) ∙ ap (option_and_then (λ r. map.get r k)) e

pub get-flat_none : (m : FinMap name_cmp Rows) (t : List ℕ) (k : Key) → map.get m t ≡ None → map.get (flat m) (t, k) ≡ None
get-flat_none m t k e = get-flat m (t, k) ∙ ap (option_and_then (λ r. map.get r k)) e

-- a change of a table's objects that is taken back is taken back in the whole
pub flat_back : (m : FinMap name_cmp Rows) (t : List ℕ) (k : Key) (g : Cells → Cells) (y : Rows) {r : Rows} → map.get m t ≡ Some r → at_key k g y ≡ r → at_key (t, k) g (flat (map.insert m t y)) ≡ flat m
flat_back m t k g y {r} e h =
    sym (flat_edit (map.insert m t y) t k g)
    ∙ ap (λ z. flat (map.insert (map.insert m t y) t (at_key k g z))) (rows_found (map.insert m t y) t (get-put name_total name_exact m t y))
    ∙ ap flat (insert_again name_total name_exact m t y (at_key k g y))
    ∙ ap (λ z. flat (map.insert m t z)) (h ∙ sym (rows_found m t e)) ∙ same_rows m t
