-- The tables are added, and then their columns.
use Rattle.std.specs.Prelude.{◌≡◌, ℕ, Bool, true, false, cond, List, [], ◌∷◌, map, is_some, Option, None, Some, refl}
use Rattle.std.specs.Option.{option_map, option_and_then}
use Rattle.std.specs.Ordering.{eq_by_cmp}
use Rattle.std.specs.FinMap as fin
use Rattle.std.specs.FinMap.{FinMap}
use Rattle.std.proofs.Common.{sym, ◌∙◌, ap, subst}
use Rattle.sync_theory.proofs.Agree.{alone}
use Rattle.sync_data.specs.Orders.{name_cmp}
use Rattle.sync_data.specs.declared.column.Column.{Column}
use Rattle.sync_data.specs.declared.column.Kind.{Kind}
use Rattle.sync_data.specs.declared.column.Kind.TheVariants as kinds
use Rattle.sync_base.specs.After.{after, with_default, with_column}
use Rattle.sync_base.specs.Checks.{act_effect}
use Rattle.sync_base.specs.Effects.{NewTable, NewColumn}
use Rattle.sync_base.specs.Lemmas.Looks.{name_total, name_exact, object_total, object_exact}
use Rattle.sync_base.specs.Lemmas.Maps.{get-map_with, tied_is}
use Rattle.sync_base.specs.Lemmas.Steps.{acts}
use Rattle.sync_base.specs.Maps.{map_with}
use Rattle.sync_base.specs.States.{State, Table, Tables, IsState, no_state, column_in, has_target}
use Rattle.snapshot_law.specs.Build.{joined, columns_of, new_tables, new_columns}
use Rattle.snapshot_law.specs.Lemmas.Maps.{got_put, put_twice, put_same, walk, joined_singles, map_with-empty, map_with-insert}
use Rattle.snapshot_law.specs.Lemmas.Objects.{Runs, runs_on, step, with_objects}

-- a table without its columns
abbrev pub bare : Table → Table
bare table = record { key = table.key; columns = fin.empty }

pub bare_tables : Tables → Tables
bare_tables ts = map_with (λ t x. bare x) ts

get-bare : (ts : Tables) (t : List ℕ) → fin.get (bare_tables ts) t ≡ option_map bare (fin.get ts t)
unfolding bare_tables
get-bare ts t = get-map_with (λ t x. bare x) name_exact ts t

abbrev only : Tables → State
only ts = with_objects ts fin.empty

-- ---- the tables
table_runs : (ts : Tables) (done : Tables) (t : List ℕ) (x : Table) → fin.get done t ≡ None → Runs (NewTable t x.key ∷ []) (only (bare_tables done)) (only (bare_tables (fin.insert done t x)))
unfolding bare_tables
table_runs ts done t x n =
    alone act_effect (NewTable t x.key) (only (bare_tables done)) (only (bare_tables (fin.insert done t x)))
    (step (NewTable t x.key) (only (bare_tables done)) (only (bare_tables (fin.insert done t x))) tt
    (acts (only (bare_tables done)) (NewTable t x.key) (record { new = ap is_some (get-bare done t ∙ ap (option_map bare) n) }))
    (ap only (sym (map_with-insert name_total name_exact (λ t x. bare x) done t x))))

pub tables_run : (s : State) → Runs (new_tables s) no_state (only (bare_tables s.tables))
unfolding bare_tables
tables_run s =
    subst (λ ds. Runs ds no_state (only (bare_tables s.tables))) (joined_singles (λ (e : List ℕ × Table). NewTable e.0 e.1.key) (fin.entries s.tables))
    (subst (λ ts. Runs (joined (map (λ (e : List ℕ × Table). NewTable e.0 e.1.key ∷ []) (fin.entries s.tables))) (only ts) (only (bare_tables s.tables))) (map_with-empty name_total name_exact (λ t x. bare x))
    (walk name_total name_exact Runs (λ t. refl) runs_on (λ e. NewTable e.0 e.1.key ∷ []) (λ done. only (bare_tables done)) s.tables (λ done t x here new. table_runs s.tables done t x new)))

-- ---- the columns of a table
module _ (s : State) (ok : IsState s) where
  -- the tables that have their columns, and the others bare
  abbrev one_so_far : Tables → List ℕ → Table → Table
  one_so_far done t x = cond (is_some (fin.get done t)) x (bare x)

  so_far : Tables → Tables
  so_far done = map_with (one_so_far done) s.tables

  get-so_far : (done : Tables) (t : List ℕ) → fin.get (so_far done) t ≡ option_map (one_so_far done t) (fin.get s.tables t)
  unfolding so_far
  get-so_far done t = get-map_with (one_so_far done) name_exact s.tables t

  some_map : {A B : Type 0} (f : A → B) (x : Option A) → is_some (option_map f x) ≡ is_some x
  some_map f None = refl
  some_map f (Some x) = refl

  first : so_far fin.empty ≡ bare_tables s.tables
  first = fin.same_map name_total name_exact _ _ (λ t. get-so_far fin.empty t ∙ ap (λ z. option_map (λ x. cond (is_some z) x (bare x)) (fin.get s.tables t)) (fin.get-empty name_cmp t) ∙ sym (get-bare s.tables t))

  full : (x y : Option Table) → is_some x ≡ is_some y → option_map (λ z. cond (is_some x) z (bare z)) y ≡ y
  full x None h = refl
  full None (Some y) h = cc
  full (Some x) (Some y) h = refl

  last : so_far s.tables ≡ s.tables
  last = fin.same_map name_total name_exact _ _ (λ t. get-so_far s.tables t ∙ full (fin.get s.tables t) (fin.get s.tables t) refl)

  module _ (done : Tables) (t : List ℕ) (x : Table) (here : fin.get s.tables t ≡ Some x) (new : fin.get done t ≡ None) where
    abbrev table_so_far : FinMap name_cmp Column → Tables
    table_so_far columns = fin.insert (so_far done) t (record { key = x.key; columns = columns })

    got : (columns : FinMap name_cmp Column) → fin.get (table_so_far columns) t ≡ Some (record { key = x.key; columns = columns })
    got columns = got_put name_total name_exact (so_far done) t _

    put_stands : {X : Type 0} (b : Bool) (v : X) (o : Option X) → is_some o ≡ true → is_some (cond b (Some v) o) ≡ true
    put_stands true v o h = refl
    put_stands false v o h = h

    stands : (columns : FinMap name_cmp Column) (u : List ℕ) → is_some (fin.get s.tables u) ≡ true → is_some (fin.get (table_so_far columns) u) ≡ true
    stands columns u h = ap is_some (fin.get-insert name_total (so_far done) t _ u) ∙ put_stands (eq_by_cmp name_cmp u t) _ (fin.get (so_far done) u) (ap is_some (get-so_far done u) ∙ some_map (one_so_far done u) (fin.get s.tables u) ∙ h)

    target : (columns : FinMap name_cmp Column) (k : Kind) → has_target s.tables k ≡ true → has_target (table_so_far columns) k ≡ true
    target columns (kinds.Link u) h = stands columns u h
    target columns k h = h

    column_is : (c : List ℕ) (def : Column) → fin.get x.columns c ≡ Some def → column_in s.tables t c ≡ Some def
    column_is c def e = ap (option_and_then (λ (y : Table). fin.get y.columns c)) here ∙ e

    after_column : (columns : FinMap name_cmp Column) (c : List ℕ) (def : Column) → after (only (table_so_far columns)) (NewColumn t c def) ≡ only (table_so_far (fin.insert columns c def))
    after_column columns c def =
        (λ i. with_objects
        (ap (λ y. elim y as (λ _. Tables) [ None ↦ table_so_far columns | Some table ↦ fin.insert (table_so_far columns) t (with_column c def table) ]) (got columns) i)
        (map_with-empty object_total object_exact (with_default t c def) i))
        ∙ ap only (put_twice name_total name_exact (so_far done) t _ _)

    column_runs : (columns : FinMap name_cmp Column) (c : List ℕ) (def : Column) → fin.get x.columns c ≡ Some def → fin.get columns c ≡ None → Runs (NewColumn t c def ∷ []) (only (table_so_far columns)) (only (table_so_far (fin.insert columns c def)))
    column_runs columns c def e n =
        let is = ok.columns t c def (column_is c def e) in
        alone act_effect (NewColumn t c def) (only (table_so_far columns)) (only (table_so_far (fin.insert columns c def)))
        (step (NewColumn t c def) (only (table_so_far columns)) (only (table_so_far (fin.insert columns c def))) tt
        (acts (only (table_so_far columns)) (NewColumn t c def) (record {
          there = ap is_some (got columns);
          new = ap (λ y. is_some (option_and_then (λ (z : Table). fin.get z.columns c) y)) (got columns) ∙ ap is_some n;
          sound = is.0;
          target = target columns def.kind is.1;
        })) (after_column columns c def))

    before : table_so_far fin.empty ≡ so_far done
    before = put_same name_total name_exact (so_far done) t (bare x) (get-so_far done t ∙ ap (option_map (one_so_far done t)) here ∙ ap (λ z. Some (cond (is_some z) x (bare x))) new)

    behind : table_so_far x.columns ≡ so_far (fin.insert done t x)
    behind = fin.same_map name_total name_exact _ _ (λ u.
        fin.get-insert name_total (so_far done) t x u
        ∙ ap (cond (eq_by_cmp name_cmp u t) (Some x)) (get-so_far done u)
        ∙ elim (eq_by_cmp name_cmp u t) as (λ b. eq_by_cmp name_cmp u t ≡ b → cond b (Some x) (option_map (one_so_far done u) (fin.get s.tables u)) ≡ option_map (λ y. cond (is_some (cond b (Some x) (fin.get done u))) y (bare y)) (fin.get s.tables u)) [
          | true ↦ λ e. ap (option_map (λ (y : Table). y)) (sym (ap (fin.get s.tables) (tied_is name_exact u t e) ∙ here))
          | false ↦ λ _. refl
        ] refl
        ∙ ap (λ z. option_map (λ y. cond (is_some z) y (bare y)) (fin.get s.tables u)) (sym (fin.get-insert name_total done t x u))
        ∙ sym (get-so_far (fin.insert done t x) u))

    columns_run : Runs (columns_of t x) (only (so_far done)) (only (so_far (fin.insert done t x)))
    columns_run =
        subst (λ ts. Runs (columns_of t x) (only ts) (only (so_far (fin.insert done t x)))) before
        (subst (λ ts. Runs (columns_of t x) (only (table_so_far fin.empty)) (only ts)) behind
        (subst (λ ds. Runs ds (only (table_so_far fin.empty)) (only (table_so_far x.columns))) (joined_singles (λ (e : List ℕ × Column). NewColumn t e.0 e.1) (fin.entries x.columns))
        (walk name_total name_exact Runs (λ z. refl) runs_on (λ e. NewColumn t e.0 e.1 ∷ []) (λ columns. only (table_so_far columns)) x.columns column_runs)))

  pub all_columns_run : Runs (new_columns s) (only (bare_tables s.tables)) (only s.tables)
  all_columns_run =
      subst (λ ts. Runs (new_columns s) (only (bare_tables s.tables)) (only ts)) last
      (subst (λ ts. Runs (new_columns s) (only ts) (only (so_far s.tables))) first
      (walk name_total name_exact Runs (λ z. refl) runs_on (λ e. columns_of e.0 e.1) (λ done. only (so_far done)) s.tables columns_run))
