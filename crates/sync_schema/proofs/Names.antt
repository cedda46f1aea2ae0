-- Maps by name, as the finite maps that they stand for; and what a table's change does to the tables.
use Rattle.std.specs.Prelude.{◌≡◌, ℕ, List, Option, None, Some, cond}
use Rattle.std.specs.FinMap as map
use Rattle.std.specs.BTreeMap as tree
use Rattle.std.specs.BTreeMap.{BTreeMap}
use Rattle.std.proofs.Common.{sym, ◌∙◌, ap}
use Rattle.sync_data.specs.Orders.{name_cmp}
use Rattle.sync_data.specs.declared.column.Column.{Column}
use Rattle.sync_base.specs.After.{tables_after, with_column}
use Rattle.sync_base.specs.Effects.{NewColumn}
use Rattle.sync_base.specs.Lemmas.Looks.{name_total, name_exact}
use Rattle.sync_base.specs.States.{Table, Tables}
use Rattle.sync_maps.specs.Seen.{seen_at, inserted, removed, written, insert_same}
use Rattle.sync_schema.specs.Steps.{without_column, tables_without_column}

module _ {X : Type 0} where
  -- what the code finds at a name is what stands there
  pub at_name : (m : BTreeMap (List ℕ) X) (q : List ℕ) {s : map.FinMap name_cmp X} {x : Option X} → map.from_entries {R = name_cmp} m.entries ≡ s → x ≡ tree.get name_cmp m q → map.get s q ≡ x
  at_name m q e h = seen_at name_total m q e h

  pub inserted_name : (m n : BTreeMap (List ℕ) X) (k : List ℕ) (v : X) → ((q : List ℕ) → tree.get name_cmp n q ≡ cond (tree.is_at (name_cmp k) q) (Some v) (tree.get name_cmp m q))
      → map.from_entries {R = name_cmp} n.entries ≡ map.insert (map.from_entries m.entries) k v
  inserted_name m n k v h = inserted name_total name_exact m n k v h

  pub removed_name : (m n : BTreeMap (List ℕ) X) (k : List ℕ) → ((q : List ℕ) → tree.get name_cmp n q ≡ cond (tree.is_at (name_cmp k) q) None (tree.get name_cmp m q))
      → map.from_entries {R = name_cmp} n.entries ≡ map.remove (map.from_entries m.entries) k
  removed_name m n k h = removed name_total name_exact m n k h

  -- a write through what was found at a name, where the map was seen as s
  pub written_name : (m : BTreeMap (List ℕ) X) (k : List ℕ) {v : X} {s : map.FinMap name_cmp X} → map.from_entries {R = name_cmp} m.entries ≡ s → Some v ≡ tree.get name_cmp m k
      → (n : BTreeMap (List ℕ) X) (w : X) → tree.WritesThrough name_cmp (name_cmp k) m w n → map.from_entries {R = name_cmp} n.entries ≡ map.insert s k w
  written_name m k e found n w h = written name_total name_exact m k found n w h ∙ ap (λ s. map.insert s k w) e

  -- where it is what stood there
  pub rewritten_name : (m : BTreeMap (List ℕ) X) (k : List ℕ) {v : X} {s : map.FinMap name_cmp X} → map.from_entries {R = name_cmp} m.entries ≡ s → Some v ≡ tree.get name_cmp m k
      → (n : BTreeMap (List ℕ) X) (w : X) → tree.WritesThrough name_cmp (name_cmp k) m w n → w ≡ v → map.from_entries {R = name_cmp} n.entries ≡ s
  rewritten_name m k {v} {s} e found n w h same =
      written_name m k e found n w h ∙ ap (map.insert s k) same ∙ insert_same name_total name_exact s k v (at_name m k e found)

-- ---- a table that gets a column, or loses one
pub column_put : (tables : Tables) (t c : List ℕ) (def : Column) {table : Table} → map.get tables t ≡ Some table → map.insert tables t (with_column c def table) ≡ tables_after (NewColumn t c def) tables
column_put tables t c def e = sym (ap (λ x. elim x [ None ↦ tables | Some table ↦ map.insert tables t (with_column c def table) ]) e)

pub column_not_put : (tables : Tables) (t c : List ℕ) (def : Column) → map.get tables t ≡ None → tables ≡ tables_after (NewColumn t c def) tables
column_not_put tables t c def e = sym (ap (λ x. elim x [ None ↦ tables | Some table ↦ map.insert tables t (with_column c def table) ]) e)

pub column_cut : (tables : Tables) (t c : List ℕ) {table : Table} → map.get tables t ≡ Some table → map.insert tables t (without_column c table) ≡ tables_without_column t c tables
column_cut tables t c e = sym (ap (λ x. elim x [ None ↦ tables | Some table ↦ map.insert tables t (without_column c table) ]) e)

pub column_not_cut : (tables : Tables) (t c : List ℕ) → map.get tables t ≡ None → tables ≡ tables_without_column t c tables
column_not_cut tables t c e = sym (ap (λ x. elim x [ None ↦ tables | Some table ↦ map.insert tables t (without_column c table) ]) e)
