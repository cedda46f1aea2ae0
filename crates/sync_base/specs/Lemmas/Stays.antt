-- What an instruction found is still found after another that doesn't concern it.
use Rattle.std.specs.Prelude.{◌≡◌, ℕ, Bool, true, false, cond, not, ◌&&◌, ◌||◌, List, is_some, Option, None, Some, refl}
use Rattle.std.specs.Option.{option_map, option_map_or, unwrap_or}
use Rattle.std.specs.Ordering.{eq_by_cmp}
use Rattle.std.specs.FinMap as map
use Rattle.std.proofs.Common.{sym, ◌∙◌, ap}
use Rattle.sync_base.specs.After.{default_of, tables_after, after, with_column}
use Rattle.sync_base.specs.Checks.{is_prior, edit_fits, column_check, has_shape}
use Rattle.sync_base.specs.Effects.{ObjectName, CellPath, Edit, Effect, Set, Add, Replace, Insert, Remove, Include, Exclude, Bind, Empty, NewTable, NewColumn, Create, Erase, Change}
use Rattle.sync_base.specs.Lemmas.Cells.{touched}
use Rattle.sync_base.specs.Lemmas.Looks.{name_total, name_exact, has-after, creates, erases}
use Rattle.sync_base.specs.Lemmas.Maps.{tied_is}
use Rattle.sync_base.specs.Lemmas.Shaped.{IsShaped}
use Rattle.sync_base.specs.Lemmas.Steps.{Found, FoundCell, cell-after, table_stays, column_stays, clash, some_is}
use Rattle.sync_base.specs.Merged.{touch, cell_or_default}
use Rattle.sync_base.specs.States.{State, Table, Cell, column_in, has, cell_at, Tables, is_key_of, is_of_kind, is_of, is_null, fits, shape_rank}
use Rattle.sync_data.specs.Orders.{name_cmp}
use Rattle.sync_data.specs.declared.key.Key.{Key}
use Rattle.sync_data.specs.declared.column.Column.{Column}
use Rattle.sync_data.specs.declared.value.Value.{Value}
use Rattle.sync_data.specs.declared.value.Value.TheVariants as values
use Rattle.sync_data.specs.declared.column.Kind.{Kind}
use Rattle.sync_data.specs.declared.column.Kind.TheVariants as kinds

-- ---- the key kind of a table stays
key_there : (x : Option Table) (k : Key) → option_map_or (λ table. is_of_kind table.key k) x false ≡ true → is_some x ≡ true
key_there None k h = cc
key_there (Some t) k h = refl

pub key_stays : (s : State) (a : Effect) → Found s a → (u : List ℕ) (k : Key) → is_key_of s.tables u k ≡ true → is_key_of (tables_after a s.tables) u k ≡ true
key_stays s (NewTable t j) f u k h =
    let new : Table = record { key = j; columns = map.empty } in
    ap (λ x. option_map_or (λ table. is_of_kind table.key k) x false) (map.get-insert name_total s.tables t new u)
    ∙ elim (eq_by_cmp name_cmp u t) as (λ b. eq_by_cmp name_cmp u t ≡ b → option_map_or (λ table. is_of_kind table.key k) (cond b (Some new) (map.get s.tables u)) false ≡ true) [
      | true ↦ λ e. clash (is_some (map.get s.tables t)) (ap (λ v. is_some (map.get s.tables v)) (sym (tied_is name_exact u t e)) ∙ key_there (map.get s.tables u) k h) f.new
      | false ↦ λ _. h
    ] refl
key_stays s (NewColumn t c def) f u k h =
    elim (map.get s.tables t) as (λ x. map.get s.tables t ≡ x → is_key_of (elim x [ None ↦ s.tables | Some table ↦ map.insert s.tables t (with_column c def table) ]) u k ≡ true) [
      | None ↦ λ _. h
      | Some table ↦ λ is.
          ap (λ x. option_map_or (λ table. is_of_kind table.key k) x false) (map.get-insert name_total s.tables t (with_column c def table) u)
          ∙ elim (eq_by_cmp name_cmp u t) as (λ b. eq_by_cmp name_cmp u t ≡ b → option_map_or (λ table. is_of_kind table.key k) (cond b (Some (with_column c def table)) (map.get s.tables u)) false ≡ true) [
            | true ↦ λ e. ap (λ x. option_map_or (λ table. is_of_kind table.key k) x false) (sym (ap (map.get s.tables) (tied_is name_exact u t e) ∙ is)) ∙ h
            | false ↦ λ _. h
          ] refl
    ] refl
key_stays s (Create p) f u k h = h
key_stays s (Erase p) f u k h = h
key_stays s (Change p e) f u k h = h

-- ---- a value that fits still fits
and_mono : (x y z : Bool) → (x && y) ≡ true → (y ≡ true → z ≡ true) → (x && z) ≡ true
and_mono true y z h g = g h
and_mono false y z h g = cc

of_stays : (s : State) (a : Effect) → Found s a → (k : Kind) (v : Value) → is_of s.tables k v ≡ true → is_of (tables_after a s.tables) k v ≡ true
of_stays s a f (kinds.Link t) (values.Link u k) h = and_mono (eq_by_cmp name_cmp t u) _ _ h (key_stays s a f t k)
of_stays s a f k v h = h

fits_at : (s : State) (a : Effect) → Found s a → (col : Column) (v : Value) (b : Bool) → cond b col.nullable (is_of s.tables col.kind v) ≡ true → cond b col.nullable (is_of (tables_after a s.tables) col.kind v) ≡ true
fits_at s a f col v true h = h
fits_at s a f col v false h = of_stays s a f col.kind v h

pub fits_stays : (s : State) (a : Effect) → Found s a → (col : Column) (v : Value) → fits s.tables col v ≡ true → fits (tables_after a s.tables) col v ≡ true
fits_stays s a f col v h = fits_at s a f col v (is_null v) h

edit_fits_stays : (s : State) (a : Effect) → Found s a → (col : Column) (e : Edit) → edit_fits s.tables col e ≡ true → edit_fits (tables_after a s.tables) col e ≡ true
edit_fits_stays s a f col (Set v) h = fits_stays s a f col v h
edit_fits_stays s a f col (Add n) h = h
edit_fits_stays s a f col (Replace t v) h = fits_stays s a f col v h
edit_fits_stays s a f col (Insert t v) h = fits_stays s a f col v h
edit_fits_stays s a f col (Remove t) h = h
edit_fits_stays s a f col (Include v) h = fits_stays s a f col v h
edit_fits_stays s a f col (Exclude v) h = fits_stays s a f col v h
edit_fits_stays s a f col (Bind k (Some v)) h = fits_stays s a f col v h
edit_fits_stays s a f col (Bind k None) h = h
edit_fits_stays s a f col Empty h = h

-- ---- a column that was found, with what was asked of it
checked_there : (p : Column → Bool) (x : Option Column) → column_check p x ≡ true → is_some x ≡ true
checked_there p None h = cc
checked_there p (Some c) h = refl

check_mono : (p q : Column → Bool) → ((c : Column) → p c ≡ true → q c ≡ true) → (x y : Option Column) → ((c : Column) → x ≡ Some c → y ≡ Some c) → column_check p x ≡ true → column_check q y ≡ true
check_mono p q g None y st h = cc
check_mono p q g (Some c) y st h = ap (column_check q) (st c refl) ∙ g c h

some_mono : (x y : Option Column) → ((c : Column) → x ≡ Some c → y ≡ Some c) → is_some x ≡ true → is_some y ≡ true
some_mono None y st h = cc
some_mono (Some c) y st h = ap is_some (st c refl)

-- the parts of what a change of a cell found that the tables tell
pub record FoundSchema (ts : Tables) (p : CellPath) (e : Edit) : Type 0 where
  pub there : is_some (map.get ts p.0.0) ≡ true
  pub key : is_key_of ts p.0.0 p.0.1 ≡ true
  pub column : is_some (column_in ts p.0.0 p.1) ≡ true
  pub shape : column_check (λ c. has_shape e (shape_rank c.shape)) (column_in ts p.0.0 p.1) ≡ true
  pub value : column_check (λ c. edit_fits ts c e) (column_in ts p.0.0 p.1) ≡ true

pub schema_stays : (s : State) (a : Effect) → Found s a → (p : CellPath) (e : Edit) → FoundSchema s.tables p e → FoundSchema (tables_after a s.tables) p e
schema_stays s a f p e h =
    let st : (c : Column) → column_in s.tables p.0.0 p.1 ≡ Some c → column_in (tables_after a s.tables) p.0.0 p.1 ≡ Some c = λ c. column_stays s a f p.0.0 p.1 c in
    record {
      there = table_stays s.tables a p.0.0 h.there;
      key = key_stays s a f p.0.0 p.0.1 h.key;
      column = some_mono (column_in s.tables p.0.0 p.1) _ st h.column;
      shape = check_mono (λ c. has_shape e (shape_rank c.shape)) _ (λ c g. g) (column_in s.tables p.0.0 p.1) _ st h.shape;
      value = check_mono (λ c. edit_fits s.tables c e) (λ c. edit_fits (tables_after a s.tables) c e) (λ c g. edit_fits_stays s a f c e g) (column_in s.tables p.0.0 p.1) _ st h.value;
    }

pub schema_of : (s : State) (p : CellPath) (e : Edit) → FoundCell s p e → FoundSchema s.tables p e
schema_of s p e f = record { there = f.there; key = f.key; column = f.column; shape = f.shape; value = f.value }

pub cell_found : (s : State) (p : CellPath) (e : Edit) → FoundSchema s.tables p e → has s p.0 ≡ true → option_map_or (is_prior e) (cell_at s p.0 p.1) false ≡ true → FoundCell s p e
cell_found s p e h here prior = record { there = h.there; key = h.key; present = here; column = h.column; shape = h.shape; value = h.value; prior = prior }

-- ---- an object stays unless it is erased
or_true : (b : Bool) → (b || true) ≡ true
or_true true = refl
or_true false = refl

pub object_stays : (s : State) (a : Effect) (o : ObjectName) → erases a o ≡ false → has s o ≡ true → has (after s a) o ≡ true
object_stays s a o left here = has-after s a o ∙ (λ i. not (left i) && (creates a o || here i)) ∙ or_true (creates a o)

-- ---- a cell that stands and isn't touched keeps its prior
-- what the cell holds afterwards
pub cell_stays : (s : State) → IsShaped s → (a : Effect) → Found s a → (o : ObjectName) (c : List ℕ) (x : Cell) → erases a o ≡ false → has s o ≡ true → cell_at s o c ≡ Some x → cell_at (after s a) o c ≡ Some (touched (touch a (o, c)) x)
cell_stays s ok a f o c x left here is =
    let col = some_is (column_in s.tables o.0 c) (sym (ok.filled o c here) ∙ ap is_some is) in
    cell-after s ok a f o c (object_stays s a o left here)
    ∙ ap (option_map (λ def. touched (touch a (o, c)) (cell_or_default s o c def))) (column_stays s a f o.0 c col.0 col.1)
    ∙ ap (λ y. Some (touched (touch a (o, c)) (unwrap_or y (default_of col.0)))) is
