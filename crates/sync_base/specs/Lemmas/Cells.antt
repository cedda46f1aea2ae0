-- The cells after an instruction.
use Rattle.std.specs.Prelude.{◌≡◌, ℕ, Bool, true, false, cond, ◌&&◌, List, is_some, Option, None, Some, refl}
use Rattle.std.specs.declared.cmp.Ordering.{Ordering}
use Rattle.std.specs.Option.{option_map, option_and_then, unwrap_or}
use Rattle.std.specs.Ordering.{eq_by_cmp, is_eq}
use Rattle.std.specs.Cmp.{IsTotalOrder, tied_itself, tied_then}
use Rattle.std.specs.FinMap as map
use Rattle.std.proofs.Common.{sym, ◌∙◌, ap}
use Rattle.sync_base.specs.After.{edited, default_of, tables_after, after, with_default, with_column, new_cells, changed}
use Rattle.sync_base.specs.Effects.{ObjectName, CellPath, Edit, Effect, NewTable, NewColumn, Create, Erase, Change}
use Rattle.sync_base.specs.Lemmas.Looks.{name_total, name_exact, object_total, object_exact}
use Rattle.sync_base.specs.Lemmas.Maps.{get-map_with, tied_is}
use Rattle.sync_base.specs.Lemmas.Shaped.{IsShaped}
use Rattle.sync_base.specs.Merged.{path_cmp, touch, cell_or_default}
use Rattle.sync_base.specs.States.{State, Table, Cell, Cells, object_cmp, column_in, has, cell_at, Tables}
use Rattle.sync_data.specs.Orders.{name_cmp}
use Rattle.sync_data.specs.declared.column.Column.{Column}

-- ---- the tables after an instruction, by their columns
pub same_itself : {K : Type 0} {R : K → K → Ordering} → IsTotalOrder R → (x : K) → eq_by_cmp R x x ≡ true
same_itself o x = ap is_eq (tied_itself o x)

-- a new column is there, and each other stays
pub column-after : (ts : Tables) (t c : List ℕ) (def : Column) (u d : List ℕ) → is_some (map.get ts t) ≡ true
    → column_in (tables_after (NewColumn t c def) ts) u d ≡ cond (eq_by_cmp name_cmp u t && eq_by_cmp name_cmp d c) (Some def) (column_in ts u d)
column-after ts t c def u d there =
    elim (map.get ts t) as (λ x. map.get ts t ≡ x → is_some x ≡ true → column_in (elim x [ None ↦ ts | Some table ↦ map.insert ts t (with_column c def table) ]) u d ≡ cond (eq_by_cmp name_cmp u t && eq_by_cmp name_cmp d c) (Some def) (column_in ts u d)) [
      | None ↦ λ _ h. cc
      | Some table ↦ λ e _.
          ap (option_and_then (λ x. map.get x.columns d)) (map.get-insert name_total ts t (with_column c def table) u)
          ∙ elim (eq_by_cmp name_cmp u t) as (λ b. eq_by_cmp name_cmp u t ≡ b → option_and_then (λ x. map.get x.columns d) (cond b (Some (with_column c def table)) (map.get ts u)) ≡ cond (b && eq_by_cmp name_cmp d c) (Some def) (column_in ts u d)) [
            | true ↦ λ t2. map.get-insert name_total table.columns c def d
                ∙ ap (λ x. cond (eq_by_cmp name_cmp d c) (Some def) (option_and_then (λ y. map.get y.columns d) x)) (sym (ap (map.get ts) (tied_is name_exact u t t2) ∙ e))
            | false ↦ λ _. refl
          ] refl
    ] refl there

-- ---- a cell after an instruction
abbrev pub touched : Option Edit → Cell → Cell
touched None x = x
touched (Some e) x = edited e x

pub none_is : {X : Type 0} (x : Option X) → is_some x ≡ false → x ≡ None
none_is None h = refl
none_is (Some x) h = cc

by_default : (x : Option Cell) (y : Option Column) → is_some x ≡ is_some y → x ≡ option_map (λ def. unwrap_or x (default_of def)) y
by_default None None h = refl
by_default None (Some d) h = cc
by_default (Some x) None h = cc
by_default (Some x) (Some d) h = refl

pub cell_is : (s : State) → IsShaped s → (o : ObjectName) (c : List ℕ) → has s o ≡ true → cell_at s o c ≡ option_map (cell_or_default s o c) (column_in s.tables o.0 c)
cell_is s ok o c here = by_default (cell_at s o c) (column_in s.tables o.0 c) (ok.filled o c here)

-- a cell of an object that stands: what the instruction does to what was there, or to the default
abbrev pub CellAfter : State → Effect → ObjectName → List ℕ → Type 0
CellAfter s d o c = cell_at (after s d) o c ≡ option_map (λ def. touched (touch d (o, c)) (cell_or_default s o c def)) (column_in (tables_after d s.tables) o.0 c)

pub no_other_column : (s : State) → (t : List ℕ) (u d : List ℕ) (x : Table) → is_some (map.get s.tables t) ≡ false → is_some (map.get s.tables u) ≡ true → column_in (map.insert s.tables t x) u d ≡ column_in s.tables u d
no_other_column s t u d x new there =
    ap (option_and_then (λ y. map.get y.columns d)) (map.get-insert name_total s.tables t x u)
    ∙ elim (eq_by_cmp name_cmp u t) as (λ b. eq_by_cmp name_cmp u t ≡ b → option_and_then (λ y. map.get y.columns d) (cond b (Some x) (map.get s.tables u)) ≡ column_in s.tables u d) [
      | true ↦ λ e. absurd (let f : true ≡ false = sym there ∙ ap (λ v. is_some (map.get s.tables v)) (tied_is name_exact u t e) ∙ new in cc)
      | false ↦ λ _. refl
    ] refl

pub cell-new_table : (s : State) → IsShaped s → (t : List ℕ) (k : _) (o : ObjectName) (c : List ℕ) → is_some (map.get s.tables t) ≡ false → has s o ≡ true → CellAfter s (NewTable t k) o c
cell-new_table s ok t k o c new here =
    cell_is s ok o c here ∙ ap (option_map (cell_or_default s o c)) (sym (no_other_column s t o.0 c _ new (ok.housed o here)))

at_new_column : (s : State) → IsShaped s → (t k : List ℕ) (def : Column) (o : ObjectName) (c : List ℕ) (b d : Bool) → eq_by_cmp name_cmp o.0 t ≡ b → eq_by_cmp name_cmp c k ≡ d → is_some (column_in s.tables t k) ≡ false → has s o ≡ true
    → cond (b && d) (Some (default_of def)) (cell_at s o c) ≡ option_map (cell_or_default s o c) (cond (b && d) (Some def) (column_in s.tables o.0 c))
at_new_column s ok t k def o c true true p q new here =
    let none : cell_at s o c ≡ None = none_is _ (ok.filled o c here ∙ (λ i. is_some (column_in s.tables (tied_is name_exact o.0 t p i) (tied_is name_exact c k q i))) ∙ new) in
    ap (λ x. Some (unwrap_or x (default_of def))) (sym none)
at_new_column s ok t k def o c true false p q new here = cell_is s ok o c here
at_new_column s ok t k def o c false d p q new here = cell_is s ok o c here

pub got_default : (t k : List ℕ) (def : Column) (o : ObjectName) (c : List ℕ) (x : Option Cells) → is_some x ≡ true
    → option_and_then (λ m. map.get m c) (option_map (with_default t k def o) x) ≡ cond (eq_by_cmp name_cmp o.0 t && eq_by_cmp name_cmp c k) (Some (default_of def)) (option_and_then (λ m. map.get m c) x)
got_default t k def o c None h = cc
got_default t k def o c (Some cells) h =
    elim (eq_by_cmp name_cmp o.0 t) as (λ b. map.get (cond b (map.insert cells k (default_of def)) cells) c ≡ cond (b && eq_by_cmp name_cmp c k) (Some (default_of def)) (map.get cells c)) [
      | true ↦ map.get-insert name_total cells k (default_of def) c
      | false ↦ refl
    ]

pub cell-new_column : (s : State) → IsShaped s → (t k : List ℕ) (def : Column) (o : ObjectName) (c : List ℕ) → is_some (map.get s.tables t) ≡ true → is_some (column_in s.tables t k) ≡ false → has s o ≡ true → CellAfter s (NewColumn t k def) o c
cell-new_column s ok t k def o c there new here =
    ap (option_and_then (λ m. map.get m c)) (get-map_with (with_default t k def) object_exact s.objects o)
    ∙ got_default t k def o c (map.get s.objects o) here
    ∙ at_new_column s ok t k def o c _ _ refl refl new here
    ∙ ap (option_map (cell_or_default s o c)) (sym (column-after s.tables t k def o.0 c there))

pub got_new : (x : Option Table) (c : List ℕ) → map.get (new_cells x) c ≡ option_map default_of (option_and_then (λ t. map.get t.columns c) x)
got_new None c = map.get-empty name_cmp c
got_new (Some t) c = get-map_with (λ c def. default_of def) name_exact t.columns c

pub cell-create : (s : State) → IsShaped s → (p o : ObjectName) (c : List ℕ) → has (after s (Create p)) o ≡ true → CellAfter s (Create p) o c
cell-create s ok p o c here =
    elim (has s p) as (λ b. has s p ≡ b → is_some (map.get (cond b s.objects (map.insert s.objects p (new_cells (map.get s.tables p.0)))) o) ≡ true
    → option_and_then (λ m. map.get m c) (map.get (cond b s.objects (map.insert s.objects p (new_cells (map.get s.tables p.0)))) o) ≡ option_map (cell_or_default s o c) (column_in s.tables o.0 c)) [
      | true ↦ λ _ h. cell_is s ok o c h
      | false ↦ λ new h.
          ap (option_and_then (λ m. map.get m c)) (map.get-insert object_total s.objects p _ o)
          ∙ elim (eq_by_cmp object_cmp o p) as (λ b. eq_by_cmp object_cmp o p ≡ b → is_some (cond b (Some (new_cells (map.get s.tables p.0))) (map.get s.objects o)) ≡ true → option_and_then (λ m. map.get m c) (cond b (Some (new_cells (map.get s.tables p.0))) (map.get s.objects o)) ≡ option_map (cell_or_default s o c) (column_in s.tables o.0 c)) [
            | true ↦ λ e _.
                let none : map.get s.objects o ≡ None = none_is _ (ap (has s) (tied_is object_exact o p e) ∙ new) in
                ap (λ q. map.get (new_cells (map.get s.tables q.0)) c) (sym (tied_is object_exact o p e)) ∙ got_new (map.get s.tables o.0) c
                ∙ ap (λ x. option_map (λ def. unwrap_or (option_and_then (λ (m : Cells). map.get m c) x) (default_of def)) (column_in s.tables o.0 c)) (sym none)
            | false ↦ λ _ g. cell_is s ok o c g
          ] refl (ap is_some (sym (map.get-insert object_total s.objects p _ o)) ∙ h)
    ] refl here

pub cell-erase : (s : State) → IsShaped s → (p o : ObjectName) (c : List ℕ) → has (after s (Erase p)) o ≡ true → CellAfter s (Erase p) o c
cell-erase s ok p o c here =
    ap (option_and_then (λ m. map.get m c)) (map.get-remove object_total s.objects p o)
    ∙ elim (eq_by_cmp object_cmp o p) as (λ b. is_some (cond b None (map.get s.objects o)) ≡ true → option_and_then (λ (m : Cells). map.get m c) (cond b None (map.get s.objects o)) ≡ option_map (cell_or_default s o c) (column_in s.tables o.0 c)) [
      | true ↦ λ h. cc
      | false ↦ λ h. cell_is s ok o c h
    ] (ap is_some (sym (map.get-remove object_total s.objects p o)) ∙ here)

-- a place is one object's and one column's
path_test : (o p : ObjectName) (c k : List ℕ) → (eq_by_cmp object_cmp o p && eq_by_cmp name_cmp c k) ≡ eq_by_cmp path_cmp (o, c) (p, k)
path_test o p c k = tied_then (object_cmp o p) (name_cmp c k)

got_changed : (k c : List ℕ) (e : Edit) (cells : Cells) → is_some (map.get cells k) ≡ true
    → map.get (changed k e cells) c ≡ cond (eq_by_cmp name_cmp c k) (option_map (edited e) (map.get cells c)) (map.get cells c)
got_changed k c e cells there =
    elim (map.get cells k) as (λ x. map.get cells k ≡ x → is_some x ≡ true → map.get (elim x [ None ↦ cells | Some y ↦ map.insert cells k (edited e y) ]) c ≡ cond (eq_by_cmp name_cmp c k) (option_map (edited e) (map.get cells c)) (map.get cells c)) [
      | None ↦ λ _ h. cc
      | Some y ↦ λ is _. map.get-insert name_total cells k (edited e y) c
          ∙ elim (eq_by_cmp name_cmp c k) as (λ b. eq_by_cmp name_cmp c k ≡ b → cond b (Some (edited e y)) (map.get cells c) ≡ cond b (option_map (edited e) (map.get cells c)) (map.get cells c)) [
            | true ↦ λ t. ap (option_map (edited e)) (sym (ap (map.get cells) (tied_is name_exact c k t) ∙ is))
            | false ↦ λ _. refl
          ] refl
    ] refl there

pub map_itself : (x : Option Cell) → option_map (touched None) x ≡ x
map_itself None = refl
map_itself (Some y) = refl

-- an edit changes its cell and no other
pub got_edited : (s : State) (p : CellPath) (e : Edit) (o : ObjectName) (c : List ℕ) → is_some (cell_at s p.0 p.1) ≡ true
    → cell_at (after s (Change p e)) o c ≡ option_map (touched (touch (Change p e) (o, c))) (cell_at s o c)
got_edited s p e o c there =
    elim (map.get s.objects p.0) as (λ x. map.get s.objects p.0 ≡ x → is_some (option_and_then (λ (m : Cells). map.get m p.1) x) ≡ true
    → option_and_then (λ (m : Cells). map.get m c) (map.get (elim x [ None ↦ s.objects | Some cells ↦ map.insert s.objects p.0 (changed p.1 e cells) ]) o) ≡ option_map (touched (touch (Change p e) (o, c))) (cell_at s o c)) [
      | None ↦ λ _ h. cc
      | Some cells ↦ λ is h.
          ap (option_and_then (λ (m : Cells). map.get m c)) (map.get-insert object_total s.objects p.0 (changed p.1 e cells) o)
          ∙ elim (eq_by_cmp object_cmp o p.0) as (λ b. eq_by_cmp object_cmp o p.0 ≡ b → option_and_then (λ (m : Cells). map.get m c) (cond b (Some (changed p.1 e cells)) (map.get s.objects o)) ≡ option_map (touched (cond (b && eq_by_cmp name_cmp c p.1) (Some e) None)) (cell_at s o c)) [
            | true ↦ λ t.
                let same : cell_at s o c ≡ map.get cells c = ap (option_and_then (λ (m : Cells). map.get m c)) (ap (map.get s.objects) (tied_is object_exact o p.0 t) ∙ is) in
                got_changed p.1 c e cells h
                ∙ elim (eq_by_cmp name_cmp c p.1) as (λ b. cond b (option_map (edited e) (map.get cells c)) (map.get cells c) ≡ option_map (touched (cond b (Some e) None)) (map.get cells c)) [
                  | true ↦ refl
                  | false ↦ sym (map_itself (map.get cells c))
                ]
                ∙ ap (option_map (touched (cond (eq_by_cmp name_cmp c p.1) (Some e) None))) (sym same)
            | false ↦ λ _. sym (map_itself (cell_at s o c))
          ] refl
          ∙ ap (λ b. option_map (touched (cond b (Some e) None)) (cell_at s o c)) (path_test o p.0 c p.1)
    ] refl there

map_map : (f : Cell → Cell) (g : Column → Cell) (x : Option Column) → option_map f (option_map g x) ≡ option_map (λ d. f (g d)) x
map_map f g None = refl
map_map f g (Some d) = refl

pub cell-change : (s : State) → IsShaped s → (p : CellPath) (e : Edit) (o : ObjectName) (c : List ℕ) → is_some (cell_at s p.0 p.1) ≡ true → has s o ≡ true → CellAfter s (Change p e) o c
cell-change s ok p e o c there here =
    got_edited s p e o c there ∙ ap (option_map (touched (touch (Change p e) (o, c)))) (cell_is s ok o c here) ∙ map_map _ _ _
