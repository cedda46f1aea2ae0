-- How long a list is after an instruction.
use Rattle.std.proofs.Common.{◌≡◌, ℕ, ◌+◌, ◌-◌, Bool, true, false, cond, List, length, Option, None, Some, is_some, refl, sym, ◌∙◌, ap, arith}
use Rattle.std.specs.Option.{option_map, option_map_or, option_and_then, unwrap_or}
use Rattle.std.specs.Ordering.{eq_by_cmp}
use Rattle.std.specs.FinMap as map
use Rattle.std.proofs.lemmas.Bool.{eqb-true}
use Rattle.std.proofs.lemmas.List.{length-set}
use Rattle.std.proofs.lemmas.List.Edits.{length-insert, length-remove}
use Rattle.sync_data.specs.declared.column.Column.{Column}
use Rattle.sync_data.specs.declared.column.Shape.{Shape}
use Rattle.sync_data.specs.declared.column.Shape.TheVariants as shapes
use Rattle.sync_base.specs.After.{after, default_by, default_of, edited}
use Rattle.sync_base.specs.Checks.{column_check, has_shape, is_prior, size}
use Rattle.sync_base.specs.Effects.{ObjectName, CellPath, Edit, Effect, Set, Add, Replace, Insert, Remove, Include, Exclude, Bind, Empty, NewTable, NewColumn, Create, Erase, Change}
use Rattle.sync_base.specs.Lemmas.Cells.{got_edited, map_itself, none_is, touched}
use Rattle.sync_base.specs.Lemmas.Looks.{path_exact}
use Rattle.sync_base.specs.Lemmas.Maps.{tied_is}
use Rattle.sync_base.specs.Lemmas.Shaped.{IsEdit, IsShaped}
use Rattle.sync_base.specs.Lemmas.Steps.{Found, FoundCell, cell-after, column_stays}
use Rattle.sync_base.specs.Merged.{cell_or_default, path_cmp}
use Rattle.sync_base.specs.States.{State, Cell, One, Many, Members, Dict, cell_at, cell_rank, column_in, has, shape_rank}
use Rattle.sync_app.specs.Sizes.{size_at}

-- the length after an edit
abbrev pub resized : Edit → ℕ → ℕ
resized (Insert s v) n = s.prior + 1
resized (Remove s) n = s.prior - 1
resized Empty n = 0
resized e n = n

abbrev Resizes : Edit → Cell → Type 0
Resizes e x = has_shape e (cell_rank x) ≡ true → is_prior e x ≡ true → IsEdit e → size (edited e x) ≡ resized e (size x)

size_edited : (e : Edit) (x : Cell) → Resizes e x
size_edited (Set v) (One w) h p q = refl
size_edited (Set v) (Many xs) h p q = refl
size_edited (Set v) (Members xs) h p q = refl
size_edited (Set v) (Dict m) h p q = refl
size_edited (Add n) (One w) h p q = refl
size_edited (Add n) (Many xs) h p q = refl
size_edited (Add n) (Members xs) h p q = refl
size_edited (Add n) (Dict m) h p q = refl
size_edited (Replace s v) (One w) h p q = refl
size_edited (Replace s v) (Many xs) h p q = length-set xs s.place v
size_edited (Replace s v) (Members xs) h p q = refl
size_edited (Replace s v) (Dict m) h p q = refl
size_edited (Insert s v) (One w) h p q = cc
size_edited (Insert s v) (Many xs) h p q = let e = eqb-true s.prior (length xs) p in let l = length-insert xs s.place v (omega (e, q, arith)) in omega (e, l, arith)
size_edited (Insert s v) (Members xs) h p q = cc
size_edited (Insert s v) (Dict m) h p q = cc
size_edited (Remove s) (One w) h p q = cc
size_edited (Remove s) (Many xs) h p q = let e = eqb-true s.prior (length xs) p in let l = length-remove xs s.place (omega (e, q, arith)) in omega (e, l, arith)
size_edited (Remove s) (Members xs) h p q = cc
size_edited (Remove s) (Dict m) h p q = cc
size_edited (Include v) (One w) h p q = refl
size_edited (Include v) (Many xs) h p q = refl
size_edited (Include v) (Members xs) h p q = refl
size_edited (Include v) (Dict m) h p q = refl
size_edited (Exclude v) (One w) h p q = refl
size_edited (Exclude v) (Many xs) h p q = refl
size_edited (Exclude v) (Members xs) h p q = refl
size_edited (Exclude v) (Dict m) h p q = refl
size_edited (Bind k v) (One w) h p q = refl
size_edited (Bind k v) (Many xs) h p q = refl
size_edited (Bind k v) (Members xs) h p q = refl
size_edited (Bind k v) (Dict m) h p q = refl
size_edited Empty (One w) h p q = refl
size_edited Empty (Many xs) h p q = refl
size_edited Empty (Members xs) h p q = refl
size_edited Empty (Dict m) h p q = refl

-- ---- a cell that is found
pub record There (x : Option Cell) : Type 0 where
  pub cell : Cell
  pub is : x ≡ Some cell

pub there : (x : Option Cell) → is_some x ≡ true → There x
there None h = cc
there (Some x) h = record { cell = x; is = refl }

prior_there : (e : Edit) (x : Option Cell) → option_map_or (is_prior e) x false ≡ true → There x
prior_there e None h = cc
prior_there e (Some x) h = record { cell = x; is = refl }

record Column_ (x : Option Column) : Type 0 where
  column : Column
  is : x ≡ Some column

column_there : (x : Option Column) → is_some x ≡ true → Column_ x
column_there None h = cc
column_there (Some x) h = record { column = x; is = refl }

-- a change that acts makes its list as long as its edit says
pub size_here : (s : State) → IsShaped s → (p : CellPath) (e : Edit) → FoundCell s p e → IsEdit e → option_map_or size (option_map (edited e) (cell_at s p.0 p.1)) 0 ≡ resized e (size_at s p)
size_here s ok p e f q =
    let x = prior_there e (cell_at s p.0 p.1) f.prior in
    let col = column_there (column_in s.tables p.0.0 p.1) f.column in
    let rank = ok.shaped p.0 p.1 x.cell col.column x.is col.is in
    let shape : has_shape e (shape_rank col.column.shape) ≡ true = sym (ap (λ o. column_check (λ c. has_shape e (shape_rank c.shape)) o) col.is) ∙ f.shape in
    let prior : is_prior e x.cell ≡ true = sym (ap (λ o. option_map_or (is_prior e) o false) x.is) ∙ f.prior in
    ap (λ o. option_map_or size (option_map (edited e) o) 0) x.is
    ∙ size_edited e x.cell (ap (has_shape e) rank ∙ shape) prior q
    ∙ sym (ap (λ o. resized e (option_map_or size o 0)) x.is)

pub size_changed : (s : State) → IsShaped s → (p : CellPath) (e : Edit) → FoundCell s p e → IsEdit e → (q : CellPath)
    → size_at (after s (Change p e)) q ≡ cond (eq_by_cmp path_cmp q p) (resized e (size_at s p)) (size_at s q)
size_changed s ok p e f fine q =
    let x = prior_there e (cell_at s p.0 p.1) f.prior in
    ap (λ o. option_map_or size o 0) (got_edited s p e q.0 q.1 (ap is_some x.is))
    ∙ elim (eq_by_cmp path_cmp q p) as (λ b. eq_by_cmp path_cmp q p ≡ b → option_map_or size (option_map (touched (cond b (Some e) None)) (cell_at s q.0 q.1)) 0 ≡ cond b (resized e (size_at s p)) (size_at s q)) [
      | true ↦ λ t. ap (λ r. option_map_or size (option_map (edited e) (cell_at s r.0 r.1)) 0) (tied_is path_exact q p t) ∙ size_here s ok p e f fine
      | false ↦ λ _. ap (λ o. option_map_or size o 0) (map_itself (cell_at s q.0 q.1))
    ] refl

-- ---- an instruction that changes no cell leaves the lists of the objects that stand after it
default_empty : (s : Shape) (col : Column) → size (default_by s col) ≡ 0
default_empty shapes.One col = refl
default_empty shapes.List col = refl
default_empty shapes.Set col = refl
default_empty shapes.Dict col = refl

or_default : (x : Option Cell) (col : Column) → size (unwrap_or x (default_of col)) ≡ option_map_or size x 0
or_default None col = default_empty col.shape col
or_default (Some x) col = refl

then_some : {X Y : Type 0} (g : X → Option Y) (x : Option X) → is_some (option_and_then g x) ≡ true → is_some x ≡ true
then_some g None h = cc
then_some g (Some x) h = refl

cell_has : (s : State) (o : ObjectName) (c : List ℕ) → is_some (cell_at s o c) ≡ true → has s o ≡ true
cell_has s o c h = then_some (λ m. map.get m c) (map.get s.objects o) h

pub none_here : (s : State) (o : ObjectName) (c : List ℕ) → has s o ≡ false → size_at s (o, c) ≡ 0
none_here s o c h = ap (λ x. option_map_or size (option_and_then (λ m. map.get m c) x) 0) (none_is (map.get s.objects o) h)

abbrev changes_none : Effect → Bool
changes_none (Change p e) = false
changes_none d = true

is_default : (s : State) (o : ObjectName) (c : List ℕ) (col : Option Column) → (is_some (cell_at s o c) ≡ true → is_some col ≡ true)
    → option_map_or size (option_map (cell_or_default s o c) col) 0 ≡ size_at s (o, c)
is_default s o c (Some def) h = or_default (cell_at s o c) def
is_default s o c None h = sym (of (cell_at s o c) h)
  where
    of : (x : Option Cell) → (is_some x ≡ true → is_some {T = Column} None ≡ true) → option_map_or size x 0 ≡ 0
    of None h = refl
    of (Some x) h = let e : false ≡ true = h refl in cc

kept : (s : State) → IsShaped s → (d : Effect) → Found s d → (o : ObjectName) (c : List ℕ) → is_some (cell_at s o c) ≡ true → is_some (column_in (after s d).tables o.0 c) ≡ true
kept s ok d f o c h =
    let col = column_there (column_in s.tables o.0 c) (sym (ok.filled o c (cell_has s o c h)) ∙ h) in
    ap is_some (column_stays s d f o.0 c col.column col.is)

map_same : {X : Type 0} {f g : X → Cell} (x : Option X) → ((y : X) → f y ≡ g y) → option_map f x ≡ option_map g x
map_same None h = refl
map_same (Some y) h = ap Some (h y)

untouched : (s : State) → IsShaped s → (d : Effect) → Found s d → changes_none d ≡ true → (o : ObjectName) (c : List ℕ) → has (after s d) o ≡ true
    → cell_at (after s d) o c ≡ option_map (cell_or_default s o c) (column_in (after s d).tables o.0 c)
untouched s ok (Change p e) f n o c h = cc
untouched s ok (NewColumn t k def) f n o c h = cell-after s ok (NewColumn t k def) f o c h
untouched s ok (Create p) f n o c h = cell-after s ok (Create p) f o c h
untouched s ok (Erase p) f n o c h = cell-after s ok (Erase p) f o c h
untouched s ok (NewTable t k) f n o c h = cell-after s ok (NewTable t k) f o c h

pub size_stays : (s : State) → IsShaped s → (d : Effect) → Found s d → changes_none d ≡ true → (q : CellPath) → size_at (after s d) q ≡ cond (has (after s d) q.0) (size_at s q) 0
size_stays s ok d f n q =
    elim (has (after s d) q.0) as (λ b. has (after s d) q.0 ≡ b → size_at (after s d) q ≡ cond b (size_at s q) 0) [
      | true ↦ λ h. ap (λ x. option_map_or size x 0) (untouched s ok d f n q.0 q.1 h) ∙ is_default s q.0 q.1 (column_in (after s d).tables q.0.0 q.1) (kept s ok d f q.0 q.1)
      | false ↦ λ h. none_here (after s d) q.0 q.1 h
    ] refl
