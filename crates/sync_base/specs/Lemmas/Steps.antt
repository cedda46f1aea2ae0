-- What an instruction that acts leaves: a state, whose cells are told.
use Rattle.std.specs.Prelude.{◌≡◌, ℕ, Bool, true, false, cond, not, ◌&&◌, ◌||◌, List, [], ◌∷◌, is_some, Option, None, Some, refl}
use Rattle.std.specs.Option.{option_map, option_and_then, option_map_or, unwrap_or}
use Rattle.std.specs.Ordering.{eq_by_cmp}
use Rattle.std.specs.FinMap as map
use Rattle.std.proofs.Common.{sym, ◌∙◌, ap}
use Rattle.std.proofs.lemmas.Option.{same_Some}
use Rattle.sync_base.specs.After.{edited, default_of, default_by, tables_after, after, with_column}
use Rattle.sync_base.specs.Checks.{Acts, checks, first_failed, is_prior, column_check, has_shape, edit_fits}
use Rattle.sync_base.specs.Effects.{ObjectName, CellPath, Edit, Effect, Set, Add, Replace, Insert, Remove, Include, Exclude, Bind, Empty, NewTable, NewColumn, Create, Erase, Change}
use Rattle.sync_base.specs.Lemmas.Cells.{column-after, touched, CellAfter, none_is, cell-new_table, cell-new_column, cell-create, cell-erase, cell-change}
use Rattle.sync_base.specs.Lemmas.Looks.{name_total, name_exact, object_exact, has-after}
use Rattle.sync_base.specs.Lemmas.Maps.{tied_is}
use Rattle.sync_base.specs.Lemmas.Shaped.{IsShaped}
use Rattle.sync_base.specs.Merged.{touch, cell_or_default}
use Rattle.sync_base.specs.States.{State, Table, Cell, Cells, object_cmp, column_in, has, cell_at, One, Many, Members, Dict, Tables, cell_rank, is_key_of, shape_rank, is_sound_column, has_target}
use Rattle.sync_data.specs.Orders.{name_cmp}
use Rattle.sync_data.specs.declared.column.Shape.{Shape}
use Rattle.sync_data.specs.declared.column.Shape.TheVariants as shapes
use Rattle.sync_data.specs.declared.column.Column.{Column}
use Rattle.sync_base.specs.declared.answers.Break.{Break}

-- ---- what each check that passes tells
abbrev pub AllPass : List (Bool × Break) → Type 0
AllPass [] = Unit {0}
AllPass (c ∷ cs) = (c.0 ≡ true) × AllPass cs

pass_first : (b : Bool) (k : Break) (x : Option Break) → cond b x (Some k) ≡ None → (b ≡ true) × (x ≡ None)
pass_first true k x h = (refl, h)
pass_first false k x h = cc

pub passed : (cs : List (Bool × Break)) → first_failed cs ≡ None → AllPass cs
passed [] h = tt
passed (c ∷ cs) h = let r : (c.0 ≡ true) × (first_failed cs ≡ None) = pass_first c.0 c.1 (first_failed cs) h in (r.0, passed cs r.1)

pub passes : (cs : List (Bool × Break)) → AllPass cs → first_failed cs ≡ None
passes [] h = refl
passes (c ∷ cs) h = ap (λ b. cond b (first_failed cs) (Some c.1)) h.0 ∙ passes cs h.1

not_so : (b : Bool) → not b ≡ true → b ≡ false
not_so true h = cc
not_so false h = refl

-- what an instruction that acts found
pub record FoundTable (s : State) (t : List ℕ) : Type 0 where
  pub new : is_some (map.get s.tables t) ≡ false

pub record FoundColumn (s : State) (t c : List ℕ) (def : Column) : Type 0 where
  pub there : is_some (map.get s.tables t) ≡ true
  pub new : is_some (column_in s.tables t c) ≡ false
  pub sound : is_sound_column def ≡ true
  pub target : has_target s.tables def.kind ≡ true

pub record FoundKey (s : State) (o : ObjectName) : Type 0 where
  pub there : is_some (map.get s.tables o.0) ≡ true
  pub key : is_key_of s.tables o.0 o.1 ≡ true

pub record FoundObject (s : State) (o : ObjectName) : Type 0 where
  pub there : is_some (map.get s.tables o.0) ≡ true
  pub key : is_key_of s.tables o.0 o.1 ≡ true
  pub present : has s o ≡ true

pub record FoundCell (s : State) (p : CellPath) (e : Edit) : Type 0 where
  pub there : is_some (map.get s.tables p.0.0) ≡ true
  pub key : is_key_of s.tables p.0.0 p.0.1 ≡ true
  pub present : has s p.0 ≡ true
  pub column : is_some (column_in s.tables p.0.0 p.1) ≡ true
  pub shape : column_check (λ c. has_shape e (shape_rank c.shape)) (column_in s.tables p.0.0 p.1) ≡ true
  pub value : column_check (λ c. edit_fits s.tables c e) (column_in s.tables p.0.0 p.1) ≡ true
  pub prior : option_map_or (is_prior e) (cell_at s p.0 p.1) false ≡ true

abbrev pub Found : State → Effect → Type 0
Found s (NewTable t k) = FoundTable s t
Found s (NewColumn t c def) = FoundColumn s t c def
Found s (Create o) = FoundKey s o
Found s (Erase o) = FoundObject s o
Found s (Change p e) = FoundCell s p e

pub found : (s : State) (d : Effect) → Acts s d → Found s d
found s (NewTable t k) h = let r = passed (checks s (NewTable t k)) h in record { new = not_so _ r.0 }
found s (NewColumn t c def) h =
    let r = passed (checks s (NewColumn t c def)) h in
    record { there = r.0; new = not_so _ r.1.0; sound = r.1.1.0; target = r.1.1.1.0 }
found s (Create o) h = let r = passed (checks s (Create o)) h in record { there = r.0; key = r.1.0 }
found s (Erase o) h = let r = passed (checks s (Erase o)) h in record { there = r.0; key = r.1.0; present = r.1.1.0 }
found s (Change p e) h =
    let r = passed (checks s (Change p e)) h in
    record { there = r.0; key = r.1.0; present = r.1.1.0; column = r.1.1.1.0; shape = r.1.1.1.1.0; value = r.1.1.1.1.1.0; prior = r.1.1.1.1.1.1.0 }

so_not : (b : Bool) → b ≡ false → not b ≡ true
so_not true h = cc
so_not false h = refl

pub acts : (s : State) (d : Effect) → Found s d → Acts s d
acts s (NewTable t k) f = passes (checks s (NewTable t k)) (so_not _ f.new, tt)
acts s (NewColumn t c def) f = passes (checks s (NewColumn t c def)) (f.there, (so_not _ f.new, (f.sound, (f.target, tt))))
acts s (Create o) f = passes (checks s (Create o)) (f.there, (f.key, tt))
acts s (Erase o) f = passes (checks s (Erase o)) (f.there, (f.key, (f.present, tt)))
acts s (Change p e) f = passes (checks s (Change p e)) (f.there, (f.key, (f.present, (f.column, (f.shape, (f.value, (f.prior, tt)))))))

-- ---- the cells after an instruction that acts
pub cell-after : (s : State) → IsShaped s → (d : Effect) → Found s d → (o : ObjectName) (c : List ℕ) → has (after s d) o ≡ true → CellAfter s d o c
cell-after s ok (NewTable t k) f o c h = cell-new_table s ok t k o c f.new h
cell-after s ok (NewColumn t k def) f o c h = cell-new_column s ok t k def o c f.there f.new (sym (has-after s (NewColumn t k def) o) ∙ h)
cell-after s ok (Create p) f o c h = cell-create s ok p o c h
cell-after s ok (Erase p) f o c h = cell-erase s ok p o c h
cell-after s ok (Change p e) f o c h = cell-change s ok p e o c (ok.filled p.0 p.1 f.present ∙ f.column) (sym (has-after s (Change p e) o) ∙ h)

-- ---- a table that stands stays
put_stays : {X : Type 0} (b : Bool) (v : X) (x : Option X) → is_some x ≡ true → is_some (cond b (Some v) x) ≡ true
put_stays true v x h = refl
put_stays false v x h = h

pub table_stays : (ts : Tables) (d : Effect) (u : List ℕ) → is_some (map.get ts u) ≡ true → is_some (map.get (tables_after d ts) u) ≡ true
table_stays ts (NewTable t k) u h = ap is_some (map.get-insert name_total ts t _ u) ∙ put_stays _ _ _ h
table_stays ts (NewColumn t c def) u h =
    elim (map.get ts t) as (λ x. is_some (map.get (elim x [ None ↦ ts | Some table ↦ map.insert ts t (with_column c def table) ]) u) ≡ true) [
      | None ↦ h
      | Some table ↦ ap is_some (map.get-insert name_total ts t (with_column c def table) u) ∙ put_stays _ _ _ h
    ]
table_stays ts (Create p) u h = h
table_stays ts (Erase p) u h = h
table_stays ts (Change p e) u h = h

-- ---- a column that stands stays
there : (x : Option Table) (d : List ℕ) (def : Column) → option_and_then (λ t. map.get t.columns d) x ≡ Some def → is_some x ≡ true
there None d def h = cc
there (Some t) d def h = refl

pub clash : {A : Type 0} (b : Bool) → b ≡ true → b ≡ false → A
clash true h k = cc
clash false h k = cc

pub column_stays : (s : State) (a : Effect) → Found s a → (u d : List ℕ) (def : Column) → column_in s.tables u d ≡ Some def → column_in (tables_after a s.tables) u d ≡ Some def
column_stays s (NewTable t k) f u d def h =
    let new : Table = record { key = k; columns = map.empty } in
    ap (option_and_then (λ y. map.get y.columns d)) (map.get-insert name_total s.tables t new u)
    ∙ elim (eq_by_cmp name_cmp u t) as (λ b. eq_by_cmp name_cmp u t ≡ b → option_and_then (λ y. map.get y.columns d) (cond b (Some new) (map.get s.tables u)) ≡ Some def) [
      | true ↦ λ e. clash (is_some (map.get s.tables t)) (ap (λ v. is_some (map.get s.tables v)) (sym (tied_is name_exact u t e)) ∙ there (map.get s.tables u) d def h) f.new
      | false ↦ λ _. h
    ] refl
column_stays s (NewColumn t c new) f u d def h =
    column-after s.tables t c new u d f.there
    ∙ elim (eq_by_cmp name_cmp u t) as (λ a. eq_by_cmp name_cmp u t ≡ a → cond (a && eq_by_cmp name_cmp d c) (Some new) (column_in s.tables u d) ≡ Some def) [
      | true ↦ λ p. elim (eq_by_cmp name_cmp d c) as (λ b. eq_by_cmp name_cmp d c ≡ b → cond b (Some new) (column_in s.tables u d) ≡ Some def) [
        | true ↦ λ q. clash (is_some (column_in s.tables u d)) (ap is_some h) ((λ i. is_some (column_in s.tables (tied_is name_exact u t p i) (tied_is name_exact d c q i))) ∙ f.new)
        | false ↦ λ _. h
      ] refl
      | false ↦ λ _. h
    ] refl
column_stays s (Create p) f u d def h = h
column_stays s (Erase p) f u d def h = h
column_stays s (Change p e) f u d def h = h

pub absent_cell : (s : State) (o : ObjectName) (c : List ℕ) → has s o ≡ false → cell_at s o c ≡ None
absent_cell s o c h = ap (option_and_then (λ (m : Cells). map.get m c)) (none_is (map.get s.objects o) h)

-- ---- a state stays one
pub some_map : {X Y : Type 0} (f : X → Y) (x : Option X) → is_some (option_map f x) ≡ is_some x
some_map f None = refl
some_map f (Some x) = refl

stood : (a b : Bool) → (not a && (false || b)) ≡ true → b ≡ true
stood true b h = cc
stood false b h = h

housed-after : (s : State) → IsShaped s → (d : Effect) → Found s d → (o : ObjectName) → has (after s d) o ≡ true → is_some (map.get s.tables o.0) ≡ true
housed-after s ok (NewTable t k) f o h = ok.housed o h
housed-after s ok (NewColumn t k def) f o h = ok.housed o (sym (has-after s (NewColumn t k def) o) ∙ h)
housed-after s ok (Create p) f o h =
    elim (eq_by_cmp object_cmp o p) as (λ b. eq_by_cmp object_cmp o p ≡ b → (b || has s o) ≡ true → is_some (map.get s.tables o.0) ≡ true) [
      | true ↦ λ e _. ap (λ q. is_some (map.get s.tables q.0)) (tied_is object_exact o p e) ∙ f.there
      | false ↦ λ _ g. ok.housed o g
    ] refl (sym (has-after s (Create p) o) ∙ h)
housed-after s ok (Erase p) f o h = ok.housed o (stood (eq_by_cmp object_cmp o p) (has s o) (sym (has-after s (Erase p) o) ∙ h))
housed-after s ok (Change p e) f o h = ok.housed o (sym (has-after s (Change p e) o) ∙ h)

rank_edited : (e : Edit) (x : Cell) → cell_rank (edited e x) ≡ cell_rank x
rank_edited (Set v) (One w) = refl
rank_edited (Set v) (Many xs) = refl
rank_edited (Set v) (Members xs) = refl
rank_edited (Set v) (Dict m) = refl
rank_edited (Add n) (One w) = refl
rank_edited (Add n) (Many xs) = refl
rank_edited (Add n) (Members xs) = refl
rank_edited (Add n) (Dict m) = refl
rank_edited (Replace t v) (One w) = refl
rank_edited (Replace t v) (Many xs) = refl
rank_edited (Replace t v) (Members xs) = refl
rank_edited (Replace t v) (Dict m) = refl
rank_edited (Insert t v) (One w) = refl
rank_edited (Insert t v) (Many xs) = refl
rank_edited (Insert t v) (Members xs) = refl
rank_edited (Insert t v) (Dict m) = refl
rank_edited (Remove t) (One w) = refl
rank_edited (Remove t) (Many xs) = refl
rank_edited (Remove t) (Members xs) = refl
rank_edited (Remove t) (Dict m) = refl
rank_edited (Include v) (One w) = refl
rank_edited (Include v) (Many xs) = refl
rank_edited (Include v) (Members xs) = refl
rank_edited (Include v) (Dict m) = refl
rank_edited (Exclude v) (One w) = refl
rank_edited (Exclude v) (Many xs) = refl
rank_edited (Exclude v) (Members xs) = refl
rank_edited (Exclude v) (Dict m) = refl
rank_edited (Bind k v) (One w) = refl
rank_edited (Bind k v) (Many xs) = refl
rank_edited (Bind k v) (Members xs) = refl
rank_edited (Bind k v) (Dict m) = refl
rank_edited Empty (One w) = refl
rank_edited Empty (Many xs) = refl
rank_edited Empty (Members xs) = refl
rank_edited Empty (Dict m) = refl

rank_touched : (e : Option Edit) (x : Cell) → cell_rank (touched e x) ≡ cell_rank x
rank_touched None x = refl
rank_touched (Some e) x = rank_edited e x

rank_default : (shape : Shape) (col : Column) → cell_rank (default_by shape col) ≡ shape_rank shape
rank_default shapes.One col = refl
rank_default shapes.List col = refl
rank_default shapes.Set col = refl
rank_default shapes.Dict col = refl

stood_some : (x : Option Cell) (y : Cell) → x ≡ Some y → is_some x ≡ true
stood_some x y h = ap is_some h

pub some_is : {X : Type 0} (x : Option X) → is_some x ≡ true → (y : X) × (x ≡ Some y)
some_is None h = cc
some_is (Some y) h = (y, refl)

has_cell : (s : State) (o : ObjectName) (c : List ℕ) (x : Cell) → cell_at s o c ≡ Some x → has s o ≡ true
has_cell s o c x h =
    elim (map.get s.objects o) as (λ y. option_and_then (λ (m : Cells). map.get m c) y ≡ Some x → is_some y ≡ true) [ None ↦ λ g. cc | Some y ↦ λ _. refl ] h

rank_raw : (s : State) → IsShaped s → (d : Effect) → Found s d → (o : ObjectName) (c : List ℕ) (col : Column) → column_in (tables_after d s.tables) o.0 c ≡ Some col → cell_rank (cell_or_default s o c col) ≡ shape_rank col.shape
rank_raw s ok d f o c col h =
    elim (cell_at s o c) as (λ x. cell_at s o c ≡ x → cell_rank (unwrap_or x (default_of col)) ≡ shape_rank col.shape) [
      | None ↦ λ _. rank_default col.shape col
      | Some y ↦ λ e.
          let here : has s o ≡ true = has_cell s o c y e in
          let old : (k : Column) × (column_in s.tables o.0 c ≡ Some k) = some_is (column_in s.tables o.0 c) (sym (ok.filled o c here) ∙ ap is_some e) in
          let same : old.0 ≡ col = same_Some old.0 col (sym (column_stays s d f o.0 c old.0 old.1) ∙ h) in
          ok.shaped o c y old.0 e old.1 ∙ ap (λ (k : Column). shape_rank k.shape) same
    ] refl

pub state-after : (s : State) → IsShaped s → (d : Effect) → Found s d → IsShaped (after s d)
state-after s ok d f = record {
  housed = λ o h. table_stays s.tables d o.0 (housed-after s ok d f o h);
  filled = λ o c h. ap is_some (cell-after s ok d f o c h) ∙ some_map _ _;
  shaped = λ o c x col e k.
      let is : Some x ≡ Some (touched (touch d (o, c)) (cell_or_default s o c col)) = sym e ∙ cell-after s ok d f o c (has_cell (after s d) o c x e) ∙ ap (option_map (λ def. touched (touch d (o, c)) (cell_or_default s o c def))) k in
      ap cell_rank (same_Some x _ is) ∙ rank_touched (touch d (o, c)) _ ∙ rank_raw s ok d f o c col k;
}
