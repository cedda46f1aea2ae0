-- An instruction and then what is left of another: the merged_cell state, where tables, objects and touches agree.
use Rattle.std.specs.Prelude.{◌≡◌, ℕ, Bool, true, false, cond, not, ◌&&◌, ◌||◌, ◌⊎◌, List, is_some, Option, None, Some, refl}
use Rattle.std.specs.Option.{option_map, option_and_then, unwrap_or}
use Rattle.std.specs.Ordering.{eq_by_cmp}
use Rattle.std.specs.FinMap as map
use Rattle.std.specs.FinMap.{FinMap}
use Rattle.std.proofs.Common.{sym, ◌∙◌, ap, inl, inr}
use Rattle.std.proofs.lemmas.Option.{same_Some}
use Rattle.sync_base.specs.After.{default_of, tables_after, after}
use Rattle.sync_base.specs.Effects.{ObjectName, CellPath, Edit, Effect, NewTable, NewColumn, Create, Erase, Change}
use Rattle.sync_base.specs.Lemmas.Agreed.{after_outcome}
use Rattle.sync_base.specs.Lemmas.Cells.{touched, cell_is, none_is}
use Rattle.sync_base.specs.Lemmas.Looks.{name_exact, object_total, object_exact, path_exact, same_states, has-after, creates, erases}
use Rattle.sync_base.specs.Lemmas.Maps.{get-map_with, tied_is}
use Rattle.sync_base.specs.Lemmas.Shaped.{IsShaped}
use Rattle.sync_base.specs.Lemmas.Steps.{Found, cell-after, state-after, column_stays, clash, some_map, absent_cell}
use Rattle.sync_base.specs.Maps.{map_with}
use Rattle.sync_base.specs.Merged.{path_cmp, touch, merged_touch, cell_or_default, presence, merged_presence, with_created, without_erased, columns_in, merged_state}
use Rattle.sync_base.specs.States.{State, Cell, Cells, object_cmp, column_in, has, cell_at, Tables}
use Rattle.sync_data.specs.Orders.{name_cmp}
use Rattle.sync_data.specs.declared.column.Column.{Column}

-- ---- what is left of an instruction
abbrev pub tables_outcome : Option Effect → Tables → Tables
tables_outcome None ts = ts
tables_outcome (Some d) ts = tables_after d ts

abbrev pub creates_outcome : Option Effect → ObjectName → Bool
creates_outcome None o = false
creates_outcome (Some d) o = creates d o

abbrev pub erases_outcome : Option Effect → ObjectName → Bool
erases_outcome None o = false
erases_outcome (Some d) o = erases d o

abbrev pub touch_outcome : Option Effect → CellPath → Option Edit
touch_outcome None q = None
touch_outcome (Some d) q = touch d q

abbrev pub FoundOutcome : State → Option Effect → Type 0
FoundOutcome s None = Unit {0}
FoundOutcome s (Some d) = Found s d

has-outcome : (s : State) (d : Option Effect) (o : ObjectName) → has (after_outcome s d) o ≡ (not (erases_outcome d o) && (creates_outcome d o || has s o))
has-outcome s None o = refl
has-outcome s (Some d) o = has-after s d o

cell-outcome : (s : State) → IsShaped s → (d : Option Effect) → FoundOutcome s d → (o : ObjectName) (c : List ℕ) → has (after_outcome s d) o ≡ true
    → cell_at (after_outcome s d) o c ≡ option_map (λ def. touched (touch_outcome d (o, c)) (cell_or_default s o c def)) (column_in (tables_outcome d s.tables) o.0 c)
cell-outcome s ok None f o c h = cell_is s ok o c h
cell-outcome s ok (Some d) f o c h = cell-after s ok d f o c h

tables-outcome : (s : State) (d : Option Effect) → (after_outcome s d).tables ≡ tables_outcome d s.tables
tables-outcome s None = refl
tables-outcome s (Some d) = refl

-- a column that isn't there afterwards wasn't there
was_none : (s : State) (a : Effect) → Found s a → (u d : List ℕ) → column_in (tables_after a s.tables) u d ≡ None → column_in s.tables u d ≡ None
was_none s a f u d h =
    elim (column_in s.tables u d) as (λ x. column_in s.tables u d ≡ x → x ≡ None) [
      | None ↦ λ _. refl
      | Some def ↦ λ e. let k : Some def ≡ None = sym (column_stays s a f u d def e) ∙ h in cc
    ] refl

-- ---- an object or a column that wasn't there isn't touched
untouched_object : (s : State) (a : Effect) → Found s a → (o : ObjectName) (c : List ℕ) → has s o ≡ false → touch a (o, c) ≡ None
untouched_object s (NewTable t k) f o c h = refl
untouched_object s (NewColumn t k def) f o c h = refl
untouched_object s (Create p) f o c h = refl
untouched_object s (Erase p) f o c h = refl
untouched_object s (Change p e) f o c h =
    elim (eq_by_cmp path_cmp (o, c) p) as (λ b. eq_by_cmp path_cmp (o, c) p ≡ b → cond b (Some e) None ≡ None) [
      | true ↦ λ q. clash (has s o) (ap (λ (r : CellPath). has s r.0) (tied_is path_exact (o, c) p q) ∙ f.present) h
      | false ↦ λ _. refl
    ] refl

untouched_column : (s : State) (a : Effect) → Found s a → (o : ObjectName) (c : List ℕ) → column_in s.tables o.0 c ≡ None → touch a (o, c) ≡ None
untouched_column s (NewTable t k) f o c h = refl
untouched_column s (NewColumn t k def) f o c h = refl
untouched_column s (Create p) f o c h = refl
untouched_column s (Erase p) f o c h = refl
untouched_column s (Change p e) f o c h =
    elim (eq_by_cmp path_cmp (o, c) p) as (λ b. eq_by_cmp path_cmp (o, c) p ≡ b → cond b (Some e) None ≡ None) [
      | true ↦ λ q. clash (is_some (column_in s.tables o.0 c)) (ap (λ (r : CellPath). is_some (column_in s.tables r.0.0 r.1)) (tied_is path_exact (o, c) p q) ∙ f.column) (ap is_some h)
      | false ↦ λ _. refl
    ] refl

-- ---- a cell after the first instruction, read with a default
none_raw : (s : State) (a : Effect) (o : ObjectName) (c : List ℕ) (def : Column) → cell_at (after s a) o c ≡ None → cell_at s o c ≡ None → touch a (o, c) ≡ None
    → cell_or_default (after s a) o c def ≡ touched (touch a (o, c)) (cell_or_default s o c def)
none_raw s a o c def p q r =
    ap (λ x. unwrap_or x (default_of def)) p
    ∙ (λ i. touched (sym r i) (unwrap_or (sym q i) (default_of def)))

missing : (s : State) → IsShaped s → (o : ObjectName) (c : List ℕ) → column_in s.tables o.0 c ≡ None → cell_at s o c ≡ None
missing s ok o c h =
    elim (has s o) as (λ b. has s o ≡ b → cell_at s o c ≡ None) [
      | true ↦ λ e. none_is _ (ok.filled o c e ∙ ap is_some h)
      | false ↦ λ e. absent_cell s o c e
    ] refl

not_there : (e k b : Bool) → e ≡ false → (not e && (k || b)) ≡ false → b ≡ false
not_there true k b h g = cc
not_there false true b h g = cc
not_there false false b h g = g

pub raw-after : (s : State) → IsShaped s → (a : Effect) → Found s a → (o : ObjectName) (c : List ℕ) (def : Column) → erases a o ≡ false
    → (column_in (tables_after a s.tables) o.0 c ≡ None) ⊎ (column_in (tables_after a s.tables) o.0 c ≡ Some def)
    → cell_or_default (after s a) o c def ≡ touched (touch a (o, c)) (cell_or_default s o c def)
raw-after s ok a f o c def left col =
    elim (has (after s a) o) as (λ b. has (after s a) o ≡ b → cell_or_default (after s a) o c def ≡ touched (touch a (o, c)) (cell_or_default s o c def)) [
      | true ↦ λ here. elim col as (λ _. cell_or_default (after s a) o c def ≡ touched (touch a (o, c)) (cell_or_default s o c def)) [
        | inl none ↦
            let before : column_in s.tables o.0 c ≡ None = was_none s a f o.0 c none in
            none_raw s a o c def (cell-after s ok a f o c here ∙ ap (option_map _) none) (missing s ok o c before) (untouched_column s a f o c before)
        | inr some ↦ ap (λ x. unwrap_or x (default_of def)) (cell-after s ok a f o c here ∙ ap (option_map (λ d. touched (touch a (o, c)) (cell_or_default s o c d))) some)
      ]
      | false ↦ λ gone.
          let never : has s o ≡ false = not_there (erases a o) (creates a o) (has s o) left (sym (has-after s a o) ∙ gone) in
          none_raw s a o c def (absent_cell (after s a) o c gone) (absent_cell s o c never) (untouched_object s a f o c never)
    ] refl

-- ---- the merged_cell state
pub has-merged : (s : State) (a b : Effect) (l : Bool) (o : ObjectName) → has (merged_state s a b l) o ≡ is_some (map.get (merged_presence s a b) o)
has-merged s a b l o = ap is_some (get-map_with _ object_exact (merged_presence s a b) o) ∙ some_map _ _

presence-has : (s : State) (o : ObjectName) → is_some (map.get (presence s) o) ≡ has s o
presence-has s o = ap is_some (get-map_with (λ o cells. tt) object_exact s.objects o) ∙ some_map _ _

put_some : (b : Bool) (x : Option (Unit {0})) → is_some (cond b (Some tt) x) ≡ (b || is_some x)
put_some true x = refl
put_some false x = refl

cut_some : (b : Bool) (x : Option (Unit {0})) → is_some (cond b None x) ≡ (not b && is_some x)
cut_some true x = refl
cut_some false x = refl

created-has : (d : Effect) (m : FinMap object_cmp (Unit {0})) (o : ObjectName) → is_some (map.get (with_created d m) o) ≡ (creates d o || is_some (map.get m o))
created-has (Create p) m o = ap is_some (map.get-insert object_total m p tt o) ∙ put_some _ _
created-has (NewTable t k) m o = refl
created-has (NewColumn t k def) m o = refl
created-has (Erase p) m o = refl
created-has (Change p e) m o = refl

erased-has : (d : Effect) (m : FinMap object_cmp (Unit {0})) (o : ObjectName) → is_some (map.get (without_erased d m) o) ≡ (not (erases d o) && is_some (map.get m o))
erased-has (Erase p) m o = ap is_some (map.get-remove object_total m p o) ∙ cut_some _ _
erased-has (NewTable t k) m o = refl
erased-has (NewColumn t k def) m o = refl
erased-has (Create p) m o = refl
erased-has (Change p e) m o = refl

-- present exactly where neither side erases it, and it stood or one side creates it
abbrev pub stands : State → Effect → Effect → ObjectName → Bool
stands s a b o = not (erases b o) && (not (erases a o) && (creates b o || (creates a o || has s o)))

pub merged-stands : (s : State) (a b : Effect) (l : Bool) (o : ObjectName) → has (merged_state s a b l) o ≡ stands s a b o
merged-stands s a b l o =
    has-merged s a b l o ∙ erased-has b _ o
    ∙ ap (λ x. not (erases b o) && x) (erased-has a _ o ∙ ap (λ x. not (erases a o) && x) (created-has b _ o ∙ ap (λ x. creates b o || x) (created-has a _ o ∙ ap (λ x. creates a o || x) (presence-has s o))))

got_column : (ts : Tables) (t c : List ℕ) → map.get (columns_in ts t) c ≡ column_in ts t c
got_column ts t c =
    elim (map.get ts t) as (λ x. map.get (elim x [ None ↦ map.empty | Some table ↦ table.columns ]) c ≡ option_and_then (λ y. map.get y.columns c) x) [
      | None ↦ map.get-empty name_cmp c
      | Some table ↦ refl
    ]

got_built : (x : Option (Unit {0})) (m : map.FinMap name_cmp Cell) (c : List ℕ) → is_some x ≡ true → option_and_then (λ (n : Cells). map.get n c) (option_map (λ _. m) x) ≡ map.get m c
got_built None m c h = cc
got_built (Some u) m c h = refl

pub cell-merged : (s : State) (a b : Effect) (l : Bool) (o : ObjectName) (c : List ℕ) → has (merged_state s a b l) o ≡ true
    → cell_at (merged_state s a b l) o c ≡ option_map (λ def. merged_touch l (touch a (o, c)) (touch b (o, c)) (cell_or_default s o c def)) (column_in (tables_after b (tables_after a s.tables)) o.0 c)
cell-merged s a b l o c h =
    let ts = tables_after b (tables_after a s.tables) in
    let cell = λ (c : List ℕ) (def : Column). merged_touch l (touch a (o, c)) (touch b (o, c)) (cell_or_default s o c def) in
    ap (option_and_then (λ (n : Cells). map.get n c)) (get-map_with _ object_exact (merged_presence s a b) o)
    ∙ got_built (map.get (merged_presence s a b) o) (map_with cell (columns_in ts o.0)) c (sym (has-merged s a b l o) ∙ h)
    ∙ get-map_with cell name_exact (columns_in ts o.0) c
    ∙ ap (option_map (cell c)) (got_column ts o.0 c)

-- ---- one instruction and then what is left of the other
at_column : {X : Type 0} (f g : Column → X) (x : Option Column) → ((def : Column) → x ≡ Some def → f def ≡ g def) → option_map f x ≡ option_map g x
at_column f g None h = refl
at_column f g (Some def) h = ap Some (h def refl)

stays_outcome : (s : State) (d : Option Effect) → FoundOutcome s d → (u c : List ℕ) (def : Column) → column_in s.tables u c ≡ Some def → column_in (tables_outcome d s.tables) u c ≡ Some def
stays_outcome s None f u c def h = h
stays_outcome s (Some d) f u c def h = column_stays s d f u c def h

one_column : (x : Option Column) (def : Column) → ((old : Column) → x ≡ Some old → old ≡ def) → (x ≡ None) ⊎ (x ≡ Some def)
one_column None def h = inl refl
one_column (Some old) def h = inr (ap Some (h old refl))

kept_first : (x y z : Bool) → (not x && (not y && z)) ≡ true → y ≡ false
kept_first true y z h = cc
kept_first false true z h = cc
kept_first false false z h = refl

is_some_of : (a b : Effect) (s : State) (o : ObjectName) → stands s a b o ≡ true → erases a o ≡ false
is_some_of a b s o h = kept_first (erases b o) (erases a o) _ h

-- the pieces of the law of a pair, for one order
pub record OneSided (s : State) (a b : Effect) (l : Bool) (d : Option Effect) : Type 0 where
  pub found : FoundOutcome (after s a) d
  pub tables : tables_outcome d (tables_after a s.tables) ≡ tables_after b (tables_after a s.tables)
  pub objects : (o : ObjectName) → (not (erases_outcome d o) && (creates_outcome d o || (not (erases a o) && (creates a o || has s o)))) ≡ stands s a b o
  pub touches : (o : ObjectName) (c : List ℕ) (def : Column) → stands s a b o ≡ true → touched (touch_outcome d (o, c)) (touched (touch a (o, c)) (cell_or_default s o c def)) ≡ merged_touch l (touch a (o, c)) (touch b (o, c)) (cell_or_default s o c def)

pub gives-merged : (s : State) → IsShaped s → (a b : Effect) (l : Bool) (d : Option Effect) → Found s a → OneSided s a b l d → after_outcome (after s a) d ≡ merged_state s a b l
gives-merged s ok a b l d fa p =
    let one = after s a in
    let tables : (after_outcome one d).tables ≡ (merged_state s a b l).tables = tables-outcome one d ∙ p.tables in
    let objects : (o : ObjectName) → has (after_outcome one d) o ≡ stands s a b o = λ o. has-outcome one d o ∙ ap (λ x. not (erases_outcome d o) && (creates_outcome d o || x)) (has-after s a o) ∙ p.objects o in
    same_states _ _ tables (λ o. objects o ∙ sym (merged-stands s a b l o)) (λ o c.
    elim (stands s a b o) as (λ v. stands s a b o ≡ v → cell_at (after_outcome one d) o c ≡ cell_at (merged_state s a b l) o c) [
      | true ↦ λ here.
          cell-outcome one (state-after s ok a fa) d p.found o c (objects o ∙ here)
          ∙ ap (option_map (λ def. touched (touch_outcome d (o, c)) (cell_or_default one o c def))) (ap (λ ts. column_in ts o.0 c) p.tables)
          ∙ at_column _ (λ def. merged_touch l (touch a (o, c)) (touch b (o, c)) (cell_or_default s o c def)) (column_in (tables_after b (tables_after a s.tables)) o.0 c) (λ def is.
          ap (touched (touch_outcome d (o, c))) (raw-after s ok a fa o c def (is_some_of a b s o here)
          (one_column (column_in one.tables o.0 c) def (λ old e. same_Some old def (sym (stays_outcome one d p.found o.0 c old e) ∙ ap (λ ts. column_in ts o.0 c) p.tables ∙ is))))
          ∙ p.touches o c def here)
          ∙ sym (cell-merged s a b l o c (merged-stands s a b l o ∙ here))
      | false ↦ λ gone. absent_cell (after_outcome one d) o c (objects o ∙ gone) ∙ sym (absent_cell (merged_state s a b l) o c (merged-stands s a b l o ∙ gone))
    ] refl)
