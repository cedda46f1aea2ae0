-- An object is created and its cells are filled.
use Rattle.std.specs.Prelude.{◌≡◌, ℕ, true, false, cond, List, [], ◌∷◌, ◌++◌, map, is_some, Option, None, Some, refl}
use Rattle.std.specs.Option.{option_map, option_and_then, option_map_or, unwrap_or}
use Rattle.std.specs.Ordering.{eq_by_cmp}
use Rattle.std.specs.FinMap as fin
use Rattle.std.proofs.Common.{sym, ◌∙◌, ap, subst}
use Rattle.sync_theory.specs.Lists.{run}
use Rattle.sync_theory.proofs.Agree.{run_both, run_cons}
use Rattle.sync_data.specs.Orders.{name_cmp}
use Rattle.sync_data.specs.declared.column.Column.{Column}
use Rattle.sync_base.specs.After.{after, edited, default_of, new_cells, changed}
use Rattle.sync_base.specs.Checks.{Acts, act_effect, column_check, has_shape, edit_fits, is_prior}
use Rattle.sync_base.specs.Effects.{ObjectName, Edit, Effect, Create, Change}
use Rattle.sync_base.specs.Lemmas.Cells.{got_new}
use Rattle.sync_base.specs.Lemmas.Looks.{name_total, name_exact, object_total, object_exact}
use Rattle.sync_base.specs.Lemmas.Maps.{get-map_with, tied_is}
use Rattle.sync_base.specs.Lemmas.Places.{acting}
use Rattle.sync_base.specs.Lemmas.Shaped.{IsEffect}
use Rattle.sync_base.specs.Lemmas.Steps.{acts, some_is}
use Rattle.sync_base.specs.Maps.{map_with}
use Rattle.sync_base.specs.States.{State, Tables, Table, Cell, Cells, IsState, object_cmp, column_in, cell_at, has, is_key_of, is_of_kind, shape_rank}
use Rattle.snapshot_law.specs.Build.{joined, cell_edits, cell_effects, object_effects, new_objects}
use Rattle.snapshot_law.specs.Lemmas.Maps.{got_put, put_twice, put_same, walk}
use Rattle.snapshot_law.specs.Lemmas.Edits.{Turns, EditActs, turns_cell}

-- effects lead from one state to another
abbrev pub Runs : List Effect → State → State → Type 0
Runs ds s t = run act_effect ds s ≡ Some t

pub runs_on : (ds es : List Effect) (s t u : State) → Runs ds s t → Runs es t u → Runs (ds ++ es) s u
runs_on ds es s t u h g = run_both act_effect ds es s t h g

pub step : (d : Effect) (s t : State) → IsEffect d → Acts s d → after s d ≡ t → act_effect d s ≡ Some t
step d s t fine h e = acting d s t (record { fine = fine; acts = h; gives = e })

-- the tables, and these objects
abbrev pub with_objects : Tables → fin.FinMap object_cmp Cells → State
with_objects ts objects = record { tables = ts; objects = objects }

-- ---- one cell
module _ (ts : Tables) (others : fin.FinMap object_cmp Cells) (o : ObjectName) (cells : Cells) (c : List ℕ) (col : Column)
    (there : is_some (fin.get ts o.0) ≡ true) (key : is_key_of ts o.0 o.1 ≡ true) (is_col : column_in ts o.0 c ≡ Some col) where
  abbrev cell_is : Cell → State
  cell_is x = with_objects ts (fin.insert others o (fin.insert cells c x))

  here : (x : Cell) → fin.get (fin.insert others o (fin.insert cells c x)) o ≡ Some (fin.insert cells c x)
  here x = got_put object_total object_exact others o (fin.insert cells c x)

  cell_here : (x : Cell) → cell_at (cell_is x) o c ≡ Some x
  cell_here x = ap (option_and_then (λ (m : Cells). fin.get m c)) (here x) ∙ got_put name_total name_exact cells c x

  changed_here : (x : Cell) (e : Edit) → changed c e (fin.insert cells c x) ≡ fin.insert cells c (edited e x)
  changed_here x e =
      ap (λ y. elim y as (λ _. Cells) [ None ↦ fin.insert cells c x | Some z ↦ fin.insert (fin.insert cells c x) c (edited e z) ]) (got_put name_total name_exact cells c x)
      ∙ put_twice name_total name_exact cells c x (edited e x)

  after_edit : (x : Cell) (e : Edit) → after (cell_is x) (Change (o, c) e) ≡ cell_is (edited e x)
  after_edit x e =
      ap (with_objects ts)
      (ap (λ y. elim y as (λ _. fin.FinMap object_cmp Cells) [ None ↦ fin.insert others o (fin.insert cells c x) | Some z ↦ fin.insert (fin.insert others o (fin.insert cells c x)) o (changed c e z) ]) (here x)
      ∙ put_twice object_total object_exact others o (fin.insert cells c x) (changed c e (fin.insert cells c x))
      ∙ ap (fin.insert others o) (changed_here x e))

  edit_acts : (x : Cell) (e : Edit) → EditActs ts col e x → Acts (cell_is x) (Change (o, c) e)
  edit_acts x e h = acts (cell_is x) (Change (o, c) e) (record {
    there = there;
    key = key;
    present = ap is_some (here x);
    column = ap is_some is_col;
    shape = ap (column_check (λ k. has_shape e (shape_rank k.shape))) is_col ∙ h.shape;
    value = ap (column_check (λ k. edit_fits ts k e)) is_col ∙ h.value;
    prior = ap (λ y. option_map_or (is_prior e) y false) (cell_here x) ∙ h.prior;
  })

  pub edits_run : (es : List Edit) (x y : Cell) → Turns ts col es x y → Runs (map (λ e. Change (o, c) e) es) (cell_is x) (cell_is y)
  edits_run [] x y h = ap (λ z. Some (cell_is z)) h
  edits_run (e ∷ es) x y h =
      run_cons act_effect (Change (o, c) e) (map (λ e. Change (o, c) e) es) (cell_is x) (cell_is (edited e x)) (cell_is y)
      (step (Change (o, c) e) (cell_is x) (cell_is (edited e x)) h.0.placed (edit_acts x e h.0) (after_edit x e))
      (edits_run es (edited e x) y h.1)

-- ---- one object
key_there : (x : Option Table) (o : ObjectName) → option_map_or (λ table. is_of_kind table.key o.1) x false ≡ true → is_some x ≡ true
key_there None o h = cc
key_there (Some t) o h = refl

module _ (s : State) (ok : IsState s) (others : fin.FinMap object_cmp Cells) (o : ObjectName) (cells : Cells) (is_there : fin.get s.objects o ≡ Some cells) (is_new : fin.get others o ≡ None) where
  stands : has s o ≡ true
  stands = ap is_some is_there

  key : is_key_of s.tables o.0 o.1 ≡ true
  key = ok.keyed o stands

  table : is_some (fin.get s.tables o.0) ≡ true
  table = key_there (fin.get s.tables o.0) o key

  new : Cells
  new = new_cells (fin.get s.tables o.0)

  got : (c : List ℕ) → fin.get new c ≡ option_map default_of (column_in s.tables o.0 c)
  unfolding new
  got c = got_new (fin.get s.tables o.0) c

  cell_of : (c : List ℕ) → cell_at s o c ≡ fin.get cells c
  cell_of c = ap (option_and_then (λ (m : Cells). fin.get m c)) is_there

  some_map : {A B : Type 0} (f : A → B) (x : Option A) → is_some (option_map f x) ≡ is_some x
  some_map f None = refl
  some_map f (Some x) = refl

  both_there : (c : List ℕ) → is_some (fin.get cells c) ≡ is_some (fin.get new c)
  both_there c = ap is_some (sym (cell_of c)) ∙ ok.filled o c stands ∙ sym (ap is_some (got c) ∙ some_map default_of (column_in s.tables o.0 c))

  -- the cells that are filled so far; the others are the default
  so_far : Cells → Cells
  so_far done = map_with (λ c x. unwrap_or (fin.get done c) x) new

  get-so_far : (done : Cells) (c : List ℕ) → fin.get (so_far done) c ≡ option_map (λ x. unwrap_or (fin.get done c) x) (fin.get new c)
  unfolding so_far
  get-so_far done c = get-map_with (λ c x. unwrap_or (fin.get done c) x) name_exact new c

  itself : (x : Option Cell) → option_map (λ y. unwrap_or None y) x ≡ x
  itself None = refl
  itself (Some x) = refl

  first : so_far fin.empty ≡ new
  first = fin.same_map name_total name_exact _ _ (λ c. get-so_far fin.empty c ∙ ap (λ z. option_map (λ x. unwrap_or z x) (fin.get new c)) (fin.get-empty name_cmp c) ∙ itself (fin.get new c))

  taken : (x y : Option Cell) → is_some x ≡ is_some y → option_map (λ z. unwrap_or x z) y ≡ x
  taken None None h = refl
  taken None (Some y) h = cc
  taken (Some x) None h = cc
  taken (Some x) (Some y) h = refl

  last : so_far cells ≡ cells
  last = fin.same_map name_total name_exact _ _ (λ c. get-so_far cells c ∙ taken (fin.get cells c) (fin.get new c) (both_there c))

  abbrev at : Cells → State
  at done = with_objects s.tables (fin.insert others o (so_far done))

  cell_runs : (done : Cells) (c : List ℕ) (x : Cell) → fin.get cells c ≡ Some x → fin.get done c ≡ None → Runs (cell_effects s o c x) (at done) (at (fin.insert done c x))
  cell_runs done c x e n =
      let is_cell : cell_at s o c ≡ Some x = cell_of c ∙ e in
      let col : (k : Column) × (column_in s.tables o.0 c ≡ Some k) = some_is (column_in s.tables o.0 c) (sym (ok.filled o c stands) ∙ ap is_some is_cell) in
      let def : fin.get new c ≡ Some (default_of col.0) = got c ∙ ap (option_map default_of) col.1 in
      let before : fin.insert (so_far done) c (default_of col.0) ≡ so_far done
      = put_same name_total name_exact (so_far done) c (default_of col.0) (get-so_far done c ∙ ap (λ z. option_map (λ y. unwrap_or z y) (fin.get new c)) n ∙ itself (fin.get new c) ∙ def) in
      let behind : fin.insert (so_far done) c x ≡ so_far (fin.insert done c x)
      = fin.same_map name_total name_exact _ _ (λ q.
      fin.get-insert name_total (so_far done) c x q
      ∙ ap (cond (eq_by_cmp name_cmp q c) (Some x)) (get-so_far done q)
      ∙ elim (eq_by_cmp name_cmp q c) as (λ b. eq_by_cmp name_cmp q c ≡ b → cond b (Some x) (option_map (λ y. unwrap_or (fin.get done q) y) (fin.get new q)) ≡ option_map (λ y. unwrap_or (cond b (Some x) (fin.get done q)) y) (fin.get new q)) [
        | true ↦ λ t. ap (option_map (λ (y : Cell). x)) (sym (ap (fin.get new) (tied_is name_exact q c t) ∙ def))
        | false ↦ λ _. refl
      ] refl
      ∙ ap (λ z. option_map (λ y. unwrap_or z y) (fin.get new q)) (sym (fin.get-insert name_total done c x q))
      ∙ sym (get-so_far (fin.insert done c x) q)) in
      let turns = turns_cell s.tables col.0 x (ok.shaped o c x col.0 is_cell col.1) (ok.fitting o c x col.0 is_cell col.1) in
      let edits = edits_run s.tables others o (so_far done) c col.0 table key col.1 _ (default_of col.0) x turns in
      subst (λ k. Runs (map (λ e. Change (o, c) e) (cell_edits k x)) (at done) (at (fin.insert done c x))) (sym col.1)
      (subst (λ m. Runs (map (λ e. Change (o, c) e) (cell_edits (Some col.0) x)) (with_objects s.tables (fin.insert others o m)) (at (fin.insert done c x))) before
      (subst (λ m. Runs (map (λ e. Change (o, c) e) (cell_edits (Some col.0) x)) (with_objects s.tables (fin.insert others o (fin.insert (so_far done) c (default_of col.0)))) (with_objects s.tables (fin.insert others o m))) behind edits))

  cells_run : Runs (joined (map (λ e. cell_effects s o e.0 e.1) (fin.entries cells))) (with_objects s.tables (fin.insert others o new)) (with_objects s.tables (fin.insert others o cells))
  cells_run =
      let w : Runs (joined (map (λ e. cell_effects s o e.0 e.1) (fin.entries cells))) (at fin.empty) (at cells) = walk name_total name_exact Runs (λ t. refl) runs_on (λ e. cell_effects s o e.0 e.1) at cells cell_runs in
      subst (λ m. Runs (joined (map (λ e. cell_effects s o e.0 e.1) (fin.entries cells))) (with_objects s.tables (fin.insert others o new)) (with_objects s.tables (fin.insert others o m))) last
      (subst (λ m. Runs (joined (map (λ e. cell_effects s o e.0 e.1) (fin.entries cells))) (with_objects s.tables (fin.insert others o m)) (at cells)) first w)

  after_create : after (with_objects s.tables others) (Create o) ≡ with_objects s.tables (fin.insert others o new)
  unfolding new
  after_create = ap (λ b. with_objects s.tables (cond b others (fin.insert others o (new_cells (fin.get s.tables o.0))))) (ap is_some is_new)

  pub object_runs : Runs (object_effects s o cells) (with_objects s.tables others) (with_objects s.tables (fin.insert others o cells))
  object_runs =
      run_cons act_effect (Create o) (joined (map (λ e. cell_effects s o e.0 e.1) (fin.entries cells))) (with_objects s.tables others) (with_objects s.tables (fin.insert others o new)) (with_objects s.tables (fin.insert others o cells))
      (step (Create o) (with_objects s.tables others) (with_objects s.tables (fin.insert others o new)) tt (acts (with_objects s.tables others) (Create o) (record { there = table; key = key })) after_create)
      cells_run

-- ---- all objects
pub objects_run : (s : State) → IsState s → Runs (new_objects s) (with_objects s.tables fin.empty) s
objects_run s ok = walk object_total object_exact Runs (λ t. refl) runs_on (λ e. object_effects s e.0 e.1) (with_objects s.tables) s.objects (λ others o cells here new. object_runs s ok others o cells here new)
