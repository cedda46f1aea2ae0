-- An instruction changes nothing but what its footprint names.
use Rattle.std.specs.Prelude.{◌≡◌, ℕ, Bool, true, false, cond, not, ◌&&◌, ◌||◌, List, is_some, Option, None, Some, refl}
use Rattle.std.specs.Option.{option_map, option_and_then, option_map_or}
use Rattle.std.specs.Ordering.{eq_by_cmp}
use Rattle.std.specs.FinMap as map
use Rattle.std.proofs.Common.{sym, ◌∙◌, ap}
use Rattle.sync_base.specs.After.{after, with_column, with_default, new_cells}
use Rattle.sync_base.specs.Checks.{is_prior}
use Rattle.sync_base.specs.Effects.{Edit, Effect, NewTable, NewColumn, Create, Erase, Change}
use Rattle.sync_base.specs.Lemmas.Cells.{column-after, got_default, got_edited, touched, map_itself}
use Rattle.sync_base.specs.Lemmas.Looks.{name_total, name_exact, object_total, object_exact, has-after}
use Rattle.sync_base.specs.Lemmas.Maps.{tied_is, get-map_with}
use Rattle.sync_base.specs.Lemmas.Steps.{Found}
use Rattle.sync_base.specs.Footprints.{Part, TableAt, ColumnAt, ObjectAt, CellAt, SameAt, changes}
use Rattle.sync_base.specs.States.{State, Table, Cell, Cells, column_in, has, cell_at}
use Rattle.sync_data.specs.Orders.{name_cmp}

pub when_false : {A : Type 0} (b : Bool) (x y : A) → b ≡ false → cond b x y ≡ y
when_false true x y h = cc
when_false false x y h = refl

no_column : (x : Option Table) (c : List ℕ) → is_some x ≡ false → option_and_then (λ y. map.get y.columns c) x ≡ None
no_column None c h = refl
no_column (Some t) c h = cc

pub cell_there : (x : Option Cell) (e : Edit) → option_map_or (is_prior e) x false ≡ true → is_some x ≡ true
cell_there None e h = cc
cell_there (Some x) e h = refl

-- an instruction that acts changes nothing but what it says
pub unchanged : (s : State) (d : Effect) (x : Part) → Found s d → changes d x ≡ false → SameAt (after s d) s x
unchanged s (NewTable t k) (TableAt u) f h =
    let new : Table = record { key = k; columns = map.empty } in
    ap (option_map (λ (x : Table). x.key)) (map.get-insert name_total s.tables t new u ∙ when_false _ _ _ h)
unchanged s (NewTable t k) (ColumnAt u c) f h =
    let new : Table = record { key = k; columns = map.empty } in
    ap (option_and_then (λ y. map.get y.columns c)) (map.get-insert name_total s.tables t new u)
    ∙ elim (eq_by_cmp name_cmp u t) as (λ b. eq_by_cmp name_cmp u t ≡ b → option_and_then (λ y. map.get y.columns c) (cond b (Some new) (map.get s.tables u)) ≡ column_in s.tables u c) [
      | true ↦ λ e. map.get-empty name_cmp c ∙ sym (no_column (map.get s.tables u) c (ap (λ v. is_some (map.get s.tables v)) (tied_is name_exact u t e) ∙ f.new))
      | false ↦ λ _. refl
    ] refl
unchanged s (NewColumn t c def) (TableAt u) f h =
    elim (map.get s.tables t) as (λ x. map.get s.tables t ≡ x → option_map (λ (x : Table). x.key) (map.get (elim x [ None ↦ s.tables | Some table ↦ map.insert s.tables t (with_column c def table) ]) u) ≡ option_map (λ (x : Table). x.key) (map.get s.tables u)) [
      | None ↦ λ _. refl
      | Some table ↦ λ is. ap (option_map (λ (x : Table). x.key)) (map.get-insert name_total s.tables t (with_column c def table) u)
          ∙ elim (eq_by_cmp name_cmp u t) as (λ b. eq_by_cmp name_cmp u t ≡ b → option_map (λ (x : Table). x.key) (cond b (Some (with_column c def table)) (map.get s.tables u)) ≡ option_map (λ (x : Table). x.key) (map.get s.tables u)) [
            | true ↦ λ e. ap (option_map (λ (x : Table). x.key)) (sym (ap (map.get s.tables) (tied_is name_exact u t e) ∙ is))
            | false ↦ λ _. refl
          ] refl
    ] refl
unchanged s (NewColumn t c def) (ColumnAt u d) f h = column-after s.tables t c def u d f.there ∙ when_false _ _ _ h
unchanged s (NewColumn t c def) (ObjectAt o) f h = has-after s (NewColumn t c def) o
unchanged s (NewColumn t c def) (CellAt q) f h =
    ap (option_and_then (λ (m : Cells). map.get m q.1)) (get-map_with (with_default t c def) object_exact s.objects q.0)
    ∙ elim (map.get s.objects q.0) as (λ x. option_and_then (λ (m : Cells). map.get m q.1) (option_map (with_default t c def q.0) x) ≡ option_and_then (λ (m : Cells). map.get m q.1) x) [
      | None ↦ refl
      | Some cells ↦ got_default t c def q.0 q.1 (Some cells) refl ∙ when_false _ _ _ h
    ]
unchanged s (Create o) (ObjectAt p) f h = has-after s (Create o) p ∙ ap (λ b. b || has s p) h
unchanged s (Create o) (CellAt q) f h =
    elim (has s o) as (λ b. option_and_then (λ (m : Cells). map.get m q.1) (map.get (cond b s.objects (map.insert s.objects o (new_cells (map.get s.tables o.0)))) q.0) ≡ cell_at s q.0 q.1) [
      | true ↦ refl
      | false ↦ ap (option_and_then (λ (m : Cells). map.get m q.1)) (map.get-insert object_total s.objects o _ q.0 ∙ when_false _ _ _ h)
    ]
unchanged s (Erase o) (ObjectAt p) f h = has-after s (Erase o) p ∙ ap (λ b. not b && has s p) h
unchanged s (Erase o) (CellAt q) f h = ap (option_and_then (λ (m : Cells). map.get m q.1)) (map.get-remove object_total s.objects o q.0 ∙ when_false _ _ _ h)
unchanged s (Change p e) (ObjectAt o) f h = has-after s (Change p e) o
unchanged s (Change p e) (CellAt q) f h =
    got_edited s p e q.0 q.1 (cell_there (cell_at s p.0 p.1) e f.prior) ∙ ap (λ b. option_map (touched (cond b (Some e) None)) (cell_at s q.0 q.1)) h ∙ map_itself (cell_at s q.0 q.1)
unchanged s (NewTable t k) (ObjectAt o) f h = refl
unchanged s (NewTable t k) (CellAt q) f h = refl
unchanged s (Create o) (TableAt u) f h = refl
unchanged s (Create o) (ColumnAt u c) f h = refl
unchanged s (Erase o) (TableAt u) f h = refl
unchanged s (Erase o) (ColumnAt u c) f h = refl
unchanged s (Change p e) (TableAt u) f h = refl
unchanged s (Change p e) (ColumnAt u c) f h = refl
