-- A state of the project's own is built of parts and grown back from them.
use Rattle.std.specs.Prelude.{◌≡◌, ℕ, suc, ◌+◌, ◌≤◌, true, false, cond, not, List, [], ◌∷◌, map, length, is_some, Option, Some, refl}
use Rattle.std.specs.List.{list_any, AllByRecursion}
use Rattle.std.specs.Ordering.{eq_by_cmp}
use Rattle.std.proofs.Common.{sym, ◌∙◌, ap, arith}
use Rattle.std.proofs.lemmas.Bool.{le-ltb}
use Rattle.sync_theory.specs.Lists.{run}
use Rattle.sync_model.specs.Profile.{act as act_by}
use Rattle.sync_model.specs.Snapshots.{Buildable}
use Rattle.sync_model.specs.Each.{Each, no_more, and_each}
use Rattle.sync_model.specs.Cuts.{cut}
use Rattle.sync_model.specs.Lemmas.Cuts.{cut_small, cut_old, cut_runs}
use Rattle.sync_data.specs.Orders.{value_cmp, value_cmp_total}
use Rattle.sync_data.specs.declared.column.Column.{Column}
use Rattle.sync_data.specs.declared.column.Shape.{Shape}
use Rattle.sync_data.specs.declared.column.Shape.TheVariants as shapes
use Rattle.sync_data.specs.declared.instr.Instr.{Instr}
use Rattle.sync_data.specs.declared.value.Value.{Value}
use Rattle.sync_base.specs.After.{default_of}
use Rattle.sync_base.specs.Checks.{act}
use Rattle.sync_base.specs.Effects.{ObjectName, CellPath, Edit, Set, Include, Bind, Change, instr_of}
use Rattle.sync_base.specs.Lemmas.Cells.{same_itself}
use Rattle.sync_base.specs.Lemmas.Looks.{name_total, name_exact}
use Rattle.sync_base.specs.Lemmas.Steps.{clash}
use Rattle.sync_base.specs.Lemmas.Whole.{shaped_of}
use Rattle.sync_base.specs.States.{State, Cell, One, Many, Members, Dict, IsState, no_state, cell_rank, column_in, has, shape_rank}
use Rattle.sync_law.specs.CodedLaw.{applies}
use Rattle.sync_codec.specs.Spelling.{needs_second, has_dictionaries}
use Rattle.sync_codec.specs.Valid.{IsGap}
use Rattle.store_walks.specs.Along.{in_order}
use Rattle.store_walks.specs.Sets.{contains-in_order}
use Rattle.snapshot_law.specs.Build.{insertions, is_default, edits_of, built_list}
use Rattle.snapshot_law.specs.Lemmas.Edits.{or_true, or_first}
use Rattle.snapshot_law.specs.Lemmas.Runs.{built-no_state, built_runs}
use Rattle.snapshot_law.specs.Lemmas.Each.{each_all, each_map, each_entry, each_effect, each_instr}
use Rattle.sync_exchange.specs.Profile.{fits_changeset, the_profile}
use Rattle.sync_exchange.specs.Bounded.{IsBounded, IsOldState, IsHeldValue, IsHeldCell, names_of}
use Rattle.sync_exchange.specs.Lemmas.Bounded.{keeps_bounded, keeps_old, empty_bounded, empty_old}
use Rattle.sync_exchange.specs.Lemmas.Held.{IsLight, IsHeldPath, light_table, light_column, light_create, light_set, light_include, light_insert, light_bind}
use Rattle.sync_exchange.specs.Lemmas.Olds.{meets_old}

-- ---- each instruction is light
abbrev LightEdit : CellPath → Edit → Type 0
LightEdit p e = IsLight (instr_of (Change p e))

light_insertions : (p : CellPath) → IsHeldPath p → (xs : List Value) (k : ℕ) → k + length xs ≤ 4294967296 → AllByRecursion (IsHeldValue (names_of p.0 p.1)) xs → Each (LightEdit p) (insertions k xs)
light_insertions p h [] k few g = no_more
light_insertions p h (v ∷ vs) k few g =
    let gap : IsGap (record { place = k; prior = k }) = (omega (arith, few), omega (arith, few), ap not (le-ltb k k (omega arith))) in
    and_each (light_insert p (record { place = k; prior = k }) v h gap g.0) (light_insertions p h vs (suc k) (omega (arith, few)) g.1)

light_members : (p : CellPath) → IsHeldPath p → (vs : List Value) → ((v : Value) → list_any (eq_by_cmp value_cmp v) vs ≡ true → IsHeldValue (names_of p.0 p.1) v) → Each (LightEdit p) (map (λ v. Include v) vs)
light_members p h [] g = no_more
light_members p h (v ∷ vs) g =
    and_each (light_include p v h (g v (or_first (eq_by_cmp value_cmp v v) (list_any (eq_by_cmp value_cmp v) vs) (same_itself value_cmp_total v))))
    (light_members p h vs (λ w e. g w (or_true (eq_by_cmp value_cmp w v) (list_any (eq_by_cmp value_cmp w) vs) e)))

light_edits : (p : CellPath) → IsHeldPath p → (default x : Cell) → IsHeldCell (names_of p.0 p.1) x → Each (LightEdit p) (edits_of default x)
light_edits p h default (One v) g = elim (is_default v default) as (λ b. Each (LightEdit p) (cond b [] (Set v ∷ []))) [ true ↦ no_more | false ↦ and_each (light_set p v h g) no_more ]
light_edits p h default (Many xs) g = light_insertions p h xs 0 (let few = g.0 in omega (arith, few)) g.1
light_edits p h default (Members xs) g = light_members p h (in_order xs) (λ v e. g v (contains-in_order xs v ∙ e))
light_edits p h default (Dict m) g = each_entry name_total name_exact (LightEdit p) (λ e. Bind e.0 (Some e.1)) m (λ k v here. let b = g k v here in light_bind p k v h b.0 b.1)

path_held : (s : State) → IsBounded s → (o : ObjectName) (c : List ℕ) (def : Column) → has s o ≡ true → column_in s.tables o.0 c ≡ Some def → IsHeldPath (o, c)
path_held s b o c def h e = record { table = b.tables o.0 ((shaped_of s b.is_state).housed o h); key = b.objects o h; column = (b.columns o.0 c def e).0 }

all_light : (s : State) → IsBounded s → Each IsLight (built_list s)
all_light s b =
    each_instr IsLight s (each_effect (λ d. IsLight (instr_of d)) s b.is_state
    (λ t x here. light_table t x.key (b.tables t (ap is_some here)))
    (λ t c x def here e. let k = b.columns t c def e in light_column t c def (b.tables t (ap is_some here)) k.0 k.1)
    (λ o h. light_create o (b.tables o.0 ((shaped_of s b.is_state).housed o h)) (b.objects o h))
    (λ o c x col h at e. light_edits (o, c) (path_held s b o c col h e) (default_of col) x (b.cells o c x at)))

-- ---- no instruction needs the second version
abbrev OldEdit : CellPath → Edit → Type 0
OldEdit p e = needs_second (instr_of (Change p e)) ≡ false

old_insertions : (p : CellPath) (xs : List Value) (k : ℕ) → Each (OldEdit p) (insertions k xs)
old_insertions p [] k = no_more
old_insertions p (v ∷ vs) k = and_each refl (old_insertions p vs (suc k))

is_dictionary : (shape : Shape) → 3 ≡ shape_rank shape → has_dictionaries shape ≡ true
is_dictionary shapes.Dict e = refl
is_dictionary shape e = absurd (omega (arith, e))

old_edits : (p : CellPath) (col : Column) (default x : Cell) → cell_rank x ≡ shape_rank col.shape → has_dictionaries col.shape ≡ false → Each (OldEdit p) (edits_of default x)
old_edits p col default (One v) r h = elim (is_default v default) as (λ b. Each (OldEdit p) (cond b [] (Set v ∷ []))) [ true ↦ no_more | false ↦ and_each refl no_more ]
old_edits p col default (Many xs) r h = old_insertions p xs 0
old_edits p col default (Members xs) r h = each_map (OldEdit p) (λ v. Include v) (in_order xs) (each_all (λ v. OldEdit p (Include v)) (in_order xs) (λ v. refl))
old_edits p col default (Dict m) r h = clash (has_dictionaries col.shape) (is_dictionary col.shape r) h

all_old : (s : State) → IsState s → IsOldState s → Each (λ i. needs_second i ≡ false) (built_list s)
all_old s ok old =
    each_instr (λ i. needs_second i ≡ false) s (each_effect (λ d. needs_second (instr_of d) ≡ false) s ok
    (λ t x here. refl)
    (λ t c x def here e. old t c def e)
    (λ o h. refl)
    (λ o c x col h at e. old_edits (o, c) col (default_of col) x (ok.shaped o c x col at e) (old o.0 c col e)))

-- ---- acting by code is acting
acts_alike : ◌≡◌ {A = Instr → State → Option State} (act_by the_profile) act
acts_alike = λ j i s. applies i s j

acted : (i : Instr) (s t : State) → act_by the_profile i s ≡ Some t → act i s ≡ Some t
acted i s t e = sym (applies i s) ∙ e

runs : (s : State) → IsState s → run (act_by the_profile) (built_list s) no_state ≡ Some s
runs s ok = ap (λ f. run f (built_list s) no_state) acts_alike ∙ built_runs s ok

pub real_buildable : Buildable the_profile IsState IsBounded IsOldState
real_buildable = record {
  first = empty_bounded;
  keeps = λ i s t w b e. keeps_bounded i s t w b (acted i s t e);
  first_old = empty_old;
  keeps_old = λ i s t n h e. keeps_old i s t n h (acted i s t e);
  meets_old = meets_old;
  nothing = ap (cut fits_changeset) built-no_state;
  small = λ s ok b. cut_small the_profile (omega arith) (all_light s b);
  old = λ s ok h. cut_old the_profile (all_old s ok h);
  grows = λ s ok b. cut_runs the_profile (built_list s) no_state s (runs s ok);
}
