-- Tables and objects are brought into a part of a state.
use Rattle.std.proofs.Common.{◌≡◌, Bool, true, false, cond, List, [], ◌∷◌, ◌++◌, map, Option, None, Some, is_some, refl, sym, ap, ◌∙◌, subst}
use Rattle.std.specs.Option.{option_map_or, option_and_then}
use Rattle.std.specs.Ordering.{eq_by_cmp}
use Rattle.std.specs.FinMap as fin
use Rattle.sync_theory.specs.Lists.{and_then, run}
use Rattle.sync_data.specs.declared.instr.Instr.{Instr}
use Rattle.sync_base.specs.Checks.{act, act_all, act_effect}
use Rattle.sync_base.specs.Effects.{ObjectName, Effect, effect_of, instr_of}
use Rattle.sync_base.specs.Lemmas.Looks.{object_total, object_exact}
use Rattle.sync_base.specs.Lemmas.Maps.{tied_is}
use Rattle.sync_base.specs.Lemmas.Steps.{some_is}
use Rattle.sync_base.specs.Lemmas.Whole.{effect-instr}
use Rattle.sync_base.specs.Objects.{object_of}
use Rattle.sync_base.specs.States.{State, Cells, IsState, no_state, object_cmp, has}
use Rattle.snapshot_law.specs.Build.{object_effects, new_tables, new_columns}
use Rattle.snapshot_law.specs.Lemmas.Maps.{got_put}
use Rattle.snapshot_law.specs.Lemmas.Objects.{with_objects, runs_on, object_runs}
use Rattle.snapshot_law.specs.Lemmas.Tables.{tables_run, all_columns_run}
use Rattle.sync_snapshot.specs.Lists.{object_instrs, schema_instrs}
use Rattle.sync_reset.specs.Parts.{IsAlike, IsAlikeFor, AreAlikeFor, StaysAlike, IsPartOf}

-- ---- lists that act
all_run : (is : List Instr) (s : State) → act_all is s ≡ run act is s
all_run [] s = refl
all_run (i ∷ is) s = elim (act i s) as (λ x. option_and_then (act_all is) x ≡ and_then x (run act is)) [ None ↦ refl | Some t ↦ all_run is t ]

effects_run : (ds : List Effect) (s : State) → run act (map instr_of ds) s ≡ run act_effect ds s
effects_run [] s = refl
effects_run (d ∷ ds) s = ap (λ e. and_then (act_effect e s) (run act (map instr_of ds))) (effect-instr d) ∙ ap (λ go. and_then (act_effect d s) go) (λ i t. effects_run ds t i)

same_some : {A : Type 0} {x y : A} → Some x ≡ Some y → x ≡ y
same_some e = cc

leads : (ds : List Effect) (s t u : State) → run act_effect ds s ≡ Some u → act_all (map instr_of ds) s ≡ Some t → u ≡ t
leads ds s t u h e = same_some (sym (all_run (map instr_of ds) s ∙ effects_run ds s ∙ h) ∙ e)

-- ---- the tables
none_there : (o : ObjectName) → is_some (fin.get (fin.empty {X = Cells} {R = object_cmp}) o) ≡ true → (P : Type 0) → P
none_there o h P = cc (ap is_some (fin.get-empty {X = Cells} object_cmp o), h)

pub tables_part : (s t : State) → IsState s → act_all (schema_instrs s) no_state ≡ Some t → IsPartOf t s
tables_part s t ok e =
    subst (λ u. IsPartOf u s) (leads (new_tables s ++ new_columns s) no_state t (with_objects s.tables fin.empty) (runs_on (new_tables s) (new_columns s) no_state _ _ (tables_run s) (all_columns_run s ok)) e)
    (record { tables = refl; objects = λ o h. none_there o h _ })

-- ---- an object
pub record Brought (old new whole : State) (o : ObjectName) : Type 0 where
  pub part : IsPartOf new whole
  pub here : IsAlike new whole o
  pub others : StaysAlike old new whole

none_is : {A : Type 0} (x : Option A) → is_some x ≡ false → x ≡ None
none_is None h = refl
none_is (Some x) h = cc

module _ (s part : State) (p : IsPartOf part s) (o : ObjectName) (cells : Cells) (there : fin.get s.objects o ≡ Some cells) where
  put_there : State
  put_there = with_objects s.tables (fin.insert part.objects o cells)

  alike_if : (b : Bool) (q : ObjectName) → eq_by_cmp object_cmp q o ≡ b → (b ≡ false → IsAlike part s q) → cond b (Some cells) (fin.get part.objects q) ≡ fin.get s.objects q
  alike_if true q e h = sym there ∙ ap (fin.get s.objects) (sym (tied_is object_exact q o e))
  alike_if false q e h = h refl

  alike_at : (q : ObjectName) → (eq_by_cmp object_cmp q o ≡ false → IsAlike part s q) → fin.get (fin.insert part.objects o cells) q ≡ fin.get s.objects q
  alike_at q h = fin.get-insert object_total part.objects o cells q ∙ alike_if (eq_by_cmp object_cmp q o) q refl h

  was_there : (q : ObjectName) → is_some (fin.get (fin.insert part.objects o cells) q) ≡ true → eq_by_cmp object_cmp q o ≡ false → has part q ≡ true
  was_there q h e = sym (ap is_some (fin.get-insert object_total part.objects o cells q ∙ ap (λ b. cond b (Some cells) (fin.get part.objects q)) e)) ∙ h

  pub object_brought : Brought part (with_objects s.tables (fin.insert part.objects o cells)) s o
  object_brought = record {
    part = record { tables = refl; objects = λ q h. alike_at q (λ e. p.objects q (was_there q h e)) };
    here = got_put object_total object_exact part.objects o cells ∙ sym there;
    others = λ q h. alike_at q (λ _. h);
  }

pub brought : (s part t : State) → IsState s → IsPartOf part s → (o : ObjectName) → has part o ≡ false → has s o ≡ true → act_all (object_instrs s o) part ≡ Some t → Brought part t s o
brought s part t ok p o new there acts =
    let cells : (x : Cells) × (fin.get s.objects o ≡ Some x) = some_is (fin.get s.objects o) there in
    let runs = object_runs s ok part.objects o cells.0 cells.1 (none_is (fin.get part.objects o) new) in
    let list = ap (λ x. option_map_or (λ m. map instr_of (object_effects s o m)) x []) cells.1 in
    let same : part ≡ with_objects s.tables part.objects = λ i. with_objects (p.tables i) part.objects in
    let acted = ap (λ is. act_all is (with_objects s.tables part.objects)) (sym list) ∙ ap (act_all (object_instrs s o)) (sym same) ∙ acts in
    subst (λ u. Brought part u s o) (leads (object_effects s o cells.0) (with_objects s.tables part.objects) t _ runs acted) (object_brought s part p o cells.0 cells.1)

-- ---- all that is named
one_stays : (old new whole : State) → StaysAlike old new whole → (o : Option ObjectName) → IsAlikeFor old whole o → IsAlikeFor new whole o
one_stays old new whole f None h = tt
one_stays old new whole f (Some o) h = f o h

-- where the rest is brought too, all is
abbrev pub Brings : State → State → List Instr → List Instr → Type 0
Brings part whole all rest = (new : State) → StaysAlike part new whole → AreAlikeFor new whole rest → AreAlikeFor new whole all

pub brings_on : (part next whole : State) (i : Instr) (all rest : List Instr) → Brings part whole all (i ∷ rest) → StaysAlike part next whole → IsAlikeFor next whole (object_of (effect_of i)) → Brings next whole all rest
brings_on part next whole i all rest before stays here new still alike =
    before new (λ o h. still o (stays o h)) (one_stays next new whole still (object_of (effect_of i)) here, alike)
