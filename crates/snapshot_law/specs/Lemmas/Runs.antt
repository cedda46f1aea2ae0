-- The list of a state acts from nothing, and ends in that state.
use Rattle.std.specs.Prelude.{◌≡◌, List, [], ◌∷◌, ◌++◌, map, length, Some, refl}
use Rattle.std.specs.declared.cmp.Ordering.{Ordering}
use Rattle.std.specs.FinMap as fin
use Rattle.std.proofs.Common.{sym, ◌∙◌, ap, ap₂, arith}
use Rattle.sync_data.specs.Orders.{name_cmp}
use Rattle.sync_theory.specs.Lists.{and_then, run}
use Rattle.sync_base.specs.Checks.{act, act_effect}
use Rattle.sync_base.specs.Effects.{Effect, NewTable, instr_of}
use Rattle.sync_base.specs.Lemmas.Whole.{effect-instr}
use Rattle.sync_base.specs.States.{State, Table, Cells, IsState, no_state, object_cmp}
use Rattle.snapshot_law.specs.Build.{joined, columns_of, object_effects, new_tables, new_columns, new_objects, built_effects, built_list}
use Rattle.snapshot_law.specs.Lemmas.Objects.{Runs, runs_on, objects_run}
use Rattle.snapshot_law.specs.Lemmas.Tables.{tables_run, all_columns_run}

-- ---- nothing is built of nothing
none_long : {A : Type 0} (xs : List A) → length xs ≡ 0 → xs ≡ []
none_long [] e = refl
none_long (x ∷ xs) e = absurd (omega arith)

no_entries : {K X : Type 0} (R : K → K → Ordering) → fin.entries (fin.empty {X = X} {R = R}) ≡ []
no_entries {X = X} R = none_long (fin.entries fin.empty) (sym (fin.len-entries fin.empty) ∙ fin.len-empty R X)

no_effects : built_effects no_state ≡ []
no_effects =
    ap₂ (λ ts os. map (λ e. NewTable e.0 e.1.key) ts ++ (joined (map (λ e. columns_of e.0 e.1) ts) ++ joined (map (λ e. object_effects no_state e.0 e.1) os))) (no_entries {X = Table} name_cmp) (no_entries {X = Cells} object_cmp)

pub built-no_state : built_list no_state ≡ []
built-no_state = ap (map instr_of) no_effects

-- ---- a state is built
effects_run : (s : State) → IsState s → Runs (built_effects s) no_state s
effects_run s ok = runs_on (new_tables s) _ no_state _ s (tables_run s) (runs_on (new_columns s) (new_objects s) _ _ s (all_columns_run s ok) (objects_run s ok))

run-instrs : (ds : List Effect) (s : State) → run act (map instr_of ds) s ≡ run act_effect ds s
run-instrs [] s = refl
run-instrs (d ∷ ds) s = ap (λ e. and_then (act_effect e s) (run act (map instr_of ds))) (effect-instr d) ∙ ap (λ go. and_then (act_effect d s) go) (λ i t. run-instrs ds t i)

pub built_runs : (s : State) → IsState s → run act (built_list s) no_state ≡ Some s
built_runs s ok = run-instrs (built_effects s) no_state ∙ effects_run s ok
