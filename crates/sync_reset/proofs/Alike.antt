-- What can be saved on a state can be saved on a part of it that has all tables and each object that is named.
use Rattle.std.proofs.Common.{◌≡◌, ℕ, suc, Bool, true, false, cond, List, [], ◌∷◌, ◌++◌, Option, None, Some, is_some, Err, refl, sym, ap, ◌∙◌, subst}
use Rattle.std.specs.Prelude.{if◌then◌else◌}
use Rattle.std.specs.Option.{option_map, option_map_or, option_and_then}
use Rattle.std.specs.Ordering.{eq_by_cmp}
use Rattle.std.specs.FinMap as fin
use Rattle.sync_data.specs.declared.instr.Instr.{Instr}
use Rattle.sync_data.specs.declared.instr.Instr.TheVariants as instrs
use Rattle.sync_base.specs.declared.answers.Break.{Break}
use Rattle.sync_base.specs.declared.answers.Break.TheVariants as breaks
use Rattle.sync_base.specs.After.{after, objects_after, tables_after, new_cells, changed, with_default}
use Rattle.sync_base.specs.Checks.{break_of, first_failed, object_checks, column_check, has_shape, edit_fits, is_prior}
use Rattle.sync_base.specs.Codes.{break_code}
use Rattle.sync_base.specs.Effects.{ObjectName, CellPath, Edit, Effect, NewTable, NewColumn, Create, Erase, Change, effect_of, is_effect}
use Rattle.sync_base.specs.Lemmas.Looks.{object_total, object_exact}
use Rattle.sync_base.specs.Lemmas.Maps.{get-map_with}
use Rattle.sync_base.specs.Objects.{object_of}
use Rattle.sync_base.specs.States.{State, Tables, Cells, object_cmp, column_in, shape_rank}
use Rattle.sync_law.specs.Coded.{apply, state_or_code}
use Rattle.sync_model.specs.Resets.{Saved, saved_from, saved, tried}
use Rattle.sync_exchange.specs.Adapting.{adapt, spot_at}
use Rattle.sync_exchange.specs.Profile.{the_profile}
use Rattle.sync_reset.specs.Parts.{IsAlike, IsAlikeFor, AreAlikeFor}

abbrev Objects : Type 0
Objects = fin.FinMap object_cmp Cells

abbrev pub with_objects : Tables → Objects → State
with_objects ts objects = record { tables = ts; objects = objects }

-- ---- one instruction breaks alike
module _ (ts : Tables) (a b : Objects) where
  abbrev Alike : Option ObjectName → Type 0
  Alike o = IsAlikeFor (with_objects ts a) (with_objects ts b) o

  break_alike : (d : Effect) → Alike (object_of d) → break_of (with_objects ts a) d ≡ break_of (with_objects ts b) d
  break_alike (NewTable t k) h = refl
  break_alike (NewColumn t c def) h = refl
  break_alike (Create o) h = refl
  break_alike (Erase o) h = ap (λ x. first_failed (object_checks ts o ++ (is_some x, breaks.NoObject) ∷ [])) h
  break_alike (Change p e) h =
      let col = column_in ts p.0.0 p.1 in
      ap (λ x. first_failed (object_checks ts p.0 ++ (is_some x, breaks.NoObject) ∷ (is_some col, breaks.NoColumn)
      ∷ (column_check (λ c. has_shape e (shape_rank c.shape)) col, breaks.WrongShape)
      ∷ (column_check (λ c. edit_fits ts c e) col, breaks.WrongKind)
      ∷ (option_map_or (is_prior e) (option_and_then (λ (cells : Cells). fin.get cells p.1) x) false, breaks.BadPrior) ∷ [])) h

  adapt_alike : (i : Instr) → Alike (object_of (effect_of i)) → adapt (with_objects ts a) i ≡ adapt (with_objects ts b) i
  adapt_alike (instrs.AddTable i) h = refl
  adapt_alike (instrs.AddColumn i) h = refl
  adapt_alike (instrs.CreateObject i) h = refl
  adapt_alike (instrs.EraseObject i) h = refl
  adapt_alike (instrs.Update i) h = refl
  adapt_alike (instrs.AddInteger i) h = refl
  adapt_alike (instrs.ListUpdate i) h = refl
  adapt_alike (instrs.ListInsert i) h = ap (λ x. instrs.ListInsert (record { cell = i.cell; spot = spot_at i.spot (option_and_then (λ (cells : Cells). fin.get cells i.cell.column) x); value = i.value })) h
  adapt_alike (instrs.ListErase i) h = refl
  adapt_alike (instrs.SetInsert i) h = refl
  adapt_alike (instrs.SetErase i) h = refl
  adapt_alike (instrs.DictUpdate i) h = refl
  adapt_alike (instrs.Clear i) h = refl

same_object : (s : State) (i : Instr) → object_of (effect_of i) ≡ object_of (effect_of (adapt s i))
same_object s (instrs.AddTable i) = refl
same_object s (instrs.AddColumn i) = refl
same_object s (instrs.CreateObject i) = refl
same_object s (instrs.EraseObject i) = refl
same_object s (instrs.Update i) = refl
same_object s (instrs.AddInteger i) = refl
same_object s (instrs.ListUpdate i) = refl
same_object s (instrs.ListInsert i) = refl
same_object s (instrs.ListErase i) = refl
same_object s (instrs.SetInsert i) = refl
same_object s (instrs.SetErase i) = refl
same_object s (instrs.DictUpdate i) = refl
same_object s (instrs.Clear i) = refl

-- ---- and leaves alike what was alike
get_created : (there : Bool) (m : Objects) (o : ObjectName) (new : Cells) (q : ObjectName) → fin.get (if there then m else fin.insert m o new) q ≡ cond there (fin.get m q) (cond (eq_by_cmp object_cmp q o) (Some new) (fin.get m q))
get_created true m o new q = refl
get_created false m o new q = fin.get-insert object_total m o new q

abbrev changed_at : Option Cells → Objects → CellPath → Edit → Objects
changed_at x m p e = elim x as (λ _. Objects) [ None ↦ m | Some cells ↦ fin.insert m p.0 (changed p.1 e cells) ]

get_changed : (x : Option Cells) (m : Objects) (p : CellPath) (e : Edit) (q : ObjectName)
    → fin.get (changed_at x m p e) q ≡ elim x as (λ _. Option Cells) [ None ↦ fin.get m q | Some cells ↦ cond (eq_by_cmp object_cmp q p.0) (Some (changed p.1 e cells)) (fin.get m q) ]
get_changed None m p e q = refl
get_changed (Some cells) m p e q = fin.get-insert object_total m p.0 (changed p.1 e cells) q

after_alike : (ts : Tables) (a b : Objects) (d : Effect) → IsAlikeFor (with_objects ts a) (with_objects ts b) (object_of d) → (q : ObjectName) → fin.get a q ≡ fin.get b q
    → fin.get (objects_after d (with_objects ts a)) q ≡ fin.get (objects_after d (with_objects ts b)) q
after_alike ts a b (NewTable t k) h q e = e
after_alike ts a b (NewColumn t c def) h q e =
    get-map_with (with_default t c def) object_exact a q ∙ ap (option_map (with_default t c def q)) e ∙ sym (get-map_with (with_default t c def) object_exact b q)
after_alike ts a b (Create o) h q e =
    let new = new_cells (fin.get ts o.0) in
    get_created (is_some (fin.get a o)) a o new q ∙ (λ i. cond (is_some (h i)) (e i) (cond (eq_by_cmp object_cmp q o) (Some new) (e i))) ∙ sym (get_created (is_some (fin.get b o)) b o new q)
after_alike ts a b (Erase o) h q e = fin.get-remove object_total a o q ∙ ap (cond (eq_by_cmp object_cmp q o) None) e ∙ sym (fin.get-remove object_total b o q)
after_alike ts a b (Change p d) h q e =
    get_changed (fin.get a p.0) a p d q
    ∙ (λ i. elim (h i) as (λ _. Option Cells) [ None ↦ e i | Some cells ↦ cond (eq_by_cmp object_cmp q p.0) (Some (changed p.1 d cells)) (e i) ])
    ∙ sym (get_changed (fin.get b p.0) b p d q)

one_stays : (a b c d : State) → ((q : ObjectName) → IsAlike a b q → IsAlike c d q) → (o : Option ObjectName) → IsAlikeFor a b o → IsAlikeFor c d o
one_stays a b c d f None h = tt
one_stays a b c d f (Some o) h = f o h

all_stay : (a b c d : State) → ((q : ObjectName) → IsAlike a b q → IsAlike c d q) → (is : List Instr) → AreAlikeFor a b is → AreAlikeFor c d is
all_stay a b c d f [] h = tt
all_stay a b c d f (i ∷ is) h = (one_stays a b c d f (object_of (effect_of i)) h.0, all_stay a b c d f is h.1)

-- ---- a list
pub record Same (x y : Saved Instr State) : Type 0 where
  pub kept : x.kept ≡ y.kept
  pub dropped : x.dropped ≡ y.dropped

-- what the rest gives
abbrev Rest : ℕ → List Instr → Type 0
Rest k is = (ts : Tables) (a b : Objects) → AreAlikeFor (with_objects ts a) (with_objects ts b) is → Same (saved_from the_profile k (with_objects ts a) is) (saved_from the_profile k (with_objects ts b) is)

one_alike : (k : ℕ) (is : List Instr) → Rest (suc k) is → (ts : Tables) (a b : Objects) (j : Instr) → IsAlikeFor (with_objects ts a) (with_objects ts b) (object_of (effect_of j)) → AreAlikeFor (with_objects ts a) (with_objects ts b) is
    → (placed : Bool) (o : Option Break)
    → Same (tried k j (with_objects ts a) (if placed then state_or_code o (after (with_objects ts a) (effect_of j)) else Err 23) (λ t. saved_from the_profile (suc k) t is))
    (tried k j (with_objects ts b) (if placed then state_or_code o (after (with_objects ts b) (effect_of j)) else Err 23) (λ t. saved_from the_profile (suc k) t is))
one_alike k is rest ts a b j h g true None =
    let d = effect_of j in
    let r = rest (tables_after d ts) (objects_after d (with_objects ts a)) (objects_after d (with_objects ts b))
    (all_stay (with_objects ts a) (with_objects ts b) (after (with_objects ts a) d) (after (with_objects ts b) d) (after_alike ts a b d h) is g) in
    record { kept = ap (λ l. j ∷ l) r.kept; dropped = r.dropped }
one_alike k is rest ts a b j h g true (Some c) = let r = rest ts a b g in record { kept = r.kept; dropped = ap (λ l. (k, break_code c) ∷ l) r.dropped }
one_alike k is rest ts a b j h g false o = let r = rest ts a b g in record { kept = r.kept; dropped = ap (λ l. (k, 23) ∷ l) r.dropped }

alike : (k : ℕ) (is : List Instr) → Rest k is
alike k [] ts a b h = record { kept = refl; dropped = refl }
alike k (i ∷ is) ts a b h =
    let sa = with_objects ts a in
    let sb = with_objects ts b in
    let j = adapt sb i in
    let about = subst (IsAlikeFor sa sb) (same_object sb i) h.0 in
    let go : State → Saved Instr State = λ t. saved_from the_profile (suc k) t is in
    subst (λ x. Same (tried k x sa (apply x sa) go) (tried k j sb (apply j sb) go)) (sym (adapt_alike ts a b i h.0))
    (subst (λ o. Same (tried k j sa (apply j sa) go) (tried k j sb (if is_effect (effect_of j) then state_or_code o (after sb (effect_of j)) else Err 23) go)) (break_alike ts a b (effect_of j) about)
    (one_alike k is (alike (suc k) is) ts a b j about h.1 (is_effect (effect_of j)) (break_of sa (effect_of j))))

pub saved_alike : (part whole : State) (is : List Instr) → part.tables ≡ whole.tables → AreAlikeFor part whole is → Same (saved the_profile part is) (saved the_profile whole is)
saved_alike part whole is e h =
    subst (λ ts. AreAlikeFor part (with_objects ts whole.objects) is → Same (saved the_profile part is) (saved the_profile (with_objects ts whole.objects) is)) e (alike 0 is part.tables part.objects whole.objects) h
