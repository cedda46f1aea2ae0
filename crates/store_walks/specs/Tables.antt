-- The objects of each table in turn are all objects.
use Rattle.std.proofs.Common.{◌≡◌, ℕ, true, false, cond, List, [], ◌∷◌, ◌++◌, Some, is_some, refl, sym, ap, ◌∙◌, append_assoc}
use Rattle.std.specs.Prelude.{flat_map}
use Rattle.std.specs.declared.cmp.Ordering.TheVariants.{Less, Equal, Greater}
use Rattle.std.specs.Ordering.{is_lt, is_eq, eq_by_cmp, ordering_then}
use Rattle.std.specs.Cmp.{eq_by_cmp_equiv, tied_itself}
use Rattle.std.specs.FinMap as map
use Rattle.std.specs.FinMap.{find, is_sorted}
use Rattle.std.specs.FinMap.Entries.{below_all}
use Rattle.sync_data.specs.Orders.{name_cmp, key_cmp}
use Rattle.sync_data.specs.declared.key.Key.{Key}
use Rattle.sync_base.specs.Effects.{ObjectName}
use Rattle.sync_base.specs.States.{State, Cells, IsState, object_cmp}
use Rattle.sync_base.specs.Lemmas.Looks.{name_total, name_exact, object_total}
use Rattle.sync_base.specs.Lemmas.Whole.{shaped_of}
use Rattle.sync_maps.specs.Seen.{tied}
use Rattle.store_walks.specs.Along.{objects_in}
use Rattle.store_walks.specs.Walk.{first_of, second_of, is_less}
use Rattle.store_walks.specs.Standing.{is_true}

-- one name is below what is found among names that are all above it
pub below_found : {X : Type 0} (k q : List ℕ) (es : List (List ℕ × X)) → below_all name_cmp k es ≡ true → is_some (find name_cmp q es) ≡ true → name_cmp k q ≡ Less
below_found k q [] h f = cc
below_found k q (e ∷ es) h f =
    elim (eq_by_cmp name_cmp q e.0) as (λ b. eq_by_cmp name_cmp q e.0 ≡ b → is_some (cond b (Some e.1) (find name_cmp q es)) ≡ true → name_cmp k q ≡ Less) [
      | true ↦ λ t _. ap (name_cmp k) (tied name_exact q e.0 t) ∙ is_less (name_cmp k e.0) (first_of _ _ h)
      | false ↦ λ _ g. below_found k q es (second_of (is_lt (name_cmp k e.0)) _ h) g
    ] refl f

turned : (u t : List ℕ) → eq_by_cmp name_cmp u t ≡ eq_by_cmp name_cmp t u
turned u t = (eq_by_cmp_equiv name_total).symm u t

apart : (u t : List ℕ) → name_cmp u t ≡ Less → eq_by_cmp name_cmp u t ≡ false
apart u t e = ap is_eq e

-- a table below all objects has none of them
none_in : (u t : List ℕ) (k : Key) → name_cmp u t ≡ Less → (es : List (ObjectName × Cells)) → below_all object_cmp (t, k) es ≡ true → objects_in u es ≡ []
none_in u t k l [] h = refl
none_in u t k l (e ∷ es) h =
    let below : name_cmp u e.0.0 ≡ Less =
    elim (name_cmp t e.0.0) as (λ r. name_cmp t e.0.0 ≡ r → is_lt (ordering_then r (key_cmp k e.0.1)) ≡ true → name_cmp u e.0.0 ≡ Less) [
      | Less ↦ λ m _. name_total.trans u t e.0.0 l m
      | Equal ↦ λ m _. ap (name_cmp u) (sym (name_exact t e.0.0 m)) ∙ l
      | Greater ↦ λ _ g. cc
    ] refl (first_of _ _ h) in
    ap (λ b. cond b ((e.0.1, e.1) ∷ objects_in u es) (objects_in u es)) (apart u e.0.0 below)
    ∙ none_in u t k l es (second_of (is_lt (object_cmp (t, k) e.0)) _ h)

module _ {A : Type 0} (f : ObjectName × Cells → List A) where
  -- what comes of the objects of a table
  abbrev pub of_table : List (ObjectName × Cells) → List ℕ → List A
  of_table es t = flat_map (λ q. f ((t, q.0), q.1)) (objects_in t es)

  -- an object of another table makes no difference
  other_table : (u : List ℕ) (e : ObjectName × Cells) (es : List (ObjectName × Cells)) → eq_by_cmp name_cmp u e.0.0 ≡ false → of_table (e ∷ es) u ≡ of_table es u
  other_table u e es h = ap (λ b. flat_map (λ q. f ((u, q.0), q.1)) (cond b ((e.0.1, e.1) ∷ objects_in u es) (objects_in u es))) h

  same_table : (u : List ℕ) (e : ObjectName × Cells) (es : List (ObjectName × Cells)) → eq_by_cmp name_cmp u e.0.0 ≡ true → of_table (e ∷ es) u ≡ f e ++ of_table es u
  same_table u e es h =
      ap (λ b. flat_map (λ q. f ((u, q.0), q.1)) (cond b ((e.0.1, e.1) ∷ objects_in u es) (objects_in u es))) h
      ∙ ap (λ t. f ((t, e.0.1), e.1) ++ of_table es u) (tied name_exact u e.0.0 h)

-- each object's table stands
abbrev pub Housed : {X : Type 0} → List (List ℕ × X) → List (ObjectName × Cells) → Type 0
Housed ts [] = Unit {0}
Housed ts (e ∷ es) = (is_some (find name_cmp e.0.0 ts) ≡ true) × Housed ts es

module _ {A X : Type 0} (f : ObjectName × Cells → List A) where
  none_of : (ts : List (List ℕ × X)) → flat_map (λ u. of_table f [] u.0) ts ≡ []
  none_of [] = refl
  none_of (u ∷ us) = none_of us

  other_tables : (us : List (List ℕ × X)) (e : ObjectName × Cells) (es : List (ObjectName × Cells)) → below_all name_cmp e.0.0 us ≡ true → flat_map (λ u. of_table f (e ∷ es) u.0) us ≡ flat_map (λ u. of_table f es u.0) us
  other_tables [] e es h = refl
  other_tables (u ∷ us) e es h =
      let away = turned u.0 e.0.0 ∙ apart e.0.0 u.0 (is_less (name_cmp e.0.0 u.0) (first_of _ _ h)) in
      λ i. other_table f u.0 e es away i ++ other_tables us e es (second_of (is_lt (name_cmp e.0.0 u.0)) _ h) i

  -- the first object comes first
  first_object : (ts : List (List ℕ × X)) (e : ObjectName × Cells) (es : List (ObjectName × Cells)) → is_sorted name_cmp ts ≡ true → is_some (find name_cmp e.0.0 ts) ≡ true → below_all object_cmp e.0 es ≡ true
      → flat_map (λ u. of_table f (e ∷ es) u.0) ts ≡ f e ++ flat_map (λ u. of_table f es u.0) ts
  first_object [] e es s h b = cc
  first_object (u ∷ us) e es s h b =
      elim (eq_by_cmp name_cmp u.0 e.0.0) as (λ c. eq_by_cmp name_cmp u.0 e.0.0 ≡ c → flat_map (λ u. of_table f (e ∷ es) u.0) (u ∷ us) ≡ f e ++ flat_map (λ u. of_table f es u.0) (u ∷ us)) [
        | true ↦ λ t.
            let above = ap (λ n. below_all name_cmp n us) (sym (tied name_exact u.0 e.0.0 t)) ∙ first_of _ _ s in
            (λ i. same_table f u.0 e es t i ++ other_tables us e es above i) ∙ append_assoc (f e) (of_table f es u.0) (flat_map (λ u. of_table f es u.0) us)
        | false ↦ λ t.
            let later = ap (λ c. is_some (cond c (Some u.1) (find name_cmp e.0.0 us))) (sym (turned e.0.0 u.0 ∙ t)) ∙ h in
            let none = ap (flat_map (λ q. f ((u.0, q.0), q.1))) (none_in u.0 e.0.0 e.0.1 (below_found u.0 e.0.0 us (first_of _ _ s) later) es b) in
            (λ i. (other_table f u.0 e es t ∙ none) i ++ first_object us e es (second_of (below_all name_cmp u.0 us) _ s) later b i)
            ∙ ap (λ l. f e ++ (l ++ flat_map (λ u. of_table f es u.0) us)) (sym none)
      ] refl

  pub all_tables : (ts : List (List ℕ × X)) (es : List (ObjectName × Cells)) → is_sorted name_cmp ts ≡ true → is_sorted object_cmp es ≡ true → Housed ts es → flat_map (λ u. of_table f es u.0) ts ≡ flat_map f es
  all_tables ts [] s r h = none_of ts
  all_tables ts (e ∷ es) s r h = first_object ts e es s h.0 (first_of _ _ r) ∙ ap (λ l. f e ++ l) (all_tables ts es s (second_of (below_all object_cmp e.0 es) _ r) h.1)

module _ {X : Type 0} (ts : List (List ℕ × X)) where
  found_behind : (o : ObjectName) (e : ObjectName × Cells) (es : List (ObjectName × Cells)) → is_some (find object_cmp o es) ≡ true → is_some (find object_cmp o (e ∷ es)) ≡ true
  found_behind o e es h = elim (eq_by_cmp object_cmp o e.0) as (λ b. is_some (cond b (Some e.1) (find object_cmp o es)) ≡ true) [ true ↦ refl | false ↦ h ]

  housed : (es : List (ObjectName × Cells)) → ((o : ObjectName) → is_some (find object_cmp o es) ≡ true → is_some (find name_cmp o.0 ts) ≡ true) → Housed ts es
  housed [] h = tt
  housed (e ∷ es) h = (
    h e.0 (ap (λ r. is_some (cond (is_eq r) (Some e.1) (find object_cmp e.0 es))) (tied_itself object_total e.0)),
    housed es (λ o g. h o (found_behind o e es g)),
  )

-- of a state, each table in turn
pub objects_by_table : {A : Type 0} (f : ObjectName × Cells → List A) (s : State) → IsState s → flat_map (λ u. of_table f (map.entries s.objects) u.0) (map.entries s.tables) ≡ flat_map f (map.entries s.objects)
objects_by_table f s ok =
    all_tables f (map.entries s.tables) (map.entries s.objects) (is_true _ (map.entries_sorted s.tables)) (is_true _ (map.entries_sorted s.objects))
    (housed (map.entries s.tables) (map.entries s.objects) (λ o h.
    sym (ap is_some (map.get-entries s.tables o.0)) ∙ (shaped_of s ok).housed o (ap is_some (map.get-entries s.objects o) ∙ h)))
