-- Both orders: the two-sided law of every pair.
use Rattle.std.specs.Prelude.{◌≡◌, ℕ, Bool, true, false, cond, not, ◌&&◌, ◌||◌, ◌==◌, List, is_some, Option, None, Some, Ok, Err, refl}
use Rattle.std.specs.Ordering.{eq_by_cmp}
use Rattle.std.specs.FinMap as map
use Rattle.std.specs.FinMap.{FinMap}
use Rattle.std.proofs.Common.{sym, ◌∙◌, ap, subst}
use Rattle.std.proofs.lemmas.Bool.{eqb-true}
use Rattle.sync_base.specs.After.{tables_after, with_column}
use Rattle.sync_base.specs.Effects.{Edit, Effect, NewTable, NewColumn, Create, Erase, Change}
use Rattle.sync_base.specs.Lemmas.Agreed.{AgreesIfMet, EffectsAgree}
use Rattle.sync_base.specs.Lemmas.Cells.{same_itself}
use Rattle.sync_base.specs.Lemmas.Laws.{right_law, RightIfMet, turned, same_rank_kind, column_same}
use Rattle.sync_base.specs.Lemmas.Looks.{name_total, name_exact, object_total, object_exact, creates, erases}
use Rattle.sync_base.specs.Lemmas.Maps.{tied_is}
use Rattle.sync_base.specs.Lemmas.Mirror.{mirrored, rule_turned}
use Rattle.sync_base.specs.Lemmas.Pairs.{merged-stands, has-merged}
use Rattle.sync_base.specs.Lemmas.Steps.{found, Found, some_is, clash}
use Rattle.sync_base.specs.Merged.{touch, merged_touch, cell_or_default, merged_presence, built, is_defined, same_column, merged_state}
use Rattle.sync_base.specs.Rules.{Outcomes, Answer, rule}
use Rattle.sync_base.specs.States.{State, Table, Cell, has, Tables, key_rank_of}
use Rattle.sync_data.specs.Orders.{name_cmp}
use Rattle.sync_data.specs.declared.column.Column.{Column}
use Rattle.sync_base.specs.declared.answers.Mismatch.{Mismatch}
use Rattle.sync_base.specs.declared.answers.Mismatch.TheVariants as mismatches

-- ---- two writes at different keys
conds_swap : {A : Type 0} (a b : Bool) (x y z : A) → (a ≡ true → b ≡ true → ⊥) → cond a x (cond b y z) ≡ cond b y (cond a x z)
conds_swap true true x y z h = absurd (h refl refl)
conds_swap true false x y z h = refl
conds_swap false b x y z h = refl

cond_over : {A : Type 0} (b : Bool) (x y z : A) → cond b x (cond b y z) ≡ cond b x z
cond_over true x y z = refl
cond_over false x y z = refl

insert_swap : {X : Type 0} (m : FinMap name_cmp X) (k j : List ℕ) (v w : X) → eq_by_cmp name_cmp k j ≡ false → map.insert (map.insert m k v) j w ≡ map.insert (map.insert m j w) k v
insert_swap m k j v w apart = map.same_map name_total name_exact _ _ (λ q.
    map.get-insert name_total (map.insert m k v) j w q ∙ ap (cond (eq_by_cmp name_cmp q j) (Some w)) (map.get-insert name_total m k v q)
    ∙ conds_swap (eq_by_cmp name_cmp q j) (eq_by_cmp name_cmp q k) (Some w) (Some v) (map.get m q) (λ a b. clash (eq_by_cmp name_cmp k j) (ap (λ x. eq_by_cmp name_cmp x j) (sym (tied_is name_exact q k b)) ∙ a) apart)
    ∙ sym (map.get-insert name_total (map.insert m j w) k v q ∙ ap (cond (eq_by_cmp name_cmp q k) (Some v)) (map.get-insert name_total m j w q)))

insert_over : {X : Type 0} (m : FinMap name_cmp X) (k : List ℕ) (v w : X) → map.insert (map.insert m k v) k w ≡ map.insert m k w
insert_over m k v w = map.same_map name_total name_exact _ _ (λ q.
    map.get-insert name_total (map.insert m k v) k w q ∙ ap (cond (eq_by_cmp name_cmp q k) (Some w)) (map.get-insert name_total m k v q) ∙ cond_over (eq_by_cmp name_cmp q k) (Some w) (Some v) (map.get m q) ∙ sym (map.get-insert name_total m k w q))

column_written : (ts : Tables) (t c : List ℕ) (x : Column) (table : Table) → map.get ts t ≡ Some table → tables_after (NewColumn t c x) ts ≡ map.insert ts t (with_column c x table)
column_written ts t c x table h = ap (λ y. elim y as (λ _. Tables) [ None ↦ ts | Some z ↦ map.insert ts t (with_column c x z) ]) h

get_other : (ts : Tables) (t u : List ℕ) (v : Table) → eq_by_cmp name_cmp u t ≡ false → map.get (map.insert ts t v) u ≡ map.get ts u
get_other ts t u v h = map.get-insert name_total ts t v u ∙ ap (λ b. cond b (Some v) (map.get ts u)) h

get_here : (ts : Tables) (t : List ℕ) (v : Table) → map.get (map.insert ts t v) t ≡ Some v
get_here ts t v = map.get-insert name_total ts t v t ∙ ap (λ b. cond b (Some v) (map.get ts t)) (same_itself name_total t)

-- a table that is new is no table that stands
new_apart : (ts : Tables) (t u : List ℕ) → is_some (map.get ts t) ≡ false → is_some (map.get ts u) ≡ true → eq_by_cmp name_cmp u t ≡ false
new_apart ts t u new there =
    elim (eq_by_cmp name_cmp u t) as (λ b. eq_by_cmp name_cmp u t ≡ b → b ≡ false) [
      | true ↦ λ e. clash (is_some (map.get ts u)) there (ap (λ v. is_some (map.get ts v)) (tied_is name_exact u t e) ∙ new)
      | false ↦ λ _. refl
    ] refl

table_column : (ts : Tables) (t u d : List ℕ) (v : Table) (y : Column) → is_some (map.get ts t) ≡ false → is_some (map.get ts u) ≡ true → tables_after (NewColumn u d y) (map.insert ts t v) ≡ map.insert (tables_after (NewColumn u d y) ts) t v
table_column ts t u d v y new there =
    let x = some_is (map.get ts u) there in
    let apart = new_apart ts t u new there in
    column_written (map.insert ts t v) u d y x.0 (get_other ts t u v apart ∙ x.1)
    ∙ insert_swap ts t u v (with_column d y x.0) (turned name_total u t false apart)
    ∙ ap (λ m. map.insert m t v) (sym (column_written ts u d y x.0 x.1))

columns_apart : (ts : Tables) (t u c d : List ℕ) (x y : Column) → is_some (map.get ts t) ≡ true → is_some (map.get ts u) ≡ true → eq_by_cmp name_cmp t u ≡ false → tables_after (NewColumn u d y) (tables_after (NewColumn t c x) ts) ≡ tables_after (NewColumn t c x) (tables_after (NewColumn u d y) ts)
columns_apart ts t u c d x y here there apart =
    let v = some_is (map.get ts t) here in
    let w = some_is (map.get ts u) there in
    ap (tables_after (NewColumn u d y)) (column_written ts t c x v.0 v.1)
    ∙ column_written (map.insert ts t (with_column c x v.0)) u d y w.0 (get_other ts t u _ (turned name_total t u false apart) ∙ w.1)
    ∙ insert_swap ts t u _ _ apart
    ∙ sym (ap (tables_after (NewColumn t c x)) (column_written ts u d y w.0 w.1) ∙ column_written (map.insert ts u (with_column d y w.0)) t c x v.0 (get_other ts u t _ apart ∙ v.1))

columns_of_one : (ts : Tables) (t c d : List ℕ) (x y : Column) → is_some (map.get ts t) ≡ true → eq_by_cmp name_cmp c d ≡ false → tables_after (NewColumn t d y) (tables_after (NewColumn t c x) ts) ≡ tables_after (NewColumn t c x) (tables_after (NewColumn t d y) ts)
columns_of_one ts t c d x y here apart =
    let v = some_is (map.get ts t) here in
    ap (tables_after (NewColumn t d y)) (column_written ts t c x v.0 v.1)
    ∙ column_written (map.insert ts t (with_column c x v.0)) t d y (with_column c x v.0) (get_here ts t _)
    ∙ insert_over ts t _ _
    ∙ ap (λ (m : FinMap name_cmp Column). map.insert ts t (record { key = v.0.key; columns = m })) (insert_swap v.0.columns c d x y apart)
    ∙ sym (ap (tables_after (NewColumn t c x)) (column_written ts t d y v.0 v.1) ∙ column_written (map.insert ts t (with_column d y v.0)) t c x (with_column d y v.0) (get_here ts t _) ∙ insert_over ts t _ _)

or_then : (a b : Bool) → (not a || b) ≡ true → a ≡ true → b ≡ true
or_then true b h e = h
or_then false b h e = cc

pub tables_commute : (s : State) (a b : Effect) → Found s a → Found s b → is_defined a b ≡ true → tables_after b (tables_after a s.tables) ≡ tables_after a (tables_after b s.tables)
tables_commute s (NewTable t k) (NewTable u j) f g h =
    elim (eq_by_cmp name_cmp t u) as (λ b. eq_by_cmp name_cmp t u ≡ b → tables_after (NewTable u j) (tables_after (NewTable t k) s.tables) ≡ tables_after (NewTable t k) (tables_after (NewTable u j) s.tables)) [
      | true ↦ λ e.
          let same : k ≡ j = same_rank_kind k j (eqb-true _ _ (or_then (eq_by_cmp name_cmp t u) (key_rank_of k == key_rank_of j) h e)) in
          let tables : t ≡ u = tied_is name_exact t u e in
          ap (tables_after (NewTable u j)) (λ i. tables_after (NewTable (tables i) (same i)) s.tables) ∙ sym (λ i. tables_after (NewTable (tables i) (same i)) (tables_after (NewTable u j) s.tables))
      | false ↦ λ e. insert_swap s.tables t u _ _ e
    ] refl
tables_commute s (NewTable t k) (NewColumn u d y) f g h = table_column s.tables t u d _ y f.new g.there
tables_commute s (NewColumn t c x) (NewTable u j) f g h = sym (table_column s.tables u t c _ x g.new f.there)
tables_commute s (NewColumn t c x) (NewColumn u d y) f g h =
    elim (eq_by_cmp name_cmp t u) as (λ a. eq_by_cmp name_cmp t u ≡ a → (not (a && eq_by_cmp name_cmp c d) || same_column x y) ≡ true → tables_after (NewColumn u d y) (tables_after (NewColumn t c x) s.tables) ≡ tables_after (NewColumn t c x) (tables_after (NewColumn u d y) s.tables)) [
      | false ↦ λ e _. columns_apart s.tables t u c d x y f.there g.there e
      | true ↦ λ e.
          let tables : t ≡ u = tied_is name_exact t u e in
          elim (eq_by_cmp name_cmp c d) as (λ b. eq_by_cmp name_cmp c d ≡ b → (not b || same_column x y) ≡ true → tables_after (NewColumn u d y) (tables_after (NewColumn t c x) s.tables) ≡ tables_after (NewColumn t c x) (tables_after (NewColumn u d y) s.tables)) [
            | true ↦ λ k n.
                let columns : c ≡ d = tied_is name_exact c d k in
                let defs : x ≡ y = column_same x y n in
                ap (tables_after (NewColumn u d y)) (λ i. tables_after (NewColumn (tables i) (columns i) (defs i)) s.tables) ∙ sym (λ i. tables_after (NewColumn (tables i) (columns i) (defs i)) (tables_after (NewColumn u d y) s.tables))
            | false ↦ λ k _.
                ap (λ v. tables_after (NewColumn v d y) (tables_after (NewColumn t c x) s.tables)) (sym tables) ∙ columns_of_one s.tables t c d x y f.there k ∙ ap (λ v. tables_after (NewColumn t c x) (tables_after (NewColumn v d y) s.tables)) tables
          ] refl
    ] refl h
tables_commute s (NewTable t k) (Create o) f g h = refl
tables_commute s (NewTable t k) (Erase o) f g h = refl
tables_commute s (NewTable t k) (Change p e) f g h = refl
tables_commute s (NewColumn t c x) (Create o) f g h = refl
tables_commute s (NewColumn t c x) (Erase o) f g h = refl
tables_commute s (NewColumn t c x) (Change p e) f g h = refl
tables_commute s a b f g h = refl

-- ---- the merged_cell state with the sides swapped
touches_turned : (l : Bool) (t u : Option Edit) (x : Cell) → merged_touch (not l) u t x ≡ merged_touch l t u x
touches_turned l None None x = refl
touches_turned l (Some e) None x = refl
touches_turned l None (Some f) x = refl
touches_turned true (Some e) (Some f) x = refl
touches_turned false (Some e) (Some f) x = refl

bools_turned : (ea eb ca cb h : Bool) → (not ea && (not eb && (ca || (cb || h)))) ≡ (not eb && (not ea && (cb || (ca || h))))
bools_turned true true ca cb h = refl
bools_turned true false ca cb h = refl
bools_turned false true ca cb h = refl
bools_turned false false true true h = refl
bools_turned false false true false h = refl
bools_turned false false false cb h = refl

unit_same : (x y : Option (Unit {0})) → is_some x ≡ is_some y → x ≡ y
unit_same None None h = refl
unit_same None (Some v) h = cc
unit_same (Some u) None h = cc
unit_same (Some u) (Some v) h = refl

pub both_turned : (s : State) (a b : Effect) (l : Bool) → Found s a → Found s b → is_defined a b ≡ true → merged_state s b a (not l) ≡ merged_state s a b l
both_turned s a b l f g h =
    let present : merged_presence s b a ≡ merged_presence s a b = map.same_map object_total object_exact _ _ (λ o. unit_same _ _
    (sym (has-merged s b a l o) ∙ merged-stands s b a l o ∙ bools_turned (erases a o) (erases b o) (creates a o) (creates b o) (has s o) ∙ sym (merged-stands s a b l o) ∙ has-merged s a b l o)) in
    let tables : tables_after a (tables_after b s.tables) ≡ tables_after b (tables_after a s.tables) = sym (tables_commute s a b f g h) in
    λ i. built (tables i) (present i) (λ o c def. touches_turned l (touch a (o, c)) (touch b (o, c)) (cell_or_default s o c def) i)

-- ---- the law
agreed : (s : State) (a b : Effect) (l : Bool) (m : Answer Effect) → ((f : Outcomes Effect) → m ≡ Ok f → merged_state s b a (not l) ≡ merged_state s a b l) → RightIfMet s a b l m → RightIfMet s b a (not l) (mirrored m) → AgreesIfMet s a b l m
agreed s a b l (Err m) g r t = tt
agreed s a b l (Ok f) g r t = record { right_acts = r.acts; right_gives = r.gives; left_acts = t.acts; left_gives = t.gives ∙ g f refl }

defined_if : (b c : Bool) (m : Mismatch) (f g : Outcomes Effect) (k : Answer Effect) → cond b (cond c (Ok g) (Err m)) k ≡ Ok f → (not b || c) ≡ true
defined_if true true m f g k h = refl
defined_if true false m f g k h = cc
defined_if false c m f g k h = refl

pub met_defined : (l : Bool) (a b : Effect) (f : Outcomes Effect) → rule l a b ≡ Ok f → is_defined a b ≡ true
met_defined l (NewTable t k) (NewTable u j) f h = defined_if (eq_by_cmp name_cmp t u) (key_rank_of k == key_rank_of j) mismatches.TablesDiffer f _ _ h
met_defined l (NewColumn t c x) (NewColumn u d y) f h = defined_if (eq_by_cmp name_cmp t u && eq_by_cmp name_cmp c d) (same_column x y) mismatches.ColumnsDiffer f _ _ h
met_defined l a b f h = refl

pub two_sided : (a b : Effect) → EffectsAgree a b
two_sided a b s l ok i j p q =
    let f = found s a p in
    let g = found s b q in
    agreed s a b l (rule l a b) (λ r h. both_turned s a b l f g (met_defined l a b r h)) (right_law s l a b ok i j f g) (subst (RightIfMet s b a (not l)) (rule_turned l a b) (right_law s (not l) b a ok j i g f))
