-- The two-sided law of every pair.
use Rattle.std.specs.Prelude.{◌≡◌, ℕ, Bool, true, false, cond, not, ◌&&◌, ◌||◌, ◌⊎◌, ◌==◌, List, is_some, Option, None, Some, Ok, Err, refl}
use Rattle.std.specs.Option.{option_map_or, unwrap_or}
use Rattle.std.specs.declared.cmp.Ordering.{Ordering}
use Rattle.std.specs.Ordering.{eq_by_cmp}
use Rattle.std.specs.Cmp.{IsTotalOrder, eq_by_cmp_equiv}
use Rattle.std.specs.FinMap as map
use Rattle.std.specs.FinMap.{FinMap}
use Rattle.std.proofs.Common.{sym, ◌∙◌, ap, subst, arith, inl, inr}
use Rattle.std.proofs.lemmas.Bool.{eqb-true}
use Rattle.sync_base.specs.After.{edited, default_of, tables_after, after, with_column}
use Rattle.sync_base.specs.Checks.{is_prior, has_shape, edit_fits, column_check}
use Rattle.sync_base.specs.Effects.{ObjectName, CellPath, Edit, Effect, NewTable, NewColumn, Create, Erase, Change}
use Rattle.sync_base.specs.Lemmas.Agreed.{after_outcome, ActsOutcome}
use Rattle.sync_base.specs.Lemmas.Apart.{changes_there, changes_apart}
use Rattle.sync_base.specs.Lemmas.Cells.{column-after, touched, no_other_column, same_itself}
use Rattle.sync_base.specs.Lemmas.Edits.{Follows, RightLaw, MetLaw, edit_law}
use Rattle.sync_base.specs.Lemmas.Looks.{name_total, name_exact, object_total, object_exact, path_total, path_exact, creates, erases}
use Rattle.sync_base.specs.Lemmas.Maps.{tied_is}
use Rattle.sync_base.specs.Lemmas.Pairs.{OneSided, gives-merged, FoundOutcome}
use Rattle.sync_base.specs.Lemmas.Shaped.{IsShaped, IsEffect, IsEdit}
use Rattle.sync_base.specs.Lemmas.Stays.{key_stays, schema_stays, schema_of, cell_found, object_stays, cell_stays}
use Rattle.sync_base.specs.Lemmas.Steps.{acts, Found, FoundCell, table_stays, clash, some_is}
use Rattle.sync_base.specs.Merged.{path_cmp, touch, merged_touch, merged_cell, cell_or_default, same_column, kind_rank, target_of, bit, merged_state}
use Rattle.sync_base.specs.Rules.{Answer, rule, rule_of_edits, lifted, placed, kept, only_left, only_right, neither}
use Rattle.sync_base.specs.States.{State, Table, Cell, object_cmp, column_in, has, cell_at, Tables, cell_rank, shape_rank, has_target, key_rank_of}
use Rattle.sync_data.specs.Orders.{name_cmp}
use Rattle.sync_data.specs.declared.key.KeyKind.{KeyKind}
use Rattle.sync_data.specs.declared.key.KeyKind.TheVariants as key_kinds
use Rattle.sync_data.specs.declared.column.Column.{Column}
use Rattle.sync_data.specs.declared.column.Kind.{Kind}
use Rattle.sync_data.specs.declared.column.Kind.TheVariants as kinds
use Rattle.sync_data.specs.declared.column.Shape.{Shape}
use Rattle.sync_data.specs.declared.column.Shape.TheVariants as shapes
use Rattle.sync_base.specs.declared.answers.Mismatch.TheVariants as mismatches

-- a test turned round
pub turned : {K : Type 0} {R : K → K → Ordering} → IsTotalOrder R → (x y : K) (b : Bool) → eq_by_cmp R x y ≡ b → eq_by_cmp R y x ≡ b
turned {R = R} o x y b h = sym ((eq_by_cmp_equiv o).symm x y) ∙ h

-- ---- what the second needs isn't what the first changes
abbrev pub Apart : Effect → Effect → Type 0
Apart (NewTable t k) (NewTable u j) = eq_by_cmp name_cmp t u ≡ false
Apart (NewColumn t c x) (NewColumn u d y) = (eq_by_cmp name_cmp t u && eq_by_cmp name_cmp c d) ≡ false
Apart (Erase o) (Create p) = eq_by_cmp object_cmp o p ≡ false
Apart (Erase o) (Erase p) = eq_by_cmp object_cmp o p ≡ false
Apart (Erase o) (Change q e) = eq_by_cmp object_cmp o q.0 ≡ false
Apart (Change p e) (Change q f) = eq_by_cmp path_cmp p q ≡ false
Apart a b = Unit {0}

table_stays_new : (s : State) (a : Effect) (u : List ℕ) (j : KeyKind) → Found s a → Apart a (NewTable u j) → is_some (map.get s.tables u) ≡ false → is_some (map.get (tables_after a s.tables) u) ≡ false
table_stays_new s (NewTable t k) u j f ap2 h =
    let new : Table = record { key = k; columns = map.empty } in
    ap is_some (map.get-insert name_total s.tables t new u ∙ ap (λ b. cond b (Some new) (map.get s.tables u)) (turned name_total t u false ap2)) ∙ h
table_stays_new s (NewColumn t c def) u j f ap2 h =
    elim (map.get s.tables t) as (λ x. is_some (map.get (elim x [ None ↦ s.tables | Some table ↦ map.insert s.tables t (with_column c def table) ]) u) ≡ false) [
      | None ↦ h
      | Some table ↦ ap is_some (map.get-insert name_total s.tables t (with_column c def table) u)
          ∙ elim (eq_by_cmp name_cmp u t) as (λ b. eq_by_cmp name_cmp u t ≡ b → is_some (cond b (Some (with_column c def table)) (map.get s.tables u)) ≡ false) [
            | true ↦ λ e. clash (is_some (map.get s.tables t)) f.there (ap (λ v. is_some (map.get s.tables v)) (sym (tied_is name_exact u t e)) ∙ h)
            | false ↦ λ _. h
          ] refl
    ]
table_stays_new s (Create o) u j f ap2 h = h
table_stays_new s (Erase o) u j f ap2 h = h
table_stays_new s (Change p e) u j f ap2 h = h

and_false : (a b c d : Bool) → a ≡ c → b ≡ d → (a && b) ≡ false → (c && d) ≡ false
and_false a b c d p q h = (λ i. sym p i && sym q i) ∙ h

column_stays_new : (s : State) (a : Effect) (u d : List ℕ) (y : Column) → Found s a → Apart a (NewColumn u d y) → is_some (map.get s.tables u) ≡ true → is_some (column_in s.tables u d) ≡ false → is_some (column_in (tables_after a s.tables) u d) ≡ false
column_stays_new s (NewTable t k) u d y f ap2 there h = ap is_some (no_other_column s t u d (record { key = k; columns = map.empty }) f.new there) ∙ h
column_stays_new s (NewColumn t c x) u d y f ap2 there h =
    ap is_some (column-after s.tables t c x u d f.there ∙ ap (λ b. cond b (Some x) (column_in s.tables u d)) (and_false (eq_by_cmp name_cmp t u) (eq_by_cmp name_cmp c d) _ _ (sym (turned name_total t u _ refl)) (sym (turned name_total c d _ refl)) ap2)) ∙ h
column_stays_new s (Create o) u d y f ap2 there h = h
column_stays_new s (Erase o) u d y f ap2 there h = h
column_stays_new s (Change p e) u d y f ap2 there h = h

target_stays : (ts us : Tables) (k : Kind) → ((u : List ℕ) → is_some (map.get ts u) ≡ true → is_some (map.get us u) ≡ true) → has_target ts k ≡ true → has_target us k ≡ true
target_stays ts us (kinds.Link t) g h = g t h
target_stays ts us k g h = h

not_erased : (a : Effect) (p : ObjectName) → Apart a (Erase p) → erases a p ≡ false
not_erased (Erase o) p h = turned object_total o p false h
not_erased (NewTable t k) p h = refl
not_erased (NewColumn t c x) p h = refl
not_erased (Create o) p h = refl
not_erased (Change q e) p h = refl

not_erased_change : (a : Effect) (p : CellPath) (e : Edit) → Apart a (Change p e) → erases a p.0 ≡ false
not_erased_change (Erase o) p e h = turned object_total o p.0 false h
not_erased_change (NewTable t k) p e h = refl
not_erased_change (NewColumn t c x) p e h = refl
not_erased_change (Create o) p e h = refl
not_erased_change (Change q f) p e h = refl

not_touched : (a : Effect) (p : CellPath) (e : Edit) → Apart a (Change p e) → touch a p ≡ None
not_touched (Change q f) p e h = ap (λ b. cond b (Some f) None) (turned path_total q p false h)
not_touched (NewTable t k) p e h = refl
not_touched (NewColumn t c x) p e h = refl
not_touched (Create o) p e h = refl
not_touched (Erase o) p e h = refl

pub prior_of : (e : Edit) (x : Option Cell) → option_map_or (is_prior e) x false ≡ true → (y : Cell) × (x ≡ Some y) × (is_prior e y ≡ true)
prior_of e None h = cc
prior_of e (Some y) h = (y, refl, h)

pub kept_found : (s : State) → IsShaped s → (a b : Effect) → Found s a → Found s b → Apart a b → Found (after s a) b
kept_found s ok a (NewTable u j) f g h = record { new = table_stays_new s a u j f h g.new }
kept_found s ok a (NewColumn u d y) f g h = record {
  there = table_stays s.tables a u g.there;
  new = column_stays_new s a u d y f h g.there g.new;
  sound = g.sound;
  target = target_stays s.tables _ y.kind (table_stays s.tables a) g.target;
}
kept_found s ok a (Create p) f g h = record { there = table_stays s.tables a p.0 g.there; key = key_stays s a f p.0 p.1 g.key }
kept_found s ok a (Erase p) f g h = record { there = table_stays s.tables a p.0 g.there; key = key_stays s a f p.0 p.1 g.key; present = object_stays s a p (not_erased a p h) g.present }
kept_found s ok a (Change p e) f g h =
    let left : erases a p.0 ≡ false = not_erased_change a p e h in
    let was = prior_of e (cell_at s p.0 p.1) g.prior in
    let is : cell_at (after s a) p.0 p.1 ≡ Some was.0 = cell_stays s ok a f p.0 p.1 was.0 left g.present was.1 ∙ ap (λ t. Some (touched t was.0)) (not_touched a p e h) in
    cell_found (after s a) p e (schema_stays s a f p e (schema_of s p e g)) (object_stays s a p.0 left g.present) (ap (λ x. option_map_or (is_prior e) x false) is ∙ was.2)

-- ---- both kept
no_touch : (l : Bool) (t u : Option Edit) (x : Cell) → (t ≡ None) ⊎ (u ≡ None) → touched u (touched t x) ≡ merged_touch l t u x
no_touch l None None x h = refl
no_touch l (Some e) None x h = refl
no_touch l None (Some f) x h = refl
no_touch l (Some e) (Some f) x h = elim h as (λ _. edited f (edited e x) ≡ merged_touch l (Some e) (Some f) x) [ inl k ↦ cc | inr k ↦ cc ]

one_untouched : (a b : Effect) → Apart a b → (q : CellPath) → (touch a q ≡ None) ⊎ (touch b q ≡ None)
one_untouched (Change p e) (Change r f) h q =
    elim (eq_by_cmp path_cmp q p) as (λ b. eq_by_cmp path_cmp q p ≡ b → (cond b (Some e) None ≡ None) ⊎ (cond (eq_by_cmp path_cmp q r) (Some f) None ≡ None)) [
      | true ↦ λ k. inr (ap (λ b. cond b (Some f) None) (ap (λ x. eq_by_cmp path_cmp x r) (tied_is path_exact q p k) ∙ h))
      | false ↦ λ _. inl refl
    ] refl
one_untouched (Change p e) (NewTable t k) h q = inr refl
one_untouched (Change p e) (NewColumn t c x) h q = inr refl
one_untouched (Change p e) (Create o) h q = inr refl
one_untouched (Change p e) (Erase o) h q = inr refl
one_untouched (NewTable t k) b h q = inl refl
one_untouched (NewColumn t c x) b h q = inl refl
one_untouched (Create o) b h q = inl refl
one_untouched (Erase o) b h q = inl refl

-- b creates nothing that a erases
and_nil : (b : Bool) → (b && false) ≡ false
and_nil true = refl
and_nil false = refl

no_return : (a b : Effect) → Apart a b → (o : ObjectName) → (creates b o && erases a o) ≡ false
no_return (Erase p) (Create r) h o =
    elim (eq_by_cmp object_cmp o r) as (λ b. eq_by_cmp object_cmp o r ≡ b → (b && eq_by_cmp object_cmp o p) ≡ false) [
      | true ↦ λ k. ap (λ x. eq_by_cmp object_cmp x p) (tied_is object_exact o r k) ∙ turned object_total p r false h
      | false ↦ λ _. refl
    ] refl
no_return (Erase p) (NewTable t k) h o = refl
no_return (Erase p) (NewColumn t c x) h o = refl
no_return (Erase p) (Erase r) h o = refl
no_return (Erase p) (Change r e) h o = refl
no_return (NewTable t k) b h o = and_nil (creates b o)
no_return (NewColumn t c x) b h o = and_nil (creates b o)
no_return (Create p) b h o = and_nil (creates b o)
no_return (Change p e) b h o = and_nil (creates b o)

in_order : (ea eb ca cb h : Bool) → (cb && ea) ≡ false → (not eb && (cb || (not ea && (ca || h)))) ≡ (not eb && (not ea && (cb || (ca || h))))
in_order true eb ca true h n = cc
in_order true eb ca false h n = refl
in_order false eb ca cb h n = refl

pub kept_side : (s : State) → IsShaped s → (a b : Effect) (l : Bool) → Found s a → Found s b → Apart a b → OneSided s a b l (Some b)
kept_side s ok a b l f g h = record {
  found = kept_found s ok a b f g h;
  tables = refl;
  objects = λ o. in_order (erases a o) (erases b o) (creates a o) (creates b o) (has s o) (no_return a b h o);
  touches = λ o c def _. no_touch l (touch a (o, c)) (touch b (o, c)) (cell_or_default s o c def) (one_untouched a b h (o, c));
}

-- ---- one order of the law
pub record Right (s : State) (a b : Effect) (l : Bool) (d : Option Effect) : Type 0 where
  pub acts : ActsOutcome (after s a) d
  pub gives : after_outcome (after s a) d ≡ merged_state s a b l

abbrev pub RightIfMet : State → Effect → Effect → Bool → Answer Effect → Type 0
RightIfMet s a b l (Err m) = Unit {0}
RightIfMet s a b l (Ok g) = Right s a b l g.right

acts_outcome : (s : State) (d : Option Effect) → FoundOutcome s d → ActsOutcome s d
acts_outcome s None f = tt
acts_outcome s (Some d) f = acts s d f

right_from : (s : State) → IsShaped s → (a b : Effect) (l : Bool) (d : Option Effect) → Found s a → OneSided s a b l d → Right s a b l d
right_from s ok a b l d f p = record { acts = acts_outcome (after s a) d p.found; gives = gives-merged s ok a b l d f p }

if_chosen : (s : State) (a b : Effect) (l : Bool) (t : Bool) (m n : Answer Effect) → (t ≡ true → RightIfMet s a b l m) → (t ≡ false → RightIfMet s a b l n) → RightIfMet s a b l (cond t m n)
if_chosen s a b l true m n g h = g refl
if_chosen s a b l false m n g h = h refl

-- ---- equal definitions
pub same_rank_kind : (k j : KeyKind) → key_rank_of k ≡ key_rank_of j → k ≡ j
same_rank_kind key_kinds.Int key_kinds.Int h = refl
same_rank_kind key_kinds.Text key_kinds.Text h = refl
same_rank_kind key_kinds.Uuid key_kinds.Uuid h = refl
same_rank_kind k j h = absurd (omega arith)

same_kind : (k j : Kind) → kind_rank k ≡ kind_rank j → target_of k ≡ target_of j → k ≡ j
same_kind kinds.Int kinds.Int h t = refl
same_kind kinds.Bool kinds.Bool h t = refl
same_kind kinds.Text kinds.Text h t = refl
same_kind kinds.Bytes kinds.Bytes h t = refl
same_kind kinds.Time kinds.Time h t = refl
same_kind kinds.Uuid kinds.Uuid h t = refl
same_kind (kinds.Link t) (kinds.Link u) h e = ap kinds.Link e
same_kind k j h t = absurd (omega arith)

same_shape : (k j : Shape) → shape_rank k ≡ shape_rank j → k ≡ j
same_shape shapes.One shapes.One h = refl
same_shape shapes.List shapes.List h = refl
same_shape shapes.Set shapes.Set h = refl
same_shape shapes.Dict shapes.Dict h = refl
same_shape k j h = absurd (omega arith)

same_bit : (a b : Bool) → bit a ≡ bit b → a ≡ b
same_bit true true h = refl
same_bit false false h = refl
same_bit true false h = absurd (omega arith)
same_bit false true h = absurd (omega arith)

pub both_true : (a b : Bool) → (a && b) ≡ true → (a ≡ true) × (b ≡ true)
both_true true b h = (refl, h)
both_true false b h = cc

pub column_same : (x y : Column) → same_column x y ≡ true → x ≡ y
column_same x y h =
    let a = both_true _ (shape_rank x.shape == shape_rank y.shape) h in
    let b = both_true _ (bit x.nullable == bit y.nullable) a.0 in
    let c = both_true (kind_rank x.kind == kind_rank y.kind) (eq_by_cmp name_cmp (target_of x.kind) (target_of y.kind)) b.0 in
    let k : x.kind ≡ y.kind = same_kind x.kind y.kind (eqb-true _ _ c.0) (tied_is name_exact _ _ c.1) in
    let n : x.nullable ≡ y.nullable = same_bit _ _ (eqb-true _ _ b.1) in
    let s : x.shape ≡ y.shape = same_shape _ _ (eqb-true _ _ a.1) in
    λ i. record { kind = k i; nullable = n i; shape = s i }

-- ---- a definition made twice is made once
twice_cond : {A : Type 0} (b : Bool) (x y : A) → cond b x (cond b x y) ≡ cond b x y
twice_cond true x y = refl
twice_cond false x y = refl

insert_twice : {X : Type 0} (m : FinMap name_cmp X) (k : List ℕ) (v : X) → map.insert (map.insert m k v) k v ≡ map.insert m k v
insert_twice m k v = map.same_map name_total name_exact _ _ (λ q.
    map.get-insert name_total (map.insert m k v) k v q ∙ ap (cond (eq_by_cmp name_cmp q k) (Some v)) (map.get-insert name_total m k v q) ∙ twice_cond (eq_by_cmp name_cmp q k) (Some v) (map.get m q) ∙ sym (map.get-insert name_total m k v q))

column_twice : (ts : Tables) (t c : List ℕ) (x : Column) → is_some (map.get ts t) ≡ true → tables_after (NewColumn t c x) (tables_after (NewColumn t c x) ts) ≡ tables_after (NewColumn t c x) ts
column_twice ts t c x there =
    elim (map.get ts t) as (λ y. is_some y ≡ true → tables_after (NewColumn t c x) (elim y [ None ↦ ts | Some table ↦ map.insert ts t (with_column c x table) ]) ≡ elim y [ None ↦ ts | Some table ↦ map.insert ts t (with_column c x table) ]) [
      | None ↦ λ h. cc
      | Some table ↦ λ _.
          let here : map.get (map.insert ts t (with_column c x table)) t ≡ Some (with_column c x table) = map.get-insert name_total ts t (with_column c x table) t ∙ ap (λ b. cond b (Some (with_column c x table)) (map.get ts t)) (same_itself name_total t) in
          ap (λ y. elim y as (λ _. Tables) [ None ↦ map.insert ts t (with_column c x table) | Some table2 ↦ map.insert (map.insert ts t (with_column c x table)) t (with_column c x table2) ]) here
          ∙ ap (λ m. map.insert (map.insert ts t (with_column c x table)) t (record { key = table.key; columns = m })) (insert_twice table.columns c x)
          ∙ insert_twice ts t (with_column c x table)
    ] there

-- ---- where the second is dropped
dropped_table : (s : State) → IsShaped s → (t u : List ℕ) (k j : KeyKind) (l : Bool) → t ≡ u → k ≡ j → OneSided s (NewTable t k) (NewTable u j) l None
dropped_table s ok t u k j l e f = record {
  found = tt;
  tables = sym (insert_twice s.tables t (record { key = k; columns = map.empty })) ∙ (λ i. map.insert (map.insert s.tables t (record { key = k; columns = map.empty })) (e i) (record { key = f i; columns = map.empty }));
  objects = λ o. refl;
  touches = λ o c def _. refl;
}

dropped_column : (s : State) → IsShaped s → (t u c d : List ℕ) (x y : Column) (l : Bool) → is_some (map.get s.tables t) ≡ true → t ≡ u → c ≡ d → x ≡ y → OneSided s (NewColumn t c x) (NewColumn u d y) l None
dropped_column s ok t u c d x y l there e f g = record {
  found = tt;
  tables = sym (column_twice s.tables t c x there) ∙ (λ i. tables_after (NewColumn (e i) (f i) (g i)) (tables_after (NewColumn t c x) s.tables));
  objects = λ o. refl;
  touches = λ o c def _. refl;
}

gone_create : (e h : Bool) → (not e && h) ≡ (not e && (e || h))
gone_create true h = refl
gone_create false h = refl

dropped_create : (s : State) → (o p : ObjectName) (l : Bool) → o ≡ p → OneSided s (Erase o) (Create p) l None
dropped_create s o p l e = record {
  found = tt;
  tables = refl;
  objects = λ q. gone_create (eq_by_cmp object_cmp q o) (has s q) ∙ ap (λ r. not (eq_by_cmp object_cmp q o) && (eq_by_cmp object_cmp q r || has s q)) e;
  touches = λ q c def _. refl;
}

gone_erase : (e h : Bool) → (not e && h) ≡ (not e && (not e && h))
gone_erase true h = refl
gone_erase false h = refl

dropped_erase : (s : State) → (o p : ObjectName) (l : Bool) → o ≡ p → OneSided s (Erase o) (Erase p) l None
dropped_erase s o p l e = record {
  found = tt;
  tables = refl;
  objects = λ q. gone_erase (eq_by_cmp object_cmp q o) (has s q) ∙ ap (λ r. not (eq_by_cmp object_cmp q r) && (not (eq_by_cmp object_cmp q o) && has s q)) e;
  touches = λ q c def _. refl;
}

left_standing : (a b : Bool) → (not a && b) ≡ true → a ≡ false
left_standing true b h = cc
left_standing false b h = refl

elsewhere : (o : ObjectName) (q : CellPath) (f : Edit) (r : ObjectName) (c : List ℕ) → o ≡ q.0 → eq_by_cmp object_cmp r o ≡ false → touch (Change q f) (r, c) ≡ None
elsewhere o q f r c e h =
    elim (eq_by_cmp path_cmp (r, c) q) as (λ b. eq_by_cmp path_cmp (r, c) q ≡ b → cond b (Some f) None ≡ None) [
      | true ↦ λ k. clash (eq_by_cmp object_cmp r o) ((λ i. eq_by_cmp object_cmp r ((e ∙ sym (ap (λ (z : CellPath). z.0) (tied_is path_exact (r, c) q k))) i)) ∙ same_itself object_total r) h
      | false ↦ λ _. refl
    ] refl

dropped_change : (s : State) → (o : ObjectName) (q : CellPath) (f : Edit) (l : Bool) → o ≡ q.0 → OneSided s (Erase o) (Change q f) l None
dropped_change s o q f l e = record {
  found = tt;
  tables = refl;
  objects = λ r. refl;
  touches = λ r c def here. ap (λ t. merged_touch l None t (cell_or_default s r c def)) (sym (elsewhere o q f r c e (left_standing _ _ here)));
}

-- ---- two changes of one cell
check_at : (p : Column → Bool) (x : Option Column) (c : Column) → x ≡ Some c → column_check p x ≡ true → p c ≡ true
check_at p x c e h = sym (ap (column_check p) e) ∙ h

check_from : (p : Column → Bool) (x : Option Column) (c : Column) → x ≡ Some c → p c ≡ true → column_check p x ≡ true
check_from p x c e h = ap (column_check p) e ∙ h

asked_is : (s : State) → IsShaped s → (p : CellPath) (e : Edit) (x : Cell) → cell_at s p.0 p.1 ≡ Some x → FoundCell s p e → has_shape e (cell_rank x) ≡ true
asked_is s ok p e x is f =
    let col = some_is (column_in s.tables p.0.0 p.1) f.column in
    ap (has_shape e) (ok.shaped p.0 p.1 x col.0 is col.1) ∙ check_at (λ c. has_shape e (shape_rank c.shape)) _ col.0 col.1 f.shape

pub prior_is : (s : State) (p : CellPath) (e : Edit) (x : Cell) → cell_at s p.0 p.1 ≡ Some x → FoundCell s p e → is_prior e x ≡ true
prior_is s p e x is f = sym (ap (λ y. option_map_or (is_prior e) y false) is) ∙ f.prior

touch_here : (p : CellPath) (e : Edit) → touch (Change p e) p ≡ Some e
touch_here p e = ap (λ b. cond b (Some e) None) (same_itself path_total p)

found_again : (s : State) → IsShaped s → (p : CellPath) (e f k : Edit) (l : Bool) (x : Cell) → cell_at s p.0 p.1 ≡ Some x → FoundCell s p e → FoundCell s p f → Follows l e f x k → FoundCell (after s (Change p e)) p k
found_again s ok p e f k l x is fe ff law =
    let st = schema_stays s (Change p e) fe p f (schema_of s p f ff) in
    let col = some_is (column_in s.tables p.0.0 p.1) ff.column in
    let now : cell_at (after s (Change p e)) p.0 p.1 ≡ Some (edited e x) = cell_stays s ok (Change p e) fe p.0 p.1 x refl ff.present is ∙ ap (λ t. Some (touched t x)) (touch_here p e) in
    record {
      there = st.there;
      key = st.key;
      present = object_stays s (Change p e) p.0 refl ff.present;
      column = st.column;
      shape = check_from (λ c. has_shape k (shape_rank c.shape)) _ col.0 col.1 (ap (λ (t : ℕ → Bool). t (shape_rank col.0.shape)) law.asked ∙ check_at (λ c. has_shape f (shape_rank c.shape)) _ col.0 col.1 ff.shape);
      value = check_from (λ c. edit_fits s.tables c k) _ col.0 col.1 (law.fits s.tables col.0 (check_at (λ c. edit_fits s.tables c e) _ col.0 col.1 fe.value) (check_at (λ c. edit_fits s.tables c f) _ col.0 col.1 ff.value));
      prior = ap (λ y. option_map_or (is_prior k) y false) now ∙ law.prior;
    }

-- at each place the touches agree, by the law at their own
touches_agree : (s : State) (p : CellPath) (e f : Edit) (k : Option Edit) (l : Bool) (x : Cell) → cell_at s p.0 p.1 ≡ Some x → touched k (edited e x) ≡ merged_cell l e f x
    → (o : ObjectName) (c : List ℕ) (def : Column) → touched (cond (eq_by_cmp path_cmp (o, c) p) k None) (touched (touch (Change p e) (o, c)) (cell_or_default s o c def)) ≡ merged_touch l (touch (Change p e) (o, c)) (touch (Change p f) (o, c)) (cell_or_default s o c def)
touches_agree s p e f k l x is law o c def =
    elim (eq_by_cmp path_cmp (o, c) p) as (λ b. eq_by_cmp path_cmp (o, c) p ≡ b → touched (cond b k None) (touched (cond b (Some e) None) (cell_or_default s o c def)) ≡ merged_touch l (cond b (Some e) None) (cond b (Some f) None) (cell_or_default s o c def)) [
      | true ↦ λ t.
          let here : cell_or_default s o c def ≡ x = ap (λ y. unwrap_or y (default_of def)) (ap (λ (q : CellPath). cell_at s q.0 q.1) (tied_is path_exact (o, c) p t) ∙ is) in
          ap (λ y. touched k (edited e y)) here ∙ law ∙ ap (merged_cell l e f) (sym here)
      | false ↦ λ _. refl
    ] refl

cond_none : {A : Type 0} (b : Bool) → cond {A = Option A} b None None ≡ None
cond_none true = refl
cond_none false = refl

pub same_cell : (s : State) → IsShaped s → (p : CellPath) (e f : Edit) (l : Bool) (x : Cell) → cell_at s p.0 p.1 ≡ Some x → FoundCell s p e → FoundCell s p f → (k : Option Edit) → RightLaw l e f x k → OneSided s (Change p e) (Change p f) l (placed p k)
same_cell s ok p e f l x is fe ff None law = record {
  found = tt;
  tables = refl;
  objects = λ o. refl;
  touches = λ o c def _. ap (λ t. touched t (touched (touch (Change p e) (o, c)) (cell_or_default s o c def))) (sym (cond_none (eq_by_cmp path_cmp (o, c) p))) ∙ touches_agree s p e f None l x is law o c def;
}
same_cell s ok p e f l x is fe ff (Some k) law = record {
  found = found_again s ok p e f k l x is fe ff law;
  tables = refl;
  objects = λ o. refl;
  touches = λ o c def _. touches_agree s p e f (Some k) l x is law.gives o c def;
}

lifted_right : (s : State) (p : CellPath) (e f : Edit) (l : Bool) (x : Cell) (m : Answer Edit) → ((k : Option Edit) → RightLaw l e f x k → Right s (Change p e) (Change p f) l (placed p k)) → MetLaw l e f x m → RightIfMet s (Change p e) (Change p f) l (lifted p m)
lifted_right s p e f l x (Err m) g h = tt
lifted_right s p e f l x (Ok r) g h = g r.right h

same_place : (s : State) → IsShaped s → (p : CellPath) (e f : Edit) (l : Bool) → IsEdit e → IsEdit f → FoundCell s p e → FoundCell s p f → RightIfMet s (Change p e) (Change p f) l (lifted p (rule_of_edits l e f))
same_place s ok p e f l i j fe ff =
    let was = prior_of e (cell_at s p.0 p.1) fe.prior in
    lifted_right s p e f l was.0 (rule_of_edits l e f)
    (λ k law. right_from s ok (Change p e) (Change p f) l (placed p k) fe (same_cell s ok p e f l was.0 was.1 fe ff k law))
    (edit_law l e f was.0 i j (asked_is s ok p e was.0 was.1 fe) (asked_is s ok p f was.0 was.1 ff) was.2 (prior_is s p f was.0 was.1 ff))

-- ---- every pair
kept_right : (s : State) → IsShaped s → (a b : Effect) (l : Bool) → Found s a → Found s b → Apart a b → Right s a b l (Some b)
kept_right s ok a b l f g h = right_from s ok a b l (Some b) f (kept_side s ok a b l f g h)

pub right_law : (s : State) (l : Bool) (a b : Effect) → IsShaped s → IsEffect a → IsEffect b → Found s a → Found s b → RightIfMet s a b l (rule l a b)
right_law s l (NewTable t k) (NewTable u j) ok i h f g =
    if_chosen s (NewTable t k) (NewTable u j) l (eq_by_cmp name_cmp t u) _ _
    (λ e. if_chosen s (NewTable t k) (NewTable u j) l (key_rank_of k == key_rank_of j) neither (Err mismatches.TablesDiffer)
    (λ q. right_from s ok (NewTable t k) (NewTable u j) l None f (dropped_table s ok t u k j l (tied_is name_exact t u e) (same_rank_kind k j (eqb-true _ _ q)))) (λ _. tt))
    (λ e. kept_right s ok (NewTable t k) (NewTable u j) l f g e)
right_law s l (NewColumn t c x) (NewColumn u d y) ok i h f g =
    if_chosen s (NewColumn t c x) (NewColumn u d y) l (eq_by_cmp name_cmp t u && eq_by_cmp name_cmp c d) _ _
    (λ e. let r = both_true (eq_by_cmp name_cmp t u) (eq_by_cmp name_cmp c d) e in
    if_chosen s (NewColumn t c x) (NewColumn u d y) l (same_column x y) neither (Err mismatches.ColumnsDiffer)
    (λ q. right_from s ok (NewColumn t c x) (NewColumn u d y) l None f (dropped_column s ok t u c d x y l f.there (tied_is name_exact t u r.0) (tied_is name_exact c d r.1) (column_same x y q))) (λ _. tt))
    (λ e. kept_right s ok (NewColumn t c x) (NewColumn u d y) l f g e)
right_law s l (Create o) (Erase p) ok i h f g =
    if_chosen s (Create o) (Erase p) l (eq_by_cmp object_cmp o p) (only_right (Erase p)) (kept (Create o) (Erase p)) (λ _. kept_right s ok (Create o) (Erase p) l f g tt) (λ _. kept_right s ok (Create o) (Erase p) l f g tt)
right_law s l (Erase o) (Create p) ok i h f g =
    if_chosen s (Erase o) (Create p) l (eq_by_cmp object_cmp o p) (only_left (Erase o)) (kept (Erase o) (Create p))
    (λ e. right_from s ok (Erase o) (Create p) l None f (dropped_create s o p l (tied_is object_exact o p e))) (λ e. kept_right s ok (Erase o) (Create p) l f g e)
right_law s l (Erase o) (Erase p) ok i h f g =
    if_chosen s (Erase o) (Erase p) l (eq_by_cmp object_cmp o p) neither (kept (Erase o) (Erase p))
    (λ e. right_from s ok (Erase o) (Erase p) l None f (dropped_erase s o p l (tied_is object_exact o p e))) (λ e. kept_right s ok (Erase o) (Erase p) l f g e)
right_law s l (Erase o) (Change q e) ok i h f g =
    if_chosen s (Erase o) (Change q e) l (eq_by_cmp object_cmp o q.0) (only_left (Erase o)) (kept (Erase o) (Change q e))
    (λ k. right_from s ok (Erase o) (Change q e) l None f (dropped_change s o q e l (tied_is object_exact o q.0 k))) (λ k. kept_right s ok (Erase o) (Change q e) l f g k)
right_law s l (Change q e) (Erase o) ok i h f g =
    if_chosen s (Change q e) (Erase o) l (eq_by_cmp object_cmp q.0 o) (only_right (Erase o)) (kept (Change q e) (Erase o)) (λ _. kept_right s ok (Change q e) (Erase o) l f g tt) (λ _. kept_right s ok (Change q e) (Erase o) l f g tt)
right_law s l (Change p e) (Change q k) ok i h f g =
    elim (eq_by_cmp path_cmp p q) as (λ b. eq_by_cmp path_cmp p q ≡ b → RightIfMet s (Change p e) (Change q k) l (rule l (Change p e) (Change q k))) [
      | true ↦ λ t.
          let same : p ≡ q = tied_is path_exact p q t in
          subst (RightIfMet s (Change p e) (Change q k) l) (sym (changes_there l p q e k t same))
          (subst (λ (r : CellPath). FoundCell s r k → RightIfMet s (Change p e) (Change r k) l (lifted p (rule_of_edits l e k))) same (λ g2. same_place s ok p e k l i h f g2) g)
      | false ↦ λ t. subst (RightIfMet s (Change p e) (Change q k) l) (sym (changes_apart l p q e k t)) (kept_right s ok (Change p e) (Change q k) l f g t)
    ] refl
right_law s l a b ok i h f g = kept_right s ok a b l f g tt
