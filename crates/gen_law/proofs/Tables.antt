-- Objects in which the table of the first client stands with its columns: what is drawn for them acts.
use Rattle.std.proofs.Common.{◌≡◌, ℕ, ◌^◌, Bool, true, false, List, [], ◌∷◌, Option, Some, None, Err, refl, sym, ap, ◌∙◌, subst, if◌then◌else◌, ◌==◌, is_some, length, nat_lt}
use Rattle.std.specs.Option.{option_and_then, option_map_or}
use Rattle.std.specs.Prelude.{codes, pos}
use Rattle.std.specs.FinMap as map
use Rattle.std.proofs.lemmas.Bool.{lt-ltb, le-leb}
use Rattle.sync_data.specs.declared.column.Column.{Column}
use Rattle.sync_data.specs.declared.column.Kind.{Kind}
use Rattle.sync_data.specs.declared.column.Kind.TheVariants as kinds
use Rattle.sync_data.specs.declared.column.Shape.{Shape}
use Rattle.sync_data.specs.declared.column.Shape.TheVariants as shapes
use Rattle.sync_data.specs.declared.instr.Instr.{Instr}
use Rattle.sync_data.specs.declared.value.Value.{Value}
use Rattle.sync_base.specs.After.{after}
use Rattle.sync_base.specs.Checks.{Acts, break_of, has_shape, edit_fits, is_prior, column_check, size}
use Rattle.sync_base.specs.Codes.{break_code}
use Rattle.sync_base.specs.declared.answers.Break.{Break}
use Rattle.sync_base.specs.declared.answers.Break.TheVariants as breaks
use Rattle.sync_base.specs.Effects.{Edit, Effect, Set, Add, Replace, Insert, Remove, Include, Exclude, effect_of, is_effect}
use Rattle.sync_base.specs.Lemmas.Stays.{key_stays}
use Rattle.sync_base.specs.Lemmas.Steps.{Found, FoundCell, acts, found, column_stays}
use Rattle.sync_base.specs.States.{IsState, State, Table, Cell, Cells, One, Many, Members, Dict, cell_at, column_in, has, is_key_of, is_of_kind, shape_rank}
use Rattle.sync_law.specs.Coded.{apply, state_or_code}
use Rattle.sync_theory.specs.Lists.{and_then, ok_state, run}
use Rattle.sync_theory.proofs.Server.{test_true}
use Rattle.sync_gen.specs.Draws.{draw}
use Rattle.gen_law.proofs.Edits.{OfEach, and_true, by_choice}
use Rattle.sync_gen.specs.Edits.{table, key_of, integer, text_of, link_to, create_object, erase_object, short_length, length_in, edit_at, edit_of}

some_same : {A : Type 0} (x y : A) → Some x ≡ Some y → x ≡ y
some_same x y e = cc

-- ---- the table and its columns

abbrev pub column : Kind → Bool → Shape → Column
column kind nullable shape = record { kind = kind; nullable = nullable; shape = shape }

pub record Tabled (s : State) : Type 0 where
  pub keyed : (n : ℕ) → is_key_of s.tables table (key_of n) ≡ true
  pub numbers : column_in s.tables table (codes "n") ≡ Some (column kinds.Int false shapes.One)
  pub texts : column_in s.tables table (codes "s") ≡ Some (column kinds.Text true shapes.One)
  pub elements : column_in s.tables table (codes "l") ≡ Some (column kinds.Text false shapes.List)
  pub members : column_in s.tables table (codes "u") ≡ Some (column kinds.Int false shapes.Set)
  pub links : column_in s.tables table (codes "k") ≡ Some (column (kinds.Link table) true shapes.One)

-- ---- they stay

tabled_after : (s : State) (d : Effect) → Found s d → Tabled s → Tabled (after s d)
tabled_after s d f t = record {
  keyed = λ n. key_stays s d f table (key_of n) (t.keyed n);
  numbers = column_stays s d f table (codes "n") _ t.numbers;
  texts = column_stays s d f table (codes "s") _ t.texts;
  elements = column_stays s d f table (codes "l") _ t.elements;
  members = column_stays s d f table (codes "u") _ t.members;
  links = column_stays s d f table (codes "k") _ t.links;
}

-- an instruction that acts passes all its checks
acted : (i : Instr) (s u : State) → ok_state (apply i s) ≡ Some u → Acts s (effect_of i) × (after s (effect_of i) ≡ u)
acted i s u e = on (is_effect (effect_of i)) (break_of s (effect_of i)) refl e
  where
    on : (b : Bool) (o : Option Break) → break_of s (effect_of i) ≡ o → ok_state (if b then state_or_code o (after s (effect_of i)) else Err (break_code breaks.BadPrior)) ≡ Some u → Acts s (effect_of i) × (after s (effect_of i) ≡ u)
    on true None o_is e = (o_is, cc)
    on true (Some k) o_is e = cc
    on false o o_is e = cc

tabled_act : (i : Instr) (s u : State) → ok_state (apply i s) ≡ Some u → Tabled s → Tabled u
tabled_act i s u e t = let a = acted i s u e in subst Tabled a.1 (tabled_after s (effect_of i) (found s (effect_of i) a.0) t)

pub tabled_run : (is : List Instr) (s u : State) → run (λ i v. ok_state (apply i v)) is s ≡ Some u → Tabled s → Tabled u
tabled_run [] s u e t = subst Tabled (some_same s u e) t
tabled_run (i ∷ is) s u e t = on (ok_state (apply i s)) refl e (λ v v_is rest. tabled_run is v u rest (tabled_act i s v v_is t))
  where
    on : (o : Option State) → ok_state (apply i s) ≡ o → and_then o (run (λ j v. ok_state (apply j v)) is) ≡ Some u → ((v : State) → ok_state (apply i s) ≡ Some v → run (λ j v. ok_state (apply j v)) is v ≡ Some u → Tabled u) → Tabled u
    on None o_is e rec = cc
    on (Some v) o_is e rec = rec v o_is e

-- ---- a cell that is there

is_there : {A : Type 0} (o : Option A) → is_some o ≡ true → (x : A) × (o ≡ Some x)
is_there None e = cc
is_there (Some x) e = (x, refl)

table_there : (s : State) → Tabled s → is_some (map.get s.tables table) ≡ true
table_there s t = on (map.get s.tables table) (t.keyed 0)
  where
    on : (o : Option Table) → option_map_or (λ (x : Table). is_of_kind x.key (key_of 0)) o false ≡ true → is_some o ≡ true
    on None e = cc
    on (Some x) e = refl

-- an edit of a cell in a column of the table
cell_found : (s : State) → IsState s → Tabled s → (k : ℕ) → has s (table, key_of k) ≡ true → (c : List ℕ) (col : Column) → column_in s.tables table c ≡ Some col → (e : Edit) → has_shape e (shape_rank col.shape) ≡ true → edit_fits s.tables col e ≡ true
    → ((x : Cell) → cell_at s (table, key_of k) c ≡ Some x → is_prior e x ≡ true) → FoundCell s ((table, key_of k), c) e
cell_found s ok t k here c col is e shape fits prior =
    let x = is_there (cell_at s (table, key_of k) c) (ok.filled (table, key_of k) c here ∙ ap is_some is) in
    record {
      there = table_there s t;
      key = t.keyed k;
      present = here;
      column = ap is_some is;
      shape = ap (column_check (λ c. has_shape e (shape_rank c.shape))) is ∙ shape;
      value = ap (column_check (λ c. edit_fits s.tables c e)) is ∙ fits;
      prior = ap (λ o. option_map_or (is_prior e) o false) x.1 ∙ prior x.0 x.1;
    }

-- ---- what is drawn

-- an instruction acts
abbrev pub Goes : State → Instr → Type 0
Goes s i = Acts s (effect_of i) × (is_effect (effect_of i) ≡ true)

module _ (s : State) (ok : IsState s) (t : Tabled s) (k : ℕ) where
  creates : Goes s (create_object k)
  creates = (acts s (effect_of (create_object k)) (record { there = table_there s t; key = t.keyed k }), refl)

  -- where the object is there, with a list of this length
  module _ (items : List Value) (l : ℕ) (here : has s (table, key_of k) ≡ true) (list : cell_at s (table, key_of k) (codes "l") ≡ Some (Many items)) (long : length items ≡ l) where
    changes : (c : List ℕ) (col : Column) → column_in s.tables table c ≡ Some col → (e : Edit) → has_shape e (shape_rank col.shape) ≡ true → edit_fits s.tables col e ≡ true → ((x : Cell) → cell_at s (table, key_of k) c ≡ Some x → is_prior e x ≡ true)
        → Acts s (Effect.Change ((table, key_of k), c) e)
    changes c col is e shape fits prior = acts s (Effect.Change ((table, key_of k), c) e) (cell_found s ok t k here c col is e shape fits prior)

    -- it has that length
    long_as : (e : Edit) → ((x : Cell) → is_prior e x ≡ (l == size x)) → (x : Cell) → cell_at s (table, key_of k) (codes "l") ≡ Some x → is_prior e x ≡ true
    long_as e asks x x_is =
        let same : Many items ≡ x = some_same (Many items) x (sym list ∙ x_is) in
        asks x ∙ ap (λ c. l == size c) (sym same) ∙ test_true l (length items) (sym long)

    each_goes : OfEach (Goes s) k l
    each_goes = record {
      numbers = λ n lt. (changes (codes "n") _ t.numbers (Set (integer n)) refl refl (λ y y_is. refl), refl);
      raises = λ n lt. (changes (codes "n") _ t.numbers (Add (pos n)) refl refl (λ y y_is. refl), refl);
      texts = λ n lt. (changes (codes "s") _ t.texts (Set (text_of n)) refl refl (λ y y_is. refl), refl);
      inserts = λ place n le lt. (changes (codes "l") _ t.elements (Insert (record { place = place; prior = l }) (text_of n)) refl refl (long_as (Insert (record { place = place; prior = l }) (text_of n)) (λ x. refl)), le-leb place l le);
      removes = λ place lt. (changes (codes "l") _ t.elements (Remove (record { place = place; prior = l })) refl refl (long_as (Remove (record { place = place; prior = l })) (λ x. refl)), lt-ltb place l lt);
      replaces = λ place n lt few. (changes (codes "l") _ t.elements (Replace (record { place = place; prior = l }) (text_of n)) refl refl (long_as (Replace (record { place = place; prior = l }) (text_of n)) (λ x. refl)), lt-ltb place l lt);
      includes = λ n lt. (changes (codes "u") _ t.members (Include (integer n)) refl refl (λ y y_is. refl), refl);
      excludes = λ n lt. (changes (codes "u") _ t.members (Exclude (integer n)) refl refl (λ y y_is. refl), refl);
      erases = (acts s (effect_of (erase_object k)) (record { there = table_there s t; key = t.keyed k; present = here }), refl);
      links = λ n lt. (changes (codes "k") _ t.links (Set (link_to n)) refl (and_true _ _ refl (t.keyed n)) (λ y y_is. refl), refl);
    }

-- the edit of a client's turn acts on its objects
pub edit_goes : (s : State) → IsState s → Tabled s → (x : ℕ) → Goes s (edit_of s x).0
edit_goes s ok t x = by_length (length_in s (draw 16 x).0) refl
  where
    short : (c : Cell) (n : ℕ) → short_length c ≡ Some n → (items : List Value) × (c ≡ Many items) × (length items ≡ n)
    short (One v) n e = cc
    short (Members v) n e = cc
    short (Dict m) n e = cc
    short (Many items) n e = (items, refl, by_length (nat_lt (length items) (2 ^ 31)) e)
      where
        by_length : (b : Bool) → (if b then Some (length items) else None) ≡ Some n → length items ≡ n
        by_length true e = some_same (length items) n e
        by_length false e = cc

    listed : (o : Option Cell) (n : ℕ) → option_and_then short_length o ≡ Some n → (items : List Value) × (o ≡ Some (Many items)) × (length items ≡ n)
    listed None n e = cc
    listed (Some c) n e = let h = short c n e in (h.0, ap (λ y. Some y) h.1, h.2)

    here : (items : List Value) → cell_at s (table, key_of (draw 16 x).0) (codes "l") ≡ Some (Many items) → has s (table, key_of (draw 16 x).0) ≡ true
    here items e = by_cells (map.get s.objects (table, key_of (draw 16 x).0)) e
      where
        by_cells : (o : Option Cells) → option_and_then (λ cells. map.get cells (codes "l")) o ≡ Some (Many items) → is_some o ≡ true
        by_cells None e = cc
        by_cells (Some cells) e = refl

    by_length : (o : Option ℕ) → length_in s (draw 16 x).0 ≡ o → Goes s (edit_at (draw 16 x).0 o (draw 16 x).1).0
    by_length None o_is = creates s ok t (draw 16 x).0
    by_length (Some l) o_is =
        let h = listed (cell_at s (table, key_of (draw 16 x).0) (codes "l")) l o_is in
        by_choice (Goes s) (draw 16 x).0 l (each_goes s ok t (draw 16 x).0 h.0 l (here h.0 h.1) h.1 h.2) (draw 10 (draw 16 x).1).0 (draw 10 (draw 16 x).1).1
