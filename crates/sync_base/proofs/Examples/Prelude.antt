-- The first transaction of an exchange: a table with six columns and one object, from the empty state.
use Rattle.std.specs.Prelude.{◌≡◌, ℕ, false, cond, List, [], ◌∷◌, Option, None, Some, refl}
use Rattle.std.specs.Option.{option_and_then}
use Rattle.std.specs.FinMap as map
use Rattle.std.specs.FinSet as set
use Rattle.std.proofs.Common.{◌∙◌, ap}
use Rattle.sync_data.specs.declared.key.KeyKind.TheVariants as key_kinds
use Rattle.sync_data.specs.declared.value.Value.TheVariants as values
use Rattle.sync_data.specs.declared.column.Column.{Column}
use Rattle.sync_data.specs.declared.instr.Instr.{Instr}
use Rattle.sync_base.specs.Effects.{NewTable, NewColumn, Create, instr_of}
use Rattle.sync_base.specs.States.{State, Table, Tables, One, Many, Members, no_state, has, cell_at, column_in}
use Rattle.sync_base.specs.After.{with_column, with_default, new_cells, tables_after}
use Rattle.sync_base.specs.Maps.{map_with}
use Rattle.sync_base.specs.Checks.{act, act_all, Acts}
use Rattle.sync_base.specs.Lemmas.Places.{acting}
use Rattle.sync_base.proofs.Examples.Setting.{t, n, m, s, l, u, k, z, int, object, n_column, m_column, s_column, l_column, u_column, k_column, looks}

-- ---- the state after each instruction
abbrev x0 : Table
x0 = record { key = key_kinds.Int; columns = map.empty }

abbrev x1 : Table
x1 = with_column n n_column x0

abbrev x2 : Table
x2 = with_column m m_column x1

abbrev x3 : Table
x3 = with_column s s_column x2

abbrev x4 : Table
x4 = with_column l l_column x3

abbrev x5 : Table
x5 = with_column u u_column x4

abbrev x6 : Table
x6 = with_column k k_column x5

abbrev s1 : State
s1 = record { tables = map.insert map.empty t x0; objects = map.empty }

abbrev grown_state : State → List ℕ → Column → Table → State
grown_state st c def x = record { tables = map.insert st.tables t x; objects = map_with (with_default t c def) st.objects }

abbrev s2 : State
s2 = grown_state s1 n n_column x1

abbrev s3 : State
s3 = grown_state s2 m m_column x2

abbrev s4 : State
s4 = grown_state s3 s s_column x3

abbrev s5 : State
s5 = grown_state s4 l l_column x4

abbrev s6 : State
s6 = grown_state s5 u u_column x5

abbrev s7 : State
s7 = grown_state s6 k k_column x6

abbrev s8 : State
s8 = record { tables = s7.tables; objects = map.insert s7.objects (object 1) (new_cells (Some x6)) }

-- ---- each instruction acts
grown : (ts : Tables) (c : List ℕ) (def : Column) (x : Table) → map.get ts t ≡ Some x → tables_after (NewColumn t c def) ts ≡ map.insert ts t (with_column c def x)
grown ts c def x e = ap (λ (y : Option Table). elim y [ None ↦ ts | Some table ↦ map.insert ts t (with_column c def table) ]) e

column_acts : (st : State) (c : List ℕ) (def : Column) (x : Table) → map.get st.tables t ≡ Some x → Acts st (NewColumn t c def) → act (instr_of (NewColumn t c def)) st ≡ Some (grown_state st c def (with_column c def x))
column_acts st c def x e h = acting (NewColumn t c def) st (grown_state st c def (with_column c def x)) (record {
  fine = tt;
  acts = h;
  gives = λ i. record { tables = grown st.tables c def x e i; objects = map_with (with_default t c def) st.objects };
})

first : act (instr_of (NewTable t key_kinds.Int)) no_state ≡ Some s1
first = acting (NewTable t key_kinds.Int) no_state s1 (record { fine = tt; acts = simp looks refl; gives = refl })

last : act (instr_of (Create (object 1))) s7 ≡ Some s8
last =
    let absent : has s7 (object 1) ≡ false = simp looks refl in
    let table : map.get s7.tables t ≡ Some x6 = simp looks refl in
    acting (Create (object 1)) s7 s8 (record {
      fine = tt;
      acts = simp looks refl;
      gives = λ i. record { tables = s7.tables; objects = cond (absent i) s7.objects (map.insert s7.objects (object 1) (new_cells (table i))) };
    })

abbrev with : List ℕ → Column → Instr
with c def = instr_of (NewColumn t c def)

abbrev creates : List Instr
creates = instr_of (Create (object 1)) ∷ []

abbrev from_k : List Instr
from_k = with k k_column ∷ creates

abbrev from_u : List Instr
from_u = with u u_column ∷ from_k

abbrev from_l : List Instr
from_l = with l l_column ∷ from_u

abbrev from_s : List Instr
from_s = with s s_column ∷ from_l

abbrev from_m : List Instr
from_m = with m m_column ∷ from_s

abbrev from_n : List Instr
from_n = with n n_column ∷ from_m

-- a table, its six columns, and an object
abbrev prelude : List Instr
prelude = instr_of (NewTable t key_kinds.Int) ∷ from_n

next : (i : Instr) (is : List Instr) (st v : State) (r : Option State) → act i st ≡ Some v → act_all is v ≡ r → act_all (i ∷ is) st ≡ r
next i is st v r e f = ap (option_and_then (act_all is)) e ∙ f

prelude_acts : act_all prelude no_state ≡ Some s8
prelude_acts =
    next (instr_of (NewTable t key_kinds.Int)) from_n no_state s1 (Some s8) first
    (next (with n n_column) from_m s1 s2 (Some s8) (column_acts s1 n n_column x0 (simp looks refl) (simp looks refl))
    (next (with m m_column) from_s s2 s3 (Some s8) (column_acts s2 m m_column x1 (simp looks refl) (simp looks refl))
    (next (with s s_column) from_l s3 s4 (Some s8) (column_acts s3 s s_column x2 (simp looks refl) (simp looks refl))
    (next (with l l_column) from_u s4 s5 (Some s8) (column_acts s4 l l_column x3 (simp looks refl) (simp looks refl))
    (next (with u u_column) from_k s5 s6 (Some s8) (column_acts s5 u u_column x4 (simp looks refl) (simp looks refl))
    (next (with k k_column) creates s6 s7 (Some s8) (column_acts s6 k k_column x5 (simp looks refl) (simp looks refl))
    (next (instr_of (Create (object 1))) [] s7 s8 (Some s8) last refl)))))))

-- ---- and what then stands
number_is_zero : cell_at s8 (object 1) n ≡ Some (One (int 0))
number_is_zero = simp looks refl

nullable_number_is_null : cell_at s8 (object 1) m ≡ Some (One values.Null)
nullable_number_is_null = simp looks refl

text_is_null : cell_at s8 (object 1) s ≡ Some (One values.Null)
text_is_null = simp looks refl

list_is_empty : cell_at s8 (object 1) l ≡ Some (Many [])
list_is_empty = simp looks refl

set_is_empty : cell_at s8 (object 1) u ≡ Some (Members set.empty)
set_is_empty = simp looks refl

link_is_null : cell_at s8 (object 1) k ≡ Some (One values.Null)
link_is_null = simp looks refl

no_other_cell : cell_at s8 (object 1) z ≡ None
no_other_cell = simp looks refl

no_other_object : has s8 (object 2) ≡ false
no_other_object = simp looks refl

column_stands : column_in s8.tables t k ≡ Some k_column
column_stands = simp looks refl
