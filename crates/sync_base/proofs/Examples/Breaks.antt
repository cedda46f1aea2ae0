-- The first check that fails, worked out on the state of `Setting`.
use Rattle.std.specs.Prelude.{◌≡◌, pos, true, false, [], None, Some, refl}
use Rattle.sync_data.specs.declared.key.Key.TheVariants as keys
use Rattle.sync_data.specs.declared.key.KeyKind.TheVariants as key_kinds
use Rattle.sync_data.specs.declared.value.Value.TheVariants as values
use Rattle.sync_data.specs.declared.column.Kind.TheVariants as kinds
use Rattle.sync_data.specs.declared.column.Shape.TheVariants as shapes
use Rattle.sync_base.specs.declared.answers.Break.TheVariants as breaks
use Rattle.sync_base.specs.Effects.{Set, Add, Replace, Insert, Remove, Include, Bind, Empty, NewTable, NewColumn, Create, Erase, Change}
use Rattle.std.specs.FinMap as map
use Rattle.sync_base.specs.States.{State, Many, no_state}
use Rattle.sync_base.specs.Checks.{break_of, act_effect}
use Rattle.sync_base.specs.Rules.{spot}
use Rattle.sync_base.proofs.Examples.Setting.{t, n, s, l, u, k, d, z, a, int, object, path, column, n_column, here, cells, looks}

-- the same state with an empty list
abbrev empty_list : State
empty_list = record { tables = here.tables; objects = map.insert map.empty (object 1) (map.insert cells l (Many [])) }

-- ---- tables and columns
first_table : break_of no_state (NewTable t key_kinds.Int) ≡ None
first_table = simp looks refl

table_is_there : break_of here (NewTable t key_kinds.Text) ≡ Some breaks.TableExists
table_is_there = simp looks refl

column_of_no_table : break_of here (NewColumn z n n_column) ≡ Some breaks.NoTable
column_of_no_table = simp looks refl

column_is_there : break_of here (NewColumn t n n_column) ≡ Some breaks.ColumnExists
column_is_there = simp looks refl

-- a single link that isn't nullable, and a list of links that is
single_link : break_of here (NewColumn t z (column (kinds.Link t) false)) ≡ Some breaks.BadColumn
single_link = simp looks refl

listed_link : break_of here (NewColumn t z (record { kind = kinds.Link t; nullable = true; shape = shapes.List })) ≡ Some breaks.BadColumn
listed_link = simp looks refl

target_is_missing : break_of here (NewColumn t z (column (kinds.Link z) true)) ≡ Some breaks.NoTable
target_is_missing = simp looks refl

-- ---- objects
object_of_no_table : break_of here (Create (z, keys.Int (pos 1))) ≡ Some breaks.NoTable
object_of_no_table = simp looks refl

key_of_another_kind : break_of here (Create (t, keys.Text [])) ≡ Some breaks.WrongKeyKind
key_of_another_kind = simp looks refl

create_a_present_object : break_of here (Create (object 1)) ≡ None
create_a_present_object = simp looks refl

erase_an_absent_object : break_of here (Erase (object 2)) ≡ Some breaks.NoObject
erase_an_absent_object = simp looks refl

-- ---- cells
cell_of_no_object : break_of here (Change (object 2, n) (Set (int 3))) ≡ Some breaks.NoObject
cell_of_no_object = simp looks refl

cell_of_no_column : break_of here (Change (path z) (Set (int 3))) ≡ Some breaks.NoColumn
cell_of_no_column = simp looks refl

value_for_a_list : break_of here (Change (path l) (Set a)) ≡ Some breaks.WrongShape
value_for_a_list = simp looks refl

clear_of_one_value : break_of here (Change (path n) Empty) ≡ Some breaks.WrongShape
clear_of_one_value = simp looks refl

null_for_a_number : break_of here (Change (path n) (Set values.Null)) ≡ Some breaks.WrongKind
null_for_a_number = simp looks refl

sum_of_a_text : break_of here (Change (path s) (Add (pos 1))) ≡ Some breaks.WrongKind
sum_of_a_text = simp looks refl

link_to_another_kind_of_key : break_of here (Change (path k) (Set (values.Link t (keys.Text [])))) ≡ Some breaks.WrongKind
link_to_another_kind_of_key = simp looks refl

-- an unresolved link fits
link_to_an_absent_object : break_of here (Change (path k) (Set (values.Link t (keys.Int (pos 7))))) ≡ None
link_to_an_absent_object = simp looks refl

another_size : break_of here (Change (path l) (Insert (spot 0 1) a)) ≡ Some breaks.BadPrior
another_size = simp looks refl

beyond_an_empty_list : break_of empty_list (Change (path l) (Insert (spot 1 1) a)) ≡ Some breaks.BadPrior
beyond_an_empty_list = simp looks refl

insert_at_the_end : break_of here (Change (path l) (Insert (spot 2 2) a)) ≡ None
insert_at_the_end = simp looks refl

-- the erasure of an element has no value that could be of another kind
erase_an_element : break_of here (Change (path l) (Remove (spot 1 2))) ≡ None
erase_an_element = simp looks refl

member_of_another_kind : break_of here (Change (path u) (Include a)) ≡ Some breaks.WrongKind
member_of_another_kind = simp looks refl

unbind_fits_every_column : break_of here (Change (path d) (Bind z None)) ≡ None
unbind_fits_every_column = simp looks refl

-- a place outside its list is no instruction, so nothing comes of it
outside : act_effect (Change (path l) (Replace (spot 2 2) a)) here ≡ None
outside = refl
