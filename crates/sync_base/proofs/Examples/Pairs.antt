-- Each row of the rule table, worked out. Places and sizes are written place/size.
use Rattle.std.specs.Prelude.{◌≡◌, ℕ, pos, negsuc, true, false, List, None, Some, Result, Ok, Err, refl}
use Rattle.std.specs.Int.{w64}
use Rattle.std.proofs.Common.{sym, ap, lit<}
use Rattle.std.proofs.lemmas.Int.{wrapping_add_is}
use Rattle.sync_data.specs.declared.key.Key.TheVariants as keys
use Rattle.sync_data.specs.declared.key.KeyKind.{KeyKind}
use Rattle.sync_data.specs.declared.key.KeyKind.TheVariants as key_kinds
use Rattle.sync_data.specs.declared.value.Value.{Value}
use Rattle.sync_data.specs.declared.value.Value.TheVariants as values
use Rattle.sync_data.specs.declared.column.Column.{Column}
use Rattle.sync_data.specs.declared.column.Kind.TheVariants as kinds
use Rattle.sync_data.specs.declared.instr.Instr.{Instr}
use Rattle.sync_data.specs.declared.instr.Instr.TheVariants as instrs
use Rattle.sync_base.specs.declared.answers.Mismatch.{Mismatch}
use Rattle.sync_base.specs.declared.answers.Mismatch.TheVariants as mismatches
use Rattle.sync_base.specs.declared.answers.Outcome.{Outcome}
use Rattle.sync_base.specs.After.{sum64}
use Rattle.sync_base.specs.Rules.{meeting, spot}
use Rattle.sync_base.proofs.Examples.Setting.{t, n, m, l, u, d, z, a, b, int, cell, column, n_column, s_column}

-- ---- the instructions of the examples
abbrev new_table : KeyKind → Instr
new_table kind = instrs.AddTable (record { table = t; key = kind })

abbrev new_column : Column → Instr
new_column def = instrs.AddColumn (record { table = t; column = z; def = def })

abbrev create : ℕ → Instr
create i = instrs.CreateObject (record { table = t; key = keys.Int (pos i) })

abbrev erase : ℕ → Instr
erase i = instrs.EraseObject (record { table = t; key = keys.Int (pos i) })

abbrev update : List ℕ → Value → Instr
update c v = instrs.Update (record { cell = cell c; value = v })

abbrev add : List ℕ → ℕ → Instr
add c i = instrs.AddInteger (record { cell = cell c; amount = pos i })

abbrev put : ℕ → ℕ → Value → Instr
put p q v = instrs.ListInsert (record { cell = cell l; spot = spot p q; value = v })

abbrev cut : ℕ → ℕ → Instr
cut p q = instrs.ListErase (record { cell = cell l; spot = spot p q })

abbrev set : ℕ → ℕ → Value → Instr
set p q v = instrs.ListUpdate (record { cell = cell l; spot = spot p q; value = v })

abbrev member : ℕ → Instr
member i = instrs.SetInsert (record { cell = cell u; value = int i })

abbrev no_member : ℕ → Instr
no_member i = instrs.SetErase (record { cell = cell u; value = int i })

abbrev bind : List ℕ → ℕ → Instr
bind c i = instrs.DictUpdate (record { cell = cell d; at = c; value = Some (int i) })

abbrev unbind : List ℕ → Instr
unbind c = instrs.DictUpdate (record { cell = cell d; at = c; value = None })

abbrev clear : List ℕ → Instr
clear c = instrs.Clear (record { cell = cell c })

-- ---- the answers
abbrev left_alone : Instr → Result Outcome Mismatch
left_alone i = Ok (record { left = Some i; right = None })

abbrev right_alone : Instr → Result Outcome Mismatch
right_alone i = Ok (record { left = None; right = Some i })

abbrev both : Instr → Instr → Result Outcome Mismatch
both i j = Ok (record { left = Some i; right = Some j })

abbrev neither : Result Outcome Mismatch
neither = Ok (record { left = None; right = None })

-- ---- two equal definitions count once, and two different ones can't be merged
equal_tables : meeting (new_table key_kinds.Int) (new_table key_kinds.Int) true ≡ neither
equal_tables = refl

different_tables : meeting (new_table key_kinds.Int) (new_table key_kinds.Text) true ≡ Err mismatches.TablesDiffer
different_tables = refl

equal_columns : meeting (new_column n_column) (new_column n_column) false ≡ neither
equal_columns = refl

columns_of_different_kinds : meeting (new_column n_column) (new_column s_column) false ≡ Err mismatches.ColumnsDiffer
columns_of_different_kinds = refl

nullable_on_one_side : meeting (new_column n_column) (new_column (column kinds.Int true)) false ≡ Err mismatches.ColumnsDiffer
nullable_on_one_side = refl

links_to_different_tables : meeting (new_column (column (kinds.Link t) true)) (new_column (column (kinds.Link z) true)) true ≡ Err mismatches.ColumnsDiffer
links_to_different_tables = refl

-- ---- objects
create_and_create : meeting (create 1) (create 1) true ≡ both (create 1) (create 1)
create_and_create = refl

create_and_erase : meeting (create 1) (erase 1) true ≡ right_alone (erase 1)
create_and_erase = refl

erase_and_create : meeting (erase 1) (create 1) false ≡ left_alone (erase 1)
erase_and_create = refl

erase_and_erase : meeting (erase 1) (erase 1) true ≡ neither
erase_and_erase = refl

erase_and_update : meeting (erase 1) (update n (int 3)) false ≡ left_alone (erase 1)
erase_and_update = refl

insertion_and_erase : meeting (put 0 2 a) (erase 1) true ≡ right_alone (erase 1)
insertion_and_erase = refl

dictionary_and_erase : meeting (bind n 1) (erase 1) true ≡ right_alone (erase 1)
dictionary_and_erase = refl

erase_and_clear : meeting (erase 1) (clear l) false ≡ left_alone (erase 1)
erase_and_clear = refl

erase_of_another_object : meeting (erase 2) (update n (int 3)) true ≡ both (erase 2) (update n (int 3))
erase_of_another_object = refl

-- ---- one value
update_and_update_left_later : meeting (update n (int 1)) (update n (int 2)) true ≡ left_alone (update n (int 1))
update_and_update_left_later = refl

update_and_update_right_later : meeting (update n (int 1)) (update n (int 2)) false ≡ right_alone (update n (int 2))
update_and_update_right_later = refl

-- the greatest number and one more is the least
pub wrapped : sum64 (pos 9223372036854775807) (pos 1) ≡ negsuc 9223372036854775807
wrapped = sym (wrapping_add_is w64 (pos 9223372036854775807) (pos 1) (record { sfits = lit< tt }) (record { sfits = lit< tt }))

update_and_later_addition : meeting (update n (values.Int (pos 9223372036854775807))) (add n 1) false ≡ both (update n (values.Int (negsuc 9223372036854775807))) (add n 1)
update_and_later_addition = ap (λ i. both (update n (values.Int i)) (add n 1)) wrapped

update_and_earlier_addition : meeting (update n (values.Int (pos 9223372036854775807))) (add n 1) true ≡ left_alone (update n (values.Int (pos 9223372036854775807)))
update_and_earlier_addition = refl

later_addition_and_null : meeting (add m 1) (update m values.Null) true ≡ both (add m 1) (update m values.Null)
later_addition_and_null = refl

addition_and_addition : meeting (add n 1) (add n 2) true ≡ both (add n 1) (add n 2)
addition_and_addition = refl

-- ---- lists
insertions_left_first : meeting (put 0 2 a) (put 1 2 b) true ≡ both (put 0 3 a) (put 2 3 b)
insertions_left_first = refl

insertions_right_first : meeting (put 2 2 a) (put 1 2 b) false ≡ both (put 3 3 a) (put 1 3 b)
insertions_right_first = refl

-- at one place the earlier keeps its place
insertions_at_one_place_left_later : meeting (put 1 2 a) (put 1 2 b) true ≡ both (put 2 3 a) (put 1 3 b)
insertions_at_one_place_left_later = refl

insertions_at_one_place_right_later : meeting (put 1 2 a) (put 1 2 b) false ≡ both (put 1 3 a) (put 2 3 b)
insertions_at_one_place_right_later = refl

insertion_before_erasure : meeting (put 1 2 a) (cut 1 2) true ≡ both (put 1 1 a) (cut 2 3)
insertion_before_erasure = refl

insertion_after_erasure : meeting (put 2 2 a) (cut 1 2) true ≡ both (put 1 1 a) (cut 1 3)
insertion_after_erasure = refl

erasure_and_insertion : meeting (cut 0 2) (put 1 2 a) true ≡ both (cut 0 3) (put 0 1 a)
erasure_and_insertion = refl

insertion_before_update : meeting (put 1 2 a) (set 1 2 b) false ≡ both (put 1 2 a) (set 2 3 b)
insertion_before_update = refl

insertion_after_update : meeting (put 1 2 a) (set 0 2 b) false ≡ both (put 1 2 a) (set 0 3 b)
insertion_after_update = refl

erasures_of_one_element : meeting (cut 1 2) (cut 1 2) true ≡ neither
erasures_of_one_element = refl

erasures_of_two_elements : meeting (cut 0 3) (cut 2 3) true ≡ both (cut 0 2) (cut 1 2)
erasures_of_two_elements = refl

erasure_of_an_updated_element : meeting (cut 1 2) (set 1 2 a) false ≡ left_alone (cut 1 2)
erasure_of_an_updated_element = refl

erasure_before_update : meeting (cut 0 2) (set 1 2 a) false ≡ both (cut 0 2) (set 0 1 a)
erasure_before_update = refl

erasure_after_update : meeting (cut 1 2) (set 0 2 a) false ≡ both (cut 1 2) (set 0 1 a)
erasure_after_update = refl

updates_of_one_element_left_later : meeting (set 1 2 a) (set 1 2 b) true ≡ left_alone (set 1 2 a)
updates_of_one_element_left_later = refl

updates_of_one_element_right_later : meeting (set 1 2 a) (set 1 2 b) false ≡ right_alone (set 1 2 b)
updates_of_one_element_right_later = refl

updates_of_two_elements : meeting (set 0 2 a) (set 1 2 b) true ≡ both (set 0 2 a) (set 1 2 b)
updates_of_two_elements = refl

-- ---- the ends of the range of sizes
insertions_into_the_longest_list : meeting (put 0 4294967295 a) (put 1 4294967295 b) true ≡ Err mismatches.Range
insertions_into_the_longest_list = refl

insertion_and_update_of_the_longest_list : meeting (put 0 4294967295 a) (set 1 4294967295 b) true ≡ Err mismatches.Range
insertion_and_update_of_the_longest_list = refl

erasures_of_the_longest_list : meeting (cut 0 4294967295) (cut 1 4294967295) true ≡ both (cut 0 4294967294) (cut 0 4294967294)
erasures_of_the_longest_list = refl

sizes_that_differ : meeting (put 0 2 a) (cut 0 3) true ≡ Err mismatches.SizesDiffer
sizes_that_differ = refl

-- ---- sets
insertion_and_erasure_of_one_value_left_later : meeting (member 5) (no_member 5) true ≡ left_alone (member 5)
insertion_and_erasure_of_one_value_left_later = refl

insertion_and_erasure_of_one_value_right_later : meeting (member 5) (no_member 5) false ≡ right_alone (no_member 5)
insertion_and_erasure_of_one_value_right_later = refl

insertions_of_one_value : meeting (member 5) (member 5) true ≡ both (member 5) (member 5)
insertions_of_one_value = refl

erasures_of_one_value : meeting (no_member 5) (no_member 5) true ≡ both (no_member 5) (no_member 5)
erasures_of_one_value = refl

insertion_and_erasure_of_two_values : meeting (member 5) (no_member 6) true ≡ both (member 5) (no_member 6)
insertion_and_erasure_of_two_values = refl

-- ---- dictionaries
updates_of_one_key_left_later : meeting (bind n 1) (unbind n) true ≡ left_alone (bind n 1)
updates_of_one_key_left_later = refl

updates_of_one_key_right_later : meeting (bind n 1) (unbind n) false ≡ right_alone (unbind n)
updates_of_one_key_right_later = refl

updates_of_two_keys : meeting (bind n 1) (unbind m) false ≡ both (bind n 1) (unbind m)
updates_of_two_keys = refl

-- ---- clearing
clear_and_clear : meeting (clear l) (clear l) true ≡ neither
clear_and_clear = refl

clear_and_insertion : meeting (clear l) (put 0 2 a) false ≡ left_alone (clear l)
clear_and_insertion = refl

clear_and_erasure : meeting (cut 0 2) (clear l) true ≡ right_alone (clear l)
clear_and_erasure = refl

clear_and_list_update : meeting (clear l) (set 0 2 a) false ≡ left_alone (clear l)
clear_and_list_update = refl

clear_and_set_insertion : meeting (clear u) (member 5) false ≡ left_alone (clear u)
clear_and_set_insertion = refl

clear_and_set_erasure : meeting (no_member 5) (clear u) true ≡ right_alone (clear u)
clear_and_set_erasure = refl

clear_and_dictionary_update : meeting (bind n 1) (clear d) true ≡ right_alone (clear d)
clear_and_dictionary_update = refl

-- ---- apart: both stay
updates_of_two_cells : meeting (update n (int 1)) (update m (int 2)) true ≡ both (update n (int 1)) (update m (int 2))
updates_of_two_cells = refl

table_and_its_column : meeting (new_table key_kinds.Int) (new_column n_column) true ≡ both (new_table key_kinds.Int) (new_column n_column)
table_and_its_column = refl

column_and_object : meeting (new_column n_column) (create 1) false ≡ both (new_column n_column) (create 1)
column_and_object = refl

update_and_insertion_of_one_cell : meeting (update l a) (put 0 2 b) true ≡ both (update l a) (put 0 2 b)
update_and_insertion_of_one_cell = refl
