-- The edits of a generated exchange: all are in one table `t`, whose keys are integers.
use Rattle.std.specs.Prelude.{ℕ, pos, ◌+◌, ◌^◌, ◌==◌, ◌&&◌, if◌then◌else◌, nat_lt, nat_le, List, length, codes, Option, Some, None, decimal}
use Rattle.std.specs.Option.{option_and_then}
use Rattle.sync_data.specs.declared.key.Key.{Key}
use Rattle.sync_data.specs.declared.key.Key.TheVariants as keys
use Rattle.sync_data.specs.declared.value.Value.{Value}
use Rattle.sync_data.specs.declared.value.Value.TheVariants as values
use Rattle.sync_data.specs.declared.instr.CellName.{CellName}
use Rattle.sync_data.specs.declared.instr.Instr.{Instr}
use Rattle.sync_data.specs.declared.instr.Instr.TheVariants as instrs
use Rattle.sync_base.specs.States.{State, Cell, Many, cell_at}
use Rattle.sync_gen.specs.Draws.{Drawing, draw, given, and_then}

-- ---- objects, cells and values, by the number of the key
abbrev pub table : List ℕ
table = codes "t"

abbrev pub key_of : ℕ → Key
key_of n = keys.Int (pos n)

abbrev pub cell : ℕ → List ℕ → CellName
cell key column = record { table = table; key = key_of key; column = column }

abbrev pub integer : ℕ → Value
integer n = values.Int (pos n)

abbrev pub text_of : ℕ → Value
text_of n = values.Text (decimal n)

abbrev pub link_to : ℕ → Value
link_to n = values.Link table (key_of n)

-- ---- the instructions, by the number of the key, and those of lists by the length as well
abbrev pub create_object : ℕ → Instr
create_object key = instrs.CreateObject (record { table = table; key = key_of key })

abbrev pub erase_object : ℕ → Instr
erase_object key = instrs.EraseObject (record { table = table; key = key_of key })

abbrev pub update : ℕ → List ℕ → Value → Instr
update key column value = instrs.Update (record { cell = cell key column; value = value })

abbrev pub add_integer : ℕ → ℕ → Instr
add_integer key n = instrs.AddInteger (record { cell = cell key (codes "n"); amount = pos n })

abbrev pub list_insert : ℕ → ℕ → ℕ → ℕ → Instr
list_insert key length place n = instrs.ListInsert (record { cell = cell key (codes "l"); spot = record { place = place; prior = length }; value = text_of n })

abbrev pub list_erase : ℕ → ℕ → ℕ → Instr
list_erase key length place = instrs.ListErase (record { cell = cell key (codes "l"); spot = record { place = place; prior = length } })

abbrev pub list_update : ℕ → ℕ → ℕ → ℕ → Instr
list_update key length place n = instrs.ListUpdate (record { cell = cell key (codes "l"); spot = record { place = place; prior = length }; value = text_of n })

abbrev pub set_insert : ℕ → ℕ → Instr
set_insert key n = instrs.SetInsert (record { cell = cell key (codes "u"); value = integer n })

abbrev pub set_erase : ℕ → ℕ → Instr
set_erase key n = instrs.SetErase (record { cell = cell key (codes "u"); value = integer n })

-- ---- what is drawn for each
abbrev pub number_updated : ℕ → Drawing Instr
number_updated key = and_then (draw 1000) (λ n. given (update key (codes "n") (integer n)))

abbrev pub number_raised : ℕ → Drawing Instr
number_raised key = and_then (draw 1000) (λ n. given (add_integer key n))

abbrev pub text_updated : ℕ → Drawing Instr
text_updated key = and_then (draw 1000) (λ n. given (update key (codes "s") (text_of n)))

abbrev pub element_inserted : ℕ → ℕ → Drawing Instr
element_inserted key length = and_then (draw (length + 1)) (λ place. and_then (draw 1000) (λ n. given (list_insert key length place n)))

abbrev pub element_erased : ℕ → ℕ → Drawing Instr
element_erased key length = and_then (draw length) (λ place. given (list_erase key length place))

abbrev pub element_updated : ℕ → ℕ → Drawing Instr
element_updated key length = and_then (draw length) (λ place. and_then (draw 1000) (λ n. given (list_update key length place n)))

abbrev pub member_inserted : ℕ → Drawing Instr
member_inserted key = and_then (draw 20) (λ n. given (set_insert key n))

abbrev pub member_erased : ℕ → Drawing Instr
member_erased key = and_then (draw 20) (λ n. given (set_erase key n))

abbrev pub link_updated : ℕ → Drawing Instr
link_updated key = and_then (draw 16) (λ n. given (update key (codes "k") (link_to n)))

-- one in four erases the object
abbrev pub erased_or_linked : ℕ → Drawing Instr
erased_or_linked key = and_then (draw 4) (λ chance. if chance == 0 then given (erase_object key) else link_updated key)

-- ---- the table of edits, by o
-- an empty list has no element to erase or to update, and gets the text `0`
abbrev pub edit_by : ℕ → ℕ → ℕ → Drawing Instr
edit_by key length o =
    if o == 0 then number_updated key
    else if o == 1 then number_raised key
    else if o == 2 then text_updated key
    else if nat_le o 4 then element_inserted key length
    else if nat_le o 6 && length == 0 then given (list_insert key 0 0 0)
    else if o == 5 then element_erased key length
    else if o == 6 then element_updated key length
    else if o == 7 then member_inserted key
    else if o == 8 then member_erased key
    else erased_or_linked key

-- the length of a cell that is a list of fewer than 2^31 elements
abbrev pub short_length : Cell → Option ℕ
short_length (Many items) = if nat_lt (length items) (2 ^ 31) then Some (length items) else None
short_length other = None

-- that of the cell `l`, which an absent object doesn't have
abbrev pub length_in : State → ℕ → Option ℕ
length_in s key = option_and_then short_length (cell_at s (table, key_of key) (codes "l"))

-- where there is no such list, the object is created
abbrev pub edit_at : ℕ → Option ℕ → Drawing Instr
edit_at key None = given (create_object key)
edit_at key (Some length) = and_then (draw 10) (edit_by key length)

abbrev pub edit_of : State → Drawing Instr
edit_of s = and_then (draw 16) (λ key. edit_at key (length_in s key))
