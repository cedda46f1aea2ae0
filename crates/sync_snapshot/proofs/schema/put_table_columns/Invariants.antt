use Rattle.std.proofs.Common.{◌≡◌, [], ◌∷◌, ◌++◌, length}
use Rattle.std.specs.Prelude.{flat_map}
use Rattle.std.specs.Option.{option_copied}
use Rattle.sync_data.specs.Orders.{name_cmp}
use Rattle.sync_base.specs.Effects.{NewColumn, instr_of}
use Rattle.store_walks.specs.Along.{columns_in}
use Rattle.store_walks.specs.Walk.{from, IsAt}
use Rattle.sync_snapshot.proofs.schema.put_table_columns.Given as goal

-- the instructions so far, and those of the columns that are left
abbrev pub invariant-loop-column : goal.invariant-loop-column
invariant-loop-column l =
    IsAt name_cmp (option_copied l.column) (columns_in l.objects.tables l.table)
    × (l.list.items ++ flat_map (λ e. instr_of (NewColumn l.table e.0 e.1) ∷ []) (from name_cmp (option_copied l.column) (columns_in l.objects.tables l.table)) ≡ l.fn.list.items ++ flat_map (λ e. instr_of (NewColumn l.table e.0 e.1) ∷ []) (columns_in l.objects.tables l.table))

abbrev pub decreases-loop-column : goal.decreases-loop-column
decreases-loop-column l = length (from name_cmp (option_copied l.column) (columns_in l.objects.tables l.table))
