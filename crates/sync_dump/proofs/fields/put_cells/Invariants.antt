use Rattle.std.proofs.Common.{◌≡◌, ◌∷◌, ◌++◌, length}
use Rattle.std.specs.Option.{option_copied}
use Rattle.json.specs.Token.{begin_object}
use Rattle.json.specs.Tree.{members_tokens}
use Rattle.serde_json.specs.Written.{members_outline}
use Rattle.sync_data.specs.Orders.{name_cmp}
use Rattle.sync_dump.specs.Dump.{cells_of}
use Rattle.sync_dump.specs.Walks.{columns_in}
use Rattle.sync_dump.proofs.Walk.{from, IsAt}
use Rattle.sync_dump.proofs.fields.put_cells.Given as goal

-- the tokens so far, and those of the columns that are left
abbrev pub invariant-loop-column : goal.invariant-loop-column
invariant-loop-column l =
    IsAt name_cmp (option_copied l.column) (columns_in l.store.tables l.table)
    × (l.writer.tokens ++ members_tokens (members_outline (cells_of l.store (l.table, l.key) (from name_cmp (option_copied l.column) (columns_in l.store.tables l.table)))) ≡ l.fn.writer.tokens ++ begin_object ∷ members_tokens (members_outline (cells_of l.store (l.table, l.key) (columns_in l.store.tables l.table))))
    × (l.writer.before ≡ l.fn.writer.before)

abbrev pub decreases-loop-column : goal.decreases-loop-column
decreases-loop-column l = length (from name_cmp (option_copied l.column) (columns_in l.store.tables l.table))
