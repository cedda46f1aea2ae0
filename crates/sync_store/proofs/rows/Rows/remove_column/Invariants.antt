use Rattle.std.proofs.Common.{◌≡◌}
use Rattle.sync_maps.specs.Filled.{filled}
use Rattle.sync_store.specs.Flat.{each_row, cut_cell}
use Rattle.sync_store.proofs.rows.Rows.remove_column.Given as goal

-- what is done, with what is left, is all
abbrev pub invariant-loop-key : goal.invariant-loop-key
invariant-loop-key l = filled (cut_cell l.column) l.self l.key-iterator ≡ each_row (cut_cell l.column) l.fn.self
