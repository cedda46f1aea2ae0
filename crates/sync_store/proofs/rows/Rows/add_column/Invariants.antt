use Rattle.std.proofs.Common.{◌≡◌}
use Rattle.sync_maps.specs.Filled.{filled}
use Rattle.sync_store.specs.Flat.{each_row, with_cell}
use Rattle.sync_store.proofs.rows.Rows.add_column.Given as goal

-- what is done, with what is left, is all
abbrev pub invariant-loop-key : goal.invariant-loop-key
invariant-loop-key l = filled (with_cell l.column l.def) l.self l.key-iterator ≡ each_row (with_cell l.column l.def) l.fn.self
