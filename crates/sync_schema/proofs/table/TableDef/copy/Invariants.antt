use Rattle.std.proofs.Common.{◌≡◌}
use Rattle.std.specs.FinMap as map
use Rattle.sync_data.specs.Orders.{name_cmp}
use Rattle.sync_maps.specs.Filled.{filled}
use Rattle.sync_schema.proofs.table.TableDef.copy.Given as goal

-- what is copied, with what is left, is all
abbrev pub invariant-loop-name : goal.invariant-loop-name
invariant-loop-name l = filled (λ v. v) (map.from_entries {R = name_cmp} l.columns.entries) l.name-iterator ≡ map.from_entries l.self-inside.columns.entries
