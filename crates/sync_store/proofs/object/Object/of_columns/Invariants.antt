use Rattle.std.proofs.Common.{◌≡◌}
use Rattle.std.specs.FinMap as map
use Rattle.sync_data.specs.Orders.{name_cmp}
use Rattle.sync_base.specs.After.{default_of}
use Rattle.sync_base.specs.Maps.{map_with}
use Rattle.sync_maps.specs.Filled.{filled}
use Rattle.sync_store.proofs.object.Object.of_columns.Given as goal

-- what is made, with what is left, is all
abbrev pub invariant-loop-name : goal.invariant-loop-name
invariant-loop-name l = filled default_of l.object l.name-iterator ≡ map_with (λ c def. default_of def) (map.from_entries {R = name_cmp} l.columns.entries)
