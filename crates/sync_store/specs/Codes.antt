-- Objects and states as data.
use Rattle.std.specs.Prelude.{refl}
use Rattle.std.specs.Coded.{Coded, code_by, coded×}
use Rattle.std.specs.FinMap as map
use Rattle.sync_data.specs.Orders.{key_cmp}
use Rattle.sync_base.specs.States.{State, Tables, Cells, object_cmp}
use Rattle.sync_schema.specs.Codes.{coded_tables}
use Rattle.sync_cells.specs.Codes.{coded_bytes, coded_key, coded_cell}

abbrev pub coded_cells : Coded Cells
coded_cells = map.code coded_bytes coded_cell

abbrev pub coded_rows : Coded (map.FinMap key_cmp Cells)
coded_rows = map.code coded_key coded_cells

abbrev pub coded_objects : Coded (map.FinMap object_cmp Cells)
coded_objects = map.code (coded× coded_bytes coded_key) coded_cells

abbrev pub coded_state : Coded State
coded_state = code_by (Tables × map.FinMap object_cmp Cells) (coded× coded_tables coded_objects) (λ s. (s.tables, s.objects)) (λ p. record { tables = p.0; objects = p.1 }) (λ _. refl)
