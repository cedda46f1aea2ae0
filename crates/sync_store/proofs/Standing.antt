-- In a state, an object has the cells of its table's columns.
use Rattle.std.specs.Prelude.{◌≡◌, ℕ, true, List, Option, Some, is_some}
use Rattle.std.specs.Option.{option_and_then}
use Rattle.std.specs.FinMap as map
use Rattle.std.proofs.Common.{sym, ◌∙◌, ap}
use Rattle.sync_data.specs.declared.column.Column.{Column}
use Rattle.sync_base.specs.Effects.{ObjectName}
use Rattle.sync_base.specs.States.{State, IsState, Cells, column_in}

pub has_cell : {s : State} → IsState s → (o : ObjectName) (c : List ℕ) {cells : Cells} {col : Column}
    → map.get s.objects o ≡ Some cells → column_in s.tables o.0 c ≡ Some col → is_some (map.get cells c) ≡ true
has_cell ok o c object there =
    sym (ap (λ (x : Option Cells). is_some (option_and_then (λ held. map.get held c) x)) object)
    ∙ ok.filled o c (ap is_some object) ∙ ap is_some there
