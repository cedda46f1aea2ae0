-- What an instruction changes of a sketch.
use Rattle.sync_data.specs.declared.instr.AddColumn.{AddColumn}
use Rattle.sync_data.specs.declared.instr.AddTable.{AddTable}
use Rattle.sync_base.specs.Effects.{ObjectName, CellPath}
use Rattle.sync_app.specs.declared.sketch.Standing.{Standing}
use Rattle.sync_app.specs.declared.sketch.Length.{Length}

pub data Note : Type 0 where
  Nothing : Note
  Table : AddTable → Note
  Column : AddColumn → Note
  Object : ObjectName → Standing → Note
  List : CellPath → Length → Note
