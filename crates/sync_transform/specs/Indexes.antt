-- An index, where there is one, that knows of a list.
use Rattle.std.specs.Prelude.{List, Option, None, Some}
use Rattle.sync_data.specs.declared.instr.Instr.{Instr}
use Rattle.sync_index.specs.Touched.{Touched, Covers}

abbrev pub IsCovered : Option Touched → List Instr → Type 0
IsCovered None bs = Unit {0}
IsCovered (Some t) bs = Covers t bs
