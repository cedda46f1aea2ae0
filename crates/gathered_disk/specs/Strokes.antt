-- What was asked of a gathered disk.
use Rattle.std.specs.Prelude.{List, map}
use Rattle.sync_disk.specs.Strokes.{Act, Stroke, done}
use Rattle.sync_disk.specs.Strokes.Act.{Write as ask_write, Sync as ask_sync}
use Rattle.gathered_disk.specs.declared.asked.Asked.{Asked}
use Rattle.gathered_disk.specs.declared.asked.Asked.TheVariants.{Write, Sync}

abbrev pub act_of : Asked → Act
act_of (Write place bytes) = ask_write place bytes.items
act_of Sync = ask_sync

abbrev pub strokes_of : List Asked → List Stroke
strokes_of asked = map (λ (a : Asked). done (act_of a)) asked
