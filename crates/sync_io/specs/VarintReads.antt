-- A reader's answer, seen by view, is what reading gives.
use Rattle.std.specs.Prelude.{◌≡◌, Result, Ok, Err}
use Rattle.sync_io.specs.declared.varint.VarintFault.{VarintFault}

abbrev pub Reads : {X Y : Type 0} → (X → Y) → Result X VarintFault → Result Y VarintFault → Type 0
Reads view (Ok x) read = read ≡ Ok (view x)
Reads view (Err fault) read = read ≡ Err fault
