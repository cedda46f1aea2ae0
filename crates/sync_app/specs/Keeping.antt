-- How a transaction is kept.
use Rattle.std.specs.Prelude.{◌≡◌, ℕ, List, length}
use Rattle.sync_data.specs.declared.instr.Instr.{Instr}
use Rattle.sync_data.specs.Payload.{payload_all}
use Rattle.sync_store.specs.Applying.{after_all}
use Rattle.sync_app.specs.declared.sketch.Sketch.{Sketch}
use Rattle.sync_app.specs.Drafts.{IsDraft}
use Rattle.sync_app.specs.Sketches.{IsSketchOf, base_of}

pub record Keeps (k : Sketch) (is : List Instr) (payload : ℕ) : Type 0 where
  pub draft : IsDraft (record { base = base_of k; instrs = is })
  pub sketch : IsSketchOf k (after_all is (base_of k)) (length is)
  pub payload_is : payload ≡ payload_all is
