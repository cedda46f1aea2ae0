use Rattle.std.proofs.Common.{◌≡◌, take}
use Rattle.sync_data.specs.Payload.{capped, payload_all}
use Rattle.sync_data.proofs.changeset.Changeset.checked.Given as goal

abbrev pub invariant-loop-instr : goal.invariant-loop-instr
invariant-loop-instr l = l.payload ≡ capped (payload_all (take l.instr-index l.instr-items))
