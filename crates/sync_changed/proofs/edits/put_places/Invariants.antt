use Rattle.std.proofs.Common.{◌≡◌, ◌++◌, take}
use Rattle.sync_changed.specs.Places.{places_in}
use Rattle.sync_changed.proofs.edits.put_places.Given as goal

-- the places of the instructions so far
abbrev pub invariant-loop-instr : goal.invariant-loop-instr
invariant-loop-instr l = l.places.items ≡ l.fn.places.items ++ places_in l.exact (take l.instr-index l.edits)
