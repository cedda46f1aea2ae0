use Rattle.std.proofs.Common.{◌<◌, ◌-◌, Bool, ℕ, List, length, map}
use Rattle.std.specs.Prelude.{All}
use Rattle.byte_lists.specs.Parts.{part, IsWithin}
use Rattle.sync_journal.proofs.Reading.{ReadSoFar}
use Rattle.sync_journal.proofs.opening.record_parts.Given as goal

abbrev pub invariant-loop-place : goal.invariant-loop-place
invariant-loop-place l = record {
  so_far : ReadSoFar l.notes (map (part l.bytes) l.parts.items) l.place l.bytes;
  either : (others : Bool) → (all : List (List ℕ)) × ReadSoFar others all l.place l.bytes;
  inside : l.place < length l.bytes;
  within : All (IsWithin (length l.bytes)) l.parts.items;
}

abbrev pub decreases-loop-place : goal.decreases-loop-place
decreases-loop-place l = length l.bytes - l.place
