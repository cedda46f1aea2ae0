-- The strokes of a disk as bytes, in order.
use Rattle.std.specs.Prelude.{ℕ, List, [], ◌∷◌, ◌++◌, length}
use Rattle.std.specs.Int.{w64, to_le_bytes}
use Rattle.std.specs.List.{flat_map}
use Rattle.sync_disk.specs.Strokes.{Act, Stroke}
use Rattle.sync_disk.specs.Strokes.Act.{Write, Sync}

-- a write: a byte, the place, how many bytes, and the bytes; a sync: a byte
abbrev pub act_bytes : Act → List ℕ
act_bytes (Write place bytes) = 0x57 ∷ (to_le_bytes w64 place ++ (to_le_bytes w64 (length bytes) ++ bytes))
act_bytes Sync = 0x53 ∷ []

-- what was asked, one stroke after the other
abbrev pub outbox_bytes : List Stroke → List ℕ
outbox_bytes strokes = flat_map (λ (s : Stroke). act_bytes s.act) strokes
