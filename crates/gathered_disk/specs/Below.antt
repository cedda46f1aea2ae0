-- What a gathered disk holds.
use Rattle.std.specs.Prelude.{ℕ, Bool, List, Option}
use Rattle.sync_disk.specs.declared.disk.Disk.{Ghosts}
use Rattle.sync_disk.specs.Strokes.{Stroke}
use Rattle.gathered_disk.specs.declared.gathered.GatheredDisk.{GatheredDisk}
use Rattle.gathered_disk.specs.Gathered.{shown}
use Rattle.gathered_disk.specs.Strokes.{strokes_of}

module _ {D : Type 0} {G : Ghosts D} where
  -- the disk below
  abbrev pub below : GatheredDisk D G → D
  below g = g.disk

  -- the place behind which it gathers
  abbrev pub gate_of : GatheredDisk D G → ℕ
  gate_of g = g.gate

  -- it takes no strokes
  abbrev pub is_closed : GatheredDisk D G → Bool
  is_closed g = g.closed

  -- what was asked of it since the last landing
  abbrev pub pending : GatheredDisk D G → List Stroke
  pending g = strokes_of g.asked.items

  -- what it shows
  abbrev pub told_by : GatheredDisk D G → Option (List ℕ)
  told_by g = shown g.closed (G.content g.disk) (strokes_of g.asked.items)
