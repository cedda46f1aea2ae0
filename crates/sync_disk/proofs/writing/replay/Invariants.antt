use Rattle.std.proofs.Common.{◌≡◌, ◌≤◌, take, vec_capacity}
use Rattle.sync_disk.specs.Images.{content_after}
use Rattle.sync_disk.specs.Memory.{strokes_of}
use Rattle.sync_disk.proofs.writing.replay.Given as goal

abbrev pub invariant-loop-stroke : goal.invariant-loop-stroke
invariant-loop-stroke l = record {
  content : l.content.items ≡ content_after l.initial.content.items (strokes_of (take l.stroke-index l.strokes));
  room : vec_capacity l.initial.content ≤ vec_capacity l.content;
}
