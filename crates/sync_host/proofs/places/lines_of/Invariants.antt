use Rattle.std.proofs.Common.{◌≡◌, take}
use Rattle.sync_host.specs.Places.{place_lines}
use Rattle.sync_host.proofs.places.lines_of.Given as goal

-- the lines of the places so far
abbrev pub invariant-loop-place : goal.invariant-loop-place
invariant-loop-place l = l.lines.items ≡ place_lines (take l.place-index l.places)
