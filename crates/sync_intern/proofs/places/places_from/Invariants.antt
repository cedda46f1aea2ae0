use Rattle.std.proofs.Common.{map, take}
use Rattle.sync_intern.specs.Indexes.{Indexes}
use Rattle.sync_intern.proofs.places.places_from.Given as goal

abbrev pub invariant-loop-place : goal.invariant-loop-place
invariant-loop-place l = Indexes l.places (take l.place (map (λ s. s.now) l.texts))
