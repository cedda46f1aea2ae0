use Rattle.std.proofs.Common.{◌≡◌, ◌++◌, map, drop}
use Rattle.sync_codec.specs.Spelling.{spelling}
use Rattle.sync_trim.proofs.bodies.bodies_of.Given as goal

-- the bytes so far, and those of the changesets that are left
abbrev pub invariant-loop-part : goal.invariant-loop-part
invariant-loop-part l = l.bodies.items ++ map (λ part. spelling part.instrs) (drop l.part-index l.parts) ≡ map (λ part. spelling part.instrs) l.parts
