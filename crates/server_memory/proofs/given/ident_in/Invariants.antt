use Rattle.std.proofs.Common.{◌≡◌, drop}
use Rattle.server_memory.proofs.Idents.{behind, place_in}
use Rattle.server_memory.proofs.given.ident_in.Given as goal

abbrev pub invariant-loop-place : goal.invariant-loop-place
invariant-loop-place l = place_in l.id l.idents ≡ behind l.place (place_in l.id (drop l.place l.idents))
