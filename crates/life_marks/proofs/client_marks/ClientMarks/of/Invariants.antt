use Rattle.std.proofs.Common.{◌≡◌, ◌+◌, drop}
use Rattle.life_marks.specs.ClientMarks.{seen, no_marks}
use Rattle.life_marks.specs.Reading.{read_before, client_marks_in, client_piece_in}
use Rattle.life_marks.proofs.client_marks.ClientMarks.of.Given as goal

abbrev pub invariant-loop-place : goal.invariant-loop-place
invariant-loop-place l = record {
  so_far : client_marks_in (seen l.marks) (drop l.place l.pieces) ≡ client_marks_in no_marks l.pieces;
  unread : l.place + read_before client_piece_in (drop l.place l.pieces) ≡ read_before client_piece_in l.pieces;
}
