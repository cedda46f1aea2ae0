use Rattle.std.proofs.Common.{◌≡◌, ◌+◌, drop}
use Rattle.life_marks.specs.ServerMarks.{seen, no_marks}
use Rattle.life_marks.specs.Reading.{read_before, server_marks_in, server_piece_in}
use Rattle.life_marks.proofs.server_marks.ServerMarks.of.Given as goal

abbrev pub invariant-loop-place : goal.invariant-loop-place
invariant-loop-place l = record {
  so_far : server_marks_in (seen l.marks) (drop l.place l.pieces) ≡ server_marks_in no_marks l.pieces;
  unread : l.place + read_before server_piece_in (drop l.place l.pieces) ≡ read_before server_piece_in l.pieces;
}
