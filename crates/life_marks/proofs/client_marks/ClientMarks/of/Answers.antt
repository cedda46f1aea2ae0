use Rattle.std.proofs.Common.{◌<◌, length, subst, arith}
use Rattle.std.proofs.lemmas.Grind.{common_steps}
use Rattle.life_marks.specs.Reading.{PieceFails, client_piece_in}
use Rattle.life_marks.proofs.Unread.{read_here, unread_here}
use Rattle.life_marks.proofs.client_marks.ClientMarks.of.Goals as goal

pub loop-place-preserved : goal.loop-place-preserved
loop-place-preserved c =
    let within : c.loop-place.place < length c.args.pieces.now = omega (arith, c.loop-place-test.true, c.len-place-end.ensures) in
    record {
      so_far = grind (arith, common_steps);
      unread = omega (arith, c.loop-place.invariant.unread, read_here client_piece_in c.args.pieces.now c.loop-place.place c.at.result.now c.in-Ok.piece within c.at.ensures c.in-Ok.ensures);
    }

pub returns-in-Err-BadPiece-clause-bad : goal.returns-in-Err-BadPiece-clause-bad
returns-in-Err-BadPiece-clause-bad c =
    let within : c.loop-place.place < length c.args.pieces.now = omega (arith, c.loop-place-test.true, c.len-place-end.ensures) in
    let none = subst (λ why. PieceFails why (client_piece_in c.at.result.now)) c.in-Err-BadPiece.field-0-is c.in-Err-BadPiece.ensures in
    (within, omega (arith, c.loop-place.invariant.unread, unread_here client_piece_in c.args.pieces.now c.loop-place.place c.at.result.now within c.at.ensures none))
