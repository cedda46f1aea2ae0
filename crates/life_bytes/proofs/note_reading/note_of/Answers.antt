use Rattle.std.proofs.Common.{subst, arith}
use Rattle.life_bytes.specs.Reading.{GivesNote}
use Rattle.life_bytes.proofs.Notes.{note_found, note_read, note_whole}
use Rattle.life_bytes.proofs.note_reading.note_of.Goals as goal

pub returns-clause-found : goal.returns-clause-found
returns-clause-found c = note_found c.args.bytes.now c.any_of.result (λ i. omega (arith, c.type_inv.bytes i)) c.any_of.ensures

pub returns-clause-only : goal.returns-clause-only
returns-clause-only c = λ note is e. subst (λ read. GivesNote c.any_of.result read) (note_read c.args.bytes.now note is e) c.any_of.ensures

pub returns-clause-is : goal.returns-clause-is
returns-clause-is c = note_whole c.args.bytes.now c.any_of.result (λ i. omega (arith, c.type_inv.bytes i)) c.any_of.ensures
