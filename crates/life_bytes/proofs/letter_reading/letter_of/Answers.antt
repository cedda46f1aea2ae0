use Rattle.std.proofs.Common.{subst, arith}
use Rattle.sync_messages.specs.Reading.{Gives}
use Rattle.life_bytes.proofs.Letters.{letter_found, letter_read, letter_whole}
use Rattle.life_bytes.proofs.letter_reading.letter_of.Goals as goal

pub returns-clause-found : goal.returns-clause-found
returns-clause-found c = letter_found c.args.bytes.now c.all_of.result (λ i. omega (arith, c.type_inv.bytes i)) c.all_of.ensures

pub returns-clause-only : goal.returns-clause-only
returns-clause-only c = λ letter is e. subst (λ read. Gives (λ x. x) c.all_of.result read) (letter_read c.args.bytes.now letter is e) c.all_of.ensures

pub returns-clause-is : goal.returns-clause-is
returns-clause-is c = letter_whole c.args.bytes.now c.all_of.result (λ i. omega (arith, c.type_inv.bytes i)) c.all_of.ensures
