use Rattle.std.proofs.Common.{arith}
use Rattle.sync_codec.specs.Lemmas.Answers.{is_found, is_only}
use Rattle.sync_codec.proofs.decoding.decode.Goals as goal

pub returns-clause-found : goal.returns-clause-found
returns-clause-found c = is_found c.args.ms c.args.bytes.now c.changeset_of.result (λ i. omega (arith, c.type_inv.bytes i)) c.changeset_of.ensures

pub returns-clause-only : goal.returns-clause-only
returns-clause-only c = is_only c.args.ms c.args.bytes.now c.changeset_of.result c.changeset_of.ensures
