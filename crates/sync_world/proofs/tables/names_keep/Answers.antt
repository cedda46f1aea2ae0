use Rattle.std.proofs.Common.{All, ℕ, List, subst, arith}
use Rattle.std.proofs.lemmas.List.{take_all}
use Rattle.std.proofs.lemmas.List.Elements.{All-more}
use Rattle.subset_bytes.specs.Spelling.{IsTableName}
use Rattle.sync_world.proofs.tables.names_keep.Goals as goal

pub loop-name-preserved : goal.loop-name-preserved
loop-name-preserved c = All-more IsTableName c.args.names.now c.loop-name.name-index c.name-item.result c.loop-name-test.true c.loop-name.invariant (subst IsTableName c.name-item.is c.name_keeps.ensures)

pub returns : goal.returns
returns c = subst (λ (xs : List (List ℕ)). All IsTableName xs) (take_all c.loop-name.name-index c.args.names.now (omega (arith, c.loop-name-test.false))) c.loop-name.invariant
