use Rattle.std.proofs.Common.{All, ℕ, List, subst, rules, arith}
use Rattle.std.proofs.lemmas.Grind.{common_steps}
use Rattle.std.proofs.lemmas.List.{take_all}
use Rattle.std.proofs.lemmas.List.Elements.{All-more}
use Rattle.subset_bytes.specs.Spelling.{IsTableName}
use Rattle.subset_bytes.proofs.writing.put_names.Goals as goal

pub loop-name-preserved : goal.loop-name-preserved
loop-name-preserved c =
    let x = c.name-item.result in
    record {
      spelled = first_of (search rules, grind (arith, common_steps));
      are = All-more IsTableName c.args.names.now c.loop-name.name-index x c.loop-name-test.true c.loop-name.invariant.are (subst IsTableName c.name-item.is c.in_ok-put_name.ensures.is);
    }

pub returns-clause-are : goal.returns-clause-are
returns-clause-are c = subst (λ (xs : List (List ℕ)). All IsTableName xs) (take_all c.loop-name.name-index c.args.names.now (omega (arith, c.loop-name-test.false))) c.loop-name.invariant.are
