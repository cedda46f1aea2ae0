use Rattle.std.proofs.Common.{subst, rules, arith}
use Rattle.std.proofs.lemmas.Grind.{common_steps}
use Rattle.std.proofs.lemmas.List.Elements.{All-more}
use Rattle.life_bytes.proofs.field.put_listed.Goals as goal

pub loop-item-preserved : goal.loop-item-preserved
loop-item-preserved g c =
    let x = c.item-item.result in
    record {
      spelled = first_of (search rules, grind (arith, common_steps));
      are = All-more g.T.Field.IsWhole c.args.items.now c.loop-item.item-index x c.loop-item-test.true c.loop-item.invariant.are (subst g.T.Field.IsWhole c.item-item.is c.in_ok-put.ensures.is);
    }
