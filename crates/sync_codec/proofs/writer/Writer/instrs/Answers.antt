use Rattle.std.proofs.Common.{subst, rules, arith}
use Rattle.std.proofs.lemmas.Grind.{common_steps}
use Rattle.std.proofs.lemmas.List.Elements.{All-more}
use Rattle.sync_codec.specs.Valid.{IsInstr}
use Rattle.sync_codec.proofs.writer.Writer.instrs.Goals as goal

pub loop-instr-preserved : goal.loop-instr-preserved
loop-instr-preserved c =
    let x = c.instr-item.result in
    record {
      spelled = first_of (search rules, grind (arith, common_steps));
      are = All-more IsInstr c.args.instrs.now c.loop-instr.instr-index x c.loop-instr-test.true c.loop-instr.invariant.are (subst IsInstr c.instr-item.is c.in_ok-instr.ensures.is);
    }
