use Rattle.std.proofs.Common.{arith, take, subst}
use Rattle.sync_rivals.specs.Marks.{AreUnmarked}
use Rattle.sync_rivals.proofs.Kept.{gone_more, gone_push}
use Rattle.sync_rivals.proofs.listing.Listing.unlist.Goals as goal

pub loop-instr-preserved : goal.loop-instr-preserved
loop-instr-preserved c = record {
  others = λ m other there. c.remove_all.ensures.others m other (c.loop-instr.invariant.others m other there);
  gone = gone_push c.remove_all.new.self c.args.number c.args.instrs.now c.loop-instr.instr-index c.instr-item.result (omega arith) c.instr-item.is
      (gone_more c.loop-instr.self c.remove_all.new.self c.args.number (take c.loop-instr.instr-index c.args.instrs.now) c.remove_all.ensures.none c.loop-instr.invariant.gone)
      (subst (AreUnmarked c.remove_all.new.self c.args.number) c.codes_of.ensures.listed c.remove_all.ensures.gone);
}
