use Rattle.std.proofs.Common.{take}
use Rattle.sync_rivals.specs.Marks.{AreGone, KeepsOthers}
use Rattle.sync_rivals.proofs.listing.Listing.unlist.Given as goal

-- the instructions so far are gone
abbrev pub invariant-loop-instr : goal.invariant-loop-instr
invariant-loop-instr l = record {
  others : KeepsOthers l.number l.fn.self l.self;
  gone : AreGone l.self l.number (take l.instr-index l.instrs);
}
