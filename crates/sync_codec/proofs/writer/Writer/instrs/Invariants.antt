use Rattle.std.proofs.Common.{◌≡◌, take, All}
use Rattle.std.specs.List.{flat_map}
use Rattle.sync_codec.specs.Spelling.{instr_fields}
use Rattle.sync_codec.specs.Writing.{with_fields}
use Rattle.sync_codec.specs.Valid.{IsInstr}
use Rattle.sync_codec.proofs.writer.Writer.instrs.Given as goal

abbrev pub invariant-loop-instr : goal.invariant-loop-instr
invariant-loop-instr l = record {
  spelled : l.self ≡ with_fields l.initial.self (flat_map instr_fields (take l.instr-index l.instrs));
  are : All IsInstr (take l.instr-index l.instrs);
}
