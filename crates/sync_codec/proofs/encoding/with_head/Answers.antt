use Rattle.std.proofs.Common.{subst}
use Rattle.std.specs.List.{AllByRecursion, flat_map}
use Rattle.sync_codec.specs.Spelling.{instr_fields}
use Rattle.sync_codec.specs.Valid.{IsString}
use Rattle.sync_codec.proofs.Written.{assembled, spelled_out}
use Rattle.sync_codec.proofs.encoding.with_head.Goals as goal

pub returns-clause-spelled : goal.returns-clause-spelled
returns-clause-spelled c = assembled c.args.instrs.now c.args.body.now _ _ _ _ _ _ _ _ c.with_room-out.ensures c.version_of.ensures c.in_ok-put_bytes.ensures c.strings.ensures.used c.in_ok-put_table.ensures c.in_ok-put_number.ensures c.bytes-2.ensures c.in_ok-put_bytes-2.ensures c.requires

pub returns-clause-strings : goal.returns-clause-strings
returns-clause-strings c = subst (AllByRecursion IsString) (spelled_out (flat_map instr_fields c.args.instrs.now) c.args.body.now c.requires).0 c.strings.ensures.are
