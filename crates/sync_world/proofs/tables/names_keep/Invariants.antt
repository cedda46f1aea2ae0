use Rattle.std.proofs.Common.{take, All}
use Rattle.subset_bytes.specs.Spelling.{IsTableName}
use Rattle.sync_world.proofs.tables.names_keep.Given as goal

abbrev pub invariant-loop-name : goal.invariant-loop-name
invariant-loop-name l = All IsTableName (take l.name-index l.names)
