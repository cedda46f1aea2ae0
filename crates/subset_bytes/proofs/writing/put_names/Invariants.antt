use Rattle.std.proofs.Common.{◌≡◌, ◌++◌, length, take, All}
use Rattle.std.specs.List.{flat_map}
use Rattle.sync_io.specs.Formats.{body}
use Rattle.sync_io.specs.Varints.{varint}
use Rattle.subset_bytes.specs.Spelling.{IsTableName}
use Rattle.subset_bytes.proofs.writing.put_names.Given as goal

abbrev pub invariant-loop-name : goal.invariant-loop-name
invariant-loop-name l = record {
  spelled : l.out.items ≡ l.fn.out.items ++ (varint (length l.names) ++ flat_map body (take l.name-index l.names));
  are : All IsTableName (take l.name-index l.names);
}
