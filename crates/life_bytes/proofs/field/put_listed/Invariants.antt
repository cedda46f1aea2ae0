use Rattle.std.proofs.Common.{◌≡◌, ◌++◌, length, take, All}
use Rattle.std.specs.List.{flat_map}
use Rattle.sync_io.specs.Varints.{varint}
use Rattle.life_bytes.proofs.field.put_listed.Given as goal

abbrev pub invariant-loop-item : goal.invariant-loop-item
invariant-loop-item g l = record {
  spelled : l.out.items ≡ l.fn.out.items ++ (varint (length l.items) ++ flat_map g.T.Field.spelling (take l.item-index l.items));
  are : All g.T.Field.IsWhole (take l.item-index l.items);
}
