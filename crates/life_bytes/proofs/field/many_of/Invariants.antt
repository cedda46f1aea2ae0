use Rattle.std.proofs.Common.{◌≡◌, ◌-◌, length}
use Rattle.sync_io.specs.Formats.{many_in}
use Rattle.sync_io.specs.FormatLaws.{with_front}
use Rattle.life_bytes.proofs.field.many_of.Given as goal

-- those that were read stand before those that are still read
abbrev pub invariant-loop : goal.invariant-loop
invariant-loop g l = record {
  so_far : with_front l.items.items (many_in g.T.Field.field_in (l.count - l.counter) l.rest) ≡ many_in g.T.Field.field_in l.count l.bytes;
  count : length l.items.items ≡ l.counter;
}
