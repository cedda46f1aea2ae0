use Rattle.std.proofs.Common.{◌≡◌, ◌-◌, length}
use Rattle.sync_io.specs.Formats.{many_in}
use Rattle.sync_io.specs.FormatLaws.{with_front}
use Rattle.subset_bytes.specs.Reading.{name_in}
use Rattle.subset_bytes.proofs.reading.names_of.Given as goal

-- those that were read stand before those that are still read
abbrev pub invariant-loop : goal.invariant-loop
invariant-loop l = record {
  so_far : with_front l.names.items (many_in name_in (l.count - l.counter) l.rest) ≡ many_in name_in l.count l.bytes;
  count : length l.names.items ≡ l.counter;
}
