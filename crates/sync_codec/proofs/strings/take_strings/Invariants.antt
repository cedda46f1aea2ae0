use Rattle.std.proofs.Common.{◌≡◌, ◌-◌, length}
use Rattle.sync_codec.specs.Decoding.{strings_in}
use Rattle.sync_codec.proofs.strings.take_strings.Given as goal

abbrev pub invariant-loop : goal.invariant-loop
invariant-loop l = (strings_in (l.count - l.counter) l.known l.rest ≡ strings_in l.count l.fn.known l.bytes) × (length l.known ≡ l.counter)
