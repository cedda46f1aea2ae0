use Rattle.std.proofs.Common.{◌≡◌, ◌++◌, take, map}
use Rattle.std.specs.List.{flat_map}
use Rattle.sync_codec.specs.Spelling.{string_bytes}
use Rattle.sync_codec.proofs.encoding.put_strings.Given as goal

abbrev pub invariant-loop-text : goal.invariant-loop-text
invariant-loop-text l = l.out.items ≡ l.initial.out.items ++ flat_map string_bytes (map (λ s. s.now) (take l.text-index l.strings))
