use Rattle.std.proofs.Common.{◌≡◌, ◌≤◌, ◌*◌, take}
use Rattle.life_bytes.specs.Runs.{most_numbers, count_of}
use Rattle.life_bytes.proofs.runs.count_of.Given as goal

abbrev pub invariant-loop-run : goal.invariant-loop-run
invariant-loop-run l = record {
  sum : l.count ≡ count_of (take l.run-index l.runs);
  small : l.count ≤ most_numbers * l.run-index;
}
