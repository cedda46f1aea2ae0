use Rattle.std.proofs.Common.{◌≡◌, ◌++◌, take}
use Rattle.sync_words.specs.Words.{numbers_text}
use Rattle.sync_words.proofs.text.put_numbers.Given as goal

abbrev pub invariant-loop-number : goal.invariant-loop-number
invariant-loop-number l = l.out.items ≡ l.initial.out.items ++ numbers_text (take l.number-index l.numbers)
