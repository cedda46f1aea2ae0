use Rattle.std.proofs.Common.{◌≡◌, ◌++◌, drop}
use Rattle.sync_dump.specs.Tokens.{tokens_of_values}
use Rattle.sync_dump.proofs.cells.put_elements.Given as goal

-- the tokens so far, and those of the values that are left
abbrev pub invariant-loop-element : goal.invariant-loop-element
invariant-loop-element l =
    (l.writer.tokens ++ tokens_of_values l.store (drop l.element-index l.elements) ≡ l.fn.writer.tokens ++ tokens_of_values l.store l.elements)
    × (l.writer.before ≡ l.fn.writer.before)
