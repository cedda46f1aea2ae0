use Rattle.std.proofs.Common.{◌≡◌, ◌∷◌, ◌++◌}
use Rattle.json.specs.Token.{begin_array}
use Rattle.json.specs.Tree.{items_tokens}
use Rattle.serde_json.specs.Written.{items_outline}
use Rattle.sync_dump.specs.Dump.{items_of}
use Rattle.sync_dump.proofs.cells.put_set.Given as goal

-- the tokens so far, and those of the values that are left
abbrev pub invariant-loop-value : goal.invariant-loop-value
invariant-loop-value l =
    (l.writer.tokens ++ items_tokens (items_outline (items_of l.store l.value-iterator)) ≡ l.fn.writer.tokens ++ begin_array ∷ items_tokens (items_outline (items_of l.store l.values.keys)))
    × (l.writer.before ≡ l.fn.writer.before)
